use Rattle.std.proofs.Common.{Bool, sym, subst}
use Rattle.cs_model.specs.Exec.{refuse_store}
use Rattle.cs_acts.specs.Names.{name_of}
use Rattle.cs_code.specs.Bare.{bare_of}
use Rattle.cs_code.specs.Gives.{Gives}
use Rattle.cs_code.proofs.Refusing.{refused-behind}
use Rattle.cs_code.proofs.stores.refuse_slot.Goals as goal
use Rattle.cs_code.proofs.stores.refuse_slot.Goals.{then-on_stack, else-on_stack}

pub returns-clause-gives : goal.returns-clause-gives
returns-clause-gives g c =
    let k = g.W.World.view c.args.w.now in
    let s0 = g.W.World.stored c.args.w.now in
    let s2 = g.W.World.stored c.refuse_store.new.w in
    let l = g.W.World.layout c.args.w.now in
    let v2 = g.W.World.view c.refuse_store.new.w in
    let e = c.refuse_store.result in
    let given = c.refuse_store.ensures.gives in
    elim c.if-on_stack.branch [
      | then-on_stack w ↦
          subst (λ (b : Bool). Gives s0 s2 l v2 e (refuse_store (bare_of b k) (name_of s0 c.args.target) c.args.i (name_of s0 c.args.x))) (sym w.if-on_stack.true)
          (refused-behind s0 (g.W.World.stored w.pop.new.self) s2 l (g.W.World.layout w.pop.new.self) k (g.W.World.view w.pop.new.self) v2 e c.args.target c.args.x c.args.i c.requires.object c.requires.named
          w.pop.ensures.ready (w.pop.ensures.state k c.requires.ready.sound.closed) w.pop.ensures.exact w.pop.ensures.layout w.pop.ensures.names
          (subst (λ u. Gives (g.W.World.stored u) s2 (g.W.World.layout u) v2 e (refuse_store (g.W.World.view u) (name_of (g.W.World.stored u) c.args.target) c.args.i (name_of (g.W.World.stored u) c.args.x))) w.w-is given))
      | else-on_stack w ↦
          subst (λ (b : Bool). Gives s0 s2 l v2 e (refuse_store (bare_of b k) (name_of s0 c.args.target) c.args.i (name_of s0 c.args.x))) (sym w.if-on_stack.false)
          (subst (λ u. Gives (g.W.World.stored u) s2 (g.W.World.layout u) v2 e (refuse_store (g.W.World.view u) (name_of (g.W.World.stored u) c.args.target) c.args.i (name_of (g.W.World.stored u) c.args.x))) w.w-is given)
    ]
