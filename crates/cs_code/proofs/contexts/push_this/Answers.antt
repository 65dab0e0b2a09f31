use Rattle.std.proofs.Common.{◌≡◌, ℕ, refl, sym, subst, true, nat_lt, arith}
use Rattle.cs_model.specs.Ref as ref
use Rattle.cs_model.specs.Read.{active_birth, depth_of, size_of}
use Rattle.cs_acts.specs.Made.{MakesAtMost}
use Rattle.cs_acts.proofs.Leading.{made-trans}
use Rattle.cs_code.proofs.Looking.{pushed-given, refused, this-as, this-looks}
use Rattle.cs_code.proofs.contexts.push_this.Goals as goal

pub returns-in-Ok-clause-gives : goal.returns-in-Ok-clause-gives
returns-in-Ok-clause-gives g c = λ _.
    let k = g.W.World.view c.args.w.now in
    let room : nat_lt (depth_of k) (size_of k) ≡ true = grind (arith) in
    pushed-given (g.W.World.stored c.args.w.now) (g.W.World.stored c.this_context.new.self) (g.W.World.stored c.push.new.self) (g.W.World.layout c.args.w.now) (g.W.World.layout c.this_context.new.self) k (g.W.World.view c.this_context.new.self) (g.W.World.view c.push.new.self) _
    c.in-Ok.context (ref.Obj (active_birth k)) (this-as k room) c.in-Ok.ensures.view c.in-Ok.ensures.layout c.in-Ok.ensures.value.is c.in-Ok.ensures.sound.closed c.push.ensures.state c.push.ensures.exact c.in-Ok.ensures.names c.push.ensures.ready c.push.ensures.names

pub returns-in-Err-clause-full : goal.returns-in-Err-clause-full
returns-in-Err-clause-full g c why is =
    let k = g.W.World.view c.args.w.now in
    let room : nat_lt (depth_of k) (size_of k) ≡ true = grind (arith) in
    refused (g.W.World.stored c.this_context.new.self) (g.W.World.layout c.args.w.now) k k _ (ref.Obj (active_birth k)) c.in-Err.why why is c.in-Err.ensures.heap_alone c.requires.running (this-as k room) refl c.in-Err.ensures.full

pub returns-in-Ok-clause-contexts : goal.returns-in-Ok-clause-contexts
returns-in-Ok-clause-contexts g c = λ _.
    let k = g.W.World.view c.args.w.now in
    let room : nat_lt (depth_of k) (size_of k) ≡ true = grind (arith) in
    let l = g.W.World.layout c.args.w.now in
    let s = g.W.World.stored c.args.w.now in
    subst (λ (n : ℕ). MakesAtMost n l s (g.W.World.stored c.push.new.self)) (sym (this-looks k room))
    (made-trans l (g.W.World.layout c.this_context.new.self) s (g.W.World.stored c.this_context.new.self) (g.W.World.stored c.push.new.self) 1 0 c.in-Ok.ensures.layout c.in-Ok.ensures.contexts c.push.ensures.contexts)
