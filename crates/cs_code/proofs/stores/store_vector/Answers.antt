use Rattle.std.proofs.Common.{sym, subst, ap, ◌∙◌}
use Rattle.std.specs.Prelude.{slice_get}
use Rattle.cs_model.specs.Read.{stack_of}
use Rattle.cs_acts.specs.Names.{name_of}
use Rattle.cs_code.specs.Bare.{bare_of}
use Rattle.cs_code.specs.Gives.{Gives}
use Rattle.cs_code.proofs.Fields.{vector-stored}
use Rattle.cs_code.proofs.stores.store_vector.Goals as goal

pub returns-clause-gives : goal.returns-clause-gives
returns-clause-gives g c =
    let k = g.W.World.view c.args.w.now in
    let s = g.W.World.stored c.args.w.now in
    subst (λ o. Gives s (g.W.World.stored c.store_slot.new.w) (g.W.World.layout c.args.w.now) (g.W.World.view c.store_slot.new.w) c.store_slot.result o)
    (sym (vector-stored k (bare_of c.args.on_stack k) c.args.k c.args.j (name_of s c.args.x) (name_of s c.in-Some.vector)
    (c.in-Some.ensures.value.is ∙ ap (slice_get (stack_of k)) c.from.ensures)))
    c.store_slot.ensures.gives
