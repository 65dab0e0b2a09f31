use Rattle.std.proofs.Common.{◌∙◌}
use Rattle.cs_model.specs.Exec.{store_receiver_out}
use Rattle.cs_model.proofs.Keeping.{unmoved}
use Rattle.cs_model.proofs.Executing.{store_receiver_alike}
use Rattle.cs_code.proofs.Fields.{context-behind-pop}
use Rattle.cs_code.proofs.Through.{popped}
use Rattle.cs_code.proofs.stores.pop_slot.Goals as goal

pub store_field-requires-clause-plain : goal.store_field-requires-clause-plain
store_field-requires-clause-plain g c =
    let old = g.W.World.view c.args.w.now in
    context-behind-pop old (g.W.World.view c.pop.new.self) c.requires.ready.running (c.pop.ensures.state old c.requires.ready.sound.closed) ∙ c.requires.plain

pub returns-in-Some-clause-gives : goal.returns-in-Some-clause-gives
returns-in-Some-clause-gives g c =
    let old = g.W.World.view c.args.w.now in
    popped (g.W.World.stored c.args.w.now) (g.W.World.stored c.pop.new.self) _ (g.W.World.layout c.args.w.now) (g.W.World.layout c.pop.new.self) old (g.W.World.view c.pop.new.self) _ c.in-Some.x _ (λ t bare x. store_receiver_out t bare c.args.i x) (λ t u y k s. store_receiver_alike k (unmoved k) c.args.i s)
    c.pop.ensures.ready (c.pop.ensures.state old c.requires.ready.sound.closed) c.pop.ensures.exact c.pop.ensures.layout c.pop.ensures.names c.in-Some.ensures.value c.store_field.ensures.gives
