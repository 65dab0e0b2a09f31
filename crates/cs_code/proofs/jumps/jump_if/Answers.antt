use Rattle.std.proofs.Common.{arith, pos, sym, ap, ◌∙◌, ◌≡◌, to_z, of_z, w32}
use Rattle.std.proofs.lemmas.Int.{ints}
use Rattle.cs_model.specs.Ref.{same_ref}
use Rattle.cs_acts.specs.Names.{name_of}
use Rattle.cs_code.proofs.Through.{jumped}
use Rattle.cs_code.proofs.jumps.jump_if.Goals as goal

pub returns-then-same-clause-gives : goal.returns-then-same-clause-gives
returns-then-same-clause-gives g c =
    let old = g.W.World.view c.args.w.now in
    let s = g.W.World.stored c.args.w.now in
    let offset : to_z w32 (of_z w32 c.from.result) ≡ pos c.args.offset = omega (arith, ints) in
    jumped s (g.W.World.stored c.pop.new.self) _ (g.W.World.layout c.args.w.now) (g.W.World.layout c.pop.new.self) old (g.W.World.view c.pop.new.self) _ c.in-Some.condition _ c.args.wanted c.args.offset _ offset
    (c.pop.ensures.state old c.requires.sound.closed) c.pop.ensures.exact c.pop.ensures.layout c.pop.ensures.names c.in-Some.ensures.value
    (ap (same_ref (name_of s c.in-Some.condition)) (sym c.boolean.ensures.is) ∙ sym c.same.ensures ∙ c.if-same.true) c.jump.ensures.gives
