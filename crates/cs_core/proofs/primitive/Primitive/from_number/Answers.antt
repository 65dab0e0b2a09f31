use Rattle.std.proofs.Common.{arith, sym, ◌∙◌}
use Rattle.std.proofs.lemmas.Bool.Decides.{nat_tests}
use Rattle.cs_core.proofs.Picking.{unlisted_here}
use Rattle.cs_core.proofs.primitive.Primitive.from_number.Goals as goal

pub returns-else-is_unbuilt : goal.returns-else-is_unbuilt
returns-else-is_unbuilt g c =
    unlisted_here (g.W.World.view c.args.w.now) c.args.number c.args.args (grind (arith, nat_tests, c.if-number-eq-WRITE.false)) (sym c.is_on_numbers.ensures ∙ c.if-is_on_numbers.false) (sym c.unwinds.ensures ∙ c.if-unwinds.false)
    (sym c.reads_context.ensures ∙ c.if-reads_context.false) (sym c.is_unbuilt.ensures ∙ c.if-is_unbuilt.false)
