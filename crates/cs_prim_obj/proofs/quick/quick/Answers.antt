use Rattle.std.proofs.Common.{arith, ap, ◌∙◌}
use Rattle.std.proofs.lemmas.Bool.Decides.{nat_tests}
use Rattle.cs_model.specs.PrimAnswer.{answer}
use Rattle.cs_prim_obj.proofs.Outcomes.{as_row}
use Rattle.cs_prim_obj.proofs.Rows.{quick-field, quick-value}
use Rattle.cs_prim_obj.proofs.quick.quick.Goals as goal

pub returns-then-number-lt-FIRST_FIELD : goal.returns-then-number-lt-FIRST_FIELD
returns-then-number-lt-FIRST_FIELD g c =
    let s = g.W.World.stored c.args.w.now in
    let k = g.W.World.view c.args.w.now in
    as_row (ap (answer k c.args.args) c.quick_value-value.ensures.is ∙ quick-value k c.args.number c.args.args c.requires.first (grind (arith, nat_tests, c.if-number-lt-FIRST_FIELD.true))) c.answer.ensures

pub returns-else-number-lt-FIRST_FIELD : goal.returns-else-number-lt-FIRST_FIELD
returns-else-number-lt-FIRST_FIELD g c =
    let s = g.W.World.stored c.args.w.now in
    let k = g.W.World.view c.args.w.now in
    as_row (quick-field k c.args.number c.args.args (grind (arith, nat_tests, c.if-number-lt-FIRST_FIELD.false))) c.answer_slot.ensures
