use Rattle.std.proofs.Common.{sym, ◌∙◌, ap, ◌||◌, Bool}
use Rattle.std.specs.Prelude.{◌==◌}
use Rattle.cs_unwind.proofs.Walking.{among_more}
use Rattle.cs_unwind.proofs.search.pass.Goals as goal

pub returns : goal.returns
returns g c births birth at before = record {
  mark = c.first_mark.ensures births birth at before.mark;
  meets = λ i stands. c.is_passed.ensures i birth stands at ∙ ap (λ (b : Bool). b || (i == birth)) (before.meets i stands) ∙ sym (among_more i birth births);
}
