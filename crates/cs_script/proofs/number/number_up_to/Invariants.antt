use Rattle.std.proofs.Common.{◌≡◌, ◌≤◌, drop}
use Rattle.cs_model.specs.Line.{digits_from}
use Rattle.cs_script.proofs.number.number_up_to.Given as goal

abbrev pub invariant-loop-digit : goal.invariant-loop-digit
invariant-loop-digit l = record {
  bound : l.number ≤ l.highest;
  read : digits_from 0 l.word ≡ digits_from l.number (drop l.digit-index l.word);
}
