use Rattle.std.proofs.Common.{◌≡◌, ◌≤◌, drop}
use Rattle.cs_model.specs.Line.{digits_from}
use Rattle.cs_build.proofs.NumberLemmas.{bounded}
use Rattle.cs_build.proofs.number.read_size.Given as goal

abbrev pub invariant-loop-digit : goal.invariant-loop-digit
invariant-loop-digit l = record {
  bound : l.size ≤ 2147483648;
  read : bounded (digits_from 0 l.digits) ≡ bounded (digits_from l.size (drop l.digit-index l.digits));
}
