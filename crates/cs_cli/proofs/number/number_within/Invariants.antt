use Rattle.std.proofs.Common.{◌≡◌, ◌≤◌, drop}
use Rattle.cs_model.specs.Line.{digits_from}
use Rattle.cs_cli.proofs.number.number_within.Given as goal

abbrev pub invariant-loop-byte : goal.invariant-loop-byte
invariant-loop-byte l = record {
  bound : l.number ≤ l.fn.highest;
  read : digits_from 0 l.bytes ≡ digits_from l.number (drop l.byte-index l.bytes);
}
