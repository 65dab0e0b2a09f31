use Rattle.std.proofs.Common.{◌≡◌, ◌≤◌, length}
use Rattle.cs_build.proofs.LineReading.{AreRead}
use Rattle.cs_build.proofs.lines.read_lines.Given as goal

abbrev pub invariant-loop-line : goal.invariant-loop-line
invariant-loop-line l = record {
  number : l.number ≡ l.line-index;
  few : length l.read.items ≤ l.line-index;
  read : AreRead l.lines l.line-index l.inside l.read.items;
}
