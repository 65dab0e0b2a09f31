use Rattle.std.proofs.Common.{◌≡◌, ◌≤◌, length}
use Rattle.cs_script.proofs.Readings.{AreRead}
use Rattle.cs_script.proofs.events.read_lines.Given as goal

abbrev pub invariant-loop-line : goal.invariant-loop-line
invariant-loop-line l = record {
  number : l.number ≡ l.line-index;
  count : length l.events.items ≤ l.line-index;
  read : AreRead l.lines l.line-index l.above l.events.items;
}
