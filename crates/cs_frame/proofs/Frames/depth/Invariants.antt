use Rattle.std.proofs.Common.{◌+◌, ◌*◌, ◌≤◌, length}
use Rattle.cs_frame.specs.Page.{frame}
use Rattle.cs_frame.proofs.Walks.{Walk}
use Rattle.cs_frame.proofs.Frames.depth.Given as goal

abbrev pub invariant-loop-frame : goal.invariant-loop-frame
invariant-loop-frame l = record {
  walk : Walk l.self-inside.zone (l.fn.f.page * 4096) l.at (l.at + 10 + length (frame l.fn.self l.fn.f).stack) l.frame l.end;
  within : l.end ≤ length l.self-inside.zone;
}

abbrev pub decreases-loop-frame : goal.decreases-loop-frame
decreases-loop-frame l = l.frame
