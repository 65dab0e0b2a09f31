use Rattle.std.proofs.Common.{◌≡◌, ◌-◌, drop, length, take}
use Rattle.cs_frame.specs.Page.{frame}
use Rattle.cs_stack.proofs.Stacking.{longer}
use Rattle.cs_stack.proofs.arguments.copy_arguments.Given as goal

abbrev pub invariant-loop-i : goal.invariant-loop-i
invariant-loop-i l = record {
  frames : l.frames ≡ longer l.fn.frames l.callee.page (take l.i (drop (length (frame l.fn.frames l.caller).stack - l.args) (frame l.fn.frames l.caller).stack));
}
