use Rattle.std.proofs.Common.{◌≡◌, take}
use Rattle.cs_frame.specs.Frame.{with_values}
use Rattle.cs_frame.specs.Page.{on_page, on_top}
use Rattle.cs_marriage.specs.Marriage.{stack_words}
use Rattle.cs_marriage.proofs.basing.copy_stack.Given as goal

abbrev pub invariant-loop-i : goal.invariant-loop-i
invariant-loop-i l = record {
  frames : l.frames ≡ on_page l.fn.frames l.f.page (on_top (with_values (take l.i (stack_words l.heap.objects l.ctx.0))));
}
