use Rattle.cs_frame.specs.Page.{AreStacked, frames_of}
use Rattle.cs_marriage.proofs.Searching.{Walked, left}
use Rattle.cs_marriage.proofs.search.frame_with.Given as goal

abbrev pub invariant-loop-next : goal.invariant-loop-next
invariant-loop-next l = record {
  stacked : AreStacked (frames_of l.frames l.page);
  walked : Walked l.frames l.page l.ctx.0 l.next;
}

abbrev pub decreases-loop-next : goal.decreases-loop-next
decreases-loop-next l = left l.frames l.next
