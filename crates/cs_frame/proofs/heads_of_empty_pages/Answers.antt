use Rattle.std.proofs.Common.{◌∙◌}
use Rattle.cs_frame.proofs.Empties.{heads-next}
use Rattle.cs_frame.proofs.heads_of_empty_pages.Goals as goal

pub loop-page-preserved : goal.loop-page-preserved
loop-page-preserved c = c.in_ok-push.ensures.items ∙ heads-next c.loop-page.page c.loop-page.heads.items c.loop-page.invariant
