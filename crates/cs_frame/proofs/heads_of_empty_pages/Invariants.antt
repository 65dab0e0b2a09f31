use Rattle.std.proofs.Common.{◌≡◌}
use Rattle.cs_frame.specs.Written.{empty_heads}
use Rattle.cs_frame.proofs.heads_of_empty_pages.Given as goal

abbrev pub invariant-loop-page : goal.invariant-loop-page
invariant-loop-page l = l.heads.items ≡ empty_heads 0 l.page
