use Rattle.std.proofs.Common.{ℕ, ◌<◌, Contains}
use Rattle.cs_pages.proofs.Pages.first_free.Given as goal

abbrev pub invariant-loop-page : goal.invariant-loop-page
invariant-loop-page l = (q : ℕ) → q < l.page → Contains l.self.recent q
