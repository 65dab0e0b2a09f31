use Rattle.std.proofs.Common.{◌≡◌, ℕ, ◌<◌, get_or, vec_len}
use Rattle.cs_pages.proofs.self_links.Given as goal

abbrev pub invariant-loop-page : goal.invariant-loop-page
invariant-loop-page l = (vec_len l.links ≡ l.page) × ((k : ℕ) → k < l.page → get_or l.links.items k 0 ≡ k)
