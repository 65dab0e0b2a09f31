-- Pages in order of last use, as callers see them. This machine's own.
use Rattle.std.specs.Prelude.{ℕ, ◌<◌, ◌==◌, not, List, filter, nat_eq, All, Contains}
use Rattle.std.specs.List.{IsDistinct}

-- how many pages there are, numbered from 0, and which of them are used, the most recently used first
pub record Order : Type 0 where
  pub total : ℕ
  pub recent : List ℕ

-- no page stands twice in the order, and each is one of the total
pub record IsSoundOrder (order : Order) : Type 0 where
  pub distinct : IsDistinct nat_eq order.recent
  pub in_range : All (λ page. page < order.total) order.recent

-- a page of the total that isn't used
abbrev pub IsFree : Order → ℕ → Type 0
IsFree order page = (page < order.total) × ¬ Contains order.recent page

-- the pages without one of them
abbrev pub without : ℕ → List ℕ → List ℕ
without page pages = filter (λ other. not (page == other)) pages
