-- How two arrays of links keep the used pages: a ring through the place behind the last page.
use Rattle.std.specs.Prelude.{◌≡◌, ℕ, zero, suc, ◌+◌, List, [], ◌∷◌, length, slice_index}
use Rattle.cs_pages.specs.Order.{Order, IsSoundOrder, IsFree}

-- the n places that `older` leads to, one after another, from a place on
abbrev pub page_chain : List ℕ → ℕ → ℕ → List ℕ
page_chain older place zero = []
page_chain older place (suc n) = slice_index older place ∷ page_chain older (slice_index older place) n

-- the order that the links keep: as many places as there are used pages, from the place behind the last page on
abbrev pub order_by_ring : List ℕ → ℕ → ℕ → Order
order_by_ring older total used = record { total = total; recent = page_chain older total used }

-- the two arrays lead from a to b and back
abbrev pub Joined : List ℕ → List ℕ → ℕ → ℕ → Type 0
Joined older newer a b = (slice_index older a ≡ b) × (slice_index newer b ≡ a)

-- they lead from a through the pages to b and back
abbrev pub Linked : List ℕ → List ℕ → ℕ → List ℕ → ℕ → Type 0
Linked older newer a [] b = Joined older newer a b
Linked older newer a (page ∷ pages) b = Joined older newer a page × Linked older newer page pages b

-- the used pages are linked from the place behind the last page to itself, and a free page leads to itself
pub record IsRing (older newer : List ℕ) (order : Order) : Type 0 where
  pub older_len : length older ≡ order.total + 1
  pub newer_len : length newer ≡ order.total + 1
  pub linked : Linked older newer order.total order.recent order.total
  pub sound : IsSoundOrder order
  pub idle : (page : ℕ) → IsFree order page → slice_index older page ≡ page
