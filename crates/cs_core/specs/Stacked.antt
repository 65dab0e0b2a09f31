-- What holds of the pages of a world all along a run.
use Rattle.std.specs.Prelude.{◌≡◌, ℕ, ◌<◌, List, [], ◌∷◌, Option, Some, None}
use Rattle.std.specs.List.{AllByRecursion, concat}
use Rattle.cs_model.specs.State.{Kept}
use Rattle.cs_acts.specs.Layout.{IsApart, IsCalled, Layout, first_page, last_frame, page_words}

abbrev pub behind_first : List (List ℕ) → List (List ℕ)
behind_first [] = []
behind_first (page ∷ pages) = pages

-- The active context is the last frame of the first page. The frames of all pages, those of the first page first, are one chain of
-- senders, and none is there twice. Each page behind the first one has more than 3,900 words: a page is taken where fewer than 66
-- words are free, entering takes at most 57 values off the last frame there, and then its frames stay as they are.
pub record IsStack (k : Kept) (pages : List (List ℕ)) : Type 0 where
  pub active : last_frame (first_page pages) ≡ k.rest.active
  pub called : IsCalled k (concat pages)
  pub apart : IsApart (concat pages)
  pub filled : AllByRecursion (λ page. 3900 < page_words k page) (behind_first pages)

abbrev pub IsStacked : Kept → Option Layout → Type 0
IsStacked k None = Unit {0}
IsStacked k (Some l) = IsStack k l.pages
