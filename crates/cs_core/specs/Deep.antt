-- Which activations stand on the stack in a run of the model.
use Rattle.std.specs.Prelude.{◌≡◌, ℕ, ◌*◌, ◌<◌, ◌≤◌, true, List, [], option_map, Option, Some, None}
use Rattle.std.specs.List.{AllByRecursion}
use Rattle.cs_model.specs.State.{Kept}
use Rattle.cs_model.specs.Step.{Ran}
use Rattle.cs_model.specs.Built.{built_run}
use Rattle.cs_acts.specs.Layout.{IsApart, IsCalled, Layout, is_frame, last_frame, page_words}
use Rattle.cs_core.specs.Stepped.{state_at}

-- the run of the model from a state that is opened, without events
abbrev pub run_of : Kept → ℕ → Ran
run_of k n = built_run n (state_at k [] 0)

-- the state behind its first n steps
abbrev pub state_of : Kept → ℕ → Kept
state_of k n = (run_of k n).state.kept

-- a context has begun where it was active behind one of the first n steps, or before them
pub record WasActive (k : Kept) (n : ℕ) (birth : ℕ) : Type 0 where
  pub step : ℕ
  pub within : step ≤ n
  pub active : (state_of k step).rest.active ≡ Some birth

-- Behind n steps there are contexts of which the first is active and each other one is the sender of the one before. No context is
-- there twice, and all have begun. They count more than 3,900 words for each of so many pages: 10 for each, and one for each value of
-- its stack.
pub record IsDeep (most : ℕ) (k : Kept) (n : ℕ) : Type 0 where
  pub contexts : List ℕ
  pub active : last_frame contexts ≡ (state_of k n).rest.active
  pub called : IsCalled (state_of k n) contexts
  pub apart : IsApart contexts
  pub begun : AllByRecursion (WasActive k n) contexts
  pub words : 3900 * most < page_words (state_of k n) contexts

-- ---- where a world has its frames

-- how many pages it may have
abbrev pub most_of : Option Layout → Option ℕ
most_of l = option_map (λ x. x.most) l

-- each of them has begun
abbrev pub AllBegun : Kept → ℕ → Option Layout → Type 0
AllBegun k n None = Unit {0}
AllBegun k n (Some l) = (birth : ℕ) → is_frame birth l.pages ≡ true → WasActive k n birth
