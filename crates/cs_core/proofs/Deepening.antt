-- The frames of a world have begun in the run, and where they need too many words the run is deep.
use Rattle.std.proofs.Common.{◌≡◌, inl, inr, ℕ, ◌+◌, refl, sym, ap, subst, ◌∙◌, arith, Option, Some, None, IsSomeAnd, ◌<◌, List, [], ◌∷◌, ◌++◌}
use Rattle.std.specs.List.{concat}
use Rattle.cs_model.specs.State.{Kept, Rest}
use Rattle.cs_model.specs.Keeps.{Keeps}
use Rattle.cs_model.specs.Step.{run_by}
use Rattle.cs_acts.specs.Layout.{IsApart, IsFresh, Layout, first_page, page_words}
use Rattle.cs_acts.specs.Names.{Store}
use Rattle.cs_acts.specs.Ready.{IsReady}
use Rattle.cs_core.specs.Deep.{AllBegun, WasActive, IsDeep, most_of, state_of}
use Rattle.cs_core.specs.Stacked.{IsStacked}
use Rattle.cs_core.specs.Stepped.{FramesFrom, IsFilled, least_of_return}
use Rattle.cs_core.proofs.Chaining.{all_by, frame_of_all, off_both}
use Rattle.cs_core.proofs.Laying.{page_words_kept}
use Rattle.cs_core.proofs.Stacking.{stack_active, stack_called, stack_words}

-- ---- what has begun

started : (k : Kept) → state_of k 0 ≡ k
unfolding run_by
started k = refl

pub begun_at_start : (k : Kept) (l : Option Layout) → IsFresh k l → AllBegun k 0 l
begun_at_start k None fresh = tt
begun_at_start k (Some l) fresh = λ birth h. record { step = 0; within = omega arith; active = ap (λ (m : Kept). m.rest.active) (started k) ∙ fresh birth h }

later : (k : Kept) (n birth : ℕ) → WasActive k n birth → WasActive k (n + 1) birth
later k n birth h = record { step = h.step; within = omega (arith, h.within); active = h.active }

now_begun : (k w : Kept) (n birth : ℕ) → (state_of k (n + 1)).rest.active ≡ w.rest.active → w.rest.active ≡ Some birth → WasActive k (n + 1) birth
now_begun k w n birth is active = record { step = n + 1; within = omega arith; active = is ∙ active }

-- each frame behind a step was one before, or is active
pub begun_on : (k w : Kept) (n : ℕ) (old new : Option Layout) → (state_of k (n + 1)).rest.active ≡ w.rest.active → AllBegun k n old → FramesFrom old new w → AllBegun k (n + 1) new
begun_on k w n None new is begun frames = subst (AllBegun k (n + 1)) (sym frames) tt
begun_on k w n (Some l) None is begun frames = absurd frames
begun_on k w n (Some l) (Some m) is begun frames = λ birth h. elim (frames.1 birth h) [ inl old ↦ later k n birth (begun birth old) | inr active ↦ now_begun k w n birth is active ]

-- so many pages there may be, as before
pub most_stays : (old new : Option Layout) (w : Kept) → FramesFrom old new w → most_of new ≡ most_of old
most_stays None new w frames = ap most_of frames
most_stays (Some l) None w frames = absurd frames
most_stays (Some l) (Some n) w frames = ap Some frames.0

-- ---- pages that are full

first_apart : (pages : List (List ℕ)) → IsApart (concat pages) → IsApart (first_page pages)
first_apart [] h = tt
first_apart (page ∷ pages) h = go page h
  where
    go : (is : List ℕ) → IsApart (is ++ concat pages) → IsApart is
    go [] h = tt
    go (i ∷ is) h = ((off_both i is (concat pages) h.0).0, go is h.1)

-- the frames of the pages are the contexts that await a return
pub is_deep : (k : Kept) (s : Store) (v : Kept) (n : ℕ) (l : Option Layout) → Keeps v (state_of k n) → IsReady s v → IsStacked v l → AllBegun k n l → IsFilled v l least_of_return → IsSomeAnd (most_of l) (λ most. IsDeep most k n)
is_deep k s v n None keeps ready stack begun full = absurd full
is_deep k s v n (Some l) keeps ready stack begun full = record {
  contexts = concat l.pages;
  active = stack_active v l.pages ready.running stack ∙ ap (λ (r : Rest). r.active) keeps.rest;
  called = stack_called v (state_of k n) keeps ready.running l.pages stack;
  apart = stack.apart;
  begun = all_by (WasActive k n) (concat l.pages) (λ i on. begun i (frame_of_all i l.pages ∙ on));
  words = omega (arith, stack_words v l.pages l.most ready.running stack full.0 (filled (full.1 (first_apart l.pages stack.apart))), page_words_kept v (state_of k n) keeps (concat l.pages));
}
  where
    filled : least_of_return < page_words v (first_page l.pages) → 3900 < page_words v (first_page l.pages)
    filled h = omega (arith, h)
