-- What a state that keeps another one counts: no more words, and on the page of a frame that it has as many.
use Rattle.std.proofs.Common.{◌≡◌, ◌∙◌, ℕ, zero, suc, ◌+◌, ◌≤◌, true, refl, sym, ap, ap₂, subst, arith, Option, Some, None, IfSome, List, [], ◌∷◌}
use Rattle.std.specs.Prelude.{nat_le, if◌then◌else◌}
use Rattle.std.specs.List.{AllByRecursion}
use Rattle.cs_model.specs.Obj.{Obj, context_in, is_context_at}
use Rattle.cs_model.specs.State.{Kept, Rest, object_at}
use Rattle.cs_model.specs.Keeps.{Keeps}
use Rattle.cs_model.specs.Demand.{words_taken, words_below, words_held}
use Rattle.cs_acts.specs.declared.act.Full.{Full as Why}
use Rattle.cs_acts.specs.declared.act.Full.TheVariants.{Heap, Stack}
use Rattle.cs_acts.specs.Full.{CausesFull}
use Rattle.cs_acts.specs.Layout.{IsLaidOut, IsPage, LaidBy, Layout, depth_if, entered, first_page, frame_words, new_frame_words, page_words}
use Rattle.cs_acts.specs.Made.{made_by_entering}
use Rattle.cs_acts.specs.Names.{Store}

-- ---- words

words_kept : (v m : Kept) → Keeps v m → (n : ℕ) → words_below n v ≤ words_below n m
unfolding words_below
words_kept v m k zero = omega arith
words_kept v m k (suc n) = go (words_kept v m k n) (object_at v n) refl
  where
    go : words_below n v ≤ words_below n m → (o : Option Obj) → object_at v n ≡ o → words_below n v + words_taken o ≤ words_below n m + words_taken (object_at m n)
    go before None e = omega (arith, before)
    go before (Some o) e =
        let is : words_taken (object_at m n) ≡ words_taken (Some o) = ap words_taken (k.same n o e) in
        omega (arith, before, is)

-- a state counts no more words than one that it keeps
pub fewer_words : (v m : Kept) → Keeps v m → words_held v ≤ words_held m
fewer_words v m k = subst (λ (r : Rest). words_held v ≤ words_below r.next m) k.rest (words_kept v m k v.rest.next)

-- ---- the frames of the first page

same_words : (v m : Kept) → Keeps v m → (page : List ℕ) → AllByRecursion (λ i. is_context_at (object_at v i) ≡ true) page → page_words v page ≡ page_words m page
unfolding page_words
same_words v m k [] h = refl
same_words v m k (i ∷ is) h = ap₂ (λ (a b : ℕ). a + b) (same_words v m k is h.1) (go (object_at v i) refl h.0)
  where
    go : (o : Option Obj) → object_at v i ≡ o → is_context_at o ≡ true → frame_words v i ≡ frame_words m i
    go None e f = absurd (cc)
    go (Some o) e f = ap (λ p. 10 + depth_if (context_in p)) (e ∙ sym (k.same i o e))

first_same : (v m : Kept) → Keeps v m → (pages : List (List ℕ)) → AllByRecursion (IsPage v) pages → page_words v (first_page pages) ≡ page_words m (first_page pages)
first_same v m k [] h = same_words v m k [] tt
first_same v m k (page ∷ pages) h = same_words v m k page h.0.contexts

-- the first page of a layout counts as much in both states
abbrev pub SameFirst : Kept → Kept → Option Layout → Type 0
SameFirst v m l = IfSome l (λ laid. page_words v (first_page laid.pages) ≡ page_words m (first_page laid.pages))

pub same_first : (s : Store) (v m : Kept) (l : Option Layout) → Keeps v m → IsLaidOut s v l → SameFirst v m l
same_first s v m None k laid = tt
same_first s v m (Some l) k laid = first_same v m k l.pages laid.pages

entered_same : (v m : Kept) (i : ℕ) (pages : List (List ℕ)) → page_words v (first_page pages) ≡ page_words m (first_page pages) → entered v i pages ≡ entered m i pages
entered_same v m i [] e = refl
entered_same v m i (page ∷ pages) e = ap (λ n. if nat_le (n + new_frame_words) 4096 then (i ∷ page) ∷ pages else (i ∷ []) ∷ page ∷ pages) e

-- a context that is entered stands in the same place
pub laid_same : (v m : Kept) (i : ℕ) (before after : Option Layout) → SameFirst v m before → LaidBy (entered v i) before after → LaidBy (entered m i) before after
laid_same v m i None after same laid = laid
laid_same v m i (Some l) after same laid = laid ∙ ap (λ ps. Some (record l { pages = ps })) (entered_same v m i l.pages same)

pub made_same : (v m : Kept) (l : Option Layout) → SameFirst v m l → made_by_entering v l ≡ made_by_entering m l
made_same v m None same = refl
made_same v m (Some l) same = ap (λ n. if nat_le (n + new_frame_words) 4096 then 0 else 1) same

-- ---- no room

-- there is no room in the state that is kept either
pub causes_same : (s : Store) (l : Option Layout) (v m t u : Kept) (a : ℕ) (why : Why) → SameFirst v m l → Keeps t u → CausesFull s l v a t why → CausesFull s l m a u why
causes_same s l v m t u a Heap same k h = record { words = omega (arith, h.words, fewer_words t u k); room = h.room }
causes_same s None v m t u a Stack same k h = h
causes_same s (Some l) v m t u a Stack same k h = (h.0, omega (arith, h.1, same))
