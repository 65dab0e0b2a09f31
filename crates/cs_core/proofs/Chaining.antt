-- Chains of senders, and the words of pages, in a state that others change.
use Rattle.std.proofs.Common.{◌≡◌, ℕ, ◌+◌, ◌<◌, Bool, true, false, refl, sym, ap, subst, ◌∙◌, arith, Option, Some, None, List, [], ◌∷◌, ◌++◌, is_some, option_map, option_and_then}
use Rattle.std.specs.Prelude.{◌==◌, ◌||◌}
use Rattle.std.specs.List.{AllByRecursion, concat}
use Rattle.std.proofs.lemmas.Bool.{false≢true}
use Rattle.std.proofs.lemmas.Bool.Decides.{nat_tests}
use Rattle.std.proofs.lemmas.List.Folds.{list_any-append}
use Rattle.cs_model.specs.Ref.{Ref, Small, Char, named_object}
use Rattle.cs_model.specs.Ref as ref
use Rattle.cs_model.specs.Obj.{Obj, Context, context_in}
use Rattle.cs_model.specs.State.{Kept, object_at}
use Rattle.cs_model.specs.Keeps.{Keeps}
use Rattle.cs_model.specs.Return.{context_birth, sender_birth}
use Rattle.cs_model.proofs.Reading.{Has}
use Rattle.cs_model.proofs.Same.{SameOption, option_equal, option_holds, same}
use Rattle.cs_model.proofs.Searching.{sender_birth_same}
use Rattle.cs_acts.specs.Layout.{IsCalled, depth_if, frame_words, is_frame, is_on, page_words}

-- ---- places in a list

pub either_false : (a b : Bool) → (a || b) ≡ false → (a ≡ false) × (b ≡ false)
either_false true b h = absurd (cc)
either_false false b h = (refl, h)

pub on_left : (i : ℕ) (xs ys : List ℕ) → is_on i xs ≡ true → is_on i (xs ++ ys) ≡ true
on_left i xs ys h = list_any-append (λ j. i == j) xs ys ∙ ap (λ a. a || is_on i ys) h

pub on_right : (i : ℕ) (xs ys : List ℕ) → is_on i ys ≡ true → is_on i (xs ++ ys) ≡ true
on_right i xs ys h = list_any-append (λ j. i == j) xs ys ∙ ap (λ b. is_on i xs || b) h ∙ or_true (is_on i xs)
  where
    or_true : (a : Bool) → (a || true) ≡ true
    or_true true = refl
    or_true false = refl

pub off_both : (i : ℕ) (xs ys : List ℕ) → is_on i (xs ++ ys) ≡ false → (is_on i xs ≡ false) × (is_on i ys ≡ false)
off_both i xs ys h = either_false (is_on i xs) (is_on i ys) (sym (list_any-append (λ j. i == j) xs ys) ∙ h)

-- what is on a list isn't what is not
pub apart_from : (i j : ℕ) (xs : List ℕ) → is_on i xs ≡ false → is_on j xs ≡ true → j ≡ i → ⊥
apart_from i j xs off on e = false≢true (sym off ∙ ap (λ n. is_on n xs) (sym e) ∙ on)

pub on_first : (i : ℕ) (xs : List ℕ) → is_on i (i ∷ xs) ≡ true
on_first i xs = go (i == i) (grind (arith, nat_tests))
  where
    go : (b : Bool) → b ≡ true → (b || is_on i xs) ≡ true
    go true h = refl
    go false h = absurd (cc)

pub on_later : (i j : ℕ) (xs : List ℕ) → is_on i xs ≡ true → is_on i (j ∷ xs) ≡ true
on_later i j xs h = on_right i (j ∷ []) xs h

pub all_on : (P : ℕ → Type 0) (xs : List ℕ) → AllByRecursion P xs → (i : ℕ) → is_on i xs ≡ true → P i
all_on P [] h i on = absurd (cc)
all_on P (x ∷ xs) h i on = go (λ t. all_on P xs h.1 i t) (i == x) refl on
  where
    go : (is_on i xs ≡ true → P i) → (b : Bool) → (i == x) ≡ b → (b || is_on i xs) ≡ true → P i
    go rest true e t = let at : x ≡ i = grind (arith, nat_tests, e) in subst P at h.0
    go rest false e t = rest t

pub all_by : (P : ℕ → Type 0) (xs : List ℕ) → ((i : ℕ) → is_on i xs ≡ true → P i) → AllByRecursion P xs
all_by P [] h = tt
all_by P (x ∷ xs) h = (h x (on_first x xs), all_by P xs (λ i on. h i (on_later i x xs on)))

-- a frame of pages is among the frames of all pages
pub frame_of_all : (i : ℕ) (pages : List (List ℕ)) → is_frame i pages ≡ is_on i (concat pages)
frame_of_all i [] = refl
frame_of_all i (page ∷ pages) = ap (λ b. is_on i page || b) (frame_of_all i pages) ∙ sym (list_any-append (λ j. i == j) page (concat pages))

-- ---- what is read of a context's sender

abbrev pub sender_in : Option Obj → Option Ref
sender_in o = option_map (λ c. c.sender) (context_in o)

-- what was a context is one
abbrev pub ContextsStay : Kept → Kept → Type 0
ContextsStay k t = (i : ℕ) → is_some (context_in (object_at k i)) ≡ true → is_some (context_in (object_at t i)) ≡ true

birth_stays : (k t : Kept) → ContextsStay k t → (x : Ref) (j : ℕ) → context_birth k x ≡ Some j → context_birth t x ≡ Some j
birth_stays k t stay (Small a) j h = absurd (cc)
birth_stays k t stay (Char c) j h = absurd (cc)
birth_stays k t stay (ref.Obj i) j h = go (context_in (object_at k i)) (context_in (object_at t i)) (stay i) h
  where
    go : (a b : Option Context) → (is_some a ≡ true → is_some b ≡ true) → option_and_then (λ c. Some i) a ≡ Some j → option_and_then (λ c. Some i) b ≡ Some j
    go None b s e = absurd (cc)
    go (Some c) None s e = absurd (false≢true (s refl))
    go (Some c) (Some d) s e = e

by_sender : (k : Kept) (o : Option Context) → option_and_then (λ c. context_birth k c.sender) o ≡ option_and_then (λ x. context_birth k x) (option_map (λ (c : Context). c.sender) o)
by_sender k None = refl
by_sender k (Some c) = refl

pub link_stays : (k t : Kept) → ContextsStay k t → (i j : ℕ) → sender_in (object_at t i) ≡ sender_in (object_at k i) → sender_birth k i ≡ Some j → sender_birth t i ≡ Some j
link_stays k t stay i j e h = by_sender t (context_in (object_at t i)) ∙ ap (option_and_then (λ x. context_birth t x)) e ∙ go (sender_in (object_at k i)) (sym (by_sender k (context_in (object_at k i))) ∙ h)
  where
    go : (o : Option Ref) → option_and_then (λ x. context_birth k x) o ≡ Some j → option_and_then (λ x. context_birth t x) o ≡ Some j
    go None g = absurd (cc)
    go (Some x) g = birth_stays k t stay x j g

-- ---- chains

pub called_stays : (k t : Kept) → ContextsStay k t → (xs : List ℕ) → ((i : ℕ) → is_on i xs ≡ true → sender_in (object_at t i) ≡ sender_in (object_at k i)) → IsCalled k xs → IsCalled t xs
called_stays k t stay [] h c = tt
called_stays k t stay (i ∷ []) h c = tt
called_stays k t stay (i ∷ j ∷ is) h c = (link_stays k t stay i j (h i (on_first i (j ∷ is))) c.0, called_stays k t stay (j ∷ is) (λ n on. h n (on_later n i (j ∷ is) on)) c.1)

abbrev pub HasFirst : Kept → List ℕ → Type 0
HasFirst v [] = Unit {0}
HasFirst v (i ∷ is) = Has v i

pub record HasChain (v : Kept) (xs : List ℕ) : Type 0 where
  pub called : IsCalled v xs
  pub all : AllByRecursion (Has v) xs

-- a state that has the first context of a chain has all of it, since it has what it names
pub chain_kept : (v t : Kept) → Keeps v t → (xs : List ℕ) → HasFirst v xs → IsCalled t xs → HasChain v xs
chain_kept v t keeps [] h c = record { called = tt; all = tt }
chain_kept v t keeps (i ∷ []) h c = record { called = tt; all = (h, tt) }
chain_kept v t keeps (i ∷ j ∷ is) h c =
    let s : SameOption (Has v) (sender_birth v i) (sender_birth t i) = sender_birth_same keeps (same i h) in
    let sent : sender_birth v i ≡ Some j = sym (option_equal s) ∙ c.0 in
    let rest = chain_kept v t keeps (j ∷ is) (option_holds s j sent) c.1 in
    record { called = (sent, rest.called); all = (h, rest.all) }

pub called_tail : (k : Kept) (i : ℕ) (xs : List ℕ) → IsCalled k (i ∷ xs) → IsCalled k xs
called_tail k i [] c = tt
called_tail k i (j ∷ xs) c = c.1

-- ---- words

-- a frame counts the same words in a state that is kept
pub frame_kept : (v t k : Kept) (i : ℕ) → Keeps v t → Has v i → depth_if (context_in (object_at t i)) ≡ depth_if (context_in (object_at k i)) → frame_words v i ≡ frame_words k i
frame_kept v t k i keeps has depth = go (object_at v i) refl has
  where
    go : (o : Option Obj) → object_at v i ≡ o → is_some o ≡ true → 10 + depth_if (context_in o) ≡ frame_words k i
    go None e h = absurd (false≢true h)
    go (Some o) e h = ap (λ n. 10 + n) (ap (λ p. depth_if (context_in p)) (sym (keeps.same i o e)) ∙ depth)

pub page_same : (v k : Kept) (page : List ℕ) → ((i : ℕ) → is_on i page ≡ true → frame_words v i ≡ frame_words k i) → page_words v page ≡ page_words k page
unfolding page_words
page_same v k [] h = refl
page_same v k (i ∷ is) h =
    let rest = page_same v k is (λ j on. h j (on_later j i is on)) in
    let first = h i (on_first i is) in
    omega (arith, rest, first)

pub filled_same : (v k : Kept) (pages : List (List ℕ)) → ((i : ℕ) → is_on i (concat pages) ≡ true → frame_words v i ≡ frame_words k i)
    → AllByRecursion (λ page. 3900 < page_words k page) pages → AllByRecursion (λ page. 3900 < page_words v page) pages
filled_same v k [] h f = tt
filled_same v k (page ∷ pages) h f = (
  omega (arith, f.0, page_same v k page (λ i on. h i (on_left i page (concat pages) on))),
  filled_same v k pages (λ i on. h i (on_right i page (concat pages) on)) f.1,
)

pub page_words_of : (k : Kept) (xs ys : List ℕ) → page_words k (xs ++ ys) ≡ page_words k xs + page_words k ys
unfolding page_words
page_words_of k [] ys = omega arith
page_words_of k (i ∷ is) ys = omega (arith, page_words_of k is ys)
