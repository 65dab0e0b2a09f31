-- Which frames a layout has behind entering and leaving: those before, and the context that is active then.
use Rattle.std.proofs.Common.{◌≡◌, ℕ, ◌+◌, ◌==◌, Bool, true, false, refl, inl, inr, Some, List, [], ◌∷◌, ◌++◌, nat_le, ◌||◌}
use Rattle.std.specs.Prelude.{if◌then◌else◌, not, ◌⊎◌}
use Rattle.std.specs.List.{filter}
use Rattle.std.proofs.lemmas.Bool.{eqb-true, false≢true}
use Rattle.cs_model.specs.Ref.{Ref}
use Rattle.cs_model.specs.State.{Kept}
use Rattle.cs_model.specs.Operation.{enter_of, enter_with}
use Rattle.cs_acts.specs.Layout.{entered, is_frame, is_on, left, new_frame_words, page_words, touched}

-- a frame of these pages, or the birth i
abbrev Or : ℕ → ℕ → List (List ℕ) → Type 0
Or j i pages = (is_frame j pages ≡ true) ⊎ (j ≡ i)

either : (a b : Bool) → (a || b) ≡ true → (a ≡ true) ⊎ (b ≡ true)
either true b h = inl refl
either false b h = inr h

by_cases : {A B C : Type 0} → A ⊎ B → (A → C) → (B → C) → C
by_cases (inl a) f g = f a
by_cases (inr b) f g = g b

left_of : (a b : Bool) → a ≡ true → (a || b) ≡ true
left_of true b h = refl
left_of false b h = absurd (false≢true h)

right_of : (a b : Bool) → b ≡ true → (a || b) ≡ true
right_of true b h = refl
right_of false b h = h

-- a frame of the first page, or of a later one
head : (j : ℕ) (page : List ℕ) (pages : List (List ℕ)) → is_on j page ≡ true → is_frame j (page ∷ pages) ≡ true
head j page pages h = left_of (is_on j page) (is_frame j pages) h

tail : (j : ℕ) (page : List ℕ) (pages : List (List ℕ)) → is_frame j pages ≡ true → is_frame j (page ∷ pages) ≡ true
tail j page pages h = right_of (is_on j page) (is_frame j pages) h

of_pages : {C : Type 0} (j : ℕ) (page : List ℕ) (pages : List (List ℕ)) → is_frame j (page ∷ pages) ≡ true → (is_on j page ≡ true → C) → (is_frame j pages ≡ true → C) → C
of_pages j page pages h f g = by_cases (either (is_on j page) (is_frame j pages) h) f g

-- a frame is the last one of a page, or one below it
on_page : {C : Type 0} (j i : ℕ) (page : List ℕ) → is_on j (i ∷ page) ≡ true → (j ≡ i → C) → (is_on j page ≡ true → C) → C
on_page j i page h f g = by_cases (either (j == i) (is_on j page) h) (λ e. f (eqb-true j i e)) g

above : (j i : ℕ) (page : List ℕ) (pages : List (List ℕ)) → is_frame j ((i ∷ page) ∷ pages) ≡ true → Or j i (page ∷ pages)
above j i page pages h = of_pages j (i ∷ page) pages h (λ on. on_page j i page on (λ e. inr e) (λ e. inl (head j page pages e))) (λ e. inl (tail j page pages e))

alone : (j i : ℕ) (pages : List (List ℕ)) → is_frame j ((i ∷ []) ∷ pages) ≡ true → Or j i pages
alone j i pages h = of_pages j (i ∷ []) pages h (λ on. on_page j i [] on (λ e. inr e) (λ e. absurd (false≢true e))) (λ e. inl e)

pub entered-frames : (k : Kept) (i j : ℕ) (pages : List (List ℕ)) → is_frame j (entered k i pages) ≡ true → (is_frame j pages ≡ true) ⊎ (j ≡ i)
entered-frames k i j [] h = alone j i [] h
entered-frames k i j (page ∷ pages) h = go (nat_le (page_words k page + new_frame_words) 4096) h
  where
    go : (b : Bool) → is_frame j (if b then (i ∷ page) ∷ pages else (i ∷ []) ∷ page ∷ pages) ≡ true → Or j i (page ∷ pages)
    go true g = above j i page pages g
    go false g = alone j i (page ∷ pages) g

-- the context that entering makes is active
pub entered-active : (k : Kept) (x : Ref) (args : ℕ) (skip : Bool) → (enter_of k x args skip).rest.active ≡ Some k.rest.next
unfolding enter_of enter_with
entered-active k x args skip = refl

-- ---- leaving

if_kept : (j : ℕ) (page : List ℕ) (rest pages : List (List ℕ)) (b : Bool) → (is_frame j rest ≡ true → is_frame j pages ≡ true)
    → is_frame j (if b then page ∷ rest else rest) ≡ true → is_frame j (page ∷ pages) ≡ true
if_kept j page rest pages true later h = of_pages j page rest h (head j page pages) (λ e. tail j page pages (later e))
if_kept j page rest pages false later h = tail j page pages (later h)

filtered : (j : ℕ) (test : List ℕ → Bool) (pages : List (List ℕ)) → is_frame j (filter test pages) ≡ true → is_frame j pages ≡ true
filtered j test [] h = h
filtered j test (page ∷ pages) h = if_kept j page (filter test pages) pages (test page) (filtered j test pages) h

joined : {C : Type 0} (j : ℕ) (xs ys : List (List ℕ)) → is_frame j (xs ++ ys) ≡ true → (is_frame j xs ≡ true → C) → (is_frame j ys ≡ true → C) → C
joined j [] ys h f g = g h
joined j (x ∷ xs) ys h f g = of_pages j x (xs ++ ys) h (λ e. f (head j x xs e)) (λ e. joined j xs ys e (λ there. f (tail j x xs there)) g)

touched-frames : (target j : ℕ) (pages : List (List ℕ)) → is_frame j (touched target pages) ≡ true → Or j target pages
touched-frames target j pages h = go (is_frame target pages) h
  where
    go : (b : Bool) → is_frame j (if b then filter (is_on target) pages ++ filter (λ page. not (is_on target page)) pages else (target ∷ []) ∷ pages) ≡ true → Or j target pages
    go true g =
        joined j (filter (is_on target) pages) (filter (λ page. not (is_on target page)) pages) g (λ e. inl (filtered j (is_on target) pages e)) (λ e. inl (filtered j (λ page. not (is_on target page)) pages e))
    go false g = alone j target pages g

later : (j target : ℕ) (page : List ℕ) (pages : List (List ℕ)) → Or j target pages → Or j target (page ∷ pages)
later j target page pages o = by_cases o (λ e. inl (tail j page pages e)) (λ e. inr e)

pub left-frames : (target j : ℕ) (pages : List (List ℕ)) → is_frame j (left target pages) ≡ true → (is_frame j pages ≡ true) ⊎ (j ≡ target)
left-frames target j [] h = touched-frames target j [] h
left-frames target j ([] ∷ pages) h = later j target [] pages (touched-frames target j pages h)
left-frames target j ((i ∷ []) ∷ pages) h = later j target (i ∷ []) pages (touched-frames target j pages h)
left-frames target j ((i ∷ l ∷ is) ∷ pages) h =
    of_pages j (l ∷ is) pages h (λ e. inl (head j (i ∷ l ∷ is) pages (right_of (j == i) (is_on j (l ∷ is)) e))) (λ e. inl (tail j (i ∷ l ∷ is) pages e))
