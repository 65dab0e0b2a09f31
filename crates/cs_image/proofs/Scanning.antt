-- Going over the objects of a file in order, for the first one that something is wrong with.
use Rattle.std.proofs.Common.{◌≡◌, ℕ, zero, suc, ◌+◌, ◌<◌, ◌≤◌, ◌&&◌, Bool, true, false, cond, List, [], ◌∷◌, ◌++◌, length, drop, filter, Option, Some, None, refl, ap, ◌∙◌, arith, slice_get, option_map, flat_map, get_or}
use Rattle.std.specs.Option.{option_or}
use Rattle.std.specs.List.{find, enumerate_from}
use Rattle.std.proofs.lemmas.List.{drop_more}
use Rattle.std.proofs.Math.ListN.{drop_of_length-le}
use Rattle.cs_model.specs.ImageFile.{FileObject, File, is_visible}
use Rattle.cs_model.specs.ImageFault.{references, is_lost}

pub drop_here : {X : Type 0} (xs : List X) (k : ℕ) (x : X) → slice_get xs k ≡ Some x → drop k xs ≡ x ∷ drop (k + 1) xs
drop_here [] k x e = absurd (cc)
drop_here (y ∷ xs) zero x e = let same : y ≡ x = cc in ap (λ z. z ∷ xs) same
drop_here (y ∷ xs) (suc k) x e =
    let behind : suc (k + 1) ≡ suc k + 1 = omega arith in
    drop_here xs k x e ∙ ap (λ n. x ∷ drop n (y ∷ xs)) behind

-- the first of the visible ones from k on that passes
abbrev pub first_from : (FileObject → Bool) → List FileObject → ℕ → Option FileObject
first_from p xs k = find p (filter is_visible (drop k xs))

pub first_here : (p : FileObject → Bool) (xs : List FileObject) (k : ℕ) (x : FileObject) → slice_get xs k ≡ Some x
    → (is_visible x && p x) ≡ true → first_from p xs k ≡ Some x
first_here p xs k x e h = ap (λ (ys : List FileObject). find p (filter is_visible ys)) (drop_here xs k x e) ∙ go (is_visible x) (p x) refl refl h
  where
    go : (v q : Bool) → is_visible x ≡ v → p x ≡ q → (v && q) ≡ true → find p (cond (is_visible x) (x ∷ filter is_visible (drop (k + 1) xs)) (filter is_visible (drop (k + 1) xs))) ≡ Some x
    go true true ev eq f = rw (ev, eq) refl
    go true false ev eq f = absurd (cc)
    go false q ev eq f = absurd (cc)

pub first_later : (p : FileObject → Bool) (xs : List FileObject) (k : ℕ) (x : FileObject) → slice_get xs k ≡ Some x
    → (is_visible x && p x) ≡ false → first_from p xs k ≡ first_from p xs (k + 1)
first_later p xs k x e h = ap (λ (ys : List FileObject). find p (filter is_visible ys)) (drop_here xs k x e) ∙ go (is_visible x) (p x) refl refl h
  where
    go : (v q : Bool) → is_visible x ≡ v → p x ≡ q → (v && q) ≡ false
        → find p (cond (is_visible x) (x ∷ filter is_visible (drop (k + 1) xs)) (filter is_visible (drop (k + 1) xs))) ≡ find p (filter is_visible (drop (k + 1) xs))
    go true true ev eq f = absurd (cc)
    go true false ev eq f = rw (ev, eq) refl
    go false q ev eq f = rw ev refl

pub first_none : (p : FileObject → Bool) (xs : List FileObject) (k : ℕ) → length xs ≤ k → first_from p xs k ≡ None
first_none p xs k h = ap (λ (ys : List FileObject). find p (filter is_visible ys)) (drop_of_length-le xs h)

-- ---- lost words

pub find-append : {X : Type 0} (p : X → Bool) (xs ys : List X) → find p (xs ++ ys) ≡ option_or (find p xs) (find p ys)
find-append p [] ys = refl
find-append p (x ∷ xs) ys = go (p x) (find-append p xs ys)
  where
    go : (b : Bool) → find p (xs ++ ys) ≡ option_or (find p xs) (find p ys)
        → cond b (Some x) (find p (xs ++ ys)) ≡ option_or (cond b (Some x) (find p xs)) (find p ys)
    go true later = refl
    go false later = later

abbrev pub lost : File → List (ℕ × ℕ) → Option ℕ
lost f es = option_map (λ e. e.0) (find (λ e. is_lost f e.1) es)

-- the place of the first lost word of the visible objects from k on
abbrev pub lost_from : File → List FileObject → ℕ → Option ℕ
lost_from f xs k = lost f (flat_map references (filter is_visible (drop k xs)))

abbrev pub lost_of : File → FileObject → Option ℕ
lost_of f x = cond (is_visible x) (lost f (references x)) None

lost-append : (f : File) (es fs : List (ℕ × ℕ)) → lost f (es ++ fs) ≡ option_or (lost f es) (lost f fs)
lost-append f es fs = ap (option_map (λ (e : ℕ × ℕ). e.0)) (find-append (λ (e : ℕ × ℕ). is_lost f e.1) es fs) ∙ go (find (λ (e : ℕ × ℕ). is_lost f e.1) es)
  where
    go : (r : Option (ℕ × ℕ)) → option_map (λ (e : ℕ × ℕ). e.0) (option_or r (find (λ (e : ℕ × ℕ). is_lost f e.1) fs)) ≡ option_or (option_map (λ (e : ℕ × ℕ). e.0) r) (lost f fs)
    go None = refl
    go (Some e) = refl

lost_next : (f : File) (xs : List FileObject) (k : ℕ) (x : FileObject) → slice_get xs k ≡ Some x
    → lost_from f xs k ≡ option_or (lost_of f x) (lost_from f xs (k + 1))
lost_next f xs k x e = ap (λ (ys : List FileObject). lost f (flat_map references (filter is_visible ys))) (drop_here xs k x e) ∙ go (is_visible x) refl
  where
    rest : List FileObject
    rest = filter is_visible (drop (k + 1) xs)

    go : (v : Bool) → is_visible x ≡ v → lost f (flat_map references (cond (is_visible x) (x ∷ rest) rest)) ≡ option_or (cond (is_visible x) (lost f (references x)) None) (lost f (flat_map references rest))
    go true ev = rw ev (lost-append f (references x) (flat_map references rest))
    go false ev = rw ev refl

pub lost_here : (f : File) (xs : List FileObject) (k : ℕ) (x : FileObject) (place : ℕ) → slice_get xs k ≡ Some x → lost_of f x ≡ Some place
    → lost_from f xs k ≡ Some place
lost_here f xs k x place e h = lost_next f xs k x e ∙ ap (λ (r : Option ℕ). option_or r (lost_from f xs (k + 1))) h

pub lost_later : (f : File) (xs : List FileObject) (k : ℕ) (x : FileObject) → slice_get xs k ≡ Some x → lost_of f x ≡ None
    → lost_from f xs k ≡ lost_from f xs (k + 1)
lost_later f xs k x e h = lost_next f xs k x e ∙ ap (λ (r : Option ℕ). option_or r (lost_from f xs (k + 1))) h

pub lost_none : (f : File) (xs : List FileObject) (k : ℕ) → length xs ≤ k → lost_from f xs k ≡ None
lost_none f xs k h = ap (λ (ys : List FileObject). lost f (flat_map references (filter is_visible ys))) (drop_of_length-le xs h)

-- the same within the words of one object
abbrev pub lost_among : File → ℕ → List ℕ → ℕ → Option ℕ
lost_among f place words i = lost f (enumerate_from (place + i) (drop i words))

word_next : (f : File) (place : ℕ) (words : List ℕ) (i : ℕ) → i < length words
    → lost_among f place words i ≡ cond (is_lost f (get_or words i 0)) (Some (place + i)) (lost_among f place words (i + 1))
word_next f place words i h = ap (λ (ws : List ℕ). lost f (enumerate_from (place + i) ws)) (drop_more words i 0 h) ∙ go (is_lost f (get_or words i 0)) refl
  where
    next : lost f (enumerate_from (place + i + 1) (drop (i + 1) words)) ≡ lost_among f place words (i + 1)
    next = ap (λ n. lost f (enumerate_from n (drop (i + 1) words))) (omega arith)

    go : (b : Bool) → is_lost f (get_or words i 0) ≡ b → lost f (enumerate_from (place + i) (get_or words i 0 ∷ drop (i + 1) words))
        ≡ cond (is_lost f (get_or words i 0)) (Some (place + i)) (lost_among f place words (i + 1))
    go true e = rw e refl
    go false e = rw e next

pub word_here : (f : File) (place : ℕ) (words : List ℕ) (i : ℕ) → i < length words → is_lost f (get_or words i 0) ≡ true
    → lost_among f place words i ≡ Some (place + i)
word_here f place words i h e = word_next f place words i h ∙ rw e refl

pub word_later : (f : File) (place : ℕ) (words : List ℕ) (i : ℕ) → i < length words → is_lost f (get_or words i 0) ≡ false
    → lost_among f place words i ≡ lost_among f place words (i + 1)
word_later f place words i h e = word_next f place words i h ∙ rw e refl

pub words_end : (f : File) (place : ℕ) (words : List ℕ) (i : ℕ) → length words ≤ i → lost_among f place words i ≡ None
words_end f place words i h = ap (λ (ws : List ℕ). lost f (enumerate_from (place + i) ws)) (drop_of_length-le words h)

pub words_all : (f : File) (place : ℕ) (words : List ℕ) → lost_among f place words 0 ≡ lost f (enumerate_from place words)
words_all f place words = let here : place + 0 ≡ place = omega arith in ap (λ n. lost f (enumerate_from n words)) here
