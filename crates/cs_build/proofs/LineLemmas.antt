-- Where a byte stands first in a text.
use Rattle.std.proofs.Common.{◌≡◌, ℕ, Bool, true, false, ◌+◌, ◌<◌, ◌≤◌, ◌==◌, ◌||◌, cond, Some, None, nat_lt, if◌then◌else◌, List, [], ◌∷◌, length, suc, take, ap, refl, sym, ◌∙◌, ◌-◌, arith, rules}
use Rattle.std.specs.Prelude.{not, Option, IfSome, IfNone}
use Rattle.std.proofs.lemmas.Bool.Decides.{nat_tests}
use Rattle.std.specs.List.{before_first, position_or_len, slice_get}
use Rattle.cs_model.specs.BuilderText.{has_byte}
use Rattle.std.specs.Borrow.{Bor}
use Rattle.cs_model.specs.Text.{is_empty, lines_in}
use Rattle.cs_build.specs.Narrow.{word_texts}
use Rattle.std.proofs.lemmas.Bool.{false≢true}

-- a byte is there exactly where its first place is below the length
pub has_byte-place : (b : ℕ) (text : List ℕ) → position_or_len (λ c. c == b) text < length text → has_byte b text ≡ true
has_byte-place b [] h = absurd (omega (arith, h))
has_byte-place b (c ∷ text) h = go (c == b) h (λ k. has_byte-place b text k)
  where
    go : (e : Bool) → cond (not e) (1 + position_or_len (λ c. c == b) text) 0 < suc (length text)
        → (position_or_len (λ c. c == b) text < length text → has_byte b text ≡ true) → (e || has_byte b text) ≡ true
    go true h rest = refl
    go false h rest = rest (omega (arith, h))

pub has_byte-none : (b : ℕ) (text : List ℕ) → length text ≤ position_or_len (λ c. c == b) text → has_byte b text ≡ false
has_byte-none b [] h = refl
has_byte-none b (c ∷ text) h = go (c == b) h (λ k. has_byte-none b text k)
  where
    go : (e : Bool) → suc (length text) ≤ cond (not e) (1 + position_or_len (λ c. c == b) text) 0
        → (length text ≤ position_or_len (λ c. c == b) text → has_byte b text ≡ false) → (e || has_byte b text) ≡ false
    go true h rest = absurd (omega (arith, h))
    go false h rest = rest (omega (arith, h))

pub ruleset places = (has_byte-place, has_byte-none)

-- a place that was found, or that none was
pub place-some : (r : Option ℕ) (place len : ℕ) → r ≡ (if nat_lt place len then Some place else None) → IfSome r (λ at. (at ≡ place) × (at < len))
place-some None place len e = search rules
place-some (Some at) place len e = grind (arith, nat_tests)

pub place-none : (r : Option ℕ) (place len : ℕ) → r ≡ (if nat_lt place len then Some place else None) → IfNone r (len ≤ place)
place-none None place len e = grind (arith, nat_tests)
place-none (Some at) place len e = search rules

-- the last part stays where it isn't empty
keep : (xs : List (Bor (List ℕ))) (x p : Bor (List ℕ)) → slice_get (x ∷ xs) (length xs) ≡ Some p → is_empty p.now ≡ false
    → word_texts (x ∷ xs) ≡ lines_in (word_texts (x ∷ xs))
keep [] x p last full =
    let same : x ≡ p = grind arith in
    rw (same, full) refl
keep (y ∷ xs) x p last full = ap (λ rest. x.now ∷ rest) (keep xs y p last full)

-- and goes where it is
cut : (xs : List (Bor (List ℕ))) (x p : Bor (List ℕ)) → slice_get (x ∷ xs) (length xs) ≡ Some p → is_empty p.now ≡ true
    → word_texts (take (length xs) (x ∷ xs)) ≡ lines_in (word_texts (x ∷ xs))
cut [] x p last bare =
    let same : x ≡ p = grind arith in
    rw (same, bare) refl
cut (y ∷ xs) x p last bare = ap (λ rest. x.now ∷ rest) (cut xs y p last bare)

before_end : (xs : List (Bor (List ℕ))) (x : Bor (List ℕ)) → length (x ∷ xs) - 1 ≡ length xs
before_end xs x = omega arith

pub lines_in-keep : (xs : List (Bor (List ℕ))) (p : Bor (List ℕ)) → Some p ≡ slice_get xs (length xs - 1) → is_empty p.now ≡ false
    → word_texts xs ≡ lines_in (word_texts xs)
lines_in-keep [] p last full = refl
lines_in-keep (x ∷ xs) p last full = keep xs x p (sym (rw (before_end xs x) at last)) full

pub lines_in-cut : (xs ys : List (Bor (List ℕ))) (m : ℕ) (p : Bor (List ℕ)) → m ≡ length xs → ys ≡ take (m - 1) xs
    → Some p ≡ slice_get xs (length xs - 1) → is_empty p.now ≡ true → word_texts ys ≡ lines_in (word_texts xs)
lines_in-cut [] ys m p len are last bare = absurd (grind (arith, last))
lines_in-cut (x ∷ xs) ys m p len are last bare =
    let rest : ys ≡ take (length xs) (x ∷ xs) = rw (len, before_end xs x) at are in
    rw rest (cut xs x p (sym (rw (before_end xs x) at last)) bare)

-- what stands in front of a byte that isn't there is all
pub before_first-none : (b : ℕ) (text : List ℕ) → has_byte b text ≡ false → before_first (λ c. c == b) text ≡ text
before_first-none b [] h = refl
before_first-none b (c ∷ text) h = go (c == b) h (λ k. before_first-none b text k)
  where
    go : (e : Bool) → (e || has_byte b text) ≡ false → (has_byte b text ≡ false → before_first (λ c. c == b) text ≡ text)
        → take (cond (not e) (1 + position_or_len (λ c. c == b) text) 0) (c ∷ text) ≡ c ∷ text
    go true h rest = absurd (false≢true (sym h))
    go false h rest =
        let on : 1 + position_or_len (λ c. c == b) text ≡ suc (position_or_len (λ c. c == b) text) = omega arith in
        ap (λ (n : ℕ). take n (c ∷ text)) on ∙ ap (λ t. c ∷ t) (rest h)
