-- The lines between line feeds, without an empty one at the end.
use Rattle.std.proofs.Common.{◌≡◌, ℕ, true, false, ◌-◌, List, [], ◌∷◌, Some, length, take, refl, sym, arith, ap}
use Rattle.std.specs.Borrow.{Bor}
use Rattle.std.specs.List.{slice_get}
use Rattle.cs_model.specs.Text.{is_empty, lines_in}
use Rattle.cs_script.specs.Reading.{texts}

-- the last part stays where it isn't empty
keep : (xs : List (Bor (List ℕ))) (x p : Bor (List ℕ)) → slice_get (x ∷ xs) (length xs) ≡ Some p → is_empty p.now ≡ false
    → texts (x ∷ xs) ≡ lines_in (texts (x ∷ xs))
keep [] x p last full =
    let same : x ≡ p = grind arith in
    rw (same, full) refl
keep (y ∷ xs) x p last full = ap (λ rest. x.now ∷ rest) (keep xs y p last full)

-- and goes where it is
cut : (xs : List (Bor (List ℕ))) (x p : Bor (List ℕ)) → slice_get (x ∷ xs) (length xs) ≡ Some p → is_empty p.now ≡ true
    → texts (take (length xs) (x ∷ xs)) ≡ lines_in (texts (x ∷ xs))
cut [] x p last bare =
    let same : x ≡ p = grind arith in
    rw (same, bare) refl
cut (y ∷ xs) x p last bare = ap (λ rest. x.now ∷ rest) (cut xs y p last bare)

before_end : (xs : List (Bor (List ℕ))) (x : Bor (List ℕ)) → length (x ∷ xs) - 1 ≡ length xs
before_end xs x = omega arith

pub lines_in-keep : (xs : List (Bor (List ℕ))) (p : Bor (List ℕ)) → Some p ≡ slice_get xs (length xs - 1) → is_empty p.now ≡ false
    → texts xs ≡ lines_in (texts xs)
lines_in-keep [] p last full = refl
lines_in-keep (x ∷ xs) p last full = keep xs x p (sym (rw (before_end xs x) at last)) full

pub lines_in-cut : (xs ys : List (Bor (List ℕ))) (m : ℕ) (p : Bor (List ℕ)) → m ≡ length xs → ys ≡ take (m - 1) xs
    → Some p ≡ slice_get xs (length xs - 1) → is_empty p.now ≡ true → texts ys ≡ lines_in (texts xs)
lines_in-cut [] ys m p len are last bare = absurd (grind (arith, last))
lines_in-cut (x ∷ xs) ys m p len are last bare =
    let rest : ys ≡ take (length xs) (x ∷ xs) = rw (len, before_end xs x) at are in
    rw rest (cut xs x p (sym (rw (before_end xs x) at last)) bare)
