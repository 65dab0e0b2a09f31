-- What holds of all numbers below a bound.
use Rattle.std.proofs.Common.{◌≡◌, ℕ, zero, suc, ◌+◌, ◌<◌, ◌&&◌, inl, inr, Bool, true, false, refl, ap, sym, ◌∙◌, arith, add-one}
use Rattle.std.proofs.lemmas.Bool.Decides.{eqb_tells}
use Rattle.std.specs.FinMap.{insert}
use Rattle.cs_model.specs.ImageFile.{File, is_nil_word}
use Rattle.cs_model.specs.ImageFault.{all_below, entry_in, table_size}
use Rattle.cs_image.specs.Loading.{address_named, classes_at}

pub table_size_is : table_size ≡ 16384
unfolding table_size
table_size_is = refl

pub all_below_more : (n : ℕ) (p : ℕ → Bool) → all_below n p ≡ true → p n ≡ true → all_below (n + 1) p ≡ true
all_below_more n p all here = rw (add-one, all, here) refl

pub all_below_fails : (n k : ℕ) (p : ℕ → Bool) → k < n → p k ≡ false → all_below n p ≡ false
all_below_fails zero k p h e = absurd (omega (arith, h))
all_below_fails (suc n) k p h e = elim (eqb_tells k n) as (λ _. (all_below n p && p n) ≡ false) [
  | inl same ↦ rw (ap p (sym same.1) ∙ e) (no_right (all_below n p))
  | inr other ↦ rw (all_below_fails n k p (omega (arith, h, other.1)) e) refl
]
  where
    no_right : (b : Bool) → (b && false) ≡ false
    no_right true = refl
    no_right false = refl

pub classes_at-filled : (f : File) (n : ℕ) → is_nil_word f (entry_in f n) ≡ false → classes_at f (n + 1) ≡ insert (classes_at f n) n (address_named f (entry_in f n))
classes_at-filled f n h = rw (add-one, h) refl

pub classes_at-empty : (f : File) (n : ℕ) → is_nil_word f (entry_in f n) ≡ true → classes_at f (n + 1) ≡ classes_at f n
classes_at-empty f n h = rw (add-one, h) refl
