-- The bits of SmallIntegers: `&`, `|` and `^` give SmallIntegers.
use Rattle.std.proofs.Common.{◌≡◌, ◌∙◌, ◌⊎◌, inl, inr, subst, sym, suc, ◌-◌, ℕ, ℤ, pos, negsuc, ◌/◌, ◌^◌, ◌<◌, ap₂, refl, Bool, true, false, Some, None, option_map, arith, w32, bit_and, bit_or, bit_xor}
use Rattle.std.specs.Int.{int_bit_and, int_bit_or, int_bit_xor, cast_signed, cast_unsigned}
use Rattle.std.proofs.lemmas.Int.{ints, to_z_pos}
use Rattle.std.proofs.Math.Facts.{to_z-neg}
use Rattle.std.specs.Int.Bits.{and_lt}
use Rattle.std.proofs.lemmas.Nat.{and_shr, or_lt, or_shr, xor_lt, xor_shr}
use Rattle.std.specs.Prelude.{if◌then◌else◌}
use Rattle.cs_model.specs.Ref as ref
use Rattle.cs_model.specs.State.{Kept}
use Rattle.cs_model.specs.Number.{boolean, comparison, computation, number_result}
use Rattle.cs_word.specs.Word.{IsSmall}
use Rattle.cs_acts.specs.Arithmetic.{is_comparison}

-- the two highest bits are equal
record IsEven (n : ℕ) : Type 0 where
  pub below : n < 2 ^ 32
  pub high : (n / 2 ^ 30 ≡ 0) ⊎ (n / 2 ^ 30 ≡ 3)

even : (a : ℤ) → IsSmall a → IsEven (cast_unsigned w32 a)
even (pos n) h = record { below = omega (arith, ints, h.0, h.1); high = inl (omega (arith, ints, h.0, h.1)) }
even (negsuc n) h = record { below = omega (arith, ints, h.0, h.1); high = inr (omega (arith, ints, h.0, h.1)) }

small : (n : ℕ) → IsEven n → IsSmall (cast_signed w32 n)
small n h = go h.high
  where
    low : (m : ℕ) → m < 2 ^ 30 → IsSmall (pos m)
    low m l = (omega (arith, ints, l), omega (arith, ints, l))

    negative : (m : ℕ) → m < 2 ^ 30 → IsSmall (negsuc m)
    negative m l = (omega (arith, ints, l), omega (arith, ints, l))

    go : (n / 2 ^ 30 ≡ 0) ⊎ (n / 2 ^ 30 ≡ 3) → IsSmall (cast_signed w32 n)
    go (inl e) = subst IsSmall (sym (to_z_pos w32 n (omega (arith, e)))) (low n (omega (arith, e)))
    go (inr e) =
        let k : ℕ = 2 ^ 32 - 1 - n in
        let is : 2 ^ 32 - suc k ≡ n = omega (arith, e, h.below) in
        subst (λ m. IsSmall (cast_signed w32 m)) is (subst IsSmall (sym (to_z-neg w32 k (omega (arith, e, h.below)))) (negative k (omega (arith, e, h.below))))

and_even : (m n : ℕ) → IsEven m → IsEven n → IsEven (bit_and m n)
and_even m n h i = record { below = and_lt 32 m n h.below i.below; high = go h.high i.high }
  where
    go : (m / 2 ^ 30 ≡ 0) ⊎ (m / 2 ^ 30 ≡ 3) → (n / 2 ^ 30 ≡ 0) ⊎ (n / 2 ^ 30 ≡ 3) → (bit_and m n / 2 ^ 30 ≡ 0) ⊎ (bit_and m n / 2 ^ 30 ≡ 3)
    go (inl e) (inl f) = inl (and_shr m n 30 ∙ ap₂ bit_and e f)
    go (inl e) (inr f) = inl (and_shr m n 30 ∙ ap₂ bit_and e f)
    go (inr e) (inl f) = inl (and_shr m n 30 ∙ ap₂ bit_and e f)
    go (inr e) (inr f) = inr (and_shr m n 30 ∙ ap₂ bit_and e f)

or_even : (m n : ℕ) → IsEven m → IsEven n → IsEven (bit_or m n)
or_even m n h i = record { below = or_lt 32 m n h.below i.below; high = go h.high i.high }
  where
    go : (m / 2 ^ 30 ≡ 0) ⊎ (m / 2 ^ 30 ≡ 3) → (n / 2 ^ 30 ≡ 0) ⊎ (n / 2 ^ 30 ≡ 3) → (bit_or m n / 2 ^ 30 ≡ 0) ⊎ (bit_or m n / 2 ^ 30 ≡ 3)
    go (inl e) (inl f) = inl (or_shr m n 30 ∙ ap₂ bit_or e f)
    go (inl e) (inr f) = inr (or_shr m n 30 ∙ ap₂ bit_or e f)
    go (inr e) (inl f) = inr (or_shr m n 30 ∙ ap₂ bit_or e f)
    go (inr e) (inr f) = inr (or_shr m n 30 ∙ ap₂ bit_or e f)

xor_even : (m n : ℕ) → IsEven m → IsEven n → IsEven (bit_xor m n)
xor_even m n h i = record { below = xor_lt 32 m n h.below i.below; high = go h.high i.high }
  where
    go : (m / 2 ^ 30 ≡ 0) ⊎ (m / 2 ^ 30 ≡ 3) → (n / 2 ^ 30 ≡ 0) ⊎ (n / 2 ^ 30 ≡ 3) → (bit_xor m n / 2 ^ 30 ≡ 0) ⊎ (bit_xor m n / 2 ^ 30 ≡ 3)
    go (inl e) (inl f) = inl (xor_shr m n 30 ∙ ap₂ bit_xor e f)
    go (inl e) (inr f) = inr (xor_shr m n 30 ∙ ap₂ bit_xor e f)
    go (inr e) (inl f) = inr (xor_shr m n 30 ∙ ap₂ bit_xor e f)
    go (inr e) (inr f) = inl (xor_shr m n 30 ∙ ap₂ bit_xor e f)

pub and-small : (a b : ℤ) → IsSmall a → IsSmall b → IsSmall (int_bit_and w32 a b)
and-small a b h i = small (bit_and (cast_unsigned w32 a) (cast_unsigned w32 b)) (and_even (cast_unsigned w32 a) (cast_unsigned w32 b) (even a h) (even b i))

pub or-small : (a b : ℤ) → IsSmall a → IsSmall b → IsSmall (int_bit_or w32 a b)
or-small a b h i = small (bit_or (cast_unsigned w32 a) (cast_unsigned w32 b)) (or_even (cast_unsigned w32 a) (cast_unsigned w32 b) (even a h) (even b i))

pub xor-small : (a b : ℤ) → IsSmall a → IsSmall b → IsSmall (int_bit_xor w32 a b)
xor-small a b h i = small (bit_xor (cast_unsigned w32 a) (cast_unsigned w32 b)) (xor_even (cast_unsigned w32 a) (cast_unsigned w32 b) (even a h) (even b i))

-- what is no comparison is computed
pub number-computed : (k : Kept) (n : ℕ) (a b : ℤ) (truth : Bool) → None ≡ (if is_comparison n then Some truth else None) → number_result k n a b ≡ option_map (λ z. ref.Small z) (computation n a b)
unfolding number_result
number-computed k n a b truth none = go (is_comparison n) none
  where
    go : (c : Bool) → None ≡ (if c then Some truth else None) → (if c then Some (boolean k (comparison n a b)) else option_map (λ z. ref.Small z) (computation n a b)) ≡ option_map (λ z. ref.Small z) (computation n a b)
    go true h = absurd (cc)
    go false h = refl
