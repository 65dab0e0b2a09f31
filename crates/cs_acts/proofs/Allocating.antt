-- What follows of an object that can be made: its class is that of no immediate and no context, and has an entry in the table.
use Rattle.std.proofs.Common.{◌≡◌, ◌∙◌, ℕ, ◌<◌, ◌≤◌, ◌^◌, Bool, true, false, refl, sym, ap, Option, Some, None, is_some, option_map, List, arith}
use Rattle.std.specs.Prelude.{◌==◌, ◌≢◌, ◌||◌, nat_lt}
use Rattle.std.specs.FinMap.{FinMap, get}
use Rattle.std.specs.Ordering.{nat_cmp}
use Rattle.std.proofs.lemmas.Bool.{false≢true}
use Rattle.std.proofs.lemmas.Bool.Decides.{nat_tests}
use Rattle.cs_heap.specs.Format.{is_code}
use Rattle.cs_heap.specs.Object.{Object}
use Rattle.cs_classes.specs.Meaning.{classes_of}
use Rattle.cs_classes.specs.Sound.{is_weak}
use Rattle.cs_classes.proofs.Wholes.{get-classes_of}
use Rattle.cs_model.specs.State.{Kept}
use Rattle.cs_acts.specs.Made.{CanAllocate}

last_apart : (a b c d : Bool) → (a || b || c || d) ≡ false → d ≡ false
last_apart a b c false h = refl
last_apart true b c true h = absurd (cc)
last_apart false true c true h = absurd (cc)
last_apart false false true true h = absurd (cc)
last_apart false false false true h = absurd (cc)

last_otherwise : (a b c : Bool) → (a || b || c) ≡ false → c ≡ false
last_otherwise a b false h = refl
last_otherwise true b true h = absurd (cc)
last_otherwise false true true h = absurd (cc)
last_otherwise false false true h = absurd (cc)

first_otherwise : (a b c : Bool) → (a || b || c) ≡ false → (a || b) ≡ false
first_otherwise false false c h = refl
first_otherwise true b c h = absurd (cc)
first_otherwise false true c h = absurd (cc)

-- an index that isn't made apart is none of the first ones
first_apart : (n : ℕ) → (n == 1 || n == 2 || n == 3 || n == 36) ≡ false → (n ≢ 1) × (n ≢ 2) × (n ≢ 3)
first_apart n h = (grind (arith, nat_tests, h), grind (arith, nat_tests, h), grind (arith, nat_tests, h))

module _ (k : Kept) (class format slots : ℕ) (fits : CanAllocate k class format slots) where
  pub no_context_class : (class == 36) ≡ false
  no_context_class = last_apart (class == 1) (class == 2) (class == 3) (class == 36) fits.common

  pub no_immediate_class : (class ≢ 1) × (class ≢ 2) × (class ≢ 3)
  no_immediate_class = first_apart class fits.common

  pub no_method_format : is_code format ≡ false
  no_method_format = last_otherwise (format == 4) (format == 5) (is_code format) fits.plain

  pub no_weak_format : is_weak format ≡ false
  no_weak_format = first_otherwise (format == 4) (format == 5) (is_code format) fits.plain

mapped : (f : ℕ → ℕ) (o : Option ℕ) → is_some (option_map f o) ≡ true → is_some o ≡ true
mapped f None e = e
mapped f (Some n) e = refl

-- an entry of the state's table is one of the world's
pub entry_in : (os : List Object) (table : FinMap nat_cmp ℕ) (class : ℕ) → is_some (get (classes_of os table) class) ≡ true → is_some (get table class) ≡ true
entry_in os table class h = mapped _ (get table class) (ap is_some (sym (get-classes_of os table class)) ∙ h)

-- no class index from the table's length on has an entry
pub class_below : (table : FinMap nat_cmp ℕ) (class : ℕ) → is_some (get table class) ≡ true → ((index : ℕ) → 16384 ≤ index → get table index ≡ None) → class < 2 ^ 22
class_below table class entry beyond = go (nat_lt class 16384) refl
  where
    go : (b : Bool) → nat_lt class 16384 ≡ b → class < 2 ^ 22
    go true e = let less : class < 16384 = grind (arith, nat_tests, e) in omega (arith, less)
    go false e = absurd (false≢true (sym (ap is_some (beyond class (grind (arith, nat_tests, e)))) ∙ entry))

-- what isn't refused is within the limit
pub within : (limit words : ℕ) → (limit < words → ⊥) → words ≤ limit
within limit words not_over = go (nat_lt limit words) refl
  where
    go : (b : Bool) → nat_lt limit words ≡ b → words ≤ limit
    go true e = absurd (not_over (grind (arith, nat_tests, e)))
    go false e = grind (arith, nat_tests, e)
