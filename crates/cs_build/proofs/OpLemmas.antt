-- Instructions whose numbers are too large for a byte come in no form.
use Rattle.std.proofs.Common.{◌+◌, length, get_or, drop, drop-cons, add-one, ◌≡◌, ℕ, Bool, true, false, ◌<◌, ◌≤◌, List, [], ◌∷◌, Some, None, refl, arith, if◌then◌else◌, nat_lt}
use Rattle.std.specs.Prelude.{find}
use Rattle.std.proofs.lemmas.Bool.Decides.{nat_tests}
use Rattle.cs_model.specs.declared.instruction.Op.{Op}
use Rattle.cs_model.specs.BuilderText.{op_named, ops_of_one}
use Rattle.cs_model.specs.BuilderFault.{plain_bytes}
use Rattle.cs_model.specs.Assemble.{IsInstr, has_form, op_name}
use Rattle.cs_model.specs.declared.instruction.Instr.{Instr}
use Rattle.cs_decode.proofs.HasForm.{IsInstr-has_form}
use Rattle.cs_decode.proofs.Assembled.{has_form-IsInstr}
use Rattle.std.proofs.lemmas.Bool.{false≢true}
use Rattle.std.proofs.lemmas.List.{drop_all}
use Rattle.std.specs.Str.{bytes_eq}
use Rattle.cs_build.specs.Narrow.{narrow_op}

abbrev pub Formless : Op → Type 0
Formless o = plain_bytes (Some o) ≡ None

-- one instruction more that comes in no form
formless-more : (p : Op → Bool) (o : Op) (ops : List Op) → Formless o → narrow_op (find p ops) ≡ None → narrow_op (find p (o ∷ ops)) ≡ None
formless-more p o ops none rest = go (p o)
  where
    go : (b : Bool) → narrow_op (if b then Some o else find p ops) ≡ None
    go true = rw none refl
    go false = rest

abbrev pub AllFormless : List Op → Type 0
AllFormless [] = Unit {0}
AllFormless (o ∷ ops) = Formless o × AllFormless ops

pub formless-find : (p : Op → Bool) (ops : List Op) → AllFormless ops → narrow_op (find p ops) ≡ None
formless-find p [] h = refl
formless-find p (o ∷ ops) h = formless-more p o ops h.0 (formless-find p ops h.1)

above : (n m : ℕ) → m ≤ n → nat_lt n m ≡ false
above n m h = grind (arith, nat_tests)

module _ (n : ℕ) (wide : 255 < n) where
  pub e3 : nat_lt n 3 ≡ false
  e3 = above n 3 (omega (arith, wide))

  pub e4 : nat_lt n 4 ≡ false
  e4 = above n 4 (omega (arith, wide))

  pub e0 : nat_lt n 0 ≡ false
  e0 = above n 0 (omega (arith, wide))

  pub e8 : nat_lt n 8 ≡ false
  e8 = above n 8 (omega (arith, wide))

  pub e16 : nat_lt n 16 ≡ false
  e16 = above n 16 (omega (arith, wide))

  pub e32 : nat_lt n 32 ≡ false
  e32 = above n 32 (omega (arith, wide))

  pub e64 : nat_lt n 64 ≡ false
  e64 = above n 64 (omega (arith, wide))

  pub e128 : nat_lt n 128 ≡ false
  e128 = above n 128 (omega (arith, wide))

  pub e256 : nat_lt n 256 ≡ false
  e256 = above n 256 (omega (arith, wide))

  pub formless : AllFormless (ops_of_one n)
  formless = (simp (e16, e64, e256) refl, (simp (e16, e64, e0) refl, (simp (e32, e64, e256) refl, (simp (e32, e64, e256) refl, (simp (e8, e64, e256) refl, (simp (e8, e64, e0) refl, (simp (e0, e64) refl, (simp (e0, e64, e256) refl, (simp (e0, e64) refl, (simp (e0, e64, e256) refl, (simp (e128) refl, (simp (e128) refl, (simp (e16) refl, (simp (e16) refl, tt))))))))))))))

-- an instruction that decodes has its form
pub has_form-tells : (i : Instr) (b : Bool) → (b ≡ true → IsInstr i) × (IsInstr i → b ≡ true) → has_form i.len i.op ≡ b
has_form-tells i true h = IsInstr-has_form i (h.0 refl)
has_form-tells i false h = go (has_form i.len i.op) refl
  where
    go : (r : Bool) → has_form i.len i.op ≡ r → r ≡ false
    go true e = absurd (false≢true (h.1 (has_form-IsInstr i e)))
    go false e = refl

pub ruleset has_form_tells = (has_form-tells)

-- the one of that word, or none behind those that aren't
pub op_named-yes : (word : List ℕ) (ops : List Op) (i : ℕ) (o : Op) → i < length ops → o ≡ get_or ops i o
    → bytes_eq (op_name o) word ≡ true → op_named word (drop i ops) ≡ Some o
op_named-yes word ops i o h e is = rw (drop-cons ops i o, ← e, is) refl

pub op_named-no : (word : List ℕ) (ops : List Op) (i : ℕ) (o : Op) → i < length ops → o ≡ get_or ops i o
    → bytes_eq (op_name o) word ≡ false → op_named word (drop i ops) ≡ op_named word (drop (i + 1) ops)
op_named-no word ops i o h e is = rw (add-one, drop-cons ops i o, ← e, is) refl

pub op_named-end : (word : List ℕ) (ops : List Op) (i : ℕ) → length ops ≤ i → op_named word (drop i ops) ≡ None
op_named-end word ops i h = rw (drop_all i ops h) refl

pub ruleset finding = (op_named-yes, op_named-no, op_named-end)
