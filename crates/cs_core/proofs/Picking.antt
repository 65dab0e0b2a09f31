-- Which primitive a number names.
use Rattle.std.proofs.Common.{◌≡◌, ◌∙◌, ℕ, ◌+◌, Bool, true, false, refl, ap, arith, Some, not, nat_le}
use Rattle.std.specs.Prelude.{◌==◌, ◌&&◌, ◌||◌}
use Rattle.std.proofs.lemmas.Bool.{or_parts}
use Rattle.std.proofs.lemmas.Bool.Decides.{nat_tests}
use Rattle.cs_model.specs.State.{Kept}
use Rattle.cs_model.specs.Context.{is_context_ref}
use Rattle.cs_model.specs.PrimAnswer.{receiver}
use Rattle.cs_model.specs.PrimTable.{evaluates, is_listed, is_object_number, is_perform, is_process_number, is_run_number}
use Rattle.cs_model.specs.Built.{is_built_number, is_unbuilt, is_unbuilt_on_contexts, is_unbuilt_on_runs}
use Rattle.cs_model.proofs.Listing.{other}
use Rattle.cs_prim_ctx.specs.Numbers.{reads_context}
use Rattle.cs_prim_num.specs.Numbers.{computes, is_on_numbers}
use Rattle.cs_unwind.specs.Primitive.{is_about_marks, unwinds}
use Rattle.cs_core.proofs.Laying.{is_same}

-- a number of none of the crates that are there, and that isn't missing
pub record IsElsewhere (number : ℕ) : Type 0 where
  pub write : (number == 900) ≡ false
  pub numbers : is_on_numbers number ≡ false
  pub unwind : unwinds number ≡ false
  pub stack_value : (number == 210) ≡ false
  pub stack_depth : (number == 212) ≡ false
  pub missing : is_unbuilt number ≡ false

three : (n number : ℕ) → (number == n) ≡ false → (number == (n + 1)) ≡ false → (number == (n + 2)) ≡ false → (nat_le n number && nat_le number (n + 2)) ≡ false
three n number a b c = grind (arith, nat_tests, a, b, c)

-- is not listed
module _ (number : ℕ) (h : IsElsewhere number) where
  missing : (n : ℕ) → is_unbuilt n ≡ true → (number == n) ≡ false
  missing n e = other is_unbuilt number n h.missing e

  families : (is_object_number number || is_perform number || is_process_number number) ≡ false
  families =
      let parts = or_parts (is_object_number number || is_perform number || is_process_number number || is_unbuilt_on_runs number) (is_unbuilt_on_contexts number) h.missing in
      (or_parts (is_object_number number || is_perform number || is_process_number number) (is_unbuilt_on_runs number) parts.0).0

  runs : is_run_number number ≡ false
  runs = rw (missing 97 refl, missing 113 refl, missing 135 refl, missing 136 refl, h.write, missing 901 refl) refl

  marks : (nat_le 195 number && nat_le number 197) ≡ false
  marks = three 195 number (other unwinds number 195 h.unwind refl) (missing 196 refl) (other unwinds number 197 h.unwind refl)

  stacks : (nat_le 210 number && nat_le number 212) ≡ false
  stacks = three 210 number h.stack_value (missing 211 refl) h.stack_depth

  pub not_listed : is_listed number ≡ false
  not_listed =
      let computing = (or_parts (computes number) (nat_le 21 number && nat_le number 37) (or_parts (computes number || (nat_le 21 number && nat_le number 37)) (nat_le 40 number && nat_le number 59) h.numbers).0).0 in
      let two = or_parts (is_object_number number || is_perform number) (is_process_number number) families in
      let one = or_parts (is_object_number number) (is_perform number) two.0 in
      let evaluating = (or_parts (is_about_marks number) (evaluates number) h.unwind).1 in
      rw (computing, one.0, one.1, two.1, marks, evaluating, stacks, runs) refl

-- ---- what is built

built_unless : (k : Kept) (number args : ℕ) → is_unbuilt number ≡ false → is_built_number k args (Some number) ≡ true
built_unless k number args h = ap (λ (b : Bool). not b || (number == 73 && is_context_ref k (receiver k args))) h

pub built_numbers : (k : Kept) (number args : ℕ) → is_on_numbers number ≡ true → is_built_number k args (Some number) ≡ true
built_numbers k number args h = built_unless k number args unbuilt
  where
    high : nat_le 60 number ≡ false
    high = grind (arith, nat_tests, h)

    below : (m : ℕ) → nat_le 60 m ≡ true → nat_le m number ≡ false
    below m e = grind (arith, nat_tests, high, e)

    above : (n : ℕ) → nat_le 60 n ≡ true → (number == n) ≡ false
    above n e = other (λ m. nat_le 60 m) number n high e

    not_18 : (number == 18) ≡ false
    not_18 = other (λ m. not (is_on_numbers m)) number 18 (ap not h) refl

    unbuilt : is_unbuilt number ≡ false
    unbuilt =
        rw (
          not_18,
          below 60 refl,
          below 68 refl,
          below 73 refl,
          below 77 refl,
          above 105 refl,
          above 110 refl,
          above 111 refl,
          above 148 refl,
          above 163 refl,
          above 164 refl,
          above 175 refl,
          below 256 refl,
          above 83 refl,
          above 84 refl,
          above 188 refl,
          below 85 refl,
          above 167 refl,
          above 97 refl,
          above 113 refl,
          above 135 refl,
          above 136 refl,
          above 901 refl,
          above 196 refl,
          above 211 refl,
        ) refl

pub built_reads : (k : Kept) (number args : ℕ) → reads_context k number args ≡ true → is_built_number k args (Some number) ≡ true
built_reads k number args h = go (number == 210) (number == 212) (number == 73) refl refl refl h
  where
    go : (a b c : Bool) → (number == 210) ≡ a → (number == 212) ≡ b → (number == 73) ≡ c → (a || b || (c && is_context_ref k (receiver k args))) ≡ true → is_built_number k args (Some number) ≡ true
    go true b c p q r t = ap (λ n. is_built_number k args (Some n)) (is_same number 210 p)
    go false true c p q r t = ap (λ n. is_built_number k args (Some n)) (is_same number 212 q)
    go false false true p q r t = ap (λ n. is_built_number k args (Some n)) (is_same number 73 r) ∙ t
    go false false false p q r t = absurd (cc)

-- one that isn't built, and is none of those that read a context
pub missing_here : (k : Kept) (number args : ℕ) → reads_context k number args ≡ false → is_unbuilt number ≡ true → is_built_number k args (Some number) ≡ false
missing_here k number args reads h =
    ap (λ (b : Bool). not b || (number == 73 && is_context_ref k (receiver k args))) h ∙ (or_parts (number == 210 || number == 212) (number == 73 && is_context_ref k (receiver k args)) reads).1

-- where a number isn't missing, nor one that reads a context
pub unlisted_here : (k : Kept) (number args : ℕ) → (number == 900) ≡ false → is_on_numbers number ≡ false → unwinds number ≡ false → reads_context k number args ≡ false → is_unbuilt number ≡ false → is_listed number ≡ false
unlisted_here k number args write numbers unwind reads missing =
    let parts = or_parts (number == 210) (number == 212) (or_parts (number == 210 || number == 212) (number == 73 && is_context_ref k (receiver k args)) reads).0 in
    not_listed number (record { write = write; numbers = numbers; unwind = unwind; stack_value = parts.0; stack_depth = parts.1; missing = missing })

pub not_missing : (k : Kept) (number args : ℕ) → (number == 73) ≡ false → is_built_number k args (Some number) ≡ true → is_unbuilt number ≡ false
not_missing k number args other h = go (is_unbuilt number) (number == 73) other h
  where
    go : (u b : Bool) → b ≡ false → (not u || (b && is_context_ref k (receiver k args))) ≡ true → u ≡ false
    go false b e t = refl
    go true false e t = absurd (cc)
    go true true e t = absurd (cc)
