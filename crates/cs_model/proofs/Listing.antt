-- A primitive whose number isn't listed fails.
use Rattle.std.proofs.Common.{◌≡◌, ◌∙◌, ℕ, not, Some, Bool, true, false, refl, sym, ap, nat_lt, nat_le}
use Rattle.std.specs.Prelude.{◌==◌, ◌&&◌, ◌||◌, if◌then◌else◌}
use Rattle.std.proofs.lemmas.Bool.{eqb-true, or_from, or_parts}
use Rattle.cs_model.specs.State.{Kept, State}
use Rattle.cs_model.specs.Context.{is_context_ref}
use Rattle.cs_model.specs.End.{Out}
use Rattle.cs_model.specs.PrimAnswer.{fail, receiver}
use Rattle.cs_model.specs.PrimRun.{fails, result}
use Rattle.cs_model.specs.PrimTable.{context_prim, evaluates, is_context_number, is_listed, is_object_number, is_perform, is_process_number, is_run_number, kept_prim, object_prim, prim}
use Rattle.cs_model.specs.Built.{is_built_number, is_unbuilt, is_unbuilt_on_contexts, is_unbuilt_on_runs}

-- a number of which something is false isn't one of which it is true
pub other : (f : ℕ → Bool) (number n : ℕ) → f number ≡ false → f n ≡ true → (number == n) ≡ false
other f number n lacks has = go (number == n) refl
  where
    go : (b : Bool) → (number == n) ≡ b → (number == n) ≡ false
    go true e = absurd (let both : true ≡ false = sym has ∙ ap f (sym (eqb-true number n e)) ∙ lacks in cc)
    go false e = e

otherwise : (x : Out) {y z : Out} (b : Bool) → b ≡ false → y ≡ z → (if b then x else y) ≡ z
otherwise x true e h = absurd (cc)
otherwise x false e h = h

-- what the families are that such a number is none of
record Beyond (number : ℕ) : Type 0 where
  pub numbers : (nat_le 1 number && nat_le number 17) ≡ false
  pub objects : is_object_number number ≡ false
  pub performs : is_perform number ≡ false
  pub processes : is_process_number number ≡ false
  pub runs : is_run_number number ≡ false

beyond_parts : (number : ℕ) (a b c d e f g h : Bool) → (nat_le 1 number && nat_le number 17) ≡ a → is_object_number number ≡ b → is_perform number ≡ c → is_process_number number ≡ d → is_run_number number ≡ h
    → (a || b || c || d || e || f || g || h) ≡ false → Beyond number
beyond_parts number a b c d e f g h p q r s t none =
    let first₄ = (or_parts (a || b || c || d || e) f (or_parts (a || b || c || d || e || f) g (or_parts (a || b || c || d || e || f || g) h none).0).0).0 in
    let first₃ = (or_parts (a || b || c || d) e first₄).0 in
    let first₂ = (or_parts (a || b || c) d first₃).0 in
    let first = (or_parts (a || b) c first₂).0 in
    record {
      numbers = p ∙ (or_parts a b first).0;
      objects = q ∙ (or_parts a b first).1;
      performs = r ∙ (or_parts (a || b) c first₂).1;
      processes = s ∙ (or_parts (a || b || c) d first₃).1;
      runs = t ∙ (or_parts (a || b || c || d || e || f || g) h none).1;
    }

beyond : (number : ℕ) → is_listed number ≡ false → Beyond number
beyond number h =
    beyond_parts number (nat_le 1 number && nat_le number 17) (is_object_number number) (is_perform number) (is_process_number number) (nat_le 195 number && nat_le number 197) (evaluates number) (nat_le 210 number && nat_le number 212) (is_run_number number)
    refl refl refl refl refl h

last_of : (a b : Bool) → (a || b) ≡ false → b ≡ false
last_of a b h = (or_parts a b h).1

module _ (number args : ℕ) (k : Kept) (unlisted : is_listed number ≡ false) where
  not_ : (n : ℕ) → is_listed n ≡ true → (number == n) ≡ false
  not_ n has = other is_listed number n unlisted has

  of_contexts : context_prim number args k ≡ fail k
  of_contexts =
      rw (not_ 195 refl, not_ 196 refl, not_ 197 refl, not_ 201 refl, not_ 202 refl, not_ 203 refl, not_ 204 refl, not_ 205 refl, not_ 206 refl, not_ 210 refl, not_ 211 refl, not_ 212 refl, not_ 221 refl, not_ 222 refl) refl

  quick : (nat_le 256 number && nat_lt number 520) ≡ false
  quick = last_of _ (nat_le 256 number && nat_lt number 520) (beyond number unlisted).objects

  of_objects : object_prim number args k ≡ fail k
  of_objects =
      rw (not_ 18 refl, not_ 60 refl, not_ 61 refl, not_ 62 refl, not_ 63 refl, not_ 64 refl, not_ 68 refl, not_ 69 refl, not_ 70 refl, not_ 71 refl, not_ 73 refl, not_ 74 refl, not_ 75 refl, not_ 77 refl, not_ 78 refl, not_ 79 refl, not_ 105 refl, not_ 110 refl, not_ 111 refl, not_ 148 refl, not_ 163 refl, not_ 164 refl, not_ 175 refl, quick) refl

  pub unlisted_kept : kept_prim number args k ≡ fail k
  unfolding kept_prim
  unlisted_kept =
      let b = beyond number unlisted in
      otherwise _ _ b.numbers (otherwise _ _ b.performs (otherwise _ _ b.processes (go (is_context_number number))))
    where
      go : (b : Bool) → (if b then context_prim number args k else object_prim number args k) ≡ fail k
      go true = of_contexts
      go false = of_objects

pub unlisted_fails : (number args : ℕ) (s : State) → is_listed number ≡ false → prim number args s ≡ fails s
unfolding prim
unlisted_fails number args s h =
    let not_ : (n : ℕ) → is_listed n ≡ true → (number == n) ≡ false = λ n has. other is_listed number n h has in
    rw (not_ 97 refl, not_ 113 refl, not_ 135 refl, not_ 136 refl, not_ 900 refl, not_ 901 refl) (ap (λ o. result o s.run) (unlisted_kept number args s.kept h))

pub unlisted_built : (number args : ℕ) (k : Kept) → is_listed number ≡ false → is_built_number k args (Some number) ≡ true
unlisted_built number args k h = ap (λ (b : Bool). not b || (number == 73 && is_context_ref k (receiver k args))) built
  where
    not_ : (n : ℕ) → is_listed n ≡ true → (number == n) ≡ false
    not_ n has = other is_listed number n h has

    runs : is_unbuilt_on_runs number ≡ false
    runs = rw (not_ 97 refl, not_ 113 refl, not_ 135 refl, not_ 136 refl, not_ 901 refl) refl

    contexts : is_unbuilt_on_contexts number ≡ false
    contexts = rw (not_ 196 refl, not_ 211 refl) refl

    built : is_unbuilt number ≡ false
    built =
        let b = beyond number h in
        let first = or_from (is_object_number number) (is_perform number) b.objects b.performs in
        let first₂ = or_from (is_object_number number || is_perform number) (is_process_number number) first b.processes in
        let first₃ = or_from (is_object_number number || is_perform number || is_process_number number) (is_unbuilt_on_runs number) first₂ runs in
        or_from (is_object_number number || is_perform number || is_process_number number || is_unbuilt_on_runs number) (is_unbuilt_on_contexts number) first₃ contexts
