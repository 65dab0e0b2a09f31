-- The numbers of the primitives.
use Rattle.std.proofs.Common.{◌≡◌, ◌∙◌, ◌⊎◌, ℕ, Bool, true, false, inl, inr, refl, sym, ap, subst, Option, Some, None, is_some}
use Rattle.std.specs.Prelude.{◌==◌, ◌||◌, if◌then◌else◌}
use Rattle.std.proofs.lemmas.Bool.{eqb-true}
use Rattle.cs_model.specs.State.{Kept}
use Rattle.cs_model.specs.PrimAnswer.{fail}
use Rattle.cs_model.specs.PrimTable.{kept_prim}
use Rattle.cs_model.specs.PrimUnwind.{evaluate_array_prim, evaluate_prim, handler_mark_prim, unwind_mark_prim}
use Rattle.cs_unwind.specs.Blocks.{wanted_by}
use Rattle.cs_unwind.specs.Numbers.{HasNumber}
use Rattle.cs_unwind.specs.Primitive.{entered_from, unwinds}
use Rattle.cs_unwind.specs.declared.numbers.Primitive.{Primitive}
use Rattle.cs_unwind.specs.declared.numbers.Primitive.TheVariants.{FindUnwindMark, FindHandlerMark, Mark, Evaluate, EvaluateArray}

pub prim-195 : (k : Kept) (args : ℕ) → unwind_mark_prim k args ≡ kept_prim 195 args k
unfolding kept_prim
prim-195 k args = refl

pub prim-197 : (k : Kept) (args : ℕ) → handler_mark_prim k args ≡ kept_prim 197 args k
unfolding kept_prim
prim-197 k args = refl

pub prim-206 : (k : Kept) (args : ℕ) → evaluate_array_prim k args ≡ kept_prim 206 args k
unfolding kept_prim
prim-206 k args = refl

-- ---- the primitives that evaluate a closure

-- a number in the table that evaluates a closure
pub record IsRow (k : Kept) (args number n : ℕ) : Type 0 where
  pub is : evaluate_prim k n args ≡ kept_prim number args k
  pub from : k ≡ entered_from k number

row-201 : (k : Kept) (args : ℕ) → IsRow k args 201 0
unfolding kept_prim
row-201 k args = record { is = refl; from = refl }

row-221 : (k : Kept) (args : ℕ) → IsRow k args 221 0
unfolding kept_prim
row-221 k args = record { is = refl; from = refl }

row-202 : (k : Kept) (args : ℕ) → IsRow k args 202 1
unfolding kept_prim
row-202 k args = record { is = refl; from = refl }

row-222 : (k : Kept) (args : ℕ) → IsRow k args 222 1
unfolding kept_prim
row-222 k args = record { is = refl; from = refl }

row-203 : (k : Kept) (args : ℕ) → IsRow k args 203 2
unfolding kept_prim
row-203 k args = record { is = refl; from = refl }

row-204 : (k : Kept) (args : ℕ) → IsRow k args 204 3
unfolding kept_prim
row-204 k args = record { is = refl; from = refl }

row-205 : (k : Kept) (args : ℕ) → IsRow k args 205 4
unfolding kept_prim
row-205 k args = record { is = refl; from = refl }

abbrev chosen : Bool → Bool → Bool → Bool → Bool → Bool → Bool → Option ℕ
chosen a b c d e f g = if a || b then Some 0 else if c || d then Some 1 else if e then Some 2 else if f then Some 3 else if g then Some 4 else None

pub evaluates_row : (k : Kept) (args number n : ℕ) → Some n ≡ wanted_by number → IsRow k args number n
evaluates_row k args number n h = go (number == 201) (number == 221) (number == 202) (number == 222) (number == 203) (number == 204) (number == 205) refl refl refl refl refl refl refl h
  where
    at : (m j : ℕ) → (number == m) ≡ true → j ≡ n → IsRow k args m j → IsRow k args number n
    at m j p e row = subst (λ i. IsRow k args i n) (sym (eqb-true number m p)) (subst (IsRow k args m) e row)

    go : (a b c d e f g : Bool) → (number == 201) ≡ a → (number == 221) ≡ b → (number == 202) ≡ c → (number == 222) ≡ d → (number == 203) ≡ e → (number == 204) ≡ f → (number == 205) ≡ g → Some n ≡ chosen a b c d e f g → IsRow k args number n
    go true b c d e f g p0 p1 p2 p3 p4 p5 p6 h = at 201 0 p0 (cc) (row-201 k args)
    go false true c d e f g p0 p1 p2 p3 p4 p5 p6 h = at 221 0 p1 (cc) (row-221 k args)
    go false false true d e f g p0 p1 p2 p3 p4 p5 p6 h = at 202 1 p2 (cc) (row-202 k args)
    go false false false true e f g p0 p1 p2 p3 p4 p5 p6 h = at 222 1 p3 (cc) (row-222 k args)
    go false false false false true f g p0 p1 p2 p3 p4 p5 p6 h = at 203 2 p4 (cc) (row-203 k args)
    go false false false false false true g p0 p1 p2 p3 p4 p5 p6 h = at 204 3 p5 (cc) (row-204 k args)
    go false false false false false false true p0 p1 p2 p3 p4 p5 p6 h = at 205 4 p6 (cc) (row-205 k args)
    go false false false false false false false p0 p1 p2 p3 p4 p5 p6 h = absurd (cc)

evaluates_number : (number n : ℕ) → wanted_by number ≡ Some n → unwinds number ≡ true
evaluates_number number n h = go (number == 201) (number == 221) (number == 202) (number == 222) (number == 203) (number == 204) (number == 205) refl refl refl refl refl refl refl h
  where
    at : (m : ℕ) → (number == m) ≡ true → unwinds m ≡ true → unwinds number ≡ true
    at m p e = ap unwinds (eqb-true number m p) ∙ e

    go : (a b c d e f g : Bool) → (number == 201) ≡ a → (number == 221) ≡ b → (number == 202) ≡ c → (number == 222) ≡ d → (number == 203) ≡ e → (number == 204) ≡ f → (number == 205) ≡ g → chosen a b c d e f g ≡ Some n → unwinds number ≡ true
    go true b c d e f g p0 p1 p2 p3 p4 p5 p6 h = at 201 p0 refl
    go false true c d e f g p0 p1 p2 p3 p4 p5 p6 h = at 221 p1 refl
    go false false true d e f g p0 p1 p2 p3 p4 p5 p6 h = at 202 p2 refl
    go false false false true e f g p0 p1 p2 p3 p4 p5 p6 h = at 222 p3 refl
    go false false false false true f g p0 p1 p2 p3 p4 p5 p6 h = at 203 p4 refl
    go false false false false false true g p0 p1 p2 p3 p4 p5 p6 h = at 204 p5 refl
    go false false false false false false true p0 p1 p2 p3 p4 p5 p6 h = at 205 p6 refl
    go false false false false false false false p0 p1 p2 p3 p4 p5 p6 h = absurd (cc)

-- ---- the marks

fails-198 : (k : Kept) (args : ℕ) → kept_prim 198 args k ≡ fail k
unfolding kept_prim
fails-198 k args = refl

fails-199 : (k : Kept) (args : ℕ) → kept_prim 199 args k ≡ fail k
unfolding kept_prim
fails-199 k args = refl

pub fails_row : (k : Kept) (args number : ℕ) → (number ≡ 198) ⊎ (number ≡ 199) → kept_prim number args k ≡ fail k
fails_row k args number (inl e) = ap (λ m. kept_prim m args k) e ∙ fails-198 k args
fails_row k args number (inr e) = ap (λ m. kept_prim m args k) e ∙ fails-199 k args

-- ---- all of them

pub named : (p : Option Primitive) (number : ℕ) → HasNumber p number → is_some p ≡ unwinds number
named None number h = sym h
named (Some FindUnwindMark) number h = sym (ap unwinds h)
named (Some FindHandlerMark) number h = sym (ap unwinds h)
named (Some Mark) number (inl e) = sym (ap unwinds e)
named (Some Mark) number (inr e) = sym (ap unwinds e)
named (Some (Evaluate args)) number h = sym (evaluates_number number args h)
named (Some EvaluateArray) number h = sym (ap unwinds h)
