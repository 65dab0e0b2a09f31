-- What a special selector does, by what its index names.
use Rattle.std.proofs.Common.{◌≡◌, ◌∙◌, ◌+◌, ℕ, ℤ, false, refl, sym, ap, arith, inl, inr, Option, Some, None, option_and_then}
use Rattle.std.specs.Prelude.{◌==◌}
use Rattle.std.proofs.lemmas.Bool.Decides.{eqb_tells, nat_tests}
use Rattle.cs_model.specs.Ref.{Ref}
use Rattle.cs_model.specs.State.{Kept}
use Rattle.cs_model.specs.End.{done, given}
use Rattle.cs_model.specs.Exec.{common_out, send_selector_out, small_operands, special_out}
use Rattle.cs_model.specs.Number.{number_result, selector_primitive}
use Rattle.cs_model.specs.Operation.{drop_of, push_of}
use Rattle.cs_acts.specs.Arithmetic.{primitive_of}
use Rattle.cs_acts.specs.declared.arithmetic.Operation.{Operation}
use Rattle.cs_acts.specs.declared.arithmetic.Operation.TheVariants as op
use Rattle.cs_code.specs.Selectors.{HasIndex}
use Rattle.cs_code.specs.declared.arithmetic.Selector.{Selector}
use Rattle.cs_code.specs.declared.arithmetic.Selector.TheVariants.{Computes, Compares, TellsClass, IsSent}

pub special-computes : (k : Kept) (i n : ℕ) (x : Option Ref) → selector_primitive i ≡ n → x ≡ option_and_then (λ p. number_result k n p.0 p.1) (small_operands k) → special_out k i ≡ given x (send_selector_out k i) (λ y. done (push_of (drop_of k 2) y))
unfolding special_out
special-computes k i n x e is =
    ap (λ (o : Option Ref). given o (send_selector_out k i) (λ y. done (push_of (drop_of k 2) y))) (ap (λ m. option_and_then (λ p. number_result k m p.0 p.1) (small_operands k)) e ∙ sym is)

nothing_of : (k : Kept) (o : Option (ℤ × ℤ)) → option_and_then (λ p. number_result k 0 p.0 p.1) o ≡ None
unfolding number_result
nothing_of k None = refl
nothing_of k (Some p) = refl

pub special-sent : (k : Kept) (i : ℕ) → selector_primitive i ≡ 0 → special_out k i ≡ send_selector_out k i
special-sent k i e = special-computes k i 0 None e (sym (nothing_of k (small_operands k)))

-- what computes nothing has no primitive
pub sent_alone : (q : Selector) (i : ℕ) → HasIndex q i → ((o : Operation) → q ≡ Computes o → ⊥) → selector_primitive i ≡ 0
sent_alone (Computes o) i h not = absurd (not o refl)
sent_alone Compares i h not = ap selector_primitive h
sent_alone TellsClass i h not = ap selector_primitive h
sent_alone IsSent i h not = h.primitive

-- every operation has a primitive, so that `==` and `class` are none
has_primitive : (o : Operation) → 0 ≡ primitive_of o → ⊥
has_primitive op.Add h = absurd (cc)
has_primitive op.Subtract h = absurd (cc)
has_primitive op.Less h = absurd (cc)
has_primitive op.Greater h = absurd (cc)
has_primitive op.AtMost h = absurd (cc)
has_primitive op.AtLeast h = absurd (cc)
has_primitive op.Equal h = absurd (cc)
has_primitive op.NotEqual h = absurd (cc)
has_primitive op.Multiply h = absurd (cc)
has_primitive op.Divide h = absurd (cc)
has_primitive op.Modulo h = absurd (cc)
has_primitive op.DivideDown h = absurd (cc)
has_primitive op.Quotient h = absurd (cc)
has_primitive op.BitAnd h = absurd (cc)
has_primitive op.BitOr h = absurd (cc)
has_primitive op.BitXor h = absurd (cc)
has_primitive op.BitShift h = absurd (cc)

not_there : (i n : ℕ) (o : Operation) → selector_primitive (16 + n) ≡ 0 → selector_primitive (16 + i) ≡ primitive_of o → (i == n) ≡ false
not_there i n o none h = elim (eqb_tells i n) [
  | inl same ↦ absurd (has_primitive o (sym none ∙ ap (λ m. selector_primitive (16 + m)) (sym same.1) ∙ h))
  | inr other ↦ other.0
]

not_named : (i n : ℕ) → (16 + i ≡ 16 + n → ⊥) → (i == n) ≡ false
not_named i n other = grind (arith, nat_tests, other)

common-else : (k : Kept) (i : ℕ) → (i == 6) ≡ false → (i == 7) ≡ false → common_out k i ≡ send_selector_out k (16 + i)
unfolding common_out
common-else k i same class = rw (same, class) refl

-- what is neither `==` nor `class` is sent
pub common-sent : (k : Kept) (i : ℕ) (q : Selector) → HasIndex q (16 + i) → (q ≡ Compares → ⊥) → (q ≡ TellsClass → ⊥) → common_out k i ≡ send_selector_out k (16 + i)
common-sent k i (Computes o) h same class = common-else k i (not_there i 6 o refl h) (not_there i 7 o refl h)
common-sent k i Compares h same class = absurd (same refl)
common-sent k i TellsClass h same class = absurd (class refl)
common-sent k i IsSent h same class = common-else k i (not_named i 6 h.same) (not_named i 7 h.class)
