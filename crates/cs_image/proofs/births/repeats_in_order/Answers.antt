use Rattle.std.proofs.Common.{◌≡◌, ◌+◌, ◌-◌, inl, inr, ap, sym, ◌∙◌, arith, slice_index}
use Rattle.std.proofs.lemmas.Bool.Decides.{eqb_tells}
use Rattle.cs_image.proofs.Numbering.{repeats_here, rising_apart}
use Rattle.cs_image.proofs.births.repeats_in_order.Goals as goal

pub loop-i-preserved : goal.loop-i-preserved
loop-i-preserved c k h = elim (eqb_tells (k + 1) c.loop-i.i) [
  | inl e ↦
      let up = c.requires k (k + 1) 0 (omega arith) (omega (arith, e.1, c.loop-i-test.true)) in
      let before : c.loop-i.i - 1 ≡ k = omega (arith, e.1) in
      let other : slice_index c.args.numbers.now k ≡ slice_index c.args.numbers.now (k + 1) → ⊥ =
      (λ same. c.if-numbers-i.false (ap (slice_index c.args.numbers.now) before ∙ same ∙ ap (slice_index c.args.numbers.now) e.1)) in
      omega (arith, up, other)
  | inr n ↦ c.loop-i.invariant k (omega (arith, h, n.1))
]

pub returns-then-numbers-i : goal.returns-then-numbers-i
returns-then-numbers-i c =
    let at : c.loop-i.i - 1 + 1 ≡ c.loop-i.i = omega (arith, c.loop-i.auto.i) in
    sym (repeats_here c.args.numbers.now (c.loop-i.i - 1) (omega (arith, at, c.loop-i-test.true)) (c.if-numbers-i.true ∙ ap (slice_index c.args.numbers.now) (sym at)))

pub returns : goal.returns
returns c = sym (rising_apart c.args.numbers.now (λ k h. c.loop-i.invariant k (omega (arith, h, c.loop-i-test.false))))
