use Rattle.std.proofs.Common.{◌≡◌, ℕ, ◌*◌, ◌^◌, ◌<◌, Bool, true, false, cond, List, [], ◌∷◌, ◌++◌, refl, ap, ◌∙◌, arith, leb, append_assoc}
use Rattle.std.proofs.lemmas.List.{append-nil}
use Rattle.cs_heap.specs.Layout.{overflow}
use Rattle.cs_heap.proofs.rows.push_overflow.Goals as goal

is_long : (b : Bool) (n : ℕ) → n ≡ cond b 1 0 → 0 < n → b ≡ true
is_long true n e h = refl
is_long false n e h = absurd (omega (arith, e, h))

is_short : (b : Bool) (n : ℕ) → n ≡ cond b 1 0 → n ≡ 0 → b ≡ false
is_short true n e h = absurd (omega (arith, e, h))
is_short false n e h = refl

pub returns-then-units_before-gt0-clause-items : goal.returns-then-units_before-gt0-clause-items
unfolding overflow
returns-then-units_before-gt0-clause-items c =
    let long : leb 255 c.args.slots ≡ true = is_long (leb 255 c.args.slots) c.units_before.result c.units_before.ensures c.if-units_before-gt0.true in
    c.fill-then-units_before-gt0.ensures.items ∙ ap (λ (zs : List ℕ). zs ++ 255 * 2 ^ 24 ∷ []) c.fill.ensures.items
    ∙ append_assoc _ (c.args.slots ∷ []) (255 * 2 ^ 24 ∷ []) ∙ rw long refl

pub returns-else-units_before-gt0-clause-items : goal.returns-else-units_before-gt0-clause-items
unfolding overflow
returns-else-units_before-gt0-clause-items c =
    let short : leb 255 c.args.slots ≡ false = is_short (leb 255 c.args.slots) c.units_before.result c.units_before.ensures (omega (arith, c.if-units_before-gt0.false)) in
    rw (short, append-nil) refl
