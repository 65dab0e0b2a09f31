-- What follows where several things hold at once.
use Rattle.std.proofs.Common.{◌≡◌, Bool, true, false, refl}
use Rattle.std.specs.Prelude.{◌&&◌}

pub and_three : (a b c : Bool) → (a && b && c) ≡ true → (a ≡ true) × (b ≡ true) × (c ≡ true)
and_three true true true h = (refl, refl, refl)
and_three true true false h = absurd (cc)
and_three true false c h = absurd (cc)
and_three false b c h = absurd (cc)

pub and_five : (a b c d e : Bool) → (a && b && c && d && e) ≡ true → (a ≡ true) × (b ≡ true) × (c ≡ true) × (d ≡ true) × (e ≡ true)
and_five true true true true true h = (refl, refl, refl, refl, refl)
and_five true true true true false h = absurd (cc)
and_five true true true false e h = absurd (cc)
and_five true true false d e h = absurd (cc)
and_five true false c d e h = absurd (cc)
and_five false b c d e h = absurd (cc)
