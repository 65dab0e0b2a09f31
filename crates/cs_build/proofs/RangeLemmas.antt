-- What a function gives of the numbers of a range, one after another.
use Rattle.std.proofs.Common.{◌≡◌, ℕ, ◌+◌, List, ◌++◌, suc, zero, refl, arith, append_assoc}
use Rattle.std.specs.Prelude.{flat_map}
use Rattle.std.specs.List.{range_with_len}
use Rattle.std.proofs.lemmas.Grind.{common_steps}

-- one number more
pub flat_map-range : (f : ℕ → List ℕ) (a n : ℕ)
    → flat_map f (range_with_len a (n + 1)) ≡ flat_map f (range_with_len a n) ++ f (a + n)
flat_map-range f a zero = grind (arith, common_steps)
flat_map-range f a (suc n) =
    let rest = flat_map-range f (a + 1) n in
    grind (arith, common_steps, rest)

pub ruleset ranges = (flat_map-range)

-- three pieces one behind another
pub joined : (old old' a b c x y z t u v : List ℕ) → old ≡ old' → x ≡ a → y ≡ b → z ≡ c → t ≡ old ++ x → u ≡ t ++ y → v ≡ u ++ z
    → v ≡ old' ++ (a ++ (b ++ c))
joined old old' a b c x y z t u v eo ex ey ez et eu ev = rw (ev, eu, et, eo, ex, ey, ez, append_assoc, append_assoc) refl

-- the same, each put behind what stands already
pub joined-left : (old old' a b c x y z t u v : List ℕ) → old ≡ old' → x ≡ a → y ≡ b → z ≡ c → t ≡ old ++ x → u ≡ t ++ y → v ≡ u ++ z
    → v ≡ ((old' ++ a) ++ b) ++ c
joined-left old old' a b c x y z t u v eo ex ey ez et eu ev = rw (ev, eu, et, eo, ex, ey, ez) refl
