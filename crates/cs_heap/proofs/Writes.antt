-- The laws of the writes, for the crates above.
use Rattle.std.proofs.Common.{◌≡◌, ℕ, Bool, true, false, List, refl, ap, ◌∙◌, arith, eqb, ◌||◌}
use Rattle.std.proofs.lemmas.Bool.Decides.{nat_tests}
use Rattle.std.specs.Cmp.{nat_cmp_total, unsigned_tied}
use Rattle.std.specs.FinSet.{contains-insert}
use Rattle.cs_heap.specs.Object.{Memory, Object, is_watched, slot_set}
use Rattle.cs_heap.specs.Writes.{slot_stored, slots_stored, watch_begun}

or_false : (b : Bool) → (b || false) ≡ b
or_false true = refl
or_false false = refl

or_twice : (a b : Bool) → ((a || b) || b) ≡ (a || b)
or_twice true b = refl
or_twice false true = refl
or_twice false false = refl

-- stores into one object, one behind another, are one store
pub slots_stored-twice : (m : Memory) (a : ℕ) (xs ys : List Object) → slots_stored (slots_stored m a xs) a ys ≡ slots_stored m a ys
slots_stored-twice m a xs ys = ap (λ d. let n : Memory = record m { objects = ys; dirty = d } in n) (or_twice m.dirty (is_watched m a))

-- a store into an object that isn't watched, or in a memory that is dirty, changes the objects alone
pub slots_stored-counted : (m : Memory) (a : ℕ) (xs : List Object) → (m.dirty || is_watched m a) ≡ m.dirty → slots_stored m a xs ≡ record m { objects = xs }
slots_stored-counted m a xs h = ap (λ d. let n : Memory = record m { objects = xs; dirty = d } in n) h

pub slots_stored-unwatched : (m : Memory) (a : ℕ) (xs : List Object) → is_watched m a ≡ false → slots_stored m a xs ≡ record m { objects = xs }
slots_stored-unwatched m a xs h = ap (λ d. let n : Memory = record m { objects = xs; dirty = d } in n) (ap (λ w. m.dirty || w) h ∙ or_false m.dirty)

pub slot_stored-unwatched : (m : Memory) (a i v : ℕ) → is_watched m a ≡ false → slot_stored m a i v ≡ record m { objects = slot_set m.objects a i v }
slot_stored-unwatched m a i v h = slots_stored-unwatched m a (slot_set m.objects a i v) h

-- the object is watched then, and the others are as they were
pub is_watched-watch_begun : (m : Memory) (a b : ℕ) → is_watched (watch_begun m a) b ≡ (eqb b a || is_watched m b)
is_watched-watch_begun m a b = contains-insert nat_cmp_total m.watched a b ∙ ap (λ t. t || is_watched m b) (unsigned_tied b a)

pub is_watched-watch_begun_same : (m : Memory) (a : ℕ) → is_watched (watch_begun m a) a ≡ true
is_watched-watch_begun_same m a = is_watched-watch_begun m a a ∙ ap (λ t. t || is_watched m a) (itself a)
  where
    itself : (n : ℕ) → eqb n n ≡ true
    itself n = grind (arith, nat_tests)
