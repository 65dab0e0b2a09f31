-- What a copy of slots leaves.
use Rattle.std.proofs.Common.{◌≡◌, ℕ, zero, suc, ◌+◌, false, refl, ap, ◌∙◌, List, arith}
use Rattle.cs_heap.specs.Object.{Memory, Object, is_watched, slot_count_of, slot_of}
use Rattle.cs_heap.specs.Writes.{slot_stored}
use Rattle.cs_heap.proofs.Writes.{slot_stored-unwatched}
use Rattle.cs_heap.proofs.Laws.{slot_count_of-with_slot}
use Rattle.cs_plain.specs.Storing.{values_copied}

pub count-copied : (os : List Object) (from at to start n b : ℕ) → slot_count_of (values_copied os from at to start n) b ≡ slot_count_of os b
unfolding values_copied
count-copied os from at to start zero b = refl
count-copied os from at to start (suc n) b =
    slot_count_of-with_slot (values_copied os from at to start n) to (start + n) (slot_of (values_copied os from at to start n) from (at + n)) b ∙ count-copied os from at to start n b

pub count-in : (g h : Memory) (from at to start n b : ℕ) → g ≡ record h { objects = values_copied h.objects from at to start n } → slot_count_of g.objects b ≡ slot_count_of h.objects b
count-in g h from at to start n b e = ap (λ (m : Memory). slot_count_of m.objects b) e ∙ count-copied h.objects from at to start n b

-- one more is copied to an object that isn't watched
pub copied-more : (h g k : Memory) (from at to start n v : ℕ) → g ≡ record h { objects = values_copied h.objects from at to start n } → v ≡ slot_of g.objects from (at + n) → is_watched h to ≡ false
    → k ≡ slot_stored g to (start + n) v → k ≡ record h { objects = values_copied h.objects from at to start (n + 1) }
unfolding values_copied
copied-more h g k from at to start n v before read unwatched stored =
    stored ∙ ap (slot_stored g to (start + n)) read
    ∙ ap (λ (m : Memory). slot_stored m to (start + n) (slot_of m.objects from (at + n))) before
    ∙ slot_stored-unwatched (record h { objects = values_copied h.objects from at to start n }) to (start + n) (slot_of (values_copied h.objects from at to start n) from (at + n)) unwatched
    ∙ ap (λ (j : ℕ). record h { objects = values_copied h.objects from at to start j }) (later n)
  where
    later : (n : ℕ) → suc n ≡ n + 1
    later n = omega arith
