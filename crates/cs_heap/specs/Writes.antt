-- What each call that writes makes of the memory.
use Rattle.std.specs.Prelude.{ℕ, ◌||◌, Bool, false, List, [], ◌∷◌, ◌++◌}
use Rattle.std.specs.FinSet.{insert}
use Rattle.cs_heap.specs.Object.{Memory, Object, is_watched, new_object, byte_set, fixed_set, hash_set, slot_set}

-- slots of the object at an address are stored, and these are the objects then: where it is watched, the memory is dirty
abbrev pub slots_stored : Memory → ℕ → List Object → Memory
slots_stored m address objects = record m { objects = objects; dirty = m.dirty || is_watched m address }

-- slot i is stored
abbrev pub slot_stored : Memory → ℕ → ℕ → ℕ → Memory
slot_stored m address i v = slots_stored m address (slot_set m.objects address i v)

-- byte i is stored
abbrev pub byte_stored : Memory → ℕ → ℕ → ℕ → Memory
byte_stored m address i byte = record m { objects = byte_set m.objects address i byte }

-- an object is given a hash
abbrev pub hash_stored : Memory → ℕ → ℕ → Memory
hash_stored m address hash = record m { objects = hash_set m.objects address hash }

-- an object is made read-only, or is so no longer
abbrev pub fixed_stored : Memory → ℕ → Bool → Memory
fixed_stored m address on = record m { objects = fixed_set m.objects address on }

-- an object is added at the end
abbrev pub object_added : Memory → ℕ → ℕ → ℕ → ℕ → Memory
object_added m class format slots birth = record m { objects = m.objects ++ new_object class format slots birth ∷ [] }

-- an object is watched from here on
abbrev pub watch_begun : Memory → ℕ → Memory
watch_begun m address = record m { watched = insert m.watched address }

-- stores before this no longer count
abbrev pub cleaned : Memory → Memory
cleaned m = record m { dirty = false }
