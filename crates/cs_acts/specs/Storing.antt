-- What a store into a slot meets.
use Rattle.std.specs.Prelude.{ℕ, ◌==◌, ◌&&◌, Bool, not, nat_lt, if◌then◌else◌, List, Option, Some, None, option_and_then, slice_get}
use Rattle.cs_heap.specs.Format.{is_pointers}
use Rattle.cs_heap.specs.Object.{Object, class_at, format_at, is_immutable_at, is_object, slot_count_of}
use Rattle.cs_model.specs.Ref.{Ref}
use Rattle.cs_model.specs.Obj.{context_class, slots_in}
use Rattle.cs_model.specs.State.{Kept, is_read_only, object_of}
use Rattle.cs_acts.specs.declared.store.StoreTarget.{StoreTarget}
use Rattle.cs_acts.specs.declared.store.StoreTarget.TheVariants.{Missing, ReadOnly, Writable}

-- slot i of the pointer object that a reference names, if that has it; a context is none
abbrev pub slot_at : Kept → Ref → ℕ → Option Ref
slot_at k x i = option_and_then (λ slots. slice_get slots i) (slots_in (object_of k x))

abbrev pub target_by : Option Ref → Bool → StoreTarget
target_by None fixed = Missing
target_by (Some old) fixed = if fixed then ReadOnly else Writable

-- what a store into slot i of what a reference names meets: no such slot, a read-only object, or a slot that takes it
abbrev pub target_of : Kept → Ref → ℕ → StoreTarget
target_of k x i = target_by (slot_at k x i) (is_read_only k x)

-- the same by what the heap tells of an address
abbrev pub is_slot_at : List Object → ℕ → ℕ → Bool
is_slot_at objects word i = is_object objects word && not (class_at objects word == context_class)
    && is_pointers (format_at objects word) && nat_lt i (slot_count_of objects word)

abbrev pub target_at : List Object → ℕ → ℕ → StoreTarget
target_at objects word i = if is_slot_at objects word i then (if is_immutable_at objects word then ReadOnly else Writable) else Missing
