-- Making an instance of a class of the heap: the plan that the class, its index and the size make, and what is done of it.
use Rattle.std.specs.Prelude.{ℕ, ◌+◌, ◌-◌, ◌*◌, ◌/◌, ◌%◌, ◌==◌, nat_le, nat_lt, if◌then◌else◌, List, replicate, Option, Some, None, Result, Ok, Err}
use Rattle.std.specs.Ordering.{nat_cmp}
use Rattle.std.specs.FinMap.{FinMap, get, insert}
use Rattle.cs_word.specs.declared.Oop.{Oop}
use Rattle.cs_word.specs.Word.{natural_of_word}
use Rattle.cs_heap.specs.Object.{Memory, Object, hash_at, next_address, size, slot_of, used}
use Rattle.cs_heap.specs.Writes.{hash_stored, object_added}
use Rattle.cs_heap.specs.Format.{is_pointers}
use Rattle.cs_model.specs.Words.{unused_bytes}
use Rattle.cs_model.specs.Obj.{Ctx, Obj, Raw, context_class, context_fields, new_head}
use Rattle.cs_model.specs.State.{Kept}
use Rattle.cs_model.specs.Operation.{new_pointers, nil_of}
use Rattle.cs_model.specs.Instance.{Index, IndexAt, NoIndex, NoneFree, first_free_index, free_indices, is_entry, is_instance_index, is_instance_shape, lowest_free, new_context, pointer_format, raw_format, taken, unit_bytes}
use Rattle.cs_classes.specs.Sound.{has_slots}
use Rattle.cs_classes.specs.declared.NewError.{NewError}
use Rattle.cs_classes.specs.declared.NewError.TheVariants as refused

-- ---- the index of a class

-- The index that the object at an address has or takes as a class: its hash, where that entry is this object; for hash 0 the
-- lowest index that is free.
unfoldable pub index_in_table : List Object → FinMap nat_cmp ℕ → ℕ → Index
index_in_table objects table class =
    if hash_at objects class == 0 then taken (lowest_free free_indices first_free_index table) else
    if is_entry (get table (hash_at objects class)) class then IndexAt (hash_at objects class) else NoIndex

-- the same for any word: what is no pointer object with three slots has none
unfoldable pub behavior_index : List Object → FinMap nat_cmp ℕ → ℕ → Index
behavior_index objects table class = if has_slots objects 3 class then index_in_table objects table class else NoIndex

-- the class has the index as its hash, and stands there in the table
abbrev pub hash_taken : Memory → ℕ → Index → Memory
hash_taken m class NoIndex = m
hash_taken m class NoneFree = m
hash_taken m class (IndexAt index) = hash_stored m class index

abbrev pub entry_taken : FinMap nat_cmp ℕ → ℕ → Index → FinMap nat_cmp ℕ
entry_taken table class NoIndex = table
entry_taken table class NoneFree = table
entry_taken table class (IndexAt index) = insert table index class

-- the index, or why there is none
abbrev pub index_answer : Index → Result ℕ NewError
index_answer NoIndex = Err refused.NotInstantiable
index_answer NoneFree = Err refused.TableFull
index_answer (IndexAt index) = Ok index

-- ---- the plan

-- an instance of this class index, format and count of slots, or a refusal
pub data Plan : Type 0 where
  Make : (index format slots : ℕ) → Plan
  Refuse : (why : NewError) → Plan

-- the format and the slots of an instance of a class of this index, whose instances have this format and so many fields
abbrev pub instance_format : ℕ → ℕ → ℕ → ℕ
instance_format index format size =
    if index == context_class then 3 else
    if nat_lt format 6 then pointer_format format else raw_format format (size * unit_bytes format)

abbrev pub instance_slots : ℕ → ℕ → ℕ → ℕ → ℕ
instance_slots index format fields size =
    if index == context_class then context_fields + size else
    if nat_lt format 6 then fields + size else (size * unit_bytes format + 3) / 4

unfoldable pub plan_at : ℕ → ℕ → ℕ → Index → Plan
plan_at format fields size NoIndex = Refuse refused.NotInstantiable
plan_at format fields size NoneFree = Refuse refused.TableFull
plan_at format fields size (IndexAt index) =
    if is_instance_index index size then Make index (instance_format index format size) (instance_slots index format fields size) else
    Refuse refused.NotInstantiable

abbrev pub plan_shaped : List Object → FinMap nat_cmp ℕ → ℕ → ℕ → Option ℕ → Plan
plan_shaped objects table class size None = Refuse refused.NotInstantiable
plan_shaped objects table class size (Some shape) =
    if is_instance_shape (shape / 65536) (shape % 65536) size then plan_at (shape / 65536) (shape % 65536) size (index_in_table objects table class) else
    Refuse refused.NotInstantiable

-- slot 2 of a pointer object with three slots, where that is no negative number
abbrev pub shape_at : List Object → ℕ → Option ℕ
shape_at objects class = if has_slots objects 3 class then natural_of_word (slot_of objects class 2) else None

-- what an instance of a class with so many elements is made as
unfoldable pub plan_of : List Object → FinMap nat_cmp ℕ → ℕ → ℕ → Plan
plan_of objects table class size = plan_shaped objects table class size (shape_at objects class)

-- ---- what is done

-- the plan where the heap has room for its object; else a refusal for want of room
abbrev pub fitting : Memory → Plan → Plan
fitting m (Refuse why) = Refuse why
fitting m (Make index format slots) = if nat_le (used m.objects + size slots) m.limit then Make index format slots else Refuse refused.HeapFull

-- a refusal changes nothing
abbrev pub planned_memory : Memory → ℕ → ℕ → Plan → Memory
planned_memory m class birth (Refuse why) = m
planned_memory m class birth (Make index format slots) = object_added (hash_stored m class index) index format slots birth

abbrev pub planned_table : FinMap nat_cmp ℕ → ℕ → Plan → FinMap nat_cmp ℕ
planned_table table class (Refuse why) = table
planned_table table class (Make index format slots) = insert table index class

-- the address of the new object, or the refusal
abbrev pub planned_answer : Memory → Plan → Result Oop NewError
planned_answer m (Refuse why) = Err why
planned_answer m (Make index format slots) = Ok (record { 0 = next_address m.objects slots })

-- ---- in the model

-- the new object as one of the model
abbrev pub instance_of : Kept → ℕ → ℕ → ℕ → Obj
instance_of k index format slots =
    if index == context_class then Ctx (new_context (nil_of k) (slots - context_fields)) else
    if is_pointers format then new_pointers k index format slots else Raw (new_head index format) (replicate (4 * slots - unused_bytes format) 0)
