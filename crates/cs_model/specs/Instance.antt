-- Making instances. A class has its superclass in slot 0, its method dictionary in slot 1, and in slot 2 the number
-- format * 65536 + fields of its instances. Its identity hash is its index in the class table, as in Spur.
use Rattle.std.specs.Prelude.{ℕ, zero, suc, ◌+◌, ◌-◌, ◌*◌, ◌/◌, ◌%◌, ◌==◌, ◌&&◌, ◌||◌, not, Bool, false, nat_lt, if◌then◌else◌, [], replicate, Option, Some, None, is_some, option_and_then, slice_get}
use Rattle.std.specs.FinMap.{FinMap, get, insert}
use Rattle.std.specs.Ordering.{nat_cmp}
use Rattle.cs_model.specs.Ref.{Ref, Small, Char, named_object, small_index}
use Rattle.cs_model.specs.Ref as ref
use Rattle.cs_model.specs.Obj.{Obj, Context, Ptr, Raw, Ctx, new_head, hash_in, context_class, words_of}
use Rattle.cs_model.specs.State.{Kept, Rest, with_rest, object_at, object_of, slots_of}
use Rattle.cs_model.specs.Operation.{add_of, next_ref, nil_of, edit_object, with_hash}

-- ---- the index of a class

-- the class table has so many entries, and new classes have indices from 32 on
abbrev pub first_free_index : ℕ
first_free_index = 32

unfoldable pub free_indices : ℕ
free_indices = 16352

-- the lowest of so many indices that has no class
unfoldable pub lowest_free : ℕ → ℕ → FinMap nat_cmp ℕ → Option ℕ
lowest_free zero from table = None
lowest_free (suc n) from table = if is_some (get table from) then lowest_free n (from + 1) table else Some from

-- The index that a class has or takes: its hash, where that entry is the class itself; for a class of hash 0 the lowest one
-- that is free. Any other class has none.
pub data Index : Type 0 where
  IndexAt : (index : ℕ) → Index
  NoIndex : Index
  NoneFree : Index

abbrev pub taken : Option ℕ → Index
taken None = NoneFree
taken (Some i) = IndexAt i

abbrev pub is_entry : Option ℕ → ℕ → Bool
is_entry None birth = false
is_entry (Some i) birth = i == birth

abbrev pub index_by_hash : Kept → ℕ → ℕ → Index
index_by_hash k birth hash =
    if hash == 0 then taken (lowest_free free_indices first_free_index k.rest.classes) else
    if is_entry (get k.rest.classes hash) birth then IndexAt hash else NoIndex

abbrev pub index_of_object : Kept → ℕ → Option Obj → Index
index_of_object k birth None = NoIndex
index_of_object k birth (Some o) = index_by_hash k birth (hash_in o)

unfoldable pub class_index_for : Kept → Ref → Index
class_index_for k (Small a) = NoIndex
class_index_for k (Char c) = NoIndex
class_index_for k (ref.Obj i) = index_of_object k i (object_at k i)

abbrev pub with_class : ℕ → ℕ → Rest → Rest
with_class index birth r = record r { classes = insert r.classes index birth }

abbrev pub enter_class : Kept → ℕ → Option ℕ → Kept
enter_class k index None = k
enter_class k index (Some birth) = with_rest (with_class index birth k.rest) k

-- the class has the index as its hash, and stands there in the class table
unfoldable pub take_index : Kept → Ref → ℕ → Kept
take_index k class index = enter_class (edit_object k class (with_hash index)) index (named_object class)

-- ---- instances

-- what making an instance gives: the new object with its words, or the refusals of a class and of a full table
pub data Made : Type 0 where
  New : (state : Kept) (object : Ref) (words : ℕ) → Made
  NotInstantiable : Made
  TableFull : Made

-- a format, its fields, and a size that go together
abbrev pub is_instance_shape : ℕ → ℕ → ℕ → Bool
is_instance_shape format fields size =
    if format == 0 then fields == 0 && size == 0 else
    if format == 1 || format == 5 then size == 0 else
    if format == 2 then fields == 0 else
    format == 3 || format == 4 || format == 9 || format == 10 || format == 12 || format == 16

-- no immediate is made, and a context has size 16 or 56
abbrev pub is_instance_index : ℕ → ℕ → Bool
is_instance_index index size = nat_lt 3 index && (not (index == context_class) || size == 16 || size == 56)

abbrev pub new_context : Ref → ℕ → Context
new_context nil size = record { hash = 0; sender = nil; pc = None; method = nil; closure = nil; receiver = nil; stack = []; size = size }

-- weak and ephemeron instances are made as those of formats 3 and 1
abbrev pub pointer_format : ℕ → ℕ
pointer_format format = if format == 4 then 3 else if format == 5 then 1 else format

-- the bytes of a unit
abbrev pub unit_bytes : ℕ → ℕ
unit_bytes format = if format == 9 then 8 else if format == 10 then 4 else if nat_lt format 16 then 2 else 1

-- the format with its count of unused units, so that so many bytes end a slot
abbrev pub raw_format : ℕ → ℕ → ℕ
raw_format format bytes = format + (3 - (bytes + 3) % 4) / unit_bytes format

abbrev pub new_raw : ℕ → ℕ → ℕ → Obj
new_raw index format bytes = Raw (new_head index (raw_format format bytes)) (replicate bytes 0)

unfoldable pub new_instance : Ref → ℕ → ℕ → ℕ → ℕ → Obj
new_instance nil index format fields size =
    if index == context_class then Ctx (new_context nil size) else
    if nat_lt format 6 then Ptr (new_head index (pointer_format format)) (replicate (fields + size) nil) else
    new_raw index format (size * unit_bytes format)

abbrev pub make_with : Kept → Ref → ℕ → ℕ → Index → Made
make_with k class shape size NoIndex = NotInstantiable
make_with k class shape size NoneFree = TableFull
make_with k class shape size (IndexAt index) =
    if is_instance_index index size then
    New (add_of (take_index k class index) (new_instance (nil_of k) index (shape / 65536) (shape % 65536) size)) (next_ref k)
    (words_of (new_instance (nil_of k) index (shape / 65536) (shape % 65536) size))
    else NotInstantiable

abbrev pub make_shaped : Kept → Ref → ℕ → Option ℕ → Made
make_shaped k class size None = NotInstantiable
make_shaped k class size (Some shape) =
    if is_instance_shape (shape / 65536) (shape % 65536) size then make_with k class shape size (class_index_for k class) else NotInstantiable

-- slot 2 of a class, where that is no negative number
abbrev pub shape_of : Kept → Ref → Option ℕ
shape_of k class = option_and_then (λ slots. option_and_then (λ x. small_index x) (slice_get slots 2)) (slots_of k 3 class)

unfoldable pub instantiate : Kept → Ref → ℕ → Made
instantiate k class size = make_shaped k class size (shape_of k class)

-- ---- the index alone

pub data Hashed : Type 0 where
  Hash : (state : Kept) (index : ℕ) → Hashed
  NotAClass : Hashed
  NoneLeft : Hashed

abbrev pub hashed : Kept → Ref → Index → Hashed
hashed k class NoIndex = NotAClass
hashed k class NoneFree = NoneLeft
hashed k class (IndexAt index) = Hash (take_index k class index) index

-- gives a class its index; it doesn't look at the shape of its instances
unfoldable pub behavior_hash : Kept → Ref → Hashed
behavior_hash k class = if is_some (slots_of k 3 class) then hashed k class (class_index_for k class) else NotAClass

-- ---- identity hashes

-- the first request gives the last hash plus one modulo 2^22, where 0 is skipped
abbrev pub next_hash : ℕ → ℕ
next_hash last = if (last + 1) % 4194304 == 0 then 1 else (last + 1) % 4194304

abbrev pub with_last_hash : ℕ → Rest → Rest
with_last_hash hash r = record r { last_hash = hash }

abbrev pub hash_or_zero : Option Obj → ℕ
hash_or_zero None = 0
hash_or_zero (Some o) = hash_in o

-- the identity hash of an object
unfoldable pub hash_of : Kept → Ref → ℕ
hash_of k x = if hash_or_zero (object_of k x) == 0 then next_hash k.rest.last_hash else hash_or_zero (object_of k x)

-- the state in which it has that hash
unfoldable pub hash_given : Kept → Ref → Kept
hash_given k x =
    if hash_or_zero (object_of k x) == 0 then
    with_rest (with_last_hash (next_hash k.rest.last_hash) k.rest) (edit_object k x (with_hash (next_hash k.rest.last_hash)))
    else k
