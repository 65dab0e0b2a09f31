-- What is written to the heap where a context is made, and where one dies.
use Rattle.std.specs.Prelude.{ℕ, zero, suc, ◌+◌, pos, List}
use Rattle.cs_word.specs.Word.{small_word}
use Rattle.cs_heap.specs.Object.{Object, base, slot_of, slot_set}
use Rattle.cs_plain.specs.declared.Fields.{Fields}

-- the fields of the context at an address
abbrev pub with_fields : List Object → ℕ → Fields → List Object
with_fields objects context f =
    slot_set (slot_set (slot_set (slot_set (slot_set (slot_set objects context 0 f.sender.0) context 1 f.pc.0) context 2 f.stackp.0) context 3 f.method.0) context 4 f.closure.0) context 5 f.receiver.0

-- so many slots of one object, from slot `at` on, copied to another one, from slot `start` on
unfoldable pub values_copied : List Object → ℕ → ℕ → ℕ → ℕ → ℕ → List Object
values_copied objects from at to start zero = objects
values_copied objects from at to start (suc n) = slot_set (values_copied objects from at to start n) to (start + n) (slot_of (values_copied objects from at to start n) from (at + n))

-- a context that dies: sender nil, pc nil, an empty stack
abbrev pub plain_buried : List Object → ℕ → List Object
plain_buried objects context = slot_set (slot_set (slot_set objects context 0 base) context 1 base) context 2 (small_word (pos 0))
