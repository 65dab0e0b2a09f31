-- Making a method in the heap.
use Rattle.std.specs.Prelude.{ℕ, zero, suc, pos, ◌+◌, ◌-◌, ◌/◌, ◌%◌, List, [], ◌∷◌, ◌++◌, replicate}
use Rattle.cs_word.specs.Word.{small_word}
use Rattle.cs_heap.specs.Object.{Memory, Object, base, no_flags, slot_set}
use Rattle.cs_model.specs.Obj.{literal_count}

-- the slots of a method: its header, its literals, and its bytecodes
abbrev pub method_slots : ℕ → ℕ → ℕ
method_slots header count = 1 + literal_count header + (count + 3) / 4

-- a method whose literals are nil and whose bytecodes are 0
abbrev pub coded_method : ℕ → ℕ → ℕ → ℕ → Object
coded_method class header count birth = record {
  class = class;
  flags = no_flags;
  format = 24 + (3 - (count + 3) % 4);
  hash = 0;
  birth = birth;
  words = small_word (pos header) ∷ replicate (literal_count header) base ++ replicate ((count + 3) / 4) 0;
}

abbrev pub method_added : Memory → ℕ → ℕ → ℕ → ℕ → Memory
method_added m class header count birth = record m { objects = m.objects ++ coded_method class header count birth ∷ [] }

-- so many literals of the method at an address are nil
unfoldable pub nil_literals : List Object → ℕ → ℕ → List Object
nil_literals objects address zero = objects
nil_literals objects address (suc n) = slot_set (nil_literals objects address n) address (1 + n) base
