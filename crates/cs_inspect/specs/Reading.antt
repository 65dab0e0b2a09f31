-- What is read of a heap at an address.
use Rattle.std.specs.Prelude.{◌≡◌, ℕ, ◌||◌, ◌&&◌, ◌==◌, not, nat_lt, Bool, List, Option, Some, map, option_map, option_and_then, slice_get}
use Rattle.std.specs.FinMap.{entries}
use Rattle.cs_word.specs.declared.Oop.{Oop}
use Rattle.cs_heap.specs.Format.{is_pointers}
use Rattle.cs_heap.specs.Object.{Object, birth_at, class_at, format_at, hash_at, is_immutable_at, is_object, slot_count_of, words_at}
use Rattle.cs_model.specs.Obj.{Context, Head, context_class, Obj, Ptr, Raw, Method, slots_in}
use Rattle.cs_model.specs.Ref.{Ref}
use Rattle.cs_classes.specs.Meaning.{code_in, context_of, method_header, literal_words, meaning_at, objects_of, ref_of, used_bytes}
use Rattle.cs_classes.specs.Sound.{is_reference, is_sender}

-- a word is a reference, or what a context may have as its sender
abbrev pub names_object : List Object → ℕ → Bool
names_object objects word = is_reference objects word || is_sender objects word

-- slot i of the pointer object at an address, which no context is
abbrev pub field_seen : List Object → ℕ → ℕ → Option Ref
field_seen objects a i = option_and_then (λ slots. slice_get slots i) (slots_in (meaning_at objects a))

-- there is such a slot
abbrev pub has_field_at : List Object → ℕ → ℕ → Bool
has_field_at objects a i = is_object objects a && not (class_at objects a == context_class)
    && is_pointers (format_at objects a) && nat_lt i (slot_count_of objects a)

abbrev pub ref_option : List Object → Option Oop → Option Ref
ref_option objects = option_map (λ o. ref_of objects o.0)

-- the birth and the meaning of the object at an address
abbrev pub entry_at : List Object → Oop → ℕ × Option Obj
entry_at objects o = (birth_at objects o.0, meaning_at objects o.0)

-- the objects of a heap in the order of their births
abbrev pub IsInOrder : List Object → List Oop → Type 0
IsInOrder objects order = map (entry_at objects) order ≡ map (λ e. (e.0, Some e.1)) (entries (objects_of objects))

-- what its header says of it
abbrev pub head_at : List Object → ℕ → Head
head_at objects a = record {
  class = class_at objects a;
  format = format_at objects a;
  hash = hash_at objects a;
  fixed = is_immutable_at objects a;
}

-- what it is, by its kind
abbrev pub pointers_at : List Object → ℕ → Obj
pointers_at objects a = Ptr (head_at objects a) (map (ref_of objects) (words_at objects a))

abbrev pub raw_at : List Object → ℕ → Obj
raw_at objects a = Raw (head_at objects a) (used_bytes (format_at objects a) (words_at objects a))

abbrev pub method_at : List Object → ℕ → Obj
method_at objects a = Method (head_at objects a) (method_header (words_at objects a))
    (map (ref_of objects) (literal_words (words_at objects a))) (used_bytes (format_at objects a) (code_in (words_at objects a)))

abbrev pub context_seen : List Object → ℕ → Context
context_seen objects a = context_of (ref_of objects) (hash_at objects a) (words_at objects a)
