-- What a heap means: the words of its objects as references, its objects as objects of the model, and with a class table
-- and the roots the kept parts of a state.
use Rattle.std.specs.Prelude.{ℕ, pos, ◌+◌, ◌-◌, ◌*◌, ◌==◌, Bool, if◌then◌else◌, List, ◌++◌, length, map, take, drop, replicate, slice_index, slice_get, Option, None, unwrap_or, option_map}
use Rattle.std.specs.Option.{option_map_or}
use Rattle.std.specs.Ordering.{nat_cmp}
use Rattle.std.specs.FinMap.{FinMap, from_entries, entries}
use Rattle.cs_model.specs.Words.{unused_bytes, bytes_of_words}
use Rattle.cs_word.specs.declared.Kind.{Kind}
use Rattle.cs_word.specs.declared.Kind.TheVariants as kind
use Rattle.cs_word.specs.Word.{kind_of, natural_of_word}
use Rattle.cs_heap.specs.Format.{is_pointers, is_code}
use Rattle.cs_heap.specs.Object.{Object, birth_at, format_at, heap_object, slot_of}
use Rattle.cs_model.specs.Ref.{Ref}
use Rattle.cs_model.specs.Ref as ref
use Rattle.cs_word.specs.Header.{is_immutable}
use Rattle.cs_model.specs.Obj.{Obj, Head, Context, Ptr, Raw, Method, Ctx, context_class, context_fields, literal_count}
use Rattle.cs_model.specs.State.{Kept}
use Rattle.cs_classes.specs.declared.Roots.{Roots}
use Rattle.cs_classes.specs.declared.Loaded.{Loaded}

-- ---- words

-- An address names the object that is there by its birth. A link stands in no object, and is read as 0.
abbrev pub ref_of_kind : List Object → Kind → Ref
ref_of_kind objects (kind.Small value) = ref.Small value
ref_of_kind objects (kind.Character code) = ref.Char code
ref_of_kind objects (kind.Object address) = ref.Obj (birth_at objects address)
ref_of_kind objects (kind.Link word) = ref.Small (pos 0)

-- the reference that a word is
unfoldable pub ref_of : List Object → ℕ → Ref
ref_of objects word = ref_of_kind objects (kind_of word)

-- ---- objects

-- the bytes of words that end an object of this format
abbrev pub used_bytes : ℕ → List ℕ → List ℕ
used_bytes format words = take (4 * length words - unused_bytes format) (bytes_of_words words)

-- the depth that a stackp says: nil counts as 0
abbrev pub depth_in : List ℕ → ℕ
depth_in words = unwrap_or (natural_of_word (slice_index words 2)) 0

-- The slots of a context: sender, pc, stackp, method, closure, receiver, and its stack, of which stackp says the depth.
unfoldable pub context_of : (ℕ → Ref) → ℕ → List ℕ → Context
context_of refer hash words = record {
  hash = hash;
  sender = refer (slice_index words 0);
  pc = natural_of_word (slice_index words 1);
  method = refer (slice_index words 3);
  closure = refer (slice_index words 4);
  receiver = refer (slice_index words 5);
  stack = map refer (take (depth_in words) (drop context_fields words));
  size = length words - context_fields;
}

-- the header of a method, its first slot
abbrev pub method_header : List ℕ → ℕ
method_header words = unwrap_or (natural_of_word (slice_index words 0)) 0

-- the first byte of an object that is none of a method's header and literals
abbrev pub first_byte_at : List Object → ℕ → ℕ
first_byte_at objects address =
    if is_code (format_at objects address) then 4 * (1 + literal_count (unwrap_or (natural_of_word (slot_of objects address 0)) 0)) else 0

-- the literals of a method stand behind its header
abbrev pub literal_words : List ℕ → List ℕ
literal_words words = take (literal_count (method_header words)) (drop 1 words)

-- the words of its bytecodes stand behind these
abbrev pub code_in : List ℕ → List ℕ
code_in words = drop (1 + literal_count (method_header words)) words

-- an object is read-only where its header says so: flag 0, isImmutable
abbrev pub head_of : Object → Head
head_of x = record { class = x.class; format = x.format; hash = x.hash; fixed = is_immutable x.flags }

unfoldable pub method_meaning : (ℕ → Ref) → Object → Obj
method_meaning refer x = Method (head_of x) (method_header x.words) (map refer (literal_words x.words)) (used_bytes x.format (code_in x.words))

-- whether an object is a context
abbrev pub is_heap_context : Object → Bool
is_heap_context x = x.class == context_class

-- the object of the model that an object of the heap is, where this is what its words refer to
unfoldable pub obj_of : (ℕ → Ref) → Object → Obj
obj_of refer x = if is_heap_context x then Ctx (context_of refer x.hash x.words) else
    (if is_pointers x.format then Ptr (head_of x) (map refer x.words) else
    (if is_code x.format then method_meaning refer x else Raw (head_of x) (used_bytes x.format x.words)))

-- the object at an address, if there is one
abbrev pub meaning_at : List Object → ℕ → Option Obj
meaning_at objects address = option_map (obj_of (ref_of objects)) (heap_object objects address)

-- all objects by their births
unfoldable pub objects_of : List Object → FinMap nat_cmp Obj
objects_of objects = from_entries (map (λ x. (x.birth, obj_of (ref_of objects) x)) objects)

-- ---- the whole

-- the births of the classes by their class indices
unfoldable pub classes_of : List Object → FinMap nat_cmp ℕ → FinMap nat_cmp ℕ
classes_of objects table = from_entries (map (λ e. (e.0, birth_at objects e.1)) (entries table))

-- the birth of the object in this place of the heap
abbrev pub nth_birth : List Object → ℕ → ℕ
nth_birth objects k = option_map_or (λ x. x.birth) (slice_get objects k) 0

-- the header bytes, of which those at places 8 to 23 count as 0
unfoldable pub kept_header : List ℕ → List ℕ
kept_header bytes = take 8 bytes ++ replicate 16 0 ++ drop 24 bytes

-- The kept parts of the state that a heap, a class table and the roots stand for, where this context is active. The
-- first three objects are nil, false and true.
abbrev pub kept_of : List Object → FinMap nat_cmp ℕ → Roots → Option ℕ → Kept
kept_of objects table roots active = record {
  objects = objects_of objects;
  rest = record {
    nil = nth_birth objects 0;
    false_ = nth_birth objects 1;
    true_ = nth_birth objects 2;
    special = birth_at objects roots.special.0;
    header = kept_header roots.header;
    classes = classes_of objects table;
    last_hash = roots.last_hash;
    next = roots.next_birth;
    active = active;
  };
}

-- what a loaded image stands for: no context is active
abbrev pub loaded_kept : Loaded → Kept
loaded_kept l = kept_of l.heap.objects l.classes l.roots None
