-- When a heap means something: what holds of its objects, its class table and its roots between any two operations.
use Rattle.std.specs.Prelude.{◌≡◌, ◌≢◌, ℕ, ◌+◌, ◌-◌, ◌<◌, ◌≤◌, ◌==◌, ◌&&◌, ◌||◌, Bool, true, false, IsTrue, nat_le, nat_lt, if◌then◌else◌, List, [], drop, length, slice_index, slice_get, Some, None, is_some, unwrap_or, not}
use Rattle.std.specs.List.{AllPass}
use Rattle.std.specs.Ordering.{nat_cmp}
use Rattle.std.specs.FinMap.{FinMap, get}
use Rattle.cs_model.specs.Words.{unused_bytes}
use Rattle.cs_word.specs.declared.Kind.{Kind}
use Rattle.cs_word.specs.declared.Kind.TheVariants as kind
use Rattle.cs_word.specs.Word.{kind_of, natural_of_word}
use Rattle.cs_word.specs.Header.{flag_bits}
use Rattle.cs_heap.specs.Format.{is_code, is_pointers, format_allows}
use Rattle.cs_heap.specs.Object.{Object, address_of, base, class_at, format_at, is_object, heap_object, slot_count_of}
use Rattle.cs_model.specs.Context.{closure_class}
use Rattle.cs_model.specs.ImageFault.{is_bad_format, is_bad_header_size, is_bad_profile}
use Rattle.cs_model.specs.Obj.{context_class, context_fields, is_header, literal_count}
use Rattle.cs_model.specs.State.{is_class_index}
use Rattle.cs_classes.specs.declared.Roots.{Roots}
use Rattle.cs_classes.specs.Meaning.{depth_in, method_header, is_heap_context, literal_words}

-- ---- words

abbrev pub is_reference_kind : List Object → Kind → Bool
is_reference_kind objects (kind.Small value) = true
is_reference_kind objects (kind.Character code) = true
is_reference_kind objects (kind.Object address) = is_object objects address
is_reference_kind objects (kind.Link word) = false

-- a word is an immediate, or the address of an object
unfoldable pub is_reference : List Object → ℕ → Bool
is_reference objects word = is_reference_kind objects (kind_of word)

-- a word is the address of a pointer object, which no context is, with at least n slots
abbrev pub has_slots : List Object → ℕ → ℕ → Bool
has_slots objects n word = is_object objects word && not (class_at objects word == context_class)
    && is_pointers (format_at objects word) && nat_le n (slot_count_of objects word)

-- the address of nil, which is the first object
abbrev pub nil_word : List Object → ℕ
nil_word objects = unwrap_or (address_of objects 0) 0

-- a word is the address of a method, or of a closure
abbrev pub is_method_address : List Object → ℕ → Bool
is_method_address objects word = is_object objects word && is_code (format_at objects word)

abbrev pub is_closure_address : List Object → ℕ → Bool
is_closure_address objects word = is_object objects word && class_at objects word == closure_class

abbrev pub is_sender_kind : List Object → Kind → Bool
is_sender_kind objects (kind.Small value) = true
is_sender_kind objects (kind.Character code) = false
is_sender_kind objects (kind.Object address) = is_object objects address && (address == nil_word objects || class_at objects address == context_class)
is_sender_kind objects (kind.Link word) = true

-- A context's sender is nil or a context. Where it is no address, it is a word that the context's owner put there.
unfoldable pub is_sender : List Object → ℕ → Bool
is_sender objects word = is_sender_kind objects (kind_of word)

-- ---- objects

-- the words of an object that are references: in a context all but its sender
abbrev pub references_in : Object → List ℕ
references_in x =
    if is_pointers x.format then (if is_heap_context x then drop 1 x.words else x.words) else
    (if is_code x.format then literal_words x.words else [])

-- A context has no flags, so it is never read-only, and 22 or 62 slots. Its sender is nil, a context or no address; its pc is nil or a
-- SmallInteger that isn't negative; so is its stackp, at most its size; its method is nil or a method; and its closure is nil or a closure.
pub record IsSoundContext (objects : List Object) (x : Object) : Type 0 where
  pub flags : flag_bits x.flags ≡ 0
  pub format : x.format ≡ 3
  pub slots : IsTrue (length x.words == 22 || length x.words == 62)
  pub sender : IsTrue (is_sender objects (slice_index x.words 0))
  pub pc : IsTrue (slice_index x.words 1 == nil_word objects || is_some (natural_of_word (slice_index x.words 1)))
  pub stackp : IsTrue (slice_index x.words 2 == nil_word objects || is_some (natural_of_word (slice_index x.words 2)))
  pub depth : depth_in x.words ≤ length x.words - context_fields
  pub method : IsTrue (slice_index x.words 3 == nil_word objects || is_method_address objects (slice_index x.words 3))
  pub closure : IsTrue (slice_index x.words 4 == nil_word objects || is_closure_address objects (slice_index x.words 4))

-- a method's first slot is a valid header, and its literals fit, with a slot behind them where bytes are unused
pub record IsSoundMethod (x : Object) : Type 0 where
  pub header : natural_of_word (slice_index x.words 0) ≡ Some (method_header x.words)
  pub valid : IsTrue (is_header (method_header x.words))
  pub literals : literal_count (method_header x.words) + (if nat_lt 0 (unused_bytes x.format) then 1 else 0) < length x.words

-- the formats of weak objects and ephemerons, which no object has
abbrev pub is_weak : ℕ → Bool
is_weak format = format == 4 || format == 5

-- an object has the index of a class, of the flags at most isImmutable, and what its format asks
pub record IsSoundObject (objects : List Object) (x : Object) : Type 0 where
  pub kind : is_class_index x.class ≡ true
  pub flags : flag_bits x.flags < 2
  pub plain : is_weak x.format ≡ false
  pub shape : IsTrue (format_allows x.format (length x.words))
  pub references : AllPass (is_reference objects) (references_in x)
  pub context : IsTrue (is_heap_context x) → IsSoundContext objects x
  pub method : IsTrue (is_code x.format) → IsSoundMethod x

-- the objects of a heap have births of their own, and each is sound
pub record AreSoundObjects (objects : List Object) : Type 0 where
  pub apart : (j k : ℕ) (x y : Object) → slice_get objects j ≡ Some x → slice_get objects k ≡ Some y → x.birth ≡ y.birth → j ≡ k
  pub each : (k : ℕ) (x : Object) → slice_get objects k ≡ Some x → IsSoundObject objects x

-- ---- the class table

-- a class has fixed or indexed pointer slots, three or more, and its index as its hash; a context is none
pub record IsSoundClass (index : ℕ) (x : Object) : Type 0 where
  pub format : IsTrue (nat_le 1 x.format && nat_le x.format 3)
  pub other : is_heap_context x ≡ false
  pub slots : 3 ≤ length x.words
  pub hash : x.hash ≡ index

-- Class indices are below 16,384. No object has index 0 or 16. The classes of SmallInteger and Character, with indices 1 and 2, of
-- contexts and of closures are there. SmallIntegers have a second index, 3; any other class has one index alone, its hash.
pub record IsSoundTable (objects : List Object) (table : FinMap nat_cmp ℕ) : Type 0 where
  pub within : (index a : ℕ) → get table index ≡ Some a → index < 16384
  pub zero : get table 0 ≡ None
  pub hidden : get table 16 ≡ None
  pub integers : is_some (get table 1) ≡ true
  pub characters : is_some (get table 2) ≡ true
  pub contexts : is_some (get table context_class) ≡ true
  pub closures : is_some (get table closure_class) ≡ true
  pub second : get table 3 ≡ get table 1
  pub class : (index a : ℕ) (x : Object) → get table index ≡ Some a → index ≢ 3 → heap_object objects a ≡ Some x → IsSoundClass index x

-- ---- the whole

-- the special-object array has 51 slots or more, all indexed
pub record IsSpecialArray (objects : List Object) (a : ℕ) : Type 0 where
  pub format : format_at objects a ≡ 2
  pub slots : 51 ≤ slot_count_of objects a

-- an image header has the format number and the size of one, and a page count that its profile allows
pub record IsImageHeader (header : List ℕ) : Type 0 where
  pub format : is_bad_format header ≡ false
  pub size : is_bad_header_size header ≡ false
  pub profile : is_bad_profile header ≡ false

-- the same, closed: whoever reads or writes a file looks into it, and nobody else
unfoldable pub IsSoundHeader : List ℕ → Type 0
IsSoundHeader header = IsImageHeader header

-- A heap with its class table and roots: nil, false and true are there without slots, nil at the first address, which new slots
-- hold; births are below the next one; each object's class index has an entry; each entry and the special-object array are objects;
-- the table, the array and the image header are sound; and identity hashes have 22 bits.
pub record IsWhole (objects : List Object) (table : FinMap nat_cmp ℕ) (roots : Roots) : Type 0 where
  pub heap : AreSoundObjects objects
  pub first : 3 ≤ length objects
  pub nil : nil_word objects ≡ base
  pub singles : (k : ℕ) (x : Object) → slice_get objects k ≡ Some x → k < 3 → x.format ≡ 0
  pub births : (k : ℕ) (x : Object) → slice_get objects k ≡ Some x → x.birth < roots.next_birth
  pub indices : (k : ℕ) (x : Object) → slice_get objects k ≡ Some x → is_some (get table x.class) ≡ true
  pub classes : (index a : ℕ) → get table index ≡ Some a → is_object objects a ≡ true
  pub entries : IsSoundTable objects table
  pub special : is_object objects roots.special.0 ≡ true
  pub array : IsSpecialArray objects roots.special.0
  pub last_hash : roots.last_hash < 4194304
  pub header : IsSoundHeader roots.header
