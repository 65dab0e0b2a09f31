-- What a call makes in the heap of a world.
use Rattle.std.specs.Prelude.{◌≡◌, ℕ, ◌+◌, ◌*◌, ◌-◌, ◌/◌, ◌<◌, ◌≤◌, ◌==◌, ◌||◌, Bool, true, false, IsTrue, nat_le, if◌then◌else◌, List, [], ◌∷◌, replicate, Option, Some, None, is_some}
use Rattle.std.specs.FinMap.{get}
use Rattle.cs_model.specs.Words.{unused_bytes}
use Rattle.cs_heap.specs.Format.{format_allows, is_code, is_pointers}
use Rattle.cs_heap.specs.Object.{Object}
use Rattle.cs_classes.specs.Meaning.{is_heap_context}
use Rattle.cs_model.specs.Obj.{Obj, Raw, context_class, is_header, literal_count, new_head}
use Rattle.cs_model.specs.State.{Kept}
use Rattle.cs_model.specs.Operation.{new_pointers}
use Rattle.cs_acts.specs.Layout.{Layout, first_page, new_frame_words, page_words}
use Rattle.cs_acts.specs.Names.{Store}

-- ---- objects

-- the class indices of SmallInteger and Character, and that of contexts
abbrev pub is_made_apart : ℕ → Bool
is_made_apart class = class == 1 || class == 2 || class == 3 || class == context_class

-- weak objects, ephemerons and methods
abbrev pub is_made_otherwise : ℕ → Bool
is_made_otherwise format = format == 4 || format == 5 || is_code format

-- The format allows so many slots, the class index has an entry, and a birth is left.
pub record CanAllocate (k : Kept) (class format slots : ℕ) : Type 0 where
  pub shape : IsTrue (format_allows format slots)
  pub plain : is_made_otherwise format ≡ false
  pub entry : is_some (get k.rest.classes class) ≡ true
  pub common : is_made_apart class ≡ false
  pub births : k.rest.next < 4611686018427387904

-- an object as it is made: its slots are nil, its bytes 0
abbrev pub blank_of : Kept → ℕ → ℕ → ℕ → Obj
blank_of k class format slots =
    if is_pointers format then new_pointers k class format slots else Raw (new_head class format) (replicate (4 * slots - unused_bytes format) 0)

-- The header is a method's, the class index has an entry, and a birth is left.
pub record CanMakeMethod (k : Kept) (class header count : ℕ) : Type 0 where
  pub valid : is_header header ≡ true
  pub entry : is_some (get k.rest.classes class) ≡ true
  pub common : is_made_apart class ≡ false
  pub births : k.rest.next < 4611686018427387904

-- how many slots a method of this header has with so many bytecode bytes: its header, its literals, and its code
abbrev pub code_words : ℕ → ℕ → ℕ
code_words header count = 1 + literal_count header + (count + 3) / 4

-- ---- contexts

-- how many contexts a heap has
unfoldable pub contexts_in : List Object → ℕ
contexts_in [] = 0
contexts_in (x ∷ xs) = contexts_in xs + (if is_heap_context x then 1 else 0)

-- A world with pages makes at most so many contexts in its heap. One without has all contexts of its state there.
abbrev pub MakesAtMost : ℕ → Option Layout → Store → Store → Type 0
MakesAtMost n None old new = Unit {0}
MakesAtMost n (Some l) old new = contexts_in new.memory.objects ≤ contexts_in old.memory.objects + n

-- entering makes the context of the caller where the new frame doesn't fit on its page
abbrev pub made_by_entering : Kept → Option Layout → ℕ
made_by_entering k None = 0
made_by_entering k (Some l) = if nat_le (page_words k (first_page l.pages) + new_frame_words) 4096 then 0 else 1

-- of the fields of a context the sender alone asks for a context
abbrev pub made_by_reading : ℕ → ℕ
made_by_reading i = if i == 0 then 1 else 0
