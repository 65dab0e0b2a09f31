-- Files without faults, by the objects from which they are put together, and the state that such a file describes.
use Rattle.std.specs.Prelude.{◌≡◌, ◌≢◌, ℕ, zero, suc, ◌+◌, ◌-◌, ◌*◌, ◌/◌, ◌%◌, ◌^◌, ◌<◌, ◌≤◌, ◌==◌, ◌||◌, Bool, true, false, nat_lt, if◌then◌else◌, List, [], ◌++◌, length, map, take, drop, replicate, slice_index, slice_get, zip, find, Option, Some, None}
use Rattle.std.specs.Option.{option_map_or}
use Rattle.std.specs.List.{AllByRecursion, range_with_len}
use Rattle.std.specs.Ordering.{nat_cmp}
use Rattle.std.specs.FinMap.{FinMap, empty, insert, from_entries}
use Rattle.cs_model.specs.Ref as ref
use Rattle.cs_model.specs.Obj.{Obj, Head, context_class, context_fields}
use Rattle.cs_model.specs.State.{Kept, Rest}
use Rattle.cs_model.specs.Words.{obj_by, is_pointer_format, is_method_format, literals_in_words}
use Rattle.cs_model.specs.ImageFile.{FileObject}
use Rattle.cs_model.specs.ImageFault.{is_bad_format, is_bad_header_size, is_bad_profile, is_body, is_class, is_file_context, is_pc_of, is_stackp, is_file_method, fields_of, is_live_context, has_repeats, table_size}
use Rattle.cs_model.specs.SavedFile.{SavedObject, SavedBirths, SavedFile, FitsFile, saved_base, saved_sizes, placed_at, placed_from, words_before, page_place, birth_words}

-- ---- what words name

-- The address of the visible object of this number: nil, false and true are followed by the two hidden objects, which take 22
-- words.
abbrev pub saved_address : List SavedObject → ℕ → ℕ
saved_address objects k = saved_base + 4 * (saved_sizes (take k objects) + (if nat_lt k 3 then 0 else 22)
    + words_before (option_map_or (λ o. length o.words) (slice_get objects k) 0))

-- the word is the address of a visible object, of which P holds wherever it lies
pub record IsFound (f : SavedFile) (P : FileObject → Type 0) (word : ℕ) : Type 0 where
  pub number : ℕ
  pub object : SavedObject
  pub there : slice_get f.objects number ≡ Some object
  pub address : word ≡ saved_address f.objects number
  pub is : (first : ℕ) → P (placed_at first object)

-- the word is the address of a visible object that passes
abbrev pub NamesSaved : SavedFile → (FileObject → Bool) → ℕ → Type 0
NamesSaved f passes word = IsFound f (λ o. passes o ≡ true) word

-- the same, unless the word is nil, whose address is the base
abbrev pub IsNilOr : SavedFile → (FileObject → Bool) → ℕ → Type 0
IsNilOr f passes word = word ≢ saved_base → NamesSaved f passes word

-- a word whose low bits say that it is an address is that of a visible object
abbrev pub IsReference : SavedFile → ℕ → Type 0
IsReference f word = word % 4 ≡ 0 → NamesSaved f (λ o. true) word

-- ---- objects

-- an object's words that may name objects: the slots of a pointer object, and a method's literals
abbrev pub saved_references : SavedObject → List ℕ
saved_references o = if is_pointer_format o.format then o.words
    else (if is_method_format o.format then literals_in_words o.words else [])

-- A context has 22 or 62 slots. Its sender is nil or a context; its pc nil, or one of its method; its stackp nil, or at most its
-- size; its method nil or a method; and its closure nil or a closure.
pub record IsSavedContext (f : SavedFile) (o : SavedObject) : Type 0 where
  pub format : o.format ≡ 3
  pub slots : (length o.words == 22 || length o.words == 62) ≡ true
  pub sender : IsNilOr f is_file_context (slice_index o.words 0)
  pub pc : slice_index o.words 1 ≢ saved_base → NamesSaved f (is_pc_of (slice_index o.words 1)) (slice_index o.words 3)
  pub stackp : slice_index o.words 2 ≢ saved_base → is_stackp (length o.words - context_fields) (slice_index o.words 2) ≡ true
  pub method : IsNilOr f is_file_method (slice_index o.words 3)
  pub closure : IsNilOr f (λ c. c.class == 37) (slice_index o.words 4)

-- ---- the class table

-- the word of an entry of the class table, which is nil where there is no page
abbrev pub saved_entry : SavedFile → ℕ → ℕ
saved_entry f index = option_map_or (λ page. slice_index page (index % 1024)) (slice_get f.pages (index / 1024)) saved_base

-- The indices 0 and 16 have no class; 1, 2, 36 and 37 have one, and 3 has that of 1. Any class of another index has it as its hash.
pub record IsSavedTable (f : SavedFile) : Type 0 where
  pub zero : saved_entry f 0 ≡ saved_base
  pub hidden : saved_entry f 16 ≡ saved_base
  pub integers : saved_entry f 1 ≢ saved_base
  pub characters : saved_entry f 2 ≢ saved_base
  pub contexts : saved_entry f 36 ≢ saved_base
  pub closures : saved_entry f 37 ≢ saved_base
  pub second : saved_entry f 3 ≡ saved_entry f 1
  pub class : (index : ℕ) → index < 16384 → index ≢ 3 → IsNilOr f (is_class index) (saved_entry f index)

-- ---- roots

-- a process has four slots, and a live context in its slot 1
pub record IsActive (f : SavedFile) (word : ℕ) : Type 0 where
  pub fields : List ℕ
  pub process : IsFound f (λ o. fields_of 4 o ≡ Some fields) word
  pub context : NamesSaved f is_live_context (slice_index fields 1)

-- The special-object array has format 2 and 51 slots or more. Its slot 3 names what has the scheduler in its slot 1, and that has in
-- its slot 1 nil or the active process.
pub record IsRooted (f : SavedFile) : Type 0 where
  pub special : List ℕ
  pub link : List ℕ
  pub scheduler : List ℕ
  pub array : IsFound f (λ o. (o.format ≡ 2) × (fields_of 51 o ≡ Some special)) f.special
  pub linked : IsFound f (λ o. fields_of 2 o ≡ Some link) (slice_index special 3)
  pub scheduled : IsFound f (λ o. fields_of 2 o ≡ Some scheduler) (slice_index link 1)
  pub active : slice_index scheduler 1 ≢ saved_base → IsActive f (slice_index scheduler 1)

-- ---- births

-- a birth section has as many births as there are visible objects, each once and below the next
pub record IsSoundSection (objects : ℕ) (b : SavedBirths) : Type 0 where
  pub count : length b.births ≡ objects
  pub apart : has_repeats b.births ≡ false
  pub below : AllByRecursion (λ birth. birth < b.next) b.births
  pub most : b.next ≤ 2 ^ 62

-- ---- the whole

-- a file that has no fault, for a heap of so many words
pub record IsSoundFile (f : SavedFile) (limit : ℕ) : Type 0 where
  pub fits : FitsFile f
  pub size : 64 + 4 * (page_place f.objects (length f.pages) + length (birth_words f.births)) ≤ 536870912
  pub number : is_bad_format f.header ≡ false
  pub header_size : is_bad_header_size f.header ≡ false
  pub profile : is_bad_profile f.header ≡ false
  pub room : saved_sizes f.objects ≤ limit
  pub first : AllByRecursion (λ o. o.format ≡ 0) (take 3 f.objects)
  pub bodies : AllByRecursion (λ o. is_body o.format o.words ≡ true) f.objects
  pub kinds : AllByRecursion (λ o. (4 ≤ o.class) × (saved_entry f o.class ≢ saved_base)) f.objects
  pub references : AllByRecursion (λ o. AllByRecursion (IsReference f) (saved_references o)) f.objects
  pub contexts : AllByRecursion (λ o. o.class ≡ context_class → IsSavedContext f o) f.objects
  pub table : IsSavedTable f
  pub roots : IsRooted f
  pub births : (b : SavedBirths) → f.births ≡ Some b → IsSoundSection (length f.objects) b

-- ---- the state

-- the births of the visible objects, which without a birth section are their numbers
abbrev pub births_by : Option SavedBirths → ℕ → List ℕ
births_by None count = range_with_len 0 count
births_by (Some b) count = b.births

abbrev pub next_by : Option SavedBirths → ℕ → ℕ
next_by None count = count
next_by (Some b) count = b.next

abbrev pub births_saved : SavedFile → List ℕ
births_saved f = births_by f.births (length f.objects)

-- the visible objects where they lie
abbrev pub visible_saved : SavedFile → List FileObject
visible_saved f = placed_from 0 (take 3 f.objects) ++ placed_from 34 (drop 3 f.objects)

-- the birth of the object that a word names
unfoldable pub saved_birth : SavedFile → ℕ → ℕ
saved_birth f word = option_map_or (λ e. e.0) (find (λ e. saved_base + 4 * e.1.place == word) (zip (births_saved f) (visible_saved f))) 0

abbrev pub saved_head : SavedObject → Head
saved_head o = record { class = o.class; format = o.format; hash = o.hash; fixed = o.fixed }

abbrev pub saved_obj : SavedFile → SavedObject → Obj
saved_obj f o = obj_by (λ word. ref.Obj (saved_birth f word)) (saved_head o) o.words

-- the classes of the indices below n, by birth
abbrev pub saved_classes : SavedFile → ℕ → FinMap nat_cmp ℕ
saved_classes f zero = empty
saved_classes f (suc n) = if saved_entry f n == saved_base then saved_classes f n
    else insert (saved_classes f n) n (saved_birth f (saved_entry f n))

abbrev pub saved_rest : SavedFile → Rest
saved_rest f = record {
  nil = slice_index (births_saved f) 0;
  false_ = slice_index (births_saved f) 1;
  true_ = slice_index (births_saved f) 2;
  special = saved_birth f f.special;
  header = take 8 f.header ++ replicate 16 0 ++ drop 24 f.header;
  classes = saved_classes f table_size;
  last_hash = f.last_hash;
  next = next_by f.births (length f.objects);
  active = None;
}

-- the visible objects by their births, and the rest; no context is active
unfoldable pub state_of_file : SavedFile → Kept
state_of_file f = record {
  objects = from_entries (zip (births_saved f) (map (saved_obj f) f.objects));
  rest = saved_rest f;
}
