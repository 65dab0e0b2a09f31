-- Images that can be opened, by their objects and the numbers of their classes.
use Rattle.std.specs.Prelude.{◌≡◌, ◌≢◌, ℕ, ◌+◌, ◌*◌, ◌/◌, ◌<◌, ◌≤◌, ◌==◌, ◌||◌, true, false, if◌then◌else◌, List, [], length, map, take, slice_index, slice_get, Option, Some, None, ⊤}
use Rattle.std.specs.List.{AllByRecursion, enumerate_from}
use Rattle.std.specs.Ordering.{nat_cmp}
use Rattle.std.specs.FinMap.{FinMap, from_entries, get}
use Rattle.cs_model.specs.Ref.{Ref}
use Rattle.cs_model.specs.Ref as ref
use Rattle.cs_model.specs.Obj.{Obj, Head, Context, Ptr, Raw, Method, Ctx, context_class, first_pc, is_header, lies_between}
use Rattle.cs_model.specs.State.{Kept}
use Rattle.cs_model.specs.Words.{is_pointer_format}
use Rattle.cs_model.specs.SavedFile.{page_place, saved_sizes}
use Rattle.cs_model.specs.Builder.{nil_ref, header_bytes}
use Rattle.cs_build.specs.Laid.{laid, FitsLayout, file_for}
use Rattle.cs_build.specs.Stored.{IsStored}

-- ---- each object

-- an object without fields has no slots, and a method's header is valid
abbrev pub IsFormed : Obj → Type 0
IsFormed (Ptr head slots) = head.format ≡ 0 → slots ≡ []
IsFormed (Raw head bytes) = ⊤
IsFormed (Method head header literals bytecodes) = is_header header ≡ true
IsFormed (Ctx c) = ⊤

-- the class index isn't that of an immediate, and the table has a class for it
pub record HasKind (table : List ℕ) (o : Obj) : Type 0 where
  pub large : 4 ≤ (laid o).class
  pub shown : (laid o).class ≢ 16
  pub entry : slice_index table (laid o).class ≢ 0

-- a method with its number, in which a pc lies
pub record NamesMethod (os : List Obj) (r : Ref) (pc : ℕ) : Type 0 where
  pub number : ℕ
  pub head : Head
  pub header : ℕ
  pub literals : List Ref
  pub bytecodes : List ℕ
  pub named : r ≡ ref.Obj number
  pub there : slice_get os number ≡ Some (Method head header literals bytecodes)
  pub lies : lies_between (first_pc literals) (length bytecodes) pc ≡ true

-- a context that nothing has sent, with a pc in its method
pub record FormedContext (os : List Obj) (c : Context) : Type 0 where
  pub size : (c.size == 16 || c.size == 56) ≡ true
  pub sender : c.sender ≡ nil_ref
  pub closure : c.closure ≡ nil_ref
  pub at : ℕ
  pub pc : c.pc ≡ Some at
  pub method : NamesMethod os c.method at

abbrev pub IsFormedContext : List Obj → Obj → Type 0
IsFormedContext os (Ptr head slots) = ⊤
IsFormedContext os (Raw head bytes) = ⊤
IsFormedContext os (Method head header literals bytecodes) = ⊤
IsFormedContext os (Ctx c) = FormedContext os c

-- ---- the class table

-- slots of a pointer object that is no context
pub record HasSlots (os : List Obj) (number least : ℕ) (head : Head) (slots : List Ref) : Type 0 where
  pub there : slice_get os number ≡ Some (Ptr head slots)
  pub pointers : is_pointer_format head.format ≡ true
  pub shown : (head.class == 16) ≡ false
  pub other : (head.class == context_class) ≡ false
  pub long : least ≤ length slots

-- a class whose hash is its index
pub record IsClassAt (os : List Obj) (index number : ℕ) : Type 0 where
  pub head : Head
  pub slots : List Ref
  pub has : HasSlots os number 3 head slots
  pub fields : 1 ≤ head.format
  pub hash : head.hash ≡ index

-- 0 stands where an index has no class
pub record IsFormedTable (os : List Obj) (table : List ℕ) : Type 0 where
  pub zero : slice_index table 0 ≡ 0
  pub hidden : slice_index table 16 ≡ 0
  pub integers : slice_index table 1 ≢ 0
  pub characters : slice_index table 2 ≢ 0
  pub contexts : slice_index table 36 ≢ 0
  pub closures : slice_index table 37 ≢ 0
  pub second : slice_index table 3 ≡ slice_index table 1
  pub class : (index : ℕ) → index < 16384 → index ≢ 3 → slice_index table index ≢ 0 → IsClassAt os index (slice_index table index)

-- ---- roots

-- a process with a context
pub record IsFormedProcess (os : List Obj) (number : ℕ) : Type 0 where
  pub head : Head
  pub slots : List Ref
  pub has : HasSlots os number 4 head slots
  pub context : ℕ
  pub names : slice_get slots 1 ≡ Some (ref.Obj context)
  pub frame : Context
  pub there : slice_get os context ≡ Some (Ctx frame)

pub record IsFormedRoots (os : List Obj) : Type 0 where
  pub array : Head
  pub special : List Ref
  pub specials : HasSlots os 3 51 array special
  pub format : array.format ≡ 2
  pub link : ℕ
  pub third : slice_get special 3 ≡ Some (ref.Obj link)
  pub link_head : Head
  pub link_slots : List Ref
  pub linked : HasSlots os link 2 link_head link_slots
  pub scheduler : ℕ
  pub first : slice_get link_slots 1 ≡ Some (ref.Obj scheduler)
  pub scheduler_head : Head
  pub scheduler_slots : List Ref
  pub scheduled : HasSlots os scheduler 2 scheduler_head scheduler_slots
  pub process : ℕ
  pub active : slice_get scheduler_slots 1 ≡ Some (ref.Obj process)
  pub live : process ≢ 0 → IsFormedProcess os process

-- ---- the whole

-- objects and the numbers of their classes, as an image may hold them
pub record IsFormedImage (os : List Obj) (table : List ℕ) : Type 0 where
  pub layout : FitsLayout (map laid os) table
  pub stored : AllByRecursion (IsStored (length os)) os
  pub first : AllByRecursion (λ o. (laid o).format ≡ 0) (take 3 os)
  pub bodies : AllByRecursion IsFormed os
  pub kinds : AllByRecursion (HasKind table) os
  pub contexts : AllByRecursion (IsFormedContext os) os
  pub entries : IsFormedTable os table
  pub roots : IsFormedRoots os

-- a class table, by index, and the numbers of its classes
abbrev pub class_in : List ℕ → ℕ → Option ℕ
class_in table index = if slice_index table index == 0 then None else Some (slice_index table index)

abbrev pub IsTableOf : List ℕ → FinMap nat_cmp ℕ → Type 0
IsTableOf table classes = (index : ℕ) → get classes index ≡ class_in table index

-- the file isn't longer than a file may be, and the objects take no more than the limit
pub record HasRoom (os : List Obj) (table : List ℕ) (limit : ℕ) : Type 0 where
  pub file : 64 + 4 * page_place (file_for (map laid os) table).objects (length table / 1024) ≤ 536870912
  pub heap : saved_sizes (file_for (map laid os) table).objects ≤ limit

-- the state of these objects, of which each has its number as its birth
abbrev pub state_by : List Obj → FinMap nat_cmp ℕ → Kept
state_by os table = record {
  objects = from_entries (enumerate_from 0 os);
  rest = record {
    nil = 0;
    false_ = 1;
    true_ = 2;
    special = 3;
    header = header_bytes;
    classes = table;
    last_hash = 0;
    next = length os;
    active = None;
  };
}
