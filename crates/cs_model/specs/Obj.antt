-- Objects, and contexts among them (Blue Book, part four: a context is an object like others).
use Rattle.std.specs.Prelude.{ℕ, ◌+◌, ◌*◌, ◌/◌, ◌-◌, ◌%◌, ◌^◌, ◌==◌, ◌&&◌, Bool, true, false, nat_le, nat_lt, max, if◌then◌else◌, List, [], ◌∷◌, ◌++◌, length, take, Option, Some, None, slice_set}
use Rattle.cs_model.specs.Ref.{Ref}
use Rattle.cs_model.specs.Ref as ref

-- An activation. Its stack holds arguments, temporaries and operands, and nothing is beyond its top; a pc of none is nil.
pub record Context : Type 0 where
  pub hash : ℕ
  pub sender : Ref
  pub pc : Option ℕ
  pub method : Ref
  pub closure : Ref
  pub receiver : Ref
  pub stack : List Ref
  pub size : ℕ

-- What the head of an object says of it: its class index, its Spur format, its identity hash, 0 where it has none yet, and
-- whether it is fixed. Image code can't store into a fixed object, which is read-only.
pub record Head : Type 0 where
  pub class : ℕ
  pub format : ℕ
  pub hash : ℕ
  pub fixed : Bool

-- Pointer slots; raw bytes without the unused ones at their end; a method's header, literals and bytecodes; a context, whose
-- class index is 36, and which is never fixed.
pub data Obj : Type 0 where
  Ptr : (head : Head) (slots : List Ref) → Obj
  Raw : (head : Head) (bytes : List ℕ) → Obj
  Method : (head : Head) (header : ℕ) (literals : List Ref) (bytecodes : List ℕ) → Obj
  Ctx : (context : Context) → Obj

-- a new object has no hash, and may be stored into
abbrev pub new_head : ℕ → ℕ → Head
new_head class format = record { class = class; format = format; hash = 0; fixed = false }

abbrev pub given_hash : ℕ → Head → Head
given_hash hash head = record head { hash = hash }

abbrev pub fixed_to : Bool → Head → Head
fixed_to on head = record head { fixed = on }

-- the class index of contexts
abbrev pub context_class : ℕ
context_class = 36

abbrev pub class_index_in : Obj → ℕ
class_index_in (Ptr head slots) = head.class
class_index_in (Raw head bytes) = head.class
class_index_in (Method head header literals bytecodes) = head.class
class_index_in (Ctx c) = context_class

abbrev pub hash_in : Obj → ℕ
hash_in (Ptr head slots) = head.hash
hash_in (Raw head bytes) = head.hash
hash_in (Method head header literals bytecodes) = head.hash
hash_in (Ctx c) = c.hash

-- whether image code may not store into it
abbrev pub is_fixed : Obj → Bool
is_fixed (Ptr head slots) = head.fixed
is_fixed (Raw head bytes) = head.fixed
is_fixed (Method head header literals bytecodes) = head.fixed
is_fixed (Ctx c) = false

abbrev pub is_fixed_at : Option Obj → Bool
is_fixed_at None = false
is_fixed_at (Some o) = is_fixed o

abbrev pub is_context : Obj → Bool
is_context (Ptr head slots) = false
is_context (Raw head bytes) = false
is_context (Method head header literals bytecodes) = false
is_context (Ctx c) = true

abbrev pub is_context_at : Option Obj → Bool
is_context_at None = false
is_context_at (Some o) = is_context o

-- the fields of a context that come before its stack
abbrev pub context_fields : ℕ
context_fields = 6

-- how many slots an object takes, four bytes each
abbrev pub slot_count : Obj → ℕ
slot_count (Ptr head slots) = length slots
slot_count (Raw head bytes) = (length bytes + 3) / 4
slot_count (Method head header literals bytecodes) = 1 + length literals + (length bytecodes + 3) / 4
slot_count (Ctx c) = context_fields + c.size

-- the words of so many slots: a header of two, two more from 255 slots on, and a body of at least two, rounded up to even
abbrev pub words_of_slots : ℕ → ℕ
words_of_slots n = 2 * ((if nat_le 255 n then 1 else 0) + 1 + max 1 ((n + 1) / 2))

-- the words of an object
abbrev pub words_of : Obj → ℕ
words_of o = words_of_slots (slot_count o)

-- A method's header: 15 bits of literal count, a bit for a primitive, a bit for a large frame, 6 bits for the temporaries
-- with the arguments, 4 bits for the arguments.
abbrev pub literal_count : ℕ → ℕ
literal_count header = header % 2 ^ 15

abbrev pub has_primitive : ℕ → Bool
has_primitive header = header / 2 ^ 16 % 2 == 1

abbrev pub temporary_count : ℕ → ℕ
temporary_count header = header / 2 ^ 18 % 2 ^ 6

abbrev pub argument_count : ℕ → ℕ
argument_count header = header / 2 ^ 24 % 2 ^ 4

-- the size of a context of this method: how many values its stack may hold
abbrev pub context_size : ℕ → ℕ
context_size header = if header / 2 ^ 17 % 2 == 1 then 56 else 16

-- a header is valid where it isn't negative, arguments aren't more than temporaries, and these aren't more than the size
abbrev pub is_header : ℕ → Bool
is_header header = nat_lt header (2 ^ 30) && nat_le (argument_count header) (temporary_count header) && nat_le (temporary_count header) (context_size header)

-- Pcs count bytes from 1, behind the header and the literals of four bytes each.
abbrev pub first_pc : List Ref → ℕ
first_pc literals = 4 * (length literals + 1) + 1

-- a pc lies in a method: from the first one to the one behind the last bytecode
abbrev pub lies_between : ℕ → ℕ → ℕ → Bool
lies_between first count pc = nat_le first pc && nat_le pc (first + count)

abbrev pub lies_in : Option Obj → ℕ → Bool
lies_in None pc = false
lies_in (Some (Ptr head slots)) pc = false
lies_in (Some (Raw head bytes)) pc = false
lies_in (Some (Method head header literals bytecodes)) pc = lies_between (first_pc literals) (length bytecodes) pc
lies_in (Some (Ctx c)) pc = false

-- the primitive of bytecodes that begin with 139 i j: i + 256 * j
abbrev pub number_in : List ℕ → Option ℕ
number_in [] = None
number_in (a ∷ []) = None
number_in (a ∷ b ∷ []) = None
number_in (a ∷ b ∷ c ∷ bytes) = if a == 139 then Some (b + 256 * c) else None

abbrev pub primitive_number : ℕ → List ℕ → Option ℕ
primitive_number header bytecodes = if has_primitive header then number_in bytecodes else None

-- A context that is changed in one part.

abbrev pub with_pc : Option ℕ → Context → Context
with_pc pc c = record c { pc = pc }

abbrev pub with_stack : List Ref → Context → Context
with_stack xs c = record c { stack = xs }

abbrev pub pushed : Ref → Context → Context
pushed x c = with_stack (c.stack ++ x ∷ []) c

-- without the n topmost values
abbrev pub popped : ℕ → Context → Context
popped n c = with_stack (take (length c.stack - n) c.stack) c

abbrev pub stored : ℕ → Ref → Context → Context
stored i x c = with_stack (slice_set c.stack i x) c

-- the context that an object is, changed
abbrev pub edit_context : (Context → Context) → Obj → Obj
edit_context f (Ptr head slots) = Ptr head slots
edit_context f (Raw head bytes) = Raw head bytes
edit_context f (Method head header literals bytecodes) = Method head header literals bytecodes
edit_context f (Ctx c) = Ctx (f c)

-- A returned activation is dead: sender nil, pc nil, an empty stack. Its receiver, method, closure, size and hash stay.
abbrev pub dead : ℕ → Context → Context
dead nil c = record c { sender = ref.Obj nil; pc = None; stack = [] }

-- What is read of an object that may be absent.

-- the slots of a pointer object; a context is none here
abbrev pub slots_in : Option Obj → Option (List Ref)
slots_in None = None
slots_in (Some (Ptr head slots)) = Some slots
slots_in (Some (Raw head bytes)) = None
slots_in (Some (Method head header literals bytecodes)) = None
slots_in (Some (Ctx c)) = None

abbrev pub context_in : Option Obj → Option Context
context_in None = None
context_in (Some (Ptr head slots)) = None
context_in (Some (Raw head bytes)) = None
context_in (Some (Method head header literals bytecodes)) = None
context_in (Some (Ctx c)) = Some c

abbrev pub is_method : Option Obj → Bool
is_method None = false
is_method (Some (Ptr head slots)) = false
is_method (Some (Raw head bytes)) = false
is_method (Some (Method head header literals bytecodes)) = true
is_method (Some (Ctx c)) = false

abbrev pub literals_in : Option Obj → List Ref
literals_in None = []
literals_in (Some (Ptr head slots)) = []
literals_in (Some (Raw head bytes)) = []
literals_in (Some (Method head header literals bytecodes)) = literals
literals_in (Some (Ctx c)) = []

abbrev pub bytecodes_in : Option Obj → List ℕ
bytecodes_in None = []
bytecodes_in (Some (Ptr head slots)) = []
bytecodes_in (Some (Raw head bytes)) = []
bytecodes_in (Some (Method head header literals bytecodes)) = bytecodes
bytecodes_in (Some (Ctx c)) = []

abbrev pub header_in : Option Obj → ℕ
header_in None = 0
header_in (Some (Ptr head slots)) = 0
header_in (Some (Raw head bytes)) = 0
header_in (Some (Method head header literals bytecodes)) = header
header_in (Some (Ctx c)) = 0

-- the slots of a pointer object that has at least n
abbrev pub at_least : ℕ → Option (List Ref) → Option (List Ref)
at_least n None = None
at_least n (Some slots) = if nat_le n (length slots) then Some slots else None
