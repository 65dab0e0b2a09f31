-- What an object holds, by its kind and by how much there is of it.
use Rattle.std.specs.Prelude.{ℕ, ◌+◌, ◌*◌, ◌-◌, ◌==◌, Bool, true, false, if◌then◌else◌, List, length, Option, Some, None, unwrap_or}
use Rattle.cs_word.specs.Word.{natural_of_word}
use Rattle.cs_heap.specs.Format.{is_code, is_pointers}
use Rattle.cs_heap.specs.Object.{Object, class_at, format_at, is_object, slot_count_of, slot_of}
use Rattle.cs_model.specs.Obj.{Obj, Ptr, Raw, Method, Ctx, context_class, literal_count}
use Rattle.cs_model.specs.Words.{unused_bytes}
use Rattle.cs_prim_obj.specs.declared.contents.Contents.{Contents}
use Rattle.cs_prim_obj.specs.declared.contents.Contents.TheVariants.{Immediate, Slots, Bytes, Code, Context}

abbrev pub contents_of : Option Obj → Contents
contents_of None = Immediate
contents_of (Some (Ptr head slots)) = Slots head.format (length slots)
contents_of (Some (Raw head bytes)) = Bytes head.format (length bytes)
contents_of (Some (Method head header literals bytecodes)) = Code (length literals) (length bytecodes)
contents_of (Some (Ctx c)) = Context

-- ---- the same by what the heap tells of an address

-- how many literals the header of a method says, which is its first slot
abbrev pub literals_at : List Object → ℕ → ℕ
literals_at objects word = literal_count (unwrap_or (natural_of_word (slot_of objects word 0)) 0)

abbrev pub contents_at : List Object → ℕ → Contents
contents_at objects word =
    if is_object objects word then
    (if class_at objects word == context_class then Context else
    if is_pointers (format_at objects word) then Slots (format_at objects word) (slot_count_of objects word) else
    if is_code (format_at objects word) then
    Code (literals_at objects word) (4 * (slot_count_of objects word - (1 + literals_at objects word)) - unused_bytes (format_at objects word)) else
    Bytes (format_at objects word) (4 * slot_count_of objects word - unused_bytes (format_at objects word)))
    else Immediate

-- how many literals what holds this has, if it is a method
abbrev pub literals_held : Contents → Option ℕ
literals_held Immediate = None
literals_held (Slots format count) = None
literals_held (Bytes format count) = None
literals_held (Code literals count) = Some literals
literals_held Context = None

-- how many slots or bytes this is; a method has four bytes for its header and for each literal
abbrev pub amount_in : Contents → ℕ
amount_in Immediate = 0
amount_in (Slots format count) = count
amount_in (Bytes format count) = count
amount_in (Code literals count) = 4 * (literals + 1) + count
amount_in Context = 0

-- whether what holds this can be made read-only
abbrev pub can_be_fixed_by : Contents → Bool
can_be_fixed_by Immediate = false
can_be_fixed_by (Slots format count) = true
can_be_fixed_by (Bytes format count) = true
can_be_fixed_by (Code literals count) = true
can_be_fixed_by Context = false
