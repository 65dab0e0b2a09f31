-- The elements of an object as they are found and kept: in slots, or in bytes.
use Rattle.std.specs.Prelude.{⊤, ℕ, zero, suc, pos, ◌+◌, ◌-◌, ◌*◌, ◌/◌, ◌<◌, ◌≤◌, ◌==◌, ◌||◌, Bool, true, false, nat_le, List, Option, Some, None, option_map, option_and_then}
use Rattle.cs_heap.specs.Object.{Object, byte_of}
use Rattle.cs_model.specs.Arithmetic.{floor_rem}
use Rattle.cs_model.specs.Element.{class_shape, fields_within}
use Rattle.cs_model.specs.Instance.{unit_bytes}
use Rattle.cs_model.specs.Ref.{Ref, natural_of, small_of}
use Rattle.cs_model.specs.State.{Kept}
use Rattle.cs_prim_obj.specs.declared.contents.Contents.{Contents}
use Rattle.cs_prim_obj.specs.declared.contents.Contents.TheVariants.{Immediate, Slots, Bytes, Code, Context}
use Rattle.cs_prim_obj.specs.declared.elements.Elements.{Elements}
use Rattle.cs_prim_obj.specs.declared.elements.Unit.{Unit}
use Rattle.cs_prim_obj.specs.declared.elements.Unit.TheVariants as unit

abbrev pub elements : ℕ → ℕ → Unit → Elements
elements first count unit = record { first = first; count = count; unit = unit }

-- what holds this has these elements, where `fields` are its named fields, if it is a pointer object
abbrev pub elements_in : Contents → Option ℕ → Option Elements
elements_in Immediate fields = None
elements_in (Slots format count) fields = option_map (λ n. elements 1 (count - n) (unit.Slot n)) fields
elements_in (Bytes format count) fields = Some (elements 1 (count / unit_bytes format) (unit.Bytes (unit_bytes format) 0))
elements_in (Code literals count) fields = Some (elements (4 * (literals + 1) + 1) count (unit.Bytes 1 (4 * (literals + 1))))
elements_in Context fields = None

-- how many slots what holds this has, if it is a pointer object
abbrev pub slots_held : Contents → ℕ
slots_held Immediate = 0
slots_held (Slots format count) = count
slots_held (Bytes format count) = 0
slots_held (Code literals count) = 0
slots_held Context = 0

abbrev pub named_fields_of : Kept → Ref → Contents → Option ℕ
named_fields_of k x c = fields_within (slots_held c) (class_shape k x)

abbrev pub elements_of : Kept → Ref → Contents → Option Elements
elements_of k x c = elements_in c (named_fields_of k x c)

-- whether what holds this tells its size
abbrev pub has_size_by : Contents → Bool
has_size_by Immediate = false
has_size_by (Slots format count) = format == 2 || format == 3
has_size_by (Bytes format count) = true
has_size_by (Code literals count) = true
has_size_by Context = false

-- the named fields that slot 2 of a class says, which is this
abbrev pub fields_said : Ref → Option ℕ
fields_said x = option_and_then (λ shape. natural_of (floor_rem shape (pos 65536))) (small_of x)

-- so many bytes from one on, as a number, the lowest first
unfoldable pub element_number : List Object → ℕ → ℕ → ℕ → ℕ
element_number objects word at zero = 0
element_number objects word at (suc n) = byte_of objects word at + 256 * element_number objects word (at + 1) n

-- whether what holds this has raw bytes that are elements one by one
abbrev pub is_bytes_by : Contents → Bool
is_bytes_by Immediate = false
is_bytes_by (Slots format count) = false
is_bytes_by (Bytes format count) = nat_le 16 format
is_bytes_by (Code literals count) = false
is_bytes_by Context = false

-- the slot or byte behind the last element
abbrev pub end_of_unit : Unit → ℕ → ℕ
end_of_unit (unit.Slot fields) count = fields + count
end_of_unit (unit.Bytes size from) count = from + count * size

abbrev pub elements_end : Elements → ℕ
elements_end e = end_of_unit e.unit e.count

-- a unit has 1, 2, 4 or 8 bytes
abbrev pub HasUnit : Unit → Type 0
HasUnit (unit.Slot fields) = ⊤
HasUnit (unit.Bytes size from) = (0 < size) × (size ≤ 8)
