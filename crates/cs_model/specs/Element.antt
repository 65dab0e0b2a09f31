-- Elements: the indexed slots of a pointer object behind its named fields, the units of raw bytes, the bytes of a method.
use Rattle.std.specs.Prelude.{ℕ, zero, suc, ℤ, pos, ◌+◌, ◌-◌, ◌*◌, ◌/◌, ◌%◌, ◌^◌, ◌&&◌, nat_lt, nat_le, if◌then◌else◌, List, [], ◌∷◌, length, take, drop, Option, Some, None, option_map, option_and_then, slice_get, unwrap_or}
use Rattle.cs_model.specs.Ref.{Ref, Small, small_of, small_index, natural_of}
use Rattle.cs_model.specs.Obj.{Obj, Ptr, Raw, Method, Ctx, first_pc, slots_in}
use Rattle.cs_model.specs.State.{Kept, object_of, slots_of}
use Rattle.cs_model.specs.Read.{class_of}
use Rattle.cs_model.specs.Arithmetic.{if_small, floor_rem}
use Rattle.cs_model.specs.Instance.{unit_bytes}
use Rattle.cs_model.specs.Operation.{store_of, store_byte_of}

-- a number from its bytes, the lowest first
abbrev pub number_of : List ℕ → ℕ
number_of [] = 0
number_of (b ∷ bytes) = b + 256 * number_of bytes

-- so many bytes of a number
abbrev pub bytes_of_number : ℕ → ℕ → List ℕ
bytes_of_number zero n = []
bytes_of_number (suc count) n = n % 256 ∷ bytes_of_number count (n / 256)

-- ---- which elements there are

-- the named fields of a pointer object: slot 2 of its class modulo 65,536, if that isn't more than its slots
abbrev pub fields_within : ℕ → Option ℤ → Option ℕ
fields_within slots None = None
fields_within slots (Some shape) = option_and_then (λ n. if nat_le n slots then Some n else None) (natural_of (floor_rem shape (pos 65536)))

abbrev pub class_shape : Kept → Ref → Option ℤ
class_shape k x = option_and_then (λ class. option_and_then (λ slots. option_and_then (λ s. small_of s) (slice_get slots 2)) (slots_of k 3 class)) (class_of k x)

unfoldable pub named_fields : Kept → Ref → List Ref → Option ℕ
named_fields k x slots = fields_within (length slots) (class_shape k x)

-- the elements are counted from `first`, and there are so many
pub record Range : Type 0 where
  pub first : ℕ
  pub count : ℕ

abbrev pub range : ℕ → ℕ → Range
range first count = record { first = first; count = count }

abbrev pub range_in : Kept → Ref → Option Obj → Option Range
range_in k x None = None
range_in k x (Some (Ptr head slots)) = option_map (λ fields. range 1 (length slots - fields)) (named_fields k x slots)
range_in k x (Some (Raw head bytes)) = Some (range 1 (length bytes / unit_bytes head.format))
range_in k x (Some (Method head header literals bytecodes)) = Some (range (first_pc literals) (length bytecodes))
range_in k x (Some (Ctx c)) = None

unfoldable pub range_of : Kept → Ref → Option Range
range_of k x = range_in k x (object_of k x)

-- the place of an index among the elements, counted from 0
abbrev pub place_in : Range → Option ℕ → Option ℕ
place_in r None = None
place_in r (Some i) = if nat_le r.first i && nat_lt (i - r.first) r.count then Some (i - r.first) else None

abbrev pub element_place : Kept → Ref → Ref → Option ℕ
element_place k x index = option_and_then (λ r. place_in r (small_index index)) (range_of k x)

-- ---- reading

abbrev pub unit_at : ℕ → ℕ → List ℕ → List ℕ
unit_at size place bytes = take size (drop (place * size) bytes)

abbrev pub small_ref : Option ℤ → Option Ref
small_ref value = option_map (λ z. Small z) value

abbrev pub read_in : Kept → Ref → ℕ → Option Obj → Option Ref
read_in k x place None = None
read_in k x place (Some (Ptr head slots)) = option_and_then (λ fields. slice_get slots (fields + place)) (named_fields k x slots)
read_in k x place (Some (Raw head bytes)) = small_ref (if_small (pos (number_of (unit_at (unit_bytes head.format) place bytes))))
read_in k x place (Some (Method head header literals bytecodes)) = option_map (λ b. Small (pos b)) (slice_get bytecodes place)
read_in k x place (Some (Ctx c)) = None

-- the element in a place, where it is a reference or fits a SmallInteger
unfoldable pub element_at : Kept → Ref → ℕ → Option Ref
element_at k x place = read_in k x place (object_of k x)

-- ---- writing

-- the bytes are written, the lowest place first
unfoldable pub store_bytes : Kept → Ref → ℕ → List ℕ → Kept
store_bytes k x at [] = k
store_bytes k x at (b ∷ bytes) = store_bytes (store_byte_of k x at b) x (at + 1) bytes

abbrev pub store_unit : Kept → Ref → ℕ → ℕ → Option ℕ → Option Kept
store_unit k x size place None = None
store_unit k x size place (Some n) = if nat_lt n (2 ^ (8 * size)) then Some (store_bytes k x (place * size) (bytes_of_number size n)) else None

abbrev pub write_in : Kept → Ref → ℕ → Ref → Option Obj → Option Kept
write_in k x place v None = None
write_in k x place v (Some (Ptr head slots)) = option_map (λ fields. store_of k x (fields + place) v) (named_fields k x slots)
write_in k x place v (Some (Raw head bytes)) = store_unit k x (unit_bytes head.format) place (small_index v)
write_in k x place v (Some (Method head header literals bytecodes)) = store_unit k x 1 place (small_index v)
write_in k x place v (Some (Ctx c)) = None

-- the state with the element in a place written, where the value fits it
unfoldable pub with_element : Kept → Ref → ℕ → Ref → Option Kept
with_element k x place v = write_in k x place v (object_of k x)

-- ---- copying

-- where the elements of an object begin: behind the named fields of a pointer object, and else at its front
abbrev pub front_of : Kept → Ref → Option Obj → ℕ
front_of k x None = 0
front_of k x (Some (Ptr head slots)) = unwrap_or (named_fields k x slots) 0
front_of k x (Some (Raw head bytes)) = 0
front_of k x (Some (Method head header literals bytecodes)) = 0
front_of k x (Some (Ctx c)) = 0

abbrev pub front : Kept → Ref → ℕ
front k x = front_of k x (object_of k x)

-- a unit is copied as its bytes, since one of 32 or 64 bits may be too large for a SmallInteger
abbrev pub copy_unit : Kept → Ref → ℕ → ℕ → ℕ → Option Obj → Kept
copy_unit k x size to from None = k
copy_unit k x size to from (Some (Ptr head slots)) = k
copy_unit k x size to from (Some (Raw head bytes)) = store_bytes k x (to * size) (unit_at size from bytes)
copy_unit k x size to from (Some (Method head header literals bytecodes)) = k
copy_unit k x size to from (Some (Ctx c)) = k

abbrev pub copy_slot : Kept → Ref → ℕ → Option Ref → Kept
copy_slot k x to None = k
copy_slot k x to (Some v) = store_of k x to v

abbrev pub copy_one : Kept → Ref → ℕ → Ref → ℕ → Option Obj → Kept
copy_one k x to y from None = k
copy_one k x to y from (Some (Ptr head slots)) = copy_slot k x to (option_and_then (λ its. slice_get its from) (slots_in (object_of k y)))
copy_one k x to y from (Some (Raw head bytes)) = copy_unit k x (unit_bytes head.format) to from (object_of k y)
copy_one k x to y from (Some (Method head header literals bytecodes)) = k
copy_one k x to y from (Some (Ctx c)) = k

-- So many slots or units of y from one place on are copied into x from another one on, in rising order: each is read behind the
-- writes before it. The named fields were read before the first.
unfoldable pub copy_elements : ℕ → Kept → Ref → ℕ → Ref → ℕ → Kept
copy_elements zero k x to y from = k
copy_elements (suc n) k x to y from = copy_elements n (copy_one k x to y from (object_of k x)) x (to + 1) y (from + 1)
