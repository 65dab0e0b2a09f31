-- Elements are read, written and copied alike.
use Rattle.std.proofs.Common.{ℕ, zero, suc, ◌+◌, ◌-◌, ◌*◌, ◌/◌, ◌^◌, ℤ, pos, Option, Some, None, List, [], ◌∷◌, length, unwrap_or, nat_lt}
use Rattle.std.specs.Prelude.{slice_get}
use Rattle.cs_model.specs.Ref.{Ref, Small, small_of, small_index}
use Rattle.cs_model.specs.Obj.{Obj, Ptr, Raw, Method, Ctx, first_pc}
use Rattle.cs_model.specs.State.{Kept, IsHeld, NamesHeld}
use Rattle.cs_model.specs.Arithmetic.{if_small}
use Rattle.cs_model.specs.Instance.{unit_bytes}
use Rattle.cs_model.specs.Element.{number_of, bytes_of_number, fields_within, class_shape, named_fields, range, range_in, range_of, place_in, element_place, unit_at, small_ref, read_in, element_at, store_bytes, store_unit, write_in, with_element, front_of, front, copy_unit, copy_slot, copy_one, copy_elements}
use Rattle.cs_model.specs.Keeps.{Keeps}
use Rattle.cs_model.proofs.Same.{Same, same, SameOption, none, some, Any, is, value, of_option, and_then_same, map_same, plain, any_option}
use Rattle.cs_model.proofs.Keeping.{Moved, moved, unmoved, IsHeld-grows}
use Rattle.cs_model.proofs.Reading.{listed, object_of_same, slots_in_same, slots_of_same, slice_same, class_of_same}
use Rattle.cs_model.proofs.Operating.{store_moved, store_byte_moved}
use Rattle.cs_model.proofs.Answering.{MovedOption, nothing, gives, map_moved, if_moved}

class_shape_same : {v m : Kept} {x y : Ref} → Keeps v m → Same (IsHeld v) x y → SameOption Any (class_shape v x) (class_shape m y)
class_shape_same k s =
    and_then_same (class_of_same k s) (λ class h.
    and_then_same (slots_of_same k 3 (same class h)) (λ slots g.
    and_then_same (slice_same 2 (same slots g)) (λ z f. any_option (small_of z))))

pub fields_of_same : {v m : Kept} {x y : Ref} → Keeps v m → Same (IsHeld v) x y → (slots : List Ref) → SameOption Any (named_fields v x slots) (named_fields m y slots)
unfolding named_fields
fields_of_same k s slots = plain (of_option (fields_within (length slots)) (class_shape_same k s))

range_in_same : {v m : Kept} {x y : Ref} {o p : Option Obj} → Keeps v m → Same (IsHeld v) x y → SameOption (NamesHeld v) o p → SameOption Any (range_in v x o) (range_in m y p)
range_in_same k s none = none
range_in_same k s (some (Ptr head slots) h) = map_same Any (λ fields. range 1 (length slots - fields)) (fields_of_same k s slots) (λ fields a. tt)
range_in_same k s (some (Raw head bytes) h) = some (range 1 (length bytes / unit_bytes head.format)) tt
range_in_same k s (some (Method head header literals bytecodes) h) = some (range (first_pc literals) (length bytecodes)) tt
range_in_same k s (some (Ctx c) h) = none

pub range_of_same : {v m : Kept} {x y : Ref} → Keeps v m → Same (IsHeld v) x y → SameOption Any (range_of v x) (range_of m y)
unfolding range_of
range_of_same k s = range_in_same k s (object_of_same k s)

pub place_of_same : {v m : Kept} {P : Ref → Type 0} {x y i j : Ref} → Keeps v m → Same (IsHeld v) x y → Same P i j → SameOption Any (element_place v x i) (element_place m y j)
place_of_same k s (same i h) = and_then_same (range_of_same k s) (λ r a. any_option (place_in r (small_index i)))

-- ---- reading

small_ref_same : {v m : Kept} → Keeps v m → (o : Option ℤ) → SameOption (IsHeld v) (small_ref o) (small_ref o)
small_ref_same k None = none
small_ref_same k (Some z) = some (Small z) tt

read_in_same : {v m : Kept} {x y : Ref} {o p : Option Obj} → Keeps v m → Same (IsHeld v) x y → (place : ℕ) → SameOption (NamesHeld v) o p → SameOption (IsHeld v) (read_in v x place o) (read_in m y place p)
read_in_same k s place none = none
read_in_same {v} k s place (some (Ptr head slots) h) = and_then_same (fields_of_same k s slots) (λ fields a. slice_same (fields + place) (listed v slots h))
read_in_same k s place (some (Raw head bytes) h) = small_ref_same k (if_small (pos (number_of (unit_at (unit_bytes head.format) place bytes))))
read_in_same {v} k s place (some (Method head header literals bytecodes) h) = map_same (IsHeld v) (λ b. Small (pos b)) (any_option (slice_get bytecodes place)) (λ b a. tt)
read_in_same k s place (some (Ctx c) h) = none

pub element_at_same : {v m : Kept} {x y : Ref} → Keeps v m → Same (IsHeld v) x y → (place : ℕ) → SameOption (IsHeld v) (element_at v x place) (element_at m y place)
unfolding element_at
element_at_same k s place = read_in_same k s place (object_of_same k s)

-- ---- writing

store_each_moved : (bytes : List ℕ) {v m : Kept} → Keeps v m → (x : Ref) (at : ℕ) → Moved v (store_bytes v x at bytes) (store_bytes m x at bytes)
unfolding store_bytes
store_each_moved [] k x at = unmoved k
store_each_moved (b ∷ bytes) k x at = let s = store_byte_moved k (is x) at b in moved s (store_each_moved bytes s.keeps x (at + 1))

pub store_bytes_moved : {v m : Kept} {P : Ref → Type 0} {x y : Ref} → Keeps v m → Same P x y → (at : ℕ) (bytes : List ℕ) → Moved v (store_bytes v x at bytes) (store_bytes m y at bytes)
store_bytes_moved k (same x h) at bytes = store_each_moved bytes k x at

store_unit_moved : {v m : Kept} {P : Ref → Type 0} {x y : Ref} {o p : Option ℕ} → Keeps v m → Same P x y → (size place : ℕ) → Same Any o p → MovedOption v (store_unit v x size place o) (store_unit m y size place p)
store_unit_moved k s size place (same None a) = nothing
store_unit_moved k s size place (same (Some n) a) = if_moved (is (nat_lt n (2 ^ (8 * size)))) (gives (store_bytes_moved k s (place * size) (bytes_of_number size n))) nothing

write_in_moved : {v m : Kept} {x y z w : Ref} {o p : Option Obj} → Keeps v m → Same (IsHeld v) x y → (place : ℕ) → Same (IsHeld v) z w → SameOption (NamesHeld v) o p → MovedOption v (write_in v x place z o) (write_in m y place w p)
write_in_moved k s place t none = nothing
write_in_moved k s place t (some (Ptr head slots) h) = map_moved _ _ (fields_of_same k s slots) (λ fields a. store_moved k s (fields + place) t)
write_in_moved k s place t (some (Raw head bytes) h) = store_unit_moved k s (unit_bytes head.format) place (value small_index t)
write_in_moved k s place t (some (Method head header literals bytecodes) h) = store_unit_moved k s 1 place (value small_index t)
write_in_moved k s place t (some (Ctx c) h) = nothing

pub with_element_moved : {v m : Kept} {x y z w : Ref} → Keeps v m → Same (IsHeld v) x y → (place : ℕ) → Same (IsHeld v) z w → MovedOption v (with_element v x place z) (with_element m y place w)
unfolding with_element
with_element_moved k s place t = write_in_moved k s place t (object_of_same k s)

-- ---- copying

front_of_same : {v m : Kept} {x y : Ref} {o p : Option Obj} → Keeps v m → Same (IsHeld v) x y → SameOption (NamesHeld v) o p → Same Any (front_of v x o) (front_of m y p)
front_of_same k s none = is 0
front_of_same k s (some (Ptr head slots) h) = of_option (λ o. unwrap_or o 0) (fields_of_same k s slots)
front_of_same k s (some (Raw head bytes) h) = is 0
front_of_same k s (some (Method head header literals bytecodes) h) = is 0
front_of_same k s (some (Ctx c) h) = is 0

pub front_same : {v m : Kept} {x y : Ref} → Keeps v m → Same (IsHeld v) x y → Same Any (front v x) (front m y)
front_same k s = front_of_same k s (object_of_same k s)

copy_unit_moved : {v m : Kept} {Q : Obj → Type 0} {o p : Option Obj} → Keeps v m → (x : Ref) (size to from : ℕ) → SameOption Q o p → Moved v (copy_unit v x size to from o) (copy_unit m x size to from p)
copy_unit_moved k x size to from none = unmoved k
copy_unit_moved k x size to from (some (Ptr head slots) h) = unmoved k
copy_unit_moved k x size to from (some (Raw head bytes) h) = store_bytes_moved k (is x) (to * size) (unit_at size from bytes)
copy_unit_moved k x size to from (some (Method head header literals bytecodes) h) = unmoved k
copy_unit_moved k x size to from (some (Ctx c) h) = unmoved k

copy_slot_moved : {v m : Kept} {o p : Option Ref} → Keeps v m → (x : Ref) (to : ℕ) → SameOption (IsHeld v) o p → Moved v (copy_slot v x to o) (copy_slot m x to p)
copy_slot_moved k x to none = unmoved k
copy_slot_moved k x to (some z h) = store_moved k (is x) to (same z h)

copy_one_moved : {v m : Kept} {o p : Option Obj} → Keeps v m → (x : Ref) → IsHeld v x → (to : ℕ) (y : Ref) → IsHeld v y → (from : ℕ) → SameOption (NamesHeld v) o p → Moved v (copy_one v x to y from o) (copy_one m x to y from p)
copy_one_moved k x g to y f from none = unmoved k
copy_one_moved k x g to y f from (some (Ptr head slots) h) = copy_slot_moved k x to (and_then_same (slots_in_same (object_of_same k (same y f))) (λ its i. slice_same from (same its i)))
copy_one_moved k x g to y f from (some (Raw head bytes) h) = copy_unit_moved k x (unit_bytes head.format) to from (object_of_same k (same y f))
copy_one_moved k x g to y f from (some (Method head header literals bytecodes) h) = unmoved k
copy_one_moved k x g to y f from (some (Ctx c) h) = unmoved k

copy_each_moved : (n : ℕ) {v m : Kept} → Keeps v m → (x : Ref) → IsHeld v x → (to : ℕ) (y : Ref) → IsHeld v y → (from : ℕ) → Moved v (copy_elements n v x to y from) (copy_elements n m x to y from)
unfolding copy_elements
copy_each_moved zero k x g to y f from = unmoved k
copy_each_moved (suc n) k x g to y f from =
    let s = copy_one_moved k x g to y f from (object_of_same k (same x g)) in
    moved s (copy_each_moved n s.keeps x (IsHeld-grows s.grows x g) (to + 1) y (IsHeld-grows s.grows y f) (from + 1))

pub copy_elements_moved : {v m : Kept} {x y z w : Ref} {i j a b : ℕ} → Keeps v m → (n : ℕ) → Same (IsHeld v) x y → Same Any i j → Same (IsHeld v) z w → Same Any a b → Moved v (copy_elements n v x i z a) (copy_elements n m y j w b)
copy_elements_moved k n (same x g) (same to i) (same z f) (same from a) = copy_each_moved n k x g to z f from
