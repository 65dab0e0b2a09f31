-- The primitives of this crate.
use Rattle.std.specs.Prelude.{◌≡◌, ℕ, ◌==◌, ◌&&◌, ◌||◌, Bool, true, false, not, nat_le, nat_lt, Option, Some, None}
use Rattle.cs_model.specs.State.{Kept}
use Rattle.cs_model.specs.Context.{is_context_ref}
use Rattle.cs_model.specs.PrimAnswer.{receiver}
use Rattle.cs_prim_obj.specs.declared.numbers.Primitive.{Primitive}
use Rattle.cs_prim_obj.specs.declared.numbers.Primitive.TheVariants.{CharAtPut, ObjectAtPut, SetReadOnly, SlotAtPut, At, Size, CharAt, ObjectAt, SlotAt, Identical, Class, IsReadOnly, Quick}

-- 256 to 519 answer the receiver, a constant or a field of the receiver
abbrev pub is_quick : ℕ → Bool
is_quick number = nat_le 256 number && nat_lt number 520

-- those whatever their receiver is
abbrev pub is_about_objects : ℕ → Bool
is_about_objects number = number == 60 || number == 62 || number == 63 || number == 68 || number == 64 || number == 69 || number == 164 || number == 110 || number == 111 || number == 163 || is_quick number

-- and with those that have another row of their own where the receiver below the arguments is a context
abbrev pub performs_on_objects : Kept → ℕ → ℕ → Bool
performs_on_objects k number args = is_about_objects number || ((number == 73 || number == 74) && not (is_context_ref k (receiver k args)))

abbrev pub has_object_number : ℕ → Bool
has_object_number number = is_about_objects number || number == 73 || number == 74

-- the number of each
abbrev pub HasObjectNumber : Option Primitive → ℕ → Type 0
HasObjectNumber None number = has_object_number number ≡ false
HasObjectNumber (Some CharAtPut) number = number ≡ 64
HasObjectNumber (Some ObjectAtPut) number = number ≡ 69
HasObjectNumber (Some SetReadOnly) number = number ≡ 164
HasObjectNumber (Some SlotAtPut) number = number ≡ 74
HasObjectNumber (Some At) number = number ≡ 60
HasObjectNumber (Some Size) number = number ≡ 62
HasObjectNumber (Some CharAt) number = number ≡ 63
HasObjectNumber (Some ObjectAt) number = number ≡ 68
HasObjectNumber (Some SlotAt) number = number ≡ 73
HasObjectNumber (Some Identical) number = number ≡ 110
HasObjectNumber (Some Class) number = number ≡ 111
HasObjectNumber (Some IsReadOnly) number = number ≡ 163
HasObjectNumber (Some Quick) number = is_quick number ≡ true

-- how many arguments each takes; a quick one takes any
abbrev pub arguments_wanted : Primitive → Option ℕ
arguments_wanted CharAtPut = Some 2
arguments_wanted ObjectAtPut = Some 2
arguments_wanted SetReadOnly = Some 1
arguments_wanted SlotAtPut = Some 2
arguments_wanted At = Some 1
arguments_wanted Size = Some 0
arguments_wanted CharAt = Some 1
arguments_wanted ObjectAt = Some 1
arguments_wanted SlotAt = Some 1
arguments_wanted Identical = Some 1
arguments_wanted Class = Some 0
arguments_wanted IsReadOnly = Some 0
arguments_wanted Quick = None

abbrev pub is_wanted : Option ℕ → ℕ → Bool
is_wanted None args = true
is_wanted (Some wanted) args = wanted == args

abbrev pub takes : Primitive → ℕ → Bool
takes primitive args = is_wanted (arguments_wanted primitive) args
