-- What writing and copying elements leads to.
use Rattle.std.proofs.Common.{◌≡◌, ℕ, zero, suc, ◌+◌, ◌*◌, ◌^◌, Bool, true, false, refl, ap, subst, Option, Some, None, List, [], ◌∷◌, nat_lt, unwrap_or, option_map, option_and_then, if◌then◌else◌}
use Rattle.std.specs.Prelude.{slice_get}
use Rattle.cs_model.specs.Ref.{Ref, small_index}
use Rattle.cs_model.specs.Obj.{Obj, Ptr, Raw, Method, Ctx, slots_in}
use Rattle.cs_model.specs.State.{Kept, object_of}
use Rattle.cs_model.specs.Instance.{unit_bytes}
use Rattle.cs_model.specs.Element.{bytes_of_number, unit_at, named_fields, store_bytes, store_unit, write_in, with_element, copy_unit, copy_slot, copy_one, copy_elements}
use Rattle.cs_model.proofs.LeadCombining.{Ready, Goes, goes_itself, goes_trans, ready_behind}
use Rattle.cs_model.proofs.LeadOperation.{store_goes, store_byte_goes}

-- ---- writing

pub store_bytes_goes : (bytes : List ℕ) {k : Kept} (x : Ref) (at : ℕ) → Ready k → Goes k (store_bytes k x at bytes)
unfolding store_bytes
store_bytes_goes [] x at r = goes_itself r
store_bytes_goes (b ∷ bytes) x at r = let a = store_byte_goes x at b r in goes_trans a (store_bytes_goes bytes x (at + 1) (ready_behind a))

-- an optional state, where there is one
abbrev pub GoesIf : Kept → Option Kept → Type 0
GoesIf k o = (t : Kept) → o ≡ Some t → Goes k t

pub goes_none : (k : Kept) → GoesIf k None
goes_none k t e = absurd (cc)

pub goes_some : {k u : Kept} → Goes k u → GoesIf k (Some u)
goes_some {k} {u} g t e = subst (λ q. Goes k q) (ap (λ o. unwrap_or o u) e) g

pub if_goes_some : {k u : Kept} (b : Bool) → (b ≡ true → Goes k u) → GoesIf k (if b then Some u else None)
if_goes_some true h = goes_some (h refl)
if_goes_some {k} false h = goes_none k

store_unit_goes : {k : Kept} (x : Ref) (size place : ℕ) (o : Option ℕ) → Ready k → GoesIf k (store_unit k x size place o)
store_unit_goes {k} x size place None r = goes_none k
store_unit_goes x size place (Some n) r = if_goes_some (nat_lt n (2 ^ (8 * size))) (λ e. store_bytes_goes (bytes_of_number size n) x (place * size) r)

pub map_goes : {A : Type 0} {k : Kept} (f : A → Kept) (o : Option A) → ((x : A) → Goes k (f x)) → GoesIf k (option_map f o)
map_goes {k = k} f None h = goes_none k
map_goes f (Some x) h = goes_some (h x)

pub and_then_goes_if : {A : Type 0} {k : Kept} (f : A → Option Kept) (o : Option A) → ((x : A) → o ≡ Some x → GoesIf k (f x)) → GoesIf k (option_and_then f o)
and_then_goes_if {k = k} f None h = goes_none k
and_then_goes_if f (Some x) h = h x refl

write_in_goes : {k : Kept} (x : Ref) (place : ℕ) (v : Ref) (o : Option Obj) → Ready k → GoesIf k (write_in k x place v o)
write_in_goes {k} x place v None r = goes_none k
write_in_goes {k} x place v (Some (Ptr head slots)) r = map_goes _ (named_fields k x slots) (λ fields. store_goes x (fields + place) v r)
write_in_goes x place v (Some (Raw head bytes)) r = store_unit_goes x (unit_bytes head.format) place (small_index v) r
write_in_goes x place v (Some (Method head header literals bytecodes)) r = store_unit_goes x 1 place (small_index v) r
write_in_goes {k} x place v (Some (Ctx c)) r = goes_none k

pub with_element_goes : {k : Kept} (x : Ref) (place : ℕ) (v : Ref) → Ready k → GoesIf k (with_element k x place v)
unfolding with_element
with_element_goes {k} x place v r = write_in_goes x place v (object_of k x) r

-- ---- copying

copy_unit_goes : {k : Kept} (x : Ref) (size to from : ℕ) (o : Option Obj) → Ready k → Goes k (copy_unit k x size to from o)
copy_unit_goes x size to from None r = goes_itself r
copy_unit_goes x size to from (Some (Ptr head slots)) r = goes_itself r
copy_unit_goes x size to from (Some (Raw head bytes)) r = store_bytes_goes (unit_at size from bytes) x (to * size) r
copy_unit_goes x size to from (Some (Method head header literals bytecodes)) r = goes_itself r
copy_unit_goes x size to from (Some (Ctx c)) r = goes_itself r

copy_slot_goes : {k : Kept} (x : Ref) (to : ℕ) (o : Option Ref) → Ready k → Goes k (copy_slot k x to o)
copy_slot_goes x to None r = goes_itself r
copy_slot_goes x to (Some v) r = store_goes x to v r

copy_one_goes : {k : Kept} (x : Ref) (to : ℕ) (y : Ref) (from : ℕ) (o : Option Obj) → Ready k → Goes k (copy_one k x to y from o)
copy_one_goes x to y from None r = goes_itself r
copy_one_goes {k} x to y from (Some (Ptr head slots)) r = copy_slot_goes x to (option_and_then (λ its. slice_get its from) (slots_in (object_of k y))) r
copy_one_goes {k} x to y from (Some (Raw head bytes)) r = copy_unit_goes x (unit_bytes head.format) to from (object_of k y) r
copy_one_goes x to y from (Some (Method head header literals bytecodes)) r = goes_itself r
copy_one_goes x to y from (Some (Ctx c)) r = goes_itself r

pub copy_elements_goes : (n : ℕ) {k : Kept} (x : Ref) (to : ℕ) (y : Ref) (from : ℕ) → Ready k → Goes k (copy_elements n k x to y from)
unfolding copy_elements
copy_elements_goes zero x to y from r = goes_itself r
copy_elements_goes (suc n) {k} x to y from r =
    let a = copy_one_goes x to y from (object_of k x) r in goes_trans a (copy_elements_goes n x (to + 1) y (from + 1) (ready_behind a))
