-- The elements of objects, as the heap and as the state tell them.
use Rattle.std.proofs.Common.{◌≡◌, ◌⊎◌, inl, inr, ◌∙◌, ℕ, zero, suc, ◌+◌, ◌-◌, ◌*◌, ◌/◌, ◌<◌, ◌≤◌, ◌^◌, Bool, true, false, refl, sym, ap, ap₂, subst, arith, Option, Some, None, is_some, List, [], ◌∷◌, length, drop, take, get_or, pos}
use Rattle.std.specs.Prelude.{◌==◌, if◌then◌else◌, nat_le, nat_lt, option_and_then, option_map, slice_get}
use Rattle.std.proofs.lemmas.Bool.{false≢true}
use Rattle.std.proofs.lemmas.Bool.Decides.{nat_tests}
use Rattle.std.proofs.lemmas.Option.{slice_get-get_or}
use Rattle.cs_heap.specs.Object.{Object, byte_of}
use Rattle.cs_model.specs.Arithmetic.{if_small}
use Rattle.cs_model.specs.Element.{Range, class_shape, element_at, element_place, fields_within, named_fields, number_of, place_in, range, range_in, range_of, read_in, small_ref}
use Rattle.cs_model.specs.Instance.{unit_bytes}
use Rattle.cs_model.specs.Obj as obj
use Rattle.cs_model.specs.Obj.{Obj, Ptr, Raw, Method, Ctx}
use Rattle.cs_model.specs.PrimObject.{byte_at, byte_string, has_size, is_bytes, small_count}
use Rattle.cs_model.specs.Ref.{Ref, Small, small_index}
use Rattle.cs_model.specs.State.{Kept, object_of}
use Rattle.cs_prim_obj.specs.Contents.{amount_in, contents_of}
use Rattle.cs_prim_obj.specs.declared.contents.Contents.{Contents}
use Rattle.cs_prim_obj.specs.declared.contents.Contents.TheVariants.{Immediate, Slots, Bytes, Code, Context}
use Rattle.cs_word.specs.declared.Oop.{Oop}
use Rattle.cs_acts.specs.Names.{NamesOption, Store}
use Rattle.cs_acts.specs.Ready.{writable_bytes}
use Rattle.cs_prim_obj.specs.Elements.{elements, elements_of, elements_end, end_of_unit, has_size_by, is_bytes_by, element_number}
use Rattle.cs_prim_obj.specs.declared.elements.Elements.{Elements}
use Rattle.cs_prim_obj.specs.declared.elements.Unit.{Unit}
use Rattle.cs_prim_obj.specs.declared.elements.Unit.TheVariants as unit

abbrev pub held : Kept → Ref → Option Elements
held k x = elements_of k x (contents_of (object_of k x))

-- ---- which there are

map-map : (o : Option ℕ) (n : ℕ) → option_map (λ f. range 1 (n - f)) o ≡ option_map (λ (e : Elements). range e.first e.count) (option_map (λ f. elements 1 (n - f) (unit.Slot f)) o)
map-map None n = refl
map-map (Some f) n = refl

pub range_told : (k : Kept) (x : Ref) → range_of k x ≡ option_map (λ (e : Elements). range e.first e.count) (held k x)
unfolding range_of named_fields
range_told k x = go (object_of k x)
  where
    go : (o : Option Obj) → range_in k x o ≡ option_map (λ (e : Elements). range e.first e.count) (elements_of k x (contents_of o))
    go None = refl
    go (Some (Ptr head slots)) = map-map (fields_within (length slots) (class_shape k x)) (length slots)
    go (Some (Raw head bytes)) = refl
    go (Some (Method head header literals bytecodes)) = refl
    go (Some (Ctx c)) = refl

pub size_told : (o : Option Obj) → has_size_by (contents_of o) ≡ has_size o
size_told None = refl
size_told (Some (Ptr head slots)) = refl
size_told (Some (Raw head bytes)) = refl
size_told (Some (Method head header literals bytecodes)) = refl
size_told (Some (Ctx c)) = refl

-- ---- those in slots

abbrev is_slot_unit : Unit → Bool
is_slot_unit (unit.Slot n) = true
is_slot_unit (unit.Bytes size from) = false

abbrev in_slots : Option Elements → Bool
in_slots None = false
in_slots (Some u) = is_slot_unit u.unit

abbrev size_of_unit : Unit → ℕ
size_of_unit (unit.Slot n) = 0
size_of_unit (unit.Bytes size from) = size

abbrev size_in : Option Elements → ℕ
size_in None = 0
size_in (Some u) = size_of_unit u.unit

abbrev count_in : Option Elements → ℕ
count_in None = 0
count_in (Some u) = u.count

abbrev from_of_unit : Unit → ℕ
from_of_unit (unit.Slot n) = 0
from_of_unit (unit.Bytes size from) = from

abbrev from_in : Option Elements → ℕ
from_in None = 0
from_in (Some u) = from_of_unit u.unit

abbrev fields_of_unit : Unit → ℕ
fields_of_unit (unit.Slot n) = n
fields_of_unit (unit.Bytes size from) = 0

abbrev fields_in_unit : Option Elements → ℕ
fields_in_unit None = 0
fields_in_unit (Some u) = fields_of_unit u.unit

pub slot_element : (k : Kept) (x : Ref) (first count fields place : ℕ) → held k x ≡ Some (elements first count (unit.Slot fields))
    → option_and_then (λ slots. slice_get slots (fields + place)) (obj.slots_in (object_of k x)) ≡ element_at k x place
unfolding element_at named_fields
slot_element k x first count fields place e = go (object_of k x) e
  where
    by : (slots : List Ref) (o : Option ℕ) → option_map (λ n. elements 1 (length slots - n) (unit.Slot n)) o ≡ Some (elements first count (unit.Slot fields))
        → slice_get slots (fields + place) ≡ option_and_then (λ n. slice_get slots (n + place)) o
    by slots None e = absurd (cc)
    by slots (Some n) e = ap (λ (u : Option Elements). slice_get slots (fields_in_unit u + place)) (sym e)

    go : (o : Option Obj) → elements_of k x (contents_of o) ≡ Some (elements first count (unit.Slot fields)) → option_and_then (λ slots. slice_get slots (fields + place)) (obj.slots_in o) ≡ read_in k x place o
    go None e = absurd (cc)
    go (Some (Ptr head slots)) e = by slots (fields_within (length slots) (class_shape k x)) e
    go (Some (Raw head bytes)) e = absurd (false≢true (ap in_slots e))
    go (Some (Method head header literals bytecodes)) e = absurd (false≢true (ap in_slots e))
    go (Some (Ctx c)) e = absurd (cc)

-- ---- those in bytes

-- the bytes that elements are made of
abbrev pub bytes_in : Option Obj → List ℕ
bytes_in None = []
bytes_in (Some (Ptr head slots)) = []
bytes_in (Some (Raw head bytes)) = bytes
bytes_in (Some (Method head header literals bytecodes)) = bytecodes
bytes_in (Some (Ctx c)) = []

drop_next : (xs : List ℕ) (a : ℕ) → a < length xs → drop a xs ≡ get_or xs a 0 ∷ drop (suc a) xs
drop_next [] a l = absurd (omega (arith, l))
drop_next (x ∷ xs) zero l = refl
drop_next (x ∷ xs) (suc a) l = drop_next xs a (omega (arith, l))

-- the byte of an object with which those of its elements begin
abbrev pub front_in : Contents → ℕ
front_in Immediate = 0
front_in (Slots format count) = 0
front_in (Bytes format count) = 0
front_in (Code literals count) = 4 * (literals + 1)
front_in Context = 0

-- the bytes of an object stand in the heap from one byte of it on
abbrev pub StandFrom : List Object → ℕ → ℕ → List ℕ → Type 0
StandFrom os w from bytes = (i : ℕ) → i < length bytes → byte_of os w (from + i) ≡ get_or bytes i 0

pub number_is : (os : List Object) (w from : ℕ) (bytes : List ℕ) → StandFrom os w from bytes → (n a : ℕ) → a + n ≤ length bytes → element_number os w (from + a) n ≡ number_of (take n (drop a bytes))
unfolding element_number
number_is os w from bytes stand zero a l = refl
number_is os w from bytes stand (suc n) a l =
    let here = stand a (omega (arith, l)) in
    let next : from + a + 1 ≡ from + suc a = omega arith in
    let rest : element_number os w (from + a + 1) n ≡ number_of (take n (drop (suc a) bytes)) =
    ap (λ i. element_number os w i n) next ∙ number_is os w from bytes stand n (suc a) (omega (arith, l)) in
    ap₂ (λ (b m : ℕ). b + 256 * m) here rest ∙ sym (ap (λ (ys : List ℕ). number_of (take (suc n) ys)) (drop_next bytes a (omega (arith, l))))

by_bytes : (format : ℕ) → (unit_bytes format ≡ 8) ⊎ ((unit_bytes format ≡ 4) ⊎ ((unit_bytes format ≡ 2) ⊎ (unit_bytes format ≡ 1)))
by_bytes format = go (format == 9) (format == 10) (nat_lt format 16)
  where
    go : (a b c : Bool) → let n : ℕ = if a then 8 else if b then 4 else if c then 2 else 1 in (n ≡ 8) ⊎ ((n ≡ 4) ⊎ ((n ≡ 2) ⊎ (n ≡ 1)))
    go true b c = inl refl
    go false true c = inr (inl refl)
    go false false true = inr (inr (inl refl))
    go false false false = inr (inr (inr refl))

-- a unit in its place ends within the bytes
pub unit_within : (format bytes place : ℕ) → place < bytes / unit_bytes format → place * unit_bytes format + unit_bytes format ≤ bytes
unit_within format bytes place l = go (unit_bytes format) (by_bytes format) l
  where
    go : (n : ℕ) → (n ≡ 8) ⊎ ((n ≡ 4) ⊎ ((n ≡ 2) ⊎ (n ≡ 1))) → place < bytes / n → place * n + n ≤ bytes
    go n (inl e) l = let m : place < bytes / 8 = subst (λ i. place < bytes / i) e l in subst (λ i. place * i + i ≤ bytes) (sym e) (omega (arith, m))
    go n (inr (inl e)) l = let m : place < bytes / 4 = subst (λ i. place < bytes / i) e l in subst (λ i. place * i + i ≤ bytes) (sym e) (omega (arith, m))
    go n (inr (inr (inl e))) l = let m : place < bytes / 2 = subst (λ i. place < bytes / i) e l in subst (λ i. place * i + i ≤ bytes) (sym e) (omega (arith, m))
    go n (inr (inr (inr e))) l = let m : place < bytes / 1 = subst (λ i. place < bytes / i) e l in subst (λ i. place * i + i ≤ bytes) (sym e) (omega (arith, m))

pub byte_element : (k : Kept) (x : Ref) (os : List Object) (w first count size from place : ℕ) → held k x ≡ Some (elements first count (unit.Bytes size from)) → place < count
    → StandFrom os w from (bytes_in (object_of k x)) → ((i : ℕ) → byte_of os w i < 256) → small_ref (if_small (pos (element_number os w (from + place * size) size))) ≡ element_at k x place
unfolding element_at element_number
byte_element k x os w first count size from place e less stand small = go (object_of k x) e stand
  where
    no_slot : (o : Option ℕ) (n : ℕ) → option_map (λ f. elements 1 (n - f) (unit.Slot f)) o ≡ Some (elements first count (unit.Bytes size from)) → ⊥
    no_slot None n e = absurd (cc)
    no_slot (Some f) n e = false≢true (sym (ap in_slots e))

    one : (b : ℕ) → b < 256 → if_small (pos (b + 256 * 0)) ≡ Some (pos b)
    one b l =
        let none : b + 256 * 0 ≡ b = omega arith in
        let less : nat_lt b (2 ^ 30) ≡ true = grind (arith, nat_tests, l) in
        ap if_small (ap pos none) ∙ ap (λ (t : Bool). if t then Some (pos b) else None) less

    go : (o : Option Obj) → elements_of k x (contents_of o) ≡ Some (elements first count (unit.Bytes size from)) → StandFrom os w from (bytes_in o) → small_ref (if_small (pos (element_number os w (from + place * size) size))) ≡ read_in k x place o
    go None e stand = absurd (cc)
    go (Some (Ptr head slots)) e stand = absurd (no_slot (fields_within (length slots) (class_shape k x)) (length slots) e)
    go (Some (Raw head bytes)) e stand =
        let of_size : unit_bytes head.format ≡ size = ap size_in e in
        let of_count : length bytes / unit_bytes head.format ≡ count = ap count_in e in
        let within = unit_within head.format (length bytes) place (omega (arith, less, of_count)) in
        ap (λ n. small_ref (if_small (pos (element_number os w (from + place * n) n)))) (sym of_size)
        ∙ ap (λ n. small_ref (if_small (pos n))) (number_is os w from bytes stand (unit_bytes head.format) (place * unit_bytes head.format) within)
    go (Some (Method head header literals bytecodes)) e stand =
        let of_size : 1 ≡ size = ap size_in e in
        let of_count : length bytecodes ≡ count = ap count_in e in
        let there : place < length bytecodes = omega (arith, less, of_count) in
        let at : from + place * 1 ≡ from + place = omega arith in
        ap (λ n. small_ref (if_small (pos (element_number os w (from + place * n) n)))) (sym of_size)
        ∙ ap (λ i. small_ref (if_small (pos (byte_of os w i + 256 * 0)))) at
        ∙ ap small_ref (one (byte_of os w (from + place)) (small (from + place)))
        ∙ ap (λ b. Some (Small (pos b))) (stand place there)
        ∙ sym (ap (option_map (λ b. Small (pos b))) (slice_get-get_or bytecodes place 0 there))
    go (Some (Ctx c)) e stand = absurd (cc)

-- ---- the place of an index

pub placed : (k : Kept) (x index : Ref) (e : Elements) (p : Option ℕ) → Some e ≡ held k x → p ≡ place_in (range e.first e.count) (small_index index) → element_place k x index ≡ p
placed k x index e p is place =
    ap (λ r. option_and_then (λ q. place_in q (small_index index)) r) (range_told k x ∙ ap (option_map (λ (d : Elements). range d.first d.count)) (sym is)) ∙ sym place

pub unplaced : (k : Kept) (x index : Ref) → None ≡ held k x → element_place k x index ≡ None
unplaced k x index is = ap (λ r. option_and_then (λ q. place_in q (small_index index)) r) (range_told k x ∙ ap (option_map (λ (d : Elements). range d.first d.count)) (sym is))

pub no_element : (s : Store) (k : Kept) (x index : Ref) → element_place k x index ≡ None → NamesOption s None (option_and_then (λ place. element_at k x place) (element_place k x index))
no_element s k x index e = record { sound = tt; is = sym (ap (option_and_then (λ place. element_at k x place)) e) }

pub some_element : (s : Store) (k : Kept) (x index : Ref) (p : ℕ) (o : Option Oop) → element_place k x index ≡ Some p → NamesOption s o (element_at k x p)
    → NamesOption s o (option_and_then (λ place. element_at k x place) (element_place k x index))
some_element s k x index p o e names = subst (NamesOption s o) (sym (ap (option_and_then (λ place. element_at k x place)) e)) names

pub in_slot : (k : Kept) (x : Ref) (e : Elements) (fields place : ℕ) → Some e ≡ held k x → e.unit ≡ unit.Slot fields
    → option_and_then (λ slots. slice_get slots (fields + place)) (obj.slots_in (object_of k x)) ≡ element_at k x place
in_slot k x e fields place is kept = slot_element k x e.first e.count fields place (sym is ∙ ap (λ u. Some (elements e.first e.count u)) kept)

pub in_bytes : (k : Kept) (x : Ref) (os : List Object) (w : ℕ) (e : Elements) (size from place : ℕ) → Some e ≡ held k x → e.unit ≡ unit.Bytes size from → place < e.count
    → ((c : Contents) → c ≡ contents_of (object_of k x) → StandFrom os w (front_in c) (bytes_in (object_of k x))) → ((i : ℕ) → byte_of os w i < 256)
    → small_ref (if_small (pos (element_number os w (from + place * size) size))) ≡ element_at k x place
in_bytes k x os w e size from place is kept less stand small =
    let same = sym is ∙ ap (λ u. Some (elements e.first e.count u)) kept in
    byte_element k x os w e.first e.count size from place same less (subst (λ n. StandFrom os w n (bytes_in (object_of k x))) (front_is k x (object_of k x) e.first e.count size from same) (stand (contents_of (object_of k x)) refl)) small
  where
    front_is : (k : Kept) (x : Ref) (o : Option Obj) (first count size from : ℕ) → elements_of k x (contents_of o) ≡ Some (elements first count (unit.Bytes size from)) → front_in (contents_of o) ≡ from
    front_is k x None first count size from e = absurd (cc)
    front_is k x (Some (Ptr head slots)) first count size from e = absurd (no_slot (fields_within (length slots) (class_shape k x)) (length slots) e)
      where
        no_slot : (o : Option ℕ) (n : ℕ) → option_map (λ f. elements 1 (n - f) (unit.Slot f)) o ≡ Some (elements first count (unit.Bytes size from)) → ⊥
        no_slot None n e = absurd (cc)
        no_slot (Some f) n e = false≢true (sym (ap in_slots e))
    front_is k x (Some (Raw head bytes)) first count size from e = ap from_in e
    front_is k x (Some (Method head header literals bytecodes)) first count size from e = ap from_in e
    front_is k x (Some (Ctx c)) first count size from e = absurd (cc)

-- ---- sizes

pub no_size : (s : Store) (k : Kept) (x : Ref) (c : Contents) → c ≡ contents_of (object_of k x) → has_size_by c ≡ false
    → NamesOption s None (if has_size (object_of k x) then option_map (λ r. small_count r.count) (range_of k x) else None)
no_size s k x c is none = record { sound = tt; is = sym (ap (λ b. if b then option_map (λ (r : Range). small_count r.count) (range_of k x) else None) (sym (size_told (object_of k x)) ∙ ap has_size_by (sym is) ∙ none)) }

pub sized : (s : Store) (k : Kept) (x : Ref) (c : Contents) (e : Option Elements) (o : Option Oop) → c ≡ contents_of (object_of k x) → has_size_by c ≡ true → e ≡ held k x
    → NamesOption s o (option_map (λ (d : Elements). small_count d.count) e) → NamesOption s o (if has_size (object_of k x) then option_map (λ r. small_count r.count) (range_of k x) else None)
sized s k x c e o is some told names =
    subst (NamesOption s o) (sym (ap (λ b. if b then option_map (λ (r : Range). small_count r.count) (range_of k x) else None) (sym (size_told (object_of k x)) ∙ ap has_size_by (sym is) ∙ some)
    ∙ ap (option_map (λ (r : Range). small_count r.count)) (range_told k x ∙ ap (option_map (λ (d : Elements). range d.first d.count)) (sym told)) ∙ map-twice e)) names
  where
    map-twice : (e : Option Elements) → option_map (λ (r : Range). small_count r.count) (option_map (λ (d : Elements). range d.first d.count) e) ≡ option_map (λ (d : Elements). small_count d.count) e
    map-twice None = refl
    map-twice (Some d) = refl

-- ---- bytes one by one

no_string : (o : Option Obj) → is_bytes_by (contents_of o) ≡ false → byte_string o ≡ None
no_string None e = refl
no_string (Some (Ptr head slots)) e = refl
no_string (Some (Raw head bytes)) e = ap (λ (b : Bool). if b then Some bytes else None) e
no_string (Some (Method head header literals bytecodes)) e = refl
no_string (Some (Ctx c)) e = refl

string_is : (o : Option Obj) → is_bytes_by (contents_of o) ≡ true → byte_string o ≡ Some (bytes_in o)
string_is None e = absurd (cc)
string_is (Some (Ptr head slots)) e = absurd (cc)
string_is (Some (Raw head bytes)) e = ap (λ (b : Bool). if b then Some bytes else None) e
string_is (Some (Method head header literals bytecodes)) e = absurd (cc)
string_is (Some (Ctx c)) e = absurd (cc)

abbrev byte_by : Option ℕ → Option (List ℕ) → Option ℕ
byte_by p bytes = option_and_then (λ place. option_and_then (λ bs. slice_get bs place) bytes) p

byte_none : (p : Option ℕ) → byte_by p None ≡ None
byte_none None = refl
byte_none (Some place) = refl

-- the place of an index among the bytes of an object
abbrev pub place_by : Bool → Option ℕ → Option ℕ
place_by b p = if b then p else None

bytes_told : (k : Kept) (x : Ref) (c : Contents) (b : Bool) → c ≡ contents_of (object_of k x) → is_bytes_by c ≡ b → is_bytes k x ≡ b
bytes_told k x c b is h = go (object_of k x) b (ap is_bytes_by (sym is) ∙ h)
  where
    go : (o : Option Obj) (b : Bool) → is_bytes_by (contents_of o) ≡ b → is_some (byte_string o) ≡ b
    go o true e = ap is_some (string_is o e)
    go o false e = ap is_some (no_string o e)

pub no_bytes_place : (k : Kept) (x index : Ref) (c : Contents) → c ≡ contents_of (object_of k x) → is_bytes_by c ≡ false → None ≡ (if is_bytes k x then element_place k x index else None)
no_bytes_place k x index c is none = sym (ap (λ b. place_by b (element_place k x index)) (bytes_told k x c false is none))

pub bytes_place : (k : Kept) (x index : Ref) (c : Contents) (p : Option ℕ) → c ≡ contents_of (object_of k x) → is_bytes_by c ≡ true → element_place k x index ≡ p → p ≡ (if is_bytes k x then element_place k x index else None)
bytes_place k x index c p is some place = sym (ap (λ b. place_by b (element_place k x index)) (bytes_told k x c true is some) ∙ place)

-- there are as many elements as bytes
pub bytes_counted : (k : Kept) (x : Ref) (c : Contents) (e : Elements) → c ≡ contents_of (object_of k x) → is_bytes_by c ≡ true → Some e ≡ elements_of k x c → e.count ≡ writable_bytes (object_of k x)
bytes_counted k x c e is some told = go (object_of k x) (ap is_bytes_by (sym is) ∙ some) (told ∙ ap (elements_of k x) is)
  where
    unit_one : (format : ℕ) → nat_le 16 format ≡ true → unit_bytes format ≡ 1
    unit_one format h = grind (arith, nat_tests)

    go : (o : Option Obj) → is_bytes_by (contents_of o) ≡ true → Some e ≡ elements_of k x (contents_of o) → e.count ≡ writable_bytes o
    go None h t = absurd (cc)
    go (Some (Ptr head slots)) h t = absurd (cc)
    go (Some (Raw head bytes)) h t =
        let one = unit_one head.format h in
        let same : e.count ≡ length bytes / unit_bytes head.format = cc in
        same ∙ ap (λ n. length bytes / n) one ∙ omega arith
    go (Some (Method head header literals bytecodes)) h t = absurd (cc)
    go (Some (Ctx c)) h t = absurd (cc)

pub byte_found : (k : Kept) (x index : Ref) (os : List Object) (w p : ℕ) → Some p ≡ (if is_bytes k x then element_place k x index else None) → p < writable_bytes (object_of k x)
    → StandFrom os w (front_in (contents_of (object_of k x))) (bytes_in (object_of k x)) → byte_at k x index ≡ Some (byte_of os w p)
byte_found k x index os w p place less stand = go (object_of k x) place less stand
  where
    go : (o : Option Obj) → Some p ≡ place_by (is_some (byte_string o)) (element_place k x index) → p < writable_bytes o → StandFrom os w (front_in (contents_of o)) (bytes_in o) → byte_by (element_place k x index) (byte_string o) ≡ Some (byte_of os w p)
    go None e l stand = absurd (cc)
    go (Some (Ptr head slots)) e l stand = absurd (cc)
    go (Some (Raw head bytes)) e l stand = raw (nat_le 16 head.format) e
      where
        raw : (b : Bool) → Some p ≡ place_by (is_some (if b then Some bytes else None)) (element_place k x index) → byte_by (element_place k x index) (if b then Some bytes else None) ≡ Some (byte_of os w p)
        raw true e = ap (λ q. byte_by q (Some bytes)) (sym e) ∙ slice_get-get_or bytes p 0 l ∙ ap Some (sym (let first : p ≡ 0 + p = omega arith in ap (byte_of os w) first ∙ stand p l))
        raw false e = absurd (cc)
    go (Some (Method head header literals bytecodes)) e l stand = absurd (cc)
    go (Some (Ctx c)) e l stand = absurd (cc)

pub no_byte : (k : Kept) (x index : Ref) → None ≡ (if is_bytes k x then element_place k x index else None) → byte_at k x index ≡ None
no_byte k x index place = go (byte_string (object_of k x)) place
  where
    go : (o : Option (List ℕ)) → None ≡ place_by (is_some o) (element_place k x index) → byte_by (element_place k x index) o ≡ None
    go None e = byte_none (element_place k x index)
    go (Some bytes) e = ap (λ q. byte_by q (Some bytes)) (sym e)

-- ---- bounds

pub code_bound : (c : Contents) (literals count : ℕ) → amount_in c ≤ 268435456 → c ≡ Code literals count → 4 * (literals + 1) + count ≤ 268435456
code_bound c literals count most is = subst (λ d. amount_in d ≤ 268435456) is most

pub unit_bound : (e : Elements) (size from place most : ℕ) → elements_end e ≤ most → e.unit ≡ unit.Bytes size from → place < e.count → from + place * size + size ≤ most
unit_bound e size from place most l is less =
    let here : from + e.count * size ≤ most = subst (λ u. end_of_unit u e.count ≤ most) is l in
    let more : (place + 1) * size ≤ e.count * size = times_mono (place + 1) e.count size (omega (arith, less)) in
    omega (arith, here, more, distributed place size)
  where
    distributed : (a b : ℕ) → (a + 1) * b ≡ a * b + b
    distributed a b = grind arith

    times_mono : (a b c : ℕ) → a ≤ b → a * c ≤ b * c
    times_mono a b c l = grind (arith, l)

pub slot_bound : (e : Elements) (fields place most : ℕ) → elements_end e ≤ most → e.unit ≡ unit.Slot fields → place < e.count → fields + place < most
slot_bound e fields place most l is less =
    let here : fields + e.count ≤ most = subst (λ u. end_of_unit u e.count ≤ most) is l in
    omega (arith, here, less)

-- ---- a number from its bytes, the highest first

pub number_step : (os : List Object) (w at size i n b : ℕ) → i < size → n ≡ element_number os w (at + (size - i)) i → b ≡ byte_of os w (at + (size - (i + 1)))
    → 256 * n + b ≡ element_number os w (at + (size - (i + 1))) (i + 1)
unfolding element_number
number_step os w at size i n b less is byte =
    let next : at + (size - (i + 1)) + 1 ≡ at + (size - i) = omega (arith, less) in
    let more : i + 1 ≡ suc i = omega arith in
    let rest : element_number os w (at + (size - (i + 1)) + 1) i ≡ n = ap (λ j. element_number os w j i) next ∙ sym is in
    let sum : 256 * n + b ≡ byte_of os w (at + (size - (i + 1))) + 256 * element_number os w (at + (size - (i + 1)) + 1) i = omega (arith, rest, byte) in
    sum ∙ sym (ap (element_number os w (at + (size - (i + 1)))) more)
