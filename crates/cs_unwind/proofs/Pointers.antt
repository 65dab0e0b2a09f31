-- What is read of pointer objects: closures, and Arrays.
use Rattle.std.proofs.Common.{◌≡◌, ◌∙◌, ℕ, zero, suc, ◌<◌, Bool, true, false, refl, sym, ap, subst, arith, Option, Some, None, is_some, List, [], ◌∷◌, length, map, option_map, option_and_then, unwrap_or, nat_le}
use Rattle.std.specs.Prelude.{◌==◌, ◌&&◌, if◌then◌else◌, slice_get}
use Rattle.std.proofs.lemmas.Bool.{false≢true}
use Rattle.std.proofs.lemmas.Bool.Decides.{nat_tests}
use Rattle.std.proofs.lemmas.List.{length-map}
use Rattle.cs_word.specs.declared.Oop.{Oop}
use Rattle.cs_heap.specs.Object.{Memory, Object, class_at, format_at, is_object, heap_object, slot_count_of}
use Rattle.cs_classes.specs.Meaning.{head_of, ref_of}
use Rattle.cs_classes.proofs.Sorts.{AContext, AMethod, Bytes, Pointers, Sort, sort_of, obj_of-bytes, obj_of-method, obj_of-pointers}
use Rattle.cs_model.specs.Ref.{Ref}
use Rattle.cs_model.specs.Obj.{Obj, Ptr, Raw, Method, Ctx, at_least, is_context_at, slots_in, Head}
use Rattle.cs_model.specs.State.{Kept, object_of, slots_of}
use Rattle.cs_model.specs.Enter.{closure_slot, closure_slots}
use Rattle.cs_model.specs.Operation.{nil_of}
use Rattle.cs_model.specs.Send.{array_elements}
use Rattle.cs_acts.specs.Names.{IsNamed, Names, NamesOption, Store, name_of}
use Rattle.cs_acts.specs.Ready.{Holds}
use Rattle.cs_acts.specs.Reading.{object_named}
use Rattle.cs_acts.proofs.Held.{Says, says}
use Rattle.cs_acts.proofs.Named.{Nowhere, Place, There, field_at, place, slots_of-any}
use Rattle.cs_unwind.specs.Blocks.{is_closure}

-- ---- in the heap

-- the pointer object that a word names, as the heap tells of it
pub record IsPointer (s : Store) (k : Kept) (m : Memory) (o : Oop) : Type 0 where
  pub head : Head
  pub slots : List Ref
  pub means : object_of k (name_of s o) ≡ Some (Ptr head slots)
  pub there : is_object m.objects o.0 ≡ true
  pub class_is : class_at m.objects o.0 ≡ head.class
  pub format_is : format_at m.objects o.0 ≡ head.format
  pub count : slot_count_of m.objects o.0 ≡ length slots

no_slots : (o : Option Obj) → is_context_at o ≡ true → is_some (slots_in o) ≡ true → ⊥
no_slots None c e = absurd (cc)
no_slots (Some (Ptr head slots)) c e = absurd (cc)
no_slots (Some (Raw head bytes)) c e = absurd (cc)
no_slots (Some (Method head header literals bytecodes)) c e = absurd (cc)
no_slots (Some (Ctx c')) c e = absurd (cc)

pub pointer : (s : Store) (k : Kept) (m : Memory) (o : Oop) → m ≡ s.memory → Holds s k → IsNamed s o → is_some (slots_in (object_of k (name_of s o))) ≡ true → IsPointer s k m o
pointer s k m o e holds named has = subst (λ (n : Memory). IsPointer s k n o) (sym e) (go (place s.memory.objects o.0))
  where
    said : (p : Option Object) → object_named s.memory.objects o.0 ≡ p → Says (ref_of s.memory.objects) p (object_of k (name_of s o))
    said p f = subst (λ q. Says (ref_of s.memory.objects) q (object_of k (name_of s o))) f (says s k o holds named)

    none : object_of k (name_of s o) ≡ None → ⊥
    none f = false≢true (ap (λ p. is_some (slots_in p)) (sym f) ∙ has)

    by : (x : Object) → heap_object s.memory.objects o.0 ≡ Some x → is_object s.memory.objects o.0 ≡ true → Says (ref_of s.memory.objects) (Some x) (object_of k (name_of s o)) → Sort x → IsPointer s k s.memory o
    by x at is says (AContext c) = absurd (no_slots (object_of k (name_of s o)) (says.1 c) has)
    by x at is says (Pointers other pointers) = record {
      head = head_of x;
      slots = map (ref_of s.memory.objects) x.words;
      means = says.0 other ∙ ap Some (obj_of-pointers (ref_of s.memory.objects) x other pointers);
      there = is;
      class_is = field_at (λ y. y.class) s.memory.objects o.0 x at;
      format_is = field_at (λ y. y.format) s.memory.objects o.0 x at;
      count = field_at (λ y. length y.words) s.memory.objects o.0 x at ∙ sym (length-map x.words (ref_of s.memory.objects));
    }
    by x at is says (AMethod other bits method) =
        absurd (false≢true (ap (λ p. is_some (slots_in p)) (sym (says.0 other ∙ ap Some (obj_of-method (ref_of s.memory.objects) x other bits method))) ∙ has))
    by x at is says (Bytes other bits bytes) =
        absurd (false≢true (ap (λ p. is_some (slots_in p)) (sym (says.0 other ∙ ap Some (obj_of-bytes (ref_of s.memory.objects) x other bits bytes))) ∙ has))

    go : Place s.memory.objects o.0 → IsPointer s k s.memory o
    go (There x f at is) = by x at is (said (Some x) f) (sort_of x)
    go (Nowhere f is) = absurd (none (said None f))

pub count_read : (s : Store) (k : Kept) (m : Memory) (o : Oop) (n : ℕ) → IsPointer s k m o → n ≡ slot_count_of m.objects o.0 → option_map (λ (slots : List Ref). length slots) (slots_in (object_of k (name_of s o))) ≡ Some n
count_read s k m o n p e = ap (λ q. option_map (λ (slots : List Ref). length slots) (slots_in q)) p.means ∙ ap Some (sym (e ∙ p.count))

-- ---- slots in the state

some_least : (n : ℕ) (o : Option (List Ref)) → is_some (at_least n o) ≡ true → is_some o ≡ true
some_least n None e = absurd (cc)
some_least n (Some xs) e = refl

-- an object with at least so many slots has slots
pub has_some : (k : Kept) (n : ℕ) (x : Ref) → is_some (slots_of k n x) ≡ true → is_some (slots_in (object_of k x)) ≡ true
unfolding slots_of
has_some k n x e = some_least n (slots_in (object_of k x)) e

enough : (n : ℕ) (xs : List Ref) → is_some (at_least n (Some xs)) ≡ nat_le n (length xs)
enough n xs = go (nat_le n (length xs))
  where
    go : (b : Bool) → is_some (if b then Some xs else None) ≡ b
    go true = refl
    go false = refl

-- ---- closures

pub is_37 : (n : ℕ) → n ≡ 37 → (n == 37) ≡ true
is_37 n e = ap (λ m. m == 37) e

pub isnt_37 : (n : ℕ) → (n ≡ 37 → ⊥) → (n == 37) ≡ false
isnt_37 n h = grind (arith, nat_tests, h)

closure_of : (head : Head) (slots : List Ref) → nat_le 3 (length slots) ≡ true → nat_le 3 (length (closure_slots (Some (Ptr head slots)))) ≡ (head.class == 37 && head.format == 3)
closure_of head slots e = go (head.class == 37 && head.format == 3)
  where
    go : (b : Bool) → nat_le 3 (length (if b then slots else [])) ≡ b
    go true = e
    go false = refl

-- a closure has its slots
pub closure_at_least : (o : Option Obj) → nat_le 3 (length (closure_slots o)) ≡ true → at_least 3 (slots_in o) ≡ Some (closure_slots o)
closure_at_least None e = absurd (cc)
closure_at_least (Some (Ptr head slots)) e = go (head.class == 37 && head.format == 3) e
  where
    go : (b : Bool) → nat_le 3 (length (if b then slots else [])) ≡ true → at_least 3 (Some slots) ≡ Some (if b then slots else [])
    go true e = ap (λ (b : Bool). if b then Some slots else None) e
    go false e = absurd (cc)
closure_at_least (Some (Raw head bytes)) e = absurd (cc)
closure_at_least (Some (Method head header literals bytecodes)) e = absurd (cc)
closure_at_least (Some (Ctx c)) e = absurd (cc)

pub no_closure : (k : Kept) (x : Ref) → is_some (slots_of k 3 x) ≡ false → false ≡ is_closure k x
unfolding slots_of
no_closure k x e = go (is_closure k x) refl
  where
    go : (b : Bool) → is_closure k x ≡ b → false ≡ b
    go true f = absurd (false≢true (sym e ∙ ap is_some (closure_at_least (object_of k x) f)))
    go false f = refl

pub closure_read : (s : Store) (k : Kept) (m : Memory) (o : Oop) → IsPointer s k m o → is_some (slots_of k 3 (name_of s o)) ≡ true → (class_at m.objects o.0 == 37 && format_at m.objects o.0 == 3) ≡ is_closure k (name_of s o)
unfolding slots_of
closure_read s k m o p e =
    ap (λ c. c == 37 && format_at m.objects o.0 == 3) p.class_is ∙ ap (λ f. p.head.class == 37 && f == 3) p.format_is
    ∙ sym (closure_of p.head p.slots (sym (enough 3 p.slots) ∙ ap (λ q. is_some (at_least 3 (slots_in q))) (sym p.means) ∙ e))
    ∙ ap (λ q. nat_le 3 (length (closure_slots q))) (sym p.means)

get_below : (xs : List Ref) (i : ℕ) (d : Ref) → i < length xs → slice_get xs i ≡ Some (unwrap_or (slice_get xs i) d)
get_below [] i d less = absurd (omega (arith, less))
get_below (x ∷ xs) zero d less = refl
get_below (x ∷ xs) (suc i) d less = get_below xs i d (omega (arith, less))

three : (n i : ℕ) → nat_le 3 n ≡ true → i < 3 → i < n
three n i e less = grind (arith, nat_tests, e, less)

slot_there : (k : Kept) (x : Ref) (i : ℕ) → is_closure k x ≡ true → i < 3 → option_and_then (λ (slots : List Ref). slice_get slots i) (slots_of k 3 x) ≡ Some (closure_slot k x i)
unfolding slots_of
slot_there k x i e less =
    ap (option_and_then (λ (slots : List Ref). slice_get slots i)) (closure_at_least (object_of k x) e)
    ∙ get_below (closure_slots (object_of k x)) i (nil_of k) (three (length (closure_slots (object_of k x))) i e less)

pub slot_is_there : (s : Store) (k : Kept) (x : Ref) (i : ℕ) → is_closure k x ≡ true → i < 3 → NamesOption s None (option_and_then (λ (slots : List Ref). slice_get slots i) (slots_of k 3 x)) → ⊥
slot_is_there s k x i e less names = let some = names.is ∙ slot_there k x i e less in cc

pub slot_named : (s : Store) (k : Kept) (x : Ref) (i : ℕ) (value : Oop) → is_closure k x ≡ true → i < 3 → NamesOption s (Some value) (option_and_then (λ (slots : List Ref). slice_get slots i) (slots_of k 3 x)) → Names s value (closure_slot k x i)
slot_named s k x i value e less names = let some = names.is ∙ slot_there k x i e less in record { sound = names.sound; is = cc }

-- ---- Arrays

pub array_read : (s : Store) (k : Kept) (m : Memory) (o : Oop) → IsPointer s k m o → (format_at m.objects o.0 == 2) ≡ is_some (array_elements (object_of k (name_of s o)))
array_read s k m o p =
    ap (λ f. f == 2) p.format_is ∙ go (p.head.format == 2) ∙ ap (λ q. is_some (array_elements q)) (sym p.means)
  where
    go : (b : Bool) → b ≡ is_some (if b then Some p.slots else None)
    go true = refl
    go false = refl

pub array_slots : (o : Option Obj) (values : List Ref) → array_elements o ≡ Some values → slots_in o ≡ Some values
array_slots None values e = absurd (cc)
array_slots (Some (Ptr head slots)) values e = go (head.format == 2) e
  where
    go : (b : Bool) → (if b then Some slots else None) ≡ Some values → Some slots ≡ Some values
    go true e = e
    go false e = absurd (cc)
array_slots (Some (Raw head bytes)) values e = absurd (cc)
array_slots (Some (Method head header literals bytecodes)) values e = absurd (cc)
array_slots (Some (Ctx c)) values e = absurd (cc)

some_slots : (o : Option Obj) → is_some (array_elements o) ≡ true → is_some (slots_in o) ≡ true
some_slots None e = absurd (cc)
some_slots (Some (Ptr head slots)) e = refl
some_slots (Some (Raw head bytes)) e = absurd (cc)
some_slots (Some (Method head header literals bytecodes)) e = absurd (cc)
some_slots (Some (Ctx c)) e = absurd (cc)

pub array_has_slots : (k : Kept) (x : Ref) → is_some (array_elements (object_of k x)) ≡ true → is_some (slots_in (object_of k x)) ≡ true
array_has_slots k x e = some_slots (object_of k x) e

pub no_array : (k : Kept) (x : Ref) (b : Bool) → b ≡ is_some (slots_of k 0 x) → b ≡ false → b ≡ is_some (array_elements (object_of k x))
no_array k x b is e = go (is_some (array_elements (object_of k x))) refl
  where
    go : (c : Bool) → is_some (array_elements (object_of k x)) ≡ c → b ≡ c
    go true f = absurd (false≢true (sym e ∙ is ∙ ap is_some (slots_of-any k x) ∙ array_has_slots k x f))
    go false f = e
