-- The method that is entered, as it lies in the heap, and the pc at which it is.
use Rattle.std.proofs.Common.{◌≡◌, ◌≢◌, ℕ, ◌+◌, ◌*◌, ◌/◌, ◌%◌, ◌≤◌, ◌^◌, Bool, true, false, refl, sym, ap, ◌∙◌, arith, Option, Some, None, List, [], ◌∷◌, length, map, option_map, subst, inl, inr}
use Rattle.std.specs.Prelude.{◌==◌, ◌&&◌, ◌||◌, if◌then◌else◌, nat_le, nat_lt}
use Rattle.std.proofs.lemmas.Bool.{eqb-true}
use Rattle.std.proofs.lemmas.Bool.Decides.{nat_tests}
use Rattle.std.proofs.lemmas.List.{length-map}
use Rattle.cs_word.specs.declared.Oop.{Oop}
use Rattle.std.specs.Option.{option_map_or}
use Rattle.cs_heap.specs.Format.{is_code}
use Rattle.cs_heap.specs.Object.{Object, is_object, heap_object}
use Rattle.cs_classes.specs.Meaning.{code_in, method_header, literal_words, meaning_at, obj_of, ref_of, used_bytes, head_of}
use Rattle.cs_classes.proofs.Heaps.{is_object-object_at}
use Rattle.cs_classes.proofs.Makings.{nil_is_object}
use Rattle.cs_classes.proofs.Refs.{either_true, is_reference-object, same_births}
use Rattle.cs_classes.proofs.Sorts.{AContext, AMethod, Bytes, Pointers, Sort, obj_of-bytes, obj_of-method, not_pointers, obj_of-pointers, sort_of}
use Rattle.cs_classes.proofs.Sounds.{method_other, sound_at}
use Rattle.cs_model.proofs.Bools.{and_three}
use Rattle.cs_model.specs.Obj.{Ctx, Method, Obj, Ptr, Raw, argument_count, bytecodes_in, context_size, has_primitive, is_context_at, lies_in, literal_count, number_in, primitive_number, temporary_count, Head}
use Rattle.cs_model.specs.Obj as obj
use Rattle.cs_model.specs.Context.{closure_class, has_class_index}
use Rattle.cs_model.specs.Ref.{Ref, same_ref}
use Rattle.cs_model.specs.Ref as ref
use Rattle.cs_model.specs.State.{Kept, is_nil, object_of}
use Rattle.cs_model.specs.Operation.{entry_pc}
use Rattle.cs_acts.specs.Names.{IsNamed, Store, name_of}
use Rattle.cs_acts.specs.Ready.{Holds, IsSound}
use Rattle.cs_acts.proofs.Firsts.{nil_names}
use Rattle.cs_acts.specs.Reading.{object_named}
use Rattle.cs_acts.specs.Targets.{CanEnter}
use Rattle.cs_acts.proofs.Held.{Says, says}
use Rattle.cs_acts.proofs.Methods.{IsMethodAt, at_word, header_is, length-literals, slots_fit}
use Rattle.cs_marriage.specs.Agree as marriage
use Rattle.cs_marriage.specs.Agree.{header_at}
use Rattle.cs_frame.specs.Frame.{nil}
use Rattle.cs_stack.specs.Good.{is_nil_or}
use Rattle.cs_stack.specs.Moved.{entry_of}
use Rattle.cs_stack.proofs.Addresses.{nil_or_nil, nil_or_of}
use Rattle.cs_stack.proofs.Unwinding.{address_of-object}

context_no_method : (o : Option Obj) → is_context_at o ≡ true → obj.is_method o ≡ true → ⊥
context_no_method None h m = absurd (cc)
context_no_method (Some (Ptr head slots)) h m = absurd (cc)
context_no_method (Some (Raw head bytes)) h m = absurd (cc)
context_no_method (Some (Method head header literals bytecodes)) h m = absurd (cc)
context_no_method (Some (Ctx c)) h m = absurd (cc)

-- a reference to a method of the state is the address of a method
pub method_named : (s : Store) (k : Kept) (o : Oop) → Holds s k → IsNamed s o → obj.is_method (object_of k (name_of s o)) ≡ true → IsMethodAt s.memory.objects (object_of k (name_of s o)) o.0
method_named s k o holds named is = go (object_named s.memory.objects o.0) refl (says s k o holds named)
  where
    os : List Object
    os = s.memory.objects

    found : Option Obj
    found = object_of k (name_of s o)

    no_pointers : (head : Head) (slots : List _) → found ≡ Some (Ptr head slots) → ⊥
    no_pointers head slots e = let no : false ≡ true = sym (ap obj.is_method e) ∙ is in absurd (cc)

    no_bytes : (head : Head) (bytes : List ℕ) → found ≡ Some (Raw head bytes) → ⊥
    no_bytes head bytes e = let no : false ≡ true = sym (ap obj.is_method e) ∙ is in absurd (cc)

    by_sort : (x : Object) → heap_object os o.0 ≡ Some x → Says (ref_of os) (Some x) found → Sort x → IsMethodAt os found o.0
    by_sort x there said (AContext c) = absurd (context_no_method found (said.1 c) is)
    by_sort x there said (Pointers other p) = absurd (no_pointers (head_of x) (map (ref_of os) x.words) (said.0 other ∙ ap (λ y. Some y) (obj_of-pointers (ref_of os) x other p)))
    by_sort x there said (Bytes other b m) = absurd (no_bytes (head_of x) (used_bytes x.format x.words) (said.0 other ∙ ap (λ y. Some y) (obj_of-bytes (ref_of os) x other b m)))
    by_sort x there said (AMethod other b m) = record {
      object = x;
      there = there;
      sound = sound_at os o.0 x holds.whole.heap there;
      format = m;
      means = said.0 other ∙ ap (λ y. Some y) (obj_of-method (ref_of os) x other b m);
    }

    go : (p : Option Object) → object_named os o.0 ≡ p → Says (ref_of os) p found → IsMethodAt os found o.0
    go None e said = absurd (let no : false ≡ true = sym (ap obj.is_method said) ∙ is in cc)
    go (Some x) e said = let there = at_word os o.0 (Some x) x e refl in by_sort x there said (sort_of x)

-- ---- a closure

context_no_closure : (o : Option Obj) → is_context_at o ≡ true → has_class_index closure_class o ≡ true → ⊥
context_no_closure None h m = absurd (cc)
context_no_closure (Some (Ptr head slots)) h m = absurd (cc)
context_no_closure (Some (Raw head bytes)) h m = absurd (cc)
context_no_closure (Some (Method head header literals bytecodes)) h m = absurd (cc)
context_no_closure (Some (Ctx c)) h m = absurd (cc)

same_as : (r : Ref) (n : ℕ) → same_ref r (ref.Obj n) ≡ true → r ≡ ref.Obj n
same_as (ref.Small z) n h = absurd (cc)
same_as (ref.Char c) n h = absurd (cc)
same_as (ref.Obj m) n h = ap (λ i. ref.Obj i) (eqb-true m n h)

-- a reference to nil or a closure of the state is the address of nil or a closure
pub closure_word : (s : Store) (k : Kept) (o : Oop) → IsSound s k → IsNamed s o → (is_nil k (name_of s o) || has_class_index closure_class (object_of k (name_of s o))) ≡ true
    → is_nil_or closure_class s.memory.objects o.0 ≡ true
closure_word s k o sound named kind = elim (either_true (is_nil k (name_of s o)) (has_class_index closure_class (object_of k (name_of s o))) kind) [
  | inl e ↦ subst (λ v. is_nil_or closure_class os v ≡ true) (sym (at_nil e)) (nil_or_nil closure_class os nil_there)
  | inr e ↦ go e (object_named os o.0) refl (says s k o sound.holds named)
]
  where
    os : List Object
    os = s.memory.objects

    found : Option Obj
    found = object_of k (name_of s o)

    nil_there : is_object os nil ≡ true
    nil_there = nil_is_object os s.table s.roots sound.holds.whole

    at_nil : is_nil k (name_of s o) ≡ true → o.0 ≡ nil
    at_nil h =
        let is = address_of-object os o.0 k.rest.nil named (same_as (name_of s o) k.rest.nil h) in
        let first = address_of-object os nil k.rest.nil (is_reference-object os nil nil_there) (nil_names s k (record { 0 = nil }) sound refl).is in
        same_births os o.0 nil sound.holds.whole.heap is.0 first.0 (is.1 ∙ sym first.1)

    of_class : (x : Object) → heap_object os o.0 ≡ Some x → (x.class == closure_class) ≡ true → is_nil_or closure_class os o.0 ≡ true
    of_class x there e = nil_or_of closure_class os o.0 (is_object-object_at os o.0 x there)
        (ap (λ (p : Option Object). option_map_or (λ (y : Object). y.class) p 0) there ∙ eqb-true x.class closure_class e)

    by_sort : has_class_index closure_class found ≡ true → (x : Object) → heap_object os o.0 ≡ Some x → Says (ref_of os) (Some x) found → Sort x → is_nil_or closure_class os o.0 ≡ true
    by_sort is x there said (AContext c) = absurd (context_no_closure found (said.1 c) is)
    by_sort is x there said (Pointers other p) =
        of_class x there (sym (ap (has_class_index closure_class) (said.0 other ∙ ap (λ y. Some y) (obj_of-pointers (ref_of os) x other p))) ∙ is)
    by_sort is x there said (Bytes other b m) =
        of_class x there (sym (ap (has_class_index closure_class) (said.0 other ∙ ap (λ y. Some y) (obj_of-bytes (ref_of os) x other b m))) ∙ is)
    by_sort is x there said (AMethod other b m) =
        of_class x there (sym (ap (has_class_index closure_class) (said.0 other ∙ ap (λ y. Some y) (obj_of-method (ref_of os) x other b m))) ∙ is)

    go : has_class_index closure_class found ≡ true → (p : Option Object) → object_named os o.0 ≡ p → Says (ref_of os) p found → is_nil_or closure_class os o.0 ≡ true
    go is None e said = absurd (let no : false ≡ true = sym (ap (has_class_index closure_class) said) ∙ is in cc)
    go is (Some x) e said = let there = at_word os o.0 (Some x) x e refl in by_sort is x there said (sort_of x)

-- ---- its bytecodes

three_bytes : (bs : List ℕ) → number_in bs ≢ None → 3 ≤ length bs
three_bytes [] some = absurd (some refl)
three_bytes (a ∷ []) some = absurd (some refl)
three_bytes (a ∷ b ∷ []) some = absurd (some refl)
three_bytes (a ∷ b ∷ c ∷ bs) some = omega arith

marked_bytes : (header : ℕ) (bs : List ℕ) → primitive_number header bs ≢ None → 3 ≤ length bs
marked_bytes header bs some = go (has_primitive header) some
  where
    go : (b : Bool) → (if b then number_in bs else None) ≢ None → 3 ≤ length bs
    go true some = three_bytes bs some
    go false some = absurd (some refl)

entry_lies : (n count : ℕ) (skip : Bool) → (skip ≡ true → 3 ≤ count) → (nat_le (4 * (n + 1) + 1) (4 * (n + 1) + 1 + (if skip then 3 else 0)) && nat_le (4 * (n + 1) + 1 + (if skip then 3 else 0)) (4 * (n + 1) + 1 + count)) ≡ true
entry_lies n count true enough = let e = enough refl in grind (arith, nat_tests, e)
entry_lies n count false enough = grind (arith, nat_tests)

-- ---- what heap and frames have of it

-- the same header and the same bytecodes
pub record IsCode (os : List Object) (o : Option Obj) (m : ℕ) : Type 0 where
  pub header_is : header_at os m ≡ obj.header_in o
  pub method : marriage.IsMethodAt os m
  pub means : meaning_at os m ≡ o

pub code_there : (s : Store) (k : Kept) (o : Oop) → Holds s k → IsNamed s o → obj.is_method (object_of k (name_of s o)) ≡ true
    → IsCode s.memory.objects (object_of k (name_of s o)) o.0
code_there s k o holds named is =
    let os = s.memory.objects in
    let found = object_of k (name_of s o) in
    let m = method_named s k o holds named is in
    record {
      header_is = header_is os found o.0 m ∙ sym (ap obj.header_in m.means);
      method = record {
        format = ap (λ p. is_code (option_map_or (λ (x : Object). x.format) p 0)) m.there ∙ m.format;
        header = omega (arith, slots_fit os found o.0 m);
      };
      means = ap (option_map (obj_of (ref_of os))) m.there ∙ ap (λ y. Some y) (obj_of-method (ref_of os) m.object (method_other os m.object m.sound m.format) (not_pointers m.object.format m.format) m.format) ∙ sym m.means;
    }

pub size_most : (h : ℕ) → context_size h ≤ 56
size_most h = by_flag (h / 2 ^ 17 % 2 == 1)
  where
    by_flag : (b : Bool) → (if b then 56 else 16) ≤ 56
    by_flag true = omega arith
    by_flag false = omega arith

-- ---- what is entered

-- what the code and the model read of the method at the address m
pub record Entry (os : List Object) (o : Option Obj) (m args : ℕ) (skip : Bool) : Type 0 where
  pub header : ℕ
  pub header_is : header_at os m ≡ header
  pub model_header : obj.header_in o ≡ header
  pub takes : argument_count header ≡ args
  pub few : args ≤ temporary_count header
  pub fits : temporary_count header ≤ context_size header
  pub pc : entry_pc o skip ≡ entry_of header skip
  pub lies : lies_in o (entry_of header skip) ≡ true

less : (a b : ℕ) → nat_le a b ≡ true → a ≤ b
less a b h = grind (arith, nat_tests, h)

pub entry : (s : Store) (k : Kept) (o : Oop) (args : ℕ) (skip : Bool) → Holds s k → IsNamed s o → CanEnter k (name_of s o) args skip
    → Entry s.memory.objects (object_of k (name_of s o)) o.0 args skip
entry s k o args skip holds named can =
    let os = s.memory.objects in
    let found = object_of k (name_of s o) in
    let m = method_named s k o holds named can.method in
    let words = m.object.words in
    let header = method_header words in
    let valid =
    and_three (nat_lt header (2 ^ 30)) (nat_le (argument_count header) (temporary_count header)) (nat_le (temporary_count header) (context_size header)) (m.sound.method m.format).valid in
    let model : obj.header_in found ≡ header = ap obj.header_in m.means in
    let literals : length (obj.literals_in found) ≡ literal_count header =
    ap (λ p. length (obj.literals_in p)) m.means ∙ length-map (literal_words words) (ref_of os) ∙ length-literals os found o.0 m in
    let takes : argument_count header ≡ args = sym (ap argument_count model) ∙ can.count in
    let bytes : List ℕ = used_bytes m.object.format (code_in words) in
    let enough : skip ≡ true → 3 ≤ length bytes = λ e. marked_bytes header bytes
    (λ none. can.marked e (ap (λ p. primitive_number (obj.header_in p) (bytecodes_in p)) m.means ∙ none)) in
    record {
      header = header;
      header_is = header_is os found o.0 m;
      model_header = model;
      takes = takes;
      few = omega (arith, less (argument_count header) (temporary_count header) valid.1, takes);
      fits = less (temporary_count header) (context_size header) valid.2;
      pc = ap (λ n. 4 * (n + 1) + 1 + (if skip then 3 else 0)) literals;
      lies = ap (λ p. lies_in p (entry_of header skip)) m.means
          ∙ ap (λ n. nat_le (4 * (n + 1) + 1) (entry_of header skip) && nat_le (entry_of header skip) (4 * (n + 1) + 1 + length bytes)) (length-map (literal_words words) (ref_of os) ∙ length-literals os found o.0 m)
          ∙ entry_lies (literal_count header) (length bytes) skip enough;
    }
