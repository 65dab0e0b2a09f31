-- What the heap of a world says of its state.
use Rattle.std.proofs.Common.{◌≡◌, ℕ, Bool, true, false, refl, sym, ap, subst, ◌∙◌, Option, Some, None, IsSome, is_some, List, length, map}
use Rattle.std.proofs.lemmas.List.{length-map}
use Rattle.std.specs.Prelude.{nat_le, if◌then◌else◌, option_map}
use Rattle.cs_word.specs.declared.Oop.{Oop}
use Rattle.cs_word.specs.declared.Kind.{Kind}
use Rattle.cs_word.specs.declared.Kind.TheVariants as kind
use Rattle.cs_word.specs.Word.{kind_of}
use Rattle.cs_heap.specs.Format.{is_pointers, is_code}
use Rattle.cs_heap.specs.Object.{Object, heap_object, birth_at, is_object}
use Rattle.cs_classes.specs.Meaning.{ref_of, ref_of_kind, obj_of, is_heap_context}
use Rattle.cs_classes.specs.Sound.{is_reference, is_reference_kind}
use Rattle.cs_classes.proofs.Heaps.{stands, birth_of-object_at, object_there}
use Rattle.cs_classes.proofs.Sorts.{obj_of-pointers, obj_of-method, obj_of-bytes}
use Rattle.cs_model.specs.Ref.{Ref}
use Rattle.cs_model.specs.Obj.{Obj, Ptr, Raw, Method, Ctx, is_context_at, slots_in, at_least}
use Rattle.cs_model.specs.State as state
use Rattle.cs_model.specs.State.{Kept, object_of, slots_of}
use Rattle.cs_acts.specs.Names.{Store, name_of, IsNamed}
use Rattle.cs_acts.specs.Ready.{Holds}
use Rattle.cs_acts.specs.Reading.{object_of_kind, object_named, slots_if, pointer_words}

-- what the object that a word names in the heap, if any, says of the object that its reference names in the state
abbrev pub Says : (ℕ → Ref) → Option Object → Option Obj → Type 0
Says refer None o = o ≡ None
Says refer (Some x) o = (is_heap_context x ≡ false → o ≡ Some (obj_of refer x)) × (is_heap_context x ≡ true → is_context_at o ≡ true)

says_address : (s : Store) (k : Kept) → Holds s k → (a : ℕ) → is_object s.memory.objects a ≡ true → Says (ref_of s.memory.objects) (heap_object s.memory.objects a) (state.object_at k (birth_at s.memory.objects a))
says_address s k h a there =
    let os = s.memory.objects in
    let x = object_there os a there in
    let at = stands os a x.0 x.1 in
    let birth : birth_at os a ≡ x.0.birth = birth_of-object_at os a x.0 x.1 in
    let says : Says (ref_of os) (Some x.0) (state.object_at k x.0.birth) = (h.object at.0 x.0 at.1.element, h.context at.0 x.0 at.1.element) in
    subst (λ o. Says (ref_of os) o (state.object_at k (birth_at os a))) (sym x.1)
    (subst (λ b. Says (ref_of os) (Some x.0) (state.object_at k b)) (sym birth) says)

says_kind : (s : Store) (k : Kept) → Holds s k → (w : Kind) → is_reference_kind s.memory.objects w ≡ true
    → Says (ref_of s.memory.objects) (object_of_kind s.memory.objects w) (object_of k (ref_of_kind s.memory.objects w))
says_kind s k h (kind.Small value) named = refl
says_kind s k h (kind.Character code) named = refl
says_kind s k h (kind.Object address) named = says_address s k h address named
says_kind s k h (kind.Link word) named = absurd (cc)

pub says : (s : Store) (k : Kept) (o : Oop) → Holds s k → IsNamed s o → Says (ref_of s.memory.objects) (object_named s.memory.objects o.0) (object_of k (name_of s o))
unfolding ref_of is_reference
says s k o h named = says_kind s k h (kind_of o.0) named

-- ---- the slots of a pointer object

context_slots : (n : ℕ) (o : Option Obj) → is_context_at o ≡ true → at_least n (slots_in o) ≡ None
context_slots n None h = absurd (cc)
context_slots n (Some (Ptr head slots)) h = absurd (cc)
context_slots n (Some (Raw head bytes)) h = absurd (cc)
context_slots n (Some (Method head header literals bytecodes)) h = absurd (cc)
context_slots n (Some (Ctx c)) h = refl

at_least-map : (refer : ℕ → Ref) (n : ℕ) (words : List ℕ) → at_least n (Some (map refer words)) ≡ option_map (map refer) (if nat_le n (length words) then Some words else None)
at_least-map refer n words =
    let same : length (map refer words) ≡ length words = length-map words refer in
    ap (λ m. if nat_le n m then Some (map refer words) else None) same ∙ choose (nat_le n (length words))
  where
    choose : (b : Bool) → ◌≡◌ {A = Option (List Ref)} (if b then Some (map refer words) else None) (option_map (map refer) (if b then Some words else None))
    choose true = refl
    choose false = refl

slots_in-pointers : (refer : ℕ → Ref) (n : ℕ) (x : Object) (c p m : Bool) → is_heap_context x ≡ c → is_pointers x.format ≡ p → is_code x.format ≡ m → c ≡ false
    → at_least n (slots_in (Some (obj_of refer x))) ≡ option_map (map refer) (if p then (if nat_le n (length x.words) then Some x.words else None) else None)
slots_in-pointers refer n x true p m ec ep em e = absurd (cc)
slots_in-pointers refer n x false true m ec ep em e = ap (λ o. at_least n (slots_in (Some o))) (obj_of-pointers refer x ec ep) ∙ at_least-map refer n x.words
slots_in-pointers refer n x false false true ec ep em e = ap (λ o. at_least n (slots_in (Some o))) (obj_of-method refer x ec ep em)
slots_in-pointers refer n x false false false ec ep em e = ap (λ o. at_least n (slots_in (Some o))) (obj_of-bytes refer x ec ep em)

slots-said : (refer : ℕ → Ref) (n : ℕ) (p : Option Object) (o : Option Obj) → Says refer p o → at_least n (slots_in o) ≡ option_map (map refer) (slots_if n p)
slots-said refer n None o h = ap (λ q. at_least n (slots_in q)) h
slots-said refer n (Some x) o h = go (is_heap_context x) refl
  where
    go : (c : Bool) → is_heap_context x ≡ c → at_least n (slots_in o) ≡ option_map (map refer) (if c then None else if is_pointers x.format then (if nat_le n (length x.words) then Some x.words else None) else None)
    go true e = context_slots n o (h.1 e)
    go false e = ap (λ q. at_least n (slots_in q)) (h.0 e) ∙ slots_in-pointers refer n x false (is_pointers x.format) (is_code x.format) e refl refl refl

-- the slots that a reference has in the state are what the heap has at its word
pub slots_of-named : (s : Store) (k : Kept) (n : ℕ) (o : Oop) → Holds s k → IsNamed s o → slots_of k n (name_of s o) ≡ option_map (map (ref_of s.memory.objects)) (pointer_words s.memory.objects n o.0)
unfolding slots_of pointer_words
slots_of-named s k n o h named = slots-said (ref_of s.memory.objects) n (object_named s.memory.objects o.0) (object_of k (name_of s o)) (says s k o h named)

-- ---- what a word names is held

there_said : (refer : ℕ → Ref) (x : Object) (o : Option Obj) → Says refer (Some x) o → IsSome o
there_said refer x o h = go (is_heap_context x) refl
  where
    context_there : (p : Option Obj) → is_context_at p ≡ true → IsSome p
    context_there None e = absurd (cc)
    context_there (Some y) e = refl

    go : (b : Bool) → is_heap_context x ≡ b → IsSome o
    go true e = context_there o (h.1 e)
    go false e = ap is_some (h.0 e)

held_kind : (s : Store) (k : Kept) → Holds s k → (w : Kind) → is_reference_kind s.memory.objects w ≡ true → state.IsHeld k (ref_of_kind s.memory.objects w)
held_kind s k h (kind.Small value) named = tt
held_kind s k h (kind.Character code) named = tt
held_kind s k h (kind.Object address) named =
    let x = object_there s.memory.objects address named in
    there_said (ref_of s.memory.objects) x.0 (state.object_at k (birth_at s.memory.objects address))
    (subst (λ o. Says (ref_of s.memory.objects) o (state.object_at k (birth_at s.memory.objects address))) x.1 (says_address s k h address named))
held_kind s k h (kind.Link word) named = absurd (cc)

pub named_held : (s : Store) (k : Kept) (o : Oop) → Holds s k → IsNamed s o → state.IsHeld k (name_of s o)
unfolding ref_of is_reference
named_held s k o h named = held_kind s k h (kind_of o.0) named
