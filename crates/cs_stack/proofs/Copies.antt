-- What a closure has copied, as it lies in the heap.
use Rattle.std.proofs.Common.{◌≡◌, ℕ, zero, suc, ◌+◌, ◌-◌, ◌<◌, ◌≤◌, Bool, true, false, refl, sym, ap, subst, ◌∙◌, arith, Option, Some, None, List, [], ◌∷◌, ◌++◌, length, length-drop, length-take, map, take, drop}
use Rattle.std.specs.Prelude.{◌==◌, ◌&&◌, if◌then◌else◌, slice_index}
use Rattle.std.specs.List.{AllPass, take-map}
use Rattle.std.specs.Option.{option_map_or}
use Rattle.std.proofs.lemmas.Bool.{eqb-true}
use Rattle.std.proofs.lemmas.List.{drop-map, get_or-drop, length-map, take_more}
use Rattle.std.proofs.lemmas.List.Elements.{All-drop, All-get_or, All-take}
use Rattle.cs_word.specs.declared.Oop.{Oop}
use Rattle.cs_heap.specs.Object.{Object, heap_object, slot_count_of, slot_of, words_at}
use Rattle.cs_classes.specs.Meaning.{ref_of}
use Rattle.cs_classes.specs.Sound.{is_reference}
use Rattle.cs_classes.proofs.Sorts.{AContext, AMethod, Bytes, Pointers, Sort, obj_of-bytes, obj_of-method, obj_of-pointers, references-pointers, sort_of}
use Rattle.cs_classes.proofs.Refs.{both_true}
use Rattle.cs_classes.proofs.Sounds.{sound_at}
use Rattle.cs_model.specs.Ref.{Ref}
use Rattle.cs_model.specs.Obj.{Ctx, Method, Obj, Ptr, Raw, is_context_at}
use Rattle.cs_model.specs.Context.{closure_class}
use Rattle.cs_model.specs.State.{Kept, object_of}
use Rattle.cs_model.specs.Enter.{closure_slots}
use Rattle.cs_acts.specs.Names.{IsNamed, Store, name_of}
use Rattle.cs_acts.specs.Ready.{Holds}
use Rattle.cs_acts.specs.Reading.{object_named}
use Rattle.cs_acts.proofs.Held.{Says, says}
use Rattle.cs_acts.proofs.Methods.{at_word}
use Rattle.cs_stack.specs.Moved.{copied_at}

-- ---- words

pub slot_word : (os : List Object) (a i : ℕ) → slot_of os a i ≡ slice_index (words_at os a) i
slot_word os a i = go (heap_object os a)
  where
    go : (p : Option Object) → option_map_or (λ (x : Object). slice_index x.words i) p 0 ≡ slice_index (option_map_or (λ (x : Object). x.words) p []) i
    go None = refl
    go (Some x) = refl

pub words_counted : (os : List Object) (a : ℕ) → slot_count_of os a ≡ length (words_at os a)
words_counted os a = go (heap_object os a)
  where
    go : (p : Option Object) → option_map_or (λ (x : Object). length x.words) p 0 ≡ length (option_map_or (λ (x : Object). x.words) p [])
    go None = refl
    go (Some x) = refl

-- one value more
pub copied_more : (os : List Object) (a i : ℕ) → 3 + i < slot_count_of os a → copied_at os a (i + 1) ≡ copied_at os a i ++ slot_of os a (3 + i) ∷ []
copied_more os a i there =
    let words = words_at os a in
    take_more (drop 3 words) i 0 (omega (arith, length-drop 3 words, there, words_counted os a))
    ∙ ap (λ v. take i (drop 3 words) ++ v ∷ []) (get_or-drop 3 words i 0 ∙ sym (slot_word os a (3 + i)))

-- ---- the closure

-- the object of the heap that has these slots
pub record HasSlots (os : List Object) (slots : List Ref) (a : ℕ) : Type 0 where
  pub object : Object
  pub there : heap_object os a ≡ Some object
  pub class : object.class ≡ closure_class
  pub are : slots ≡ map (ref_of os) object.words
  pub named : AllPass (is_reference os) object.words

no_slots : (o : Option Obj) → is_context_at o ≡ true → closure_slots o ≡ []
no_slots None h = refl
no_slots (Some (Ptr head slots)) h = absurd (cc)
no_slots (Some (Raw head bytes)) h = refl
no_slots (Some (Method head header literals bytecodes)) h = refl
no_slots (Some (Ctx c)) h = refl

-- a reference to a closure of the state is the address of one
pub closure_there : (s : Store) (k : Kept) (o : Oop) → Holds s k → IsNamed s o → 0 < length (closure_slots (object_of k (name_of s o)))
    → HasSlots s.memory.objects (closure_slots (object_of k (name_of s o))) o.0
closure_there s k o holds named some = go (object_named s.memory.objects o.0) refl (says s k o holds named)
  where
    os : List Object
    os = s.memory.objects

    found : Option Obj
    found = object_of k (name_of s o)

    none : closure_slots found ≡ [] → ⊥
    none e = omega (arith, some, ap length e)

    chosen : (x : Object) (b : Bool) → (x.class == 37 && x.format == 3) ≡ b → heap_object os o.0 ≡ Some x → AllPass (is_reference os) x.words → closure_slots found ≡ (if b then map (ref_of os) x.words else []) → HasSlots os (closure_slots found) o.0
    chosen x true is there named e = record { object = x; there = there; class = eqb-true x.class 37 (both_true (x.class == 37) (x.format == 3) is).0; are = e; named = named }
    chosen x false is there named e = absurd (none e)

    by_sort : (x : Object) → heap_object os o.0 ≡ Some x → Says (ref_of os) (Some x) found → Sort x → HasSlots os (closure_slots found) o.0
    by_sort x there said (AContext c) = absurd (none (no_slots found (said.1 c)))
    by_sort x there said (Pointers other p) =
        chosen x (x.class == 37 && x.format == 3) refl there (subst (AllPass (is_reference os)) (references-pointers x other p) (sound_at os o.0 x holds.whole.heap there).references)
        (ap closure_slots (said.0 other ∙ ap (λ y. Some y) (obj_of-pointers (ref_of os) x other p)))
    by_sort x there said (AMethod other b m) = absurd (none (ap closure_slots (said.0 other ∙ ap (λ y. Some y) (obj_of-method (ref_of os) x other b m))))
    by_sort x there said (Bytes other b m) = absurd (none (ap closure_slots (said.0 other ∙ ap (λ y. Some y) (obj_of-bytes (ref_of os) x other b m))))

    go : (p : Option Object) → object_named os o.0 ≡ p → Says (ref_of os) p found → HasSlots os (closure_slots found) o.0
    go None e said = absurd (none (ap closure_slots said))
    go (Some x) e said = let there = at_word os o.0 (Some x) x e refl in by_sort x there said (sort_of x)

module _ {os : List Object} {slots : List Ref} {a : ℕ} (h : HasSlots os slots a) where
  pub words_are : words_at os a ≡ h.object.words
  words_are = ap (λ p. option_map_or (λ (x : Object). x.words) p []) h.there

  pub slot_is : (i : ℕ) → slot_of os a i ≡ slice_index h.object.words i
  slot_is i = ap (λ p. option_map_or (λ (x : Object). slice_index x.words i) p 0) h.there

  pub count_is : slot_count_of os a ≡ length slots
  count_is = ap (λ p. option_map_or (λ (x : Object). length x.words) p 0) h.there ∙ sym (ap length h.are ∙ length-map h.object.words (ref_of os))

  pub slot_named : (i : ℕ) → i < length slots → is_reference os (slot_of os a i) ≡ true
  slot_named i there =
      ap (is_reference os) (slot_is i)
      ∙ All-get_or (λ (u : ℕ). is_reference os u ≡ true) h.object.words i 0 (omega (arith, there, ap length h.are, length-map h.object.words (ref_of os))) h.named

-- ---- what it has copied

pub record Copied (os : List Object) (a copies : ℕ) (values : List Ref) : Type 0 where
  pub refer : map (ref_of os) (copied_at os a copies) ≡ take copies values
  pub named : AllPass (is_reference os) (copied_at os a copies)
  pub within : copies ≤ slot_count_of os a - 3
  pub each : (i : ℕ) → i < copies → is_reference os (slot_of os a (3 + i)) ≡ true
  pub long : length (copied_at os a copies) ≡ copies

pub take_none : {A : Type 0} (xs : List A) → take 0 xs ≡ []
take_none [] = refl
take_none (x ∷ xs) = refl

pub copied_there : (s : Store) (k : Kept) (o : Oop) (copies : ℕ) → Holds s k → IsNamed s o → copies ≤ length (drop 3 (closure_slots (object_of k (name_of s o))))
    → Copied s.memory.objects o.0 copies (drop 3 (closure_slots (object_of k (name_of s o))))
copied_there s k o zero holds named few =
    let os = s.memory.objects in
    let none : copied_at os o.0 0 ≡ [] = take_none (drop 3 (words_at os o.0)) in
    record {
      refer = ap (map (ref_of os)) none ∙ sym (take_none (drop 3 (closure_slots (object_of k (name_of s o)))));
      named = subst (AllPass (is_reference os)) (sym none) (λ i d l. absurd (omega (arith, l)));
      within = omega arith;
      each = λ i l. absurd (omega (arith, l));
      long = ap length none;
    }
copied_there s k o (suc n) holds named few =
    let os = s.memory.objects in
    let slots = closure_slots (object_of k (name_of s o)) in
    let h = closure_there s k o holds named (omega (arith, few, length-drop 3 slots)) in
    let words : List ℕ = h.object.words in
    let count : length slots ≡ length words = ap length h.are ∙ length-map words (ref_of os) in
    let is : copied_at os o.0 (suc n) ≡ take (suc n) (drop 3 words) = ap (λ ws. take (suc n) (drop 3 ws)) (words_are h) in
    record {
      refer = ap (map (ref_of os)) is ∙ sym (take-map (ref_of os) (suc n) (drop 3 words)) ∙ ap (take (suc n)) (sym (drop-map (ref_of os) 3 words))
          ∙ ap (λ (xs : List Ref). take (suc n) (drop 3 xs)) (sym h.are);
      named = subst (AllPass (is_reference os)) (sym is) (All-take (λ (u : ℕ). is_reference os u ≡ true) (suc n) (drop 3 words) (All-drop (λ (u : ℕ). is_reference os u ≡ true) 3 words h.named));
      within = omega (arith, few, length-drop 3 slots, count_is h);
      each = λ i l. slot_named h (3 + i) (omega (arith, l, few, length-drop 3 slots));
      long = ap length is ∙ omega (arith, few, length-drop 3 slots, length-take (suc n) (drop 3 words), length-drop 3 words, count);
    }
