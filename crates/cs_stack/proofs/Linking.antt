-- A context of the heap that is linked to a frame: the heap is whole, and nothing else of it changes.
use Rattle.std.proofs.Common.{◌≡◌, ◌≢◌, ◌⊎◌, ℕ, ◌+◌, ◌-◌, ◌<◌, ◌≤◌, true, false, refl, sym, ap, subst, ◌∙◌, arith, Option, Some, None, is_some, List, [], ◌∷◌, ◌++◌, length, length-set, option_map, get_or-set_same, get_or-set_other, set, unwrap_or, zero, suc, take, replicate, inl, inr}
use Rattle.std.specs.Prelude.{IsTrue, slice_get, slice_index, ◌==◌, ◌||◌, if◌then◌else◌}
use Rattle.std.specs.List.{AllPass}
use Rattle.std.specs.Option.{option_map_or}
use Rattle.std.specs.Ordering.{nat_cmp}
use Rattle.std.specs.FinMap.{FinMap}
use Rattle.std.proofs.lemmas.Bool.{cases_eq, false≢true}
use Rattle.std.proofs.lemmas.List.Elements.{All-append, All-drop, All-replicate, All-take}
use Rattle.cs_word.specs.Word.{natural_of_word}
use Rattle.cs_heap.specs.Format.{format_allows, is_pointers}
use Rattle.cs_heap.specs.Object.{Object, at_index, object_place, heap_object, set_word, used, with_object}
use Rattle.cs_heap.proofs.Laws.{object_at-with_object_other, object_at-with_object_same, used-with_object}
use Rattle.cs_classes.specs.declared.Roots.{Roots}
use Rattle.cs_classes.specs.Meaning.{is_heap_context, meaning_at, obj_of, ref_of}
use Rattle.cs_classes.specs.Sound.{IsSoundObject, IsWhole, is_reference, is_sender, nil_word}
use Rattle.cs_classes.proofs.Heaps.{IsEdit, slice_get-at_index_other, slice_get-at_index_same, stands, with_object-stands}
use Rattle.cs_classes.proofs.Refs.{is_nil_or_closure, is_nil_or_method, is_reference-with_object, ref_of-with_object}
use Rattle.cs_classes.proofs.Sorts.{not_pointers, obj_of-context, references-context}
use Rattle.cs_classes.proofs.Sounds.{sound-set_context, sound_at, whole_context}
use Rattle.cs_classes.proofs.Wholes.{whole-with_object}
use Rattle.cs_frame.specs.declared.FrameRef.{FrameRef}
use Rattle.cs_frame.specs.Frame.{nil}
use Rattle.cs_marriage.specs.Marriage.{cleared_from, linked}
use Rattle.cs_marriage.specs.Place.{link_word, names_place}
use Rattle.cs_marriage.proofs.Places.{link_names}
use Rattle.cs_marriage.proofs.Clearing.{cleared_keeps, get_or-cleared}
use Rattle.cs_model.specs.Ref.{Ref}
use Rattle.cs_model.specs.Obj.{lies_in}
use Rattle.cs_model.specs.Context.{lies_if_live}
use Rattle.cs_acts.specs.Made.{contexts_in}
use Rattle.cs_stack.specs.View.{is_linked}
use Rattle.cs_stack.specs.Good.{LinkFits, PcFits, SenderFits}
use Rattle.cs_stack.proofs.Addresses.{all_words, place_reference, place_sender, sender_fits-place, sender_fits-with_object, write_pc, write_sender, write_stackp}

-- ---- words

pub nil_counts : natural_of_word nil ≡ None
unfolding natural_of_word
nil_counts = refl

pub linked_edit : (r : FrameRef) → IsEdit (linked r)
linked_edit r = record {
  slots = λ x. cleared_keeps 6 (set_word 2 nil (set_word 1 nil (set_word 0 (link_word r) x)))
      ∙ length-set (set (set x.words 0 (link_word r)) 1 nil) 2 nil ∙ length-set (set x.words 0 (link_word r)) 1 nil ∙ length-set x.words 0 (link_word r);
  birth = λ x. refl;
  class = λ x. refl;
  format = λ x. refl;
}

module _ (r : FrameRef) (x : Object) (long : 6 ≤ length x.words) where
  at_front : (i : ℕ) → i < 6 → slice_index (linked r x).words i ≡ slice_index (set (set (set x.words 0 (link_word r)) 1 nil) 2 nil) i
  at_front i h = get_or-cleared 6 (set (set (set x.words 0 (link_word r)) 1 nil) 2 nil) i h

  pub linked_place : slice_index (linked r x).words 0 ≡ link_word r
  linked_place = at_front 0 (omega arith) ∙ get_or-set_other (set (set x.words 0 (link_word r)) 1 nil) 2 0 nil 0 (λ e. omega (arith, e))
      ∙ get_or-set_other (set x.words 0 (link_word r)) 1 0 nil 0 (λ e. omega (arith, e)) ∙ get_or-set_same x.words 0 (link_word r) 0 (omega (arith, long))

  pub linked_pc : slice_index (linked r x).words 1 ≡ nil
  linked_pc = at_front 1 (omega arith) ∙ get_or-set_other (set (set x.words 0 (link_word r)) 1 nil) 2 1 nil 0 (λ e. omega (arith, e))
      ∙ get_or-set_same (set x.words 0 (link_word r)) 1 nil 0 (omega (arith, long, length-set x.words 0 (link_word r)))

  pub linked_stackp : slice_index (linked r x).words 2 ≡ nil
  linked_stackp = at_front 2 (omega arith)
      ∙ get_or-set_same (set (set x.words 0 (link_word r)) 1 nil) 2 nil 0 (omega (arith, long, length-set x.words 0 (link_word r), length-set (set x.words 0 (link_word r)) 1 nil))

-- ---- sound objects

sound_cleared : (os : List Object) (z : Object) → IsSoundObject os z → is_heap_context z ≡ true → is_reference os (slice_index z.words 0) ≡ true → is_reference os nil ≡ true → IsSoundObject os (cleared_from 6 z)
sound_cleared os z s c place named =
    let old = s.context c in
    let whole = whole_context os z s c in
    let pointers : is_pointers z.format ≡ true = ap is_pointers old.format in
    let slots : length (cleared_from 6 z).words ≡ length z.words = cleared_keeps 6 z in
    let first = get_or-cleared 6 z.words 1 (omega arith) in
    let second = get_or-cleared 6 z.words 2 (omega arith) in
    record {
      kind = s.kind;
      flags = s.flags;
      plain = s.plain;
      shape = subst (λ (n : ℕ). IsTrue (format_allows z.format n)) (sym slots) s.shape;
      references = subst (AllPass (is_reference os)) (sym (references-context (cleared_from 6 z) c old.format))
          (All-drop (λ (u : ℕ). is_reference os u ≡ true) 1 (take 6 z.words ++ replicate (length z.words - 6) nil)
          (All-append (λ (u : ℕ). is_reference os u ≡ true) (take 6 z.words) (replicate (length z.words - 6) nil)
          (All-take (λ (u : ℕ). is_reference os u ≡ true) 6 z.words (all_words (is_reference os) z.words place whole.behind))
          (All-replicate (λ (u : ℕ). is_reference os u ≡ true) (length z.words - 6) nil named)));
      context = λ _. record {
        flags = old.flags;
        format = old.format;
        slots = subst (λ (n : ℕ). IsTrue (n == 22 || n == 62)) (sym slots) old.slots;
        sender = subst (λ (u : ℕ). IsTrue (is_sender os u)) (sym (get_or-cleared 6 z.words 0 (omega arith))) old.sender;
        pc = subst (λ (u : ℕ). IsTrue (u == nil_word os || is_some (natural_of_word u))) (sym first) old.pc;
        stackp = subst (λ (u : ℕ). IsTrue (u == nil_word os || is_some (natural_of_word u))) (sym second) old.stackp;
        depth = omega (arith, ap (λ u. unwrap_or (natural_of_word u) 0) second, old.depth, slots);
        method = subst (λ (u : ℕ). IsTrue (is_nil_or_method os u)) (sym (get_or-cleared 6 z.words 3 (omega arith))) old.method;
        closure = subst (λ (u : ℕ). IsTrue (is_nil_or_closure os u)) (sym (get_or-cleared 6 z.words 4 (omega arith))) old.closure;
      };
      method = λ m. absurd (false≢true (sym (not_pointers z.format m) ∙ pointers));
    }

nil_passes : (os : List Object) → nil_word os ≡ nil → (nil == nil_word os || is_some (natural_of_word nil)) ≡ true
nil_passes os e = ap (λ n. nil == n || is_some (natural_of_word nil)) e

pub sound_linked : (os : List Object) (r : FrameRef) (x : Object) → IsSoundObject os x → is_heap_context x ≡ true → is_reference os nil ≡ true → nil_word os ≡ nil → IsSoundObject os (linked r x)
sound_linked os r x s c named at_base =
    let place : ℕ = link_word r in
    let link : is_reference os (link_word r) ≡ true = place_reference os (link_word r) (link_names r) in
    let one : Object = set_word 0 (link_word r) x in
    let two : Object = set_word 1 nil one in
    let first = sound-set_context os x 0 (link_word r) s c (write_sender os x (link_word r) (place_sender os (link_word r) (link_names r))) in
    let second = sound-set_context os one 1 nil first c (write_pc os one nil named (nil_passes os at_base)) in
    let third = sound-set_context os two 2 nil second c (write_stackp os two nil named (nil_passes os at_base) (omega (arith, ap (λ (o : Option ℕ). unwrap_or o 0) nil_counts))) in
    let long = (whole_context os x s c).fields in
    let word : slice_index (set (set (set x.words 0 place) 1 nil) 2 nil) 0 ≡ place =
    get_or-set_other (set (set x.words 0 place) 1 nil) 2 0 nil 0 (λ e. omega (arith, e))
    ∙ get_or-set_other (set x.words 0 place) 1 0 nil 0 (λ e. omega (arith, e)) ∙ get_or-set_same x.words 0 place 0 (omega (arith, long)) in
    sound_cleared os (set_word 2 nil two) third c (ap (is_reference os) word ∙ link) named

-- ---- how many contexts there are

contexts_at : (f : Object → Object) → IsEdit f → (k : ℕ) (os : List Object) → contexts_in (at_index k f os) ≡ contexts_in os
unfolding contexts_in at_index
contexts_at f edit k [] = refl
contexts_at f edit zero (x ∷ os) = ap (λ (n : ℕ). contexts_in os + (if n == 36 then 1 else 0)) (edit.class x)
contexts_at f edit (suc k) (x ∷ os) = ap (λ n. n + (if is_heap_context x then 1 else 0)) (contexts_at f edit k os)

pub contexts_kept : (os : List Object) (a : ℕ) (f : Object → Object) → IsEdit f → contexts_in (with_object os a f) ≡ contexts_in os
contexts_kept os a f edit = go (object_place os a)
  where
    go : (o : Option ℕ) → contexts_in (option_map_or (λ k. at_index k f os) o os) ≡ contexts_in os
    go None = refl
    go (Some k) = contexts_at f edit k os

-- ---- the heap

context_lies : (refer : ℕ → Ref) (y : Object) (pc : ℕ) → is_heap_context y ≡ true → lies_in (Some (obj_of refer y)) pc ≡ false
context_lies refer y pc c = ap (λ o. lies_in (Some o) pc) (obj_of-context refer y c)

module _ {os : List Object} {table : FinMap nat_cmp ℕ} {roots : Roots} (a : ℕ) (x : Object) (r : FrameRef) (heap : IsWhole os table roots) (there : heap_object os a ≡ Some x) (c : is_heap_context x ≡ true)
    (named : is_reference os nil ≡ true) where
  abbrev us : List Object
  us = with_object os a (linked r)

  long : 6 ≤ length x.words
  long = (whole_context os x (sound_at os a x heap.heap there) c).fields

  pub linked_whole : IsWhole us table roots
  linked_whole = whole-with_object os table roots a x (linked r) (linked_edit r) refl heap there (sound_linked os r x (sound_at os a x heap.heap there) c named heap.nil)

  pub linked_refers : ref_of us ≡ ref_of os
  linked_refers = ref_of-with_object os a (linked r) (linked_edit r)

  pub linked_references : is_reference us ≡ is_reference os
  linked_references = is_reference-with_object os a (linked r) (linked_edit r)

  pub linked_words : used us ≡ used os
  linked_words = used-with_object os a (linked r) (linked_edit r).slots

  linked_other : (m : ℕ) → m ≢ a → heap_object us m ≡ heap_object os m
  linked_other m apart = object_at-with_object_other os a m (linked r) (linked_edit r).slots (λ e. apart (sym e))

  pub linked_here : heap_object us a ≡ Some (linked r x)
  linked_here = object_at-with_object_same os a (linked r) (linked_edit r).slots ∙ ap (option_map (linked r)) there

  -- pcs lie where they lay
  lies_kept : (m pc : ℕ) → lies_in (meaning_at us m) pc ≡ lies_in (meaning_at os m) pc
  lies_kept m pc = ap (λ q. lies_in (option_map (obj_of q) (heap_object us m)) pc) linked_refers ∙ elim (cases_eq m a) [
    | inl e ↦ ap (λ n. lies_in (option_map (obj_of (ref_of os)) (heap_object us n)) pc) e ∙ ap (λ y. lies_in (option_map (obj_of (ref_of os)) y) pc) linked_here
        ∙ context_lies (ref_of os) (linked r x) pc c
        ∙ sym (ap (λ n. lies_in (meaning_at os n) pc) e ∙ ap (λ y. lies_in (option_map (obj_of (ref_of os)) y) pc) there ∙ context_lies (ref_of os) x pc c)
    | inr ne ↦ ap (λ y. lies_in (option_map (obj_of (ref_of os)) y) pc) (linked_other m ne)
  ]

  pub live_kept : (m : ℕ) (p : Option ℕ) → lies_if_live (meaning_at us m) p ≡ lies_if_live (meaning_at os m) p
  live_kept m None = refl
  live_kept m (Some pc) = lies_kept m pc

  -- an object of the new heap is the one that is linked, or one of the old
  cases : (j : ℕ) (y : Object) → slice_get us j ≡ Some y → (linked r x ≡ y) ⊎ (slice_get os j ≡ Some y)
  cases j y h =
      let s = stands os a x there in
      let list : us ≡ at_index s.0 (linked r) os = with_object-stands os a x s.0 (linked r) s.1 in
      let got : slice_get (at_index s.0 (linked r) os) j ≡ Some y = ap (λ vs. slice_get vs j) (sym list) ∙ h in
      elim (cases_eq s.0 j) [
        | inl e ↦
            let same : Some (linked r x) ≡ Some y = sym (ap (option_map (linked r)) s.1.element) ∙ sym (slice_get-at_index_same s.0 (linked r) os) ∙ ap (slice_get (at_index s.0 (linked r) os)) e ∙ got in
            inl (cc)
        | inr apart ↦ inr (sym (slice_get-at_index_other s.0 j (linked r) os apart) ∙ got)
      ]

  pub linked_pcs : ((j : ℕ) (y : Object) → slice_get os j ≡ Some y → is_heap_context y ≡ true → PcFits os y) → (j : ℕ) (y : Object) → slice_get us j ≡ Some y → is_heap_context y ≡ true → PcFits us y
  linked_pcs pcs j y h is = elim (cases j y h) [
    | inl e ↦ subst (PcFits us) e (ap (λ w. lies_if_live (meaning_at us (slice_index (linked r x).words 3)) (natural_of_word w)) (linked_pc r x long)
        ∙ ap (lies_if_live (meaning_at us (slice_index (linked r x).words 3))) nil_counts)
    | inr old ↦ live_kept (slice_index y.words 3) (natural_of_word (slice_index y.words 1)) ∙ pcs j y old is
  ]

  pub linked_senders : ((j : ℕ) (y : Object) → slice_get os j ≡ Some y → is_heap_context y ≡ true → SenderFits os y) → (j : ℕ) (y : Object) → slice_get us j ≡ Some y → is_heap_context y ≡ true → SenderFits us y
  linked_senders senders j y h is = elim (cases j y h) [
    | inl e ↦ subst (SenderFits us) e (sender_fits-place us (linked r x) (ap names_place (linked_place r x long) ∙ link_names r))
    | inr old ↦ sender_fits-with_object os a (linked r) y (linked_edit r) (senders j y old is)
  ]

  pub linked_links : ((j : ℕ) (y : Object) → slice_get os j ≡ Some y → is_linked y ≡ true → LinkFits y) → (j : ℕ) (y : Object) → slice_get us j ≡ Some y → is_linked y ≡ true → LinkFits y
  linked_links links j y h is = elim (cases j y h) [
    | inl e ↦ subst LinkFits e (linked_pc r x long, linked_stackp r x long)
    | inr old ↦ links j y old is
  ]
