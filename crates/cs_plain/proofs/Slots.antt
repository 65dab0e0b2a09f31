-- What the slots of the active context are in the state.
use Rattle.std.proofs.Common.{◌≡◌, ℕ, ◌+◌, ◌-◌, ◌<◌, ◌≤◌, ◌^◌, true, sym, ap, ◌∙◌, Option, Some, unwrap_or, List, length, map, take, drop, length-take, length-drop, get_or, option_map, arith}
use Rattle.std.specs.Prelude.{◌==◌, ◌||◌, slice_get, slice_index}
use Rattle.std.specs.Option.{option_map_or}
use Rattle.std.proofs.lemmas.List.{get_or-drop, get_or-take}
use Rattle.std.proofs.lemmas.Bool.Decides.{nat_tests}
use Rattle.std.proofs.lemmas.Option.{slice_get-map, slice_get-get_or}
use Rattle.cs_word.specs.Word.{natural_of_word}
use Rattle.cs_word.specs.declared.Oop.{Oop}
use Rattle.cs_heap.specs.Object.{Object, slot_count_of, slot_of}
use Rattle.cs_classes.specs.Meaning.{context_of, depth_in, ref_of}
use Rattle.cs_classes.specs.Sound.{IsSoundObject, is_reference}
use Rattle.cs_classes.proofs.Contexts.{depth_is}
use Rattle.cs_classes.proofs.Sounds.{IsWholeContext, sound_at, whole_context}
use Rattle.cs_model.specs.Ref.{Ref}
use Rattle.cs_model.specs.Obj.{Context, lies_in}
use Rattle.cs_model.specs.State.{object_of}
use Rattle.cs_model.specs.Read.{active_context, depth_of, method_of, pc_of, size_of, stack_of}
use Rattle.cs_acts.specs.Names.{Names}
use Rattle.cs_acts.specs.Ready.{IsReady}
use Rattle.cs_acts.proofs.Sizes.{pc_small}
use Rattle.cs_plain.specs.declared.PlainWorld.{PlainWorld}
use Rattle.cs_plain.specs.View.{plain_stored, plain_view}
use Rattle.cs_plain.proofs.Active.{Active, word_named}

pub slots_at_most : (n : ℕ) → (n == 22 || n == 62) ≡ true → n ≤ 62
slots_at_most n h = grind (arith, nat_tests)

module _ {w : PlainWorld} {a : Oop} {x : Object} (ready : IsReady (plain_stored w) (plain_view w)) (active : Active w a x) where
  pub sound_active : IsSoundObject w.heap.objects x
  sound_active = sound_at w.heap.objects a.0 x ready.sound.holds.whole.heap active.there

  pub whole_active : IsWholeContext w.heap.objects x
  whole_active = whole_context w.heap.objects x sound_active active.context

  pub slots_are : slot_count_of w.heap.objects a.0 ≡ length x.words
  slots_are = ap (λ (o : Option Object). option_map_or (λ (y : Object). length y.words) o 0) active.there

  pub slot_is : (i : ℕ) → slot_of w.heap.objects a.0 i ≡ slice_index x.words i
  slot_is i = ap (λ (o : Option Object). option_map_or (λ (y : Object). slice_index y.words i) o 0) active.there

  -- a slot that is read refers to what the context of the state has there
  pub names_slot : (v : Oop) (i : ℕ) (y : Ref) → i < length x.words → v.0 ≡ slot_of w.heap.objects a.0 i → ref_of w.heap.objects (slice_index x.words i) ≡ y → Names (plain_stored w) v y
  names_slot v i y within read is =
      let word : v.0 ≡ slice_index x.words i = read ∙ slot_is i in
      record {
        sound = ap (is_reference w.heap.objects) word ∙ word_named w a.0 x ready.sound active.there active.context i within;
        is = ap (ref_of w.heap.objects) word ∙ is;
      }

  -- 22 or 62 slots
  pub few_slots : length x.words ≤ 62
  few_slots = slots_at_most (length x.words) (sound_active.context active.context).slots

  pub depth_is_read : depth_in x.words ≡ depth_of (plain_view w)
  depth_is_read = sym (depth_is (ref_of w.heap.objects) x.hash x.words whole_active.depth) ∙ ap (λ (c : Context). length c.stack) active.is

  pub size_is_read : length x.words - 6 ≡ size_of (plain_view w)
  unfolding context_of
  size_is_read = ap (λ (c : Context). c.size) active.is

  pub pc_is_read : unwrap_or (natural_of_word (slice_index x.words 1)) 0 ≡ pc_of (plain_view w)
  unfolding context_of
  pc_is_read = ap (λ (c : Context). unwrap_or c.pc 0) active.is

  pub receiver_is_read : ref_of w.heap.objects (slice_index x.words 5) ≡ (active_context (plain_view w)).receiver
  unfolding context_of
  receiver_is_read = ap (λ (c : Context). c.receiver) active.is

  pub sender_is_read : ref_of w.heap.objects (slice_index x.words 0) ≡ (active_context (plain_view w)).sender
  unfolding context_of
  sender_is_read = ap (λ (c : Context). c.sender) active.is

  pub method_is_read : ref_of w.heap.objects (slice_index x.words 3) ≡ (active_context (plain_view w)).method
  unfolding context_of
  method_is_read = ap (λ (c : Context). c.method) active.is

  pub fields_within : 6 ≤ length x.words
  fields_within = whole_active.fields

  pub depth_within : depth_of (plain_view w) ≤ length x.words - 6
  depth_within = omega (arith, depth_is_read, whole_active.depth)

  pub stack_words : stack_of (plain_view w) ≡ map (ref_of w.heap.objects) (take (depth_in x.words) (drop 6 x.words))
  unfolding context_of
  stack_words = ap (λ (c : Context). c.stack) (sym active.is)

  pub stack_is_read : (i : ℕ) (d : Ref) → i < depth_of (plain_view w) → ref_of w.heap.objects (slice_index x.words (6 + i)) ≡ unwrap_or (slice_get (stack_of (plain_view w)) i) d
  stack_is_read i d h =
      let words : List ℕ = take (depth_in x.words) (drop 6 x.words) in
      let few : i < length words = omega (arith, h, depth_is_read, whole_active.depth, length-take (depth_in x.words) (drop 6 x.words), length-drop 6 x.words) in
      let got : slice_get words i ≡ Some (get_or words i 0) = slice_get-get_or words i 0 few in
      let value : get_or words i 0 ≡ slice_index x.words (6 + i) = get_or-take (depth_in x.words) (drop 6 x.words) i 0 (omega (arith, h, depth_is_read)) ∙ get_or-drop 6 x.words i 0 in
      sym (ap (λ (xs : List Ref). unwrap_or (slice_get xs i) d) stack_words
      ∙ ap (λ o. unwrap_or o d) (slice_get-map (ref_of w.heap.objects) words i ∙ ap (option_map (ref_of w.heap.objects)) (got ∙ ap (λ n. Some n) value)))

  -- a pc that lies in the active method is small
  pub pc_within : (pc : ℕ) → lies_in (method_of (plain_view w)) pc ≡ true → pc < 2 ^ 29
  unfolding method_of
  pc_within pc lies =
      let word : Oop = record { 0 = slice_index x.words 3 } in
      pc_small (plain_stored w) (plain_view w) word pc ready.sound.holds
      (word_named w a.0 x ready.sound active.there active.context 3 (omega (arith, fields_within)))
      (ap (λ m. lies_in (object_of (plain_view w) m) pc) method_is_read ∙ lies)
