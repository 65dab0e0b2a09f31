-- An object is made: the heap has one more, and so has the state.
use Rattle.std.proofs.Common.{◌≡◌, ◌∙◌, inl, inr, ℕ, ◌+◌, ◌*◌, ◌-◌, ◌<◌, ◌≤◌, ◌^◌, Bool, true, false, refl, sym, ap, subst, Option, Some, None, is_some, List, [], ◌∷◌, ◌++◌, replicate, arith}
use Rattle.std.specs.Prelude.{◌==◌, ◌≢◌, if◌then◌else◌, option_and_then, slice_get}
use Rattle.std.specs.FinMap.{get}
use Rattle.std.proofs.lemmas.Bool.{false≢true}
use Rattle.cs_model.specs.Words.{unused_bytes}
use Rattle.cs_word.specs.declared.Oop.{Oop}
use Rattle.cs_heap.specs.Format.{is_code, is_pointers}
use Rattle.cs_heap.specs.Object.{Memory, Object, is_object, new_object, next_address, heap_object, object_place, size, used}
use Rattle.cs_heap.proofs.Laws.{is_object-new, is_object-pushed, length-new_words, next_address-new, object_at-new, object_at-old, used-pushed}
use Rattle.cs_classes.specs.Kinds.{KindsStand}
use Rattle.cs_classes.specs.Meaning.{kept_of}
use Rattle.cs_classes.specs.Sound.{is_weak}
use Rattle.cs_classes.proofs.Heaps.{birth_of-object_at}
use Rattle.cs_classes.proofs.Makings.{Makes, makes-bytes, makes-pointers}
use Rattle.cs_classes.proofs.Objects.{get-objects_of-fresh}
use Rattle.cs_classes.proofs.Refs.{is_reference-object, is_reference-push, ref_of-object, ref_of-push}
use Rattle.cs_classes.proofs.Wholes.{after_birth, kind_of-entry, next_is_fresh}
use Rattle.cs_model.specs.Ref as ref
use Rattle.cs_model.specs.Obj.{Context, Ctx, Obj, Raw, lies_in, new_head}
use Rattle.cs_model.specs.State as state
use Rattle.cs_model.specs.State.{Kept, NamesHeld, is_class_index, put}
use Rattle.cs_model.specs.Keeps.{Keeps}
use Rattle.cs_model.specs.Demand.{words_held}
use Rattle.cs_model.specs.Read.{IsRunning, active_birth, active_context, pc_of}
use Rattle.cs_model.specs.Operation.{add_of, new_pointers, next_ref}
use Rattle.cs_model.proofs.Objects.{object_at-put_other}
use Rattle.cs_model.proofs.Operating.{add_moved, new_pointers_same}
use Rattle.cs_model.proofs.Same.{Same, same}
use Rattle.cs_acts.specs.Full.{IsFullHeap}
use Rattle.cs_acts.specs.Made.{CanAllocate, blank_of}
use Rattle.cs_acts.specs.Names.{KeepsNames, Names}
use Rattle.cs_acts.specs.Ready.{IsReady, IsSound}
use Rattle.cs_acts.proofs.ContextKinds.{kinds-allocate}
use Rattle.cs_acts.proofs.Allocating.{class_below, entry_in, no_context_class, no_immediate_class, no_method_format, no_weak_format}
use Rattle.cs_plain.specs.declared.PlainWorld.{PlainWorld}
use Rattle.cs_plain.specs.View.{plain_active, oop_birth, plain_birth, plain_stored, plain_view}
use Rattle.cs_plain.proofs.Active.{sound_world}
use Rattle.cs_plain.proofs.Pcs.{KeepsPcs, pcs-put, pcs-rest, running}
use Rattle.cs_plain.proofs.Words.{words_of-kept}

-- the world with an object more
abbrev pub with_made : PlainWorld → List Object → PlainWorld
with_made w us = record w { heap = record w.heap { objects = us }; roots = after_birth w.roots }

module _ (w : PlainWorld) (class format slots : ℕ) (sound : IsSound (plain_stored w) (plain_view w)) (fits : CanAllocate (plain_view w) class format slots) where
  abbrev os : List Object
  os = w.heap.objects

  abbrev new : Object
  new = new_object class format slots w.roots.next_birth

  abbrev all : List Object
  all = os ++ new ∷ []

  abbrev k : Kept
  k = plain_view w

  abbrev made : Kept
  made = add_of k (blank_of k class format slots)

  entry : is_some (get w.classes class) ≡ true
  entry = entry_in os w.classes class fits.entry

  pub below : ((index : ℕ) → 16384 ≤ index → get w.classes index ≡ None) → class < 2 ^ 22
  below = class_below w.classes class entry

  other : (class == 36) ≡ false
  other = no_context_class (plain_view w) class format slots fits

  no_method : is_code format ≡ false
  no_method = no_method_format (plain_view w) class format slots fits

  no_weak : is_weak format ≡ false
  no_weak = no_weak_format (plain_view w) class format slots fits

  kind : is_class_index class ≡ true
  kind = let apart = no_immediate_class (plain_view w) class format slots fits in kind_of-entry os w.classes w.roots class sound.holds.whole entry apart.0 apart.1 apart.2

  abbrev blank_by : Bool → Kept → Obj
  blank_by b m = if b then new_pointers m class format slots else Raw (new_head class format) (replicate (4 * slots - unused_bytes format) 0)

  makes : Makes os new w.classes w.roots (λ m. blank_of m class format slots)
  makes = go (is_pointers format) refl
    where
      go : (b : Bool) → is_pointers format ≡ b → Makes os new w.classes w.roots (λ m. blank_of m class format slots)
      go true e = subst (λ b. Makes os new w.classes w.roots (blank_by b)) (sym e) (makes-pointers sound.holds.whole class format slots kind other no_weak e fits.shape entry)
      go false e = subst (λ b. Makes os new w.classes w.roots (blank_by b)) (sym e) (makes-bytes sound.holds.whole class format slots kind other e no_method fits.shape entry)

  -- ---- the active context is the same

  no_birth : plain_birth (Some new) ≡ None
  no_birth = ap (λ c. if c then Some w.roots.next_birth else None) other

  nothing : (us : List Object) (a : ℕ) → is_object us a ≡ false → heap_object us a ≡ None
  nothing us a h = go (object_place us a) h
    where
      go : (o : Option ℕ) → is_some o ≡ false → option_and_then (slice_get us) o ≡ None
      go None e = refl
      go (Some i) e = absurd (cc)

  births : (a : Oop) → oop_birth all a ≡ oop_birth os a
  births a = go (is_object os a.0) refl
    where
      fresh : (b : Bool) → is_object all a.0 ≡ b → is_object os a.0 ≡ false → oop_birth all a ≡ None
      fresh false e none = ap plain_birth (nothing all a.0 e)
      fresh true e none = elim (is_object-pushed os new a.0 e) [
        | inl there ↦ absurd (false≢true (sym none ∙ there))
        | inr next ↦ ap plain_birth (object_at-new os new a.0 next) ∙ no_birth
      ]

      go : (b : Bool) → is_object os a.0 ≡ b → oop_birth all a ≡ oop_birth os a
      go true e = ap plain_birth (object_at-old os new a.0 e)
      go false e = fresh (is_object all a.0) refl e ∙ sym (ap plain_birth (nothing os a.0 e))

  active_same : (o : Option Oop) → plain_active all o ≡ plain_active os o
  active_same None = refl
  active_same (Some a) = births a

  pub made_view : plain_view (with_made w all) ≡ made
  made_view = ap (kept_of all w.classes (after_birth w.roots)) (active_same w.active) ∙ makes.kept (plain_active os w.active)

  -- ---- pcs

  fresh : state.object_at k k.rest.next ≡ None
  fresh = get-objects_of-fresh os w.roots.next_birth (next_is_fresh os w.classes w.roots sound.holds.whole)

  no_blank : (c : Context) → blank_of k class format slots ≡ Ctx c → ⊥
  no_blank c = go (is_pointers format)
    where
      go : (b : Bool) → blank_by b k ≡ Ctx c → ⊥
      go true e = absurd (cc)
      go false e = absurd (cc)

  made_pcs : KeepsPcs made
  unfolding add_of
  made_pcs = pcs-rest made.rest (put k k.rest.next (blank_of k class format slots)) (pcs-put k k.rest.next (blank_of k class format slots) sound.pcs
      (λ pc l. absurd (let no : lies_in None pc ≡ true = ap (λ o. lies_in o pc) (sym fresh) ∙ l in cc)) (λ c e. absurd (no_blank c e)))

  runs : IsRunning k → IsRunning made
  unfolding add_of
  runs r = running made (active_birth k) (active_context k) (pc_of k) r.known
      (object_at-put_other k k.rest.next (active_birth k) (blank_of k class format slots)
      (λ e. let no : ◌≡◌ {A = Option Obj} None (Some (Ctx (active_context k))) = sym fresh ∙ ap (state.object_at k) (sym e) ∙ r.found in absurd (cc)) ∙ r.found)
      r.live made_pcs

  -- ---- words

  made_words : words_held made ≡ used os + size slots
  made_words =
      ap words_held (sym (makes.kept (plain_active os w.active))) ∙ words_of-kept all w (after_birth w.roots) (plain_active os w.active) makes.whole
      ∙ used-pushed os new ∙ ap (λ n. used os + size n) (length-new_words class format slots w.roots.next_birth)

  pub full_made : (h : Memory) → h ≡ w.heap → w.heap.limit < used os + size slots → IsFullHeap (plain_stored (record w { heap = h })) None (size slots) made
  full_made h unchanged over = record { words = omega (arith, ap (λ (g : Memory). g.limit) unchanged, over, made_words); room = tt }

  -- ---- what a call of it does

  blank_same : (m : Kept) → Keeps k m → Same (NamesHeld k) (blank_of k class format slots) (blank_of m class format slots)
  blank_same m keeps = go (is_pointers format)
    where
      go : (b : Bool) → Same (NamesHeld k) (blank_by b k) (blank_by b m)
      go true = new_pointers_same keeps class format slots
      go false = same (blank_by false k) tt

  pub made_state : (m : Kept) → Keeps k m → Keeps (plain_view (with_made w all)) (add_of m (blank_of m class format slots))
  made_state m keeps = subst (λ v. Keeps v (add_of m (blank_of m class format slots))) (sym made_view) (add_moved keeps (blank_same m keeps)).keeps

  pub made_sound : used os + size slots ≤ w.heap.limit → IsSound (plain_stored (with_made w all)) (plain_view (with_made w all))
  made_sound room =
      sound_world (with_made w all) makes.whole (omega (arith, room, used-pushed os new, ap size (length-new_words class format slots w.roots.next_birth))) sound.holds.most (subst KindsStand (sym made_view) (kinds-allocate k class format slots sound.births sound.kinds)) (subst KeepsPcs (sym made_view) made_pcs)

  pub made_ready : used os + size slots ≤ w.heap.limit → IsReady (plain_stored w) (plain_view w) → IsReady (plain_stored (with_made w all)) (plain_view (with_made w all))
  made_ready room ready = record { sound = made_sound room; running = subst IsRunning (sym made_view) (runs ready.running) }

  pub made_names : KeepsNames (plain_stored w) (plain_stored (with_made w all))
  made_names = λ o h. record { sound = is_reference-push os new o.0 h; is = ref_of-push os new o.0 h }

  pub made_value : (o : Oop) → o.0 ≡ next_address os slots → Names (plain_stored (with_made w all)) o (next_ref k)
  made_value o e =
      let next = next_address-new os o.0 class format slots w.roots.next_birth e in
      let there = is_object-new os new o.0 next in
      record {
        sound = is_reference-object all o.0 there;
        is = ref_of-object all o.0 there ∙ ap (λ n. ref.Obj n) (birth_of-object_at all o.0 new (object_at-new os new o.0 next));
      }
