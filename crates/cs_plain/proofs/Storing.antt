-- A store into an object that is no context, and the closure of a context.
use Rattle.std.proofs.Common.{◌≡◌, ℕ, ◌+◌, ◌*◌, ◌-◌, ◌/◌, ◌%◌, ◌<◌, ◌≤◌, Bool, true, false, refl, sym, ap, subst, ◌∙◌, Some, List, length, map, drop, length-take, length-drop, length-set, arith}
use Rattle.std.specs.Prelude.{◌&&◌, ◌==◌, if◌then◌else◌, nat_lt, nat_le}
use Rattle.std.proofs.lemmas.List.{length-map}
use Rattle.std.proofs.lemmas.Bool.Decides.{nat_tests}
use Rattle.cs_model.specs.Words.{small_value}
use Rattle.cs_word.specs.declared.Oop.{Oop}
use Rattle.cs_word.specs.declared.Kind.{Kind}
use Rattle.cs_word.specs.declared.Kind.TheVariants as kind
use Rattle.cs_word.specs.Word.{kind_of}
use Rattle.cs_heap.specs.Object.{Object, birth_at, is_object, heap_object, set_word, slot_set}
use Rattle.cs_classes.specs.Kinds.{KindsStand}
use Rattle.cs_classes.specs.Meaning.{code_in, method_header, is_heap_context, kept_of, literal_words, method_meaning, obj_of, ref_of, ref_of_kind, used_bytes}
use Rattle.cs_classes.specs.Sound.{is_reference, is_reference_kind}
use Rattle.cs_classes.proofs.Heaps.{birth_of-object_at, is_object-object_at, object_there, set_word-IsEdit}
use Rattle.cs_classes.proofs.Refs.{ref_of-object}
use Rattle.cs_classes.proofs.Sorts.{AContext, AMethod, Bytes, Pointers, Sort, obj_of-bytes, obj_of-context, obj_of-method, obj_of-pointers, sort_of}
use Rattle.cs_classes.proofs.Writes.{Does, does-set_literal, does-set_slot}
use Rattle.cs_model.specs.Ref.{Ref}
use Rattle.cs_model.specs.Ref as ref
use Rattle.cs_model.specs.Obj.{Ctx, Method, Obj, Ptr, Raw, first_pc, lies_in, literal_count}
use Rattle.cs_model.specs.Obj as obj
use Rattle.cs_model.specs.State as state
use Rattle.cs_model.specs.State.{IsHeld, Kept, object_of, put}
use Rattle.cs_model.specs.Keeps.{Keeps}
use Rattle.cs_model.specs.Read.{IsRunning}
use Rattle.cs_model.specs.Operation.{edit_found, edit_object, store_of}
use Rattle.cs_model.specs.Operation as operation
use Rattle.cs_model.proofs.Operating.{store_moved}
use Rattle.cs_acts.specs.Names.{IsNamed, name_of}
use Rattle.cs_acts.specs.Ready.{IsReady, IsSound, is_storable}
use Rattle.cs_acts.proofs.ContextKinds.{kinds-store}
use Rattle.cs_acts.proofs.Running.{running-put}
use Rattle.cs_plain.specs.declared.PlainWorld.{PlainWorld}
use Rattle.cs_plain.specs.View.{plain_active, plain_stored, plain_view}
use Rattle.cs_plain.proofs.Active.{meaning_there, sound_world}
use Rattle.cs_plain.proofs.Edits.{edited}
use Rattle.cs_plain.proofs.Written.{active-same, keeps_names, with_objects}
use Rattle.cs_plain.proofs.Pcs.{KeepsPcs, pcs-store}
use Rattle.cs_plain.proofs.Writing.{WritesAnyway, held_in, same_kept}

-- an object that may be stored into, where it stands, and what the store does
pub record Storable (w : PlainWorld) (o : Oop) (i : ℕ) (v : ℕ) (x : Object) : Type 0 where
  pub there : heap_object w.heap.objects o.0 ≡ Some x
  pub other : is_heap_context x ≡ false
  pub within : i < length x.words
  pub does : is_reference w.heap.objects v ≡ true → Does w.heap.objects (slot_set w.heap.objects o.0 i v) w.classes w.roots (λ k. store_of k (ref_of w.heap.objects o.0) i (ref_of w.heap.objects v))
  pub lies : (pc : ℕ) → lies_in (Some (operation.with_slot i (ref_of w.heap.objects v) (obj_of (ref_of w.heap.objects) x))) pc ≡ lies_in (Some (obj_of (ref_of w.heap.objects) x)) pc

-- an address is the word itself
pub kind_address : (word a : ℕ) → kind_of word ≡ kind.Object a → a ≡ word
kind_address word a h = go (word % 2 == 1) (word % 4 == 2) (word % 8 == 0) h
  where
    go : (b c d : Bool) → (if b then kind.Small (small_value word) else (if c then kind.Character (word / 4) else (if d then kind.Object word else kind.Link word))) ≡ kind.Object a → a ≡ word
    go true c d e = absurd (cc)
    go false true d e = absurd (cc)
    go false false true e = sym (cc)
    go false false false e = absurd (cc)

-- what is no context in the heap is none in the state
pub no_context : (refer : ℕ → Ref) (x : Object) → is_heap_context x ≡ false → obj.is_context (obj_of refer x) ≡ false
unfolding method_meaning
no_context refer x other = go (sort_of x)
  where
    go : Sort x → obj.is_context (obj_of refer x) ≡ false
    go (AContext c) = absurd (cc)
    go (Pointers a p) = ap obj.is_context (obj_of-pointers refer x a p)
    go (AMethod a p m) = ap obj.is_context (obj_of-method refer x a p m)
    go (Bytes a p m) = ap obj.is_context (obj_of-bytes refer x a p m)

module _ {w : PlainWorld} (sound : IsSound (plain_stored w) (plain_view w)) (i v : ℕ) where
  by_sort : (o : Oop) (x : Object) → heap_object w.heap.objects o.0 ≡ Some x → Sort x → is_storable (Some (obj_of (ref_of w.heap.objects) x)) i ≡ true → Storable w o i v x
  unfolding method_meaning
  by_sort o x there (AContext c) h = absurd (let e : is_storable (Some (obj_of (ref_of w.heap.objects) x)) i ≡ false = ap (λ y. is_storable (Some y) i) (obj_of-context (ref_of w.heap.objects) x c) in cc)
  by_sort o x there (Bytes a p m) h = absurd (let e : is_storable (Some (obj_of (ref_of w.heap.objects) x)) i ≡ false = ap (λ y. is_storable (Some y) i) (obj_of-bytes (ref_of w.heap.objects) x a p m) in cc)
  by_sort o x there (Pointers a p) h =
      let is = obj_of-pointers (ref_of w.heap.objects) x a p in
      let fits : nat_lt i (length (map (ref_of w.heap.objects) x.words)) ≡ true = ap (λ y. is_storable (Some y) i) (sym is) ∙ h in
      record {
        there = there;
        other = a;
        within = grind (arith, nat_tests, fits, length-map x.words (ref_of w.heap.objects));
        does = λ r. does-set_slot (record { whole = sound.holds.whole; there = there }) i v a p r;
        lies = λ pc. ap (λ y. lies_in (Some (operation.with_slot i (ref_of w.heap.objects v) y)) pc) is ∙ sym (ap (λ y. lies_in (Some y) pc) is);
      }
  by_sort o x there (AMethod a p m) h =
      let is = obj_of-method (ref_of w.heap.objects) x a p m in
      let lits : List Ref = map (ref_of w.heap.objects) (literal_words x.words) in
      let fits : (nat_lt 0 i && nat_le i (length lits)) ≡ true = ap (λ y. is_storable (Some y) i) (sym is) ∙ h in
      let few = length-take (literal_count (method_header x.words)) (drop 1 x.words) in
      let long = length-map (literal_words x.words) (ref_of w.heap.objects) in
      let rest = length-drop 1 x.words in
      record {
        there = there;
        other = a;
        within = grind (arith, nat_tests, fits, few, long, rest);
        does = λ r. does-set_literal (record { whole = sound.holds.whole; there = there }) i v m (grind (arith, nat_tests, fits)) (grind (arith, nat_tests, fits, few, long)) r;
        lies = λ pc. ap (λ y. lies_in (Some (operation.with_slot i (ref_of w.heap.objects v) y)) pc) is
            ∙ ap (λ n. obj.lies_between (4 * (n + 1) + 1) (length (used_bytes x.format (code_in x.words))) pc) (length-set lits (i - 1) (ref_of w.heap.objects v))
            ∙ sym (ap (λ y. lies_in (Some y) pc) is);
      }

  at_address : (o : Oop) → is_object w.heap.objects o.0 ≡ true → is_storable (state.object_at (plain_view w) (birth_at w.heap.objects o.0)) i ≡ true → (x : Object) × Storable w o i v x
  at_address o there s =
      let x = object_there w.heap.objects o.0 there in
      let means = meaning_there w o.0 x.0 sound.holds.whole x.1 in
      let birth = birth_of-object_at w.heap.objects o.0 x.0 x.1 in
      (x.0, by_sort o x.0 x.1 (sort_of x.0) (ap (λ y. is_storable y i) (sym (ap (state.object_at (plain_view w)) birth ∙ means)) ∙ s))

  by_kind : (o : Oop) (k : Kind) → kind_of o.0 ≡ k → is_reference_kind w.heap.objects k ≡ true → is_storable (object_of (plain_view w) (ref_of_kind w.heap.objects k)) i ≡ true → (x : Object) × Storable w o i v x
  by_kind o (kind.Small z) e n s = absurd (cc)
  by_kind o (kind.Character c) e n s = absurd (cc)
  by_kind o (kind.Link l) e n s = absurd (cc)
  by_kind o (kind.Object a) e n s =
      let is : a ≡ o.0 = kind_address o.0 a e in
      at_address o (subst (λ b. is_object w.heap.objects b ≡ true) is n) (subst (λ b. is_storable (state.object_at (plain_view w) (birth_at w.heap.objects b)) i ≡ true) is s)

  pub storable : (o : Oop) → IsNamed (plain_stored w) o → is_storable (object_of (plain_view w) (name_of (plain_stored w) o)) i ≡ true → (x : Object) × Storable w o i v x
  unfolding ref_of is_reference
  storable o named h = by_kind o (kind_of o.0) refl named h

-- ---- the store

pub writes-store : (w : PlainWorld) (o v : Oop) (i : ℕ) (x : Object) → IsSound (plain_stored w) (plain_view w) → IsNamed (plain_stored w) o → IsNamed (plain_stored w) v → Storable w o i v.0 x
    → WritesAnyway w (with_objects w (slot_set w.heap.objects o.0 i v.0)) (λ m. store_of m (name_of (plain_stored w) o) i (name_of (plain_stored w) v))
unfolding store_of
writes-store w o v i x sound named value s =
    let os = w.heap.objects in
    let us = slot_set os o.0 i v.0 in
    let does = s.does value in
    let edit = edited os o.0 x (set_word i v.0) (set_word-IsEdit i v.0) s.there in
    let f : Obj → Obj = operation.with_slot i (name_of (plain_stored w) v) in
    let old : Obj = obj_of (ref_of os) x in
    let view : plain_view (with_objects w us) ≡ store_of (plain_view w) (name_of (plain_stored w) o) i (name_of (plain_stored w) v) =
    ap (kept_of us w.classes w.roots) (active-same os us w.active edit) ∙ does.kept (plain_active os w.active) in
    let name : name_of (plain_stored w) o ≡ ref.Obj x.birth = ref_of-object os o.0 (is_object-object_at os o.0 x s.there) ∙ ap (λ b. ref.Obj b) (birth_of-object_at os o.0 x s.there) in
    let found : state.object_at (plain_view w) x.birth ≡ Some old = meaning_there w o.0 x sound.holds.whole s.there in
    let put_is : store_of (plain_view w) (name_of (plain_stored w) o) i (name_of (plain_stored w) v) ≡ put (plain_view w) x.birth (f old) =
    ap (λ r. edit_object (plain_view w) r f) name ∙ ap (λ y. edit_found f x.birth y (plain_view w)) found in
    let after : IsSound (plain_stored (with_objects w us)) (plain_view (with_objects w us)) =
    sound_world (with_objects w us) does.whole (subst (λ n. n ≤ w.heap.limit) (sym edit.words) sound.holds.within) sound.holds.most
    (subst KindsStand (sym view) (kinds-store (plain_view w) (name_of (plain_stored w) o) i (name_of (plain_stored w) v) sound.kinds))
    (subst KeepsPcs (sym view) (pcs-store (plain_view w) (name_of (plain_stored w) o) i (name_of (plain_stored w) v) sound.pcs)) in
    record {
      state = λ m k. subst (λ u. Keeps u (store_of m (name_of (plain_stored w) o) i (name_of (plain_stored w) v))) (sym view) (store_moved k (held_in w o sound named) i (held_in w v sound value)).keeps;
      exact = same_kept _ _ view;
      sound = after;
      ready = λ ready. record {
        sound = after;
        running = subst IsRunning (sym (view ∙ put_is)) (running-put (plain_view w) x.birth old (f old) ready.running found (no_context (ref_of os) x s.other) s.lies);
      };
      names = keeps_names w us edit;
    }
