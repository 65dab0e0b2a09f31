-- Opening an image: the active process gives its context to the machine.
use Rattle.std.proofs.Common.{◌≡◌, ℕ, ◌≤◌, Bool, true, false, refl, sym, ap, subst, ◌∙◌, Option, Some, None, is_some, List, option_and_then}
use Rattle.std.specs.Prelude.{◌&&◌, ◌==◌, not, nat_le, slice_get, if◌then◌else◌}
use Rattle.std.specs.FinMap.{get}
use Rattle.cs_word.specs.declared.Oop.{Oop}
use Rattle.cs_word.specs.declared.Kind.{Kind}
use Rattle.cs_word.specs.declared.Kind.TheVariants as kind
use Rattle.cs_word.specs.Word.{kind_of}
use Rattle.cs_heap.specs.Format.{is_pointers}
use Rattle.cs_heap.specs.Object.{Object, birth_at, class_at, format_at, is_object, heap_object, slot_count_of, slot_set}
use Rattle.cs_heap.proofs.Laws.{birth_of-with_slot, is_object-with_slot, used-with_slot}
use Rattle.cs_classes.specs.Kinds.{KindsStand}
use Rattle.cs_classes.specs.Meaning.{is_heap_context, kept_of, obj_of, objects_of, ref_of, ref_of_kind}
use Rattle.cs_classes.specs.Sound.{is_reference, is_reference_kind, has_slots}
use Rattle.cs_classes.proofs.Heaps.{birth_of-object_at, object_there}
use Rattle.cs_classes.proofs.Sorts.{context_is}
use Rattle.cs_classes.proofs.Writes.{does-set_slot}
use Rattle.cs_model.specs.Ref.{Ref}
use Rattle.cs_model.specs.Ref as ref
use Rattle.cs_model.specs.Obj.{Ctx, context_class}
use Rattle.cs_model.specs.State.{Kept, active_process, is_nil, slots_of}
use Rattle.cs_model.specs.Read.{IsRunning, active_context}
use Rattle.cs_model.specs.Operation.{nil_of, resume_of, store_of}
use Rattle.cs_model.specs.Due.{is_idle, is_idle_at}
use Rattle.cs_model.specs.Settle.{context_kept, open_at, open_if, open_kept}
use Rattle.cs_acts.specs.Names.{IsNamed, Names, NamesOption, name_of}
use Rattle.cs_acts.specs.Ready.{IsSound}
use Rattle.cs_acts.proofs.Named.{field_at, has_slots_read, slots_there}
use Rattle.cs_acts.proofs.ContextKinds.{kinds-rest, kinds-store}
use Rattle.cs_acts.proofs.Dirty.{sound-dirtied}
use Rattle.cs_plain.proofs.Written.{dirtied}
use Rattle.cs_plain.specs.declared.PlainWorld.{PlainWorld}
use Rattle.cs_acts.specs.Opened.{taken_of}
use Rattle.cs_plain.specs.View.{plain_active, oop_birth, plain_birth, plain_stored, plain_view}
use Rattle.cs_plain.proofs.Active.{meaning_there, sound_world}
use Rattle.cs_plain.proofs.Pcs.{KeepsPcs, pcs-rest, pcs-store}
use Rattle.cs_plain.proofs.Storing.{kind_address}

-- ---- the active process

-- a process is active that isn't nil, so its context is taken, and that runs
pub runs_taken : (k : Kept) (p : Ref) → active_process k ≡ Some p → is_nil k p ≡ false → (is_idle k ≡ false → IsRunning (open_kept k)) → IsRunning (taken_of k p)
unfolding is_idle open_kept
runs_taken k p e n running = subst IsRunning (ap (open_if k) e ∙ ap (λ b. if b then k else taken_of k p) n) (running (ap (is_idle_at k) e ∙ n))

-- ---- the process

-- the pointer object of four slots or more that a process is
pub record Process (os : List Object) (p : ℕ) (x : Object) : Type 0 where
  pub there : heap_object os p ≡ Some x
  pub other : is_heap_context x ≡ false
  pub pointers : is_pointers x.format ≡ true
  pub within : 4 ≤ slot_count_of os p

pub process_is : (w : PlainWorld) (p c : Oop) → IsSound (plain_stored w) (plain_view w) → IsNamed (plain_stored w) p → NamesOption (plain_stored w) (Some c) (context_kept (plain_view w) (name_of (plain_stored w) p))
    → (x : Object) × Process w.heap.objects p.0 x
process_is w p c sound named kept =
    let os = w.heap.objects in
    let has : has_slots os 4 p.0 ≡ true = has_slots_read (plain_stored w) (plain_view w) w.heap 4 p refl sound.holds named ∙ some_before (slots_of (plain_view w) 4 (name_of (plain_stored w) p)) (name_of (plain_stored w) c) kept.is in
    let h = slots_there os 4 p.0 has in
    let class : class_at os p.0 ≡ h.object.class = field_at (λ y. y.class) os p.0 h.object h.at in (
      h.object,
      record {
        there = h.at;
        other = sym (ap (λ n. n == context_class) class) ∙ second (is_object os p.0) (class_at os p.0 == context_class) (is_pointers (format_at os p.0)) (nat_le 4 (slot_count_of os p.0)) has;
        pointers = h.pointers;
        within = subst (λ n. 4 ≤ n) (sym h.count) h.enough;
      },
    )
  where
    some_before : (o : Option (List Ref)) (x : Ref) → Some x ≡ option_and_then (λ slots. slice_get slots 1) o → is_some o ≡ true
    some_before None x e = absurd (cc)
    some_before (Some slots) x e = refl

    second : (a b c d : Bool) → (a && not b && c && d) ≡ true → b ≡ false
    second false b c d h = absurd (cc)
    second true true c d h = absurd (cc)
    second true false c d h = refl

-- ---- the context

-- a word that names an object is its address
address_of-object : (os : List Object) (word i : ℕ) → is_reference os word ≡ true → ref_of os word ≡ ref.Obj i → (is_object os word ≡ true) × (birth_at os word ≡ i)
unfolding is_reference ref_of
address_of-object os word i named is = go (kind_of word) refl named is
  where
    go : (k : Kind) → kind_of word ≡ k → is_reference_kind os k ≡ true → ref_of_kind os k ≡ ref.Obj i → (is_object os word ≡ true) × (birth_at os word ≡ i)
    go (kind.Small z) e n s = absurd (cc)
    go (kind.Character code) e n s = absurd (cc)
    go (kind.Link l) e n s = absurd (cc)
    go (kind.Object a) e n s =
        let is : a ≡ word = kind_address word a e in
        (subst (λ b. is_object os b ≡ true) is n, subst (λ b. birth_at os b ≡ i) is (cc))

-- the world in which the process keeps nil and its context is active
abbrev pub with_taken : PlainWorld → Oop → Oop → Oop → PlainWorld
with_taken w p nil c = record w { heap = record w.heap { objects = slot_set w.heap.objects p.0 1 nil.0 }; active = Some c }

pub record Taken (w v : PlainWorld) (p : Ref) : Type 0 where
  pub view : plain_view v ≡ taken_of (plain_view w) p
  pub sound : IsSound (plain_stored v) (plain_view v)

pub taken-dirtied : {w v : PlainWorld} {p : Ref} (d : Bool) → Taken w v p → Taken w (dirtied v d) p
taken-dirtied d h = record { view = h.view; sound = sound-dirtied d h.sound }

-- a running context has the birth that the process names
context_active : (w : PlainWorld) (c : Oop) (os : List Object) (i : ℕ) → IsSound (plain_stored w) (plain_view w) → os ≡ w.heap.objects → is_object os c.0 ≡ true → birth_at os c.0 ≡ i
    → IsRunning (resume_of (plain_view w) i) → oop_birth os c ≡ Some i
unfolding resume_of
context_active w c os i sound same there birth running =
    let x = object_there os c.0 there in
    let is : x.0.birth ≡ i = sym (birth_of-object_at os c.0 x.0 x.1) ∙ birth in
    let means = meaning_there w c.0 x.0 sound.holds.whole (subst (λ os. heap_object os c.0 ≡ Some x.0) same x.1) in
    let found : get (objects_of w.heap.objects) i ≡ Some (Ctx (active_context (resume_of (plain_view w) i))) = running.found in
    let object : Some (obj_of (ref_of w.heap.objects) x.0) ≡ Some (Ctx (active_context (resume_of (plain_view w) i))) = sym means ∙ ap (get (objects_of w.heap.objects)) is ∙ found in
    let context = context_is (ref_of w.heap.objects) x.0 (active_context (resume_of (plain_view w) i)) (cc) in
    ap plain_birth x.1 ∙ ap (λ b. if b then Some x.0.birth else None) context.context ∙ ap Some is

module _ {w : PlainWorld} (p c nil : Oop) (sound : IsSound (plain_stored w) (plain_view w)) (closed : w.active ≡ None) (named : IsNamed (plain_stored w) p)
    (none : Names (plain_stored w) nil (nil_of (plain_view w))) (kept : NamesOption (plain_stored w) (Some c) (context_kept (plain_view w) (name_of (plain_stored w) p)))
    (running : IsRunning (taken_of (plain_view w) (name_of (plain_stored w) p))) where
  -- where the process names an object
  takes : (x : Object) → Process w.heap.objects p.0 x → (i : ℕ) → name_of (plain_stored w) c ≡ ref.Obj i → Taken w (with_taken w p nil c) (name_of (plain_stored w) p)
  unfolding resume_of
  takes x process i is =
      let os = w.heap.objects in
      let us = slot_set os p.0 1 nil.0 in
      let k = plain_view w in
      let active = plain_active os w.active in
      let does = does-set_slot (record { whole = sound.holds.whole; there = process.there }) 1 nil.0 process.other process.pointers none.sound in
      let stored : kept_of us w.classes w.roots active ≡ store_of k (name_of (plain_stored w) p) 1 (nil_of k) = does.kept active ∙ ap (store_of k (name_of (plain_stored w) p) 1) none.is in
      let taken : taken_of k (name_of (plain_stored w) p) ≡ resume_of (kept_of us w.classes w.roots active) i =
      ap (λ o. open_at k (name_of (plain_stored w) p) (option_and_then (λ y. ref.named_object y) o)) (sym kept.is)
      ∙ ap (λ y. open_at k (name_of (plain_stored w) p) (ref.named_object y)) is
      ∙ ap (λ m. resume_of m i) (sym stored) in
      let at = address_of-object os c.0 i kept.sound is in
      let pcs : KeepsPcs (kept_of us w.classes w.roots active) = subst KeepsPcs (sym stored) (pcs-store k (name_of (plain_stored w) p) 1 (nil_of k) sound.pcs) in
      let kinds : KindsStand (kept_of us w.classes w.roots active) = subst KindsStand (sym stored) (kinds-store k (name_of (plain_stored w) p) 1 (nil_of k) sound.kinds) in
      let between : PlainWorld = record w { heap = record w.heap { objects = us }; active = None } in
      let within = subst (λ n. n ≤ w.heap.limit) (sym (used-with_slot os p.0 1 nil.0)) sound.holds.within in
      let birth : oop_birth us c ≡ Some i = context_active between c us i (sound_world between does.whole within sound.holds.most (kinds-rest (plain_view between).rest (kept_of us w.classes w.roots active) refl kinds) (pcs-rest (plain_view between).rest (kept_of us w.classes w.roots active) pcs)) refl
      (is_object-with_slot os p.0 1 nil.0 c.0 ∙ at.0) (birth_of-with_slot os p.0 1 nil.0 c.0 ∙ at.1) (subst IsRunning taken running) in
      record {
        view = ap (kept_of us w.classes w.roots) birth ∙ sym taken;
        sound = sound_world (with_taken w p nil c) does.whole within sound.holds.most (kinds-rest (plain_view (with_taken w p nil c)).rest (kept_of us w.classes w.roots active) refl kinds) (pcs-rest (plain_view (with_taken w p nil c)).rest (kept_of us w.classes w.roots active) pcs);
      }

  -- it does, for else no context would run
  pub context_taken : Taken w (with_taken w p nil c) (name_of (plain_stored w) p)
  context_taken = let process = process_is w p c sound named kept in go process.0 process.1 (name_of (plain_stored w) c) refl
    where
      idle : taken_of (plain_view w) (name_of (plain_stored w) p) ≡ plain_view w → ⊥
      idle same = let e = sym (ap (plain_active w.heap.objects) closed) ∙ (subst IsRunning same running).known in cc

      no_object : (y : Ref) → name_of (plain_stored w) c ≡ y → ref.named_object y ≡ None → taken_of (plain_view w) (name_of (plain_stored w) p) ≡ plain_view w
      no_object y e n = ap (λ o. open_at (plain_view w) (name_of (plain_stored w) p) (option_and_then (λ z. ref.named_object z) o)) (sym kept.is)
          ∙ ap (λ z. open_at (plain_view w) (name_of (plain_stored w) p) (ref.named_object z)) e ∙ ap (open_at (plain_view w) (name_of (plain_stored w) p)) n

      go : (x : Object) → Process w.heap.objects p.0 x → (y : Ref) → name_of (plain_stored w) c ≡ y → Taken w (with_taken w p nil c) (name_of (plain_stored w) p)
      go x process (ref.Small z) e = absurd (idle (no_object (ref.Small z) e refl))
      go x process (ref.Char code) e = absurd (idle (no_object (ref.Char code) e refl))
      go x process (ref.Obj i) e = takes x process i e
