-- The active context of a world of heap contexts, and when such a world is sound.
use Rattle.std.proofs.Common.{◌≡◌, ℕ, zero, suc, ◌<◌, Bool, true, false, refl, sym, ap, subst, ◌∙◌, Option, Some, None, IsSome, is_some, unwrap_or, length, arith}
use Rattle.std.specs.Prelude.{if◌then◌else◌, ◌≤◌, ◌||◌, slice_index}
use Rattle.std.proofs.lemmas.Bool.{false≢true}
use Rattle.std.specs.FinMap.{get}
use Rattle.cs_word.specs.declared.Oop.{Oop}
use Rattle.cs_heap.specs.Object.{Object, birth_at, heap_object, used}
use Rattle.cs_classes.specs.Meaning.{context_of, is_heap_context, obj_of, objects_of, ref_of}
use Rattle.cs_classes.specs.Kinds.{KindsStand}
use Rattle.cs_classes.specs.Sound.{IsWhole, is_reference}
use Rattle.cs_classes.proofs.Heaps.{birth_of-object_at, stands}
use Rattle.cs_classes.proofs.Objects.{get-objects_of-element}
use Rattle.cs_classes.proofs.Refs.{sender_named}
use Rattle.cs_classes.proofs.Sorts.{context_is, obj_of-context}
use Rattle.cs_classes.proofs.Sounds.{sound_at, whole_context}
use Rattle.cs_classes.proofs.Wholes.{kept_of-below, kept_of-closed, kept_of-roots}
use Rattle.cs_model.specs.Ref.{Ref, Small, Char}
use Rattle.cs_model.specs.Ref as ref
use Rattle.cs_model.specs.Obj.{Context, Ctx, is_context_at}
use Rattle.cs_model.specs.State.{Kept, is_nil, object_of}
use Rattle.cs_model.specs.Read.{active_birth, active_context}
use Rattle.cs_acts.specs.Ready.{IsReady, IsSound}
use Rattle.cs_plain.specs.declared.PlainWorld.{PlainWorld}
use Rattle.cs_plain.proofs.Pcs.{KeepsPcs}
use Rattle.cs_plain.specs.View.{plain_active, oop_birth, plain_birth, plain_stored, plain_view}

-- the active context is the object x of the heap, at this address
pub record Active (w : PlainWorld) (a : Oop) (x : Object) : Type 0 where
  pub known : w.active ≡ Some a
  pub there : heap_object w.heap.objects a.0 ≡ Some x
  pub context : is_heap_context x ≡ true
  pub is : context_of (ref_of w.heap.objects) x.hash x.words ≡ active_context (plain_view w)
  pub birth : active_birth (plain_view w) ≡ birth_at w.heap.objects a.0

-- what stands at an address has its meaning at its birth
pub meaning_there : (w : PlainWorld) (a : ℕ) (x : Object) → IsWhole w.heap.objects w.classes w.roots → heap_object w.heap.objects a ≡ Some x
    → get (objects_of w.heap.objects) x.birth ≡ Some (obj_of (ref_of w.heap.objects) x)
meaning_there w a x whole there = let s = stands w.heap.objects a x there in get-objects_of-element w.heap.objects s.0 x whole.heap.apart s.1.element

-- what is nil or a context is an object
names_object : (k : Kept) (r : Ref) → (is_nil k r || is_context_at (object_of k r)) ≡ true → (i : ℕ) × (r ≡ ref.Obj i)
names_object k (Small z) h = absurd (false≢true h)
names_object k (Char code) h = absurd (false≢true h)
names_object k (ref.Obj i) h = (i, refl)

-- each word of a context is a reference, its sender too
pub word_named : (w : PlainWorld) (a : ℕ) (x : Object) → IsSound (plain_stored w) (plain_view w) → heap_object w.heap.objects a ≡ Some x → is_heap_context x ≡ true
    → (i : ℕ) → i < length x.words → is_reference w.heap.objects (slice_index x.words i) ≡ true
unfolding context_of
word_named w a x sound there is zero l =
    let os = w.heap.objects in
    let c : Context = context_of (ref_of os) x.hash x.words in
    let means : get (objects_of os) x.birth ≡ Some (Ctx c) = meaning_there w a x sound.holds.whole there ∙ ap Some (obj_of-context (ref_of os) x is) in
    let named = names_object (plain_view w) c.sender (sound.kinds x.birth c means).sender in
    sender_named os (slice_index x.words 0) named.0 (whole_context os x (sound_at os a x sound.holds.whole.heap there) is).sender named.1
word_named w a x sound there is (suc i) l =
    (whole_context w.heap.objects x (sound_at w.heap.objects a x sound.holds.whole.heap there) is).references (suc i) (omega arith) l

pub active_is : (w : PlainWorld) (a : Oop) → IsReady (plain_stored w) (plain_view w) → w.active ≡ Some a → (x : Object) × Active w a x
active_is w a ready known = go (heap_object w.heap.objects a.0) refl
  where
    at : plain_active w.heap.objects w.active ≡ oop_birth w.heap.objects a
    at = ap (plain_active w.heap.objects) known

    is_active : (x : Object) (c : Bool) → is_heap_context x ≡ c → heap_object w.heap.objects a.0 ≡ Some x → Active w a x
    is_active x false o e = absurd (let no : ◌≡◌ {A = Option ℕ} None (Some (active_birth (plain_view w))) =
        sym (at ∙ ap plain_birth e ∙ ap (λ c. if c then Some x.birth else None) o) ∙ ready.running.known in cc)
    is_active x true o e =
        let some : plain_active w.heap.objects w.active ≡ Some x.birth = at ∙ ap plain_birth e ∙ ap (λ c. if c then Some x.birth else None) o in
        let birth : active_birth (plain_view w) ≡ x.birth = ap (λ o. unwrap_or o (plain_view w).rest.nil) some in
        let means = meaning_there w a.0 x ready.sound.holds.whole e in
        let same : Some (obj_of (ref_of w.heap.objects) x) ≡ Some (Ctx (active_context (plain_view w))) = sym means ∙ ap (get (objects_of w.heap.objects)) (sym birth) ∙ ready.running.found in
        let is = context_is (ref_of w.heap.objects) x (active_context (plain_view w)) (cc) in
        record { known = known; there = e; context = o; is = is.value; birth = birth ∙ sym (birth_of-object_at w.heap.objects a.0 x e) }

    go : (o : Option Object) → heap_object w.heap.objects a.0 ≡ o → (x : Object) × Active w a x
    go None e = absurd (let no : ◌≡◌ {A = Option ℕ} None (Some (active_birth (plain_view w))) = sym (at ∙ ap plain_birth e) ∙ ready.running.known in cc)
    go (Some x) e = (x, is_active x (is_heap_context x) refl e)

-- a whole heap is a sound world
pub sound_world : (w : PlainWorld) → IsWhole w.heap.objects w.classes w.roots → used w.heap.objects ≤ w.heap.limit → w.heap.limit ≤ 67108864 → KindsStand (plain_view w) → KeepsPcs (plain_view w) → IsSound (plain_stored w) (plain_view w)
sound_world w whole within most kinds pcs = record {
  closed = record {
    same = λ i o h. h;
    whole = λ i o h other. h;
    closed = λ i o h. kept_of-closed w.heap.objects w.classes w.roots (plain_active w.heap.objects w.active) i o whole.heap h;
    roots = kept_of-roots w.heap.objects w.classes w.roots (plain_active w.heap.objects w.active) whole (λ i e. held w.active i e);
    rest = refl;
  };
  pcs = pcs;
  kinds = kinds;
  births = λ i o h. kept_of-below w.heap.objects w.classes w.roots i o whole h;
  holds = record {
    whole = whole;
    object = λ j x h other. get-objects_of-element w.heap.objects j x whole.heap.apart h;
    context = λ j x h is. ap is_context_at (get-objects_of-element w.heap.objects j x whole.heap.apart h)
        ∙ ap (λ o. is_context_at (Some o)) (obj_of-context (ref_of w.heap.objects) x is);
    back = λ i o h other. h;
    within = within;
    most = most;
    rest = refl;
  };
}
  where
    found : (a : Oop) (i : ℕ) (x : Object) (c : Bool) → heap_object w.heap.objects a.0 ≡ Some x → ◌≡◌ {A = Option ℕ} (if c then Some x.birth else None) (Some i) → IsSome (get (objects_of w.heap.objects) i)
    found a i x false e h = absurd (cc)
    found a i x true e h = let is : x.birth ≡ i = cc in subst (λ n. IsSome (get (objects_of w.heap.objects) n)) is (ap is_some (meaning_there w a.0 x whole e))

    held_at : (a : Oop) (i : ℕ) (o : Option Object) → heap_object w.heap.objects a.0 ≡ o → plain_birth o ≡ Some i → IsSome (get (objects_of w.heap.objects) i)
    held_at a i None e h = absurd (cc)
    held_at a i (Some x) e h = found a i x (is_heap_context x) e h

    held : (o : Option Oop) (i : ℕ) → plain_active w.heap.objects o ≡ Some i → IsSome (get (objects_of w.heap.objects) i)
    held None i e = absurd (cc)
    held (Some a) i e = held_at a i (heap_object w.heap.objects a.0) refl e
