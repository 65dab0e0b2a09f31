-- An object is made read-only or is so no longer, or gets its hash.
use Rattle.std.proofs.Common.{◌≡◌, ◌≢◌, ℕ, ◌+◌, ◌%◌, ◌<◌, ◌≤◌, ◌^◌, Bool, true, false, refl, sym, ap, subst, ◌∙◌, Option, Some, None, IsSome, is_some, List, arith}
use Rattle.std.specs.Prelude.{◌==◌, if◌then◌else◌}
use Rattle.std.specs.Option.{option_map_or}
use Rattle.std.proofs.lemmas.Bool.{eq-eqb, false≢true, ne_eqb}
use Rattle.cs_word.specs.declared.Oop.{Oop}
use Rattle.cs_heap.specs.Object.{Memory, Object, hash_at, heap_object, is_object}
use Rattle.cs_heap.specs.Writes.{fixed_stored, hash_stored}
use Rattle.cs_heap.proofs.Laws.{give_fixed, give_hash}
use Rattle.cs_classes.specs.Meaning.{context_of, is_heap_context, method_meaning, obj_of, objects_of, ref_of}
use Rattle.cs_classes.specs.Sound.{IsWhole}
use Rattle.cs_classes.proofs.Edits.{obj_of-hash}
use Rattle.cs_classes.proofs.Fixing.{does-fixed, give_fixed-IsEdit, obj_of-fixed}
use Rattle.cs_classes.proofs.Heaps.{IsEdit, birth_of-object_at, is_object-object_at, stands}
use Rattle.cs_classes.proofs.Refs.{ref_of-object}
use Rattle.cs_classes.proofs.Sorts.{AContext, AMethod, Bytes, Pointers, Sort, obj_of-bytes, obj_of-context, obj_of-method, obj_of-pointers, sort_of}
use Rattle.cs_classes.proofs.Writes.{does-first_hash}
use Rattle.cs_frame.specs.Frame.{Frame, nil}
use Rattle.cs_model.specs.Ref.{Ref}
use Rattle.cs_model.specs.Ref as ref
use Rattle.cs_model.specs.Obj.{Ctx, Method, Obj, Ptr, Raw, hash_in, is_context_at, lies_in}
use Rattle.cs_model.specs.Instance.{hash_given, hash_of, hash_or_zero, next_hash, with_last_hash}
use Rattle.cs_model.specs.Operation.{edit_object, set_fixed_of, with_fixed, with_hash}
use Rattle.cs_model.specs.PrimObject.{can_be_fixed}
use Rattle.cs_model.specs.State as state
use Rattle.cs_model.specs.State.{Kept, object_of, with_rest}
use Rattle.cs_model.proofs.LeadOperation.{edit_object-rest}
use Rattle.cs_acts.specs.Made.{contexts_in}
use Rattle.cs_acts.specs.Names.{IsNamed, KeepsNames, name_of}
use Rattle.cs_stack.specs.declared.parts.Parts.{Parts}
use Rattle.cs_stack.specs.View.{bare, dead_words, frame_context, is_linked, stored_of, unframed, view_of}
use Rattle.cs_stack.specs.Good.{IsGood}
use Rattle.cs_stack.proofs.Altering.{Altered, Alters, altered, body, edited}
use Rattle.cs_stack.proofs.Bare.{bare_element, plain_unlinked, unlinked}
use Rattle.cs_stack.proofs.Bytes.{Context, Nothing, Plain, Spoken, spoken}
use Rattle.cs_stack.proofs.Framed.{Bare, Framed, Which, all_fit, onto_bare, onto_frame, which}

-- ---- read-only or not

lies_fixed : (on : Bool) (pc : ℕ) (o : Obj) → lies_in (Some (with_fixed on o)) pc ≡ lies_in (Some o) pc
lies_fixed on pc (Ptr head slots) = refl
lies_fixed on pc (Raw head bytes) = refl
lies_fixed on pc (Method head header literals bytecodes) = refl
lies_fixed on pc (Ctx c) = refl

no_context_fixed : (o : Option Obj) → is_context_at o ≡ true → can_be_fixed o ≡ true → ⊥
no_context_fixed None c h = absurd (cc)
no_context_fixed (Some (Ptr head slots)) c h = absurd (cc)
no_context_fixed (Some (Raw head bytes)) c h = absurd (cc)
no_context_fixed (Some (Method head header literals bytecodes)) c h = absurd (cc)
no_context_fixed (Some (Ctx d)) c h = absurd (cc)

fixed_there : (w : Parts) (good : IsGood w) (a : ℕ) (on : Bool) (x : Object) → heap_object w.heap.objects a ≡ Some x → is_heap_context x ≡ false → Altered w (record w { heap = fixed_stored w.heap a on }) a (with_fixed on)
fixed_there w good a on x there other =
    let plain : unframed x ≡ x = unlinked x (plain_unlinked x other) in
    let means = obj_of-fixed (ref_of w.heap.objects) x on other in
    altered w good a (give_fixed on) (with_fixed on)
    (record {
      x = x;
      there = there;
      edit = give_fixed-IsEdit on;
      context = λ c. refl;
      dead = unlinked (give_fixed on x) (plain_unlinked (give_fixed on x) other) ∙ ap (give_fixed on) (sym plain);
      means = subst (λ z. obj_of (ref_of w.heap.objects) (give_fixed on z) ≡ with_fixed on (obj_of (ref_of w.heap.objects) z)) (sym plain) means;
      lies = λ pc. ap (λ y. lies_in (Some y) pc) means ∙ lies_fixed on pc (obj_of (ref_of w.heap.objects) x);
      header = λ c. refl;
      framed = λ c. absurd (false≢true (sym other ∙ c));
    })
    (does-fixed (record { whole = good.whole; there = there }) on other).whole

-- what may be fixed is an object of the heap, and no context
pub fixed : (w : Parts) (good : IsGood w) (o : Oop) (on : Bool) (h : Memory) → IsNamed (stored_of w) o → can_be_fixed (object_of (view_of w) (name_of (stored_of w) o)) ≡ true → h ≡ fixed_stored w.heap o.0 on
    → Altered w (record w { heap = h }) o.0 (with_fixed on)
fixed w good o on h named can e = subst (λ g. Altered w (record w { heap = g }) o.0 (with_fixed on)) (sym e) (go (spoken w good o named))
  where
    go : Spoken w.heap.objects o.0 (object_of (view_of w) (name_of (stored_of w) o)) → Altered w (record w { heap = fixed_stored w.heap o.0 on }) o.0 (with_fixed on)
    go (Plain x there other is) = fixed_there w good o.0 on x there other
    go (Context x there c is) = absurd (no_context_fixed _ is can)
    go (Nothing is) = absurd (false≢true (sym (ap can_be_fixed is) ∙ can))

pub fixed_view : (w v : Parts) (o : Oop) (on : Bool) → Altered w v o.0 (with_fixed on) → view_of v ≡ set_fixed_of (view_of w) (name_of (stored_of w) o) on
unfolding set_fixed_of
fixed_view w v o on a = a.view

pub fixed_object : (w : Parts) (good : IsGood w) (o : Oop) → IsNamed (stored_of w) o → IsSome (object_of (view_of w) (name_of (stored_of w) o)) → is_object w.heap.objects o.0 ≡ true
fixed_object w good o named some = go (spoken w good o named)
  where
    go : Spoken w.heap.objects o.0 (object_of (view_of w) (name_of (stored_of w) o)) → is_object w.heap.objects o.0 ≡ true
    go (Plain x there other is) = is_object-object_at w.heap.objects o.0 x there
    go (Context x there c is) = is_object-object_at w.heap.objects o.0 x there
    go (Nothing is) = absurd (false≢true (sym (ap is_some is) ∙ some))

pub fixed_some : (o : Option Obj) → can_be_fixed o ≡ true → IsSome o
fixed_some None h = absurd (cc)
fixed_some (Some o) h = refl

-- ---- hashes

lies_hash : (hash pc : ℕ) (o : Obj) → lies_in (Some (with_hash hash o)) pc ≡ lies_in (Some o) pc
lies_hash hash pc (Ptr head slots) = refl
lies_hash hash pc (Raw head bytes) = refl
lies_hash hash pc (Method head header literals bytecodes) = refl
lies_hash hash pc (Ctx c) = refl

-- the hash of an object is that of its header
hash_is : (refer : ℕ → Ref) (x : Object) → hash_in (obj_of refer x) ≡ x.hash
unfolding method_meaning context_of
hash_is refer x = go (sort_of x)
  where
    go : Sort x → hash_in (obj_of refer x) ≡ x.hash
    go (AContext c) = ap hash_in (obj_of-context refer x c)
    go (Pointers c p) = ap hash_in (obj_of-pointers refer x c p)
    go (AMethod c p m) = ap hash_in (obj_of-method refer x c p m)
    go (Bytes c p m) = ap hash_in (obj_of-bytes refer x c p m)

hash_unframed : (x : Object) → (unframed x).hash ≡ x.hash
hash_unframed x = go (is_linked x)
  where
    go : (b : Bool) → (if b then record x { words = dead_words x.words } else x).hash ≡ x.hash
    go true = refl
    go false = refl

frame_hashed : (os : List Object) (fr : Frame) (gs : List Frame) → (frame_context os fr gs).hash ≡ (if fr.context == nil then 0 else hash_at os fr.context)
unfolding frame_context
frame_hashed os fr gs = refl

module _ (w : Parts) (good : IsGood w) (o : Oop) (named : IsNamed (stored_of w) o) (some : IsSome (object_of (view_of w) (name_of (stored_of w) o))) where
  abbrev os : List Object
  os = w.heap.objects

  -- the object that it names
  record Thing : Type 0 where
    x : Object
    there : heap_object os o.0 ≡ Some x

  thing : Thing
  thing = go (spoken w good o named)
    where
      go : Spoken os o.0 (object_of (view_of w) (name_of (stored_of w) o)) → Thing
      go (Plain x there other is) = record { x = x; there = there }
      go (Context x there c is) = record { x = x; there = there }
      go (Nothing is) = absurd (false≢true (sym (ap is_some is) ∙ some))

  abbrev x : Object
  x = thing.x

  hash_here : hash_at os o.0 ≡ x.hash
  hash_here = ap (λ (y : Option Object). option_map_or (λ (z : Object). z.hash) y 0) thing.there

  name_is : name_of (stored_of w) o ≡ ref.Obj x.birth
  name_is = ref_of-object os o.0 (is_object-object_at os o.0 x thing.there) ∙ ap (λ b. ref.Obj b) (birth_of-object_at os o.0 x thing.there)

  hash_found : Which x.birth w.frames → hash_or_zero (state.object_at (view_of w) x.birth) ≡ hash_at os o.0
  hash_found (Bare l) =
      let s = stands os o.0 x thing.there in
      ap hash_or_zero (onto_bare os w.frames (objects_of (bare os)) x.birth l ∙ bare_element os s.0 x good.whole.heap s.1.element)
      ∙ hash_is (ref_of os) (unframed x) ∙ hash_unframed x ∙ sym hash_here
  hash_found (Framed p fr gs on same) =
      let b = body w good o.0 x thing.there p fr gs on same in
      ap hash_or_zero (ap (state.object_at (view_of w)) same ∙ onto_frame os w.roots.next_birth w.frames (objects_of (bare os)) p (all_fit w good) on)
      ∙ frame_hashed os fr gs ∙ ap (λ t. if t then 0 else hash_at os fr.context) (ne_eqb fr.context nil b.some) ∙ ap (hash_at os) b.is

  hash_read : hash_or_zero (object_of (view_of w) (name_of (stored_of w) o)) ≡ hash_at w.heap.objects o.0
  hash_read = ap (λ r. hash_or_zero (object_of (view_of w) r)) name_is ∙ hash_found (which x.birth w.frames)

  -- it has one
  pub hash_has : hash_at w.heap.objects o.0 ≢ 0 → hash_at w.heap.objects o.0 ≡ hash_of (view_of w) (name_of (stored_of w) o)
  unfolding hash_of
  hash_has ne =
      sym (ap (λ n. if n == 0 then next_hash w.roots.last_hash else n) hash_read ∙ ap (λ b. if b then next_hash w.roots.last_hash else hash_at os o.0) (ne_eqb (hash_at os o.0) 0 ne))

  pub hash_stays : hash_at w.heap.objects o.0 ≢ 0 → view_of w ≡ hash_given (view_of w) (name_of (stored_of w) o)
  unfolding hash_given
  hash_stays ne =
      let given : Kept = with_rest (with_last_hash (next_hash (view_of w).rest.last_hash) (view_of w).rest) (edit_object (view_of w) (name_of (stored_of w) o) (with_hash (next_hash (view_of w).rest.last_hash))) in
      sym (ap (λ n. if n == 0 then given else view_of w) hash_read ∙ ap (λ b. if b then given else view_of w) (ne_eqb (hash_at os o.0) 0 ne))

  -- it gets one
  pub hash_new : hash_at w.heap.objects o.0 ≡ 0 → next_hash w.roots.last_hash ≡ hash_of (view_of w) (name_of (stored_of w) o)
  unfolding hash_of
  hash_new none = sym (ap (λ n. if n == 0 then next_hash w.roots.last_hash else n) (hash_read ∙ none))

  hash_edit : (hash : ℕ) → Alters os o.0 (give_hash hash) (with_hash hash)
  hash_edit hash = record {
    x = x;
    there = thing.there;
    edit = record { slots = λ (y : Object). refl; birth = λ (y : Object). refl; class = λ (y : Object). refl; format = λ (y : Object). refl };
    context = λ c. refl;
    dead = dead (is_linked x);
    means = obj_of-hash (ref_of os) (unframed x) hash;
    lies = λ pc. ap (λ y. lies_in (Some y) pc) (obj_of-hash (ref_of os) x hash) ∙ lies_hash hash pc (obj_of (ref_of os) x);
    header = λ c. refl;
    framed = λ c d. refl;
  }
    where
      dead : (b : Bool) → (if b then record (give_hash hash x) { words = dead_words x.words } else give_hash hash x) ≡ give_hash hash (if b then record x { words = dead_words x.words } else x)
      dead true = refl
      dead false = refl

  pub hashed : (hash : ℕ) → hash_at w.heap.objects o.0 ≡ 0 → Altered w (record w { heap = hash_stored w.heap o.0 hash }) o.0 (with_hash hash)
  hashed hash none = altered w good o.0 (give_hash hash) (with_hash hash) (hash_edit hash) (does-first_hash (record { whole = good.whole; there = thing.there }) hash (sym hash_here ∙ none)).whole

-- ---- the last hash

pub next_below : (last : ℕ) → next_hash last < 4194304
next_below last = go ((last + 1) % 4194304 == 0) refl
  where
    go : (b : Bool) → ((last + 1) % 4194304 == 0) ≡ b → (if b then 1 else (last + 1) % 4194304) < 4194304
    go true e = omega arith
    go false e = omega arith

abbrev pub last_hashed : ℕ → Parts → Parts
last_hashed hash w = record w { roots = record w.roots { last_hash = hash } }

good_last : (w : Parts) (hash : ℕ) → hash < 4194304 → IsGood w → IsGood (last_hashed hash w)
good_last w hash below good = record {
  whole = record {
    heap = good.whole.heap;
    first = good.whole.first;
    nil = good.whole.nil;
    singles = good.whole.singles;
    births = good.whole.births;
    indices = good.whole.indices;
    classes = good.whole.classes;
    entries = good.whole.entries;
    special = good.whole.special;
    array = good.whole.array;
    last_hash = below;
    header = good.whole.header;
  };
  within = good.within;
  most = good.most;
  births = good.births;
  pcs = good.pcs;
  senders = good.senders;
  links = good.links;
  agree = good.agree;
  frames = good.frames;
  apart = good.apart;
  total = good.total;
  order = good.order;
  used_pages = good.used_pages;
  chain = good.chain;
}

-- what a world is behind a hash that is new
pub record HasHash (w v : Parts) (o : Oop) : Type 0 where
  pub good : IsGood v
  pub view : view_of v ≡ hash_given (view_of w) (name_of (stored_of w) o)
  pub names : KeepsNames (stored_of w) (stored_of v)
  pub contexts : contexts_in v.heap.objects ≡ contexts_in w.heap.objects

module _ (w : Parts) (good : IsGood w) (o : Oop) (named : IsNamed (stored_of w) o) (some : IsSome (object_of (view_of w) (name_of (stored_of w) o))) (none : hash_at w.heap.objects o.0 ≡ 0) where
  abbrev hash : ℕ
  hash = next_hash w.roots.last_hash

  abbrev between : Parts
  between = record w { heap = hash_stored w.heap o.0 (next_hash w.roots.last_hash) }

  given_is : with_rest (with_last_hash hash (view_of w).rest) (edit_object (view_of w) (name_of (stored_of w) o) (with_hash hash)) ≡ hash_given (view_of w) (name_of (stored_of w) o)
  unfolding hash_given
  given_is =
      let given : Kept = with_rest (with_last_hash hash (view_of w).rest) (edit_object (view_of w) (name_of (stored_of w) o) (with_hash hash)) in
      sym (ap (λ n. if n == 0 then given else view_of w) (hash_read w good o named some ∙ none))

  has_hash : HasHash w (last_hashed hash between) o
  has_hash =
      let done = hashed w good o named some hash none in
      record {
        good = good_last between hash (next_below w.roots.last_hash) done.good;
        view = ap (λ k. with_rest (with_last_hash hash k.rest) k) done.view
            ∙ ap (λ r. with_rest (with_last_hash hash r) (edit_object (view_of w) (name_of (stored_of w) o) (with_hash hash))) (edit_object-rest (view_of w) (name_of (stored_of w) o) (with_hash hash))
            ∙ given_is;
        names = λ p named. let n = done.names p named in record { sound = n.sound; is = n.is };
        contexts = done.contexts;
      }

  pub has_hash_by : (h : ℕ) (m : Memory) → h ≡ next_hash w.roots.last_hash → m ≡ hash_stored w.heap o.0 h → HasHash w (record w { heap = m; roots = record w.roots { last_hash = h } }) o
  has_hash_by h m e is =
      subst (λ g. HasHash w (record w { heap = g; roots = record w.roots { last_hash = h } }) o) (sym is)
      (subst (λ n. HasHash w (record w { heap = hash_stored w.heap o.0 n; roots = record w.roots { last_hash = n } }) o) (sym e) has_hash)
