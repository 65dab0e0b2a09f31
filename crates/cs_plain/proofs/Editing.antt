-- An edit of an object that keeps pcs where they are: a byte, the mark of a read-only object, or a hash.
use Rattle.std.proofs.Common.{◌≡◌, ◌∙◌, inl, inr, ℕ, ◌+◌, ◌*◌, ◌≤◌, Bool, true, false, refl, sym, ap, subst, Option, Some, None, List, length}
use Rattle.std.proofs.lemmas.Bool.{cases_eq}
use Rattle.std.proofs.lemmas.List.{length-set}
use Rattle.cs_word.specs.declared.Oop.{Oop}
use Rattle.cs_heap.specs.Object.{Object, heap_object, with_object}
use Rattle.cs_classes.specs.Kinds.{KindsStand}
use Rattle.cs_classes.specs.Meaning.{kept_of, ref_of}
use Rattle.cs_classes.proofs.Heaps.{IsEdit}
use Rattle.cs_classes.proofs.Writes.{Does}
use Rattle.cs_model.specs.Ref.{Ref, Small, Char}
use Rattle.cs_model.specs.Ref as ref
use Rattle.cs_model.specs.Obj.{Context, Ctx, Method, Obj, Ptr, Raw, lies_between, lies_in}
use Rattle.cs_model.specs.State.{Kept, object_at, object_of, put}
use Rattle.cs_model.specs.Keeps.{Keeps}
use Rattle.cs_model.specs.Read.{IsRunning, active_birth, active_context, pc_of}
use Rattle.cs_model.specs.Operation.{edit_found, edit_object, with_byte, with_fixed, with_hash}
use Rattle.cs_model.proofs.Objects.{object_at-put_other, object_at-put_same}
use Rattle.cs_acts.specs.Names.{IsNamed, name_of}
use Rattle.cs_acts.specs.Ready.{IsReady, IsSound}
use Rattle.cs_plain.specs.declared.PlainWorld.{PlainWorld}
use Rattle.cs_plain.specs.View.{plain_active, plain_stored, plain_view}
use Rattle.cs_plain.proofs.Active.{sound_world}
use Rattle.cs_plain.proofs.Edits.{edited}
use Rattle.cs_plain.proofs.Pcs.{KeepsPcs, pcs-put, running}
use Rattle.cs_plain.proofs.Writing.{WritesAnyway, same_kept}
use Rattle.cs_plain.proofs.Written.{active-same, keeps_names, with_objects}

-- no place of a method is lost, and a context keeps its pc and method
pub record KeepsPlaces (f : Obj → Obj) : Type 0 where
  pub lies : (y : Obj) (pc : ℕ) → lies_in (Some y) pc ≡ true → lies_in (Some (f y)) pc ≡ true
  pub comes : (y : Obj) (c : Context) → f y ≡ Ctx c → (d : Context) × ((y ≡ Ctx d) × ((d.pc ≡ c.pc) × (d.method ≡ c.method)))
  pub goes : (c : Context) → (d : Context) × ((f (Ctx c) ≡ Ctx d) × (d.pc ≡ c.pc))

pub byte_places : (i b : ℕ) → KeepsPlaces (with_byte i b)
byte_places i b = record { lies = lies; comes = comes; goes = λ c. (c, (refl, refl)) }
  where
    lies : (y : Obj) (pc : ℕ) → lies_in (Some y) pc ≡ true → lies_in (Some (with_byte i b y)) pc ≡ true
    lies (Ptr head slots) pc h = h
    lies (Raw head bytes) pc h = h
    lies (Method head header literals bytecodes) pc h = ap (λ n. lies_between (4 * (length literals + 1) + 1) n pc) (length-set bytecodes i b) ∙ h
    lies (Ctx c) pc h = h

    comes : (y : Obj) (c : Context) → with_byte i b y ≡ Ctx c → (d : Context) × ((y ≡ Ctx d) × ((d.pc ≡ c.pc) × (d.method ≡ c.method)))
    comes (Ptr head slots) c e = absurd (cc)
    comes (Raw head bytes) c e = absurd (cc)
    comes (Method head header literals bytecodes) c e = absurd (cc)
    comes (Ctx d) c e = let is : d ≡ c = cc in (d, (refl, (ap (λ (x : Context). x.pc) is, ap (λ (x : Context). x.method) is)))

pub fixed_places : (on : Bool) → KeepsPlaces (with_fixed on)
fixed_places on = record { lies = lies; comes = comes; goes = λ c. (c, (refl, refl)) }
  where
    lies : (y : Obj) (pc : ℕ) → lies_in (Some y) pc ≡ true → lies_in (Some (with_fixed on y)) pc ≡ true
    lies (Ptr head slots) pc h = h
    lies (Raw head bytes) pc h = h
    lies (Method head header literals bytecodes) pc h = h
    lies (Ctx c) pc h = h

    comes : (y : Obj) (c : Context) → with_fixed on y ≡ Ctx c → (d : Context) × ((y ≡ Ctx d) × ((d.pc ≡ c.pc) × (d.method ≡ c.method)))
    comes (Ptr head slots) c e = absurd (cc)
    comes (Raw head bytes) c e = absurd (cc)
    comes (Method head header literals bytecodes) c e = absurd (cc)
    comes (Ctx d) c e = let is : d ≡ c = cc in (d, (refl, (ap (λ (x : Context). x.pc) is, ap (λ (x : Context). x.method) is)))

pub hash_places : (hash : ℕ) → KeepsPlaces (with_hash hash)
hash_places hash = record { lies = lies; comes = comes; goes = λ c. (record c { hash = hash }, (refl, refl)) }
  where
    lies : (y : Obj) (pc : ℕ) → lies_in (Some y) pc ≡ true → lies_in (Some (with_hash hash y)) pc ≡ true
    lies (Ptr head slots) pc h = h
    lies (Raw head bytes) pc h = h
    lies (Method head header literals bytecodes) pc h = h
    lies (Ctx c) pc h = h

    comes : (y : Obj) (c : Context) → with_hash hash y ≡ Ctx c → (d : Context) × ((y ≡ Ctx d) × ((d.pc ≡ c.pc) × (d.method ≡ c.method)))
    comes (Ptr head slots) c e = absurd (cc)
    comes (Raw head bytes) c e = absurd (cc)
    comes (Method head header literals bytecodes) c e = absurd (cc)
    comes (Ctx d) c e = let is : record d { hash = hash } ≡ c = cc in (d, (refl, (ap (λ (x : Context). x.pc) is, ap (λ (x : Context). x.method) is)))

-- ---- the state

pub pcs-edit_object : (k : Kept) (o : Ref) (f : Obj → Obj) → KeepsPlaces f → KeepsPcs k → KeepsPcs (edit_object k o f)
pcs-edit_object k (Small z) f places pcs = pcs
pcs-edit_object k (Char code) f places pcs = pcs
pcs-edit_object k (ref.Obj j) f places pcs = go (object_at k j) refl
  where
    own : (y : Obj) → object_at k j ≡ Some y → (c : Context) → f y ≡ Ctx c → (pc : ℕ) → c.pc ≡ Some pc → lies_in (object_of k c.method) pc ≡ true
    own y e c is pc live =
        let d = places.comes y c is in
        ap (λ m. lies_in (object_of k m) pc) (sym d.1.1.1) ∙ pcs j d.0 (e ∙ ap (λ p. Some p) d.1.0) pc (d.1.1.0 ∙ live)

    go : (o : Option Obj) → object_at k j ≡ o → KeepsPcs (edit_found f j o k)
    go None e = pcs
    go (Some y) e = pcs-put k j (f y) pcs (λ pc lies. places.lies y pc (ap (λ p. lies_in p pc) (sym e) ∙ lies)) (own y e)

-- an edit of an object leaves the rest
pub edit_object-rest : (k : Kept) (o : Ref) (f : Obj → Obj) → (edit_object k o f).rest ≡ k.rest
unfolding put
edit_object-rest k (Small z) f = refl
edit_object-rest k (Char code) f = refl
edit_object-rest k (ref.Obj j) f = go (object_at k j)
  where
    go : (o : Option Obj) → (edit_found f j o k).rest ≡ k.rest
    go None = refl
    go (Some y) = refl

pub running-edit_object : (k : Kept) (o : Ref) (f : Obj → Obj) → KeepsPlaces f → KeepsPcs (edit_object k o f) → IsRunning k → IsRunning (edit_object k o f)
unfolding put
running-edit_object k (Small z) f places pcs runs = runs
running-edit_object k (Char code) f places pcs runs = runs
running-edit_object k (ref.Obj j) f places pcs runs = go (object_at k j) refl pcs runs
  where
    edited_context : (y : Obj) → object_at k j ≡ Some y → KeepsPcs (put k j (f y)) → IsRunning k → active_birth k ≡ j → IsRunning (put k j (f y))
    edited_context y e pcs runs same =
        let is : y ≡ Ctx (active_context k) = let found : Some y ≡ Some (Ctx (active_context k)) = sym e ∙ ap (object_at k) (sym same) ∙ runs.found in cc in
        let d = places.goes (active_context k) in
        running (put k j (f y)) j d.0 (pc_of k) (runs.known ∙ ap (λ n. Some n) same) (object_at-put_same k j (f y) ∙ ap (λ (p : Obj). Some (f p)) is ∙ ap (λ p. Some p) d.1.0) (d.1.1 ∙ runs.live) pcs

    go : (o : Option Obj) → object_at k j ≡ o → KeepsPcs (edit_found f j o k) → IsRunning k → IsRunning (edit_found f j o k)
    go None e pcs runs = runs
    go (Some y) e pcs runs = elim (cases_eq (active_birth k) j) [
      | inl same ↦ edited_context y e pcs runs same
      | inr apart ↦ running (put k j (f y)) (active_birth k) (active_context k) (pc_of k) runs.known (object_at-put_other k j (active_birth k) (f y) apart ∙ runs.found) runs.live pcs
    ]

-- ---- the world

-- the object at an address is edited
pub writes-edit : (w : PlainWorld) (o : Oop) (x : Object) (g : Object → Object) (f : Obj → Obj) → IsSound (plain_stored w) (plain_view w) → heap_object w.heap.objects o.0 ≡ Some x → IsEdit g
    → Does w.heap.objects (with_object w.heap.objects o.0 g) w.classes w.roots (λ k. edit_object k (ref_of w.heap.objects o.0) f) → KeepsPlaces f
    → KindsStand (edit_object (plain_view w) (name_of (plain_stored w) o) f)
    → ((m : Kept) → Keeps (plain_view w) m → Keeps (edit_object (plain_view w) (name_of (plain_stored w) o) f) (edit_object m (name_of (plain_stored w) o) f))
    → WritesAnyway w (with_objects w (with_object w.heap.objects o.0 g)) (λ m. edit_object m (name_of (plain_stored w) o) f)
writes-edit w o x g f sound there edit does places kinds moved =
    let os = w.heap.objects in
    let us = with_object os o.0 g in
    let same = edited os o.0 x g edit there in
    let view : plain_view (with_objects w us) ≡ edit_object (plain_view w) (name_of (plain_stored w) o) f =
    ap (kept_of us w.classes w.roots) (active-same os us w.active same) ∙ does.kept (plain_active os w.active) in
    let pcs : KeepsPcs (edit_object (plain_view w) (name_of (plain_stored w) o) f) = pcs-edit_object (plain_view w) (name_of (plain_stored w) o) f places sound.pcs in
    let after : IsSound (plain_stored (with_objects w us)) (plain_view (with_objects w us)) =
    sound_world (with_objects w us) does.whole (subst (λ n. n ≤ w.heap.limit) (sym same.words) sound.holds.within) sound.holds.most
    (subst KindsStand (sym view) kinds) (subst KeepsPcs (sym view) pcs) in
    record {
      state = λ m k. subst (λ u. Keeps u (edit_object m (name_of (plain_stored w) o) f)) (sym view) (moved m k);
      exact = same_kept _ _ view;
      sound = after;
      ready = λ ready. record {
        sound = after;
        running = subst IsRunning (sym view) (running-edit_object (plain_view w) (name_of (plain_stored w) o) f places pcs ready.running);
      };
      names = keeps_names w us same;
    }
