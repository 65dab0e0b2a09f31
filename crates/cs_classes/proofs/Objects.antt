-- The objects of a heap by their births: what is at a birth, and what becomes of them when an object changes or comes.
use Rattle.std.proofs.Common.{◌≡◌, ℕ, zero, suc, Bool, true, false, cond, List, [], ◌∷◌, ◌++◌, map, Option, Some, None, option_map, refl, ap, sym, ◌∙◌, arith, ◌⊎◌, inl, inr, ap₂}
use Rattle.std.specs.Prelude.{slice_get}
use Rattle.std.specs.Ordering.{nat_cmp, eq_by_cmp}
use Rattle.std.specs.Cmp.{nat_cmp_total}
use Rattle.std.specs.FinMap.{find, from_entries, from_entries_push, get, get-from_entries, get-insert, insert, nat_cmp-IsAntisymmetric, same_map}
use Rattle.std.proofs.lemmas.Bool.{cases_eq}
use Rattle.std.proofs.lemmas.List.{map-append}
use Rattle.cs_heap.specs.Object.{Object, at_index, birth_at, is_object, heap_object, with_object}
use Rattle.cs_model.specs.Ref.{Ref}
use Rattle.cs_model.specs.Obj.{Obj}
use Rattle.cs_classes.specs.Meaning.{meaning_at, obj_of, objects_of, ref_of}
use Rattle.cs_classes.specs.Sound.{AreSoundObjects}
use Rattle.cs_classes.proofs.Heaps.{IsEdit, birth_of-object_at, is_object-object_at, object_there, stands, with_object-stands}
use Rattle.cs_classes.proofs.Refs.{ref_of-with_object}
use Rattle.cs_classes.proofs.Tables.{ties_other, ties_same}

-- no two objects have one birth
abbrev pub AreApart : List Object → Type 0
AreApart os = (j k : ℕ) (x y : Object) → slice_get os j ≡ Some x → slice_get os k ≡ Some y → x.birth ≡ y.birth → j ≡ k

-- none of them has this birth
abbrev pub IsFresh : List Object → ℕ → Type 0
IsFresh os b = (k : ℕ) (x : Object) → slice_get os k ≡ Some x → x.birth ≡ b → ⊥

apart_rest : (y : Object) (os : List Object) → AreApart (y ∷ os) → AreApart os
apart_rest y os apart j k x z p q e = let same = apart (suc j) (suc k) x z p q e in omega (arith, same)

apart_first : (y : Object) (os : List Object) → AreApart (y ∷ os) → IsFresh os y.birth
apart_first y os apart k x h e = let same = apart (suc k) 0 x y h refl e in absurd (omega (arith, same))

-- some object has the birth, or none has
pub birth_cases : (os : List Object) (b : ℕ) → ((k : ℕ) × ((x : Object) × ((slice_get os k ≡ Some x) × (x.birth ≡ b)))) ⊎ IsFresh os b
birth_cases [] b = inr (λ k x h e. absurd (cc))
birth_cases (y ∷ os) b = go (cases_eq y.birth b) (birth_cases os b)
  where
    go : (y.birth ≡ b) ⊎ (y.birth ≡ b → ⊥) → ((k : ℕ) × ((x : Object) × ((slice_get os k ≡ Some x) × (x.birth ≡ b)))) ⊎ IsFresh os b
        → ((k : ℕ) × ((x : Object) × ((slice_get (y ∷ os) k ≡ Some x) × (x.birth ≡ b)))) ⊎ IsFresh (y ∷ os) b
    go (inl e) rest = inl (0, (y, (refl, e)))
    go (inr other) (inl (k, (x, (h, e)))) = inl (suc k, (x, (h, e)))
    go (inr other) (inr fresh) = inr none
      where
        none : IsFresh (y ∷ os) b
        none zero x h e = let is : y ≡ x = cc in other (ap (λ (z : Object). z.birth) is ∙ e)
        none (suc k) x h e = fresh k x h e

-- ---- the entries of a heap, where f says what an object is

abbrev pub entries_by : (Object → Obj) → List Object → List (ℕ × Obj)
entries_by f = map (λ x. (x.birth, f x))

find_fresh : (f : Object → Obj) (os : List Object) (b : ℕ) → IsFresh os b → find nat_cmp b (entries_by f os) ≡ None
find_fresh f [] b fresh = refl
find_fresh f (y ∷ os) b fresh =
    let other = ties_other b y.birth (λ e. fresh 0 y refl (sym e)) in
    rw other (find_fresh f os b (λ k x h. fresh (suc k) x h))

find_birth : (f : Object → Obj) (os : List Object) (k : ℕ) (x : Object) → AreApart os → slice_get os k ≡ Some x → find nat_cmp x.birth (entries_by f os) ≡ Some (f x)
find_birth f [] k x apart h = absurd (cc)
find_birth f (y ∷ os) zero x apart h =
    let is : y ≡ x = cc in
    let same : eq_by_cmp nat_cmp x.birth y.birth ≡ true = ap (λ (z : Object). eq_by_cmp nat_cmp x.birth z.birth) is ∙ ties_same x.birth in
    rw same (ap (λ (z : Object). Some (f z)) is)
find_birth f (y ∷ os) (suc k) x apart h =
    let other = ties_other x.birth y.birth (λ e. apart_first y os apart k x h e) in
    rw other (find_birth f os k x (apart_rest y os apart) h)

-- one is changed, and keeps its birth
find_changed : (f : Object → Obj) (g : Object → Object) (os : List Object) (k : ℕ) (x : Object) (q : ℕ) → AreApart os → slice_get os k ≡ Some x → (g x).birth ≡ x.birth
    → find nat_cmp q (entries_by f (at_index k g os)) ≡ cond (eq_by_cmp nat_cmp q x.birth) (Some (f (g x))) (find nat_cmp q (entries_by f os))
unfolding at_index
find_changed f g [] k x q apart h keeps = absurd (cc)
find_changed f g (y ∷ os) zero x q apart h keeps =
    let is : y ≡ x = cc in
    ap (λ (z : Object). cond (eq_by_cmp nat_cmp q (g z).birth) (Some (f (g z))) (find nat_cmp q (entries_by f os))) is
    ∙ ap (λ (b : ℕ). cond (eq_by_cmp nat_cmp q b) (Some (f (g x))) (find nat_cmp q (entries_by f os))) keeps
    ∙ shadowed (eq_by_cmp nat_cmp q x.birth) (Some (f (g x))) (Some (f x)) (find nat_cmp q (entries_by f os))
    ∙ ap (λ (z : Object). cond (eq_by_cmp nat_cmp q x.birth) (Some (f (g x))) (cond (eq_by_cmp nat_cmp q z.birth) (Some (f z)) (find nat_cmp q (entries_by f os)))) (sym is)
  where
    shadowed : (b : Bool) (u v w : Option Obj) → cond b u w ≡ cond b u (cond b v w)
    shadowed true u v w = refl
    shadowed false u v w = refl
find_changed f g (y ∷ os) (suc k) x q apart h keeps =
    ap (cond (eq_by_cmp nat_cmp q y.birth) (Some (f y))) (find_changed f g os k x q (apart_rest y os apart) h keeps)
    ∙ swapped (cases_eq q y.birth)
  where
    rest : Option Obj
    rest = find nat_cmp q (entries_by f os)

    swapped : (q ≡ y.birth) ⊎ (q ≡ y.birth → ⊥) → cond (eq_by_cmp nat_cmp q y.birth) (Some (f y)) (cond (eq_by_cmp nat_cmp q x.birth) (Some (f (g x))) rest)
        ≡ cond (eq_by_cmp nat_cmp q x.birth) (Some (f (g x))) (cond (eq_by_cmp nat_cmp q y.birth) (Some (f y)) rest)
    swapped (inl e) =
        let here : eq_by_cmp nat_cmp q y.birth ≡ true = ap (λ (n : ℕ). eq_by_cmp nat_cmp n y.birth) e ∙ ties_same y.birth in
        let there : eq_by_cmp nat_cmp q x.birth ≡ false = ties_other q x.birth (λ d. apart_first y os apart k x h (sym d ∙ e)) in
        rw (here, there) refl
    swapped (inr e) = let other = ties_other q y.birth e in rw other refl

entries_alike : (f g : Object → Obj) (os : List Object) → ((k : ℕ) (x : Object) → slice_get os k ≡ Some x → f x ≡ g x) → entries_by f os ≡ entries_by g os
entries_alike f g [] h = refl
entries_alike f g (x ∷ os) h = ap₂ (λ (o : Obj) (rest : List (ℕ × Obj)). (x.birth, o) ∷ rest) (h 0 x refl) (entries_alike f g os (λ k y i. h (suc k) y i))

-- ---- the objects

pub get-objects_of-element : (os : List Object) (k : ℕ) (x : Object) → AreApart os → slice_get os k ≡ Some x → get (objects_of os) x.birth ≡ Some (obj_of (ref_of os) x)
unfolding objects_of
get-objects_of-element os k x apart h = get-from_entries nat_cmp_total (entries_by (obj_of (ref_of os)) os) x.birth ∙ find_birth (obj_of (ref_of os)) os k x apart h

pub get-objects_of-fresh : (os : List Object) (b : ℕ) → IsFresh os b → get (objects_of os) b ≡ None
unfolding objects_of
get-objects_of-fresh os b fresh = get-from_entries nat_cmp_total (entries_by (obj_of (ref_of os)) os) b ∙ find_fresh (obj_of (ref_of os)) os b fresh

-- at the birth of the object at an address is what that object means
pub get-objects_of : (os : List Object) (a : ℕ) → AreSoundObjects os → is_object os a ≡ true → get (objects_of os) (birth_at os a) ≡ meaning_at os a
get-objects_of os a sound h =
    let x = object_there os a h in
    let s = stands os a x.0 x.1 in
    ap (get (objects_of os)) (birth_of-object_at os a x.0 x.1) ∙ get-objects_of-element os s.0 x.0 sound.apart s.1.element
    ∙ sym (ap (option_map (obj_of (ref_of os))) x.1)

pub get-objects_of-meaning : (os : List Object) (a : ℕ) (o : Obj) → AreSoundObjects os → meaning_at os a ≡ Some o → get (objects_of os) (birth_at os a) ≡ Some o
get-objects_of-meaning os a o sound h = get-objects_of os a sound (there (heap_object os a) refl h) ∙ h
  where
    there : (p : Option Object) → heap_object os a ≡ p → option_map (obj_of (ref_of os)) p ≡ Some o → is_object os a ≡ true
    there None e h = absurd (cc)
    there (Some x) e h = is_object-object_at os a x e

-- what the map has is an object of the heap
pub record Comes (os : List Object) (b : ℕ) (o : Obj) : Type 0 where
  pub place : ℕ
  pub object : Object
  pub element : slice_get os place ≡ Some object
  pub birth : object.birth ≡ b
  pub meaning : obj_of (ref_of os) object ≡ o

pub objects_of-comes : (os : List Object) (b : ℕ) (o : Obj) → AreApart os → get (objects_of os) b ≡ Some o → Comes os b o
objects_of-comes os b o apart h = go (birth_cases os b)
  where
    go : ((k : ℕ) × ((x : Object) × ((slice_get os k ≡ Some x) × (x.birth ≡ b)))) ⊎ IsFresh os b → Comes os b o
    go (inl (k, (x, (e, is)))) =
        let found : get (objects_of os) b ≡ Some (obj_of (ref_of os) x) = ap (get (objects_of os)) (sym is) ∙ get-objects_of-element os k x apart e in
        record { place = k; object = x; element = e; birth = is; meaning = cc }
    go (inr fresh) = let none = get-objects_of-fresh os b fresh in absurd (cc)

-- ---- when one changes

pub objects_of-with_object : (os : List Object) (a : ℕ) (x : Object) (f : Object → Object) → IsEdit f → AreApart os → heap_object os a ≡ Some x
    → objects_of (with_object os a f) ≡ insert (objects_of os) x.birth (obj_of (ref_of os) (f x))
unfolding objects_of
objects_of-with_object os a x f edit apart there = same_map nat_cmp_total nat_cmp-IsAntisymmetric _ _ alike
  where
    means : Object → Obj
    means = obj_of (ref_of os)

    alike : (q : ℕ) → get {R = nat_cmp} (from_entries (entries_by (obj_of (ref_of (with_object os a f))) (with_object os a f))) q
        ≡ get {R = nat_cmp} (insert (from_entries (entries_by (obj_of (ref_of os)) os)) x.birth (obj_of (ref_of os) (f x))) q
    alike q =
        let s = stands os a x there in
        get-from_entries nat_cmp_total (entries_by (obj_of (ref_of (with_object os a f))) (with_object os a f)) q
        ∙ ap (λ (r : ℕ → Ref). find nat_cmp q (entries_by (obj_of r) (with_object os a f))) (ref_of-with_object os a f edit)
        ∙ ap (λ (ys : List Object). find nat_cmp q (entries_by (obj_of (ref_of os)) ys)) (with_object-stands os a x s.0 f s.1)
        ∙ find_changed (obj_of (ref_of os)) f os s.0 x q apart s.1.element (edit.birth x)
        ∙ ap (cond (eq_by_cmp nat_cmp q x.birth) (Some (obj_of (ref_of os) (f x)))) (sym (get-from_entries nat_cmp_total (entries_by (obj_of (ref_of os)) os) q))
        ∙ sym (get-insert nat_cmp_total (from_entries (entries_by (obj_of (ref_of os)) os)) x.birth (obj_of (ref_of os) (f x)) q)

-- ---- when one comes

pub objects_of-push : (os : List Object) (y : Object) → IsFresh os y.birth
    → ((k : ℕ) (x : Object) → slice_get os k ≡ Some x → obj_of (ref_of (os ++ y ∷ [])) x ≡ obj_of (ref_of os) x)
    → objects_of (os ++ y ∷ []) ≡ insert (objects_of os) y.birth (obj_of (ref_of (os ++ y ∷ [])) y)
unfolding objects_of
objects_of-push os y fresh same =
    let new : Object → Obj = obj_of (ref_of (os ++ y ∷ [])) in
    ap (from_entries {R = nat_cmp}) (map-append (λ (x : Object). (x.birth, new x)) os (y ∷ []))
    ∙ from_entries_push nat_cmp_total nat_cmp-IsAntisymmetric (entries_by new os) y.birth (new y) (find_fresh new os y.birth fresh)
    ∙ ap (λ (es : List (ℕ × Obj)). insert (from_entries {R = nat_cmp} es) y.birth (new y)) (entries_alike new (obj_of (ref_of os)) os same)
