-- A walk over the objects that enters each under its birth gives them in the order of their births.
use Rattle.std.proofs.Common.{◌≡◌, ℕ, zero, suc, ◌+◌, ◌-◌, ◌<◌, ◌≤◌, Bool, true, false, refl, sym, ap, ap₂, subst, ◌∙◌, arith, Option, Some, None, List, [], ◌∷◌, ◌++◌, length, map, take, option_map}
use Rattle.std.specs.Prelude.{is_some, nat_lt, slice_get, unwrap_or}
use Rattle.std.specs.Option.{option_map_or}
use Rattle.std.specs.declared.cmp.Ordering.{Ordering}
use Rattle.std.specs.declared.cmp.Ordering.TheVariants.{Less, Equal, Greater}
use Rattle.std.specs.Ordering.{nat_cmp, match_ordering}
use Rattle.std.specs.Cmp.{nat_cmp_total}
use Rattle.std.specs.BTreeMap.{insert_entry}
use Rattle.std.specs.FinMap.{entries, entries-insert, find, from_entries, from_entries_push, empty, len-empty, len-entries, nat_cmp-IsAntisymmetric}
use Rattle.std.specs.FinMap.Entries.{put, by_order}
use Rattle.std.proofs.Math.Seq.{take-suc}
use Rattle.std.proofs.lemmas.Bool.{false≢true, ltb-false, ltb-true}
use Rattle.std.proofs.lemmas.List.{map-append, take_all}
use Rattle.std.proofs.lemmas.Option.{get_or_from_slice_get}
use Rattle.cs_word.specs.declared.Oop.{Oop}
use Rattle.cs_heap.specs.Object.{Object, address_of, birth_at, object_place, is_object, next_of, heap_object}
use Rattle.cs_heap.proofs.Laws.{address_of-below, index_of-address, index_of-below, next_of-address, object_at-address}
use Rattle.cs_model.specs.Obj.{Obj}
use Rattle.cs_classes.specs.Meaning.{obj_of, objects_of, ref_of}
use Rattle.cs_classes.specs.Sound.{AreSoundObjects}
use Rattle.cs_classes.proofs.Heaps.{element_within}
use Rattle.cs_classes.proofs.Tables.{ties_other}
use Rattle.cs_inspect.specs.Reading.{IsInOrder, entry_at}

-- ---- maps of entries whose values depend on their keys

abbrev pub with_value : {X Y : Type 0} → (ℕ → X → Y) → ℕ × X → ℕ × Y
with_value h e = (e.0, h e.0 e.1)

abbrev entered : {Y : Type 0} → ℕ → Y → List (ℕ × Y) → List (ℕ × Y)
entered k y es = (k, y) ∷ es

map-put : {X Y : Type 0} (h : ℕ → X → Y) (k : ℕ) (v : X) (es : List (ℕ × X)) → map (with_value h) (put nat_cmp k v es) ≡ put nat_cmp k (h k v) (map (with_value h) es)
map-put h k v [] = refl
map-put {X} {Y} h k v (e ∷ es) = go (nat_cmp k e.0) refl (map-put h k v es)
  where
    go : (o : Ordering) → nat_cmp k e.0 ≡ o → map (with_value h) (put nat_cmp k v es) ≡ put nat_cmp k (h k v) (map (with_value h) es)
        → map (with_value h) (by_order o ((k, v) ∷ e ∷ es) ((e.0, v) ∷ es) (e ∷ put nat_cmp k v es))
        ≡ by_order o ((k, h k v) ∷ with_value h e ∷ map (with_value h) es) ((e.0, h k v) ∷ map (with_value h) es) (with_value h e ∷ put nat_cmp k (h k v) (map (with_value h) es))
    go Less o rest = refl
    go Equal o rest = ap (λ (n : ℕ). entered e.0 (h n v) (map (with_value h) es)) (sym (nat_cmp-IsAntisymmetric k e.0 o))
    go Greater o rest = ap (λ (fs : List (ℕ × Y)). with_value h e ∷ fs) rest

-- the empty map has no entries
no_length : {A : Type 0} (es : List A) → length es ≡ 0 → es ≡ []
no_length [] e = refl
no_length (x ∷ es) e = absurd (omega (arith, e))

no_entries : (X : Type 0) → entries (empty {X = X} {R = nat_cmp}) ≡ []
no_entries X = no_length (entries (empty {X = X} {R = nat_cmp})) (sym (len-entries (empty {X = X} {R = nat_cmp})) ∙ len-empty nat_cmp X)

map-from_entries : {X Y : Type 0} (h : ℕ → X → Y) (es : List (ℕ × X))
    → map (with_value h) (entries (from_entries {R = nat_cmp} es)) ≡ entries (from_entries {R = nat_cmp} (map (with_value h) es))
map-from_entries {X} {Y} h [] = ap (map (with_value h)) (no_entries X) ∙ sym (no_entries Y)
map-from_entries h (e ∷ es) =
    ap (map (with_value h)) (entries-insert nat_cmp_total (from_entries {R = nat_cmp} es) e.0 e.1)
    ∙ map-put h e.0 e.1 (entries (from_entries {R = nat_cmp} es))
    ∙ ap (put nat_cmp e.0 (h e.0 e.1)) (map-from_entries h es)
    ∙ sym (entries-insert nat_cmp_total (from_entries {R = nat_cmp} (map (with_value h) es)) e.0 (h e.0 e.1))

-- the map of the program enters as the map of the model does
map-insert_entry : {X Y : Type 0} (f : X → Y) (k : ℕ) (v : X) (es : List (ℕ × X))
    → map (with_value (λ _. f)) (insert_entry nat_cmp es k v) ≡ put nat_cmp k (f v) (map (with_value (λ _. f)) es)
map-insert_entry f k v [] = refl
map-insert_entry {X} {Y} f k v (e ∷ es) = go (nat_cmp k e.0) (map-insert_entry f k v es)
  where
    go : (o : Ordering) → map (with_value (λ _. f)) (insert_entry nat_cmp es k v) ≡ put nat_cmp k (f v) (map (with_value (λ _. f)) es)
        → map (with_value (λ _. f)) (match_ordering o ((k, v) ∷ e ∷ es) ((e.0, v) ∷ es) (e ∷ insert_entry nat_cmp es k v))
        ≡ by_order o ((k, f v) ∷ (e.0, f e.1) ∷ map (with_value (λ _. f)) es) ((e.0, f v) ∷ map (with_value (λ _. f)) es) ((e.0, f e.1) ∷ put nat_cmp k (f v) (map (with_value (λ _. f)) es))
    go Less rest = refl
    go Equal rest = refl
    go Greater rest = ap (entered e.0 (f e.1)) rest

-- ---- the walk

-- an object under its birth, with its birth and its meaning
abbrev pub entry : List Object → Object → ℕ × (ℕ × Option Obj)
entry os x = (x.birth, (x.birth, Some (obj_of (ref_of os) x)))

find_fresh : (os xs : List Object) (b : ℕ) → ((k : ℕ) (x : Object) → slice_get xs k ≡ Some x → x.birth ≡ b → ⊥) → find nat_cmp b (map (entry os) xs) ≡ None
find_fresh os [] b fresh = refl
find_fresh os (y ∷ xs) b fresh =
    let other = ties_other b y.birth (λ e. fresh 0 y refl (sym e)) in
    rw other (find_fresh os xs b (λ k x h. fresh (suc k) x h))

slice_get-take : {X : Type 0} (n : ℕ) (xs : List X) (k : ℕ) (x : X) → slice_get (take n xs) k ≡ Some x → (slice_get xs k ≡ Some x) × (k < n)
slice_get-take zero xs k x h = absurd (cc)
slice_get-take (suc n) [] k x h = absurd (cc)
slice_get-take (suc n) (y ∷ xs) zero x h = (h, omega arith)
slice_get-take (suc n) (y ∷ xs) (suc k) x h = let r = slice_get-take n xs k x h in (r.0, omega (arith, r.1))

-- the walk stands at an object, or behind the last, and those before it are entered
pub record Walked (os : List Object) (object : Option Oop) (es : List (ℕ × Oop)) : Type 0 where
  pub place : ℕ
  pub within : place ≤ length os
  pub at : option_map (λ o. o.0) object ≡ address_of os place
  pub done : map (with_value (λ _. entry_at os)) es ≡ entries (from_entries {R = nat_cmp} (map (entry os) (take place os)))

pub walk_begins : (os : List Object) (object : Option Oop) → option_map (λ o. o.0) object ≡ address_of os 0 → Walked os object []
walk_begins os object e = record { place = 0; within = omega arith; at = e; done = sym (no_entries (ℕ × Option Obj)) }

-- what the walk stands at
record Stood (os : List Object) (o : Oop) (k : ℕ) : Type 0 where
  x : Object
  element : slice_get os k ≡ Some x
  below : k < length os
  index : object_place os o.0 ≡ Some k
  object : heap_object os o.0 ≡ Some x
  entry_is : entry_at os o ≡ (x.birth, Some (obj_of (ref_of os) x))

stood : (os : List Object) (o : Oop) (k : ℕ) → Some o.0 ≡ address_of os k → Stood os o k
stood os o k e =
    let index = index_of-address os o.0 k (sym e) in
    let below = index_of-below os o.0 k index in
    let there = element_within os k below in
    let object : heap_object os o.0 ≡ Some there.0 = object_at-address os o.0 k (sym e) ∙ there.1 in
    record {
      x = there.0;
      element = there.1;
      below = below;
      index = index;
      object = object;
      entry_is = ap (λ (p : Option Object). (option_map_or (λ (y : Object). y.birth) p 0, option_map (obj_of (ref_of os)) p)) object;
    }

pub walk_object : (os : List Object) (o : Oop) (es : List (ℕ × Oop)) → Walked os (Some o) es → is_object os o.0 ≡ true
walk_object os o es w = ap is_some (stood os o w.place w.at).index

pub walk_goes_on : (os : List Object) (o : Oop) (object : Option Oop) (b : ℕ) (es fs : List (ℕ × Oop)) → AreSoundObjects os → Walked os (Some o) es → b ≡ birth_at os o.0
    → fs ≡ insert_entry nat_cmp es b o → option_map (λ p. p.0) object ≡ next_of os o.0 → Walked os object fs
walk_goes_on os o object b es fs sound w birth is next =
    let s = stood os o w.place w.at in
    let here : b ≡ s.x.birth = birth ∙ ap (λ (p : Option Object). option_map_or (λ (y : Object). y.birth) p 0) s.object in
    let one : w.place + 1 ≡ suc w.place = omega arith in
    let more : take (w.place + 1) os ≡ take w.place os ++ s.x ∷ [] =
    ap (λ (n : ℕ). take n os) one ∙ take-suc os w.place s.x s.below ∙ ap (λ (y : Object). take w.place os ++ y ∷ []) (get_or_from_slice_get os w.place s.x s.x s.element) in
    let fresh : find nat_cmp s.x.birth (map (entry os) (take w.place os)) ≡ None =
    find_fresh os (take w.place os) s.x.birth (λ k y h e. let r = slice_get-take w.place os k y h in let same = sound.apart k w.place y s.x r.0 s.element e in omega (arith, r.1, same)) in
    record {
      place = w.place + 1;
      within = omega (arith, s.below);
      at = next ∙ next_of-address os o.0 w.place (sym w.at);
      done = ap (map (with_value (λ _. entry_at os))) is
          ∙ map-insert_entry (entry_at os) b o es
          ∙ ap₂ (λ (k : ℕ) (v : ℕ × Option Obj). put nat_cmp k v (map (with_value (λ _. entry_at os)) es)) here s.entry_is
          ∙ ap (put nat_cmp s.x.birth (s.x.birth, Some (obj_of (ref_of os) s.x))) w.done
          ∙ sym (entries-insert nat_cmp_total (from_entries {R = nat_cmp} (map (entry os) (take w.place os))) s.x.birth (s.x.birth, Some (obj_of (ref_of os) s.x)))
          ∙ sym (ap entries (from_entries_push nat_cmp_total nat_cmp-IsAntisymmetric (map (entry os) (take w.place os)) s.x.birth (s.x.birth, Some (obj_of (ref_of os) s.x)) fresh))
          ∙ sym (ap (λ (xs : List Object). entries (from_entries {R = nat_cmp} (map (entry os) xs))) more ∙ ap (λ ys. entries (from_entries {R = nat_cmp} ys)) (map-append (entry os) (take w.place os) (s.x ∷ [])));
    }

-- how many objects the walk has yet to enter
abbrev pub left : List Object → Option Oop → ℕ
left os None = 0
left os (Some o) = length os - unwrap_or (object_place os o.0) 0

pub walk_falls : (os : List Object) (o : Oop) (object : Option Oop) (es : List (ℕ × Oop)) → Walked os (Some o) es → option_map (λ p. p.0) object ≡ next_of os o.0
    → left os object < left os (Some o)
walk_falls os o object es w next = go object (next ∙ next_of-address os o.0 w.place (sym w.at))
  where
    s : Stood os o w.place
    s = stood os o w.place w.at

    here : left os (Some o) ≡ length os - w.place
    here = ap (λ (i : Option ℕ). length os - unwrap_or i 0) s.index

    go : (p : Option Oop) → option_map (λ q. q.0) p ≡ address_of os (w.place + 1) → left os p < left os (Some o)
    go None e = omega (arith, here, s.below)
    go (Some q) e =
        let t = stood os q (w.place + 1) e in
        let there : left os (Some q) ≡ length os - (w.place + 1) = ap (λ (i : Option ℕ). length os - unwrap_or i 0) t.index in
        omega (arith, here, there, t.below)

pub walk_falls_from : (os : List Object) (o : Oop) (before object : Option Oop) (es : List (ℕ × Oop)) → before ≡ Some o → Walked os before es → option_map (λ p. p.0) object ≡ next_of os o.0
    → left os object < left os before
walk_falls_from os o before object es is w next =
    subst (λ p. left os object < left os p) (sym is) (walk_falls os o object es (subst (λ p. Walked os p es) is w) next)

-- ---- the end

abbrev value : ℕ × (ℕ × Option Obj) → ℕ × Option Obj
value e = e.1

abbrev doubles : ℕ → Obj → ℕ × Option Obj
doubles b o = (b, Some o)

abbrev some_value : ℕ × Obj → ℕ × Option Obj
some_value e = (e.0, Some e.1)

pub walk_ends : (os : List Object) (es : List (ℕ × Oop)) → Walked os None es → IsInOrder os (map (λ e. e.1) es)
unfolding objects_of
walk_ends os es w =
    let past : length os ≤ w.place = all_passed (nat_lt w.place (length os)) refl in
    let whole : take w.place os ≡ os = take_all w.place os past in
    let doubled : map (entry os) os ≡ map (with_value doubles) (map (λ (x : Object). (x.birth, obj_of (ref_of os) x)) os) = double os in
    values es
    ∙ ap (map value) (w.done ∙ ap (λ xs. entries (from_entries {R = nat_cmp} (map (entry os) xs))) whole
    ∙ ap (λ ys. entries (from_entries {R = nat_cmp} ys)) doubled
    ∙ sym (map-from_entries doubles (map (λ (x : Object). (x.birth, obj_of (ref_of os) x)) os)))
    ∙ seconds (entries (objects_of os))
  where
    all_passed : (b : Bool) → nat_lt w.place (length os) ≡ b → length os ≤ w.place
    all_passed true e = absurd (none (address_of os w.place) (sym w.at) (address_of-below os w.place (ltb-true w.place (length os) e)))
      where
        none : (p : Option ℕ) → p ≡ None → is_some p ≡ true → ⊥
        none p e s = false≢true (sym (ap is_some e) ∙ s)
    all_passed false e = ltb-false w.place (length os) e

    double : (xs : List Object) → map (entry os) xs ≡ map (with_value doubles) (map (λ (x : Object). (x.birth, obj_of (ref_of os) x)) xs)
    double [] = refl
    double (x ∷ xs) = ap (λ rest. entry os x ∷ rest) (double xs)

    values : (fs : List (ℕ × Oop)) → map (entry_at os) (map (λ e. e.1) fs) ≡ map value (map (with_value (λ _. entry_at os)) fs)
    values [] = refl
    values (f ∷ fs) = ap (λ rest. entry_at os f.1 ∷ rest) (values fs)

    seconds : (fs : List (ℕ × Obj)) → map value (map (with_value doubles) fs) ≡ map some_value fs
    seconds [] = refl
    seconds (f ∷ fs) = ap (λ rest. some_value f ∷ rest) (seconds fs)
