-- The kept parts that a heap, its class table and its roots stand for, when an object changes or comes, and when a class
-- enters the table.
use Rattle.std.proofs.Common.{◌≡◌, ℕ, zero, suc, ◌+◌, ◌<◌, Bool, true, false, cond, List, [], ◌∷◌, ◌++◌, length, map, take, drop, Option, Some, None, option_map, is_some, refl, ap, ap₂, subst, sym, ◌∙◌, arith, get_or, ◌⊎◌, inl, inr}
use Rattle.std.specs.Prelude.{slice_get, slice_index, ◌≢◌, ◌==◌, ◌&&◌, nat_le, IsTrue}
use Rattle.std.specs.Option.{option_map_or}
use Rattle.std.specs.Ordering.{nat_cmp, eq_by_cmp}
use Rattle.std.specs.Cmp.{nat_cmp_total}
use Rattle.std.specs.FinMap.{FinMap, entries, find, get, get-entries, get-from_entries, get-insert, insert, nat_cmp-IsAntisymmetric, same_map}
use Rattle.std.specs.List.{AllByRecursion, AllPass}
use Rattle.cs_word.specs.declared.Kind.{Kind}
use Rattle.cs_word.specs.declared.Kind.TheVariants as kind
use Rattle.cs_word.specs.Word.{kind_of}
use Rattle.std.proofs.lemmas.Bool.{cases_eq, false≢true}
use Rattle.std.proofs.lemmas.Bool.Decides.{nat_tests}
use Rattle.std.proofs.lemmas.List.{length-append}
use Rattle.cs_heap.specs.Object.{Object, at_index, birth_at, is_object, heap_object, with_object}
use Rattle.std.proofs.lemmas.List.Elements.{All-take}
use Rattle.cs_heap.proofs.Laws.{field_of-old, is_object-old, is_object-with_object, length-with_object, object_at-old, object_at-with_object_other, object_at-with_object_same}
use Rattle.cs_model.specs.Ref as ref
use Rattle.cs_model.specs.Obj.{Obj}
use Rattle.cs_model.specs.Keeps.{Keeps}
use Rattle.cs_model.specs.State.{IsHeld, is_class_index, Kept, NamesHeld, RestHeld, put, with_rest}
use Rattle.cs_model.specs.Operation.{add_of, edit_found, edit_object}
use Rattle.cs_model.specs.Instance.{with_class, with_last_hash}
use Rattle.cs_classes.specs.declared.Roots.{Roots}
use Rattle.cs_classes.specs.Meaning.{nth_birth, classes_of, context_of, depth_in, kept_of, literal_words, obj_of, objects_of, ref_of, ref_of_kind}
use Rattle.cs_classes.specs.Sound.{AreSoundObjects, IsSoundClass, IsSoundObject, IsWhole, is_reference}
use Rattle.cs_classes.proofs.Heaps.{object_there, element_within, IsEdit, birth_at-with_object, birth_of-object_at, birth_of-push, birth_of-with_object, is_object-object_at, slice_get-at_index_other, slice_get-at_index_same, slice_get-push, stands, with_object-stands}
use Rattle.cs_classes.proofs.Objects.{IsFresh, get-objects_of, get-objects_of-element, objects_of-comes, objects_of-push, objects_of-with_object}
use Rattle.cs_classes.proofs.Refs.{format_of-with_object, is_placed, is_placed_kind, nil_of-push, nil_of-with_object, placed-reference, placed-sender, ref_of-push, ref_of-push_placed, slot_count_of-with_object}
use Rattle.cs_classes.proofs.Sorts.{AContext, AMethod, Bytes, Pointers, Sort, obj_of-alike, obj_of-bytes, obj_of-context, obj_of-method, obj_of-pointers, references-method, references-pointers, sort_of}
use Rattle.cs_classes.proofs.Tables.{ties_other, ties_same}
use Rattle.cs_classes.proofs.Sounds.{sound-push, sound-with_object, whole_context}

-- ---- the class table

find-map_values : (g : ℕ → ℕ) (q : ℕ) (es : List (ℕ × ℕ)) → find nat_cmp q (map (λ e. (e.0, g e.1)) es) ≡ option_map g (find nat_cmp q es)
find-map_values g q [] = refl
find-map_values g q (e ∷ es) = go (eq_by_cmp nat_cmp q e.0) (find-map_values g q es)
  where
    go : (b : Bool) → find nat_cmp q (map (λ (d : ℕ × ℕ). (d.0, g d.1)) es) ≡ option_map g (find nat_cmp q es)
        → cond b (Some (g e.1)) (find nat_cmp q (map (λ (d : ℕ × ℕ). (d.0, g d.1)) es)) ≡ option_map g (cond b (Some e.1) (find nat_cmp q es))
    go true h = refl
    go false h = h

pub get-classes_of : (os : List Object) (table : FinMap nat_cmp ℕ) (q : ℕ) → get (classes_of os table) q ≡ option_map (birth_at os) (get table q)
unfolding classes_of
get-classes_of os table q =
    get-from_entries nat_cmp_total (map (λ (e : ℕ × ℕ). (e.0, birth_at os e.1)) (entries table)) q
    ∙ find-map_values (birth_at os) q (entries table) ∙ ap (option_map (birth_at os)) (sym (get-entries table q))

-- a class enters the table
pub classes_of-insert : (os : List Object) (table : FinMap nat_cmp ℕ) (index a : ℕ) → classes_of os (insert table index a) ≡ insert (classes_of os table) index (birth_at os a)
classes_of-insert os table index a = same_map nat_cmp_total nat_cmp-IsAntisymmetric _ _ alike
  where
    moved : (b : Bool) (o : Option ℕ) → option_map (birth_at os) (cond b (Some a) o) ≡ cond b (Some (birth_at os a)) (option_map (birth_at os) o)
    moved true o = refl
    moved false o = refl

    alike : (q : ℕ) → get {R = nat_cmp} (classes_of os (insert table index a)) q ≡ get {R = nat_cmp} (insert (classes_of os table) index (birth_at os a)) q
    alike q =
        get-classes_of os (insert table index a) q ∙ ap (option_map (birth_at os)) (get-insert nat_cmp_total table index a q)
        ∙ moved (eq_by_cmp nat_cmp q index) (get table q) ∙ ap (cond (eq_by_cmp nat_cmp q index) (Some (birth_at os a))) (sym (get-classes_of os table q))
        ∙ sym (get-insert nat_cmp_total (classes_of os table) index (birth_at os a) q)

classes_of-alike : (os us : List Object) (table : FinMap nat_cmp ℕ) → ((index a : ℕ) → get table index ≡ Some a → birth_at us a ≡ birth_at os a) → classes_of us table ≡ classes_of os table
classes_of-alike os us table same = same_map nat_cmp_total nat_cmp-IsAntisymmetric _ _ alike
  where
    go : (q : ℕ) (o : Option ℕ) → get table q ≡ o → option_map (birth_at us) o ≡ option_map (birth_at os) o
    go q None e = refl
    go q (Some a) e = ap Some (same q a e)

    alike : (q : ℕ) → get {R = nat_cmp} (classes_of us table) q ≡ get {R = nat_cmp} (classes_of os table) q
    alike q = get-classes_of us table q ∙ go q (get table q) refl ∙ sym (get-classes_of os table q)

pub kept_of-set_entry : (os : List Object) (table : FinMap nat_cmp ℕ) (roots : Roots) (active : Option ℕ) (index a : ℕ)
    → kept_of os (insert table index a) roots active ≡ with_rest (with_class index (birth_at os a) (kept_of os table roots active).rest) (kept_of os table roots active)
kept_of-set_entry os table roots active index a = ap (λ (classes : FinMap nat_cmp ℕ). with_rest (record (kept_of os table roots active).rest { classes = classes }) (kept_of os table roots active)) (classes_of-insert os table index a)

-- A class may take this index: it is none of the reserved ones, which are at most 16, and the class has it as its hash.
pub record CanTake (os : List Object) (index a : ℕ) : Type 0 where
  pub within : index < 16384
  pub free : 16 < index
  pub there : is_object os a ≡ true
  pub class : (x : Object) → heap_object os a ≡ Some x → IsSoundClass index x

pub whole-set_entry : (os : List Object) (table : FinMap nat_cmp ℕ) (roots : Roots) (index a : ℕ) → IsWhole os table roots → CanTake os index a → IsWhole os (insert table index a) roots
whole-set_entry os table roots index a w can = record {
  heap = w.heap;
  first = w.first;
  nil = w.nil;
  singles = w.singles;
  births = w.births;
  indices = λ k x e. entered (eq_by_cmp nat_cmp x.class index) (get table x.class) (get-insert nat_cmp_total table index a x.class) (w.indices k x e);
  classes = λ i b e. there i b (entry_cases i b e);
  entries = record {
    within = λ i b e. within i b (entry_cases i b e);
    zero = other 0 (λ e. omega (arith, e, can.free)) ∙ w.entries.zero;
    hidden = other 16 (λ e. omega (arith, e, can.free)) ∙ w.entries.hidden;
    integers = ap is_some (other 1 (λ e. omega (arith, e, can.free))) ∙ w.entries.integers;
    characters = ap is_some (other 2 (λ e. omega (arith, e, can.free))) ∙ w.entries.characters;
    contexts = entered (eq_by_cmp nat_cmp 36 index) (get table 36) (get-insert nat_cmp_total table index a 36) w.entries.contexts;
    closures = entered (eq_by_cmp nat_cmp 37 index) (get table 37) (get-insert nat_cmp_total table index a 37) w.entries.closures;
    second = other 3 (λ e. omega (arith, e, can.free)) ∙ w.entries.second ∙ sym (other 1 (λ e. omega (arith, e, can.free)));
    class = λ i b x e three h. class i b x three h (entry_cases i b e);
  };
  special = w.special;
  array = w.array;
  last_hash = w.last_hash;
  header = w.header;
}
  where
    other : (q : ℕ) → (q ≡ index → ⊥) → get (insert table index a) q ≡ get table q
    other q apart = get-insert nat_cmp_total table index a q ∙ ap (λ b. cond b (Some a) (get table q)) (ties_other q index apart)

    same : get (insert table index a) index ≡ Some a
    same = get-insert nat_cmp_total table index a index ∙ ap (λ b. cond b (Some a) (get table index)) (ties_same index)

    -- an entry is the new one, or was there
    entry_cases : (i b : ℕ) → get (insert table index a) i ≡ Some b → ((i ≡ index) × (a ≡ b)) ⊎ (get table i ≡ Some b)
    entry_cases i b e = go (cases_eq i index)
      where
        go : (i ≡ index) ⊎ (i ≡ index → ⊥) → ((i ≡ index) × (a ≡ b)) ⊎ (get table i ≡ Some b)
        go (inl is) = let found : Some a ≡ Some b = sym same ∙ ap (get (insert table index a)) (sym is) ∙ e in inl (is, cc)
        go (inr apart) = inr (sym (other i apart) ∙ e)

    within : (i b : ℕ) → ((i ≡ index) × (a ≡ b)) ⊎ (get table i ≡ Some b) → i < 16384
    within i b (inl h) = omega (arith, h.0, can.within)
    within i b (inr h) = w.entries.within i b h

    class : (i b : ℕ) (x : Object) → (i ≢ 3) → heap_object os b ≡ Some x → ((i ≡ index) × (a ≡ b)) ⊎ (get table i ≡ Some b) → IsSoundClass i x
    class i b x three h (inl e) = subst (λ n. IsSoundClass n x) (sym e.0) (can.class x (ap (heap_object os) e.1 ∙ h))
    class i b x three h (inr e) = w.entries.class i b x e three h

    entered : (b : Bool) (o : Option ℕ) {p : Option ℕ} → p ≡ cond b (Some a) o → is_some o ≡ true → is_some p ≡ true
    entered true o e s = ap is_some e
    entered false o e s = ap is_some e ∙ s

    there : (i b : ℕ) → ((i ≡ index) × (a ≡ b)) ⊎ (get table i ≡ Some b) → is_object os b ≡ true
    there i b (inl e) = ap (is_object os) (sym e.1) ∙ can.there
    there i b (inr e) = w.classes i b e

-- an object without a hash is in no entry
pub no_entry : (os : List Object) (table : FinMap nat_cmp ℕ) (roots : Roots) (a : ℕ) (x : Object) → IsWhole os table roots → heap_object os a ≡ Some x → x.hash ≡ 0
    → (index : ℕ) → get table index ≡ Some a → ⊥
no_entry os table roots a x w there none index e = go (cases_eq index 3)
  where
    at : (i : ℕ) → i ≢ 3 → get table i ≡ Some a → ⊥
    at i three found =
        let zero : 0 ≡ i = sym none ∙ (w.entries.class i a x found three there).hash in
        let entry : get table 0 ≡ Some a = ap (get table) zero ∙ found in
        let nothing = w.entries.zero in
        absurd (cc)

    go : (index ≡ 3) ⊎ (index ≡ 3 → ⊥) → ⊥
    go (inl is) = at 1 (λ (same : 1 ≡ 3). omega (arith, same)) (sym w.entries.second ∙ ap (get table) (sym is) ∙ e)
    go (inr three) = at index three e

-- an index that has a class, and isn't that of an immediate, is one that an object may have
pub kind_of-entry : (os : List Object) (table : FinMap nat_cmp ℕ) (roots : Roots) (class : ℕ) → IsWhole os table roots → is_some (get table class) ≡ true
    → class ≢ 1 → class ≢ 2 → class ≢ 3 → is_class_index class ≡ true
kind_of-entry os table roots class w entry one two three =
    let zero = λ (e : class ≡ 0). false≢true (sym (ap is_some w.entries.zero) ∙ ap (λ n. is_some (get table n)) (sym e) ∙ entry) in
    let hidden = λ (e : class ≡ 16). false≢true (sym (ap is_some w.entries.hidden) ∙ ap (λ n. is_some (get table n)) (sym e) ∙ entry) in
    shape class zero one two three hidden
  where
    shape : (n : ℕ) → n ≢ 0 → n ≢ 1 → n ≢ 2 → n ≢ 3 → n ≢ 16 → is_class_index n ≡ true
    shape n a b c d e = grind (arith, nat_tests)

-- ---- one object changes

pub kept_of-with_object : (os : List Object) (table : FinMap nat_cmp ℕ) (roots : Roots) (active : Option ℕ) (a : ℕ) (x : Object) (f : Object → Object) (g : Obj → Obj)
    → IsEdit f → AreSoundObjects os → heap_object os a ≡ Some x → obj_of (ref_of os) (f x) ≡ g (obj_of (ref_of os) x)
    → kept_of (with_object os a f) table roots active ≡ edit_object (kept_of os table roots active) (ref.Obj (birth_at os a)) g
unfolding put
kept_of-with_object os table roots active a x f g edit sound there means =
    let k : Kept = kept_of os table roots active in
    let birth : birth_at os a ≡ x.birth = birth_of-object_at os a x there in
    let found : get (objects_of os) (birth_at os a) ≡ Some (obj_of (ref_of os) x) = get-objects_of os a sound (is_object-object_at os a x there) ∙ ap (option_map (obj_of (ref_of os))) there in
    let objects : objects_of (with_object os a f) ≡ insert (objects_of os) (birth_at os a) (g (obj_of (ref_of os) x)) =
    objects_of-with_object os a x f edit sound.apart there ∙ ap₂ (insert (objects_of os)) (sym birth) means in
    let classes = classes_of-alike os (with_object os a f) table (λ index b e. birth_of-with_object os a b f edit) in
    let changed : kept_of (with_object os a f) table roots active ≡ put k (birth_at os a) (g (obj_of (ref_of os) x)) = λ i. record {
      objects = objects i;
      rest = record {
        nil = birth_at-with_object os a 0 f edit i;
        false_ = birth_at-with_object os a 1 f edit i;
        true_ = birth_at-with_object os a 2 f edit i;
        special = birth_of-with_object os a roots.special.0 f edit i;
        header = k.rest.header;
        classes = classes i;
        last_hash = roots.last_hash;
        next = roots.next_birth;
        active = active;
      };
    } in
    changed ∙ sym (ap (λ (o : Option Obj). edit_found g (birth_at os a) o k) found)

-- what an object was before one was edited
pub record Before (os : List Object) (j : ℕ) (y : Object) : Type 0 where
  pub object : Object
  pub element : slice_get os j ≡ Some object
  pub birth : object.birth ≡ y.birth
  pub class : object.class ≡ y.class
  pub format : object.format ≡ y.format

-- a hash of an object: where that is a class of the table, it is its index
abbrev pub HashFits : FinMap nat_cmp ℕ → ℕ → ℕ → Type 0
HashFits table a hash = (index : ℕ) → get table index ≡ Some a → index ≢ 3 → hash ≡ index

pub whole-with_hash : (os : List Object) (table : FinMap nat_cmp ℕ) (roots : Roots) (a : ℕ) (x : Object) (f : Object → Object)
    → IsEdit f → HashFits table a (f x).hash → IsWhole os table roots → heap_object os a ≡ Some x → IsSoundObject os (f x) → IsWhole (with_object os a f) table roots
whole-with_hash os table roots a x f edit hash w there new =
    let s = stands os a x there in
    let list = with_object-stands os a x s.0 f s.1 in
    record {
      heap = sound-with_object os a x f edit w.heap there new;
      first = omega (arith, w.first, length-with_object os a f);
      nil = nil_of-with_object os a f edit ∙ w.nil;
      singles = λ k y h l. let z = before s.0 k y (subst (λ (ys : List Object). slice_get ys k ≡ Some y) list h) in sym z.format ∙ w.singles k z.object z.element l;
      births = λ k y h. let z = before s.0 k y (subst (λ (ys : List Object). slice_get ys k ≡ Some y) list h) in
          subst (λ (n : ℕ). n < roots.next_birth) z.birth (w.births k z.object z.element);
      indices = λ k y h. let z = before s.0 k y (subst (λ (ys : List Object). slice_get ys k ≡ Some y) list h) in
          subst (λ (n : ℕ). is_some (get table n) ≡ true) z.class (w.indices k z.object z.element);
      classes = λ i b e. is_object-with_object os a b f edit.slots ∙ w.classes i b e;
      entries = record {
        within = w.entries.within;
        zero = w.entries.zero;
        hidden = w.entries.hidden;
        integers = w.entries.integers;
        characters = w.entries.characters;
        contexts = w.entries.contexts;
        closures = w.entries.closures;
        second = w.entries.second;
        class = class;
      };
      special = is_object-with_object os a roots.special.0 f edit.slots ∙ w.special;
      array = record {
        format = format_of-with_object os a roots.special.0 f edit ∙ w.array.format;
        slots = omega (arith, w.array.slots, slot_count_of-with_object os a roots.special.0 f edit);
      };
      last_hash = w.last_hash;
      header = w.header;
    }
  where
    before : (k j : ℕ) (y : Object) → slice_get (at_index k f os) j ≡ Some y → Before os j y
    before k j y h = go (cases_eq k j)
      where
        changed : (o : Option Object) → slice_get os j ≡ o → option_map f o ≡ Some y → Before os j y
        changed None e g = absurd (cc)
        changed (Some z) e g =
            let is : f z ≡ y = cc in
            record {
              object = z;
              element = e;
              birth = sym (edit.birth z) ∙ ap (λ (u : Object). u.birth) is;
              class = sym (edit.class z) ∙ ap (λ (u : Object). u.class) is;
              format = sym (edit.format z) ∙ ap (λ (u : Object). u.format) is;
            }

        go : (k ≡ j) ⊎ (k ≡ j → ⊥) → Before os j y
        go (inl e) = changed (slice_get os j) refl (sym (slice_get-at_index_same j f os) ∙ ap (λ (n : ℕ). slice_get (at_index n f os) j) (sym e) ∙ h)
        go (inr other) = record { object = y; element = sym (slice_get-at_index_other k j f os other) ∙ h; birth = refl; class = refl; format = refl }

    class : (index b : ℕ) (y : Object) → get table index ≡ Some b → index ≢ 3 → heap_object (with_object os a f) b ≡ Some y → IsSoundClass index y
    class index b y e three h = go (cases_eq a b)
      where
        go : (a ≡ b) ⊎ (a ≡ b → ⊥) → IsSoundClass index y
        go (inl is) =
            let entry : get table index ≡ Some a = e ∙ ap Some (sym is) in
            let found : option_map f (Some x) ≡ Some y = sym (object_at-with_object_same os a f edit.slots ∙ ap (option_map f) there) ∙ ap (heap_object (with_object os a f)) is ∙ h in
            let same : f x ≡ y = cc in
            let old = w.entries.class index a x entry three there in
            subst (IsSoundClass index) same (record {
              format = subst (λ (n : ℕ). IsTrue (nat_le 1 n && nat_le n 3)) (sym (edit.format x)) old.format;
              other = ap (λ (n : ℕ). n == 36) (edit.class x) ∙ old.other;
              slots = omega (arith, old.slots, edit.slots x);
              hash = hash index entry three;
            })
        go (inr apart) = w.entries.class index b y e three (sym (object_at-with_object_other os a b f edit.slots apart) ∙ h)

-- the same where its hash stays
pub whole-with_object : (os : List Object) (table : FinMap nat_cmp ℕ) (roots : Roots) (a : ℕ) (x : Object) (f : Object → Object)
    → IsEdit f → (f x).hash ≡ x.hash → IsWhole os table roots → heap_object os a ≡ Some x → IsSoundObject os (f x) → IsWhole (with_object os a f) table roots
whole-with_object os table roots a x f edit hash w there new =
    whole-with_hash os table roots a x f edit (λ index e three. hash ∙ (w.entries.class index a x e three there).hash) w there new

-- ---- one object comes

-- no object has the next birth
pub next_is_fresh : (os : List Object) (table : FinMap nat_cmp ℕ) (roots : Roots) → IsWhole os table roots → IsFresh os roots.next_birth
next_is_fresh os table roots w k x h e = omega (arith, w.births k x h, e)

-- what stands means what it meant
pub obj_of-push : (os : List Object) (y x : Object) → IsSoundObject os x → obj_of (ref_of (os ++ y ∷ [])) x ≡ obj_of (ref_of os) x
obj_of-push os y x s = obj_of-alike (is_reference os) (ref_of (os ++ y ∷ [])) (ref_of os) (ref_of-push os y) x s.references
    (λ c. let whole = whole_context os x s c in
    (whole.format, (whole.fields, ref_of-push_placed os y (slice_index x.words 0) (placed-sender os (slice_index x.words 0) whole.sender))))

births_push : (os : List Object) (y : Object) (k : ℕ) → k < length os → nth_birth (os ++ y ∷ []) k ≡ nth_birth os k
births_push [] y k h = absurd (omega (arith, h))
births_push (x ∷ os) y zero h = refl
births_push (x ∷ os) y (suc k) h = births_push os y k (omega (arith, h))

-- the roots when one more birth has been given
abbrev pub after_birth : Roots → Roots
after_birth roots = record roots { next_birth = roots.next_birth + 1 }

pub kept_of-push : (os : List Object) (table : FinMap nat_cmp ℕ) (roots : Roots) (active : Option ℕ) (y : Object) → IsWhole os table roots → y.birth ≡ roots.next_birth
    → kept_of (os ++ y ∷ []) table (after_birth roots) active ≡ add_of (kept_of os table roots active) (obj_of (ref_of (os ++ y ∷ [])) y)
unfolding put add_of
kept_of-push os table roots active y w next =
    let k : Kept = kept_of os table roots active in
    let new : Obj = obj_of (ref_of (os ++ y ∷ [])) y in
    let fresh : IsFresh os y.birth = λ j x h e. next_is_fresh os table roots w j x h (e ∙ next) in
    let objects : objects_of (os ++ y ∷ []) ≡ insert (objects_of os) roots.next_birth new =
    objects_of-push os y fresh (λ j x h. obj_of-push os y x (w.heap.each j x h)) ∙ ap (λ (b : ℕ). insert (objects_of os) b new) next in
    let classes = classes_of-alike os (os ++ y ∷ []) table (λ index b e. birth_of-push os y b (w.classes index b e)) in
    let nil = births_push os y 0 (omega (arith, w.first)) in
    let false_ = births_push os y 1 (omega (arith, w.first)) in
    let true_ = births_push os y 2 (omega (arith, w.first)) in
    let special = birth_of-push os y roots.special.0 w.special in
    λ i. record {
      objects = objects i;
      rest = record {
        nil = nil i;
        false_ = false_ i;
        true_ = true_ i;
        special = special i;
        header = k.rest.header;
        classes = classes i;
        last_hash = roots.last_hash;
        next = roots.next_birth + 1;
        active = active;
      };
    }

pub whole-push : (os : List Object) (table : FinMap nat_cmp ℕ) (roots : Roots) (y : Object) → IsWhole os table roots → y.birth ≡ roots.next_birth
    → is_some (get table y.class) ≡ true → IsSoundObject (os ++ y ∷ []) y → IsWhole (os ++ y ∷ []) table (after_birth roots)
whole-push os table roots y w next class new = record {
  heap = sound-push os y w.heap (λ j x h e. next_is_fresh os table roots w j x h (e ∙ next)) new;
  first = omega (arith, w.first, length-append os (y ∷ []));
  nil = nil_of-push os y (omega (arith, w.first)) ∙ w.nil;
  singles = λ k x h l. singles k x l (slice_get-push os y k x h);
  births = λ k x h. births k x (slice_get-push os y k x h);
  indices = λ k x h. indices k x (slice_get-push os y k x h);
  classes = λ i b e. is_object-old os y b (w.classes i b e);
  entries = record {
    within = w.entries.within;
    zero = w.entries.zero;
    hidden = w.entries.hidden;
    integers = w.entries.integers;
    characters = w.entries.characters;
    contexts = w.entries.contexts;
    closures = w.entries.closures;
    second = w.entries.second;
    class = λ index b x e three h. w.entries.class index b x e three (sym (object_at-old os y b (w.classes index b e)) ∙ h);
  };
  special = is_object-old os y roots.special.0 w.special;
  array = record {
    format = field_of-old (λ x. x.format) os y roots.special.0 w.special ∙ w.array.format;
    slots = omega (arith, w.array.slots, field_of-old (λ x. length x.words) os y roots.special.0 w.special);
  };
  last_hash = w.last_hash;
  header = w.header;
}
  where
    singles : (k : ℕ) (x : Object) → k < 3 → (slice_get os k ≡ Some x) ⊎ ((k ≡ length os) × (y ≡ x)) → x.format ≡ 0
    singles k x l (inl h) = w.singles k x h l
    singles k x l (inr h) = absurd (omega (arith, l, h.0, w.first))

    births : (k : ℕ) (x : Object) → (slice_get os k ≡ Some x) ⊎ ((k ≡ length os) × (y ≡ x)) → x.birth < roots.next_birth + 1
    births k x (inl h) = omega (arith, w.births k x h)
    births k x (inr h) = omega (arith, next, ap (λ (z : Object). z.birth) h.1)

    indices : (k : ℕ) (x : Object) → (slice_get os k ≡ Some x) ⊎ ((k ≡ length os) × (y ≡ x)) → is_some (get table x.class) ≡ true
    indices k x (inl h) = w.indices k x h
    indices k x (inr h) = subst (λ (z : Object). is_some (get table z.class) ≡ true) h.1 class

-- ---- what the kept parts name is there

ref_of-held_placed : (os : List Object) (table : FinMap nat_cmp ℕ) (roots : Roots) (active : Option ℕ) (w : ℕ) → AreSoundObjects os → is_placed os w ≡ true → IsHeld (kept_of os table roots active) (ref_of os w)
unfolding ref_of is_placed
ref_of-held_placed os table roots active w sound h = at (kind_of w) h
  where
    at : (k : Kind) → is_placed_kind os k ≡ true → IsHeld (kept_of os table roots active) (ref_of_kind os k)
    at (kind.Small z) h = tt
    at (kind.Character c) h = tt
    at (kind.Object a) h =
        let x = object_there os a h in
        ap is_some (get-objects_of os a sound h ∙ ap (option_map (obj_of (ref_of os))) x.1)
    at (kind.Link b) h = tt

pub ref_of-held : (os : List Object) (table : FinMap nat_cmp ℕ) (roots : Roots) (active : Option ℕ) (w : ℕ) → AreSoundObjects os → is_reference os w ≡ true → IsHeld (kept_of os table roots active) (ref_of os w)
ref_of-held os table roots active w sound h = ref_of-held_placed os table roots active w sound (placed-reference os w h)

all_held : (os : List Object) (table : FinMap nat_cmp ℕ) (roots : Roots) (active : Option ℕ) → AreSoundObjects os → (ws : List ℕ) → AllPass (is_reference os) ws
    → AllByRecursion (IsHeld (kept_of os table roots active)) (map (ref_of os) ws)
all_held os table roots active sound [] all = tt
all_held os table roots active sound (w ∷ ws) all =
    (ref_of-held os table roots active w sound (all 0 0 (omega arith)), all_held os table roots active sound ws (λ k d l. all (suc k) d (omega (arith, l))))

pub obj_of-held : (os : List Object) (table : FinMap nat_cmp ℕ) (roots : Roots) (active : Option ℕ) (x : Object) → AreSoundObjects os → IsSoundObject os x → NamesHeld (kept_of os table roots active) (obj_of (ref_of os) x)
unfolding context_of
obj_of-held os table roots active x sound s = go (sort_of x)
  where
    held : Obj → Type 0
    held = NamesHeld (kept_of os table roots active)

    go : Sort x → NamesHeld (kept_of os table roots active) (obj_of (ref_of os) x)
    go (AContext c) =
        let whole = whole_context os x s c in
        let word : (i : ℕ) → 0 < i → i < 6 → IsHeld (kept_of os table roots active) (ref_of os (get_or x.words i 0)) =
        λ i some l. ref_of-held os table roots active (get_or x.words i 0) sound (whole.references i some (omega (arith, l, whole.fields))) in
        subst held (sym (obj_of-context (ref_of os) x c)) (record {
          sender = ref_of-held_placed os table roots active (slice_index x.words 0) sound (placed-sender os (slice_index x.words 0) whole.sender);
          method = word 3 (omega arith) (omega arith);
          closure = word 4 (omega arith) (omega arith);
          receiver = word 5 (omega arith) (omega arith);
          stack = all_held os table roots active sound (take (depth_in x.words) (drop 6 x.words)) (All-take (λ (v : ℕ). is_reference os v ≡ true) (depth_in x.words) (drop 6 x.words) whole.stack);
        })
    go (Pointers o p) = subst held (sym (obj_of-pointers (ref_of os) x o p))
        (all_held os table roots active sound x.words (subst (AllPass (is_reference os)) (references-pointers x o p) s.references))
    go (AMethod o p m) = subst held (sym (obj_of-method (ref_of os) x o p m))
        (all_held os table roots active sound (literal_words x.words) (subst (AllPass (is_reference os)) (references-method x m) s.references))
    go (Bytes o p m) = subst held (sym (obj_of-bytes (ref_of os) x o p m)) tt

-- all that an object names is there
pub kept_of-closed : (os : List Object) (table : FinMap nat_cmp ℕ) (roots : Roots) (active : Option ℕ) (i : ℕ) (o : Obj) → AreSoundObjects os → get (objects_of os) i ≡ Some o → NamesHeld (kept_of os table roots active) o
kept_of-closed os table roots active i o sound h =
    let from = objects_of-comes os i o sound.apart h in
    subst (NamesHeld (kept_of os table roots active)) from.meaning (obj_of-held os table roots active from.object sound (sound.each from.place from.object from.element))

birth_at-held : (os : List Object) (table : FinMap nat_cmp ℕ) (roots : Roots) (active : Option ℕ) (k : ℕ) → AreSoundObjects os → k < length os → IsHeld (kept_of os table roots active) (ref.Obj (nth_birth os k))
birth_at-held os table roots active k sound l =
    let x = element_within os k l in
    ap is_some (ap (λ (o : Option Object). get (objects_of os) (option_map_or (λ (y : Object). y.birth) o 0)) x.1 ∙ get-objects_of-element os k x.0 sound.apart x.1)

pub kept_of-roots : (os : List Object) (table : FinMap nat_cmp ℕ) (roots : Roots) (active : Option ℕ) → IsWhole os table roots
    → ((i : ℕ) → active ≡ Some i → IsHeld (kept_of os table roots active) (ref.Obj i)) → RestHeld (kept_of os table roots active)
kept_of-roots os table roots active w running = record {
  nil = birth_at-held os table roots active 0 w.heap (omega (arith, w.first));
  false_ = birth_at-held os table roots active 1 w.heap (omega (arith, w.first));
  true_ = birth_at-held os table roots active 2 w.heap (omega (arith, w.first));
  special = object_held roots.special.0 w.special;
  classes = λ index i e. class_held index i (get table index) refl (sym (get-classes_of os table index) ∙ e);
  active = running;
}
  where
    object_held : (a : ℕ) → is_object os a ≡ true → IsHeld (kept_of os table roots active) (ref.Obj (birth_at os a))
    object_held a h = let x = object_there os a h in ap is_some (get-objects_of os a w.heap h ∙ ap (option_map (obj_of (ref_of os))) x.1)

    class_held : (index i : ℕ) (o : Option ℕ) → get table index ≡ o → option_map (birth_at os) o ≡ Some i → IsHeld (kept_of os table roots active) (ref.Obj i)
    class_held index i None e h = absurd (cc)
    class_held index i (Some a) e h = let is : birth_at os a ≡ i = cc in subst (λ (n : ℕ). IsHeld (kept_of os table roots active) (ref.Obj n)) is (object_held a (w.classes index a e))

-- what is there is below the next birth
pub kept_of-below : (os : List Object) (table : FinMap nat_cmp ℕ) (roots : Roots) (i : ℕ) (o : Obj) → IsWhole os table roots → get (objects_of os) i ≡ Some o → i < roots.next_birth
kept_of-below os table roots i o w h =
    let from = objects_of-comes os i o w.heap.apart h in
    subst (λ (b : ℕ). b < roots.next_birth) from.birth (w.births from.place from.object from.element)

-- ---- another hash is the last one that was given

pub whole-last_hash : (os : List Object) (table : FinMap nat_cmp ℕ) (roots : Roots) (hash : ℕ) → hash < 4194304 → IsWhole os table roots → IsWhole os table (record roots { last_hash = hash })
whole-last_hash os table roots hash fits w = record {
  heap = w.heap;
  first = w.first;
  nil = w.nil;
  singles = w.singles;
  births = w.births;
  indices = w.indices;
  classes = w.classes;
  entries = w.entries;
  special = w.special;
  array = record { format = w.array.format; slots = w.array.slots };
  last_hash = fits;
  header = w.header;
}

pub kept_of-last_hash : (os : List Object) (table : FinMap nat_cmp ℕ) (roots : Roots) (active : Option ℕ) (hash : ℕ)
    → kept_of os table (record roots { last_hash = hash }) active ≡ with_rest (with_last_hash hash (kept_of os table roots active).rest) (kept_of os table roots active)
kept_of-last_hash os table roots active hash = refl

-- so the kept parts keep themselves
pub kept_of-keeps : (os : List Object) (table : FinMap nat_cmp ℕ) (roots : Roots) (active : Option ℕ) → IsWhole os table roots
    → ((i : ℕ) → active ≡ Some i → IsHeld (kept_of os table roots active) (ref.Obj i)) → Keeps (kept_of os table roots active) (kept_of os table roots active)
kept_of-keeps os table roots active w running = record {
  same = λ i o h. h;
  whole = λ i o h e. h;
  closed = λ i o h. kept_of-closed os table roots active i o w.heap h;
  roots = kept_of-roots os table roots active w running;
  rest = refl;
}
