-- The file of a formed image has no fault, and describes the state of its objects.
use Rattle.std.proofs.Common.{◌≡◌, ◌≢◌, ℕ, zero, suc, ◌/◌, ◌<◌, ◌≤◌, ◌==◌, ◌&&◌, not, Bool, true, false, cond, leb, inl, inr, List, [], ◌∷◌, ◌++◌, length, map, take, drop, replicate, Option, Some, None, refl, ap, ap₂, sym, subst, ◌∙◌, arith, rules, slice_get, slice_index, option_map}
use Rattle.std.proofs.lemmas.Option.{slice_get-map}
use Rattle.std.proofs.lemmas.Bool.Decides.{nat_tests, eqb_tells}
use Rattle.std.specs.Prelude.{Ok}
use Rattle.std.specs.List.{AllByRecursion, enumerate_from}
use Rattle.std.specs.Ordering.{nat_cmp}
use Rattle.std.specs.Cmp.{nat_cmp_total}
use Rattle.std.specs.FinMap.{FinMap, from_entries, get, get-empty, gets, insert, nat_cmp-IsAntisymmetric, same_map}
use Rattle.cs_model.specs.State.{Kept}
use Rattle.cs_model.specs.Obj.{Obj, Ptr, Raw, Method, Ctx, context_class}
use Rattle.cs_model.specs.Builder.{header_bytes}
use Rattle.cs_model.specs.Image.{image_of}
use Rattle.cs_model.specs.ImageFile.{u32_at}
use Rattle.cs_model.specs.ImageFault.{is_bad_format, is_bad_header_size, is_bad_profile, is_body, table_size}
use Rattle.cs_model.specs.SavedFile.{SavedObject, SavedBirths, SavedFile, FitsFile, IsSeen, birth_words, page_place, saved_base, saved_bytes}
use Rattle.cs_model.specs.SoundFile.{IsReference, IsSavedContext, IsSoundFile, births_saved, next_by, saved_birth, saved_classes, saved_entry, saved_references, state_of_file}
use Rattle.cs_model.proofs.SavedDescribing.{image_there, state_there}
use Rattle.cs_build.specs.Laid.{Laid, FitsLaid, laid, laid_addresses, saved_by, file_for}
use Rattle.cs_build.specs.Stored.{IsStored}
use Rattle.cs_build.specs.Formed.{HasKind, HasRoom, IsFormed, IsFormedContext, IsFormedImage, IsTableOf, class_in, state_by}
use Rattle.cs_build.proofs.Putting.{length-map}
use Rattle.cs_build.proofs.Filing.{count_pages, objects_are, pages_are}
use Rattle.cs_build.proofs.Fitting.{file_fits}
use Rattle.cs_build.proofs.Describing.{kept_objects}
use Rattle.cs_build.proofs.Locating.{IsBare, birth_is, births_are, entry_is, index_range, zero_address}
use Rattle.cs_build.proofs.Forming.{body_formed, get_there, object_references}
use Rattle.cs_build.proofs.Seating.{context_formed, entry_filled, roots_formed, table_formed}

-- ---- lists

all_by : {A : Type 0} (P : A → Type 0) (xs : List A) → ((k : ℕ) (x : A) → slice_get xs k ≡ Some x → P x) → AllByRecursion P xs
all_by P [] h = tt
all_by P (x ∷ xs) h = (h 0 x refl, all_by P xs (λ k y e. h (suc k) y e))

all_get : {A : Type 0} (P : A → Type 0) (xs : List A) (k : ℕ) (x : A) → AllByRecursion P xs → slice_get xs k ≡ Some x → P x
all_get P [] k x all e = absurd (cc)
all_get P (y ∷ xs) zero x all e = let same : y ≡ x = cc in subst P same all.0
all_get P (y ∷ xs) (suc k) x all e = all_get P xs k x all.1 e

all_filed : (P : SavedObject → Type 0) (os : List Obj) (table : List ℕ) → ((k : ℕ) (o : Obj) → slice_get os k ≡ Some o → P (saved_by (laid_addresses (map laid os)) (laid o)))
    → AllByRecursion P (file_for (map laid os) table).objects
all_filed P os table h = subst (AllByRecursion P) (sym (objects_are (map laid os) table)) (go os (all_by (λ o. P (saved_by (laid_addresses (map laid os)) (laid o))) os h))
  where
    go : (xs : List Obj) → AllByRecursion (λ o. P (saved_by (laid_addresses (map laid os)) (laid o))) xs → AllByRecursion P (map (saved_by (laid_addresses (map laid os))) (map laid xs))
    go [] all = tt
    go (x ∷ xs) all = (all.0, go xs all.1)

first_filed : (P : SavedObject → Type 0) (os : List Obj) (table : List ℕ) → AllByRecursion (λ o. P (saved_by (laid_addresses (map laid os)) (laid o))) (take 3 os)
    → AllByRecursion P (take 3 (file_for (map laid os) table).objects)
first_filed P os table all = subst (λ (xs : List SavedObject). AllByRecursion P (take 3 xs)) (sym (objects_are (map laid os) table)) (go 3 os all)
  where
    go : (n : ℕ) (xs : List Obj) → AllByRecursion (λ o. P (saved_by (laid_addresses (map laid os)) (laid o))) (take n xs) → AllByRecursion P (take n (map (saved_by (laid_addresses (map laid os))) (map laid xs)))
    go zero xs all = tt
    go (suc n) [] all = tt
    go (suc n) (x ∷ xs) all = (all.0, go n xs all.1)

-- ---- parts of the file

record Parts (f : SavedFile) (ls : List Laid) : Type 0 where
  header : f.header ≡ header_bytes
  special : f.special ≡ slice_index (laid_addresses ls) 3
  last_hash : f.last_hash ≡ 0
  births : f.births ≡ None

parts : (ls : List Laid) (table : List ℕ) → Parts (file_for ls table) ls
unfolding file_for
parts ls table = record { header = refl; special = refl; last_hash = refl; births = refl }

good_format : is_bad_format header_bytes ≡ false
unfolding u32_at
good_format = refl

good_size : is_bad_header_size header_bytes ≡ false
unfolding u32_at
good_size = refl

good_profile : is_bad_profile header_bytes ≡ false
unfolding u32_at
good_profile = refl

bare : (os : List Obj) (table : List ℕ) → IsFormedImage os table → IsBare (map laid os)
bare os table f = let four = f.layout.four in (omega (arith, four), f.layout.first)

entries_inside : (os : List Obj) (table : List ℕ) → IsFormedImage os table → AllByRecursion (λ number. number < length (map laid os)) table
entries_inside os table f = f.layout.entries

laid_refs : (os : List Obj) (table : List ℕ) (k : ℕ) (o : Obj) → IsFormedImage os table → slice_get os k ≡ Some o → FitsLaid (length os) (laid o)
laid_refs os table k o f e = subst (λ (n : ℕ). FitsLaid n (laid o)) (length-map laid os)
    (all_get (FitsLaid (length (map laid os))) (map laid os) k (laid o) f.layout.objects (slice_get-map laid os k ∙ ap (option_map laid) e))

-- an object of the class of contexts is one
context_there : (os : List Obj) (table : List ℕ) (o : Obj) → IsFormedImage os table → IsStored (length os) o → IsFormedContext os o → (laid o).class ≡ context_class
    → IsSavedContext (file_for (map laid os) table) (saved_by (laid_addresses (map laid os)) (laid o))
context_there os table (Ptr head slots) f s c e = absurd (differs head.class s.other e)
  where
    differs : (n : ℕ) → (n == 36) ≡ false → n ≡ 36 → ⊥
    differs n h e = let no : n ≢ 36 = grind (arith, nat_tests, h) in no e
context_there os table (Raw head bytes) f s c e = absurd (differs head.class s.other e)
  where
    differs : (n : ℕ) → (n == 36) ≡ false → n ≡ 36 → ⊥
    differs n h e = let no : n ≢ 36 = grind (arith, nat_tests, h) in no e
context_there os table (Method head header literals bytes) f s c e =
    let class : head.class ≡ 43 = ap (λ h. h.class) s.is_head in
    absurd (omega (arith, e, class))
context_there os table (Ctx c) f s formed e = context_formed os table c (bare os table f) f.stored s formed

pub sound_file : (os : List Obj) (table : List ℕ) (limit : ℕ) → IsFormedImage os table → HasRoom os table limit → IsSoundFile (file_for (map laid os) table) limit
sound_file os table limit f room = record {
  fits = file_fits (map laid os) table f.layout;
  size = omega (arith, room.file, no_births, pages);
  number = ap is_bad_format p.header ∙ good_format;
  header_size = ap is_bad_header_size p.header ∙ good_size;
  profile = ap is_bad_profile p.header ∙ good_profile;
  room = room.heap;
  first = first_filed (λ o. o.format ≡ 0) os table f.first;
  bodies = all_filed (λ o. is_body o.format o.words ≡ true) os table (λ k o e. body_formed (laid_addresses (map laid os)) (length os) o (stored k o e) (all_get IsFormed os k o f.bodies e));
  kinds = all_filed (λ o. (4 ≤ o.class) × (saved_entry F o.class ≢ saved_base)) os table (λ k o e. let kind = all_get (HasKind table) os k o f.kinds e in
      (kind.large, entry_filled os table (laid o).class (bare os table f) f.layout.pages f.layout.entries kind.entry));
  references = all_filed (λ o. AllByRecursion (IsReference F) (saved_references o)) os table (λ k o e. object_references os table o (bare os table f) (stored k o e) (laid_refs os table k o f e).refs);
  contexts = all_filed (λ o. o.class ≡ context_class → IsSavedContext F o) os table (λ k o e. context_there os table o f (stored k o e) (all_get (IsFormedContext os) os k o f.contexts e));
  table = table_formed os table (bare os table f) f.layout.pages f.layout.entries f.entries;
  roots = roots_formed os table (bare os table f) f.stored f.roots p.special;
  births = λ b e. absurd (no_section b (sym p.births ∙ e));
}
  where
    F : SavedFile
    F = file_for (map laid os) table

    p : Parts (file_for (map laid os) table) (map laid os)
    p = parts (map laid os) table

    stored : (k : ℕ) (o : Obj) → slice_get os k ≡ Some o → IsStored (length os) o
    stored k o e = all_get (IsStored (length os)) os k o f.stored e

    no_births : length (birth_words (file_for (map laid os) table).births) ≡ 0
    no_births = ap (λ (b : Option SavedBirths). length (birth_words b)) p.births

    pages : page_place (file_for (map laid os) table).objects (length (file_for (map laid os) table).pages) ≡ page_place (file_for (map laid os) table).objects (length table / 1024)
    pages = ap (page_place (file_for (map laid os) table).objects) (ap length (pages_are (map laid os) table) ∙ count_pages (laid_addresses (map laid os)) table)

    no_section : (b : SavedBirths) → None ≡ Some b → ⊥
    no_section b e = cc

-- ---- the classes by birth

get_here : (m : FinMap nat_cmp ℕ) (i a : ℕ) → get (insert m i a) i ≡ Some a
get_here m i a = grind (gets, rules)

get_apart : (m : FinMap nat_cmp ℕ) (i j a : ℕ) → (j ≡ i → ⊥) → get (insert m i a) j ≡ get m j
get_apart m i j a apart = grind (gets, rules)

-- the class of an index in the file
abbrev class_by : SavedFile → ℕ → Option ℕ
class_by f q = cond (saved_entry f q == saved_base) None (Some (saved_birth f (saved_entry f q)))

get_above : (f : SavedFile) (n q : ℕ) → n ≤ q → get (saved_classes f n) q ≡ None
get_above f zero q h = get-empty nat_cmp q
get_above f (suc n) q h = go (saved_entry f n == saved_base) (get_above f n q (omega (arith, h)))
  where
    go : (b : Bool) → get (saved_classes f n) q ≡ None → get (cond b (saved_classes f n) (insert (saved_classes f n) n (saved_birth f (saved_entry f n)))) q ≡ None
    go true before = before
    go false before = get_apart (saved_classes f n) n q (saved_birth f (saved_entry f n)) (λ e. omega (arith, e, h)) ∙ before

get_below : (f : SavedFile) (n q : ℕ) → q < n → get (saved_classes f n) q ≡ class_by f q
get_below f zero q h = absurd (omega (arith, h))
get_below f (suc n) q h = elim (eqb_tells q n) [ inl e ↦ last e.1 | inr e ↦ earlier e.1 (saved_entry f n == saved_base) (get_below f n q (omega (arith, h, e.1))) ]
  where
    earlier : (q ≡ n → ⊥) → (b : Bool) → get (saved_classes f n) q ≡ class_by f q
        → get (cond b (saved_classes f n) (insert (saved_classes f n) n (saved_birth f (saved_entry f n)))) q ≡ class_by f q
    earlier apart true before = before
    earlier apart false before = get_apart (saved_classes f n) n q (saved_birth f (saved_entry f n)) apart ∙ before

    here : q ≡ n → (b : Bool) → (saved_entry f n == saved_base) ≡ b
        → get (cond b (saved_classes f n) (insert (saved_classes f n) n (saved_birth f (saved_entry f n)))) q
        ≡ cond b None (Some (saved_birth f (saved_entry f n)))
    here e true h = get_above f n q (omega (arith, e))
    here e false h = ap (get (insert (saved_classes f n) n (saved_birth f (saved_entry f n)))) e ∙ get_here (saved_classes f n) n (saved_birth f (saved_entry f n))

    last : q ≡ n → get (saved_classes f (suc n)) q ≡ class_by f q
    last e = here e (saved_entry f n == saved_base) refl ∙ ap (class_by f) (sym e)

index_past : (xs : List ℕ) (i : ℕ) → length xs ≤ i → slice_index xs i ≡ 0
index_past [] i h = refl
index_past (x ∷ xs) zero h = absurd (omega (arith, h))
index_past (x ∷ xs) (suc i) h = index_past xs i (omega (arith, h))

index_below : (n : ℕ) (xs : List ℕ) (i : ℕ) → 0 < n → AllByRecursion (λ number. number < n) xs → slice_index xs i < n
index_below n [] i h all = h
index_below n (x ∷ xs) zero h all = all.0
index_below n (x ∷ xs) (suc i) h all = index_below n xs i h all.1

class_is : (os : List Obj) (table : List ℕ) (q : ℕ) → IsFormedImage os table → class_by (file_for (map laid os) table) q ≡ class_in table q
class_is os table q f = go (slice_index table q == 0) refl
  where
    F : SavedFile
    F = file_for (map laid os) table

    entry : saved_entry (file_for (map laid os) table) q ≡ slice_index (laid_addresses (map laid os)) (slice_index table q)
    entry = entry_is (map laid os) table q (bare os table f) f.layout.pages

    small : slice_index table q < length os
    small = let four = f.layout.four in
        omega (arith, length-map laid os, index_below (length (map laid os)) table q (omega (arith, four)) f.layout.entries)

    yes : (a b : ℕ) → a ≡ b → (a == b) ≡ true
    yes a b e = grind (arith, nat_tests, e)

    no : (a b : ℕ) → a ≢ b → (a == b) ≡ false
    no a b e = grind (arith, nat_tests, e)

    told : (a b : ℕ) → (a == b) ≡ true → a ≡ b
    told a b e = grind (arith, nat_tests, e)

    apart : (a b : ℕ) → (a == b) ≡ false → a ≢ b
    apart a b e = grind (arith, nat_tests, e)

    go : (b : Bool) → (slice_index table q == 0) ≡ b → class_by (file_for (map laid os) table) q ≡ cond b None (Some (slice_index table q))
    go true e =
        let empty : (saved_entry (file_for (map laid os) table) q == saved_base) ≡ true =
        yes (saved_entry (file_for (map laid os) table) q) saved_base (entry ∙ ap (slice_index (laid_addresses (map laid os))) (told (slice_index table q) 0 e) ∙ zero_is) in
        ap (λ (b : Bool). cond b None (Some (saved_birth F (saved_entry F q)))) empty
      where
        zero_is : slice_index (laid_addresses (map laid os)) 0 ≡ saved_base
        zero_is = zero_address (map laid os) (bare os table f)
    go false e =
        let o = get_there os (slice_index table q) small in
        let filled : (saved_entry (file_for (map laid os) table) q == saved_base) ≡ false =
        no (saved_entry (file_for (map laid os) table) q) saved_base (entry_filled os table q (bare os table f) f.layout.pages f.layout.entries (apart (slice_index table q) 0 e)) in
        ap (λ (b : Bool). cond b None (Some (saved_birth F (saved_entry F q)))) filled
        ∙ ap Some (ap (saved_birth F) entry ∙ birth_is os table (slice_index table q) o.0 (file_fits (map laid os) table f.layout) (bare os table f) o.1)

size_is : table_size ≡ 16384
unfolding table_size
size_is = refl

classes_are : (os : List Obj) (table : List ℕ) (classes : FinMap nat_cmp ℕ) (n : ℕ) → n ≡ 16384 → IsFormedImage os table → IsTableOf table classes → saved_classes (file_for (map laid os) table) n ≡ classes
classes_are os table classes n e f of = same_map nat_cmp_total nat_cmp-IsAntisymmetric _ _ (λ q. go q (leb n q) refl ∙ sym (of q))
  where
    go : (q : ℕ) (b : Bool) → leb n q ≡ b → get (saved_classes (file_for (map laid os) table) n) q ≡ class_in table q
    go q true h =
        let past : n ≤ q = grind (arith, nat_tests, h) in
        let none : slice_index table q ≡ 0 = let few = f.layout.few in index_past table q (omega (arith, past, e, few)) in
        get_above (file_for (map laid os) table) n q past ∙ sym (ap (λ (v : ℕ). cond (v == 0) None (Some v)) none)
    go q false h =
        let below : q < n = grind (arith, nat_tests, h) in
        get_below (file_for (map laid os) table) n q below ∙ class_is os table q f

-- ---- the state

seen : (os : List Obj) (table : List ℕ) → IsFormedImage os table → AllByRecursion IsSeen (file_for (map laid os) table).objects
seen os table f = all_filed IsSeen os table (λ k o e. let kind = all_get (HasKind table) os k o f.kinds e in shown (laid o).class kind.large kind.shown)
  where
    shown : (n : ℕ) → 4 ≤ n → n ≢ 16 → (not (n == 0) && not (n == 16)) ≡ true
    shown n h g =
        let a : (n == 0) ≡ false = grind (arith, nat_tests, h) in
        let b : (n == 16) ≡ false = grind (arith, nat_tests, g) in
        rw (a, b) refl

pub state_is : (os : List Obj) (table : List ℕ) (classes : FinMap nat_cmp ℕ) → IsFormedImage os table → IsTableOf table classes → state_of_file (file_for (map laid os) table) ≡ state_by os classes
unfolding state_of_file file_for
state_is os table classes f of = λ i. record {
  objects = objects i;
  rest = record {
    nil = birth_at 0 (omega (arith, four)) i;
    false_ = birth_at 1 (omega (arith, four)) i;
    true_ = birth_at 2 (omega (arith, four)) i;
    special = special i;
    header = header i;
    classes = classes_are os table classes table_size size_is f of i;
    last_hash = p.last_hash i;
    next = next i;
    active = None;
  };
}
  where
    p : Parts (file_for (map laid os) table) (map laid os)
    p = parts (map laid os) table

    four : 4 ≤ length (map laid os)
    four = f.layout.four

    fits : FitsFile (file_for (map laid os) table)
    fits = file_fits (map laid os) table f.layout

    objects : (state_of_file (file_for (map laid os) table)).objects ≡ from_entries (enumerate_from 0 os)
    objects = ap (λ (k : Kept). k.objects) (sym (state_there (file_for (map laid os) table) fits (seen os table f))) ∙ kept_objects os table f.layout f.stored (seen os table f)

    birth_at : (k : ℕ) → k < length (map laid os) → slice_index (births_saved (file_for (map laid os) table)) k ≡ k
    birth_at k h = ap (λ (bs : List ℕ). slice_index bs k) (births_are (map laid os) table) ∙ index_range 0 (length (map laid os)) k h ∙ omega arith

    special : saved_birth (file_for (map laid os) table) (file_for (map laid os) table).special ≡ 3
    special =
        let o = get_there os 3 (omega (arith, four, length-map laid os)) in
        ap (saved_birth (file_for (map laid os) table)) p.special ∙ birth_is os table 3 o.0 fits (bare os table f) o.1

    header : take 8 (file_for (map laid os) table).header ++ (replicate 16 0 ++ drop 24 (file_for (map laid os) table).header) ≡ header_bytes
    header = ap (λ (h : List ℕ). take 8 h ++ (replicate 16 0 ++ drop 24 h)) p.header

    next : next_by (file_for (map laid os) table).births (length (file_for (map laid os) table).objects) ≡ length os
    next = ap₂ next_by p.births (ap length (objects_are (map laid os) table) ∙ length-map (saved_by (laid_addresses (map laid os))) (map laid os) ∙ length-map laid os)

pub image_is : (os : List Obj) (table : List ℕ) (classes : FinMap nat_cmp ℕ) (limit : ℕ) → IsFormedImage os table → HasRoom os table limit → IsTableOf table classes
    → image_of (saved_bytes (file_for (map laid os) table)) limit ≡ Ok (state_by os classes)
image_is os table classes limit f room of = image_there (file_for (map laid os) table) limit (sound_file os table limit f room) ∙ ap Ok (state_is os table classes f of)
