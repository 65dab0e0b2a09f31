-- The file that is saved of a whole memory fits, and its objects are what those of the memory mean.
use Rattle.std.proofs.Common.{◌≡◌, ◌≢◌, ℕ, zero, suc, ◌+◌, ◌*◌, ◌%◌, ◌^◌, ◌<◌, ◌≤◌, ◌==◌, ◌&&◌, ◌||◌, Bool, true, false, cond, leb, nat_lt, List, [], ◌∷◌, ◌++◌, length, map, take, drop, get_or, Option, Some, None, is_some, refl, ap, ap₂, sym, ◌∙◌, arith, slice_get, slice_index, option_map, subst, length-drop}
use Rattle.std.specs.Prelude.{IsTrue}
use Rattle.std.specs.List.{AllByRecursion, AllPass, range_with_len, zip}
use Rattle.std.specs.Ordering.{nat_cmp}
use Rattle.std.specs.FinMap.{FinMap, get, from_entries}
use Rattle.std.proofs.lemmas.List.{length-map, get_or-drop}
use Rattle.std.proofs.lemmas.Option.{slice_get-map}
use Rattle.std.proofs.lemmas.List.FromFn.{length-map-range_with_len}
use Rattle.std.proofs.lemmas.List.Sums.{sum_by-cons}
use Rattle.std.proofs.lemmas.Bool.Decides.{nat_tests}
use Rattle.cs_heap.specs.Object.{Object, base, is_object, heap_object, size, slot_counts, units_before, used}
use Rattle.cs_heap.specs.Format.{format_allows, is_pointers, is_raw, is_code}
use Rattle.cs_heap.proofs.Laws.{address_of-index, object_placed}
use Rattle.cs_model.specs.Ref as ref
use Rattle.cs_model.specs.Obj.{Obj}
use Rattle.cs_model.specs.Words.{plain_format}
use Rattle.cs_model.specs.ImageFault.{table_size}
use Rattle.cs_model.specs.SavedFile.{SavedObject, FitsObject, IsWordValue}
use Rattle.cs_model.specs.SoundFile.{births_saved, saved_birth, saved_obj, state_of_file}
use Rattle.cs_classes.specs.declared.Roots.{Roots}
use Rattle.cs_classes.specs.Meaning.{kept_header, is_heap_context, kept_of, literal_words, nth_birth, obj_of, objects_of, ref_of}
use Rattle.cs_classes.specs.Sound.{IsSoundObject, IsSoundTable, IsWhole, is_reference, is_weak}
use Rattle.cs_classes.proofs.Refs.{is_reference-object}
use Rattle.cs_classes.proofs.Sorts.{references-context, references-method, references-pointers}
use Rattle.cs_save.specs.Filed.{entry_word, filed, filed_words, file_word, page_entries, referring, saved_file}
use Rattle.cs_save.specs.Storable.{FitsWords}
use Rattle.cs_save.proofs.Addresses.{First, StartsBare, address_is, first_used, object_there}
use Rattle.cs_save.proofs.Classes.{AreClasses, classes_same, entry_none, entry_some}
use Rattle.cs_save.proofs.Elements.{AreReferences, IsFine, element_same}
use Rattle.cs_save.proofs.Files.{sizes_filed}
use Rattle.cs_save.proofs.Headers.{length-filed}
use Rattle.cs_save.proofs.Meanings.{IsFiled, birth_same, ref_same}

-- ---- lists

pub all_by_get : {X : Type 0} (P : X → Type 0) (xs : List X) → ((k : ℕ) (x : X) → slice_get xs k ≡ Some x → P x) → AllByRecursion P xs
all_by_get P [] h = tt
all_by_get P (x ∷ xs) h = (h 0 x refl, all_by_get P xs (λ k y e. h (suc k) y e))

pub all_mapped : {X Y : Type 0} (P : Y → Type 0) (g : X → Y) (xs : List X) → AllByRecursion (λ x. P (g x)) xs → AllByRecursion P (map g xs)
all_mapped P g [] h = tt
all_mapped P g (x ∷ xs) h = (h.0, all_mapped P g xs h.1)

pub all_taken : {X : Type 0} (P : X → Type 0) (n : ℕ) (xs : List X) → ((k : ℕ) (x : X) → slice_get xs k ≡ Some x → k < n → P x) → AllByRecursion P (take n xs)
all_taken P zero xs h = tt
all_taken P (suc n) [] h = tt
all_taken P (suc n) (x ∷ xs) h = (h 0 x refl (omega arith), all_taken P n xs (λ k y e l. h (suc k) y e (omega (arith, l))))

pub all_at : {X : Type 0} (P : X → Type 0) (xs : List X) → AllByRecursion P xs → (k : ℕ) (x : X) → slice_get xs k ≡ Some x → P x
all_at P [] h k x e = absurd (cc)
all_at P (y ∷ xs) h zero x e = let same : y ≡ x = cc in subst P same h.0
all_at P (y ∷ xs) h (suc k) x e = all_at P xs h.1 k x e

all_append : {X : Type 0} (P : X → Type 0) (xs ys : List X) → AllByRecursion P xs → AllByRecursion P ys → AllByRecursion P (xs ++ ys)
all_append P [] ys h k = k
all_append P (x ∷ xs) ys h k = (h.0, all_append P xs ys h.1 k)

all_first : {X : Type 0} (P : X → Type 0) (n : ℕ) (xs : List X) → AllByRecursion P xs → AllByRecursion P (take n xs)
all_first P zero xs h = tt
all_first P (suc n) [] h = tt
all_first P (suc n) (x ∷ xs) h = (h.0, all_first P n xs h.1)

all_last : {X : Type 0} (P : X → Type 0) (n : ℕ) (xs : List X) → AllByRecursion P xs → AllByRecursion P (drop n xs)
all_last P zero xs h = h
all_last P (suc n) [] h = tt
all_last P (suc n) (x ∷ xs) h = all_last P n xs h.1

all_ranged : {Y : Type 0} (P : Y → Type 0) (g : ℕ → Y) (a n : ℕ) → ((k : ℕ) → k < a + n → P (g k)) → AllByRecursion P (map g (range_with_len a n))
all_ranged P g a zero h = tt
all_ranged P g a (suc n) h = (h a (omega arith), all_ranged P g (a + 1) n (λ k l. h k (omega (arith, l))))

-- ---- a memory that starts with three objects without slots

no_slots : (n : ℕ) → IsTrue (format_allows 0 n) → n ≡ 0
no_slots n h = let same : (n == 0) ≡ true = h in grind (arith, nat_tests, same)

pub starts_bare : (xs : List Object) (table : FinMap nat_cmp ℕ) (roots : Roots) → IsWhole xs table roots → StartsBare xs
starts_bare xs table roots w = record {
  long = w.first;
  bare = λ k x e l. no_slots (length x.words) (subst (λ n. IsTrue (format_allows n (length x.words))) (w.singles k x e l) (w.heap.each k x e).shape);
}

some_entry : (r : Option ℕ) → is_some r ≡ true → (a : ℕ) × (r ≡ Some a)
some_entry None h = absurd (cc)
some_entry (Some a) h = (a, refl)

-- an entry is a class also where it is the second one of SmallInteger
class_at_index : (xs : List Object) (table : FinMap nat_cmp ℕ) → IsSoundTable xs table → (q a : ℕ) (x : Object) → get table q ≡ Some a → heap_object xs a ≡ Some x → 3 ≤ length x.words
class_at_index xs table t q a x e o = go (q == 3) refl
  where
    go : (b : Bool) → (q == 3) ≡ b → 3 ≤ length x.words
    go true h =
        let three : q ≡ 3 = grind (arith, nat_tests, h) in
        let one : get table 1 ≡ Some a = sym t.second ∙ ap (get table) (sym three) ∙ e in
        (t.class 1 a x one (omega arith) o).slots
    go false h = let other : q ≢ 3 = grind (arith, nat_tests, h) in (t.class q a x e other o).slots

pub are_classes : (xs : List Object) (table : FinMap nat_cmp ℕ) (roots : Roots) → IsWhole xs table roots → used xs ≤ 67108864 → AreClasses xs table
are_classes xs table roots w few q a e =
    let bare = starts_bare xs table roots w in
    let object = w.classes q a e in
    let o = object_there xs a bare few object in
    let long = class_at_index xs table w.entries q a o.object e o.found in
    let at = address_of-index xs a o.number o.index in
    let there = address_is xs base o.number a o.object at o.there in
    let first = first_used xs o.number o.object bare o.there in
    record { within = w.entries.within q a e; object = object; above = go (units_before (length o.object.words)) (used (take o.number xs)) o.object o.number first there (λ z. bare.bare o.number o.object o.there (omega (arith, z))) long }
  where
    go : (n s : ℕ) (x : Object) (k : ℕ) → First k s → a ≡ base + 4 * s + 8 * n → (k ≡ 0 → length x.words ≡ 0) → 3 ≤ length x.words → base < a
    go n s x zero first at none long = let z = none refl in absurd (omega (arith, z, long))
    go n s x (suc k) first at none long = above (leb 3 (suc k)) refl
      where
        above : (b : Bool) → leb 3 (suc k) ≡ b → base < a
        above true h = let f = first.far (let l : 3 ≤ suc k = grind (arith, nat_tests, h) in l) in omega (arith, at, f)
        above false h = let f = first.near (let l : suc k < 3 = grind (arith, nat_tests, h) in l) in omega (arith, at, f)

-- ---- what fits

word_fits : (w : ℕ) → w < 2 ^ 32 → file_word w < 2 ^ 32
unfolding file_word
word_fits w h = go (w % 4 == 0) (nat_lt w (base + 48))
  where
    go : (a b : Bool) → cond a (cond b w ((w + 88) % 2 ^ 32)) w < 2 ^ 32
    go true true = h
    go true false = omega arith
    go false b = h

words_fit : (format : ℕ) (ws : List ℕ) → AllByRecursion IsWordValue ws → AllByRecursion IsWordValue (filed_words format ws)
words_fit format ws h =
    all_append IsWordValue (map file_word (take (referring format ws) ws)) (drop (referring format ws) ws)
    (all_mapped IsWordValue file_word (take (referring format ws) ws) (each (take (referring format ws) ws) (all_first IsWordValue (referring format ws) ws h)))
    (all_last IsWordValue (referring format ws) ws h)
  where
    each : (vs : List ℕ) → AllByRecursion IsWordValue vs → AllByRecursion (λ w. IsWordValue (file_word w)) vs
    each [] h = tt
    each (v ∷ vs) h = (word_fits v h.0, each vs h.1)

format_fits : (format n : ℕ) → IsTrue (format_allows format n) → format < 2 ^ 5
format_fits format n h = go (leb 32 format) refl
  where
    first_of : (a b : Bool) → (a && b) ≡ true → a ≡ true
    first_of true b e = refl
    first_of false b e = absurd (cc)

    go : (b : Bool) → leb 32 format ≡ b → format < 2 ^ 5
    go false e = grind (arith, nat_tests, e)
    go true e =
        let high : 32 ≤ format = grind (arith, nat_tests, e) in
        let some = first_of (is_pointers format || is_raw format || is_code format) _ h in
        let none : (is_pointers format || is_raw format || is_code format) ≡ false = grind (arith, nat_tests, high) in
        absurd (cc (sym none ∙ some))

slots_fit : (xs : List Object) (k : ℕ) (x : Object) → slice_get xs k ≡ Some x → length x.words ≤ used xs
slots_fit [] k x e = absurd (cc)
slots_fit (y ∷ xs) zero x e =
    let same : y ≡ x = cc in
    let long : length y.words ≡ length x.words = ap (λ (z : Object). length z.words) same in
    omega (arith, long, sum_by-cons size (length y.words) (slot_counts xs))
slots_fit (y ∷ xs) (suc k) x e = omega (arith, slots_fit xs k x e, sum_by-cons size (length y.words) (slot_counts xs))

class_fits : (xs : List Object) (table : FinMap nat_cmp ℕ) → IsSoundTable xs table → (q : ℕ) → is_some (get table q) ≡ true → q < 2 ^ 22
class_fits xs table t q h = let a = some_entry (get table q) h in let w = t.within q a.0 a.1 in omega (arith, w)

object_fits : (x : Object) → x.class < 2 ^ 22 → x.format < 2 ^ 5 → length x.words < 2 ^ 32 → FitsWords x → FitsObject (filed x)
unfolding filed
object_fits x class format long f = record {
  class = class;
  format = format;
  hash = f.hash;
  slots = omega (arith, long, length-filed x.format x.words);
  words = words_fit x.format x.words f.words;
}

no_words : (x : Object) → length x.words ≡ 0 → length (filed x).words ≡ 0
unfolding filed
no_words x h = length-filed x.format x.words ∙ h

objects_fit : (xs : List Object) (table : FinMap nat_cmp ℕ) (roots : Roots) → IsWhole xs table roots → used xs ≤ 67108864 → AllByRecursion FitsWords xs
    → AllByRecursion FitsObject (map filed xs)
objects_fit xs table roots w few f =
    all_mapped FitsObject filed xs (all_by_get (λ x. FitsObject (filed x)) xs (λ k x e.
    object_fits x (class_fits xs table w.entries x.class (w.indices k x e))
    (format_fits x.format (length x.words) (w.heap.each k x e).shape)
    (let s = slots_fit xs k x e in omega (arith, s, few))
    (all_at FitsWords xs f k x e)))

entry_fits : (xs : List Object) (table : FinMap nat_cmp ℕ) → used xs ≤ 67108864 → ((q a : ℕ) → get table q ≡ Some a → is_object xs a ≡ true) → (q : ℕ) → IsWordValue (entry_word table q)
entry_fits xs table few objects q = go (get table q) refl
  where
    go : (r : Option ℕ) → get table q ≡ r → IsWordValue (entry_word table q)
    go None e = let is = entry_none table q e in omega (arith, is)
    go (Some a) e =
        let is = entry_some table q a e in
        let p = object_placed xs a (objects q a e) in
        let fits = word_fits a (omega (arith, p.below, few)) in
        omega (arith, is, fits)

pub filed_from : (xs : List Object) (table : FinMap nat_cmp ℕ) (roots : Roots) → IsWhole xs table roots → used xs ≤ 67108864 → length roots.header ≡ 64
    → roots.next_birth ≤ 2 ^ 62 → AllByRecursion FitsWords xs → IsFiled xs table roots
filed_from xs table roots w few header next f = record {
  bare = bare;
  few = few;
  fits = record {
    header = header;
    special = let p = object_placed xs roots.special.0 w.special in word_fits roots.special.0 (omega (arith, p.below, few));
    last_hash = w.last_hash;
    objects = objects_fit xs table roots w few f;
    first = first;
    three = omega (arith, bare.long, length-map xs filed);
    pages = all_ranged (λ entries. (length entries ≡ 1024) × AllByRecursion IsWordValue entries) (page_entries table) 0 16
        (λ p l. (
          length-map-range_with_len (entry_word table) (1024 * p) 1024,
          all_ranged IsWordValue (entry_word table) (1024 * p) 1024 (λ q m. entry_fits xs table few w.classes q),
        ));
    count = omega (arith, length-map-range_with_len (page_entries table) 0 16);
    size = omega (arith, length-map-range_with_len (page_entries table) 0 16, sizes_filed xs, few);
    births = (omega (arith, next), (births_long, all_mapped (λ b. b < 2 ^ 64) (λ (x : Object). x.birth) xs (all_by_get (λ x. x.birth < 2 ^ 64) xs (λ k x e. let b = w.births k x e in omega (arith, b, next)))));
  };
}
  where
    bare : StartsBare xs
    bare = starts_bare xs table roots w

    first : AllByRecursion (λ (o : SavedObject). length o.words ≡ 0) (take 3 (map filed xs))
    first = all_taken (λ (o : SavedObject). length o.words ≡ 0) 3 (map filed xs) (λ k o e l. elim_at k o e l)
      where
        elim_at : (k : ℕ) (o : SavedObject) → slice_get (map filed xs) k ≡ Some o → k < 3 → length o.words ≡ 0
        elim_at k o e l = go (slice_get xs k) refl
          where
            go : (r : Option Object) → slice_get xs k ≡ r → length o.words ≡ 0
            go None h = absurd (cc (sym e ∙ slice_get-map filed xs k ∙ ap (option_map filed) h))
            go (Some x) h =
                let same : o ≡ filed x = let there : slice_get (map filed xs) k ≡ Some (filed x) = slice_get-map filed xs k ∙ ap (option_map filed) h in cc in
                ap (λ (y : SavedObject). length y.words) same ∙ no_words x (bare.bare k x h l)

    many : (ys : List Object) → length ys ≤ used ys
    many [] = omega arith
    many (y ∷ ys) = omega (arith, many ys, sum_by-cons size (length y.words) (slot_counts ys))

    births_long : length (map (λ (x : Object). x.birth) xs) < 2 ^ 64
    births_long = omega (arith, length-map xs (λ (x : Object). x.birth), many xs, few)

-- ---- what the objects mean

from_all : (xs : List Object) (ws : List ℕ) → AllPass (is_reference xs) ws → AreReferences xs ws
from_all xs ws h = λ i l. h i 0 l

plain_same : (format : ℕ) → is_weak format ≡ false → plain_format format ≡ format
plain_same format h = go (format == 4) (format == 5) h
  where
    go : (a b : Bool) → (a || b) ≡ false → cond a 3 (cond b 1 format) ≡ format
    go false false e = refl
    go true b e = absurd (cc)
    go false true e = absurd (cc)

six_slots : (n : ℕ) → IsTrue (n == 22 || n == 62) → 6 ≤ n
six_slots n h = let same : (n == 22 || n == 62) ≡ true = h in grind (arith, nat_tests, same)

pub fine_from : (xs : List Object) (x : Object) → IsSoundObject xs x → (is_heap_context x ≡ true → is_object xs (slice_index x.words 0) ≡ true) → IsFine xs x
fine_from xs x s single = record {
  context = λ c. ((s.context c).format, six_slots (length x.words) (s.context c).slots);
  pointers = pointers (is_heap_context x) refl;
  method = λ m. let fits = (s.method m).literals in omega (arith, fits);
  literals = λ m. from_all xs (literal_words x.words) (subst (AllPass (is_reference xs)) (references-method x m) s.references);
  plain = plain_same x.format s.plain;
}
  where
    pointers : (b : Bool) → is_heap_context x ≡ b → is_pointers x.format ≡ true → AreReferences xs x.words
    pointers false c p = from_all xs x.words (subst (AllPass (is_reference xs)) (references-pointers x c p) s.references)
    pointers true c p = each
      where
        rest : AreReferences xs (drop 1 x.words)
        rest = from_all xs (drop 1 x.words) (subst (AllPass (is_reference xs)) (references-context x c (s.context c).format) s.references)

        each : AreReferences xs x.words
        each zero l = is_reference-object xs (slice_index x.words 0) (single c)
        each (suc i) l =
            let long = length-drop 1 x.words in
            let next : 1 + i ≡ suc i = omega arith in
            ap (λ (k : ℕ). is_reference xs (get_or x.words k 0)) (sym next)
            ∙ ap (is_reference xs) (sym (get_or-drop 1 x.words i 0)) ∙ rest i (omega (arith, l, long))

obj_is : (xs : List Object) (table : FinMap nat_cmp ℕ) (roots : Roots) → IsFiled xs table roots → (x : Object) → IsFine xs x
    → saved_obj (saved_file xs table roots) (filed x) ≡ obj_of (ref_of xs) x
unfolding filed
obj_is xs table roots f x fine = element_same xs (λ word. ref.Obj (saved_birth (saved_file xs table roots) word)) (ref_same xs table roots f) x fine

entries_same : (xs : List Object) (g : SavedObject → Obj) (ys : List Object) → AllByRecursion (λ x. g (filed x) ≡ obj_of (ref_of xs) x) ys
    → zip (map (λ x. x.birth) ys) (map g (map filed ys)) ≡ map (λ x. (x.birth, obj_of (ref_of xs) x)) ys
entries_same xs g [] h = refl
entries_same xs g (y ∷ ys) h = ap₂ (λ (o : Obj) (es : List (ℕ × Obj)). (y.birth, o) ∷ es) h.0 (entries_same xs g ys h.1)

birth_get : (xs : List Object) (k : ℕ) → slice_index (map (λ (x : Object). x.birth) xs) k ≡ nth_birth xs k
birth_get [] k = refl
birth_get (x ∷ xs) zero = refl
birth_get (x ∷ xs) (suc k) = birth_get xs k

size_is : table_size ≡ 16384
unfolding table_size
size_is = refl

pub state_same : (xs : List Object) (table : FinMap nat_cmp ℕ) (roots : Roots) → IsFiled xs table roots → IsWhole xs table roots
    → ((k : ℕ) (x : Object) → slice_get xs k ≡ Some x → is_heap_context x ≡ true → is_object xs (slice_index x.words 0) ≡ true)
    → state_of_file (saved_file xs table roots) ≡ kept_of xs table roots None
unfolding state_of_file objects_of kept_header
state_same xs table roots f w single = λ i. record {
  objects = objects i;
  rest = record {
    nil = birth_get xs 0 i;
    false_ = birth_get xs 1 i;
    true_ = birth_get xs 2 i;
    special = birth_same xs table roots f roots.special.0 w.special i;
    header = kept_header roots.header;
    classes = classes_same xs table roots f (are_classes xs table roots w f.few) table_size size_is i;
    last_hash = roots.last_hash;
    next = roots.next_birth;
    active = None;
  };
}
  where
    objects : from_entries (zip (births_saved (saved_file xs table roots)) (map (saved_obj (saved_file xs table roots)) (map filed xs))) ≡ objects_of xs
    objects = ap (λ (es : List (ℕ × Obj)). from_entries es) (entries_same xs (saved_obj (saved_file xs table roots)) xs
        (all_by_get (λ x. saved_obj (saved_file xs table roots) (filed x) ≡ obj_of (ref_of xs) x) xs
        (λ k x e. obj_is xs table roots f x (fine_from xs x (w.heap.each k x e) (single k x e)))))
