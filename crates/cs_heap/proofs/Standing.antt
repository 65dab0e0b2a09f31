-- What stands in the heap's words, births and marks at an object, and what a write to it leaves.
use Rattle.std.proofs.Common.{◌≡◌, ℕ, ◌+◌, ◌*◌, ◌/◌, ◌%◌, ◌^◌, ◌-◌, ◌<◌, ◌≤◌, Bool, true, false, List, [], ◌∷◌, ◌++◌, length, get_or, refl, ap, ap₂, sym, ◌∙◌, subst, arith, eqb, leb, min, length-append}
use Rattle.std.proofs.Math.ListN.{set}
use Rattle.std.proofs.lemmas.List.{get_or-append-add, get_or_append_left, length-set, set-append_left, set-append_right}
use Rattle.std.proofs.lemmas.Grind.{flat_map-append}
use Rattle.std.proofs.lemmas.Bool.Decides.{nat_tests}
use Rattle.std.specs.Prelude.{flat_map}
use Rattle.std.specs.List.{AllByRecursion}
use Rattle.cs_heap.specs.Object.{Memory, Object, base, body_units, set_word, size, units, units_before, used, with_object}
use Rattle.cs_heap.specs.Layout.{IsHeap, AreObjectsLaid, IsStorable, unit_births, count_in, header, unit_header, headers_in, marked, marks_of, memory, objects, objects_read, row, object_words}
use Rattle.cs_heap.specs.declared.Heap.TheInside.{Inside}
use Rattle.cs_heap.proofs.OneObject.{births_of_is, count_in_row, fits_body, high_in_row, length-marked, length-words_of, low_in_row, marks_of_is, row-set_header, row-set_slot, slot_in_row, value_marked, words_of_is}
use Rattle.cs_heap.proofs.Decoding.{bits_back, enough_words, header_back, in_front, objects_back, stored_header}
use Rattle.cs_heap.proofs.Places.{Found, Split, used-cons, with_object-found}
use Rattle.cs_heap.proofs.Watching.{headers_in-at, length-headers_in}
use Rattle.cs_word.specs.Header.{header_bits, header_of}
use Rattle.cs_word.specs.declared.header.Header.{Header}

-- ---- lengths

pub length-all_words : (xs : List Object) → length (flat_map object_words xs) ≡ used xs
length-all_words [] = refl
length-all_words (x ∷ xs) = omega (arith, length-append (object_words x) (flat_map object_words xs), length-words_of x, used-cons x xs, length-all_words xs)

pub length-all_births : (xs : List Object) → 2 * length (flat_map unit_births xs) ≡ used xs
length-all_births [] = refl
length-all_births (x ∷ xs) = omega (arith, length-append (unit_births x) (flat_map unit_births xs), ap length (births_of_is x), length-marked x.birth (length x.words), used-cons x xs, length-all_births xs)

pub length-all_marks : (xs : List Object) → 2 * length (flat_map marks_of xs) ≡ used xs
length-all_marks [] = refl
length-all_marks (x ∷ xs) = omega (arith, length-append (marks_of x) (flat_map marks_of xs), ap length (marks_of_is x), length-marked 1 (length x.words), used-cons x xs, length-all_marks xs)

pub length-marks : (h : Inside) (xs : List Object) → AreObjectsLaid h xs → 2 * length h.marks.items ≡ used xs
length-marks h xs laid = omega (arith, length-headers_in h.marks.items, ap length laid.marks, length-all_marks xs)

-- ---- one object among others

get-middle : (p q : List ℕ) (at i j : ℕ) → length p ≡ at → i ≡ at + j → get_or (p ++ q) i 0 ≡ get_or q j 0
get-middle p q at i j e f = ap (λ (n : ℕ). get_or (p ++ q) n 0) (f ∙ ap (λ (n : ℕ). n + j) (sym e)) ∙ get_or-append-add p q j 0

set-middle : (p q r : List ℕ) (at i j v : ℕ) → length p ≡ at → i ≡ at + j → j < length q → set (p ++ (q ++ r)) i v ≡ p ++ (set q j v ++ r)
set-middle p q r at i j v e f h =
    set-append_right p (q ++ r) at i v e (omega (arith, f))
    ∙ ap (λ (n : ℕ). p ++ set (q ++ r) n v) (place i at j f) ∙ ap (λ (zs : List ℕ). p ++ zs) (set-append_left q r j v h)
  where
    place : (i at j : ℕ) → i ≡ at + j → i - at ≡ j
    place i at j f = omega arith

all-middle : (before after : List Object) (x : Object) → AllByRecursion IsStorable (before ++ x ∷ after) → IsStorable x
all-middle [] after x ok = ok.0
all-middle (y ∷ ys) after x ok = all-middle ys after x ok.1

all-replaced : (before after : List Object) (x y : Object) → AllByRecursion IsStorable (before ++ x ∷ after) → IsStorable y → AllByRecursion IsStorable (before ++ y ∷ after)
all-replaced [] after x y ok new = (new, ok.1)
all-replaced (z ∷ zs) after x y ok new = (ok.0, all-replaced zs after x y ok.1 new)

pub all-push : (xs : List Object) (y : Object) → AllByRecursion IsStorable xs → IsStorable y → AllByRecursion IsStorable (xs ++ y ∷ [])
all-push [] y ok new = (new, tt)
all-push (x ∷ xs) y ok new = (ok.0, all-push xs y ok.1 new)

-- ---- reading

abbrev pub unit_of : ℕ → ℕ
unit_of address = (address - base) / 8

-- what the heap holds at an object, whose header is in unit u
pub record IsThere (h : Inside) (u : ℕ) (x : Object) : Type 0 where
  pub storable : IsStorable x
  pub header_is : unit_header h.words.items (2 * u) ≡ header x
  pub before : 255 ≤ length x.words → 0 < u
  pub count_is : count_in h.words.items u ≡ length x.words
  pub body_within : 2 * (u + 1 + body_units (length x.words)) ≤ length h.words.items
  pub slot_is : (i : ℕ) → i < length x.words → get_or h.words.items (2 * u + 2 + i) 0 ≡ get_or x.words i 0
  pub birth_is : get_or h.births.items u 0 ≡ x.birth
  pub births_within : u < length h.births.items
  pub mark_is : 0 < get_or h.marks.items u 0
  pub marks_within : u < length h.marks.items
  pub marks_length : 2 * length h.marks.items ≡ length h.words.items

module _ (h : Inside) (before after : List Object) (x : Object) (laid : AreObjectsLaid h (before ++ x ∷ after)) where
  words_are : h.words.items ≡ flat_map object_words before ++ (object_words x ++ flat_map object_words after)
  words_are = laid.words ∙ flat_map-append object_words before (x ∷ after)

  births_are : h.births.items ≡ flat_map unit_births before ++ (unit_births x ++ flat_map unit_births after)
  births_are = laid.births ∙ flat_map-append unit_births before (x ∷ after)

  marks_are : headers_in h.marks.items ≡ flat_map marks_of before ++ (marks_of x ++ flat_map marks_of after)
  marks_are = laid.marks ∙ flat_map-append marks_of before (x ∷ after)

  length-words : length h.words.items ≡ used before + size (length x.words) + used after
  length-words = omega (arith, ap length words_are, length-append (flat_map object_words before) (object_words x ++ flat_map object_words after), length-append (object_words x) (flat_map object_words after), length-all_words before, length-words_of x, length-all_words after)

  read_word : (i j : ℕ) → i ≡ used before + j → j < size (length x.words) → get_or h.words.items i 0 ≡ get_or (row (stored_header x) x.words) j 0
  read_word i j e less =
      ap (λ (zs : List ℕ). get_or zs i 0) words_are
      ∙ get-middle (flat_map object_words before) (object_words x ++ flat_map object_words after) (used before) i j (length-all_words before) e
      ∙ in_front x (flat_map object_words after) j less

  read_header : (u : ℕ) → 2 * u ≡ used before + 2 * units_before (length x.words) → unit_header h.words.items (2 * u) ≡ header x
  read_header u e =
      ap₂ (λ (low : ℕ) (high : ℕ). header_of (low + high * 2 ^ 32))
      (read_word (2 * u) (2 * units_before (length x.words)) e (omega arith) ∙ low_in_row (stored_header x) x.words)
      (read_word (2 * u + 1) (2 * units_before (length x.words) + 1) (omega (arith, e)) (omega arith) ∙ high_in_row (stored_header x) x.words)
      ∙ ap header_of (bits_back (stored_header x)) ∙ header_back x (all-middle before after x laid.storable)

  read_count : (u : ℕ) → 2 * u ≡ used before + 2 * units_before (length x.words) → count_in h.words.items u ≡ length x.words
  read_count u e = go (leb 255 (length x.words)) refl
    where
      slots : (unit_header h.words.items (2 * u)).slots ≡ min 255 (length x.words)
      slots = ap (λ (a : Header). a.slots) (read_header u e)

      go : (b : Bool) → leb 255 (length x.words) ≡ b → count_in h.words.items u ≡ length x.words
      go true is =
          let long : 255 ≤ length x.words = grind (arith, nat_tests) in
          let top : (unit_header h.words.items (2 * u)).slots ≡ 255 = slots ∙ omega (arith, long) in
          let one : units_before (length x.words) ≡ 1 = rw is refl in
          rw top (read_word (2 * u - 2) 0 (omega (arith, e, one)) (omega arith) ∙ count_in_row (stored_header x) x.words long)
      go false is =
          let short : length x.words < 255 = grind (arith, nat_tests) in
          let count : (unit_header h.words.items (2 * u)).slots ≡ length x.words = slots ∙ omega (arith, short) in
          let other : eqb (length x.words) 255 ≡ false = grind (arith, nat_tests) in
          rw (count, other) refl

  read_slot : (u i : ℕ) → 2 * u ≡ used before + 2 * units_before (length x.words) → i < length x.words → get_or h.words.items (2 * u + 2 + i) 0 ≡ get_or x.words i 0
  read_slot u i e less =
      read_word (2 * u + 2 + i) (2 * units_before (length x.words) + 2 + i) (omega (arith, e)) (omega (arith, less, fits_body (length x.words)))
      ∙ slot_in_row (stored_header x) x.words i less

  read_marked : (all front part rest : List ℕ) (u v : ℕ) → all ≡ front ++ (part ++ rest) → 2 * length front ≡ used before → part ≡ marked 0 v (length x.words)
      → 2 * u ≡ used before + 2 * units_before (length x.words) → (get_or all u 0 ≡ v) × (u < length all)
  read_marked all front part rest u v is size_is part_is e =
      let here : u ≡ length front + units_before (length x.words) = omega (arith, e, size_is) in
      let long : length part ≡ units (length x.words) = ap length part_is ∙ length-marked v (length x.words) in (
        ap (λ (zs : List ℕ). get_or zs u 0) is
            ∙ get-middle front (part ++ rest) (length front) u (units_before (length x.words)) refl here
            ∙ get_or_append_left part rest 0 (units_before (length x.words)) (omega (arith, long))
            ∙ ap (λ (zs : List ℕ). get_or zs (units_before (length x.words)) 0) part_is ∙ value_marked v (length x.words),
        omega (arith, ap length is, length-append front (part ++ rest), length-append part rest, long, here),
      )

  pub there : (u : ℕ) → 2 * u ≡ used before + 2 * units_before (length x.words) → IsThere h u x
  there u e =
      let birth = read_marked h.births.items (flat_map unit_births before) (unit_births x) (flat_map unit_births after) u x.birth births_are (length-all_births before) (births_of_is x) e in
      let mark = read_marked (headers_in h.marks.items) (flat_map marks_of before) (marks_of x) (flat_map marks_of after) u 1 marks_are (length-all_marks before) (marks_of_is x) e in
      record {
        storable = all-middle before after x laid.storable;
        header_is = read_header u e;
        before = λ long. one u long e;
        count_is = read_count u e;
        body_within = omega (arith, e, length-words);
        slot_is = λ i less. read_slot u i e less;
        birth_is = birth.0;
        births_within = birth.1;
        mark_is = omega (arith, mark.0, headers_in-at h.marks.items u);
        marks_within = omega (arith, mark.1, length-headers_in h.marks.items);
        marks_length = omega (arith, length-marks h (before ++ x ∷ after) laid, ap length laid.words, length-all_words (before ++ x ∷ after));
      }
    where
      one : (u : ℕ) → 255 ≤ length x.words → 2 * u ≡ used before + 2 * units_before (length x.words) → 0 < u
      one u long e =
          let is : leb 255 (length x.words) ≡ true = grind (arith, nat_tests) in
          let before_is : units_before (length x.words) ≡ 1 = rw is refl in
          omega (arith, e, before_is)

  -- ---- writing

  write_word : (i j v : ℕ) → i ≡ used before + j → j < size (length x.words)
      → set h.words.items i v ≡ flat_map object_words before ++ (set (object_words x) j v ++ flat_map object_words after)
  write_word i j v e less =
      ap (λ (zs : List ℕ). set zs i v) words_are
      ∙ set-middle (flat_map object_words before) (object_words x) (flat_map object_words after) (used before) i j v (length-all_words before) e (omega (arith, less, length-words_of x))

  pub write_slot : (u i v : ℕ) → 2 * u ≡ used before + 2 * units_before (length x.words) → i < length x.words
      → set h.words.items (2 * u + 2 + i) v ≡ flat_map object_words (before ++ set_word i v x ∷ after)
  write_slot u i v e less =
      write_word (2 * u + 2 + i) (2 * units_before (length x.words) + 2 + i) v (omega (arith, e)) (omega (arith, less, fits_body (length x.words)))
      ∙ ap (λ (zs : List ℕ). flat_map object_words before ++ (zs ++ flat_map object_words after))
      (ap (λ (zs : List ℕ). set zs (2 * units_before (length x.words) + 2 + i) v) (words_of_is x)
      ∙ row-set_slot (stored_header x) x.words i v less
      ∙ ap (λ (m : ℕ). row (header_bits (header_with m)) (set x.words i v)) (sym (length-set x.words i v))
      ∙ sym (words_of_is (set_word i v x)))
      ∙ sym (flat_map-append object_words before (set_word i v x ∷ after))
    where
      header_with : ℕ → Header
      header_with m = record { class = x.class; flags = x.flags; format = x.format; hash = x.hash; slots = min 255 m }

  pub write_header : (u : ℕ) (y : Object) → 2 * u ≡ used before + 2 * units_before (length x.words) → y.words ≡ x.words
      → set (set h.words.items (2 * u) (stored_header y % 2 ^ 32)) (2 * u + 1) (stored_header y / 2 ^ 32) ≡ flat_map object_words (before ++ y ∷ after)
  write_header u y e same =
      let j = 2 * units_before (length x.words) in
      let new = stored_header y in
      ap (λ (zs : List ℕ). set zs (2 * u + 1) (new / 2 ^ 32)) (write_word (2 * u) j (new % 2 ^ 32) e (omega arith))
      ∙ set-middle (flat_map object_words before) (set (object_words x) j (new % 2 ^ 32)) (flat_map object_words after) (used before) (2 * u + 1) (j + 1) (new / 2 ^ 32)
      (length-all_words before) (omega (arith, e)) (omega (arith, length-set (object_words x) j (new % 2 ^ 32), length-words_of x))
      ∙ ap (λ (zs : List ℕ). flat_map object_words before ++ (zs ++ flat_map object_words after))
      (ap (λ (zs : List ℕ). set (set zs j (new % 2 ^ 32)) (j + 1) (new / 2 ^ 32)) (words_of_is x)
      ∙ row-set_header (stored_header x) new x.words ∙ ap (row new) (sym same) ∙ sym (words_of_is y))
      ∙ sym (flat_map-append object_words before (y ∷ after))

-- ---- the heap as a whole

pub objects_are : (h : Inside) (xs : List Object) → AreObjectsLaid h xs → objects h ≡ xs
objects_are h xs laid =
    ap₂ (objects_read (length h.words.items)) laid.words laid.births
    ∙ objects_back (length h.words.items) xs (omega (arith, enough_words xs, ap length laid.words)) laid.storable

pub laid_now : (h : Inside) (xs : List Object) → AreObjectsLaid h xs → AreObjectsLaid h (objects h)
laid_now h xs laid = subst (λ (ys : List Object). AreObjectsLaid h ys) (sym (objects_are h xs laid)) laid

-- the objects that a caller sees stand in the heap
pub laid_seen : (h : Inside) (m : Memory) → IsHeap h → memory h ≡ m → AreObjectsLaid h m.objects
laid_seen h m ok is = subst (λ (ys : List Object). AreObjectsLaid h ys) (ap (λ (n : Memory). n.objects) is) ok.laid

pub limit_seen : (h : Inside) (m : Memory) → memory h ≡ m → h.limit ≡ m.limit
limit_seen h m is = ap (λ (n : Memory). n.limit) is

-- what is known of an object that was found
pub record IsKnown (h : Inside) (xs : List Object) (address k : ℕ) (f : Found xs address k) : Type 0 where
  pub above : base ≤ address
  pub aligned : address ≡ base + 8 * unit_of address
  pub place : 2 * unit_of address ≡ used f.split.before + 2 * units_before (length f.split.x.words)
  pub parts : AreObjectsLaid h (f.split.before ++ f.split.x ∷ f.split.after)
  pub there : IsThere h (unit_of address) f.split.x

pub known : (h : Inside) (xs : List Object) → AreObjectsLaid h xs → (address k : ℕ) → (f : Found xs address k) → IsKnown h xs address k f
known h xs laid address k f =
    let even = length-all_marks f.split.before in
    let aligned : address ≡ base + 8 * unit_of address = omega (arith, f.split.place, even) in
    let place : 2 * unit_of address ≡ used f.split.before + 2 * units_before (length f.split.x.words) = omega (arith, f.split.place, even) in
    let parts : AreObjectsLaid h (f.split.before ++ f.split.x ∷ f.split.after) = subst (λ (ys : List Object). AreObjectsLaid h ys) f.split.list laid in
    record {
      above = omega (arith, f.split.place);
      aligned = aligned;
      place = place;
      parts = parts;
      there = there h f.split.before f.split.after f.split.x parts (unit_of address) place;
    }

-- one object changed in its words alone
pub changed : (h new : Inside) (xs : List Object) (address k : ℕ) (g : Object → Object) → (f : Found xs address k) → AreObjectsLaid h xs
    → new.words.items ≡ flat_map object_words (f.split.before ++ g f.split.x ∷ f.split.after) → new.births.items ≡ h.births.items → headers_in new.marks.items ≡ headers_in h.marks.items
    → (g f.split.x).birth ≡ f.split.x.birth → length (g f.split.x).words ≡ length f.split.x.words → IsStorable (g f.split.x)
    → AreObjectsLaid new (with_object xs address g)
changed h new xs address k g f laid words births marks birth count storable =
    subst (λ (ys : List Object). AreObjectsLaid new ys) (sym (with_object-found xs address k g f)) (record {
      words = words;
      births = births ∙ laid.births ∙ ap (flat_map unit_births) s.list ∙ flat_map-append unit_births s.before (s.x ∷ s.after)
          ∙ ap (λ (zs : List ℕ). flat_map unit_births s.before ++ (zs ++ flat_map unit_births s.after)) (births_of_is s.x ∙ ap₂ (λ (b : ℕ) (n : ℕ). marked 0 b n) (sym birth) (sym count) ∙ sym (births_of_is (g s.x)))
          ∙ sym (flat_map-append unit_births s.before (g s.x ∷ s.after));
      marks = marks ∙ laid.marks ∙ ap (flat_map marks_of) s.list ∙ flat_map-append marks_of s.before (s.x ∷ s.after)
          ∙ ap (λ (zs : List ℕ). flat_map marks_of s.before ++ (zs ++ flat_map marks_of s.after)) (marks_of_is s.x ∙ ap (marked 0 1) (sym count) ∙ sym (marks_of_is (g s.x)))
          ∙ sym (flat_map-append marks_of s.before (g s.x ∷ s.after));
      storable = all-replaced s.before s.after s.x (g s.x) (subst (λ (ys : List Object). AllByRecursion IsStorable ys) s.list laid.storable) storable;
    })
  where
    s : Split xs base address k
    s = f.split
