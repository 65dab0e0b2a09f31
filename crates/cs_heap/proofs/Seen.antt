-- What the heap's functions read at an address, and how a caller sees what they write.
use Rattle.std.proofs.Common.{◌≡◌, ℕ, ◌+◌, ◌*◌, ◌/◌, ◌%◌, ◌^◌, ◌<◌, ◌≤◌, true, false, List, [], ◌∷◌, ◌++◌, length, get_or, is_some, Option, refl, ap, ap₂, cond, sym, subst, ◌∙◌, arith, min}
use Rattle.std.proofs.Math.ListN.{set}
use Rattle.std.proofs.lemmas.Grind.{get_or_default_zero, flat_map-append}
use Rattle.std.proofs.lemmas.List.{append-nil, length-set, map-append}
use Rattle.std.proofs.Math.Seq.{map-set_same}
use Rattle.std.specs.Prelude.{flat_map, vec_capacity, replicate, Bool}
use Rattle.std.specs.FinSet.{FinSet, insert}
use Rattle.std.specs.Ordering.{nat_cmp}
use Rattle.std.specs.Option.{option_map_or}
use Rattle.cs_heap.specs.Format.{format_allows}
use Rattle.cs_heap.specs.Object.{Memory, Object, base, part_at, header_seen, object_place, new_object, new_slot, heap_object, size, set_word, slot_count_of, with_object, slot_set}
use Rattle.cs_heap.specs.Writes.{fixed_stored, hash_stored, watch_begun}
use Rattle.cs_heap.specs.Layout.{IsHeap, AreObjectsLaid, IsStorable, unit_births, header, headers_in, marks_of, memory, objects, row, watched_in, object_words}
use Rattle.cs_heap.specs.declared.Heap.TheInside.{Inside}
use Rattle.cs_heap.proofs.OneObject.{length-copies, length-row, marks_of_is, words_of_is}
use Rattle.cs_heap.proofs.Decoding.{shape_below, stored_header}
use Rattle.cs_heap.proofs.Places.{Found, has_index, has_number, object_at-found}
use Rattle.cs_heap.proofs.Watching.{headers_in-marked, watched_in-new, watched_in-set}
use Rattle.cs_heap.proofs.Standing.{IsKnown, IsThere, all-push, changed, known, laid_now, laid_seen, limit_seen, objects_are, unit_of, write_header, write_slot}
use Rattle.cs_word.specs.Header.{IsWritable, flag_bits, header_bits, with_immutable}
use Rattle.cs_word.specs.declared.header.Flags.{Flags}
use Rattle.cs_word.specs.declared.header.Header.{Header}

pub record IsSeen (h : Inside) (xs : List Object) (address : ℕ) : Type 0 where
  pub index : ℕ
  pub found : Found xs address index
  pub known_there : IsKnown h xs address index found

pub seen : (h : Inside) (m : Memory) → IsHeap h → memory h ≡ m → (address : ℕ) → is_some (object_place m.objects address) ≡ true → IsSeen h m.objects address
seen h m ok is address h' = let f = has_index m.objects address h' in
    record { index = f.0; found = f.1; known_there = known h m.objects (laid_seen h m ok is) address f.0 f.1 }

-- the same of an object that has slot i
pub seen_slot : (h : Inside) (m : Memory) → IsHeap h → memory h ≡ m → (address i : ℕ) → i < slot_count_of m.objects address → IsSeen h m.objects address
seen_slot h m ok is address i less = let f = has_number m.objects address i (λ (x : Object). length x.words) less in
    record { index = f.0; found = f.1; known_there = known h m.objects (laid_seen h m ok is) address f.0 f.1 }

-- what has a slot is an object
pub has_slot : (xs : List Object) (address i : ℕ) → i < slot_count_of xs address → is_some (object_place xs address) ≡ true
has_slot xs address i less = let f = has_number xs address i (λ (x : Object). length x.words) less in ap is_some f.1.index_is

module _ (h : Inside) (xs : List Object) (address : ℕ) (s : IsSeen h xs address) where
  abbrev pub the_object : Object
  the_object = s.found.split.x

  pub there_is : IsThere h (unit_of address) the_object
  there_is = s.known_there.there

  pub object_is : heap_object xs address ≡ Option.Some the_object
  object_is = object_at-found xs address s.index s.found

  pub field_is : (g : Object → ℕ) → part_at g xs address ≡ g the_object
  field_is g = ap (λ (o : Option Object). option_map_or g o 0) object_is

  pub header_is : header_seen xs address ≡ header the_object
  header_is = ap of_option object_is
    where
      of_option : Option Object → Header
      of_option o = record {
        class = option_map_or (λ x. x.class) o 0;
        flags = record { 0 = option_map_or (λ x. flag_bits x.flags) o 0 };
        format = option_map_or (λ x. x.format) o 0;
        hash = option_map_or (λ x. x.hash) o 0;
        slots = min 255 (option_map_or (λ x. length x.words) o 0);
      }

  pub writable : IsWritable (header the_object)
  writable = record {
    class = there_is.storable.class;
    format = shape_below (the_object).format (length (the_object).words) there_is.storable.shape;
    hash = there_is.storable.hash;
  }

-- a read of the code, whose default is what it read
pub read_is : (xs : List ℕ) (i j v : ℕ) → i ≡ j → j < length xs → v ≡ get_or xs i v → v ≡ get_or xs j 0
read_is xs i j v e less h = h ∙ ap (λ (n : ℕ). get_or xs n v) e ∙ get_or_default_zero xs j v less

-- ---- after a write

-- the heap is sound, and a caller sees this memory
pub record IsNow (new : Inside) (m : Memory) : Type 0 where
  pub sound : IsHeap new
  pub view_is : memory new ≡ m

-- no vector gave up room
pub record IsRoomy (h new : Inside) : Type 0 where
  pub limit : new.limit ≡ h.limit
  pub words : vec_capacity h.words ≤ vec_capacity new.words
  pub births : vec_capacity h.births ≤ vec_capacity new.births
  pub marks : vec_capacity h.marks ≤ vec_capacity new.marks

-- what a caller sees of watching
pub watched_seen : (h : Inside) (m : Memory) → memory h ≡ m → watched_in base h.marks.items ≡ m.watched
watched_seen h m is = ap (λ (n : Memory). n.watched) is

pub dirty_seen : (h : Inside) (m : Memory) → memory h ≡ m → h.dirty ≡ m.dirty
dirty_seen h m is = ap (λ (n : Memory). n.dirty) is

abbrev made : ℕ → List Object → FinSet nat_cmp → Bool → Memory
made limit objects watched dirty = record { limit = limit; objects = objects; watched = watched; dirty = dirty }

pub now : (h new : Inside) (m : Memory) (ys : List Object) (w : FinSet nat_cmp) (d : Bool) → IsHeap h → memory h ≡ m → AreObjectsLaid new ys → length new.words.items ≤ h.limit → IsRoomy h new
    → watched_in base new.marks.items ≡ w → new.dirty ≡ d → IsNow new (made m.limit ys w d)
now h new m ys w d ok is laid within roomy watched dirty = record {
  sound = record {
    laid = laid_now new ys laid;
    within = omega (arith, roomy.limit, within);
    least = omega (arith, roomy.limit, ok.least);
    most = omega (arith, roomy.limit, ok.most);
    word_room = omega (arith, roomy.limit, roomy.words, ok.word_room);
    birth_room = omega (arith, roomy.limit, roomy.births, ok.birth_room);
    mark_room = omega (arith, roomy.limit, roomy.marks, ok.mark_room);
  };
  view_is =
      ap₂ (λ limit objects. made limit objects (watched_in base new.marks.items) new.dirty) (roomy.limit ∙ limit_seen h m is) (objects_are new ys laid)
      ∙ ap₂ (made m.limit ys) watched dirty;
}

-- a slot was stored
pub word_stored : (h new : Inside) (m : Memory) (address place i v : ℕ) (d : Bool) → IsHeap h → memory h ≡ m → i < slot_count_of m.objects address
    → place ≡ 2 * unit_of address + 2 + i → new.words.items ≡ set h.words.items place v → new.births.items ≡ h.births.items → new.marks.items ≡ h.marks.items
    → IsRoomy h new → new.dirty ≡ d → IsNow new (record m { objects = slot_set m.objects address i v; dirty = d })
word_stored h new m address place i v d ok is less at words births marks roomy dirty =
    let s = seen_slot h m ok is address i less in
    let k = s.known_there in
    let x : Object = s.found.split.x in
    let within : i < length x.words = omega (arith, less, field_is h m.objects address s (λ (y : Object). length y.words)) in
    let long = length-set x.words i v in
    let stored : IsStorable (set_word i v x) = record {
      class = k.there.storable.class;
      flags = k.there.storable.flags;
      shape = ap (format_allows x.format) long ∙ k.there.storable.shape;
      hash = k.there.storable.hash;
      count = omega (arith, long, k.there.storable.count);
    } in
    now h new m (slot_set m.objects address i v) m.watched d ok is
    (changed h new m.objects address s.index (set_word i v) s.found (laid_seen h m ok is)
    (words ∙ ap (λ (n : ℕ). set h.words.items n v) at ∙ write_slot h s.found.split.before s.found.split.after x k.parts (unit_of address) i v k.place within)
    births (ap headers_in marks) refl long stored)
    (omega (arith, ap length words, length-set h.words.items place v, ok.within)) roomy
    (ap (watched_in base) marks ∙ watched_seen h m is) dirty

-- the header of an object was stored
pub header_stored : (h new : Inside) (m : Memory) (address u bits : ℕ) (f : Object → Object) → IsHeap h → memory h ≡ m → (known_object : is_some (object_place m.objects address) ≡ true)
    → u ≡ unit_of address
    → ((x : Object) → IsStorable x → header_seen m.objects address ≡ header x → (bits ≡ stored_header (f x)) × IsStorable (f x) × ((f x).words ≡ x.words) × ((f x).birth ≡ x.birth))
    → new.words.items ≡ set (set h.words.items (2 * u) (bits % 2 ^ 32)) (2 * u + 1) (bits / 2 ^ 32) → new.births.items ≡ h.births.items → new.marks.items ≡ h.marks.items
    → IsRoomy h new → new.dirty ≡ h.dirty → IsNow new (record m { objects = with_object m.objects address f })
header_stored h new m address u bits f ok is known_object at made_is words births marks roomy dirty =
    let s = seen h m ok is address known_object in
    let k = s.known_there in
    let x : Object = s.found.split.x in
    let y = made_is x k.there.storable (header_is h m.objects address s) in
    now h new m (with_object m.objects address f) m.watched m.dirty ok is
    (changed h new m.objects address s.index f s.found (laid_seen h m ok is)
    (words ∙ ap₂ (λ (n : ℕ) (b : ℕ). set (set h.words.items (2 * n) (b % 2 ^ 32)) (2 * n + 1) (b / 2 ^ 32)) at y.0
    ∙ write_header h s.found.split.before s.found.split.after x k.parts (unit_of address) (f x) k.place y.2)
    births (ap headers_in marks) y.3 (ap length y.2) y.1)
    (omega (arith, ap length words, length-set (set h.words.items (2 * u) (bits % 2 ^ 32)) (2 * u + 1) (bits / 2 ^ 32), length-set h.words.items (2 * u) (bits % 2 ^ 32), ok.within)) roomy
    (ap (watched_in base) marks ∙ watched_seen h m is) (dirty ∙ dirty_seen h m is)

-- it has another hash
pub hash_is_stored : (h new : Inside) (m : Memory) (address u hash bits : ℕ) → IsHeap h → memory h ≡ m → is_some (object_place m.objects address) ≡ true → hash < 2 ^ 22
    → u ≡ unit_of address → bits ≡ header_bits (record (header_seen m.objects address) { hash = hash })
    → new.words.items ≡ set (set h.words.items (2 * u) (bits % 2 ^ 32)) (2 * u + 1) (bits / 2 ^ 32) → new.births.items ≡ h.births.items → new.marks.items ≡ h.marks.items
    → IsRoomy h new → new.dirty ≡ h.dirty → IsNow new (hash_stored m address hash)
hash_is_stored h new m address u hash bits ok is known_object below at bits_are =
    header_stored h new m address u bits (λ x. record x { hash = hash }) ok is known_object at (λ x storable seen_is. (
      bits_are ∙ ap (λ (a : Header). header_bits (record a { hash = hash })) seen_is,
      record { class = storable.class; flags = storable.flags; shape = storable.shape; hash = below; count = storable.count },
      refl,
      refl,
    ))

-- it is read-only, or no longer so
pub fixed_is_stored : (h new : Inside) (m : Memory) (address u : ℕ) (on : Bool) (flags : Flags) (bits : ℕ) → IsHeap h → memory h ≡ m → is_some (object_place m.objects address) ≡ true
    → u ≡ unit_of address → flags ≡ with_immutable on (header_seen m.objects address).flags → bits ≡ header_bits (record (header_seen m.objects address) { flags = flags })
    → new.words.items ≡ set (set h.words.items (2 * u) (bits % 2 ^ 32)) (2 * u + 1) (bits / 2 ^ 32) → new.births.items ≡ h.births.items → new.marks.items ≡ h.marks.items
    → IsRoomy h new → new.dirty ≡ h.dirty → IsNow new (fixed_stored m address on)
fixed_is_stored h new m address u on flags bits ok is known_object at flags_are bits_are =
    header_stored h new m address u bits (λ x. record x { flags = with_immutable on x.flags }) ok is known_object at (λ x storable seen_is. (
      bits_are ∙ ap (λ (f : Flags). header_bits (record (header_seen m.objects address) { flags = f })) flags_are
          ∙ ap (λ (a : Header). header_bits (record a { flags = with_immutable on a.flags })) seen_is,
      record { class = storable.class; flags = five on (flag_bits x.flags) storable.flags; shape = storable.shape; hash = storable.hash; count = storable.count },
      refl,
      refl,
    ))
  where
    five : (on : Bool) (n : ℕ) → n < 2 ^ 5 → n / 2 * 2 + cond on 1 0 < 2 ^ 5
    five true n h = omega (arith, h)
    five false n h = omega (arith, h)

-- a unit was marked as that of a watched object
pub watch_is_begun : (h new : Inside) (m : Memory) (address u : ℕ) → IsHeap h → memory h ≡ m → is_some (object_place m.objects address) ≡ true → u ≡ unit_of address
    → new.words.items ≡ h.words.items → new.births.items ≡ h.births.items → new.marks.items ≡ set h.marks.items u 2
    → IsRoomy h new → new.dirty ≡ h.dirty → IsNow new (watch_begun m address)
watch_is_begun h new m address u ok is known_object at words births marks roomy dirty =
    let s = seen h m ok is address known_object in
    let t = s.known_there.there in
    let within : u < length h.marks.items = omega (arith, at, t.marks_within) in
    let place : address ≡ base + 8 * u = omega (arith, at, s.known_there.aligned) in
    let laid = laid_seen h m ok is in
    let marked_is : 0 < get_or h.marks.items u 0 = subst (λ (n : ℕ). 0 < get_or h.marks.items n 0) (sym at) t.mark_is in
    now h new m m.objects (insert m.watched address) m.dirty ok is
    (record {
      words = words ∙ laid.words;
      births = births ∙ laid.births;
      marks = ap headers_in marks ∙ map-set_same (λ n. min n 1) h.marks.items u 2 0 (one (get_or h.marks.items u 0) marked_is) ∙ laid.marks;
      storable = laid.storable;
    })
    (omega (arith, ap length words, ok.within)) roomy
    (ap (watched_in base) marks ∙ watched_in-set h.marks.items base u address within place ∙ ap (λ (w : FinSet nat_cmp). insert w address) (watched_seen h m is))
    (dirty ∙ dirty_seen h m is)
  where
    one : (n : ℕ) → 0 < n → min 2 1 ≡ min n 1
    one n h = omega (arith, h)

-- an object was added
pub object_is_added : (h new : Inside) (m : Memory) (y : Object) → IsHeap h → memory h ≡ m → IsStorable y
    → new.words.items ≡ h.words.items ++ object_words y → new.births.items ≡ h.births.items ++ unit_births y → new.marks.items ≡ h.marks.items ++ marks_of y → new.dirty ≡ h.dirty
    → length new.words.items ≤ h.limit → IsRoomy h new → IsNow new (record m { objects = m.objects ++ y ∷ [] })
object_is_added h new m y ok is stored words births marks dirty within roomy =
    let laid = laid_seen h m ok is in
    let n = length y.words in
    now h new m (m.objects ++ y ∷ []) m.watched m.dirty ok is (record {
      words = words ∙ ap (λ (zs : List ℕ). zs ++ object_words y) laid.words ∙ pushed object_words m.objects y;
      births = births ∙ ap (λ (zs : List ℕ). zs ++ unit_births y) laid.births ∙ pushed unit_births m.objects y;
      marks = ap headers_in marks ∙ map-append (λ n. min n 1) h.marks.items (marks_of y)
          ∙ ap₂ (λ (a : List ℕ) (b : List ℕ). a ++ b) laid.marks (ap headers_in (marks_of_is y) ∙ headers_in-marked n ∙ sym (marks_of_is y)) ∙ pushed marks_of m.objects y;
      storable = all-push m.objects y laid.storable stored;
    }) within roomy
    (ap (watched_in base) (marks ∙ ap (λ (zs : List ℕ). h.marks.items ++ zs) (marks_of_is y)) ∙ watched_in-new h.marks.items base n ∙ watched_seen h m is)
    (dirty ∙ dirty_seen h m is)
  where
    pushed : (f : Object → List ℕ) (xs : List Object) (y : Object) → flat_map f xs ++ f y ≡ flat_map f (xs ++ y ∷ [])
    pushed f xs y = ap (λ (zs : List ℕ). flat_map f xs ++ zs) (sym (append-nil (f y))) ∙ sym (flat_map-append f xs (y ∷ []))

-- ---- the new object

-- the row that the code adds
abbrev pub new_row : ℕ → ℕ → ℕ → Flags → ℕ → ℕ → List ℕ
new_row class format slots flags count value =
    row (header_bits (record { class = class; flags = flags; format = format; hash = 0; slots = count })) (replicate slots value)

pub length-new_row : (class format slots : ℕ) (flags : Flags) (count value : ℕ) → length (new_row class format slots flags count value) ≡ size slots
length-new_row class format slots flags count value =
    length-row (header_bits (record { class = class; flags = flags; format = format; hash = 0; slots = count })) (replicate slots value)
    ∙ ap size (length-copies slots value)

pub new_words : (class format slots birth : ℕ) (flags : Flags) (count value : ℕ) → flags.0 ≡ 0 → count ≡ min slots 255 → value ≡ new_slot format
    → new_row class format slots flags count value ≡ object_words (new_object class format slots birth)
new_words class format slots birth flags count value none count_is value_is =
    ap (new_row class format slots flags count) value_is
    ∙ ap₂ (λ (f : ℕ) (n : ℕ). new_row class format slots (record { 0 = f }) n (new_slot format)) none
    (count_is ∙ omega (arith, length-copies slots (new_slot format)))
    ∙ sym (words_of_is (new_object class format slots birth))

pub new_storable : (class format slots birth : ℕ) → class < 2 ^ 22 → format_allows format slots ≡ true → slots < 2 ^ 32 → IsStorable (new_object class format slots birth)
new_storable class format slots birth below shape few = record {
  class = below;
  flags = omega arith;
  shape = ap (format_allows format) (length-copies slots (new_slot format)) ∙ shape;
  hash = omega arith;
  count = omega (arith, few, length-copies slots (new_slot format));
}
