-- The laws of the object memory, for the crates above: what is read after a write and after an allocation, and how the
-- addresses lie. A function over a heap often needs no proof file where it names the ruleset at the end of this file:
-- #[tactic(auto, using(cs_heap::proofs::Laws::heap_laws))].
use Rattle.std.proofs.Common.{◌≡◌, ◌≢◌, ◌⊎◌, inl, inr, ℕ, zero, suc, ◌+◌, ◌*◌, ◌/◌, ◌%◌, ◌<◌, ◌≤◌, Bool, true, false, cond, List, [], ◌∷◌, ◌++◌, length, get_or, map, Option, Some, None, option_map, option_and_then, is_some, refl, ap, sym, ◌∙◌, arith, eqb, get_or-set_same, get_or-set_other, length-append}
use Rattle.std.proofs.lemmas.List.{length-replicate, length-set}
use Rattle.std.proofs.lemmas.Bool.Decides.{nat_tests}
use Rattle.std.specs.Prelude.{slice_get, slice_set, sum_by}
use Rattle.std.specs.Option.{option_map_or}
use Rattle.cs_model.specs.Words.{byte_in}
use Rattle.cs_heap.specs.Object.{Object, address_among, address_of, at_index, base, birth_at, class_at, format_at, byte_of, part_at, hash_at, header_address, index_among, object_place, is_immutable_at, is_object, new_object, new_slot, next_address, next_of, heap_object, set_word, size, slot_count_of, slot_counts, slot_of, units, used, byte_set, with_byte_in, fixed_set, hash_set, with_object, slot_set}
use Rattle.cs_word.specs.Header.{flag_bits, with_immutable}
use Rattle.cs_heap.proofs.Places.{Found, address_past, found_by_address, found_by_index, has_index, index_split, next_of-found, object_at-found, split_by_index, used-append, used-cons, used-push}

-- ---- addresses and indices

-- an index and an address that lead to one another
pub address_of-index : (xs : List Object) (a k : ℕ) → object_place xs a ≡ Some k → address_of xs k ≡ Some a
address_of-index xs a k h = (found_by_address xs a k h).address_is

pub index_of-address : (xs : List Object) (a k : ℕ) → address_of xs k ≡ Some a → object_place xs a ≡ Some k
index_of-address xs a k h = (found_by_index xs a k h).index_is

-- two objects of one index have one address
pub index_of-injective : (xs : List Object) (a b k : ℕ) → object_place xs a ≡ Some k → object_place xs b ≡ Some k → a ≡ b
index_of-injective xs a b k h i =
    let p : address_of xs k ≡ Some a = address_of-index xs a k h in
    let q : address_of xs k ≡ Some b = address_of-index xs b k i in
    cc

pub address_of-injective : (xs : List Object) (j k a : ℕ) → address_of xs j ≡ Some a → address_of xs k ≡ Some a → j ≡ k
address_of-injective xs j k a h i =
    let p : object_place xs a ≡ Some j = index_of-address xs a j h in
    let q : object_place xs a ≡ Some k = index_of-address xs a k i in
    cc

-- looking up an address is looking up its index
pub object_at-address : (xs : List Object) (a k : ℕ) → address_of xs k ≡ Some a → heap_object xs a ≡ slice_get xs k
object_at-address xs a k h = ap (option_and_then (slice_get xs)) (index_of-address xs a k h)

-- there are as many addresses as objects
pub index_of-below : (xs : List Object) (a k : ℕ) → object_place xs a ≡ Some k → k < length xs
index_of-below xs a k h =
    let s = (found_by_address xs a k h).split in
    omega (arith, s.count, ap length s.list, length-append s.before (s.x ∷ s.after))

pub address_of-below : (xs : List Object) (k : ℕ) → k < length xs → is_some (address_of xs k) ≡ true
unfolding address_among
address_of-below xs k h = go xs base k h
  where
    go : (xs : List Object) (at k : ℕ) → k < length xs → is_some (address_among (slot_counts xs) at k) ≡ true
    go [] at k h = absurd (omega (arith, h))
    go (x ∷ xs) at zero h = refl
    go (x ∷ xs) at (suc k) h = go xs (at + 8 * units (length x.words)) k (omega (arith, h))

pub address_of-past : (xs : List Object) (k : ℕ) → length xs ≤ k → address_of xs k ≡ None
address_of-past xs k h = address_past xs base k h

-- the walk by `next` follows the list
pub next_of-address : (xs : List Object) (a k : ℕ) → address_of xs k ≡ Some a → next_of xs a ≡ address_of xs (k + 1)
next_of-address xs a k h = next_of-found xs a k (found_by_index xs a k h)

-- every address is a multiple of 8, from that of the first object on, and the object ends within the words that are used
pub record IsPlaced (xs : List Object) (a : ℕ) : Type 0 where
  pub above : base ≤ a
  pub aligned : a % 8 ≡ 0
  pub below : a < base + 4 * used xs
  pub ends : a + 8 + 4 * slot_count_of xs a ≤ base + 4 * used xs

pub object_placed : (xs : List Object) (a : ℕ) → is_object xs a ≡ true → IsPlaced xs a
object_placed xs a h =
    let f = has_index xs a h in
    let s = f.1.split in
    let all : used xs ≡ used s.before + (size (length s.x.words) + used s.after) =
    ap used s.list ∙ used-append s.before (s.x ∷ s.after) ∙ ap (λ (n : ℕ). used s.before + n) (used-cons s.x s.after) in
    let slots : slot_count_of xs a ≡ length s.x.words = ap (λ (o : Option Object). option_map_or (λ (x : Object). length x.words) o 0) (object_at-found xs a f.0 f.1) in
    let even : used s.before % 2 ≡ 0 = used_even s.before in
    record {
      above = omega (arith, s.place);
      aligned = omega (arith, s.place, even);
      below = omega (arith, s.place, all);
      ends = omega (arith, s.place, all, slots);
    }
  where
    used_even : (xs : List Object) → used xs % 2 ≡ 0
    used_even [] = refl
    used_even (x ∷ xs) = omega (arith, used-cons x xs, used_even xs)

-- objects stand in the order of their addresses
pub address_of-rising : (xs : List Object) (j k a b : ℕ) → address_of xs j ≡ Some a → address_of xs k ≡ Some b → j < k → a < b
unfolding address_among
address_of-rising xs j k a b h i less = go xs base j k h i less
  where
    above : (xs : List Object) (at k b : ℕ) → address_among (slot_counts xs) at k ≡ Some b → at ≤ b
    above xs at k b h = let s = split_by_index xs at b k h in omega (arith, s.place)

    go : (xs : List Object) (at j k : ℕ) → address_among (slot_counts xs) at j ≡ Some a → address_among (slot_counts xs) at k ≡ Some b → j < k → a < b
    go [] at j k h i less = absurd (cc)
    go (x ∷ xs) at j zero h i less = absurd (omega (arith, less))
    go (x ∷ xs) at zero (suc k) h i less =
        let here : header_address at (length x.words) ≡ a = cc in
        let there : at + 8 * units (length x.words) ≤ b = above xs (at + 8 * units (length x.words)) k b i in
        omega (arith, here, there)
    go (x ∷ xs) at (suc j) (suc k) h i less = go xs (at + 8 * units (length x.words)) j k h i (omega (arith, less))

-- ---- an object that keeps its number of slots is changed

abbrev pub KeepsCount : (Object → Object) → Type 0
KeepsCount f = (x : Object) → length (f x).words ≡ length x.words

map-at_index : {Y : Type 0} (g : Object → Y) (k : ℕ) (f : Object → Object) (xs : List Object) → ((x : Object) → g (f x) ≡ g x) → map g (at_index k f xs) ≡ map g xs
unfolding at_index
map-at_index g k f [] h = refl
map-at_index g zero f (x ∷ xs) h = ap (λ y. y ∷ map g xs) (h x)
map-at_index g (suc k) f (x ∷ xs) h = ap (λ ys. g x ∷ ys) (map-at_index g k f xs h)

-- what the change leaves alone, of all objects at once, as their births or their slot counts
pub map-with_object : {Y : Type 0} (g : Object → Y) (xs : List Object) (a : ℕ) (f : Object → Object) → ((x : Object) → g (f x) ≡ g x) → map g (with_object xs a f) ≡ map g xs
map-with_object g xs a f h = go (object_place xs a)
  where
    go : (o : Option ℕ) → map g (option_map_or (λ k. at_index k f xs) o xs) ≡ map g xs
    go None = refl
    go (Some k) = map-at_index g k f xs h

pub slot_counts-with_object : (xs : List Object) (a : ℕ) (f : Object → Object) → KeepsCount f → slot_counts (with_object xs a f) ≡ slot_counts xs
slot_counts-with_object xs a f h = map-with_object (λ (x : Object). length x.words) xs a f h

-- the change is one at the object's index
pub with_object-index : (xs : List Object) (a k : ℕ) (f : Object → Object) → object_place xs a ≡ Some k → with_object xs a f ≡ at_index k f xs
with_object-index xs a k f h = ap (λ (o : Option ℕ). option_map_or (λ (j : ℕ). at_index j f xs) o xs) h

pub length-with_object : (xs : List Object) (a : ℕ) (f : Object → Object) → length (with_object xs a f) ≡ length xs
unfolding at_index
length-with_object xs a f = go (object_place xs a)
  where
    at : (k : ℕ) (xs : List Object) → length (at_index k f xs) ≡ length xs
    at k [] = refl
    at zero (x ∷ xs) = refl
    at (suc k) (x ∷ xs) = ap suc (at k xs)

    go : (o : Option ℕ) → length (option_map_or (λ k. at_index k f xs) o xs) ≡ length xs
    go None = refl
    go (Some k) = at k xs

pub used-with_object : (xs : List Object) (a : ℕ) (f : Object → Object) → KeepsCount f → used (with_object xs a f) ≡ used xs
used-with_object xs a f h = ap (sum_by size) (slot_counts-with_object xs a f h)

pub index_of-with_object : (xs : List Object) (a b : ℕ) (f : Object → Object) → KeepsCount f → object_place (with_object xs a f) b ≡ object_place xs b
index_of-with_object xs a b f h = ap (λ (ns : List ℕ). index_among ns base b) (slot_counts-with_object xs a f h)

pub is_object-with_object : (xs : List Object) (a b : ℕ) (f : Object → Object) → KeepsCount f → is_object (with_object xs a f) b ≡ is_object xs b
is_object-with_object xs a b f h = ap is_some (index_of-with_object xs a b f h)

pub address_of-with_object : (xs : List Object) (a k : ℕ) (f : Object → Object) → KeepsCount f → address_of (with_object xs a f) k ≡ address_of xs k
address_of-with_object xs a k f h = ap (λ (ns : List ℕ). address_among ns base k) (slot_counts-with_object xs a f h)

pub next_address-with_object : (xs : List Object) (a slots : ℕ) (f : Object → Object) → KeepsCount f → next_address (with_object xs a f) slots ≡ next_address xs slots
next_address-with_object xs a slots f h = ap (λ (n : ℕ). header_address (base + 4 * n) slots) (used-with_object xs a f h)

pub slice_get-at_index_same : (k : ℕ) (f : Object → Object) (xs : List Object) → slice_get (at_index k f xs) k ≡ option_map f (slice_get xs k)
unfolding at_index
slice_get-at_index_same k f [] = refl
slice_get-at_index_same zero f (x ∷ xs) = refl
slice_get-at_index_same (suc k) f (x ∷ xs) = slice_get-at_index_same k f xs

pub slice_get-at_index_other : (k j : ℕ) (f : Object → Object) (xs : List Object) → k ≢ j → slice_get (at_index k f xs) j ≡ slice_get xs j
unfolding at_index
slice_get-at_index_other k j f [] h = refl
slice_get-at_index_other zero zero f (x ∷ xs) h = absurd (h refl)
slice_get-at_index_other zero (suc j) f (x ∷ xs) h = refl
slice_get-at_index_other (suc k) zero f (x ∷ xs) h = refl
slice_get-at_index_other (suc k) (suc j) f (x ∷ xs) h = slice_get-at_index_other k j f xs (λ e. h (ap suc e))

-- the object itself
pub object_at-with_object_same : (xs : List Object) (a : ℕ) (f : Object → Object) → KeepsCount f → heap_object (with_object xs a f) a ≡ option_map f (heap_object xs a)
object_at-with_object_same xs a f h = ap (option_and_then (slice_get (with_object xs a f))) (index_of-with_object xs a a f h) ∙ go (object_place xs a)
  where
    go : (o : Option ℕ) → option_and_then (slice_get (option_map_or (λ k. at_index k f xs) o xs)) o ≡ option_map f (option_and_then (slice_get xs) o)
    go None = refl
    go (Some k) = slice_get-at_index_same k f xs

-- every other one
pub object_at-with_object_other : (xs : List Object) (a b : ℕ) (f : Object → Object) → KeepsCount f → a ≢ b → heap_object (with_object xs a f) b ≡ heap_object xs b
object_at-with_object_other xs a b f h other =
    ap (option_and_then (slice_get (with_object xs a f))) (index_of-with_object xs a b f h) ∙ go (object_place xs a) refl (object_place xs b) refl
  where
    go : (o : Option ℕ) → object_place xs a ≡ o → (p : Option ℕ) → object_place xs b ≡ p
        → option_and_then (slice_get (option_map_or (λ k. at_index k f xs) o xs)) p ≡ option_and_then (slice_get xs) p
    go None i p j = refl
    go (Some k) i None j = refl
    go (Some k) i (Some l) j = slice_get-at_index_other k l f xs (λ e. other (index_of-injective xs a b l (i ∙ ap Some e) j))

pub field_of-with_object_same : (g : Object → ℕ) (xs : List Object) (a : ℕ) (f : Object → Object) → KeepsCount f → part_at g (with_object xs a f) a ≡ part_at (λ x. g (f x)) xs a
field_of-with_object_same g xs a f h = ap (λ (o : Option Object). option_map_or g o 0) (object_at-with_object_same xs a f h) ∙ go (heap_object xs a)
  where
    go : (o : Option Object) → option_map_or g (option_map f o) 0 ≡ option_map_or (λ x. g (f x)) o 0
    go None = refl
    go (Some x) = refl

pub field_of-with_object_other : (g : Object → ℕ) (xs : List Object) (a b : ℕ) (f : Object → Object) → KeepsCount f → a ≢ b → part_at g (with_object xs a f) b ≡ part_at g xs b
field_of-with_object_other g xs a b f h other = ap (λ (o : Option Object). option_map_or g o 0) (object_at-with_object_other xs a b f h other)

-- what the change leaves alone, of any object
pub field_of-with_object_kept : (g : Object → ℕ) (xs : List Object) (a b : ℕ) (f : Object → Object) → KeepsCount f → ((x : Object) → g (f x) ≡ g x) → part_at g (with_object xs a f) b ≡ part_at g xs b
unfolding at_index
field_of-with_object_kept g xs a b f h same =
    ap (λ (o : Option ℕ). option_map_or g (option_and_then (slice_get (with_object xs a f)) o) 0) (index_of-with_object xs a b f h) ∙ go (object_place xs a) (object_place xs b)
  where
    at : (k j : ℕ) (xs : List Object) → option_map_or g (slice_get (at_index k f xs) j) 0 ≡ option_map_or g (slice_get xs j) 0
    at k j [] = refl
    at zero zero (x ∷ xs) = same x
    at zero (suc j) (x ∷ xs) = refl
    at (suc k) zero (x ∷ xs) = refl
    at (suc k) (suc j) (x ∷ xs) = at k j xs

    go : (o p : Option ℕ) → option_map_or g (option_and_then (slice_get (option_map_or (λ k. at_index k f xs) o xs)) p) 0 ≡ option_map_or g (option_and_then (slice_get xs) p) 0
    go None p = refl
    go (Some k) None = refl
    go (Some k) (Some j) = at k j xs

-- ---- a slot is stored

pub set_word_keeps : (i v : ℕ) → KeepsCount (set_word i v)
set_word_keeps i v x = length-set x.words i v

pub index_of-with_slot : (xs : List Object) (a i v b : ℕ) → object_place (slot_set xs a i v) b ≡ object_place xs b
index_of-with_slot xs a i v b = index_of-with_object xs a b (set_word i v) (set_word_keeps i v)

pub is_object-with_slot : (xs : List Object) (a i v b : ℕ) → is_object (slot_set xs a i v) b ≡ is_object xs b
is_object-with_slot xs a i v b = ap is_some (index_of-with_slot xs a i v b)

pub used-with_slot : (xs : List Object) (a i v : ℕ) → used (slot_set xs a i v) ≡ used xs
used-with_slot xs a i v = used-with_object xs a (set_word i v) (set_word_keeps i v)

-- class, format, hash, birth and the number of slots stay: each is a field that the store keeps
pub field_of-with_slot : (g : Object → ℕ) (xs : List Object) (a i v b : ℕ) → ((x : Object) → g (set_word i v x) ≡ g x) → part_at g (slot_set xs a i v) b ≡ part_at g xs b
field_of-with_slot g xs a i v b same = field_of-with_object_kept g xs a b (set_word i v) (set_word_keeps i v) same

pub class_of-with_slot : (xs : List Object) (a i v b : ℕ) → class_at (slot_set xs a i v) b ≡ class_at xs b
class_of-with_slot xs a i v b = field_of-with_slot (λ (x : Object). x.class) xs a i v b (λ x. refl)

pub format_of-with_slot : (xs : List Object) (a i v b : ℕ) → format_at (slot_set xs a i v) b ≡ format_at xs b
format_of-with_slot xs a i v b = field_of-with_slot (λ (x : Object). x.format) xs a i v b (λ x. refl)

pub hash_of-with_slot : (xs : List Object) (a i v b : ℕ) → hash_at (slot_set xs a i v) b ≡ hash_at xs b
hash_of-with_slot xs a i v b = field_of-with_slot (λ (x : Object). x.hash) xs a i v b (λ x. refl)

pub birth_of-with_slot : (xs : List Object) (a i v b : ℕ) → birth_at (slot_set xs a i v) b ≡ birth_at xs b
birth_of-with_slot xs a i v b = field_of-with_slot (λ (x : Object). x.birth) xs a i v b (λ x. refl)

pub slot_count_of-with_slot : (xs : List Object) (a i v b : ℕ) → slot_count_of (slot_set xs a i v) b ≡ slot_count_of xs b
slot_count_of-with_slot xs a i v b = field_of-with_slot (λ (x : Object). length x.words) xs a i v b (set_word_keeps i v)

-- what was stored is read
pub slot_of-with_slot_same : (xs : List Object) (a i v : ℕ) → i < slot_count_of xs a → slot_of (slot_set xs a i v) a i ≡ v
slot_of-with_slot_same xs a i v h =
    field_of-with_object_same (λ (x : Object). get_or x.words i 0) xs a (set_word i v) (set_word_keeps i v) ∙ go (heap_object xs a) h
  where
    go : (o : Option Object) → i < option_map_or (λ x. length x.words) o 0 → option_map_or (λ x. get_or (slice_set x.words i v) i 0) o 0 ≡ v
    go None h = absurd (omega (arith, h))
    go (Some x) h = get_or-set_same x.words i v 0 h

-- every other slot is as it was
pub slot_of-with_slot_other_slot : (xs : List Object) (a i v b j : ℕ) → j ≢ i → slot_of (slot_set xs a i v) b j ≡ slot_of xs b j
slot_of-with_slot_other_slot xs a i v b j other =
    field_of-with_slot (λ (x : Object). get_or x.words j 0) xs a i v b (λ x. get_or-set_other x.words i j v 0 other)

pub slot_of-with_slot_other_object : (xs : List Object) (a i v b j : ℕ) → a ≢ b → slot_of (slot_set xs a i v) b j ≡ slot_of xs b j
slot_of-with_slot_other_object xs a i v b j other =
    field_of-with_object_other (λ (x : Object). get_or x.words j 0) xs a b (set_word i v) (set_word_keeps i v) other

-- ---- a hash is given

abbrev pub give_hash : ℕ → Object → Object
give_hash hash x = record x { hash = hash }

pub index_of-with_hash : (xs : List Object) (a hash b : ℕ) → object_place (hash_set xs a hash) b ≡ object_place xs b
index_of-with_hash xs a hash b = index_of-with_object xs a b (give_hash hash) (λ x. refl)

pub is_object-with_hash : (xs : List Object) (a hash b : ℕ) → is_object (hash_set xs a hash) b ≡ is_object xs b
is_object-with_hash xs a hash b = ap is_some (index_of-with_hash xs a hash b)

pub used-with_hash : (xs : List Object) (a hash : ℕ) → used (hash_set xs a hash) ≡ used xs
used-with_hash xs a hash = used-with_object xs a (give_hash hash) (λ x. refl)

-- all but the hash stays
pub field_of-with_hash : (g : Object → ℕ) (xs : List Object) (a hash b : ℕ) → ((x : Object) → g (give_hash hash x) ≡ g x) → part_at g (hash_set xs a hash) b ≡ part_at g xs b
field_of-with_hash g xs a hash b same = field_of-with_object_kept g xs a b (give_hash hash) (λ x. refl) same

pub class_of-with_hash : (xs : List Object) (a hash b : ℕ) → class_at (hash_set xs a hash) b ≡ class_at xs b
class_of-with_hash xs a hash b = field_of-with_hash (λ (x : Object). x.class) xs a hash b (λ x. refl)

pub format_of-with_hash : (xs : List Object) (a hash b : ℕ) → format_at (hash_set xs a hash) b ≡ format_at xs b
format_of-with_hash xs a hash b = field_of-with_hash (λ (x : Object). x.format) xs a hash b (λ x. refl)

pub birth_of-with_hash : (xs : List Object) (a hash b : ℕ) → birth_at (hash_set xs a hash) b ≡ birth_at xs b
birth_of-with_hash xs a hash b = field_of-with_hash (λ (x : Object). x.birth) xs a hash b (λ x. refl)

pub slot_count_of-with_hash : (xs : List Object) (a hash b : ℕ) → slot_count_of (hash_set xs a hash) b ≡ slot_count_of xs b
slot_count_of-with_hash xs a hash b = field_of-with_hash (λ (x : Object). length x.words) xs a hash b (λ x. refl)

pub slot_of-with_hash : (xs : List Object) (a hash b i : ℕ) → slot_of (hash_set xs a hash) b i ≡ slot_of xs b i
slot_of-with_hash xs a hash b i = field_of-with_hash (λ (x : Object). get_or x.words i 0) xs a hash b (λ x. refl)

pub hash_of-with_hash_same : (xs : List Object) (a hash : ℕ) → is_object xs a ≡ true → hash_at (hash_set xs a hash) a ≡ hash
hash_of-with_hash_same xs a hash h = let f = has_index xs a h in
    field_of-with_object_same (λ (x : Object). x.hash) xs a (give_hash hash) (λ x. refl)
    ∙ ap (λ (o : Option Object). option_map_or (λ (x : Object). hash) o 0) (object_at-found xs a f.0 f.1)

pub hash_of-with_hash_other : (xs : List Object) (a hash b : ℕ) → a ≢ b → hash_at (hash_set xs a hash) b ≡ hash_at xs b
hash_of-with_hash_other xs a hash b other = field_of-with_object_other (λ (x : Object). x.hash) xs a b (give_hash hash) (λ x. refl) other

-- ---- an object is made read-only, or is so no longer

abbrev pub give_fixed : Bool → Object → Object
give_fixed on x = record x { flags = with_immutable on x.flags }

pub index_of-with_fixed : (xs : List Object) (a : ℕ) (on : Bool) (b : ℕ) → object_place (fixed_set xs a on) b ≡ object_place xs b
index_of-with_fixed xs a on b = index_of-with_object xs a b (give_fixed on) (λ x. refl)

pub is_object-with_fixed : (xs : List Object) (a : ℕ) (on : Bool) (b : ℕ) → is_object (fixed_set xs a on) b ≡ is_object xs b
is_object-with_fixed xs a on b = ap is_some (index_of-with_fixed xs a on b)

pub used-with_fixed : (xs : List Object) (a : ℕ) (on : Bool) → used (fixed_set xs a on) ≡ used xs
used-with_fixed xs a on = used-with_object xs a (give_fixed on) (λ x. refl)

-- all but the flags stays
pub field_of-with_fixed : (g : Object → ℕ) (xs : List Object) (a : ℕ) (on : Bool) (b : ℕ) → ((x : Object) → g (give_fixed on x) ≡ g x) → part_at g (fixed_set xs a on) b ≡ part_at g xs b
field_of-with_fixed g xs a on b same = field_of-with_object_kept g xs a b (give_fixed on) (λ x. refl) same

pub class_of-with_fixed : (xs : List Object) (a : ℕ) (on : Bool) (b : ℕ) → class_at (fixed_set xs a on) b ≡ class_at xs b
class_of-with_fixed xs a on b = field_of-with_fixed (λ (x : Object). x.class) xs a on b (λ x. refl)

pub format_of-with_fixed : (xs : List Object) (a : ℕ) (on : Bool) (b : ℕ) → format_at (fixed_set xs a on) b ≡ format_at xs b
format_of-with_fixed xs a on b = field_of-with_fixed (λ (x : Object). x.format) xs a on b (λ x. refl)

pub hash_of-with_fixed : (xs : List Object) (a : ℕ) (on : Bool) (b : ℕ) → hash_at (fixed_set xs a on) b ≡ hash_at xs b
hash_of-with_fixed xs a on b = field_of-with_fixed (λ (x : Object). x.hash) xs a on b (λ x. refl)

pub birth_of-with_fixed : (xs : List Object) (a : ℕ) (on : Bool) (b : ℕ) → birth_at (fixed_set xs a on) b ≡ birth_at xs b
birth_of-with_fixed xs a on b = field_of-with_fixed (λ (x : Object). x.birth) xs a on b (λ x. refl)

pub slot_count_of-with_fixed : (xs : List Object) (a : ℕ) (on : Bool) (b : ℕ) → slot_count_of (fixed_set xs a on) b ≡ slot_count_of xs b
slot_count_of-with_fixed xs a on b = field_of-with_fixed (λ (x : Object). length x.words) xs a on b (λ x. refl)

pub slot_of-with_fixed : (xs : List Object) (a : ℕ) (on : Bool) (b i : ℕ) → slot_of (fixed_set xs a on) b i ≡ slot_of xs b i
slot_of-with_fixed xs a on b i = field_of-with_fixed (λ (x : Object). get_or x.words i 0) xs a on b (λ x. refl)

lowest : (on : Bool) (n : ℕ) → eqb ((n / 2 * 2 + cond on 1 0) % 2) 1 ≡ on
lowest true n = grind (arith, nat_tests)
lowest false n = grind (arith, nat_tests)

pub is_immutable_at-with_fixed_same : (xs : List Object) (a : ℕ) (on : Bool) → is_object xs a ≡ true → is_immutable_at (fixed_set xs a on) a ≡ on
is_immutable_at-with_fixed_same xs a on h =
    let f = has_index xs a h in
    ap (λ (n : ℕ). eqb (n % 2) 1) (field_of-with_object_same (λ (x : Object). flag_bits x.flags) xs a (give_fixed on) (λ x. refl)
    ∙ ap (λ (o : Option Object). option_map_or (λ (x : Object). flag_bits x.flags / 2 * 2 + cond on 1 0) o 0) (object_at-found xs a f.0 f.1))
    ∙ lowest on (flag_bits f.1.split.x.flags)

pub is_immutable_at-with_fixed_other : (xs : List Object) (a : ℕ) (on : Bool) (b : ℕ) → a ≢ b → is_immutable_at (fixed_set xs a on) b ≡ is_immutable_at xs b
is_immutable_at-with_fixed_other xs a on b other = ap (λ (n : ℕ). eqb (n % 2) 1) (field_of-with_object_other (λ (x : Object). flag_bits x.flags) xs a b (give_fixed on) (λ x. refl) other)

-- stores and hashes leave it
pub is_immutable_at-with_slot : (xs : List Object) (a i v b : ℕ) → is_immutable_at (slot_set xs a i v) b ≡ is_immutable_at xs b
is_immutable_at-with_slot xs a i v b = ap (λ (n : ℕ). eqb (n % 2) 1) (field_of-with_slot (λ (x : Object). flag_bits x.flags) xs a i v b (λ x. refl))

pub is_immutable_at-with_hash : (xs : List Object) (a hash b : ℕ) → is_immutable_at (hash_set xs a hash) b ≡ is_immutable_at xs b
is_immutable_at-with_hash xs a hash b = ap (λ (n : ℕ). eqb (n % 2) 1) (field_of-with_hash (λ (x : Object). flag_bits x.flags) xs a hash b (λ x. refl))

-- ---- a byte is stored

-- a word with one byte replaced: that byte, and the others
pub byte_in-with_byte_in_same : (w j b : ℕ) → j < 4 → b < 256 → byte_in (with_byte_in w j b) j ≡ b
byte_in-with_byte_in_same w zero b h small = omega (arith, small)
byte_in-with_byte_in_same w (suc zero) b h small = omega (arith, small)
byte_in-with_byte_in_same w (suc (suc zero)) b h small = omega (arith, small)
byte_in-with_byte_in_same w (suc (suc (suc zero))) b h small = omega (arith, small)
byte_in-with_byte_in_same w (suc (suc (suc (suc j)))) b h small = absurd (omega (arith, h))

pub byte_in-with_byte_in_other : (w j k b : ℕ) → j < 4 → k < 4 → k ≢ j → b < 256 → byte_in (with_byte_in w j b) k ≡ byte_in w k
byte_in-with_byte_in_other w zero zero b h i other small = absurd (other refl)
byte_in-with_byte_in_other w zero (suc zero) b h i other small = omega (arith, small)
byte_in-with_byte_in_other w zero (suc (suc zero)) b h i other small = omega (arith, small)
byte_in-with_byte_in_other w zero (suc (suc (suc zero))) b h i other small = omega (arith, small)
byte_in-with_byte_in_other w (suc zero) zero b h i other small = omega (arith, small)
byte_in-with_byte_in_other w (suc zero) (suc zero) b h i other small = absurd (other refl)
byte_in-with_byte_in_other w (suc zero) (suc (suc zero)) b h i other small = omega (arith, small)
byte_in-with_byte_in_other w (suc zero) (suc (suc (suc zero))) b h i other small = omega (arith, small)
byte_in-with_byte_in_other w (suc (suc zero)) zero b h i other small = omega (arith, small)
byte_in-with_byte_in_other w (suc (suc zero)) (suc zero) b h i other small = omega (arith, small)
byte_in-with_byte_in_other w (suc (suc zero)) (suc (suc zero)) b h i other small = absurd (other refl)
byte_in-with_byte_in_other w (suc (suc zero)) (suc (suc (suc zero))) b h i other small = omega (arith, small)
byte_in-with_byte_in_other w (suc (suc (suc zero))) zero b h i other small = omega (arith, small)
byte_in-with_byte_in_other w (suc (suc (suc zero))) (suc zero) b h i other small = omega (arith, small)
byte_in-with_byte_in_other w (suc (suc (suc zero))) (suc (suc zero)) b h i other small = omega (arith, small)
byte_in-with_byte_in_other w (suc (suc (suc zero))) (suc (suc (suc zero))) b h i other small = absurd (other refl)
byte_in-with_byte_in_other w (suc (suc (suc (suc j)))) k b h i other small = absurd (omega (arith, h))
byte_in-with_byte_in_other w j (suc (suc (suc (suc k)))) b h i other small = absurd (omega (arith, i))

pub byte_of-with_byte_same : (xs : List Object) (a i b : ℕ) → i < 4 * slot_count_of xs a → b < 256 → byte_of (byte_set xs a i b) a i ≡ b
byte_of-with_byte_same xs a i b h small =
    ap (λ (w : ℕ). byte_in w (i % 4)) (slot_of-with_slot_same xs a (i / 4) (with_byte_in (slot_of xs a (i / 4)) (i % 4) b) (omega (arith, h)))
    ∙ byte_in-with_byte_in_same (slot_of xs a (i / 4)) (i % 4) b (omega arith) small

pub byte_of-with_byte_other_byte : (xs : List Object) (a i b j : ℕ) → i < 4 * slot_count_of xs a → b < 256 → j ≢ i → byte_of (byte_set xs a i b) a j ≡ byte_of xs a j
byte_of-with_byte_other_byte xs a i b j h small other = go (eqb (j / 4) (i / 4)) refl
  where
    v : ℕ
    v = with_byte_in (slot_of xs a (i / 4)) (i % 4) b

    go : (t : Bool) → eqb (j / 4) (i / 4) ≡ t → byte_of (byte_set xs a i b) a j ≡ byte_of xs a j
    go true e =
        let same : j / 4 ≡ i / 4 = grind (arith, nat_tests) in
        let apart : j % 4 ≢ i % 4 = λ f. other (omega (arith, same, f)) in
        ap (λ (w : ℕ). byte_in w (j % 4)) (ap (slot_of (byte_set xs a i b) a) same ∙ slot_of-with_slot_same xs a (i / 4) v (omega (arith, h)))
        ∙ byte_in-with_byte_in_other (slot_of xs a (i / 4)) (i % 4) (j % 4) b (omega arith) (omega arith) apart small
        ∙ ap (λ (k : ℕ). byte_in (slot_of xs a k) (j % 4)) (sym same)
    go false e =
        let apart : j / 4 ≢ i / 4 = λ f. differ (j / 4) (i / 4) e f in
        ap (λ (w : ℕ). byte_in w (j % 4)) (slot_of-with_slot_other_slot xs a (i / 4) v a (j / 4) apart)
      where
        differ : (m n : ℕ) → eqb m n ≡ false → m ≡ n → ⊥
        differ m n e f = let t : eqb m n ≡ true = grind (arith, nat_tests) in let no : ⊥ = cc in no

pub byte_of-with_byte_other_object : (xs : List Object) (a i b c j : ℕ) → a ≢ c → byte_of (byte_set xs a i b) c j ≡ byte_of xs c j
byte_of-with_byte_other_object xs a i b c j other =
    ap (λ (w : ℕ). byte_in w (j % 4)) (slot_of-with_slot_other_object xs a (i / 4) (with_byte_in (slot_of xs a (i / 4)) (i % 4) b) c (j / 4) other)

-- ---- an object is added at the end

abbrev pub pushed : List Object → Object → List Object
pushed xs y = xs ++ y ∷ []

pub length-new_words : (class format slots birth : ℕ) → length (new_object class format slots birth).words ≡ slots
length-new_words class format slots birth = length-replicate slots (new_slot format)

-- the address that `allocate` answers, in the form of the laws below
pub next_address-new : (xs : List Object) (a class format slots birth : ℕ) → a ≡ next_address xs slots → a ≡ next_address xs (length (new_object class format slots birth).words)
next_address-new xs a class format slots birth h = h ∙ ap (next_address xs) (sym (length-new_words class format slots birth))

-- the new object has the next address and the next index
pub index_of-new : (xs : List Object) (y : Object) (a : ℕ) → a ≡ next_address xs (length y.words) → object_place (pushed xs y) a ≡ Some (length xs)
index_of-new xs y a h = index_split xs [] y base a h

pub is_object-new : (xs : List Object) (y : Object) (a : ℕ) → a ≡ next_address xs (length y.words) → is_object (pushed xs y) a ≡ true
is_object-new xs y a h = ap is_some (index_of-new xs y a h)

pub object_at-new : (xs : List Object) (y : Object) (a : ℕ) → a ≡ next_address xs (length y.words) → heap_object (pushed xs y) a ≡ Some y
object_at-new xs y a h = ap (option_and_then (slice_get (pushed xs y))) (index_of-new xs y a h) ∙ last xs
  where
    last : (xs : List Object) → slice_get (xs ++ y ∷ []) (length xs) ≡ Some y
    last [] = refl
    last (x ∷ xs) = last xs

pub field_of-new : (g : Object → ℕ) (xs : List Object) (y : Object) (a : ℕ) → a ≡ next_address xs (length y.words) → part_at g (pushed xs y) a ≡ g y
field_of-new g xs y a h = ap (λ (o : Option Object). option_map_or g o 0) (object_at-new xs y a h)

-- a change of the new object is another new object
pub with_object-new : (xs : List Object) (y : Object) (a : ℕ) (f : Object → Object) → a ≡ next_address xs (length y.words) → with_object (pushed xs y) a f ≡ pushed xs (f y)
unfolding at_index
with_object-new xs y a f h = ap (λ (o : Option ℕ). option_map_or (λ k. at_index k f (pushed xs y)) o (pushed xs y)) (index_of-new xs y a h) ∙ last xs
  where
    last : (xs : List Object) → at_index (length xs) f (xs ++ y ∷ []) ≡ xs ++ f y ∷ []
    last [] = refl
    last (x ∷ xs) = ap (λ (zs : List Object). x ∷ zs) (last xs)

pub with_slot-new : (xs : List Object) (y : Object) (a i v : ℕ) → a ≡ next_address xs (length y.words) → slot_set (pushed xs y) a i v ≡ pushed xs (set_word i v y)
with_slot-new xs y a i v h = with_object-new xs y a (set_word i v) h

pub next_address-set_word : (xs : List Object) (y : Object) (a i v : ℕ) → a ≡ next_address xs (length y.words) → a ≡ next_address xs (length (set_word i v y).words)
next_address-set_word xs y a i v h = h ∙ ap (next_address xs) (sym (set_word_keeps i v y))

pub with_hash-new : (xs : List Object) (y : Object) (a hash : ℕ) → a ≡ next_address xs (length y.words) → hash_set (pushed xs y) a hash ≡ pushed xs (give_hash hash y)
with_hash-new xs y a hash h = with_object-new xs y a (give_hash hash) h

pub is_immutable_at-new : (xs : List Object) (a class format slots birth : ℕ) → a ≡ next_address xs slots → is_immutable_at (pushed xs (new_object class format slots birth)) a ≡ false
is_immutable_at-new xs a class format slots birth h =
    ap (λ (n : ℕ). eqb (n % 2) 1) (field_of-new (λ (x : Object). flag_bits x.flags) xs (new_object class format slots birth) a (next_address-new xs a class format slots birth h))

-- before, nothing was there
pub no_object-next : (xs : List Object) (slots : ℕ) → is_object xs (next_address xs slots) ≡ false
no_object-next xs slots = go (is_object xs (next_address xs slots)) refl
  where
    go : (b : Bool) → is_object xs (next_address xs slots) ≡ b → is_object xs (next_address xs slots) ≡ false
    go false e = e
    go true e = absurd (let p = object_placed xs (next_address xs slots) e in omega (arith, p.below))

-- the others stay where they were
pub index_of-old : (xs : List Object) (y : Object) (a k : ℕ) → object_place xs a ≡ Some k → object_place (pushed xs y) a ≡ Some k
index_of-old xs y a k h = let s = (found_by_address xs a k h).split in
    ap (λ (zs : List Object). object_place (pushed zs y) a) s.list
    ∙ ap (λ (zs : List Object). object_place zs a) (regroup s.before s.after s.x)
    ∙ index_split s.before (pushed s.after y) s.x base a s.place ∙ ap Some s.count
  where
    regroup : (before after : List Object) (x : Object) → (before ++ x ∷ after) ++ y ∷ [] ≡ before ++ x ∷ (after ++ y ∷ [])
    regroup [] after x = refl
    regroup (z ∷ zs) after x = ap (λ (ws : List Object). z ∷ ws) (regroup zs after x)

pub is_object-old : (xs : List Object) (y : Object) (a : ℕ) → is_object xs a ≡ true → is_object (pushed xs y) a ≡ true
is_object-old xs y a h = let f = has_index xs a h in ap is_some (index_of-old xs y a f.0 f.1.index_is)

pub object_at-old : (xs : List Object) (y : Object) (a : ℕ) → is_object xs a ≡ true → heap_object (pushed xs y) a ≡ heap_object xs a
object_at-old xs y a h =
    let f = has_index xs a h in
    ap (option_and_then (slice_get (pushed xs y))) (index_of-old xs y a f.0 f.1.index_is)
    ∙ within xs f.0 (index_of-below xs a f.0 f.1.index_is)
    ∙ sym (ap (option_and_then (slice_get xs)) f.1.index_is)
  where
    within : (xs : List Object) (k : ℕ) → k < length xs → slice_get (xs ++ y ∷ []) k ≡ slice_get xs k
    within [] k h = absurd (omega (arith, h))
    within (x ∷ xs) zero h = refl
    within (x ∷ xs) (suc k) h = within xs k (omega (arith, h))

pub field_of-old : (g : Object → ℕ) (xs : List Object) (y : Object) (a : ℕ) → is_object xs a ≡ true → part_at g (pushed xs y) a ≡ part_at g xs a
field_of-old g xs y a h = ap (λ (o : Option Object). option_map_or g o 0) (object_at-old xs y a h)

-- and there is no other new one
pub is_object-pushed : (xs : List Object) (y : Object) (a : ℕ) → is_object (pushed xs y) a ≡ true → (is_object xs a ≡ true) ⊎ (a ≡ next_address xs (length y.words))
is_object-pushed xs y a h =
    let f = has_index (pushed xs y) a h in
    go (is_object xs a) refl f.0 f.1
  where
    new_is : (k : ℕ) → Found (pushed xs y) a k → length xs ≤ k → a ≡ next_address xs (length y.words)
    new_is k f past =
        let within = index_of-below (pushed xs y) a k f.index_is in
        let last : length xs ≡ k = omega (arith, past, within, length-append xs (y ∷ [])) in
        index_of-injective (pushed xs y) a (next_address xs (length y.words)) k f.index_is (index_of-new xs y (next_address xs (length y.words)) refl ∙ ap Some last)

    old_is : (k : ℕ) → Found (pushed xs y) a k → k < length xs → is_object xs a ≡ true
    old_is k f within = has (address_of xs k) refl (address_of-below xs k within)
      where
        has : (o : Option ℕ) → address_of xs k ≡ o → is_some o ≡ true → is_object xs a ≡ true
        has None e h = absurd (cc)
        has (Some b) e h =
            let at : object_place xs b ≡ Some k = index_of-address xs b k e in
            let same : a ≡ b = index_of-injective (pushed xs y) a b k f.index_is (index_of-old xs y b k at) in
            ap is_some (ap (object_place xs) same ∙ at)

    go : (b : Bool) → is_object xs a ≡ b → (k : ℕ) → Found (pushed xs y) a k → (is_object xs a ≡ true) ⊎ (a ≡ next_address xs (length y.words))
    go true e k f = inl e
    go false e k f = inr (new_is k f (past k f e))
      where
        past : (k : ℕ) → Found (pushed xs y) a k → is_object xs a ≡ false → length xs ≤ k
        past k f e = omega (arith, (λ (less : k < length xs). let t : is_object xs a ≡ true = old_is k f less in let no : ⊥ = cc in no))

pub used-pushed : (xs : List Object) (y : Object) → used (pushed xs y) ≡ used xs + size (length y.words)
used-pushed xs y = used-push xs y

-- what the tactics may use of a heap after a call
pub ruleset heap_laws = (is_object-with_slot, class_of-with_slot, format_of-with_slot, hash_of-with_slot, birth_of-with_slot, slot_count_of-with_slot, slot_of-with_slot_same, slot_of-with_slot_other_slot, slot_of-with_slot_other_object, used-with_slot, is_object-with_hash, class_of-with_hash, format_of-with_hash, birth_of-with_hash, slot_count_of-with_hash, slot_of-with_hash, hash_of-with_hash_same, hash_of-with_hash_other, used-with_hash, is_object-with_fixed, class_of-with_fixed, format_of-with_fixed, hash_of-with_fixed, birth_of-with_fixed, slot_count_of-with_fixed, slot_of-with_fixed, used-with_fixed, is_immutable_at-with_fixed_same, is_immutable_at-with_fixed_other, is_immutable_at-with_slot, is_immutable_at-with_hash, is_immutable_at-new, next_address-new, next_address-set_word, is_object-new, field_of-new, with_slot-new, with_hash-new, is_object-old, field_of-old)
