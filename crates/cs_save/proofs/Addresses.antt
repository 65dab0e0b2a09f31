-- Where the objects of a memory lie in the file that is saved of it.
use Rattle.std.proofs.Common.{◌≡◌, ℕ, zero, suc, ◌+◌, ◌*◌, ◌%◌, ◌^◌, ◌<◌, ◌≤◌, ◌==◌, Bool, true, false, cond, leb, nat_lt, List, [], ◌∷◌, length, map, take, Option, Some, None, is_some, refl, ap, ◌∙◌, arith, slice_get, option_map}
use Rattle.std.specs.Option.{option_map_or}
use Rattle.std.specs.List.{take-map}
use Rattle.std.proofs.lemmas.List.Sums.{sum_by-cons}
use Rattle.std.proofs.lemmas.Option.{slice_get-map}
use Rattle.std.proofs.lemmas.Bool.Decides.{nat_tests}
use Rattle.cs_heap.specs.Object.{Object, address_among, base, object_place, is_object, heap_object, size, slot_counts, units, units_before, used}
use Rattle.cs_heap.proofs.Laws.{address_of-index, index_of-below, object_at-address, object_placed}
use Rattle.cs_model.specs.SavedFile.{SavedObject, saved_base, saved_sizes, words_before}
use Rattle.cs_model.specs.SoundFile.{saved_address}
use Rattle.cs_save.specs.Filed.{filed, file_address, file_word}
use Rattle.cs_save.proofs.Files.{sizes_filed}
use Rattle.cs_save.proofs.Headers.{length-filed}

-- ---- where the k-th object lies

used-cons : (x : Object) (xs : List Object) → used (x ∷ xs) ≡ size (length x.words) + used xs
used-cons x xs = sum_by-cons size (length x.words) (slot_counts xs)

pub address_is : (xs : List Object) (at k a : ℕ) (x : Object) → address_among (slot_counts xs) at k ≡ Some a → slice_get xs k ≡ Some x
    → a ≡ at + 4 * used (take k xs) + 8 * units_before (length x.words)
unfolding address_among
address_is [] at k a x h e = absurd (cc)
address_is (y ∷ xs) at zero a x h e =
    let same : y ≡ x = cc in
    let there : at + 8 * units_before (length y.words) ≡ a = cc in
    let long : units_before (length y.words) ≡ units_before (length x.words) = ap (λ (z : Object). units_before (length z.words)) same in
    omega (arith, there, long)
address_is (y ∷ xs) at (suc k) a x h e =
    omega (arith, address_is xs (at + 8 * units (length y.words)) k a x h e, used-cons y (take k xs))

-- three objects without slots take 12 words
pub record StartsBare (xs : List Object) : Type 0 where
  pub long : 3 ≤ length xs
  pub bare : (k : ℕ) (x : Object) → slice_get xs k ≡ Some x → k < 3 → length x.words ≡ 0

pub record First (k u : ℕ) : Type 0 where
  pub near : k < 3 → u ≡ 4 * k
  pub far : 3 ≤ k → 12 ≤ u

pub first_used : (xs : List Object) (k : ℕ) (x : Object) → StartsBare xs → slice_get xs k ≡ Some x → First k (used (take k xs))
first_used xs k x s e = go xs k refl
  where
    empty_size : (n : ℕ) → n ≡ 0 → size n ≡ 4
    empty_size n h = ap size h

    go : (ys : List Object) (k : ℕ) → xs ≡ ys → First k (used (take k ys))
    go ys zero h = record { near = λ l. omega arith; far = λ l. absurd (omega (arith, l)) }
    go [] (suc k) h = let l = s.long in let none : length xs ≡ 0 = ap length h in absurd (omega (arith, l, none))
    go (a ∷ []) (suc k) h = let l = s.long in let none : length xs ≡ 1 = ap length h in absurd (omega (arith, l, none))
    go (a ∷ b ∷ []) (suc k) h = let l = s.long in let none : length xs ≡ 2 = ap length h in absurd (omega (arith, l, none))
    go (a ∷ b ∷ c ∷ ys) (suc zero) h =
        let ea = s.bare 0 a (ap (λ (zs : List Object). slice_get zs 0) h) (omega arith) in
        record { near = λ l. omega (arith, used-cons a [], empty_size (length a.words) ea); far = λ l. absurd (omega (arith, l)) }
    go (a ∷ b ∷ c ∷ ys) (suc (suc zero)) h =
        let ea = s.bare 0 a (ap (λ (zs : List Object). slice_get zs 0) h) (omega arith) in
        let eb = s.bare 1 b (ap (λ (zs : List Object). slice_get zs 1) h) (omega arith) in
        record {
          near = λ l. omega (arith, used-cons a (b ∷ []), used-cons b [], empty_size (length a.words) ea, empty_size (length b.words) eb);
          far = λ l. absurd (omega (arith, l));
        }
    go (a ∷ b ∷ c ∷ ys) (suc (suc (suc j))) h =
        let ea = s.bare 0 a (ap (λ (zs : List Object). slice_get zs 0) h) (omega arith) in
        let eb = s.bare 1 b (ap (λ (zs : List Object). slice_get zs 1) h) (omega arith) in
        let ec = s.bare 2 c (ap (λ (zs : List Object). slice_get zs 2) h) (omega arith) in
        record {
          near = λ l. absurd (omega (arith, l));
          far = λ l. omega (
            arith,
            used-cons a (b ∷ c ∷ take j ys),
            used-cons b (c ∷ take j ys),
            used-cons c (take j ys),
            empty_size (length a.words) ea,
            empty_size (length b.words) eb,
            empty_size (length c.words) ec,
          );
        }

-- ---- the words that name them

file_word_of : (w : ℕ) → w % 4 ≡ 0 → file_word w ≡ file_address w
unfolding file_word
file_word_of w h = let zero : (w % 4 == 0) ≡ true = grind (arith, nat_tests, h) in rw zero refl

near_address : (a : ℕ) → a < base + 48 → file_address a ≡ a
near_address a h = let low : nat_lt a (base + 48) ≡ true = grind (arith, nat_tests, h) in rw low refl

far_address : (a : ℕ) → base + 48 ≤ a → a + 88 < 2 ^ 32 → file_address a ≡ a + 88
far_address a h l = let high : nat_lt a (base + 48) ≡ false = grind (arith, nat_tests, h) in rw high (omega (arith, l))

-- an object of a memory, by its address
pub record AtAddress (xs : List Object) (a : ℕ) : Type 0 where
  pub number : ℕ
  pub object : Object
  pub there : slice_get xs number ≡ Some object
  pub found : heap_object xs a ≡ Some object
  pub index : object_place xs a ≡ Some number
  pub filed_there : slice_get (map filed xs) number ≡ Some (filed object)
  pub place : file_word a ≡ saved_address (map filed xs) number

some_get : (xs : List Object) (k : ℕ) → k < length xs → (x : Object) × (slice_get xs k ≡ Some x)
some_get [] k h = absurd (omega (arith, h))
some_get (x ∷ xs) zero h = (x, refl)
some_get (x ∷ xs) (suc k) h = some_get xs k (omega (arith, h))

index_there : (r : Option ℕ) → is_some r ≡ true → (k : ℕ) × (r ≡ Some k)
index_there None h = absurd (cc)
index_there (Some k) h = (k, refl)

pub object_there : (xs : List Object) (a : ℕ) → StartsBare xs → used xs ≤ 67108864 → is_object xs a ≡ true → AtAddress xs a
unfolding filed
object_there xs a s few h =
    let i = index_there (object_place xs a) h in
    let at = address_of-index xs a i.0 i.1 in
    let x = some_get xs i.0 (index_of-below xs a i.0 i.1) in
    let p = object_placed xs a h in
    let at_is = address_is xs base i.0 a x.0 at x.1 in
    let first = first_used xs i.0 x.0 s x.1 in
    let filed_there : slice_get (map filed xs) i.0 ≡ Some (filed x.0) = slice_get-map filed xs i.0 ∙ ap (option_map filed) x.1 in
    let sizes : saved_sizes (take i.0 (map filed xs)) ≡ used (take i.0 xs) = ap saved_sizes (take-map filed i.0 xs) ∙ sizes_filed (take i.0 xs) in
    let long = length-filed x.0.format x.0.words in
    let before : words_before (option_map_or (λ (o : SavedObject). length o.words) (slice_get (map filed xs) i.0) 0) ≡ 2 * units_before (length x.0.words)
    = ap (λ (r : Option SavedObject). words_before (option_map_or (λ o. length o.words) r 0)) filed_there ∙ ap words_before long ∙ doubled (length x.0.words) in
    let word = file_word_of a (omega (arith, p.aligned)) in
    record {
      number = i.0;
      object = x.0;
      there = x.1;
      index = i.1;
      found = object_at-address xs a i.0 at ∙ x.1;
      filed_there = filed_there;
      place = word ∙ go (nat_lt i.0 3) refl at_is first sizes before p.below x.1;
    }
  where
    doubled : (n : ℕ) → words_before n ≡ 2 * units_before n
    doubled n = by_size (leb 255 n)
      where
        by_size : (b : Bool) → ◌≡◌ {A = ℕ} (cond b 2 0) (2 * cond b 1 0)
        by_size true = refl
        by_size false = refl

    go : {k : ℕ} {x : Object} {sizes before : ℕ} (b : Bool) → nat_lt k 3 ≡ b → a ≡ base + 4 * used (take k xs) + 8 * units_before (length x.words) → First k (used (take k xs))
        → sizes ≡ used (take k xs) → before ≡ 2 * units_before (length x.words) → a < base + 4 * used xs → slice_get xs k ≡ Some x
        → file_address a ≡ saved_base + 4 * (sizes + cond (nat_lt k 3) 0 22 + before)
    go {k} {x} {sizes} {before} true e at first same long below get =
        let low : k < 3 = grind (arith, nat_tests, e) in
        let none : units_before (length x.words) ≡ 0 = ap units_before (s.bare k x get low) in
        let u = first.near low in
        let gap : ◌≡◌ {A = ℕ} (cond (nat_lt k 3) 0 22) 0 = ap {B = ℕ} (λ (c : Bool). cond c 0 22) e in
        near_address a (omega (arith, at, u, none, low)) ∙ omega (arith, at, gap, same, long)
    go {k} {x} {sizes} {before} false e at first same long below get =
        let high : 3 ≤ k = grind (arith, nat_tests, e) in
        let u = first.far high in
        let gap : ◌≡◌ {A = ℕ} (cond (nat_lt k 3) 0 22) 22 = ap {B = ℕ} (λ (c : Bool). cond c 0 22) e in
        far_address a (omega (arith, at, u)) (omega (arith, below, few)) ∙ omega (arith, at, gap, same, long)
