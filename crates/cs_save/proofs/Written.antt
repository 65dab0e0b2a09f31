-- What was written in two parts.
use Rattle.std.proofs.Common.{◌≡◌, ◌≢◌, ℕ, zero, suc, ◌+◌, ◌-◌, ◌*◌, ◌/◌, ◌%◌, ◌^◌, ◌<◌, ◌≤◌, List, [], ◌∷◌, ◌++◌, take, drop, length, map, slice_get, Option, Some, None, Result, Ok, Err, option_map, refl, ap, ap₂, sym, subst, ◌∙◌, arith, min, append_assoc}
use Rattle.std.specs.Prelude.{flat_map, IfSome, OnErr}
use Rattle.std.specs.Int.{to_le_bytes}
use Rattle.std.proofs.lemmas.Nat.{and_mask}
use Rattle.std.proofs.lemmas.List.Sums.{sum_by-cons}
use Rattle.std.specs.Int.Bits.{bit_and}
use Rattle.std.proofs.Common.{is_some, w32, leb, Bool, true, false}
use Rattle.std.proofs.lemmas.Bool.Decides.{nat_tests}
use Rattle.std.specs.List.{range_with_len}
use Rattle.std.proofs.lemmas.Grind.{flat_map-append}
use Rattle.std.proofs.lemmas.List.{append-nil, drop-drop, take-append-le, take_all, take_min}
use Rattle.std.proofs.Math.Seq.{take-append-add}
use Rattle.cs_shelf.specs.Outside.{AppendsPart, Fault, Rose, save_fault}
use Rattle.cs_heap.specs.Object.{Object, address_of, is_object, next_of, heap_object, used, size, slot_counts}
use Rattle.cs_heap.proofs.Laws.{address_of-below, address_of-past, index_of-address, next_of-address, object_at-address}
use Rattle.cs_model.specs.Words.{bytes_of_words}
use Rattle.cs_model.proofs.SavedNumbers.{bytes_of_words-append}
use Rattle.cs_save.specs.Writing.{Gathering, WentOn, BrokeOff, OthersStay, WroteWords, BrokeWords, writing, gathered}
use Rattle.cs_model.specs.SavedFile.{overflow_words, halves}

behind : (t : Option (List ℕ)) (xs ys : List ℕ) → option_map (λ (before : List ℕ). before ++ ys) (option_map (λ (before : List ℕ). before ++ xs) t)
    ≡ option_map (λ (before : List ℕ). before ++ (xs ++ ys)) t
behind None xs ys = refl
behind (Some t) xs ys = ap Some (append_assoc t xs ys)

pub went_then : (a b c : Gathering) (xs ys : List ℕ) → WentOn a b xs → WentOn b c ys → WentOn a c (xs ++ ys)
went_then a b c xs ys h k = record {
  begun = k.begun ∙ h.begun;
  others = λ other differs. k.others other (rw h.begun differs) ∙ h.others other differs;
  asked = k.asked ∙ h.asked;
  never_falls = omega (arith, h.never_falls, k.never_falls);
  last = k.last ∙ h.last;
  taken = k.taken ∙ ap (option_map (λ (before : List ℕ). before ++ ys)) h.taken ∙ behind (gathered a) xs ys;
}

pub rose_later : (x y z : ℕ) → x ≤ y → Rose y z → Rose x z
rose_later x y z h r = omega (arith, h, r)

pub broke_then : (a b c : Gathering) (xs ys : List ℕ) → WentOn a b xs → BrokeOff b c ys → BrokeOff a c (xs ++ ys)
broke_then a b c xs ys h k = record {
  begun = k.begun;
  others = λ other differs. k.others other (rw h.begun differs) ∙ h.others other differs;
  asked = k.asked ∙ h.asked;
  never_falls = omega (arith, h.never_falls, k.never_falls);
  rose = rose_later a.faults b.faults c.faults h.never_falls k.rose;
  last = rw (← h.begun) k.last;
  taken = (k.taken.0, k.taken.1 ∙ part k.taken.0 (gathered a) (gathered b) h.taken);
}
  where
    part : (n : ℕ) (t s : Option (List ℕ)) → s ≡ option_map (λ (before : List ℕ). before ++ xs) t
        → option_map (λ (before : List ℕ). take n (before ++ ys)) s ≡ option_map (λ (before : List ℕ). take n (before ++ (xs ++ ys))) t
    part n None s e = ap (option_map (λ (before : List ℕ). take n (before ++ ys))) e
    part n (Some t) s e = ap (option_map (λ (before : List ℕ). take n (before ++ ys))) e ∙ ap (λ (zs : List ℕ). Some (take n zs)) (append_assoc t xs ys)

-- the first bytes are the first of more
pub broke_first : (a c : Gathering) (xs ys : List ℕ) → BrokeOff a c xs → BrokeOff a c (xs ++ ys)
broke_first a c xs ys k = record {
  begun = k.begun;
  others = k.others;
  asked = k.asked;
  never_falls = k.never_falls;
  rose = k.rose;
  last = k.last;
  taken = part (gathered a) k.taken.0 k.taken.1;
}
  where
    shorter : (n : ℕ) (zs : List ℕ) → take (min n (length zs)) (zs ++ ys) ≡ take n zs
    shorter n zs = take-append-le (min n (length zs)) zs ys (omega arith) ∙ take_min n zs

    part : (t : Option (List ℕ)) (n : ℕ) → c.taken ≡ option_map (λ (before : List ℕ). take n (before ++ xs)) t
        → (m : ℕ) × (c.taken ≡ option_map (λ (before : List ℕ). take m (before ++ (xs ++ ys))) t)
    part None n e = (n, e)
    part (Some t) n e = (min n (length (t ++ xs)), e ∙ ap Some (sym (ap (take (min n (length (t ++ xs)))) (sym (append_assoc t xs ys)) ∙ shorter n (t ++ xs))))

pub went_same : (a b : Gathering) (xs ys : List ℕ) → xs ≡ ys → WentOn a b xs → WentOn a b ys
went_same a b xs ys e h = let P : List ℕ → Type 0 = λ zs. WentOn a b zs in subst P e h

pub broke_same : (a b : Gathering) (xs ys : List ℕ) → xs ≡ ys → BrokeOff a b xs → BrokeOff a b ys
broke_same a b xs ys e h = let P : List ℕ → Type 0 = λ zs. BrokeOff a b zs in subst P e h

-- nothing was written
pub went_nowhere : (a : Gathering) → WentOn a a []
went_nowhere a = record {
  begun = refl;
  others = λ other differs. refl;
  asked = refl;
  never_falls = omega arith;
  last = refl;
  taken = none (gathered a);
}
  where
    none : (t : Option (List ℕ)) → t ≡ option_map (λ (before : List ℕ). before ++ []) t
    none None = refl
    none (Some t) = ap Some (sym (append-nil t))

-- ---- words

pub goes_then : (a b c : Gathering) (xs ys zs : List ℕ) → zs ≡ xs ++ ys → WroteWords a b xs → WroteWords b c ys → WroteWords a c zs
goes_then a b c xs ys zs e h k =
    went_same a c (bytes_of_words xs ++ bytes_of_words ys) (bytes_of_words zs) (sym (ap bytes_of_words e ∙ bytes_of_words-append xs ys))
    (went_then a b c (bytes_of_words xs) (bytes_of_words ys) h k)

pub breaks_first : (a c : Gathering) (xs ys zs : List ℕ) → zs ≡ xs ++ ys → BrokeWords a c xs → BrokeWords a c zs
breaks_first a c xs ys zs e k =
    broke_same a c (bytes_of_words xs ++ bytes_of_words ys) (bytes_of_words zs) (sym (ap bytes_of_words e ∙ bytes_of_words-append xs ys))
    (broke_first a c (bytes_of_words xs) (bytes_of_words ys) k)

pub breaks_then : (a b c : Gathering) (xs ys zs : List ℕ) → zs ≡ xs ++ ys → WroteWords a b xs → BrokeWords b c ys → BrokeWords a c zs
breaks_then a b c xs ys zs e h k =
    broke_same a c (bytes_of_words xs ++ bytes_of_words ys) (bytes_of_words zs) (sym (ap bytes_of_words e ∙ bytes_of_words-append xs ys))
    (broke_then a b c (bytes_of_words xs) (bytes_of_words ys) h k)

-- one part of three
pub breaks_in : (a b c : Gathering) (xs ys rest zs : List ℕ) → zs ≡ xs ++ (ys ++ rest) → WroteWords a b xs → BrokeWords b c ys → BrokeWords a c zs
breaks_in a b c xs ys rest zs e h k = breaks_then a b c xs (ys ++ rest) zs e h (breaks_first b c ys rest (ys ++ rest) refl k)

pub on_err : {T E : Type 0} (r : Result T E) (P : Type 0) → P → OnErr r P
on_err (Ok x) P p = tt
on_err (Err e) P p = p

-- ---- loops

pub range_parts : (f : ℕ → ℕ) (a i n k : ℕ) → i < n → k ≡ a + i
    → map f (range_with_len a n) ≡ map f (range_with_len a i) ++ (f k ∷ [] ++ map f (range_with_len (k + 1) (n - (i + 1))))
range_parts f a i zero k h e = absurd (omega (arith, h))
range_parts f a zero (suc n) k h e =
    let same : a ≡ k = omega (arith, e) in
    let left : n ≡ suc n - (0 + 1) = omega arith in
    ap₂ (λ (b m : ℕ). f b ∷ map f (range_with_len (b + 1) m)) same left
range_parts f a (suc i) (suc n) k h e =
    ap (λ (ys : List ℕ). f a ∷ ys) (range_parts f (a + 1) i n k (omega (arith, h)) (omega (arith, e)))
    ∙ ap (λ (m : ℕ). f a ∷ (map f (range_with_len (a + 1) i) ++ (f k ∷ [] ++ map f (range_with_len (k + 1) m)))) (omega arith)

pub range_one_more : (f : ℕ → ℕ) (a i j k : ℕ) → j ≡ i + 1 → k ≡ a + i → map f (range_with_len a j) ≡ map f (range_with_len a i) ++ f k ∷ []
range_one_more f a i j k e h =
    let none : j - (i + 1) ≡ 0 = omega (arith, e) in
    range_parts f a i j k (omega (arith, e)) h
    ∙ ap (λ (m : ℕ). map f (range_with_len a i) ++ (f k ∷ [] ++ map f (range_with_len (k + 1) m))) none

pub flat_parts : (f : ℕ → List ℕ) (a i n k : ℕ) → i < n → k ≡ a + i
    → flat_map f (range_with_len a n) ≡ flat_map f (range_with_len a i) ++ (f k ++ flat_map f (range_with_len (k + 1) (n - (i + 1))))
flat_parts f a i zero k h e = absurd (omega (arith, h))
flat_parts f a zero (suc n) k h e =
    let same : a ≡ k = omega (arith, e) in
    let left : n ≡ suc n - (0 + 1) = omega arith in
    ap₂ (λ (b m : ℕ). f b ++ flat_map f (range_with_len (b + 1) m)) same left
flat_parts f a (suc i) (suc n) k h e =
    ap (λ (ys : List ℕ). f a ++ ys) (flat_parts f (a + 1) i n k (omega (arith, h)) (omega (arith, e)))
    ∙ ap (λ (m : ℕ). f a ++ (flat_map f (range_with_len (a + 1) i) ++ (f k ++ flat_map f (range_with_len (k + 1) m)))) (omega arith)
    ∙ sym (append_assoc (f a) (flat_map f (range_with_len (a + 1) i)) (f k ++ flat_map f (range_with_len (k + 1) (suc n - (suc i + 1)))))

pub flat_one_more : (f : ℕ → List ℕ) (a i j k : ℕ) → j ≡ i + 1 → k ≡ a + i → flat_map f (range_with_len a j) ≡ flat_map f (range_with_len a i) ++ f k
flat_one_more f a i j k e h =
    let none : j - (i + 1) ≡ 0 = omega (arith, e) in
    flat_parts f a i j k (omega (arith, e)) h
    ∙ ap (λ (m : ℕ). flat_map f (range_with_len a i) ++ (f k ++ flat_map f (range_with_len (k + 1) m))) none
    ∙ ap (λ (ys : List ℕ). flat_map f (range_with_len a i) ++ ys) (append-nil (f k))

-- the elements from one number up to another
first_parts : (xs : List Object) (k n : ℕ) (x : Object) → k < n → slice_get xs k ≡ Some x → take n xs ≡ take k xs ++ (x ∷ take (n - suc k) (drop (suc k) xs))
first_parts [] k n x g e = absurd (cc)
first_parts (y ∷ xs) k zero x g e = absurd (omega (arith, g))
first_parts (y ∷ xs) zero (suc n) x g e =
    let same : y ≡ x = cc in
    let left : n ≡ suc n - 1 = omega arith in
    ap₂ (λ (z : Object) (m : ℕ). z ∷ take m xs) same left
first_parts (y ∷ xs) (suc k) (suc n) x g e =
    let left : n - suc k ≡ suc n - suc (suc k) = omega arith in
    ap (λ (zs : List Object). y ∷ zs) (first_parts xs k n x (omega (arith, g)) e)
    ∙ ap (λ (m : ℕ). y ∷ (take k xs ++ (x ∷ take m (drop (suc k) xs)))) left

get_dropped : (xs : List Object) (from k : ℕ) (x : Object) → from ≤ k → slice_get xs k ≡ Some x → slice_get (drop from xs) (k - from) ≡ Some x
get_dropped xs zero k x h e = let same : k - 0 ≡ k = omega arith in ap (slice_get xs) same ∙ e
get_dropped [] (suc from) k x h e = absurd (cc)
get_dropped (y ∷ xs) (suc from) zero x h e = absurd (omega (arith, h))
get_dropped (y ∷ xs) (suc from) (suc k) x h e =
    let same : suc k - suc from ≡ k - from = omega arith in
    ap (slice_get (drop from xs)) same ∙ get_dropped xs from k x (omega (arith, h)) e

pub piece_parts : (xs : List Object) (from k end : ℕ) (x : Object) → from ≤ k → k < end → slice_get xs k ≡ Some x
    → take (end - from) (drop from xs) ≡ take (k - from) (drop from xs) ++ (x ∷ take (end - (k + 1)) (drop (k + 1) xs))
piece_parts xs from k end x h g e =
    let left : end - from - suc (k - from) ≡ end - (k + 1) = omega (arith, h, g) in
    let place : suc (k - from) + from ≡ k + 1 = omega (arith, h) in
    first_parts (drop from xs) (k - from) (end - from) x (omega (arith, h, g)) (get_dropped xs from k x h e)
    ∙ ap₂ (λ (m : ℕ) (zs : List Object). take (k - from) (drop from xs) ++ (x ∷ take m zs)) left
    (drop-drop (suc (k - from)) from xs ∙ ap (λ (m : ℕ). drop m xs) (omega (arith, h)))

pub objects_parts : (g : Object → List ℕ) (xs : List Object) (from k end : ℕ) (x : Object) → from ≤ k → k < end → slice_get xs k ≡ Some x
    → flat_map g (take (end - from) (drop from xs)) ≡ flat_map g (take (k - from) (drop from xs)) ++ (g x ++ flat_map g (take (end - (k + 1)) (drop (k + 1) xs)))
objects_parts g xs from k end x h l e =
    ap (flat_map g) (piece_parts xs from k end x h l e)
    ∙ flat_map-append g (take (k - from) (drop from xs)) (x ∷ take (end - (k + 1)) (drop (k + 1) xs))

pub objects_one_more : (g : Object → List ℕ) (xs : List Object) (from k end : ℕ) (x : Object) → from ≤ k → end ≡ k + 1 → slice_get xs k ≡ Some x
    → flat_map g (take (end - from) (drop from xs)) ≡ flat_map g (take (k - from) (drop from xs)) ++ g x
objects_one_more g xs from k end x h l e =
    let none : end - (k + 1) ≡ 0 = omega (arith, l) in
    objects_parts g xs from k end x h (omega (arith, l)) e
    ∙ ap (λ (m : ℕ). flat_map g (take (k - from) (drop from xs)) ++ (g x ++ flat_map g (take m (drop (k + 1) xs)))) none
    ∙ ap (λ (ys : List ℕ). flat_map g (take (k - from) (drop from xs)) ++ ys) (append-nil (g x))

-- ---- the piece

-- a failed append of the whole piece
pub flush_broke : (a b : Gathering) (bytes : List ℕ) → bytes ≡ a.piece → b.begun ≡ None → OthersStay a b → b.asked ≡ a.asked → a.faults ≤ b.faults → Rose a.faults b.faults
    → IfSome a.begun (λ name. b.last ≡ save_fault name) → AppendsPart a.taken b.taken bytes → BrokeOff a b []
flush_broke a b bytes is begun others asked falls rose last part = record {
  begun = begun;
  others = others;
  asked = asked;
  never_falls = falls;
  rose = rose;
  last = last;
  taken = go a.taken part.0 (part.2 ∙ ap (λ (bs : List ℕ). option_map (λ (taken : List ℕ). taken ++ take part.0 bs) a.taken) is);
}
  where
    go : (t : Option (List ℕ)) (n : ℕ) → b.taken ≡ option_map (λ (taken : List ℕ). taken ++ take n a.piece) t
        → (m : ℕ) × (b.taken ≡ option_map (λ (before : List ℕ). take m (before ++ [])) (option_map (λ (bs : List ℕ). bs ++ a.piece) t))
    go None n e = (0, e)
    go (Some t) n e = (length t + n, e ∙ ap Some (sym (ap (take (length t + n)) (append-nil (t ++ a.piece)) ∙ take-append-add t a.piece n)))

-- the bytes of a word
pub le_four : (n : ℕ) → to_le_bytes w32 n ≡ bytes_of_words (n ∷ [])
unfolding bytes_of_words
le_four n =
    let one : n ≡ n / 1 = omega arith in
    ap (λ (k : ℕ). k % 256 ∷ n / 256 % 256 ∷ n / 65536 % 256 ∷ n / 16777216 % 256 ∷ []) one

pub no_bytes : bytes_of_words [] ≡ []
unfolding bytes_of_words
no_bytes = refl

pub overflow_long : (n : ℕ) → 255 ≤ n → overflow_words n ≡ n ∷ 255 * 2 ^ 24 ∷ []
unfolding overflow_words
overflow_long n h = let e : leb 255 n ≡ true = grind (arith, nat_tests, h) in rw e refl

pub overflow_short : (n : ℕ) → n < 255 → overflow_words n ≡ []
unfolding overflow_words
overflow_short n h = let e : leb 255 n ≡ false = grind (arith, nat_tests, h) in rw e refl

-- the halves of a number
pub halves_are : (n : ℕ) → halves n ≡ bit_and n 4294967295 ∷ n / 4294967296 ∷ []
halves_are n = ap (λ (k : ℕ). k ∷ n / 4294967296 ∷ []) (sym (and_mask n 32))

-- ---- loops over numbers

pub loop_begun : (a : Gathering) → WroteWords a a []
loop_begun a = went_same a a [] (bytes_of_words []) (sym no_bytes) (went_nowhere a)

pub loop_more : (a b c : Gathering) (f : ℕ → ℕ) (from i j k w : ℕ) → WroteWords a b (map f (range_with_len from i)) → WroteWords b c (w ∷ [])
    → w ≡ f k → j ≡ i + 1 → k ≡ from + i → WroteWords a c (map f (range_with_len from j))
loop_more a b c f from i j k w h g e l m =
    goes_then a b c (map f (range_with_len from i)) (w ∷ []) (map f (range_with_len from j))
    (range_one_more f from i j k l m ∙ ap (λ (v : ℕ). map f (range_with_len from i) ++ v ∷ []) (sym e)) h g

pub loop_broke : (a b c : Gathering) (f : ℕ → ℕ) (from i n k w : ℕ) → WroteWords a b (map f (range_with_len from i)) → BrokeWords b c (w ∷ [])
    → w ≡ f k → i < n → k ≡ from + i → BrokeWords a c (map f (range_with_len from n))
loop_broke a b c f from i n k w h g e l m =
    breaks_in a b c (map f (range_with_len from i)) (w ∷ []) (map f (range_with_len (k + 1) (n - (i + 1)))) (map f (range_with_len from n))
    (range_parts f from i n k l m ∙ ap (λ (v : ℕ). map f (range_with_len from i) ++ (v ∷ [] ++ map f (range_with_len (k + 1) (n - (i + 1))))) (sym e)) h g

pub pages_more : (a b c : Gathering) (f : ℕ → List ℕ) (i : ℕ) → WroteWords a b (flat_map f (range_with_len 0 i)) → WroteWords b c (f i)
    → WroteWords a c (flat_map f (range_with_len 0 (i + 1)))
pages_more a b c f i h g =
    goes_then a b c (flat_map f (range_with_len 0 i)) (f i) (flat_map f (range_with_len 0 (i + 1))) (flat_one_more f 0 i (i + 1) i refl (omega arith)) h g

pub pages_broke : (a b c : Gathering) (f : ℕ → List ℕ) (i n : ℕ) → WroteWords a b (flat_map f (range_with_len 0 i)) → BrokeWords b c (f i)
    → i < n → BrokeWords a c (flat_map f (range_with_len 0 n))
pages_broke a b c f i n h g l =
    breaks_in a b c (flat_map f (range_with_len 0 i)) (f i) (flat_map f (range_with_len (i + 1) (n - (i + 1)))) (flat_map f (range_with_len 0 n))
    (flat_parts f 0 i n i l (omega arith)) h g

-- ---- loops over objects

-- an address is that of the object of this number
pub record AtNumber (xs : List Object) (k a : ℕ) : Type 0 where
  pub below : k < length xs
  pub object : is_object xs a ≡ true
  pub next : next_of xs a ≡ address_of xs (k + 1)
  pub get : heap_object xs a ≡ slice_get xs k

pub at_number : (xs : List Object) (k a : ℕ) → address_of xs k ≡ Some a → AtNumber xs k a
at_number xs k a e = record {
  below = go (leb (length xs) k) refl;
  object = ap is_some (index_of-address xs a k e);
  next = next_of-address xs a k e;
  get = object_at-address xs a k e;
}
  where
    go : (b : Bool) → leb (length xs) k ≡ b → k < length xs
    go true h =
        let past : address_of xs k ≡ None = address_of-past xs k (grind (arith, nat_tests, h)) in
        absurd (cc (sym past ∙ e))
    go false h = grind (arith, nat_tests, h)

pub none_at : (xs : List Object) (k : ℕ) → address_of xs k ≡ None → length xs ≤ k
none_at xs k e = go (leb (length xs) k) refl
  where
    go : (b : Bool) → leb (length xs) k ≡ b → length xs ≤ k
    go true h = grind (arith, nat_tests, h)
    go false h =
        let lies : k < length xs = grind (arith, nat_tests, h) in
        absurd (cc (sym (address_of-below xs k lies) ∙ ap is_some e))

pub objects_more : (a b c : Gathering) (g : Object → List ℕ) (xs : List Object) (from k end address : ℕ) (ws : List ℕ) → AtNumber xs k address
    → ((x : Object) → heap_object xs address ≡ Some x → ws ≡ g x) → from ≤ k → end ≡ k + 1
    → WroteWords a b (flat_map g (take (k - from) (drop from xs))) → WroteWords b c ws → WroteWords a c (flat_map g (take (end - from) (drop from xs)))
objects_more a b c g xs from k end address ws at words h l wrote more = go (slice_get xs k) refl (slice_get_there xs k at.below)
  where
    slice_get_there : (ys : List Object) (k : ℕ) → k < length ys → is_some (slice_get ys k) ≡ true
    slice_get_there [] k h = absurd (omega (arith, h))
    slice_get_there (y ∷ ys) zero h = refl
    slice_get_there (y ∷ ys) (suc k) h = slice_get_there ys k (omega (arith, h))

    go : (r : Option Object) → slice_get xs k ≡ r → is_some r ≡ true → WroteWords a c (flat_map g (take (end - from) (drop from xs)))
    go None e h = absurd (cc)
    go (Some x) e s =
        goes_then a b c (flat_map g (take (k - from) (drop from xs))) ws (flat_map g (take (end - from) (drop from xs)))
        (objects_one_more g xs from k end x h l e ∙ ap (λ (ys : List ℕ). flat_map g (take (k - from) (drop from xs)) ++ ys) (sym (words x (at.get ∙ e)))) wrote more

pub objects_broke : (a b c : Gathering) (g : Object → List ℕ) (xs : List Object) (from k end address : ℕ) (ws : List ℕ) → AtNumber xs k address
    → ((x : Object) → heap_object xs address ≡ Some x → ws ≡ g x) → from ≤ k → k < end
    → WroteWords a b (flat_map g (take (k - from) (drop from xs))) → BrokeWords b c ws → BrokeWords a c (flat_map g (take (end - from) (drop from xs)))
objects_broke a b c g xs from k end address ws at words h l wrote more = go (slice_get xs k) refl (slice_get_there xs k at.below)
  where
    slice_get_there : (ys : List Object) (k : ℕ) → k < length ys → is_some (slice_get ys k) ≡ true
    slice_get_there [] k h = absurd (omega (arith, h))
    slice_get_there (y ∷ ys) zero h = refl
    slice_get_there (y ∷ ys) (suc k) h = slice_get_there ys k (omega (arith, h))

    go : (r : Option Object) → slice_get xs k ≡ r → is_some r ≡ true → BrokeWords a c (flat_map g (take (end - from) (drop from xs)))
    go None e h = absurd (cc)
    go (Some x) e s =
        breaks_in a b c (flat_map g (take (k - from) (drop from xs))) ws (flat_map g (take (end - (k + 1)) (drop (k + 1) xs))) (flat_map g (take (end - from) (drop from xs)))
        (objects_parts g xs from k end x h l e ∙ ap (λ (ys : List ℕ). flat_map g (take (k - from) (drop from xs)) ++ (ys ++ flat_map g (take (end - (k + 1)) (drop (k + 1) xs)))) (sym (words x (at.get ∙ e)))) wrote more

pub used_least : (xs : List Object) → 4 * length xs ≤ used xs
used_least [] = omega arith
used_least (x ∷ xs) = omega (arith, used_least xs, sum_by-cons size (length x.words) (slot_counts xs))

-- ---- the whole content

-- with nothing written before
empty_behind : (t : Option (List ℕ)) → option_map (λ (bytes : List ℕ). bytes ++ []) t ≡ t
empty_behind None = refl
empty_behind (Some t) = ap Some (append-nil t)

begun_empty : (t : Option (List ℕ)) (a : Gathering) → a.taken ≡ option_map (λ (taken : List ℕ). []) t → a.piece ≡ [] → gathered a ≡ option_map (λ (taken : List ℕ). []) t
begun_empty t a e p = ap (λ (ps : List ℕ). option_map (λ (bytes : List ℕ). bytes ++ ps) a.taken) p ∙ empty_behind a.taken ∙ e

pub whole_taken : (t : Option (List ℕ)) (a b c : Gathering) (bytes : List ℕ) → a.taken ≡ option_map (λ (taken : List ℕ). []) t → a.piece ≡ [] → WentOn a b bytes → WentOn b c []
    → c.piece ≡ [] → c.taken ≡ option_map (λ (taken : List ℕ). bytes) t
whole_taken t a b c bytes e p h k q =
    sym (ap (λ (ps : List ℕ). option_map (λ (bs : List ℕ). bs ++ ps) c.taken) q ∙ empty_behind c.taken)
    ∙ (went_then a b c bytes [] h k).taken
    ∙ ap (option_map (λ (before : List ℕ). before ++ (bytes ++ []))) (begun_empty t a e p)
    ∙ go t
  where
    go : (t : Option (List ℕ)) → option_map (λ (before : List ℕ). before ++ (bytes ++ [])) (option_map (λ (taken : List ℕ). []) t) ≡ option_map (λ (taken : List ℕ). bytes) t
    go None = refl
    go (Some t) = ap Some (append-nil bytes)

pub part_taken : (t : Option (List ℕ)) (a c : Gathering) (bytes : List ℕ) → a.taken ≡ option_map (λ (taken : List ℕ). []) t → a.piece ≡ [] → BrokeOff a c bytes
    → (n : ℕ) × (c.taken ≡ option_map (λ (taken : List ℕ). take n bytes) t)
part_taken t a c bytes e p k =
    (k.taken.0, k.taken.1 ∙ ap (option_map (λ (before : List ℕ). take k.taken.0 (before ++ bytes))) (begun_empty t a e p) ∙ go t)
  where
    go : (t : Option (List ℕ)) → option_map (λ (before : List ℕ). take k.taken.0 (before ++ bytes)) (option_map (λ (taken : List ℕ). []) t) ≡ option_map (λ (taken : List ℕ). take k.taken.0 bytes) t
    go None = refl
    go (Some t) = refl

pub late_part_taken : (t : Option (List ℕ)) (a b c : Gathering) (bytes : List ℕ) → a.taken ≡ option_map (λ (taken : List ℕ). []) t → a.piece ≡ [] → WentOn a b bytes → BrokeOff b c []
    → (n : ℕ) × (c.taken ≡ option_map (λ (taken : List ℕ). take n bytes) t)
late_part_taken t a b c bytes e p h k = part_taken t a c bytes e p (broke_same a c (bytes ++ []) bytes (append-nil bytes) (broke_then a b c bytes [] h k))

pub none_taken : (t s : Option (List ℕ)) (bytes : List ℕ) → s ≡ option_map (λ (taken : List ℕ). []) t → (n : ℕ) × (s ≡ option_map (λ (taken : List ℕ). take n bytes) t)
none_taken t s bytes e = (0, e)

pub all_taken : (t s : Option (List ℕ)) (bytes : List ℕ) → s ≡ option_map (λ (taken : List ℕ). bytes) t → (n : ℕ) × (s ≡ option_map (λ (taken : List ℕ). take n bytes) t)
all_taken t s bytes e = (length bytes, e ∙ ap (λ (bs : List ℕ). option_map (λ (taken : List ℕ). bs) t) (sym (take_all (length bytes) bytes (omega arith))))

-- ---- an empty piece

pub went_empty : (b : Option (List ℕ)) (co : List ℕ → Option (List ℕ)) (k : Option ℕ) (f : ℕ) (l : Fault) (t : Option (List ℕ)) (p : List ℕ)
    (b₁ : Option (List ℕ)) (co₁ : List ℕ → Option (List ℕ)) (k₁ : Option ℕ) (f₁ : ℕ) (l₁ : Fault) (t₁ : Option (List ℕ)) (p₁ : List ℕ) (bytes : List ℕ) → p ≡ [] → p₁ ≡ []
    → WentOn (writing b co k f l t p) (writing b₁ co₁ k₁ f₁ l₁ t₁ p₁) bytes → WentOn (writing b co k f l t []) (writing b₁ co₁ k₁ f₁ l₁ t₁ []) bytes
went_empty b co k f l t p b₁ co₁ k₁ f₁ l₁ t₁ p₁ bytes e g h =
    let P : List ℕ → Type 0 = λ q. WentOn (writing b co k f l t q) (writing b₁ co₁ k₁ f₁ l₁ t₁ p₁) bytes in
    let Q : List ℕ → Type 0 = λ q. WentOn (writing b co k f l t []) (writing b₁ co₁ k₁ f₁ l₁ t₁ q) bytes in
    subst Q g (subst P e h)

pub broke_empty : (b : Option (List ℕ)) (co : List ℕ → Option (List ℕ)) (k : Option ℕ) (f : ℕ) (l : Fault) (t : Option (List ℕ)) (p : List ℕ)
    (b₁ : Option (List ℕ)) (co₁ : List ℕ → Option (List ℕ)) (k₁ : Option ℕ) (f₁ : ℕ) (l₁ : Fault) (t₁ : Option (List ℕ)) (p₁ : List ℕ) (bytes : List ℕ) → p ≡ []
    → BrokeOff (writing b co k f l t p) (writing b₁ co₁ k₁ f₁ l₁ t₁ p₁) bytes → BrokeOff (writing b co k f l t []) (writing b₁ co₁ k₁ f₁ l₁ t₁ []) bytes
broke_empty b co k f l t p b₁ co₁ k₁ f₁ l₁ t₁ p₁ bytes e h =
    let P : List ℕ → Type 0 = λ q. BrokeOff (writing b co k f l t q) (writing b₁ co₁ k₁ f₁ l₁ t₁ p₁) bytes in
    let s = subst P e h in
    record { begun = s.begun; others = s.others; asked = s.asked; never_falls = s.never_falls; rose = s.rose; last = s.last; taken = s.taken }

pub went_taken : (t : Option (List ℕ)) (a b : Gathering) (bytes : List ℕ) → a.taken ≡ option_map (λ (taken : List ℕ). []) t → a.piece ≡ [] → WentOn a b bytes → b.piece ≡ []
    → b.taken ≡ option_map (λ (taken : List ℕ). bytes) t
went_taken t a b bytes e p h q = whole_taken t a b b bytes e p h (went_nowhere b) q

-- ---- a begun name

pub other_name : (x : Option (List ℕ)) (name other : List ℕ) → x ≡ Some name → other ≢ name → x ≢ Some other
other_name x name other e differs same = differs (cc)

pub known_name : (x : Option (List ℕ)) (name : List ℕ) (P : List ℕ → Type 0) → x ≡ Some name → IfSome x P → P name
known_name None name P e h = absurd (cc)
known_name (Some n) name P e h = let same : n ≡ name = cc in subst P same h
