-- Words that are appended as bytes, one after the other.
use Rattle.std.proofs.Common.{◌≡◌, ℕ, zero, suc, ◌+◌, ◌-◌, ◌*◌, ◌/◌, ◌%◌, ◌^◌, ◌<◌, ◌≤◌, true, false, cond, List, [], ◌∷◌, ◌++◌, length, map, take, drop, replicate, get_or, refl, ap, sym, ◌∙◌, arith, rules, min, leb, append_assoc, append-nil, length-append, slice_index}
use Rattle.std.proofs.lemmas.List.{take_more, map-append}
use Rattle.std.proofs.lemmas.Bool.Decides.{nat_tests}
use Rattle.std.proofs.lemmas.List.Sums.{sum_by-cons, sum_by-append}
use Rattle.std.proofs.lemmas.List.FromFn.{length-range_with_len}
use Rattle.std.specs.Prelude.{flat_map, Result, Ok, Err, OnOk, is_ok}
use Rattle.std.specs.Int.{to_le_bytes, from_le_bytes, w32}
use Rattle.std.specs.List.{AllByRecursion, range_with_len}
use Rattle.cs_word.specs.declared.header.Header.{Header}
use Rattle.cs_word.specs.Header.{header_bits, header_of}
use Rattle.cs_model.specs.Words.{bytes_of_words}
use Rattle.cs_model.specs.ImageFile.{u32_at}
use Rattle.cs_model.specs.SavedFile.{SavedObject, saved_words, saved_size, saved_base, words_before, overflow_words, body_size, hidden_object}
use Rattle.cs_model.proofs.SavedNumbers.{bytes_of_words-append}
use Rattle.cs_model.proofs.SavedObjects.{saved_words_is}
use Rattle.cs_build.specs.Laid.{Laid, laid_size, addresses_from, put_words, head_words, head_bits_of, laid_words, laid_slots, saved_by, byte_words, ref_word}

pub put_nothing : (bytes : List ℕ) → bytes ≡ put_words bytes []
unfolding bytes_of_words
put_nothing bytes = sym (append-nil bytes)

pub put_behind : (bytes xs ys : List ℕ) → put_words (put_words bytes xs) ys ≡ put_words bytes (xs ++ ys)
put_behind bytes xs ys = append_assoc bytes (bytes_of_words xs) (bytes_of_words ys) ∙ ap (λ (zs : List ℕ). bytes ++ zs) (sym (bytes_of_words-append xs ys))

-- words are appended behind words that were appended
pub put_next : (bytes now next xs ys zs : List ℕ) → now ≡ put_words bytes xs → next ≡ put_words now ys → zs ≡ xs ++ ys
    → next ≡ put_words bytes zs
put_next bytes now next xs ys zs e h same =
    h ∙ ap (λ (b : List ℕ). put_words b ys) e ∙ put_behind bytes xs ys ∙ ap (put_words bytes) (sym same)

pub word_bytes : (w : ℕ) → to_le_bytes w32 w ≡ bytes_of_words (w ∷ [])
unfolding bytes_of_words
word_bytes w = let low : w % 256 ≡ w / 256 ^ 0 % 256 = omega arith in
    ap (λ (b : ℕ). b ∷ w / 256 ^ 1 % 256 ∷ w / 256 ^ 2 % 256 ∷ w / 256 ^ 3 % 256 ∷ []) low

pub on_ok : {A E : Type 0} (r : Result A E) (P Q : Type 0) → (P → Q) → OnOk r P → OnOk r Q
on_ok (Ok x) P Q f h = f h
on_ok (Err e) P Q f h = h

pub put_word_on : {A E : Type 0} (r : Result A E) (new old other : List ℕ) (w : ℕ) → new ≡ cond (is_ok r) (old ++ other) old
    → other ≡ to_le_bytes w32 w → OnOk r (new ≡ put_words old (w ∷ []))
put_word_on (Ok x) new old other w e h = e ∙ ap (λ (b : List ℕ). old ++ b) (h ∙ word_bytes w)
put_word_on (Err x) new old other w e h = search rules

pub word_read : (bytes : List ℕ) (at : ℕ) (a b c d : ℕ) → a ≡ slice_index bytes at → b ≡ slice_index bytes (at + 1)
    → c ≡ slice_index bytes (at + 2) → d ≡ slice_index bytes (at + 3)
    → from_le_bytes w32 (a ∷ b ∷ c ∷ d ∷ []) ≡ u32_at bytes at
unfolding u32_at
word_read bytes at a b c d ea eb ec ed =
    let third : slice_index bytes (at + 1 + 1) ≡ slice_index bytes (at + 2) = ap (slice_index bytes) (omega arith) in
    let fourth : slice_index bytes (at + 1 + 1 + 1) ≡ slice_index bytes (at + 3) = ap (slice_index bytes) (omega arith) in
    let zeroth_is : slice_index (a ∷ b ∷ c ∷ d ∷ []) 0 ≡ a = refl in
    let first_is : slice_index (a ∷ b ∷ c ∷ d ∷ []) 1 ≡ b = refl in
    let second_is : slice_index (a ∷ b ∷ c ∷ d ∷ []) 2 ≡ c = refl in
    let third_is : slice_index (a ∷ b ∷ c ∷ d ∷ []) 3 ≡ d = refl in
    omega (arith, ea, eb, ec, ed, third, fourth, zeroth_is, first_is, second_is, third_is)

-- ---- one element more

pub map_more : {A B : Type 0} (f : A → B) (xs : List A) (i : ℕ) (d : A) → i < length xs
    → map f (take (i + 1) xs) ≡ map f (take i xs) ++ f (get_or xs i d) ∷ []
map_more f xs i d h = ap (map f) (take_more xs i d h) ∙ map-append f (take i xs) (get_or xs i d ∷ [])

pub two_more : {A B C : Type 0} (g : B → C) (f : A → B) (xs : List A) (i : ℕ) (d : A) → i < length xs
    → map g (map f (take (i + 1) xs)) ≡ map g (map f (take i xs)) ++ g (f (get_or xs i d)) ∷ []
two_more g f xs i d h = ap (map g) (map_more f xs i d h) ∙ map-append g (map f (take i xs)) (f (get_or xs i d) ∷ [])

range_last : (a i j : ℕ) → a + i ≡ j → range_with_len a (suc i) ≡ range_with_len a i ++ j ∷ []
range_last a zero j e = let same : a ≡ j = omega (arith, e) in ap (λ (b : ℕ). b ∷ []) same
range_last a (suc i) j e = ap (λ (xs : List ℕ). a ∷ xs) (range_last (a + 1) i j (omega (arith, e)))

pub range_more : (i : ℕ) → range_with_len 0 (i + 1) ≡ range_with_len 0 i ++ i ∷ []
range_more i = let on : i + 1 ≡ suc i = omega arith in ap (range_with_len 0) on ∙ range_last 0 i i (omega arith)

pub map_range_more : {B : Type 0} (f : ℕ → B) (i : ℕ) → map f (range_with_len 0 (i + 1)) ≡ map f (range_with_len 0 i) ++ f i ∷ []
map_range_more f i = ap (map f) (range_more i) ∙ map-append f (range_with_len 0 i) (i ∷ [])

pub flat_map_append : {A B : Type 0} (f : A → List B) (xs ys : List A) → flat_map f (xs ++ ys) ≡ flat_map f xs ++ flat_map f ys
flat_map_append f [] ys = refl
flat_map_append f (x ∷ xs) ys = ap (λ zs. f x ++ zs) (flat_map_append f xs ys) ∙ sym (append_assoc (f x) (flat_map f xs) (flat_map f ys))

pub flat_map_last : {A B : Type 0} (f : A → List B) (xs : List A) (x : A) → flat_map f (xs ++ x ∷ []) ≡ flat_map f xs ++ f x
flat_map_last f xs x = flat_map_append f xs (x ∷ []) ∙ ap (λ zs. flat_map f xs ++ zs) (append-nil (f x))

replicate_last : (i : ℕ) → replicate {A = ℕ} (suc i) 0 ≡ replicate {A = ℕ} i 0 ++ 0 ∷ []
replicate_last zero = refl
replicate_last (suc i) = ap (λ (zs : List ℕ). 0 ∷ zs) (replicate_last i)

pub replicate_more : (i : ℕ) → replicate {A = ℕ} (i + 1) 0 ≡ replicate {A = ℕ} i 0 ++ 0 ∷ []
replicate_more i = let on : i + 1 ≡ suc i = omega arith in ap (λ (n : ℕ). replicate {A = ℕ} n 0) on ∙ replicate_last i

pub all_mapped : {A B : Type 0} (P : B → Type 0) (f : A → B) (xs : List A) (i : ℕ) (d : A) → AllByRecursion P (map f xs) → i < length xs
    → P (f (get_or xs i d))
all_mapped P f [] i d all h = absurd (omega (arith, h))
all_mapped P f (x ∷ xs) zero d all h = all.0
all_mapped P f (x ∷ xs) (suc i) d all h = all_mapped P f xs i d all.1 (omega (arith, h))

pub all_at : {A : Type 0} (P : A → Type 0) (xs : List A) (i : ℕ) (d : A) → AllByRecursion P xs → i < length xs → P (get_or xs i d)
all_at P [] i d all h = absurd (omega (arith, h))
all_at P (x ∷ xs) zero d all h = all.0
all_at P (x ∷ xs) (suc i) d all h = all_at P xs i d all.1 (omega (arith, h))

-- ---- one object

pub short_overflow : (n : ℕ) → n < 255 → overflow_words n ≡ []
unfolding overflow_words
short_overflow n h = let short : leb 255 n ≡ false = grind (arith, nat_tests) in rw short refl

pub long_overflow : (n : ℕ) → 255 ≤ n → overflow_words n ≡ n ∷ 255 * 2 ^ 24 ∷ []
unfolding overflow_words
long_overflow n h = let long : leb 255 n ≡ true = grind (arith, nat_tests) in rw long refl

pub bits_are : (h : Header) (class format hash n : ℕ) → h ≡ record { class = class; flags = (header_of 0).flags; format = format; hash = hash; slots = min 255 n }
    → header_bits h ≡ head_bits_of class format hash n
bits_are h class format hash n e = ap header_bits e ∙ omega arith

pub body_holds : (n : ℕ) → n ≤ body_size n
body_holds n = omega arith

pub length-map : {A B : Type 0} (f : A → B) (xs : List A) → length (map f xs) ≡ length xs
length-map f [] = refl
length-map f (x ∷ xs) = ap suc (length-map f xs)

pub slots_of_laid : (addresses : List ℕ) (l : Laid) → length (laid_words addresses l) ≡ laid_slots l
slots_of_laid addresses l = omega (
  arith,
  length-append (map (ref_word addresses) l.refs) (byte_words l.bytes),
  length-map (ref_word addresses) l.refs,
  length-map (λ i. u32_at l.bytes (4 * i)) (range_with_len 0 ((length l.bytes + 3) / 4)),
  length-range_with_len 0 ((length l.bytes + 3) / 4),
)

pub joined : (a b xs ys zs : List ℕ) → a ++ (b ++ ((xs ++ ys) ++ zs)) ≡ (((a ++ b) ++ xs) ++ ys) ++ zs
joined a b xs ys zs = sym (append_assoc a b ((xs ++ ys) ++ zs)) ∙ sym (append_assoc (a ++ b) (xs ++ ys) zs) ∙ ap (λ (ws : List ℕ). ws ++ zs) (sym (append_assoc (a ++ b) xs ys))

pub saved_as : (addresses : List ℕ) (l : Laid) → saved_words (saved_by addresses l)
    ≡ ((head_words l.class l.format l.hash (laid_slots l) ++ map (ref_word addresses) l.refs) ++ byte_words l.bytes) ++ replicate (body_size (laid_slots l) - laid_slots l) 0
saved_as addresses l =
    let words = laid_words addresses l in
    let n = laid_slots l in
    saved_words_is (saved_by addresses l)
    ∙ parts l.class l.format l.hash (length words) n (slots_of_laid addresses l) (map (ref_word addresses) l.refs) (byte_words l.bytes)
  where
    parts : (class format hash m n : ℕ) → m ≡ n → (xs ys : List ℕ)
        → overflow_words m ++ ((class + 2 ^ 23 * 0 + 2 ^ 24 * format + 2 ^ 32 * hash + 2 ^ 56 * min 255 m) % 2 ^ 32
        ∷ (class + 2 ^ 23 * 0 + 2 ^ 24 * format + 2 ^ 32 * hash + 2 ^ 56 * min 255 m) / 2 ^ 32 ∷ ((xs ++ ys) ++ replicate (body_size m - m) 0))
        ≡ ((head_words class format hash n ++ xs) ++ ys) ++ replicate (body_size n - n) 0
    parts class format hash m n e xs ys =
        let bits : class + 2 ^ 23 * 0 + 2 ^ 24 * format + 2 ^ 32 * hash + 2 ^ 56 * min 255 m ≡ head_bits_of class format hash n =
        omega (arith, ap (min 255) e) in
        rw (bits, e) (joined (overflow_words n) (head_bits_of class format hash n % 2 ^ 32 ∷ head_bits_of class format hash n / 2 ^ 32 ∷ []) xs ys (replicate (body_size n - n) 0))

-- a hidden object of these words
pub hidden_as : (format : ℕ) (words : List ℕ) → saved_words (hidden_object format words)
    ≡ (head_words 16 format 0 (length words) ++ words) ++ replicate (body_size (length words) - length words) 0
hidden_as format words =
    let n = length words in
    let bits : 16 + 2 ^ 23 * 0 + 2 ^ 24 * format + 2 ^ 32 * 0 + 2 ^ 56 * min 255 n ≡ head_bits_of 16 format 0 n = omega arith in
    saved_words_is (hidden_object format words)
    ∙ ap (λ (b : ℕ). overflow_words n ++ (b % 2 ^ 32 ∷ b / 2 ^ 32 ∷ (words ++ replicate (body_size n - n) 0))) bits
    ∙ put_together (overflow_words n) (head_bits_of 16 format 0 n % 2 ^ 32 ∷ head_bits_of 16 format 0 n / 2 ^ 32 ∷ []) words (replicate (body_size n - n) 0)
  where
    put_together : (a b xs zs : List ℕ) → a ++ (b ++ (xs ++ zs)) ≡ ((a ++ b) ++ xs) ++ zs
    put_together a b xs zs = sym (append_assoc a b (xs ++ zs)) ∙ sym (append_assoc (a ++ b) xs zs)

-- a hidden object whose words fill its body
pub page_as : (format n : ℕ) (words : List ℕ) → length words ≡ n → body_size n - n ≡ 0 → saved_words (hidden_object format words)
    ≡ head_words 16 format 0 n ++ words
page_as format n words e full = hidden_as format words
    ∙ ap (λ (k : ℕ). (head_words 16 format 0 k ++ words) ++ replicate (body_size k - k) 0) e
    ∙ ap (λ (k : ℕ). (head_words 16 format 0 n ++ words) ++ replicate k 0) full
    ∙ append-nil (head_words 16 format 0 n ++ words)

pub more_saved : {A : Type 0} (f : A → SavedObject) (xs : List A) (i : ℕ) (d : A) → i < length xs
    → flat_map saved_words (map f (take (i + 1) xs)) ≡ flat_map saved_words (map f (take i xs)) ++ saved_words (f (get_or xs i d))
more_saved f xs i d h = ap (flat_map saved_words) (map_more f xs i d h) ∙ flat_map_last saved_words (map f (take i xs)) (f (get_or xs i d))

-- ---- addresses

pub map_last : {A B : Type 0} (f : A → B) (xs : List A) (i : ℕ) (x : A) → x ≡ get_or xs i x → i < length xs
    → map f (take (i + 1) xs) ≡ map f (take i xs) ++ f x ∷ []
map_last f xs i x e h = map_more f xs i x h ∙ ap (λ (y : _). map f (take i xs) ++ f y ∷ []) (sym e)

pub size_last : (ls : List Laid) (l : Laid) → laid_size (ls ++ l ∷ []) ≡ laid_size ls + saved_size (laid_slots l)
size_last ls l = sum_by-append (λ (x : Laid). saved_size (laid_slots x)) ls (l ∷ []) ∙ ap (λ n. laid_size ls + n) (one l)
  where
    one : (l : Laid) → laid_size (l ∷ []) ≡ saved_size (laid_slots l)
    one l = sum_by-cons (λ (x : Laid). saved_size (laid_slots x)) l [] ∙ omega arith

pub size_cons : (l : Laid) (ls : List Laid) → laid_size (l ∷ ls) ≡ saved_size (laid_slots l) + laid_size ls
size_cons l ls = sum_by-cons (λ (x : Laid). saved_size (laid_slots x)) l ls

pub addresses_last : (place : ℕ) (ls : List Laid) (l : Laid) (at : ℕ) → at ≡ place + laid_size ls
    → addresses_from place (ls ++ l ∷ []) ≡ addresses_from place ls ++ (saved_base + 4 * (at + words_before (laid_slots l))) ∷ []
addresses_last place [] l at e = let same : place ≡ at = omega (arith, e) in
    ap (λ (p : ℕ). (saved_base + 4 * (p + words_before (laid_slots l))) ∷ []) same
addresses_last place (x ∷ ls) l at e =
    ap (λ (xs : List ℕ). (saved_base + 4 * (place + words_before (laid_slots x))) ∷ xs)
    (addresses_last (place + saved_size (laid_slots x)) ls l at (omega (arith, e, size_cons x ls)))

pub size_within : {A : Type 0} (f : A → Laid) (xs : List A) (i : ℕ) (x : A) → x ≡ get_or xs i x → i < length xs
    → laid_size (map f (take i xs)) + saved_size (laid_slots (f x)) ≤ laid_size (map f xs)
size_within f [] i x e h = absurd (omega (arith, h))
size_within f (y ∷ xs) zero x e h = omega (arith, size_cons (f y) (map f xs), ap (λ (z : _). saved_size (laid_slots (f z))) e)
size_within f (y ∷ xs) (suc i) x e h = omega (arith, size_cons (f y) (map f xs), size_cons (f y) (map f (take i xs)), size_within f xs i x e (omega (arith, h)))

pub slots_within : (n : ℕ) → n ≤ saved_size n
slots_within n = omega arith

-- ---- parts of lists

pub map_take : {A B : Type 0} (f : A → B) (n : ℕ) (xs : List A) → map f (take n xs) ≡ take n (map f xs)
map_take f zero xs = refl
map_take f (suc n) [] = refl
map_take f (suc n) (x ∷ xs) = ap (λ (ys : List _). f x ∷ ys) (map_take f n xs)

pub map_drop : {A B : Type 0} (f : A → B) (n : ℕ) (xs : List A) → map f (drop n xs) ≡ drop n (map f xs)
map_drop f zero xs = refl
map_drop f (suc n) [] = refl
map_drop f (suc n) (x ∷ xs) = map_drop f n xs

pub all_take : {A : Type 0} (P : A → Type 0) (n : ℕ) (xs : List A) → AllByRecursion P xs → AllByRecursion P (take n xs)
all_take P zero xs all = tt
all_take P (suc n) [] all = tt
all_take P (suc n) (x ∷ xs) all = (all.0, all_take P n xs all.1)

pub all_drop : {A : Type 0} (P : A → Type 0) (n : ℕ) (xs : List A) → AllByRecursion P xs → AllByRecursion P (drop n xs)
all_drop P zero xs all = all
all_drop P (suc n) [] all = tt
all_drop P (suc n) (x ∷ xs) all = all_drop P n xs all.1
