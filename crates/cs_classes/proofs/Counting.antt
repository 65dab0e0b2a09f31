-- The words that the objects of a heap take, as a sum over their births: what a state counts is what the heap counts.
use Rattle.std.proofs.Common.{◌≡◌, ◌⊎◌, inl, inr, ℕ, zero, suc, ◌+◌, ◌*◌, ◌/◌, ◌-◌, ◌<◌, ◌≤◌, Bool, true, false, refl, sym, ap, ap₂, subst, ◌∙◌, Option, Some, None, List, [], ◌∷◌, length, drop, length-take, length-drop, arith}
use Rattle.std.specs.Prelude.{if◌then◌else◌, slice_get, nat_lt}
use Rattle.std.specs.FinMap.{find, get, get-from_entries}
use Rattle.std.specs.Cmp.{nat_cmp_total}
use Rattle.std.specs.Ordering.{nat_cmp}
use Rattle.std.proofs.lemmas.Bool.{cases_eq}
use Rattle.std.proofs.lemmas.Bool.Decides.{nat_tests}
use Rattle.std.proofs.lemmas.List.{length-map}
use Rattle.cs_model.specs.Words.{bytes_of_words, unused_bytes}
use Rattle.cs_heap.specs.Format.{format_allows, is_pointers}
use Rattle.cs_heap.specs.Object.{Object, size, used}
use Rattle.cs_heap.proofs.Places.{used-cons}
use Rattle.cs_model.specs.Obj.{Obj, literal_count, words_of}
use Rattle.cs_model.specs.State.{Kept, object_at}
use Rattle.cs_classes.specs.Meaning.{code_in, context_of, method_header, literal_words, obj_of, objects_of, ref_of, used_bytes}
use Rattle.cs_classes.specs.Sound.{IsSoundObject}
use Rattle.cs_classes.proofs.Objects.{AreApart, IsFresh, entries_by}
use Rattle.cs_classes.proofs.Sorts.{AContext, AMethod, Bytes, Pointers, Sort, obj_of-bytes, obj_of-context, obj_of-method, obj_of-pointers, sort_of}
use Rattle.cs_classes.proofs.Sounds.{whole_context}
use Rattle.cs_classes.proofs.Tables.{ties_other, ties_same}
use Rattle.cs_model.specs.Demand.{words_taken, words_below}

-- ---- a sum over births

-- the words of what g has below n
unfoldable pub words_by : ℕ → (ℕ → Option Obj) → ℕ
words_by zero g = 0
words_by (suc n) g = words_by n g + words_taken (g n)

pub words_by-same : (n : ℕ) (g h : ℕ → Option Obj) → ((i : ℕ) → i < n → g i ≡ h i) → words_by n g ≡ words_by n h
unfolding words_by
words_by-same zero g h same = refl
words_by-same (suc n) g h same = ap₂ (λ (a b : ℕ). a + b) (words_by-same n g h (λ i l. same i (omega (arith, l)))) (ap words_taken (same n (omega arith)))

-- one more is there
words_by-more : (n b : ℕ) (o : Obj) (g h : ℕ → Option Obj) → b < n → g b ≡ Some o → h b ≡ None → ((i : ℕ) → (i ≡ b → ⊥) → g i ≡ h i) → words_by n g ≡ words_of o + words_by n h
unfolding words_by
words_by-more zero b o g h less here there same = absurd (omega (arith, less))
words_by-more (suc n) b o g h less here there same = go (cases_eq b n) (λ l. words_by-more n b o g h l here there same)
  where
    go : (b ≡ n) ⊎ (b ≡ n → ⊥) → (b < n → words_by n g ≡ words_of o + words_by n h) → words_by n g + words_taken (g n) ≡ words_of o + (words_by n h + words_taken (h n))
    go (inl e) rest =
        let below = words_by-same n g h (λ i l. same i (λ d. omega (arith, l, d, e))) in
        let new : words_taken (g n) ≡ words_of o = ap words_taken (ap g (sym e) ∙ here) in
        let old : words_taken (h n) ≡ 0 = ap words_taken (ap h (sym e) ∙ there) in
        omega (arith, below, new, old)
    go (inr other) rest =
        let below = rest (omega (arith, less, other)) in
        let last = ap words_taken (same n (λ e. other (sym e))) in
        omega (arith, below, last)

words_by-none : (n : ℕ) → words_by n (λ i. None) ≡ 0
unfolding words_by
words_by-none zero = refl
words_by-none (suc n) = omega (arith, words_by-none n)

-- none takes fewer words
pub words_by-less : (n : ℕ) (g h : ℕ → Option Obj) → ((i : ℕ) → words_taken (g i) ≤ words_taken (h i)) → words_by n g ≤ words_by n h
unfolding words_by
words_by-less zero g h less = omega arith
words_by-less (suc n) g h less = omega (arith, words_by-less n g h less, less n)

-- and one takes so many more
pub words_by-gap : (n b more : ℕ) (g h : ℕ → Option Obj) → b < n → words_taken (g b) + more ≤ words_taken (h b) → ((i : ℕ) → words_taken (g i) ≤ words_taken (h i))
    → words_by n g + more ≤ words_by n h
unfolding words_by
words_by-gap zero b more g h within gap less = absurd (omega (arith, within))
words_by-gap (suc n) b more g h within gap less = go (cases_eq b n) (λ l. words_by-gap n b more g h l gap less)
  where
    go : (b ≡ n) ⊎ (b ≡ n → ⊥) → (b < n → words_by n g + more ≤ words_by n h) → words_by n g + words_taken (g n) + more ≤ words_by n h + words_taken (h n)
    go (inl e) rest =
        let last : words_taken (g n) + more ≤ words_taken (h n) = subst (λ k. words_taken (g k) + more ≤ words_taken (h k)) e gap in
        omega (arith, last, words_by-less n g h less)
    go (inr other) rest = omega (arith, rest (omega (arith, within, other)), less n)

apart_rest : (y : Object) (os : List Object) → AreApart (y ∷ os) → AreApart os
apart_rest y os apart j k x z p q e = let same = apart (suc j) (suc k) x z p q e in omega (arith, same)

find_fresh : (f : Object → Obj) (os : List Object) (b : ℕ) → IsFresh os b → find nat_cmp b (entries_by f os) ≡ None
find_fresh f [] b fresh = refl
find_fresh f (y ∷ os) b fresh =
    let other = ties_other b y.birth (λ e. fresh 0 y refl (sym e)) in
    rw other (find_fresh f os b (λ k x h. fresh (suc k) x h))

pub words_by-list : (f : Object → Obj) (os : List Object) (n : ℕ) → AreApart os → ((k : ℕ) (x : Object) → slice_get os k ≡ Some x → x.birth < n)
    → ((k : ℕ) (x : Object) → slice_get os k ≡ Some x → words_of (f x) ≡ size (length x.words)) → words_by n (λ i. find nat_cmp i (entries_by f os)) ≡ used os
words_by-list f [] n apart below sizes = words_by-none n
words_by-list f (x ∷ os) n apart below sizes =
    let rest = words_by-list f os n (apart_rest x os apart) (λ k y h. below (suc k) y h) (λ k y h. sizes (suc k) y h) in
    let same = ties_same x.birth in
    let more = words_by-more n x.birth (f x) (λ i. find nat_cmp i (entries_by f (x ∷ os))) (λ i. find nat_cmp i (entries_by f os)) (below 0 x refl) (rw same refl)
    (find_fresh f os x.birth (λ k y h e. let one = apart (suc k) 0 y x h refl e in absurd (omega (arith, one)))) (λ i other. let tie = ties_other i x.birth other in rw tie refl) in
    omega (arith, rest, more, sizes 0 x refl, used-cons x os)

pub words_by-state : (n : ℕ) (k : Kept) → words_below n k ≡ words_by n (object_at k)
unfolding words_below words_by
words_by-state zero k = refl
words_by-state (suc n) k = ap (λ m. m + words_taken (object_at k n)) (words_by-state n k)

-- ---- bytes

pub length-bytes_of : (ws : List ℕ) → length (bytes_of_words ws) ≡ 4 * length ws
unfolding bytes_of_words
length-bytes_of [] = refl
length-bytes_of (w ∷ ws) = omega (arith, length-bytes_of ws)

-- ---- the words of an object

method_slots : (count long code unused bytes : ℕ) → count < long → code ≡ long - (1 + count) → unused < 4 → (unused ≡ 0) ⊎ (0 < code) → bytes ≡ 4 * code - unused → 1 + count + (bytes + 3) / 4 ≡ long
method_slots count long code unused bytes fits code_is few some bytes_are = omega (arith, fits, code_is, few, some, bytes_are)

pub raw_slots : (long unused bytes : ℕ) → unused < 4 → (unused ≡ 0) ⊎ (0 < long) → bytes ≡ 4 * long - unused → (bytes + 3) / 4 ≡ long
raw_slots long unused bytes few some bytes_are = omega (arith, few, some, bytes_are)

-- fewer bytes than a slot has are unused, and none where there is no slot
pub few_unused : (format slots : ℕ) → format_allows format slots ≡ true → is_pointers format ≡ false → unused_bytes format < 4
few_unused format slots h p = grind (arith, nat_tests, h, p)

none_unused : (format : ℕ) → format_allows format 0 ≡ true → is_pointers format ≡ false → unused_bytes format ≡ 0
none_unused format h p = grind (arith, nat_tests, h, p)

pub some_slot : (format slots : ℕ) → format_allows format slots ≡ true → is_pointers format ≡ false → (unused_bytes format ≡ 0) ⊎ (0 < slots)
some_slot format zero h p = inl (none_unused format h p)
some_slot format (suc n) h p = inr (omega arith)

-- a slot stands behind the literals of a method where bytes are unused
code_slot : (unused count long : ℕ) → count + (if nat_lt 0 unused then 1 else 0) < long → (unused ≡ 0) ⊎ (0 < long - (1 + count))
code_slot unused count long h = go (nat_lt 0 unused) refl h
  where
    none : nat_lt 0 unused ≡ false → unused ≡ 0
    none e = grind (arith, nat_tests)

    go : (b : Bool) → nat_lt 0 unused ≡ b → count + (if b then 1 else 0) < long → (unused ≡ 0) ⊎ (0 < long - (1 + count))
    go true e l = inr (omega (arith, l))
    go false e l = inl (none e)

pub words_of-sound : (os : List Object) (x : Object) → IsSoundObject os x → words_of (obj_of (ref_of os) x) ≡ size (length x.words)
unfolding context_of
words_of-sound os x sound = go (sort_of x)
  where
    go : Sort x → words_of (obj_of (ref_of os) x) ≡ size (length x.words)
    go (AContext c) = ap words_of (obj_of-context (ref_of os) x c) ∙ ap size (omega (arith, (whole_context os x sound c).fields))
    go (Pointers a p) = ap words_of (obj_of-pointers (ref_of os) x a p) ∙ ap size (length-map x.words (ref_of os))
    go (AMethod a p m) =
        let s = sound.method m in
        let count : ℕ = literal_count (method_header x.words) in
        let literals = length-take count (drop 1 x.words) in
        let behind = length-drop 1 x.words in
        let mapped = length-map (literal_words x.words) (ref_of os) in
        let code = length-drop (1 + count) x.words in
        let bytes = length-take (4 * length (code_in x.words) - unused_bytes x.format) (bytes_of_words (code_in x.words)) in
        let all = length-bytes_of (code_in x.words) in
        ap words_of (obj_of-method (ref_of os) x a p m)
        ∙ ap size (ap (λ n. 1 + n + (length (used_bytes x.format (code_in x.words)) + 3) / 4) (omega (arith, mapped, literals, behind, s.literals))
        ∙ method_slots count (length x.words) (length (code_in x.words)) (unused_bytes x.format) (length (used_bytes x.format (code_in x.words))) (omega (arith, s.literals)) code
        (few_unused x.format (length x.words) sound.shape p) (subst (λ n. (unused_bytes x.format ≡ 0) ⊎ (0 < n)) (sym code) (code_slot (unused_bytes x.format) count (length x.words) s.literals)) (omega (arith, bytes, all)))
    go (Bytes a p m) =
        let bytes = length-take (4 * length x.words - unused_bytes x.format) (bytes_of_words x.words) in
        let all = length-bytes_of x.words in
        ap words_of (obj_of-bytes (ref_of os) x a p m) ∙ ap size (raw_slots (length x.words) (unused_bytes x.format) (length (used_bytes x.format x.words))
        (few_unused x.format (length x.words) sound.shape p) (some_slot x.format (length x.words) sound.shape p) (omega (arith, bytes, all)))

-- ---- the whole

pub heap_words : (os : List Object) (n : ℕ) → AreApart os → ((k : ℕ) (x : Object) → slice_get os k ≡ Some x → x.birth < n) → ((k : ℕ) (x : Object) → slice_get os k ≡ Some x → IsSoundObject os x)
    → words_by n (λ i. get (objects_of os) i) ≡ used os
unfolding objects_of
heap_words os n apart below each =
    words_by-same n (λ i. get (objects_of os) i) (λ i. find nat_cmp i (entries_by (obj_of (ref_of os)) os))
    (λ i l. get-from_entries nat_cmp_total (entries_by (obj_of (ref_of os)) os) i)
    ∙ words_by-list (obj_of (ref_of os)) os n apart below (λ k x h. words_of-sound os x (each k x h))
