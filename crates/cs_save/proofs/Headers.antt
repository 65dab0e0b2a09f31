-- The header of an object in the file.
use Rattle.std.proofs.Common.{◌≡◌, ℕ, ◌+◌, ◌*◌, ◌/◌, ◌%◌, ◌^◌, ◌==◌, Bool, true, false, cond, List, length, min, Option, Some, None, is_some, refl, ap, sym, ◌∙◌, arith, slice_get, option_and_then}
use Rattle.std.proofs.Common.{zero, suc, ltb, ◌<◌, ◌≤◌, ◌-◌, ◌++◌, [], ◌∷◌, map, take, drop, replicate, get_or, ap₂, append_assoc, length-append, length-drop}
use Rattle.std.proofs.lemmas.List.{append-nil, ext_get_or, get_or-append_right, get_or_append_left, length-map, length-take, length-replicate}
use Rattle.std.proofs.lemmas.List.FromFn.{get_or-map-range_with_len, length-map-range_with_len}
use Rattle.std.proofs.lemmas.Bool.Decides.{nat_tests}
use Rattle.std.specs.List.{range_with_len}
use Rattle.std.specs.Option.{option_map_or}
use Rattle.cs_heap.specs.Object.{format_at, slot_count_of, words_at}
use Rattle.cs_heap.proofs.Laws.{index_of-below}
use Rattle.cs_model.specs.SavedFile.{SavedObject, saved_bits, saved_words, overflow_words, halves, body_size, hidden_object, free_lists}
use Rattle.cs_save.specs.Filed.{body_word, file_word, filed_words, referring, hidden_bits, page_entries, entry_word, saved_page, saved_at, saved_root, page_at}
use Rattle.std.specs.Ordering.{nat_cmp}
use Rattle.std.specs.FinMap.{FinMap}
use Rattle.cs_heap.specs.Object.{Object, object_place, is_object, is_immutable_at, header_seen, heap_object}
use Rattle.cs_word.specs.Header.{flag_bits, header_bits}
use Rattle.cs_word.specs.declared.header.Flags.{Flags}
use Rattle.cs_word.specs.declared.header.Header.{Header}
use Rattle.cs_save.specs.Filed.{filed, filed_bits_at}

plain : (class format hash slots n : ℕ) (b : Bool) → n ≡ cond b 1 0
    → class + 2 ^ 24 * format + 2 ^ 32 * hash + 2 ^ 56 * slots + 2 ^ 23 * (n / 2 ^ 0 % 2) + 2 ^ 29 * (n / 2 ^ 1 % 2) + 2 ^ 30 * (n / 2 ^ 2 % 2) + 2 ^ 31 * (n / 2 ^ 3 % 2) + 2 ^ 55 * (n / 2 ^ 4 % 2)
    ≡ class + 2 ^ 23 * cond b 1 0 + 2 ^ 24 * format + 2 ^ 32 * hash + 2 ^ 56 * slots
plain class format hash slots n true e = omega (arith, e)
plain class format hash slots n false e = omega (arith, e)

-- with the fixed flag alone
pub seen_bits : (r : Option Object) (n : ℕ) → is_some r ≡ true → n ≡ cond (option_map_or (λ x. flag_bits x.flags) r 0 % 2 == 1) 1 0
    → header_bits (record {
      class = option_map_or (λ x. x.class) r 0;
      flags = record { 0 = n };
      format = option_map_or (λ x. x.format) r 0;
      hash = option_map_or (λ x. x.hash) r 0;
      slots = min 255 (option_map_or (λ x. length x.words) r 0);
    })
    ≡ option_map_or (λ x. x.class + 2 ^ 23 * cond (flag_bits x.flags % 2 == 1) 1 0 + 2 ^ 24 * x.format + 2 ^ 32 * x.hash + 2 ^ 56 * min 255 (length x.words)) r 0
seen_bits None n h e = absurd (cc)
seen_bits (Some x) n h e = plain x.class x.format x.hash (min 255 (length x.words)) n (flag_bits x.flags % 2 == 1) e

-- ---- the words of an object

pub length-filed : (format : ℕ) (words : List ℕ) → length (filed_words format words) ≡ length words
length-filed format words =
    let r = referring format words in
    omega (arith, length-append (map file_word (take r words)) (drop r words), length-map (take r words) file_word, length-take r words, length-drop r words)

get_filed : (r : ℕ) (words : List ℕ) (i : ℕ) → i < length words
    → get_or (map file_word (take r words) ++ drop r words) i 0 ≡ cond (ltb i r) (file_word (get_or words i 0)) (get_or words i 0)
get_filed r [] i h = absurd (omega (arith, h))
get_filed zero (w ∷ words) i h = let no : ltb i 0 ≡ false = grind (arith, nat_tests) in rw no refl
get_filed (suc r) (w ∷ words) zero h = let yes : ltb 0 (suc r) ≡ true = grind (arith, nat_tests) in rw yes refl
get_filed (suc r) (w ∷ words) (suc i) h =
    let same : ltb (suc i) (suc r) ≡ ltb i r = grind (arith, nat_tests) in
    get_filed r words i (omega (arith, h)) ∙ ap (λ (b : Bool). cond b (file_word (get_or words i 0)) (get_or words i 0)) (sym same)

zeros : (n i : ℕ) → get_or {A = ℕ} (replicate {A = ℕ} n 0) i 0 ≡ 0
zeros zero i = refl
zeros (suc n) zero = refl
zeros (suc n) (suc i) = zeros n i

body_size_least : (n : ℕ) → n ≤ body_size n
body_size_least n = omega arith

pub body_is : (format : ℕ) (words : List ℕ) → map (body_word format words) (range_with_len 0 (body_size (length words)))
    ≡ filed_words format words ++ replicate (body_size (length words) - length words) 0
unfolding body_word
body_is format words =
    ext_get_or 0 (map (body_word format words) (range_with_len 0 (body_size n))) (filed_words format words ++ replicate (body_size n - n) 0)
    (length-map-range_with_len (body_word format words) 0 (body_size n)
    ∙ omega (arith, body_size_least n, length-append (filed_words format words) (replicate (body_size n - n) 0), length-filed format words, length-replicate {A = ℕ} (body_size n - n) 0))
    (λ i h. at i (omega (arith, h, length-map-range_with_len (body_word format words) 0 (body_size n))))
  where
    n : ℕ
    n = length words

    inside : (i : ℕ) → i < n → body_word format words i ≡ get_or (filed_words format words ++ replicate (body_size n - n) 0) i 0
    inside i h =
        let yes : ltb i n ≡ true = grind (arith, nat_tests, h) in
        let here : body_word format words i ≡ cond (ltb i (referring format words)) (file_word (get_or words i 0)) (get_or words i 0) = rw yes refl in
        here ∙ sym (get_filed (referring format words) words i h)
        ∙ sym (get_or_append_left (filed_words format words) (replicate (body_size n - n) 0) 0 i (omega (arith, h, length-filed format words)))

    outside : (i : ℕ) → n ≤ i → body_word format words i ≡ get_or (filed_words format words ++ replicate (body_size n - n) 0) i 0
    outside i h =
        let no : ltb i n ≡ false = grind (arith, nat_tests, h) in
        let here : body_word format words i ≡ 0 = rw no refl in
        here ∙ sym (get_or-append_right (filed_words format words) (replicate (body_size n - n) 0) n i 0 (length-filed format words) h ∙ zeros (body_size n - n) (i - n))

    at : (i : ℕ) → i < body_size n → get_or (map (body_word format words) (range_with_len 0 (body_size n))) i 0 ≡ get_or (filed_words format words ++ replicate (body_size n - n) 0) i 0
    at i h = get_or-map-range_with_len (body_word format words) 0 (body_size n) i i 0 h (omega arith) ∙ go (ltb i n) refl
      where
        go : (b : Bool) → ltb i n ≡ b → body_word format words i ≡ get_or (filed_words format words ++ replicate (body_size n - n) 0) i 0
        go true e = inside i (grind (arith, nat_tests, e))
        go false e = outside i (grind (arith, nat_tests, e))

pub words_are : (o : SavedObject) (n bits : ℕ) (body : List ℕ) → n ≡ length o.words → bits ≡ saved_bits o → body ≡ o.words ++ replicate (body_size (length o.words) - length o.words) 0
    → saved_words o ≡ (overflow_words n ++ halves bits) ++ body
unfolding saved_words
words_are o n bits body e f g =
    sym (append_assoc (overflow_words n) (halves bits) body
    ∙ ap₂ (λ (k : ℕ) (bs : List ℕ). overflow_words k ++ (halves bits ++ bs)) e g
    ∙ ap (λ (k : ℕ). overflow_words (length o.words) ++ (halves k ++ (o.words ++ replicate (body_size (length o.words) - length o.words) 0))) f)

filed_bits : (x : Object) → saved_bits (filed x) ≡ x.class + 2 ^ 23 * cond (flag_bits x.flags % 2 == 1) 1 0 + 2 ^ 24 * x.format + 2 ^ 32 * x.hash + 2 ^ 56 * min 255 (length x.words)
unfolding filed
filed_bits x = ap (λ (n : ℕ). x.class + 2 ^ 23 * cond (flag_bits x.flags % 2 == 1) 1 0 + 2 ^ 24 * x.format + 2 ^ 32 * x.hash + 2 ^ 56 * min 255 n) (length-filed x.format x.words)

pub header_filed : (xs : List Object) (a : ℕ) (h : Header) (flags : Flags) → is_some (heap_object xs a) ≡ true → h ≡ header_seen xs a → flag_bits flags ≡ cond (is_immutable_at xs a) 1 0
    → header_bits (record { class = h.class; flags = flags; format = h.format; hash = h.hash; slots = h.slots }) ≡ filed_bits_at xs a
header_filed xs a h flags there e f =
    ap (λ (g : Header). header_bits (record { class = g.class; flags = flags; format = g.format; hash = g.hash; slots = g.slots })) e
    ∙ seen_bits (heap_object xs a) (flag_bits flags) there f ∙ same (heap_object xs a)
  where
    same : (r : Option Object)
        → option_map_or (λ (x : Object). x.class + 2 ^ 23 * cond (flag_bits x.flags % 2 == 1) 1 0 + 2 ^ 24 * x.format + 2 ^ 32 * x.hash + 2 ^ 56 * min 255 (length x.words)) r 0
        ≡ option_map_or (λ (x : Object). saved_bits (filed x)) r 0
    same None = refl
    same (Some x) = sym (filed_bits x)

pub saved_at_is : (xs : List Object) (a n bits : ℕ) → is_some (heap_object xs a) ≡ true → n ≡ slot_count_of xs a → bits ≡ filed_bits_at xs a
    → saved_at xs a ≡ (overflow_words n ++ halves bits) ++ map (body_word (format_at xs a) (words_at xs a)) (range_with_len 0 (body_size (slot_count_of xs a)))
unfolding filed
saved_at_is xs a n bits there e f = go (heap_object xs a) there e f
  where
    go : (r : Option Object) → is_some r ≡ true → n ≡ option_map_or (λ (x : Object). length x.words) r 0 → bits ≡ option_map_or (λ (x : Object). saved_bits (filed x)) r 0
        → option_map_or (λ (x : Object). saved_words (filed x)) r []
        ≡ (overflow_words n ++ halves bits) ++ map (body_word (option_map_or (λ (x : Object). x.format) r 0) (option_map_or (λ (x : Object). x.words) r []))
        (range_with_len 0 (body_size (option_map_or (λ (x : Object). length x.words) r 0)))
    go None h e f = absurd (cc)
    go (Some x) h e f =
        words_are (filed x) n bits (map (body_word x.format x.words) (range_with_len 0 (body_size (length x.words)))) (e ∙ sym (length-filed x.format x.words)) f
        (body_is x.format x.words ∙ ap (λ (k : ℕ). filed_words x.format x.words ++ replicate (body_size k - k) 0) (sym (length-filed x.format x.words)))

-- ---- hidden objects

pub hidden_are : (format slots bits : ℕ) (words : List ℕ) → slots ≡ length words → bits ≡ hidden_bits format slots → words ≡ words ++ replicate (body_size (length words) - length words) 0
    → saved_words (hidden_object format words) ≡ (overflow_words slots ++ halves bits) ++ words
hidden_are format slots bits words e f g =
    words_are (hidden_object format words) slots bits words e (f ∙ same (min 255 slots) (min 255 (length words)) (ap (min 255) e)) g
  where
    same : (a b : ℕ) → a ≡ b → 16 + 2 ^ 24 * format + 2 ^ 56 * a ≡ 16 + 2 ^ 23 * 0 + 2 ^ 24 * format + 2 ^ 32 * 0 + 2 ^ 56 * b
    same a b e = omega (arith, e)

no_padding : (words : List ℕ) (n : ℕ) → length words ≡ n → body_size n - n ≡ 0 → words ≡ words ++ replicate (body_size (length words) - length words) 0
no_padding words n e f = sym (ap (λ (k : ℕ). words ++ replicate (body_size k - k) 0) e ∙ ap (λ (k : ℕ). words ++ replicate k 0) f ∙ append-nil words)

pub page_is : (table : FinMap nat_cmp ℕ) (page bits : ℕ) → bits ≡ hidden_bits 2 1024
    → saved_page table page ≡ (overflow_words 1024 ++ halves bits) ++ page_entries table page
page_is table page bits e =
    let long : length (page_entries table page) ≡ 1024 = length-map-range_with_len (entry_word table) (1024 * page) 1024 in
    hidden_are 2 1024 bits (page_entries table page) (sym long) e (no_padding (page_entries table page) 1024 long refl)

pub root_is : (used bits : ℕ) → bits ≡ hidden_bits 2 16 → saved_root used ≡ (overflow_words 16 ++ halves bits) ++ map (page_at used) (range_with_len 0 16)
root_is used bits e =
    let long : length (map (page_at used) (range_with_len 0 16)) ≡ 16 = length-map-range_with_len (page_at used) 0 16 in
    hidden_are 2 16 bits (map (page_at used) (range_with_len 0 16)) (sym long) e (no_padding (map (page_at used) (range_with_len 0 16)) 16 long refl)

pub lists_are : (bits : ℕ) → bits ≡ hidden_bits 10 2 → saved_words free_lists ≡ (overflow_words 2 ++ halves bits) ++ halves 0
lists_are bits e = hidden_are 10 2 bits (0 ∷ 0 ∷ []) refl e refl

-- ---- an object is there

pub there : (xs : List Object) (a : ℕ) → is_object xs a ≡ true → is_some (heap_object xs a) ≡ true
there xs a h = go (object_place xs a) refl h
  where
    get_some : (ys : List Object) (k : ℕ) → k < length ys → is_some (slice_get ys k) ≡ true
    get_some [] k h = absurd (omega (arith, h))
    get_some (y ∷ ys) zero h = refl
    get_some (y ∷ ys) (suc k) h = get_some ys k (omega (arith, h))

    go : (r : Option ℕ) → object_place xs a ≡ r → is_some r ≡ true → is_some (option_and_then (slice_get xs) r) ≡ true
    go None e h = absurd (cc)
    go (Some k) e h = get_some xs k (index_of-below xs a k e)
