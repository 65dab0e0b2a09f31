-- What two images are compared by, step by step.
use Rattle.std.proofs.Common.{◌≡◌, ℕ, suc, ◌+◌, ◌-◌, ◌*◌, ◌<◌, ◌≤◌, Bool, true, false, refl, sym, ap, ap₂, ◌∙◌, arith, Option, List, [], ◌∷◌, length, map, take, drop, get_or}
use Rattle.std.specs.Prelude.{unwrap_or, ◌==◌, ◌&&◌}
use Rattle.std.proofs.Math.Seq.{drop-cons}
use Rattle.std.proofs.lemmas.Bool.{eq-eqb, false≢true, ne_eqb}
use Rattle.std.proofs.lemmas.List.{length-drop, length-map, length-take, take_all}
use Rattle.cs_model.specs.Words.{bytes_of_words, unused_bytes}
use Rattle.cs_heap.specs.Object.{Object, byte_of, format_at, slot_count_of, slot_of, words_at}
use Rattle.cs_model.specs.Canon.{same_list, same_numbers, same_pc, same_refs}
use Rattle.cs_model.specs.Obj.{literal_count}
use Rattle.cs_model.specs.Ref.{same_ref}
use Rattle.cs_classes.specs.Meaning.{code_in, depth_in, method_header, literal_words, used_bytes}
use Rattle.cs_inspect.specs.Comparing.{numbered_word}
use Rattle.cs_word.specs.Word.{natural_of_word}
use Rattle.cs_inspect.proofs.Meanings.{MethodThere}
use Rattle.cs_inspect.proofs.Reading.{bytes_of-drop, byte_is, length-bytes_at, length-words_at, word_is}

-- ---- lists

-- what stands between two places of a list
pub window_more : (xs : List ℕ) (i end d : ℕ) → i < end → end ≤ length xs → take (end - i) (drop i xs) ≡ get_or xs i d ∷ take (end - (i + 1)) (drop (i + 1) xs)
window_more xs i end d less within =
    ap₂ (λ (n : ℕ) (ys : List ℕ). take n ys) one (drop-cons xs i d (omega (arith, less, within)))
    ∙ ap (λ (n : ℕ). get_or xs i d ∷ take (end - (i + 1)) (drop n xs)) next
  where
    one : end - i ≡ suc (end - (i + 1))
    one = omega (arith, less)

    next : suc i ≡ i + 1
    next = omega arith

pub window_none : (xs : List ℕ) (i end : ℕ) → end ≤ i → take (end - i) (drop i xs) ≡ []
window_none xs i end past = ap (λ (n : ℕ). take n (drop i xs)) none
  where
    none : end - i ≡ 0
    none = omega (arith, past)

-- two lists differ where their lengths do
pub same_list_lengths : {A : Type 0} (f : A → A → Bool) (xs ys : List A) → same_list f xs ys ≡ true → length xs ≡ length ys
same_list_lengths f [] [] h = refl
same_list_lengths f [] (y ∷ ys) h = absurd (false≢true h)
same_list_lengths f (x ∷ xs) [] h = absurd (false≢true h)
same_list_lengths f (x ∷ xs) (y ∷ ys) h = ap suc (same_list_lengths f xs ys (second (f x y) (same_list f xs ys) h))
  where
    second : (a b : Bool) → (a && b) ≡ true → b ≡ true
    second true b h = h
    second false b h = absurd (false≢true h)

pub false_of : (b : Bool) → (b ≡ true → ⊥) → false ≡ b
false_of true h = absurd (h refl)
false_of false h = refl

pub other_lengths : {A : Type 0} (f : A → A → Bool) (xs ys : List A) → (length xs ≡ length ys → ⊥) → false ≡ same_list f xs ys
other_lengths f xs ys h = false_of (same_list f xs ys) (λ s. h (same_list_lengths f xs ys s))

-- ---- slots

module _ (ka : List ℕ) (osa : List Object) (a : ℕ) (kb : List ℕ) (osb : List Object) (b : ℕ) where
  -- whether the slots between two places are the same
  abbrev pub same_window : ℕ → ℕ → Bool
  same_window from end = same_refs (map (numbered_word ka) (take (end - from) (drop from (words_at osa a)))) (map (numbered_word kb) (take (end - from) (drop from (words_at osb b))))

  window_step : (i end : ℕ) → i < end → end ≤ slot_count_of osa a → end ≤ slot_count_of osb b
      → same_window i end ≡ (same_ref (numbered_word ka (slot_of osa a i)) (numbered_word kb (slot_of osb b i)) && same_window (i + 1) end)
  window_step i end less p q =
      ap₂ (λ (xs ys : List ℕ). same_refs (map (numbered_word ka) xs) (map (numbered_word kb) ys))
      (window_more (words_at osa a) i end 0 less (omega (arith, p, length-words_at osa a)))
      (window_more (words_at osb b) i end 0 less (omega (arith, q, length-words_at osb b)))
      ∙ ap₂ (λ (x y : ℕ). same_ref (numbered_word ka x) (numbered_word kb y) && same_window (i + 1) end) (word_is osa a i) (word_is osb b i)

  pub slots_more : (i end : ℕ) (r : Bool) → i < end → end ≤ slot_count_of osa a → end ≤ slot_count_of osb b
      → r ≡ same_ref (numbered_word ka (slot_of osa a i)) (numbered_word kb (slot_of osb b i)) → r ≡ true → same_window (i + 1) end ≡ same_window i end
  slots_more i end r less p q e t = sym (window_step i end less p q ∙ ap (λ (x : Bool). x && same_window (i + 1) end) (sym e ∙ t))

  pub slots_stop : (i end : ℕ) (r : Bool) → i < end → end ≤ slot_count_of osa a → end ≤ slot_count_of osb b
      → r ≡ same_ref (numbered_word ka (slot_of osa a i)) (numbered_word kb (slot_of osb b i)) → r ≡ false → false ≡ same_window i end
  slots_stop i end r less p q e t = sym (window_step i end less p q ∙ ap (λ (x : Bool). x && same_window (i + 1) end) (sym e ∙ t))

  pub slots_end : (i end : ℕ) → end ≤ i → true ≡ same_window i end
  slots_end i end past = sym (ap₂ (λ (xs ys : List ℕ). same_refs (map (numbered_word ka) xs) (map (numbered_word kb) ys)) (window_none (words_at osa a) i end past) (window_none (words_at osb b) i end past))

  -- all slots
  pub slots_whole : (n : ℕ) → n ≡ slot_count_of osa a → n ≡ slot_count_of osb b → same_window 0 n ≡ same_refs (map (numbered_word ka) (words_at osa a)) (map (numbered_word kb) (words_at osb b))
  slots_whole n p q =
      ap₂ (λ (xs ys : List ℕ). same_refs (map (numbered_word ka) xs) (map (numbered_word kb) ys))
      (take_all (n - 0) (words_at osa a) (omega (arith, p, length-words_at osa a))) (take_all (n - 0) (words_at osb b) (omega (arith, q, length-words_at osb b)))

  pub slots_other : (n m : ℕ) → n ≡ slot_count_of osa a → m ≡ slot_count_of osb b → (n ≡ m → ⊥) → false ≡ same_refs (map (numbered_word ka) (words_at osa a)) (map (numbered_word kb) (words_at osb b))
  slots_other n m p q ne =
      other_lengths same_ref (map (numbered_word ka) (words_at osa a)) (map (numbered_word kb) (words_at osb b))
      (λ e. ne (omega (arith, p, q, e, length-map (words_at osa a) (numbered_word ka), length-map (words_at osb b) (numbered_word kb), length-words_at osa a, length-words_at osb b)))

-- ---- bytes

module _ (osa : List Object) (a : ℕ) (osb : List Object) (b : ℕ) where
  abbrev pub same_bytes_window : ℕ → ℕ → Bool
  same_bytes_window from end = same_numbers (take (end - from) (drop from (bytes_of_words (words_at osa a)))) (take (end - from) (drop from (bytes_of_words (words_at osb b))))

  bytes_step : (i end : ℕ) → i < end → end ≤ 4 * slot_count_of osa a → end ≤ 4 * slot_count_of osb b
      → same_bytes_window i end ≡ (byte_of osa a i == byte_of osb b i && same_bytes_window (i + 1) end)
  bytes_step i end less p q =
      ap₂ same_numbers
      (window_more (bytes_of_words (words_at osa a)) i end 0 less (omega (arith, p, length-bytes_at osa a)))
      (window_more (bytes_of_words (words_at osb b)) i end 0 less (omega (arith, q, length-bytes_at osb b)))
      ∙ ap₂ (λ (x y : ℕ). x == y && same_bytes_window (i + 1) end) (byte_is osa a i (omega (arith, less, p))) (byte_is osb b i (omega (arith, less, q)))

  pub bytes_more : (i end x y : ℕ) → i < end → end ≤ 4 * slot_count_of osa a → end ≤ 4 * slot_count_of osb b → x ≡ byte_of osa a i → y ≡ byte_of osb b i → x ≡ y
      → same_bytes_window (i + 1) end ≡ same_bytes_window i end
  bytes_more i end x y less p q e f s = sym (bytes_step i end less p q ∙ ap (λ (t : Bool). t && same_bytes_window (i + 1) end) (eq-eqb (byte_of osa a i) (byte_of osb b i) (sym e ∙ s ∙ f)))

  pub bytes_stop : (i end x y : ℕ) → i < end → end ≤ 4 * slot_count_of osa a → end ≤ 4 * slot_count_of osb b → x ≡ byte_of osa a i → y ≡ byte_of osb b i → (x ≡ y → ⊥)
      → false ≡ same_bytes_window i end
  bytes_stop i end x y less p q e f s = sym (bytes_step i end less p q ∙ ap (λ (t : Bool). t && same_bytes_window (i + 1) end) (ne_eqb (byte_of osa a i) (byte_of osb b i) (λ g. s (e ∙ g ∙ sym f))))

  pub bytes_end : (i end : ℕ) → end ≤ i → true ≡ same_bytes_window i end
  bytes_end i end past = sym (ap₂ same_numbers (window_none (bytes_of_words (words_at osa a)) i end past) (window_none (bytes_of_words (words_at osb b)) i end past))

-- ---- bytes of objects of bytes or units

length-used : (os : List Object) (a end : ℕ) → end ≡ 4 * slot_count_of os a - unused_bytes (format_at os a) → length (used_bytes (format_at os a) (words_at os a)) ≡ end
length-used os a end e = omega (arith, e, length-take (4 * length (words_at os a) - unused_bytes (format_at os a)) (bytes_of_words (words_at os a)), length-bytes_at os a, length-words_at os a)

used_whole : (os : List Object) (a end : ℕ) → end ≡ 4 * slot_count_of os a - unused_bytes (format_at os a) → take (end - 0) (drop 0 (bytes_of_words (words_at os a))) ≡ used_bytes (format_at os a) (words_at os a)
used_whole os a end e = ap (λ (n : ℕ). take n (bytes_of_words (words_at os a))) (omega (arith, e, length-words_at os a))

pub raw_whole_same : (osa : List Object) (a : ℕ) (osb : List Object) (b m n : ℕ) → m ≡ 4 * slot_count_of osa a - unused_bytes (format_at osa a) → n ≡ 4 * slot_count_of osb b - unused_bytes (format_at osb b) → m ≡ n
    → same_bytes_window osa a osb b 0 m ≡ same_numbers (used_bytes (format_at osa a) (words_at osa a)) (used_bytes (format_at osb b) (words_at osb b))
raw_whole_same osa a osb b m n e f s = ap₂ same_numbers (used_whole osa a m e) (used_whole osb b m (s ∙ f))

pub raw_other : (osa : List Object) (a : ℕ) (osb : List Object) (b m n : ℕ) → m ≡ 4 * slot_count_of osa a - unused_bytes (format_at osa a) → n ≡ 4 * slot_count_of osb b - unused_bytes (format_at osb b) → (m ≡ n → ⊥)
    → false ≡ same_numbers (used_bytes (format_at osa a) (words_at osa a)) (used_bytes (format_at osb b) (words_at osb b))
raw_other osa a osb b m n e f ne =
    other_lengths (λ (x y : ℕ). x == y) (used_bytes (format_at osa a) (words_at osa a)) (used_bytes (format_at osb b) (words_at osb b))
    (λ s. ne (omega (arith, s, length-used osa a m e, length-used osb b n f)))

-- ---- methods

pub header_word : (os : List Object) (a h : ℕ) → h ≡ unwrap_or (natural_of_word (slot_of os a 0)) 0 → h ≡ method_header (words_at os a)
header_word os a h e = e ∙ ap (λ (w : ℕ). unwrap_or (natural_of_word w) 0) (sym (word_is os a 0))

pub code_within : (os : List Object) (a : ℕ) → MethodThere os a → 4 * (1 + literal_count (method_header (words_at os a))) ≤ 4 * slot_count_of os a - unused_bytes (format_at os a)
code_within os a t = omega (arith, t.slots, t.unused)

literals_window : (ws : List ℕ) (k : ℕ) → k ≡ 1 + literal_count (method_header ws) → take (k - 1) (drop 1 ws) ≡ literal_words ws
literals_window ws k e = ap (λ (n : ℕ). take n (drop 1 ws)) (omega (arith, e))

pub literals_same : (ka : List ℕ) (osa : List Object) (a : ℕ) (kb : List ℕ) (osb : List Object) (b k : ℕ) → k ≡ 1 + literal_count (method_header (words_at osa a)) → method_header (words_at osa a) ≡ method_header (words_at osb b)
    → same_window ka osa a kb osb b 1 k ≡ same_refs (map (numbered_word ka) (literal_words (words_at osa a))) (map (numbered_word kb) (literal_words (words_at osb b)))
literals_same ka osa a kb osb b k e h =
    ap₂ (λ (xs ys : List ℕ). same_refs (map (numbered_word ka) xs) (map (numbered_word kb) ys)) (literals_window (words_at osa a) k e) (literals_window (words_at osb b) k (e ∙ ap (λ (n : ℕ). 1 + literal_count n) h))

code_window : (os : List Object) (a k end : ℕ) → k ≡ 1 + literal_count (method_header (words_at os a)) → end ≡ 4 * slot_count_of os a - unused_bytes (format_at os a)
    → take (end - 4 * k) (drop (4 * k) (bytes_of_words (words_at os a))) ≡ used_bytes (format_at os a) (code_in (words_at os a))
code_window os a k end e f =
    let lc : ℕ = 1 + literal_count (method_header (words_at os a)) in
    let size : end - 4 * k ≡ 4 * length (drop lc (words_at os a)) - unused_bytes (format_at os a) = omega (arith, e, f, length-drop lc (words_at os a), length-words_at os a) in
    ap₂ (λ (n : ℕ) (us : List ℕ). take n us) size (ap (λ (n : ℕ). drop (4 * n) (bytes_of_words (words_at os a))) e ∙ sym (bytes_of-drop lc (words_at os a)))

length-code : (os : List Object) (a k end : ℕ) → k ≡ 1 + literal_count (method_header (words_at os a)) → end ≡ 4 * slot_count_of os a - unused_bytes (format_at os a)
    → length (used_bytes (format_at os a) (code_in (words_at os a))) ≡ end - 4 * k
length-code os a k end e f =
    ap length (sym (code_window os a k end e f))
    ∙ omega (arith, f, length-take (end - 4 * k) (drop (4 * k) (bytes_of_words (words_at os a))), length-drop (4 * k) (bytes_of_words (words_at os a)), length-bytes_at os a)

pub code_same : (osa : List Object) (a : ℕ) (osb : List Object) (b k m n : ℕ) → k ≡ 1 + literal_count (method_header (words_at osa a)) → method_header (words_at osa a) ≡ method_header (words_at osb b)
    → m ≡ 4 * slot_count_of osa a - unused_bytes (format_at osa a) → n ≡ 4 * slot_count_of osb b - unused_bytes (format_at osb b) → m ≡ n
    → same_bytes_window osa a osb b (4 * k) m ≡ same_numbers (used_bytes (format_at osa a) (code_in (words_at osa a))) (used_bytes (format_at osb b) (code_in (words_at osb b)))
code_same osa a osb b k m n e h f g s = ap₂ same_numbers (code_window osa a k m e f) (code_window osb b k m (e ∙ ap (λ (x : ℕ). 1 + literal_count x) h) (s ∙ g))

pub code_other : (osa : List Object) (a : ℕ) (osb : List Object) (b m n : ℕ) → MethodThere osa a → MethodThere osb b → method_header (words_at osa a) ≡ method_header (words_at osb b)
    → m ≡ 4 * slot_count_of osa a - unused_bytes (format_at osa a) → n ≡ 4 * slot_count_of osb b - unused_bytes (format_at osb b) → (m ≡ n → ⊥)
    → false ≡ same_numbers (used_bytes (format_at osa a) (code_in (words_at osa a))) (used_bytes (format_at osb b) (code_in (words_at osb b)))
code_other osa a osb b m n t u h f g ne =
    other_lengths (λ (x y : ℕ). x == y) (used_bytes (format_at osa a) (code_in (words_at osa a))) (used_bytes (format_at osb b) (code_in (words_at osb b)))
    (λ s.
    let k : ℕ = 1 + literal_count (method_header (words_at osa a)) in
    let headers : 1 + literal_count (method_header (words_at osa a)) ≡ 1 + literal_count (method_header (words_at osb b)) = ap (λ (x : ℕ). 1 + literal_count x) h in
    ne (omega (arith, s, length-code osa a (1 + literal_count (method_header (words_at osa a))) m refl f, length-code osb b (1 + literal_count (method_header (words_at osa a))) n headers g, code_within osa a t, code_within osb b u, headers, f, g)))

-- ---- stacks

length-stack : (os : List Object) (a : ℕ) → 6 + depth_in (words_at os a) ≤ slot_count_of os a → length (take (depth_in (words_at os a)) (drop 6 (words_at os a))) ≡ depth_in (words_at os a)
length-stack os a h = omega (arith, h, length-take (depth_in (words_at os a)) (drop 6 (words_at os a)), length-drop 6 (words_at os a), length-words_at os a)

pub stacks_same : (ka : List ℕ) (osa : List Object) (a : ℕ) (kb : List ℕ) (osb : List Object) (b m n : ℕ) → m ≡ depth_in (words_at osa a) → n ≡ depth_in (words_at osb b) → m ≡ n
    → same_window ka osa a kb osb b 6 (6 + m) ≡ same_refs (map (numbered_word ka) (take (depth_in (words_at osa a)) (drop 6 (words_at osa a)))) (map (numbered_word kb) (take (depth_in (words_at osb b)) (drop 6 (words_at osb b))))
stacks_same ka osa a kb osb b m n e f s =
    let one : 6 + m - 6 ≡ depth_in (words_at osa a) = omega (arith, e) in
    let two : 6 + m - 6 ≡ depth_in (words_at osb b) = omega (arith, f, s) in
    ap₂ (λ (i j : ℕ). same_refs (map (numbered_word ka) (take i (drop 6 (words_at osa a)))) (map (numbered_word kb) (take j (drop 6 (words_at osb b))))) one two

pub stacks_other : (ka : List ℕ) (osa : List Object) (a : ℕ) (kb : List ℕ) (osb : List Object) (b m n : ℕ) → 6 + depth_in (words_at osa a) ≤ slot_count_of osa a → 6 + depth_in (words_at osb b) ≤ slot_count_of osb b
    → m ≡ depth_in (words_at osa a) → n ≡ depth_in (words_at osb b) → (m ≡ n → ⊥)
    → false ≡ same_refs (map (numbered_word ka) (take (depth_in (words_at osa a)) (drop 6 (words_at osa a)))) (map (numbered_word kb) (take (depth_in (words_at osb b)) (drop 6 (words_at osb b))))
stacks_other ka osa a kb osb b m n h i e f ne =
    other_lengths same_ref (map (numbered_word ka) (take (depth_in (words_at osa a)) (drop 6 (words_at osa a)))) (map (numbered_word kb) (take (depth_in (words_at osb b)) (drop 6 (words_at osb b))))
    (λ s. ne (omega (arith, s, e, f, length-map (take (depth_in (words_at osa a)) (drop 6 (words_at osa a))) (numbered_word ka), length-map (take (depth_in (words_at osb b)) (drop 6 (words_at osb b))) (numbered_word kb), length-stack osa a h, length-stack osb b i)))

-- ---- places

pub pcs_same : (osa : List Object) (a : ℕ) (osb : List Object) (b v w : ℕ) (p q : Option ℕ) (r : Bool) → r ≡ same_pc p q → p ≡ natural_of_word v → q ≡ natural_of_word w → v ≡ slot_of osa a 1 → w ≡ slot_of osb b 1
    → r ≡ same_pc (natural_of_word (slot_of osa a 1)) (natural_of_word (slot_of osb b 1))
pcs_same osa a osb b v w p q r e f g h i = e ∙ ap₂ same_pc (f ∙ ap natural_of_word h) (g ∙ ap natural_of_word i)

pub both_parts : (s t u v : Bool) → s ≡ t → s ≡ true → u ≡ v → u ≡ (t && v)
both_parts s t u v e h f = f ∙ sym (ap (λ (x : Bool). x && v) (sym e ∙ h))
