-- What the words of a file are in memory.
use Rattle.std.proofs.Common.{◌≡◌, ◌≢◌, ℕ, zero, suc, ◌+◌, ◌*◌, ◌/◌, ◌%◌, ◌<◌, ◌≤◌, ◌==◌, ◌&&◌, ◌||◌, inl, inr, leb, Bool, true, false, cond, not, List, [], ◌∷◌, length, map, take, drop, get_or, Option, Some, None, refl, ap, sym, ◌∙◌, arith, slice_index, length-drop}
use Rattle.std.proofs.lemmas.List.{get_or-map, get_or-take, get_or-drop, ext_get_or, length-map, length-take-le}
use Rattle.std.proofs.lemmas.List.FromFn.{get_or-map-range_with_len, length-map-range_with_len}
use Rattle.std.proofs.lemmas.Bool.Decides.{nat_tests, eqb_tells}
use Rattle.std.specs.Option.{option_map_or}
use Rattle.std.specs.List.{range_with_len}
use Rattle.cs_word.specs.Word.{natural_by_kind, natural_of_word}
use Rattle.cs_word.specs.declared.Kind.TheVariants as kind
use Rattle.cs_model.specs.Ref.{Ref}
use Rattle.cs_model.specs.Ref as ref
use Rattle.cs_model.specs.Obj.{literal_count}
use Rattle.cs_model.specs.Words.{ref_by, natural_in_word, is_pointer_format, is_method_format, header_in_words, literals_in_words}
use Rattle.cs_model.specs.ImageFile.{FileObject, File, is_visible, visible, named, names, address_in}
use Rattle.cs_model.specs.ImageFault.{is_lost}
use Rattle.cs_model.specs.Image.{birth_in}
use Rattle.cs_heap.specs.Object.{Object, base, header_address, size}
use Rattle.cs_classes.specs.Meaning.{ref_of}
use Rattle.cs_classes.specs.Sound.{is_reference}
use Rattle.cs_classes.proofs.Refs.{ref_of-object, is_reference-object}
use Rattle.cs_image.specs.Loading.{number_that, addresses_of, address_named, translated, refers, loaded_word, loaded_from}
use Rattle.cs_image.proofs.Naming.{Stands, stands_named, stands_there, birth_of-named}

-- the objects that a file becomes, with these births
abbrev pub memory_of : List ℕ → File → List Object
memory_of births f = loaded_from f births 0 (visible f)

-- what a word of the file refers to in the state
abbrev pub meant : List ℕ → File → ℕ → Ref
meant births f word = ref.Obj (birth_in f births word)

-- ---- a word that isn't lost

visible_named : (births : List ℕ) (f : File) (word : ℕ) → names f is_visible word ≡ true → Stands births f word
visible_named births f word h = go (named f word) refl h
  where
    go : (r : Option FileObject) → named f word ≡ r → option_map_or is_visible r false ≡ true → Stands births f word
    go None e h = absurd (cc)
    go (Some x) e h = stands_named births f word x e h

pub not_lost : (births : List ℕ) (f : File) (word : ℕ) → is_lost f word ≡ false → word % 4 ≡ 0 → Stands births f word
not_lost births f word h z = visible_named births f word (go (names f is_visible word) (word % 4 == 0) aligned h)
  where
    aligned : (word % 4 == 0) ≡ true
    aligned = grind (arith, nat_tests, z)

    go : (b c : Bool) → c ≡ true → (c && not b) ≡ false → b ≡ true
    go true c e h = refl
    go false true e h = absurd (cc)
    go false false e h = absurd (cc)

-- the low bits of a word
data Low (word : ℕ) : Type 0 where
  Odd : word % 2 ≡ 1 → Low word
  Two : word % 4 ≡ 2 → Low word
  Zero : word % 4 ≡ 0 → Low word

low : (word : ℕ) → Low word
low word = elim (eqb_tells (word % 2) 1) [
  | inl h ↦ Odd h.1
  | inr h ↦ elim (eqb_tells (word % 4) 2) [ inl g ↦ Two g.1 | inr g ↦ Zero (omega (arith, h.1, g.1)) ]
]

yes_test : (a b : ℕ) → a ≡ b → (a == b) ≡ true
yes_test a b e = grind (arith, nat_tests, e)

no_test : (a b : ℕ) → a ≢ b → (a == b) ≡ false
no_test a b e = grind (arith, nat_tests, e)

pub ref_translated : (births : List ℕ) (f : File) (word : ℕ) → is_lost f word ≡ false → ref_of (memory_of births f) (translated f word) ≡ ref_by (meant births f) word
unfolding ref_of
ref_translated births f word h = go (low word)
  where
    go : Low word → ref_of (memory_of births f) (translated f word) ≡ ref_by (meant births f) word
    go (Odd e) =
        let a : (word % 4 == 0) ≡ false = no_test _ _ (λ z. absurd (omega (arith, e, z))) in
        let b : (word % 2 == 1) ≡ true = yes_test _ _ e in
        rw (a, b) refl
    go (Two e) =
        let a : (word % 4 == 0) ≡ false = no_test _ _ (λ z. absurd (omega (arith, e, z))) in
        let b : (word % 2 == 1) ≡ false = no_test _ _ (λ z. absurd (omega (arith, e, z))) in
        let d : (word % 4 == 2) ≡ true = yes_test _ _ e in
        rw (a, b, d) refl
    go (Zero e) =
        let a : (word % 4 == 0) ≡ true = yes_test _ _ e in
        let b : (word % 2 == 1) ≡ false = no_test _ _ (λ z. absurd (omega (arith, e, z))) in
        let d : (word % 4 == 2) ≡ false = no_test _ _ (λ z. absurd (omega (arith, e, z))) in
        let s = not_lost births f word h e in
        let t : translated f word ≡ address_named f word = rw a refl in
        let u : ref_by (meant births f) word ≡ meant births f word = rw (b, d) refl in
        ap (ref_of (memory_of births f)) t ∙ ref_of-object (memory_of births f) (address_named f word) (stands_there births f word s)
        ∙ ap ref.Obj (birth_of-named births f word s) ∙ sym u

pub is_reference_translated : (births : List ℕ) (f : File) (word : ℕ) → is_lost f word ≡ false → is_reference (memory_of births f) (translated f word) ≡ true
unfolding is_reference
is_reference_translated births f word h = go (low word)
  where
    go : Low word → is_reference (memory_of births f) (translated f word) ≡ true
    go (Odd e) =
        let a : (word % 4 == 0) ≡ false = no_test _ _ (λ z. absurd (omega (arith, e, z))) in
        let b : (word % 2 == 1) ≡ true = yes_test _ _ e in
        rw (a, b) refl
    go (Two e) =
        let a : (word % 4 == 0) ≡ false = no_test _ _ (λ z. absurd (omega (arith, e, z))) in
        let b : (word % 2 == 1) ≡ false = no_test _ _ (λ z. absurd (omega (arith, e, z))) in
        let d : (word % 4 == 2) ≡ true = yes_test _ _ e in
        rw (a, b, d) refl
    go (Zero e) =
        let a : (word % 4 == 0) ≡ true = yes_test _ _ e in
        let t : translated f word ≡ address_named f word = rw a refl in
        ap (is_reference (memory_of births f)) t ∙ is_reference-object (memory_of births f) (address_named f word) (stands_there births f word (not_lost births f word h e))

-- ---- numbers

even_addresses : (os : List FileObject) (used k : ℕ) → slice_index (addresses_of os used) k % 2 ≡ 0
unfolding addresses_of
even_addresses [] used k = refl
even_addresses (o ∷ os) used k = go (is_visible o) k (even_addresses os)
  where
    here : header_address (base + 4 * used) (length o.words) % 2 ≡ 0
    here = omega arith

    go : (v : Bool) (k : ℕ) → ((u i : ℕ) → slice_index (addresses_of os u) i % 2 ≡ 0)
        → slice_index (cond v (header_address (base + 4 * used) (length o.words) ∷ addresses_of os (used + size (length o.words))) (0 ∷ addresses_of os used)) k % 2 ≡ 0
    go true zero rest = here
    go true (suc k) rest = rest (used + size (length o.words)) k
    go false zero rest = refl
    go false (suc k) rest = rest used k

even_address : (f : File) (word : ℕ) → address_named f word % 2 ≡ 0
unfolding address_named
even_address f word = go (number_that (λ o. address_in f o == word) f.objects)
  where
    go : (r : Option ℕ) → option_map_or (λ k. slice_index (addresses_of f.objects 0) k) r 0 % 2 ≡ 0
    go None = refl
    go (Some k) = even_addresses f.objects 0 k

count_even : (word : ℕ) → word % 2 ≡ 0 → natural_of_word word ≡ None
unfolding natural_of_word
count_even word e =
    let b : (word % 2 == 1) ≡ false = no_test _ _ (λ z. absurd (omega (arith, e, z))) in
    rw b (go (word % 4 == 2) (word % 8 == 0))
  where
    go : (c d : Bool) → natural_by_kind (cond c (kind.Character (word / 4)) (cond d (kind.Object word) (kind.Link word))) ≡ None
    go true d = refl
    go false true = refl
    go false false = refl

pub natural_even : (word : ℕ) → word % 2 ≡ 0 → natural_in_word word ≡ None
natural_even word e = let b : (word % 2 == 1) ≡ false = no_test _ _ (λ z. absurd (omega (arith, e, z))) in rw b refl

pub count_same : (word : ℕ) → natural_of_word word ≡ natural_in_word word
unfolding natural_of_word
count_same word = elim (eqb_tells (word % 2) 1) [ inl h ↦ odd h.0 | inr h ↦ let e : word % 2 ≡ 0 = omega (arith, h.1) in count_even word e ∙ sym (natural_even word e) ]
  where
    odd : (word % 2 == 1) ≡ true → natural_of_word word ≡ natural_in_word word
    odd b = rw b refl

pub count_translated : (f : File) (word : ℕ) → natural_of_word (translated f word) ≡ natural_in_word word
count_translated f word = elim (eqb_tells (word % 4) 0) [
  | inl h ↦
      let t : translated f word ≡ address_named f word = rw h.0 refl in
      ap natural_of_word t ∙ count_even (address_named f word) (even_address f word) ∙ sym (natural_even word (omega (arith, h.1)))
  | inr h ↦ let t : translated f word ≡ word = rw h.0 refl in ap natural_of_word t ∙ count_same word
]

-- ---- the words of an object

abbrev pub loaded_words : File → ℕ → List ℕ → List ℕ
loaded_words f format words = map (loaded_word f format words) (range_with_len 0 (length words))

pub length-loaded_words : (f : File) (format : ℕ) (words : List ℕ) → length (loaded_words f format words) ≡ length words
length-loaded_words f format words = length-map-range_with_len (loaded_word f format words) 0 (length words)

pub get_loaded : (f : File) (format : ℕ) (words : List ℕ) (i : ℕ) → i < length words → get_or (loaded_words f format words) i 0 ≡ loaded_word f format words i
get_loaded f format words i h = get_or-map-range_with_len (loaded_word f format words) 0 (length words) i i 0 h (omega arith)

word_refers : (f : File) (format : ℕ) (words : List ℕ) (i : ℕ) → refers format words i ≡ true → loaded_word f format words i ≡ translated f (get_or words i 0)
unfolding loaded_word
word_refers f format words i h = rw h refl

pub word_stays : (f : File) (format : ℕ) (words : List ℕ) (i : ℕ) → refers format words i ≡ false → loaded_word f format words i ≡ get_or words i 0
unfolding loaded_word
word_stays f format words i h = rw h refl

pub words_pointers : (f : File) (format : ℕ) (words : List ℕ) → is_pointer_format format ≡ true → loaded_words f format words ≡ map (translated f) words
words_pointers f format words p = ext_get_or 0 (loaded_words f format words) (map (translated f) words) (length-loaded_words f format words ∙ sym (length-map words (translated f)))
    (λ i h. let inside : i < length words = omega (arith, h, length-loaded_words f format words) in
    get_loaded f format words i inside ∙ word_refers f format words i (rw p refl) ∙ sym (get_or-map (translated f) words i 0 0 inside))

pub words_raw : (f : File) (format : ℕ) (words : List ℕ) → is_pointer_format format ≡ false → is_method_format format ≡ false → loaded_words f format words ≡ words
words_raw f format words p m = ext_get_or 0 (loaded_words f format words) words (length-loaded_words f format words)
    (λ i h. let inside : i < length words = omega (arith, h, length-loaded_words f format words) in
    get_loaded f format words i inside ∙ word_stays f format words i (rw (p, m) refl))

-- a method keeps its header and its bytecodes, and its literals are translated
pub record IsMethodOf (f : File) (format : ℕ) (words : List ℕ) : Type 0 where
  pub pointers : is_pointer_format format ≡ false
  pub method : is_method_format format ≡ true
  pub fits : literal_count (header_in_words words) < length words

method_refers : (f : File) (format : ℕ) (words : List ℕ) (i : ℕ) → IsMethodOf f format words → 1 ≤ i → i ≤ literal_count (header_in_words words) → refers format words i ≡ true
method_refers f format words i m low high = go (is_pointer_format format) (is_method_format format) m.method (one i low) (upto i (literal_count (header_in_words words)) high)
  where
    one : (i : ℕ) → 1 ≤ i → leb 1 i ≡ true
    one i h = grind (arith, nat_tests, h)

    upto : (i n : ℕ) → i ≤ n → leb i n ≡ true
    upto i n h = grind (arith, nat_tests, h)

    go : (b c : Bool) {d e : Bool} → c ≡ true → d ≡ true → e ≡ true → (b || c && (d && e)) ≡ true
    go true c x y z = refl
    go false c x y z = rw (x, y, z) refl

pub method_head : (f : File) (format : ℕ) (words : List ℕ) → is_pointer_format format ≡ false → 0 < length words → get_or (loaded_words f format words) 0 0 ≡ get_or words 0 0
method_head f format words p h = get_loaded f format words 0 h ∙ word_stays f format words 0 (go (is_method_format format))
  where
    go : (c : Bool) → (is_pointer_format format || c && (leb 1 0 && leb 0 (literal_count (header_in_words words)))) ≡ false
    go true = rw p refl
    go false = rw p refl

pub method_literals : (f : File) (format : ℕ) (words : List ℕ) → IsMethodOf f format words
    → take (literal_count (header_in_words words)) (drop 1 (loaded_words f format words)) ≡ map (translated f) (literals_in_words words)
method_literals f format words m = ext_get_or 0 (take n (drop 1 (loaded_words f format words))) (map (translated f) (take n (drop 1 words)))
    (length-take-le n (drop 1 (loaded_words f format words)) fits_loaded ∙ sym (length-map (take n (drop 1 words)) (translated f) ∙ length-take-le n (drop 1 words) fits_words))
    (λ i h.
    let inside : i < n = omega (arith, h, length-take-le n (drop 1 (loaded_words f format words)) fits_loaded) in
    let behind : 1 + i < length words = omega (arith, inside, m.fits) in
    get_or-take n (drop 1 (loaded_words f format words)) i 0 inside
    ∙ get_or-drop 1 (loaded_words f format words) i 0
    ∙ get_loaded f format words (1 + i) behind
    ∙ word_refers f format words (1 + i) (method_refers f format words (1 + i) m (omega arith) (omega (arith, inside)))
    ∙ ap (translated f) (sym (get_or-take n (drop 1 words) i 0 inside ∙ get_or-drop 1 words i 0))
    ∙ sym (get_or-map (translated f) (take n (drop 1 words)) i 0 0 (omega (arith, inside, length-take-le n (drop 1 words) fits_words))))
  where
    n : ℕ
    n = literal_count (header_in_words words)

    fits_words : n ≤ length (drop 1 words)
    fits_words = let d = length-drop 1 words in omega (arith, d, m.fits)

    fits_loaded : n ≤ length (drop 1 (loaded_words f format words))
    fits_loaded = let d = length-drop 1 (loaded_words f format words) in omega (arith, d, m.fits, length-loaded_words f format words)
