-- What the words of a file that is saved mean is what those of the memory mean.
use Rattle.std.proofs.Common.{◌≡◌, ◌≢◌, ℕ, zero, suc, ◌+◌, ◌/◌, ◌%◌, ◌^◌, ◌≤◌, ◌==◌, Bool, true, false, cond, nat_lt, inl, inr, List, [], ◌∷◌, length, map, Option, Some, None, refl, ap, sym, ◌∙◌, arith, slice_get, slice_index}
use Rattle.std.specs.Option.{option_map_or}
use Rattle.std.specs.Ordering.{nat_cmp}
use Rattle.std.specs.FinMap.{FinMap}
use Rattle.std.proofs.lemmas.List.{length-map}
use Rattle.std.proofs.lemmas.Bool.Decides.{nat_tests, eqb_tells}
use Rattle.cs_word.specs.Word.{natural_by_kind, natural_of_word}
use Rattle.cs_word.specs.declared.Kind.TheVariants as kind
use Rattle.cs_heap.specs.Object.{Object, birth_at, is_object, used}
use Rattle.cs_model.specs.Ref.{Ref}
use Rattle.cs_model.specs.Ref as ref
use Rattle.cs_model.specs.Words.{ref_by, natural_in_word, small_value}
use Rattle.cs_model.specs.SavedFile.{FitsFile}
use Rattle.cs_classes.specs.declared.Roots.{Roots}
use Rattle.cs_classes.specs.Meaning.{ref_of}
use Rattle.cs_classes.specs.Sound.{is_reference, is_reference_kind}
use Rattle.cs_classes.proofs.Refs.{ref_of-object}
use Rattle.cs_model.specs.SoundFile.{saved_birth}
use Rattle.cs_model.proofs.SavedBirths.{birth_by_number}
use Rattle.cs_save.specs.Filed.{filed, saved_file, file_word}
use Rattle.cs_save.proofs.Addresses.{StartsBare, object_there}

-- a memory whose file can be written
pub record IsFiled (xs : List Object) (table : FinMap nat_cmp ℕ) (roots : Roots) : Type 0 where
  pub bare : StartsBare xs
  pub few : used xs ≤ 67108864
  pub fits : FitsFile (saved_file xs table roots)

-- ---- births

birth_get : (xs : List Object) (k : ℕ) (x : Object) → slice_get xs k ≡ Some x → slice_index (map (λ y. y.birth) xs) k ≡ x.birth
birth_get [] k x e = absurd (cc)
birth_get (y ∷ xs) zero x e = let same : y ≡ x = cc in ap (λ (z : Object). z.birth) same
birth_get (y ∷ xs) (suc k) x e = birth_get xs k x e

pub birth_same : (xs : List Object) (table : FinMap nat_cmp ℕ) (roots : Roots) → IsFiled xs table roots → (a : ℕ) → is_object xs a ≡ true
    → saved_birth (saved_file xs table roots) (file_word a) ≡ birth_at xs a
birth_same xs table roots f a h =
    let o = object_there xs a f.bare f.few h in
    let long : length (map (λ (x : Object). x.birth) xs) ≡ length (map filed xs) = length-map xs (λ (x : Object). x.birth) ∙ sym (length-map xs filed) in
    ap (saved_birth (saved_file xs table roots)) o.place
    ∙ birth_by_number (saved_file xs table roots) f.fits long o.number (filed o.object) o.filed_there
    ∙ birth_get xs o.number o.object o.there
    ∙ sym (ap (λ (r : Option Object). option_map_or (λ x. x.birth) r 0) o.found)

-- ---- words

-- the low bits of a word
pub data Low (word : ℕ) : Type 0 where
  Odd : word % 2 ≡ 1 → Low word
  Two : word % 4 ≡ 2 → Low word
  Zero : word % 4 ≡ 0 → Low word

pub low : (word : ℕ) → Low word
low word = elim (eqb_tells (word % 2) 1) [
  | inl h ↦ Odd h.1
  | inr h ↦ elim (eqb_tells (word % 4) 2) [ inl g ↦ Two g.1 | inr g ↦ Zero (omega (arith, h.1, g.1)) ]
]

yes_test : (a b : ℕ) → a ≡ b → (a == b) ≡ true
yes_test a b e = grind (arith, nat_tests, e)

no_test : (a b : ℕ) → a ≢ b → (a == b) ≡ false
no_test a b e = grind (arith, nat_tests, e)

-- a word that isn't aligned stays
pub word_stays : (w : ℕ) → w % 4 ≢ 0 → file_word w ≡ w
unfolding file_word
word_stays w h = rw (no_test (w % 4) 0 h) refl

aligned : (w : ℕ) → w % 4 ≡ 0 → file_word w % 4 ≡ 0
unfolding file_word
aligned w h = rw (yes_test (w % 4) 0 h) (go (nat_lt w 65584))
  where
    go : (b : Bool) → cond b w ((w + 88) % 2 ^ 32) % 4 ≡ 0
    go true = h
    go false = omega (arith, h)

-- a word that is a reference to an object is its address
pub reference_object : (xs : List Object) (w : ℕ) → is_reference xs w ≡ true → w % 4 ≡ 0 → is_object xs w ≡ true
unfolding is_reference
reference_object xs w h z = go (w % 8 == 0) (ap (is_reference_kind xs) (sym odd) ∙ h)
  where
    a : (w % 2 == 1) ≡ false
    a = no_test _ _ (λ e. absurd (omega (arith, e, z)))

    b : (w % 4 == 2) ≡ false
    b = no_test _ _ (λ e. absurd (omega (arith, e, z)))

    odd : cond (w % 2 == 1) (kind.Small (small_value w)) (cond (w % 4 == 2) (kind.Character (w / 4)) (cond (w % 8 == 0) (kind.Object w) (kind.Link w)))
        ≡ cond (w % 8 == 0) (kind.Object w) (kind.Link w)
    odd = rw (a, b) refl

    go : (c : Bool) → is_reference_kind xs (cond c (kind.Object w) (kind.Link w)) ≡ true → is_object xs w ≡ true
    go true e = e
    go false e = absurd (cc)

-- where an object's new address has its birth, a word means the same
ref_named : (xs : List Object) (named : ℕ → Ref) (w : ℕ) → is_reference xs w ≡ true → (is_object xs w ≡ true → named (file_word w) ≡ ref.Obj (birth_at xs w))
    → ref_by named (file_word w) ≡ ref_of xs w
unfolding ref_of
ref_named xs named w h same = go (low w)
  where
    odd : (v : ℕ) → v % 2 ≡ 1 → ref_by named v ≡ ref_of xs v
    odd v e = let b : (v % 2 == 1) ≡ true = yes_test _ _ e in rw b refl

    two : (v : ℕ) → v % 4 ≡ 2 → ref_by named v ≡ ref_of xs v
    two v e =
        let b : (v % 2 == 1) ≡ false = no_test _ _ (λ z. absurd (omega (arith, e, z))) in
        let d : (v % 4 == 2) ≡ true = yes_test _ _ e in
        rw (b, d) refl

    zero_bits : (v : ℕ) → v % 4 ≡ 0 → ref_by named v ≡ named v
    zero_bits v e =
        let b : (v % 2 == 1) ≡ false = no_test _ _ (λ z. absurd (omega (arith, e, z))) in
        let d : (v % 4 == 2) ≡ false = no_test _ _ (λ z. absurd (omega (arith, e, z))) in
        rw (b, d) refl

    go : Low w → ref_by named (file_word w) ≡ ref_of xs w
    go (Odd e) = ap (ref_by named) (word_stays w (λ z. absurd (omega (arith, e, z)))) ∙ odd w e
    go (Two e) = ap (ref_by named) (word_stays w (λ z. absurd (omega (arith, e, z)))) ∙ two w e
    go (Zero e) =
        let there = reference_object xs w h e in
        zero_bits (file_word w) (aligned w e) ∙ same there ∙ sym (ref_of-object xs w there)

pub ref_same : (xs : List Object) (table : FinMap nat_cmp ℕ) (roots : Roots) → IsFiled xs table roots → (w : ℕ) → is_reference xs w ≡ true
    → ref_by (λ word. ref.Obj (saved_birth (saved_file xs table roots) word)) (file_word w) ≡ ref_of xs w
ref_same xs table roots f w h =
    ref_named xs (λ word. ref.Obj (saved_birth (saved_file xs table roots) word)) w h (λ there. ap ref.Obj (birth_same xs table roots f w there))

-- ---- numbers

count_even : (w : ℕ) → w % 2 ≡ 0 → natural_of_word w ≡ None
unfolding natural_of_word
count_even w e =
    let b : (w % 2 == 1) ≡ false = no_test _ _ (λ z. absurd (omega (arith, e, z))) in
    rw b (go (w % 4 == 2) (w % 8 == 0))
  where
    go : (c d : Bool) → natural_by_kind (cond c (kind.Character (w / 4)) (cond d (kind.Object w) (kind.Link w))) ≡ None
    go true d = refl
    go false true = refl
    go false false = refl

natural_even : (w : ℕ) → w % 2 ≡ 0 → natural_in_word w ≡ None
natural_even w e = let b : (w % 2 == 1) ≡ false = no_test _ _ (λ z. absurd (omega (arith, e, z))) in rw b refl

-- a word that isn't changed
pub natural_same : (w : ℕ) → natural_in_word w ≡ natural_of_word w
unfolding natural_of_word
natural_same w = go (low w)
  where
    go : Low w → natural_in_word w ≡ natural_of_word w
    go (Odd e) = let b : (w % 2 == 1) ≡ true = yes_test _ _ e in rw b refl
    go (Two e) = natural_even w (omega (arith, e)) ∙ sym (count_even w (omega (arith, e)))
    go (Zero e) = natural_even w (omega (arith, e)) ∙ sym (count_even w (omega (arith, e)))

pub count_same : (w : ℕ) → natural_in_word (file_word w) ≡ natural_of_word w
count_same w = go (low w)
  where
    go : Low w → natural_in_word (file_word w) ≡ natural_of_word w
    go (Odd e) = ap natural_in_word (word_stays w (λ z. absurd (omega (arith, e, z)))) ∙ natural_same w
    go (Two e) = ap natural_in_word (word_stays w (λ z. absurd (omega (arith, e, z)))) ∙ natural_same w
    go (Zero e) = let still = aligned w e in natural_even (file_word w) (omega (arith, still)) ∙ sym (count_even w (omega (arith, e)))
