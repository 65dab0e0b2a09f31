-- What words refer to: that it stays when objects change or come, and that one word alone refers to each thing.
use Rattle.std.proofs.Common.{◌≡◌, ℕ, ℤ, pos, ◌^◌, ◌%◌, ◌<◌, Bool, true, false, List, [], ◌∷◌, ◌++◌, length, Some, refl, ap, ap₂, sym, ◌∙◌, arith, eqb, ◌⊎◌, inl, inr}
use Rattle.std.specs.Prelude.{unwrap_or, ◌==◌, ◌&&◌, ◌||◌}
use Rattle.std.proofs.lemmas.Bool.{eq-eqb, eqb-true, ne_eqb, false≢true, or_left, or_right}
use Rattle.std.proofs.lemmas.Bool.Decides.{Decides-int_eq}
use Rattle.std.proofs.lemmas.Int.{ints}
use Rattle.cs_word.specs.declared.Kind.{Kind}
use Rattle.cs_word.specs.declared.Kind.TheVariants as kind
use Rattle.cs_word.specs.Word.{IsSmall, character_word, kind_of, small_word, natural_by_kind, natural_of_word}
use Rattle.cs_word.proofs.Words.{kind_of-character_word, kind_of-injective, kind_of-link, kind_of-object, kind_of-small_word}
use Rattle.cs_heap.specs.Format.{is_code}
use Rattle.cs_heap.specs.Object.{Object, address_among, base, birth_at, class_at, part_at, format_at, is_object, slot_count_of, with_object}
use Rattle.cs_heap.proofs.Laws.{field_of-old, field_of-with_object_kept, index_of-injective, is_object-old, is_object-with_object, object_placed, slot_counts-with_object}
use Rattle.cs_model.specs.Ref.{Ref, small_index, same_ref}
use Rattle.cs_model.specs.Ref as ref
use Rattle.cs_classes.specs.Meaning.{ref_of, ref_of_kind}
use Rattle.cs_classes.specs.Sound.{AreSoundObjects, is_closure_address, is_method_address, is_reference, is_reference_kind, is_sender, is_sender_kind, nil_word}
use Rattle.cs_classes.proofs.Heaps.{IsEdit, birth_of-object_at, birth_of-push, birth_of-with_object, object_there, stands}

-- ---- what a word of each kind refers to

pub ref_of-small : (os : List Object) (z : ℤ) → IsSmall z → ref_of os (small_word z) ≡ ref.Small z
unfolding ref_of
ref_of-small os z h = ap (ref_of_kind os) (kind_of-small_word z h)

pub ref_of-character : (os : List Object) (code : ℕ) → ref_of os (character_word code) ≡ ref.Char code
unfolding ref_of
ref_of-character os code = ap (ref_of_kind os) (kind_of-character_word code)

pub ref_of-object : (os : List Object) (a : ℕ) → is_object os a ≡ true → ref_of os a ≡ ref.Obj (birth_at os a)
unfolding ref_of
ref_of-object os a h = ap (ref_of_kind os) (kind_of-object a (object_placed os a h).aligned)

pub is_reference-object : (os : List Object) (a : ℕ) → is_object os a ≡ true → is_reference os a ≡ true
unfolding is_reference
is_reference-object os a h = ap (is_reference_kind os) (kind_of-object a (object_placed os a h).aligned) ∙ h

pub is_reference-small : (os : List Object) (z : ℤ) → IsSmall z → is_reference os (small_word z) ≡ true
unfolding is_reference
is_reference-small os z h = ap (is_reference_kind os) (kind_of-small_word z h)

pub is_reference-character : (os : List Object) (code : ℕ) → is_reference os (character_word code) ≡ true
unfolding is_reference
is_reference-character os code = ap (is_reference_kind os) (kind_of-character_word code)

pub small_natural : (n : ℕ) → n < 2 ^ 30 → IsSmall (pos n)
small_natural n h = (omega (arith, ints), omega (arith, ints))

pub count_of-small : (n : ℕ) → n < 2 ^ 30 → natural_of_word (small_word (pos n)) ≡ Some n
unfolding natural_of_word
count_of-small n h = ap natural_by_kind (kind_of-small_word (pos n) (small_natural n h))

-- a count is the same as a word and as a reference
pub index_of-ref_of : (os : List Object) (w : ℕ) → is_reference os w ≡ true → small_index (ref_of os w) ≡ natural_of_word w
unfolding ref_of is_reference natural_of_word
index_of-ref_of os w h = at (kind_of w) h
  where
    at : (k : Kind) → is_reference_kind os k ≡ true → small_index (ref_of_kind os k) ≡ natural_by_kind k
    at (kind.Small z) h = refl
    at (kind.Character c) h = refl
    at (kind.Object a) h = refl
    at (kind.Link b) h = absurd (false≢true h)

-- ---- words that name nothing but objects

abbrev pub is_placed_kind : List Object → Kind → Bool
is_placed_kind os (kind.Small value) = true
is_placed_kind os (kind.Character code) = true
is_placed_kind os (kind.Object address) = is_object os address
is_placed_kind os (kind.Link word) = true

-- a word is no address, or that of an object
unfoldable pub is_placed : List Object → ℕ → Bool
is_placed os w = is_placed_kind os (kind_of w)

pub placed-reference : (os : List Object) (w : ℕ) → is_reference os w ≡ true → is_placed os w ≡ true
unfolding is_placed is_reference
placed-reference os w h = at (kind_of w) h
  where
    at : (k : Kind) → is_reference_kind os k ≡ true → is_placed_kind os k ≡ true
    at (kind.Small z) h = refl
    at (kind.Character c) h = refl
    at (kind.Object a) h = h
    at (kind.Link b) h = refl

pub both_true : (a b : Bool) → (a && b) ≡ true → (a ≡ true) × (b ≡ true)
both_true true b h = (refl, h)
both_true false b h = absurd (false≢true h)

pub either_true : (a b : Bool) → (a || b) ≡ true → (a ≡ true) ⊎ (b ≡ true)
either_true true b h = inl refl
either_true false b h = inr h

-- one of two stays true where the first stays as it is
pub either_still : (a b c d : Bool) → a ≡ c → (b ≡ true → d ≡ true) → (a || b) ≡ true → (c || d) ≡ true
either_still true b c d e f h = or_left c d (sym e)
either_still false b c d e f h = or_right c d (f h)

pub placed-sender : (os : List Object) (w : ℕ) → is_sender os w ≡ true → is_placed os w ≡ true
unfolding is_placed is_sender
placed-sender os w h = at (kind_of w) h
  where
    at : (k : Kind) → is_sender_kind os k ≡ true → is_placed_kind os k ≡ true
    at (kind.Small z) h = refl
    at (kind.Character c) h = refl
    at (kind.Object a) h = (both_true (is_object os a) (a == nil_word os || class_at os a == 36) h).0
    at (kind.Link b) h = refl

-- ---- senders

pub is_sender-nil : (os : List Object) → is_object os (nil_word os) ≡ true → is_sender os (nil_word os) ≡ true
unfolding is_sender
is_sender-nil os h =
    let nil : ℕ = nil_word os in
    ap (is_sender_kind os) (kind_of-object nil (object_placed os nil h).aligned) ∙ ap (λ b. b && (nil == nil || class_at os nil == 36)) h
    ∙ or_left (nil == nil) (class_at os nil == 36) (eq-eqb nil nil refl)

pub is_sender-context : (os : List Object) (a : ℕ) → is_object os a ≡ true → class_at os a ≡ 36 → is_sender os a ≡ true
unfolding is_sender
is_sender-context os a h c =
    ap (is_sender_kind os) (kind_of-object a (object_placed os a h).aligned) ∙ ap (λ b. b && (a == nil_word os || class_at os a == 36)) h
    ∙ or_right (a == nil_word os) (class_at os a == 36) (eq-eqb (class_at os a) 36 c)

pub is_sender-small : (os : List Object) (z : ℤ) → IsSmall z → is_sender os (small_word z) ≡ true
unfolding is_sender
is_sender-small os z h = ap (is_sender_kind os) (kind_of-small_word z h)

pub is_sender-link : (os : List Object) (w : ℕ) → w % 8 ≡ 4 → is_sender os w ≡ true
unfolding is_sender
is_sender-link os w h = ap (is_sender_kind os) (kind_of-link w h)

-- a sender that refers to an object is a reference
pub sender_named : (os : List Object) (w b : ℕ) → is_sender os w ≡ true → ref_of os w ≡ ref.Obj b → is_reference os w ≡ true
unfolding is_sender ref_of is_reference
sender_named os w b h e = at (kind_of w) h e
  where
    at : (k : Kind) → is_sender_kind os k ≡ true → ref_of_kind os k ≡ ref.Obj b → is_reference_kind os k ≡ true
    at (kind.Small z) h e = refl
    at (kind.Character c) h e = refl
    at (kind.Object a) h e = (both_true (is_object os a) (a == nil_word os || class_at os a == 36) h).0
    at (kind.Link v) h e = absurd (cc)

-- ---- when an object changes

pub ref_of-with_object : (os : List Object) (a : ℕ) (f : Object → Object) → IsEdit f → ref_of (with_object os a f) ≡ ref_of os
unfolding ref_of
ref_of-with_object os a f h = λ i w. at (kind_of w) i
  where
    at : (k : Kind) → ref_of_kind (with_object os a f) k ≡ ref_of_kind os k
    at (kind.Small z) = refl
    at (kind.Character c) = refl
    at (kind.Object b) = ap ref.Obj (birth_of-with_object os a b f h)
    at (kind.Link w) = refl

pub is_reference-with_object : (os : List Object) (a : ℕ) (f : Object → Object) → IsEdit f → is_reference (with_object os a f) ≡ is_reference os
unfolding is_reference
is_reference-with_object os a f h = λ i w. at (kind_of w) i
  where
    at : (k : Kind) → is_reference_kind (with_object os a f) k ≡ is_reference_kind os k
    at (kind.Small z) = refl
    at (kind.Character c) = refl
    at (kind.Object b) = is_object-with_object os a b f h.slots
    at (kind.Link w) = refl

pub nil_of-with_object : (os : List Object) (a : ℕ) (f : Object → Object) → IsEdit f → nil_word (with_object os a f) ≡ nil_word os
nil_of-with_object os a f h = ap (λ (ns : List ℕ). unwrap_or (address_among ns base 0) 0) (slot_counts-with_object os a f h.slots)

pub class_of-with_object : (os : List Object) (a b : ℕ) (f : Object → Object) → IsEdit f → class_at (with_object os a f) b ≡ class_at os b
class_of-with_object os a b f h = field_of-with_object_kept (λ x. x.class) os a b f h.slots h.class

pub format_of-with_object : (os : List Object) (a b : ℕ) (f : Object → Object) → IsEdit f → format_at (with_object os a f) b ≡ format_at os b
format_of-with_object os a b f h = field_of-with_object_kept (λ x. x.format) os a b f h.slots h.format

pub slot_count_of-with_object : (os : List Object) (a b : ℕ) (f : Object → Object) → IsEdit f → slot_count_of (with_object os a f) b ≡ slot_count_of os b
slot_count_of-with_object os a b f h = field_of-with_object_kept (λ x. length x.words) os a b f h.slots h.slots

pub is_sender-with_object : (os : List Object) (a : ℕ) (f : Object → Object) → IsEdit f → is_sender (with_object os a f) ≡ is_sender os
unfolding is_sender
is_sender-with_object os a f h = λ i w. at (kind_of w) i
  where
    at : (k : Kind) → is_sender_kind (with_object os a f) k ≡ is_sender_kind os k
    at (kind.Small z) = refl
    at (kind.Character c) = refl
    at (kind.Object b) = λ i. is_object-with_object os a b f h.slots i && (b == nil_of-with_object os a f h i || class_of-with_object os a b f h i == 36)
    at (kind.Link w) = refl

-- a word is nil or the address of a method, or of a closure
abbrev pub is_nil_or_method : List Object → ℕ → Bool
is_nil_or_method os w = w == nil_word os || is_method_address os w

abbrev pub is_nil_or_closure : List Object → ℕ → Bool
is_nil_or_closure os w = w == nil_word os || is_closure_address os w

pub is_nil_or_method-with_object : (os : List Object) (a : ℕ) (f : Object → Object) → IsEdit f → is_nil_or_method (with_object os a f) ≡ is_nil_or_method os
is_nil_or_method-with_object os a f h = λ i w. w == nil_of-with_object os a f h i || (is_object-with_object os a w f h.slots i && is_code (format_of-with_object os a w f h i))

pub is_nil_or_closure-with_object : (os : List Object) (a : ℕ) (f : Object → Object) → IsEdit f → is_nil_or_closure (with_object os a f) ≡ is_nil_or_closure os
is_nil_or_closure-with_object os a f h = λ i w. w == nil_of-with_object os a f h i || (is_object-with_object os a w f h.slots i && class_of-with_object os a w f h i == 37)

-- ---- when one comes

pub ref_of-push_placed : (os : List Object) (y : Object) (w : ℕ) → is_placed os w ≡ true → ref_of (os ++ y ∷ []) w ≡ ref_of os w
unfolding ref_of is_placed
ref_of-push_placed os y w h = at (kind_of w) h
  where
    at : (k : Kind) → is_placed_kind os k ≡ true → ref_of_kind (os ++ y ∷ []) k ≡ ref_of_kind os k
    at (kind.Small z) h = refl
    at (kind.Character c) h = refl
    at (kind.Object b) h = ap ref.Obj (birth_of-push os y b h)
    at (kind.Link w) h = refl

pub ref_of-push : (os : List Object) (y : Object) (w : ℕ) → is_reference os w ≡ true → ref_of (os ++ y ∷ []) w ≡ ref_of os w
ref_of-push os y w h = ref_of-push_placed os y w (placed-reference os w h)

pub is_reference-push : (os : List Object) (y : Object) (w : ℕ) → is_reference os w ≡ true → is_reference (os ++ y ∷ []) w ≡ true
unfolding is_reference
is_reference-push os y w h = at (kind_of w) h
  where
    at : (k : Kind) → is_reference_kind os k ≡ true → is_reference_kind (os ++ y ∷ []) k ≡ true
    at (kind.Small z) h = refl
    at (kind.Character c) h = refl
    at (kind.Object b) h = is_object-old os y b h
    at (kind.Link w) h = h

pub nil_of-push : (os : List Object) (y : Object) → 0 < length os → nil_word (os ++ y ∷ []) ≡ nil_word os
unfolding address_among
nil_of-push [] y h = absurd (omega (arith, h))
nil_of-push (x ∷ os) y h = refl

-- what is said of the object at an address still holds
object_still : (os : List Object) (y : Object) (a : ℕ) (g : Object → ℕ) (p : ℕ → Bool) → (is_object os a && p (part_at g os a)) ≡ true
    → (is_object (os ++ y ∷ []) a && p (part_at g (os ++ y ∷ []) a)) ≡ true
object_still os y a g p h =
    let s = both_true (is_object os a) (p (part_at g os a)) h in
    ap₂ (λ (b : Bool) (n : ℕ). b && p n) (is_object-old os y a s.0) (field_of-old g os y a s.0) ∙ s.1

pub is_nil_or_method-push : (os : List Object) (y : Object) (w : ℕ) → 0 < length os → is_nil_or_method os w ≡ true → is_nil_or_method (os ++ y ∷ []) w ≡ true
is_nil_or_method-push os y w some =
    either_still (w == nil_word os) (is_method_address os w) (w == nil_word (os ++ y ∷ [])) (is_method_address (os ++ y ∷ []) w)
    (ap (λ n. w == n) (sym (nil_of-push os y some))) (object_still os y w (λ x. x.format) is_code)

pub is_nil_or_closure-push : (os : List Object) (y : Object) (w : ℕ) → 0 < length os → is_nil_or_closure os w ≡ true → is_nil_or_closure (os ++ y ∷ []) w ≡ true
is_nil_or_closure-push os y w some =
    either_still (w == nil_word os) (is_closure_address os w) (w == nil_word (os ++ y ∷ [])) (is_closure_address (os ++ y ∷ []) w)
    (ap (λ n. w == n) (sym (nil_of-push os y some))) (object_still os y w (λ x. x.class) (λ n. n == 37))

pub is_sender-push : (os : List Object) (y : Object) (w : ℕ) → 0 < length os → is_sender os w ≡ true → is_sender (os ++ y ∷ []) w ≡ true
unfolding is_sender
is_sender-push os y w some h = at (kind_of w) h
  where
    at : (k : Kind) → is_sender_kind os k ≡ true → is_sender_kind (os ++ y ∷ []) k ≡ true
    at (kind.Small z) h = refl
    at (kind.Character c) h = h
    at (kind.Object b) h =
        let s = both_true (is_object os b) (b == nil_word os || class_at os b == 36) h in
        ap (λ t. t && (b == nil_word (os ++ y ∷ []) || class_at (os ++ y ∷ []) b == 36)) (is_object-old os y b s.0)
        ∙ either_still (b == nil_word os) (class_at os b == 36) (b == nil_word (os ++ y ∷ [])) (class_at (os ++ y ∷ []) b == 36)
        (ap (λ n. b == n) (sym (nil_of-push os y some))) (λ e. ap (λ n. n == 36) (field_of-old (λ x. x.class) os y b s.0) ∙ e) s.1
    at (kind.Link v) h = refl

-- ---- one thing has one word

pub same_births : (os : List Object) (a b : ℕ) → AreSoundObjects os → is_object os a ≡ true → is_object os b ≡ true → birth_at os a ≡ birth_at os b → a ≡ b
same_births os a b sound p q e =
    let x = object_there os a p in
    let y = object_there os b q in
    let s = stands os a x.0 x.1 in
    let t = stands os b y.0 y.1 in
    let births : x.0.birth ≡ y.0.birth = sym (birth_of-object_at os a x.0 x.1) ∙ e ∙ birth_of-object_at os b y.0 y.1 in
    let one : s.0 ≡ t.0 = sound.apart s.0 t.0 x.0 y.0 s.1.element t.1.element births in
    index_of-injective os a b t.0 (s.1.index ∙ ap Some one) t.1.index

same_ref-refl : (r : Ref) → same_ref r r ≡ true
same_ref-refl (ref.Small z) = (Decides-int_eq z z).1 refl
same_ref-refl (ref.Char c) = eq-eqb c c refl
same_ref-refl (ref.Obj b) = eq-eqb b b refl

same_kinds : (os : List Object) (p q : Kind) → AreSoundObjects os → is_reference_kind os p ≡ true → is_reference_kind os q ≡ true
    → same_ref (ref_of_kind os p) (ref_of_kind os q) ≡ true → p ≡ q
same_kinds os (kind.Small a) (kind.Small b) sound h i e = ap kind.Small ((Decides-int_eq a b).0 e)
same_kinds os (kind.Small a) (kind.Character b) sound h i e = absurd (false≢true e)
same_kinds os (kind.Small a) (kind.Object b) sound h i e = absurd (false≢true e)
same_kinds os (kind.Small a) (kind.Link b) sound h i e = absurd (false≢true i)
same_kinds os (kind.Character a) (kind.Small b) sound h i e = absurd (false≢true e)
same_kinds os (kind.Character a) (kind.Character b) sound h i e = ap kind.Character (eqb-true a b e)
same_kinds os (kind.Character a) (kind.Object b) sound h i e = absurd (false≢true e)
same_kinds os (kind.Character a) (kind.Link b) sound h i e = absurd (false≢true i)
same_kinds os (kind.Object a) (kind.Small b) sound h i e = absurd (false≢true e)
same_kinds os (kind.Object a) (kind.Character b) sound h i e = absurd (false≢true e)
same_kinds os (kind.Object a) (kind.Object b) sound h i e = ap kind.Object (same_births os a b sound h i (eqb-true (birth_at os a) (birth_at os b) e))
same_kinds os (kind.Object a) (kind.Link b) sound h i e = absurd (false≢true i)
same_kinds os (kind.Link a) q sound h i e = absurd (false≢true h)

-- two words refer to the same exactly where they are equal
pub same_ref-ref_of : (os : List Object) (v w : ℕ) → AreSoundObjects os → is_reference os v ≡ true → is_reference os w ≡ true → v < 2 ^ 32 → w < 2 ^ 32
    → same_ref (ref_of os v) (ref_of os w) ≡ (v == w)
unfolding ref_of is_reference
same_ref-ref_of os v w sound h i v_fits w_fits = go (same_ref (ref_of os v) (ref_of os w)) refl
  where
    go : (b : Bool) → same_ref (ref_of os v) (ref_of os w) ≡ b → same_ref (ref_of os v) (ref_of os w) ≡ eqb v w
    go true e = e ∙ sym (eq-eqb v w (kind_of-injective v w v_fits w_fits (same_kinds os (kind_of v) (kind_of w) sound h i e)))
    go false e = e ∙ sym (ne_eqb v w (λ same. false≢true (sym e ∙ ap (λ (u : ℕ). same_ref (ref_of os v) (ref_of os u)) (sym same) ∙ same_ref-refl (ref_of os v))))
