-- The steps by which text is appended.
use Rattle.std.proofs.Common.{◌≡◌, ℕ, zero, suc, ◌+◌, ◌-◌, ◌*◌, ◌/◌, ◌%◌, ◌<◌, ◌≤◌, Bool, true, false, refl, sym, ap, ap₂, ◌∙◌, arith, List, [], ◌∷◌, ◌++◌, length, map, take, drop, get_or, Result, Ok, Err, OnOk}
use Rattle.std.specs.Prelude.{codes, decimal, flat_map, slice_index, ◌==◌, ◌&&◌, ◌||◌}
use Rattle.std.specs.Char.{digit_char}
use Rattle.std.proofs.Math.Seq.{take-suc}
use Rattle.std.proofs.lemmas.List.{append-nil, append_assoc, flat_map_more, get_or-drop, length-drop, length-take, map-append}
use Rattle.cs_model.specs.Words.{bytes_of_words}
use Rattle.hex.specs.Hex.{encode_lower, encode_with, lower_digits}
use Rattle.cs_word.specs.declared.Kind.{Kind}
use Rattle.cs_word.specs.declared.Kind.TheVariants as kind
use Rattle.cs_word.specs.Word.{kind_of}
use Rattle.cs_heap.specs.Object.{Object, birth_at, byte_of, class_at, is_object, slot_count_of, slot_of, words_at}
use Rattle.cs_model.specs.Ref.{Ref}
use Rattle.cs_model.specs.Print.{byte_text, bytes_text, ref_text, refs_text}
use Rattle.cs_classes.specs.Meaning.{ref_of, ref_of_kind}
use Rattle.cs_classes.specs.Sound.{is_reference, is_reference_kind, is_sender, is_sender_kind, nil_word}
use Rattle.cs_inspect.specs.Reading.{names_object}
use Rattle.cs_inspect.proofs.Reading.{byte_is, length-bytes_at, length-words_at, word_is}

-- the last of some writes, where the whole is what stood there before it and its own text
pub ends : {T E : Type 0} (r : Result T E) (new mid old front last whole : List ℕ) → OnOk r (new ≡ mid ++ last) → mid ≡ old ++ front → front ++ last ≡ whole → OnOk r (new ≡ old ++ whole)
ends (Ok x) new mid old front last whole h m w = h ∙ ap (λ t. t ++ last) m ∙ append_assoc old front last ∙ ap (λ t. old ++ t) w
ends (Err e) new mid old front last whole h m w = tt

-- one write after others
pub joins : (old front last mid new : List ℕ) → mid ≡ old ++ front → new ≡ mid ++ last → new ≡ old ++ (front ++ last)
joins old front last mid new m h = h ∙ ap (λ t. t ++ last) m ∙ append_assoc old front last

-- the same text by another name
pub then_is : {T E : Type 0} (r : Result T E) (new old text same : List ℕ) → text ≡ same → OnOk r (new ≡ old ++ text) → OnOk r (new ≡ old ++ same)
then_is (Ok x) new old text same e h = h ∙ ap (λ t. old ++ t) e
then_is (Err x) new old text same e h = tt

pub none_taken : {X : Type 0} (n : ℕ) (xs : List X) → take (n - n) xs ≡ []
none_taken n xs = ap (λ (k : ℕ). take k xs) none
  where
    none : n - n ≡ 0
    none = omega arith

-- ---- references

pub refs_begin : (r : ℕ → Ref) (n : ℕ) (ws old : List ℕ) → old ≡ old ++ refs_text (map r (take (n - n) ws))
refs_begin r n ws old = sym (ap (λ (us : List ℕ). old ++ refs_text (map r us)) (none_taken n ws) ∙ append-nil old)

pub more_refs : (os : List Object) (a from i : ℕ) (old text mid new : List ℕ) (w : ℕ) → from ≤ i → i < slot_count_of os a → w ≡ slot_of os a i
    → text ≡ old ++ refs_text (map (ref_of os) (take (i - from) (drop from (words_at os a)))) → mid ≡ text ++ codes " " → new ≡ mid ++ ref_text (ref_of os w)
    → new ≡ old ++ refs_text (map (ref_of os) (take (i + 1 - from) (drop from (words_at os a))))
more_refs os a from i old text mid new w begun within is before space now =
    let ws : List ℕ = drop from (words_at os a) in
    let n : ℕ = i - from in
    let less : n < length ws = omega (arith, begun, within, length-words_at os a, length-drop from (words_at os a)) in
    let at : from + n ≡ i = omega (arith, begun) in
    let word : get_or ws n 0 ≡ w = get_or-drop from (words_at os a) n 0 ∙ ap (λ k. get_or (words_at os a) k 0) at ∙ word_is os a i ∙ sym is in
    let next : i + 1 - from ≡ suc n = omega (arith, begun) in
    let taken : take n ws ++ w ∷ [] ≡ take (i + 1 - from) ws = ap (λ v. take n ws ++ v ∷ []) (sym word) ∙ sym (take-suc ws n 0 less) ∙ sym (ap (λ k. take k ws) next) in
    now ∙ ap (λ t. t ++ ref_text (ref_of os w)) space ∙ append_assoc text (codes " ") (ref_text (ref_of os w))
    ∙ ap (λ t. t ++ (codes " " ++ ref_text (ref_of os w))) before
    ∙ flat_map_more (λ (x : Ref). codes " " ++ ref_text x) old (map (ref_of os) (take n ws)) (ref_of os w)
    ∙ ap (λ (rs : List Ref). old ++ refs_text rs) (sym (map-append (ref_of os) (take n ws) (w ∷ [])))
    ∙ ap (λ (us : List ℕ). old ++ refs_text (map (ref_of os) us)) taken

-- ---- bytes

digit : (d : ℕ) → d < 16 → slice_index lower_digits d ≡ digit_char d
digit zero h = refl
digit (suc zero) h = refl
digit (suc (suc zero)) h = refl
digit (suc (suc (suc zero))) h = refl
digit (suc (suc (suc (suc zero)))) h = refl
digit (suc (suc (suc (suc (suc zero))))) h = refl
digit (suc (suc (suc (suc (suc (suc zero)))))) h = refl
digit (suc (suc (suc (suc (suc (suc (suc zero))))))) h = refl
digit (suc (suc (suc (suc (suc (suc (suc (suc zero)))))))) h = refl
digit (suc (suc (suc (suc (suc (suc (suc (suc (suc zero))))))))) h = refl
digit (suc (suc (suc (suc (suc (suc (suc (suc (suc (suc zero)))))))))) h = refl
digit (suc (suc (suc (suc (suc (suc (suc (suc (suc (suc (suc zero))))))))))) h = refl
digit (suc (suc (suc (suc (suc (suc (suc (suc (suc (suc (suc (suc zero)))))))))))) h = refl
digit (suc (suc (suc (suc (suc (suc (suc (suc (suc (suc (suc (suc (suc zero))))))))))))) h = refl
digit (suc (suc (suc (suc (suc (suc (suc (suc (suc (suc (suc (suc (suc (suc zero)))))))))))))) h = refl
digit (suc (suc (suc (suc (suc (suc (suc (suc (suc (suc (suc (suc (suc (suc (suc zero))))))))))))))) h = refl
digit (suc (suc (suc (suc (suc (suc (suc (suc (suc (suc (suc (suc (suc (suc (suc (suc d)))))))))))))))) h = absurd (omega (arith, h))

pub hex_pair : (b : ℕ) → b < 256 → encode_lower (b ∷ []) ≡ byte_text b
unfolding encode_with
hex_pair b h = ap₂ (λ (x y : ℕ). x ∷ y ∷ []) (digit (b / 16) (omega (arith, h))) (digit (b % 16) (omega arith))

pub digits_begin : (n : ℕ) (bs old : List ℕ) → old ≡ old ++ flat_map byte_text (take (n - n) bs)
digits_begin n bs old = sym (ap (λ (us : List ℕ). old ++ flat_map byte_text us) (none_taken n bs) ∙ append-nil old)

pub more_digits : (os : List Object) (a from i : ℕ) (old text new : List ℕ) (b : ℕ) → from ≤ i → i < 4 * slot_count_of os a → b ≡ byte_of os a i
    → text ≡ old ++ flat_map byte_text (take (i - from) (drop from (bytes_of_words (words_at os a)))) → new ≡ text ++ byte_text b
    → new ≡ old ++ flat_map byte_text (take (i + 1 - from) (drop from (bytes_of_words (words_at os a))))
more_digits os a from i old text new b begun within is before now =
    let bs : List ℕ = drop from (bytes_of_words (words_at os a)) in
    let n : ℕ = i - from in
    let less : n < length bs = omega (arith, begun, within, length-bytes_at os a, length-drop from (bytes_of_words (words_at os a))) in
    let at : from + n ≡ i = omega (arith, begun) in
    let byte : get_or bs n 0 ≡ b = get_or-drop from (bytes_of_words (words_at os a)) n 0 ∙ ap (λ k. get_or (bytes_of_words (words_at os a)) k 0) at ∙ byte_is os a i within ∙ sym is in
    let next : i + 1 - from ≡ suc n = omega (arith, begun) in
    let taken : take n bs ++ b ∷ [] ≡ take (i + 1 - from) bs = ap (λ v. take n bs ++ v ∷ []) (sym byte) ∙ sym (take-suc bs n 0 less) ∙ sym (ap (λ k. take k bs) next) in
    now ∙ ap (λ t. t ++ byte_text b) before ∙ flat_map_more byte_text old (take n bs) b ∙ ap (λ (us : List ℕ). old ++ flat_map byte_text us) taken

-- no bytes have no text
pub no_bytes : (from end : ℕ) (bs old : List ℕ) → from ≡ end → old ≡ old ++ bytes_text (take (end - from) bs)
no_bytes from end bs old e = sym (ap (λ (k : ℕ). old ++ bytes_text (take k bs)) none ∙ append-nil old)
  where
    none : end - from ≡ 0
    none = omega (arith, e)

-- some have a space before them
pub some_bytes : (from end : ℕ) (bs : List ℕ) → from < end → end ≤ length bs → codes " " ++ flat_map byte_text (take (end - from) (drop from bs)) ≡ bytes_text (take (end - from) (drop from bs))
some_bytes from end bs less within = go (take (end - from) (drop from bs)) (omega (arith, less, within, length-drop from bs, length-take (end - from) (drop from bs)))
  where
    go : (us : List ℕ) → 0 < length us → codes " " ++ flat_map byte_text us ≡ bytes_text us
    go [] h = absurd (omega (arith, h))
    go (u ∷ us) h = refl

-- ---- references by their kinds

pub named_object : (os : List Object) (w a : ℕ) → names_object os w ≡ true → kind.Object a ≡ kind_of w → a ≡ w → is_object os w ≡ true
unfolding is_reference is_sender
named_object os w a h e is = both (is_reference_kind os (kind_of w)) (is_sender_kind os (kind_of w)) (ap (is_reference_kind os) (sym e)) (ap (is_sender_kind os) (sym e)) h
  where
    there : is_object os a ≡ true → is_object os w ≡ true
    there g = ap (is_object os) (sym is) ∙ g

    first : (x y : Bool) → (x && y) ≡ true → x ≡ true
    first true y g = refl
    first false y g = g

    both : (p q : Bool) → p ≡ is_object os a → q ≡ (is_object os a && (a == nil_word os || class_at os a == 36)) → (p || q) ≡ true → is_object os w ≡ true
    both true q i j g = there (sym i)
    both false q i j g = there (first (is_object os a) (a == nil_word os || class_at os a == 36) (sym j ∙ g))

pub birth_text : (os : List Object) (w a b : ℕ) → b ≡ birth_at os w → kind.Object a ≡ kind_of w → a ≡ w → codes "@" ++ decimal b ≡ ref_text (ref_of_kind os (kind_of w))
birth_text os w a b e k is = ap (λ (n : ℕ). codes "@" ++ decimal n) (e ∙ ap (birth_at os) (sym is)) ∙ ap (λ (p : Kind). ref_text (ref_of_kind os p)) k
