-- What an object means when one of its words or bytes is written.
use Rattle.std.proofs.Common.{◌≡◌, ℕ, zero, suc, ◌+◌, ◌-◌, ◌*◌, ◌/◌, ◌%◌, ◌<◌, ◌≤◌, Bool, true, false, List, [], ◌∷◌, length, map, take, drop, refl, ap, ap₂, sym, ◌∙◌, arith, get_or, set, cond, eqb, ◌⊎◌, inl, inr}
use Rattle.std.specs.Prelude.{◌==◌, if◌then◌else◌, slice_index, unwrap_or}
use Rattle.std.proofs.lemmas.Bool.{cases_eq, eq-eqb, false≢true, ne_eqb}
use Rattle.std.proofs.lemmas.Bool.Decides.{nat_tests}
use Rattle.std.proofs.lemmas.List.{drop-set-add, drop-set-lt, get_or-drop, get_or-set_other, length-set, map-set, take-set-le}
use Rattle.cs_word.specs.Word.{natural_of_word}
use Rattle.cs_word.specs.Header.{flag_bits, with_immutable}
use Rattle.cs_model.specs.Words.{byte_in, bytes_of_words, unused_bytes}
use Rattle.cs_heap.specs.Format.{is_code, is_pointers}
use Rattle.cs_heap.specs.Object.{Object, set_word, with_byte_in}
use Rattle.cs_heap.proofs.Laws.{byte_in-with_byte_in_other, byte_in-with_byte_in_same}
use Rattle.cs_model.specs.Ref.{Ref}
use Rattle.cs_model.specs.Obj.{Head, Method, Obj, Ptr, Raw, fixed_to, literal_count}
use Rattle.cs_model.specs.Operation.{with_byte, with_fixed, with_hash, with_slot}
use Rattle.cs_classes.specs.Meaning.{code_in, context_of, method_header, is_heap_context, literal_words, method_meaning, obj_of, used_bytes, head_of}
use Rattle.cs_classes.proofs.Sorts.{AContext, AMethod, Bytes, Pointers, Sort, not_pointers, obj_of-bytes, obj_of-context, obj_of-method, obj_of-pointers, sort_of}

-- ---- lists

pub take_set : {X : Type 0} (n : ℕ) (xs : List X) (i : ℕ) (y : X) → take n (set xs i y) ≡ set (take n xs) i y
take_set zero xs i y = refl
take_set (suc n) [] i y = refl
take_set (suc n) (x ∷ xs) zero y = refl
take_set {X = X} (suc n) (x ∷ xs) (suc i) y = ap (λ (zs : List X). x ∷ zs) (take_set n xs i y)

pub drop_set : {X : Type 0} (n : ℕ) (xs : List X) (i : ℕ) (y : X) → n ≤ i → drop n (set xs i y) ≡ set (drop n xs) (i - n) y
drop_set n xs i y h = ap (λ (j : ℕ). drop n (set xs j y)) (omega (arith, h)) ∙ drop-set-add n xs (i - n) y

-- ---- slots of pointer objects

pub obj_of-set_word : (refer : ℕ → Ref) (x : Object) (i v : ℕ) → is_heap_context x ≡ false → is_pointers x.format ≡ true
    → obj_of refer (set_word i v x) ≡ with_slot i (refer v) (obj_of refer x)
obj_of-set_word refer x i v o p =
    obj_of-pointers refer (set_word i v x) o p ∙ ap (Ptr (head_of x)) (map-set refer x.words i v)
    ∙ sym (ap (with_slot i (refer v)) (obj_of-pointers refer x o p))

-- ---- literals of methods

header_in-set : (ws : List ℕ) (i v : ℕ) → 0 < i → method_header (set ws i v) ≡ method_header ws
header_in-set ws i v h = ap (λ (w : ℕ). unwrap_or (natural_of_word w) 0) (get_or-set_other ws i 0 v 0 (λ e. omega (arith, e, h)))

pub literals_in-set : (ws : List ℕ) (i v : ℕ) → 0 < i → literal_words (set ws i v) ≡ set (literal_words ws) (i - 1) v
literals_in-set ws i v h =
    ap (λ (n : ℕ). take (literal_count n) (drop 1 (set ws i v))) (header_in-set ws i v h)
    ∙ ap (take (literal_count (method_header ws))) (drop_set 1 ws i v (omega (arith, h)))
    ∙ take_set (literal_count (method_header ws)) (drop 1 ws) (i - 1) v

code_in-set_literal : (ws : List ℕ) (i v : ℕ) → 0 < i → i ≤ literal_count (method_header ws) → code_in (set ws i v) ≡ code_in ws
code_in-set_literal ws i v h l =
    ap (λ (n : ℕ). drop (1 + literal_count n) (set ws i v)) (header_in-set ws i v h)
    ∙ drop-set-lt (1 + literal_count (method_header ws)) ws i v (omega (arith, l))

pub obj_of-set_literal : (refer : ℕ → Ref) (x : Object) (i v : ℕ) → is_heap_context x ≡ false → is_code x.format ≡ true → 0 < i → i ≤ literal_count (method_header x.words)
    → obj_of refer (set_word i v x) ≡ with_slot i (refer v) (obj_of refer x)
obj_of-set_literal refer x i v o m h l =
    let b = not_pointers x.format m in
    let made : ℕ → List ℕ → List ℕ → Obj = λ header literals code. Method (head_of x) header (map refer literals) (used_bytes x.format code) in
    obj_of-method refer (set_word i v x) o b m
    ∙ ap (λ (n : ℕ). made n (literal_words (set x.words i v)) (code_in (set x.words i v))) (header_in-set x.words i v h)
    ∙ ap₂ (made (method_header x.words)) (literals_in-set x.words i v h) (code_in-set_literal x.words i v h l)
    ∙ ap (λ (ls : List Ref). Method (head_of x) (method_header x.words) ls (used_bytes x.format (code_in x.words))) (map-set refer (literal_words x.words) (i - 1) v)
    ∙ sym (ap (with_slot i (refer v)) (obj_of-method refer x o b m))

-- ---- bytes

four : (a b c d w x y z : ℕ) (ws : List ℕ) → a ≡ w → b ≡ x → c ≡ y → d ≡ z → a ∷ b ∷ c ∷ d ∷ ws ≡ w ∷ x ∷ y ∷ z ∷ ws
four a b c d w x y z ws e f g h = λ i. e i ∷ f i ∷ g i ∷ h i ∷ ws

-- byte k of a word whose byte j is written
byte_after : (w j k b : ℕ) → j < 4 → b < 256 → k < 4 → byte_in (with_byte_in w j b) k ≡ cond (eqb k j) b (byte_in w k)
byte_after w j k b h f l = go (cases_eq k j)
  where
    go : (k ≡ j) ⊎ (k ≡ j → ⊥) → byte_in (with_byte_in w j b) k ≡ cond (eqb k j) b (byte_in w k)
    go (inl e) = let same = eq-eqb k j e in rw same (ap (byte_in (with_byte_in w j b)) e ∙ byte_in-with_byte_in_same w j b h f)
    go (inr e) = let other = ne_eqb k j e in rw other (byte_in-with_byte_in_other w j k b h l e f)

bytes_of-word : (w j b : ℕ) (ws : List ℕ) → j < 4 → b < 256 → bytes_of_words (with_byte_in w j b ∷ ws) ≡ set (bytes_of_words (w ∷ ws)) j b
unfolding bytes_of_words
bytes_of-word w j b ws h f = go j h (λ k l. byte_after w j k b h f l)
  where
    go : (i : ℕ) → i < 4 → ((k : ℕ) → k < 4 → byte_in (with_byte_in w j b) k ≡ cond (eqb k i) b (byte_in w k))
        → byte_in (with_byte_in w j b) 0 ∷ byte_in (with_byte_in w j b) 1 ∷ byte_in (with_byte_in w j b) 2 ∷ byte_in (with_byte_in w j b) 3 ∷ bytes_of_words ws
        ≡ set (byte_in w 0 ∷ byte_in w 1 ∷ byte_in w 2 ∷ byte_in w 3 ∷ bytes_of_words ws) i b
    go zero l at = four _ _ _ _ _ _ _ _ (bytes_of_words ws) (at 0 (omega arith)) (at 1 (omega arith)) (at 2 (omega arith)) (at 3 (omega arith))
    go (suc zero) l at = four _ _ _ _ _ _ _ _ (bytes_of_words ws) (at 0 (omega arith)) (at 1 (omega arith)) (at 2 (omega arith)) (at 3 (omega arith))
    go (suc (suc zero)) l at = four _ _ _ _ _ _ _ _ (bytes_of_words ws) (at 0 (omega arith)) (at 1 (omega arith)) (at 2 (omega arith)) (at 3 (omega arith))
    go (suc (suc (suc zero))) l at = four _ _ _ _ _ _ _ _ (bytes_of_words ws) (at 0 (omega arith)) (at 1 (omega arith)) (at 2 (omega arith)) (at 3 (omega arith))
    go (suc (suc (suc (suc i)))) l at = absurd (omega (arith, l))

pub bytes_of-set : (ws : List ℕ) (q j b : ℕ) → j < 4 → b < 256 → bytes_of_words (set ws q (with_byte_in (get_or ws q 0) j b)) ≡ set (bytes_of_words ws) (4 * q + j) b
unfolding bytes_of_words
bytes_of-set [] q j b h f = refl
bytes_of-set (w ∷ ws) zero j b h f = bytes_of-word w j b ws h f ∙ ap (λ (k : ℕ). set (bytes_of_words (w ∷ ws)) k b) (omega arith)
bytes_of-set (w ∷ ws) (suc q) j b h f =
    ap (λ (rest : List ℕ). byte_in w 0 ∷ byte_in w 1 ∷ byte_in w 2 ∷ byte_in w 3 ∷ rest) (bytes_of-set ws q j b h f)
    ∙ ap (λ (k : ℕ). set (bytes_of_words (w ∷ ws)) k b) (later q j)
  where
    later : (q j : ℕ) → suc (suc (suc (suc (4 * q + j)))) ≡ 4 * suc q + j
    later q j = omega arith

-- byte i of words
pub bytes_of-set_byte : (ws : List ℕ) (i b : ℕ) → b < 256 → bytes_of_words (set ws (i / 4) (with_byte_in (get_or ws (i / 4) 0) (i % 4) b)) ≡ set (bytes_of_words ws) i b
bytes_of-set_byte ws i b f = bytes_of-set ws (i / 4) (i % 4) b (omega arith) f ∙ ap (λ (k : ℕ). set (bytes_of_words ws) k b) (omega arith)

used_bytes-set_byte : (format : ℕ) (ws : List ℕ) (i b : ℕ) → b < 256
    → used_bytes format (set ws (i / 4) (with_byte_in (get_or ws (i / 4) 0) (i % 4) b)) ≡ set (used_bytes format ws) i b
used_bytes-set_byte format ws i b f =
    ap (λ (n : ℕ). take (4 * n - unused_bytes format) (bytes_of_words (set ws (i / 4) (with_byte_in (get_or ws (i / 4) 0) (i % 4) b)))) (length-set ws (i / 4) (with_byte_in (get_or ws (i / 4) 0) (i % 4) b))
    ∙ ap (take (4 * length ws - unused_bytes format)) (bytes_of-set_byte ws i b f)
    ∙ take_set (4 * length ws - unused_bytes format) (bytes_of_words ws) i b

-- the object with byte i written
abbrev pub set_byte : ℕ → ℕ → Object → Object
set_byte i b x = set_word (i / 4) (with_byte_in (slice_index x.words (i / 4)) (i % 4) b) x

pub obj_of-set_byte : (refer : ℕ → Ref) (x : Object) (i b : ℕ) → is_heap_context x ≡ false → is_pointers x.format ≡ false → is_code x.format ≡ false → b < 256
    → obj_of refer (set_byte i b x) ≡ with_byte i b (obj_of refer x)
obj_of-set_byte refer x i b o p m f =
    obj_of-bytes refer (set_byte i b x) o p m
    ∙ ap (Raw (head_of x)) (used_bytes-set_byte x.format x.words i b f)
    ∙ sym (ap (with_byte i b) (obj_of-bytes refer x o p m))

-- ---- bytecodes of methods, which are counted from behind the literals

pub literals_in-set_code : (ws : List ℕ) (i v : ℕ) → literal_count (method_header ws) < i → literal_words (set ws i v) ≡ literal_words ws
literals_in-set_code ws i v h =
    literals_in-set ws i v (omega (arith, h)) ∙ sym (take_set (literal_count (method_header ws)) (drop 1 ws) (i - 1) v)
    ∙ take-set-le (literal_count (method_header ws)) (drop 1 ws) (i - 1) v (omega (arith, h))

code_in-set_byte : (ws : List ℕ) (n i b : ℕ) → n ≡ literal_count (method_header ws)
    → code_in (set ws ((4 * (1 + n) + i) / 4) (with_byte_in (get_or ws ((4 * (1 + n) + i) / 4) 0) ((4 * (1 + n) + i) % 4) b))
    ≡ set (code_in ws) (i / 4) (with_byte_in (get_or (code_in ws) (i / 4) 0) (i % 4) b)
code_in-set_byte ws n i b is =
    let place : (4 * (1 + n) + i) / 4 ≡ 1 + n + i / 4 = omega arith in
    let rest : (4 * (1 + n) + i) % 4 ≡ i % 4 = omega arith in
    let v : ℕ = with_byte_in (get_or ws (1 + n + i / 4) 0) (i % 4) b in
    ap₂ (λ (q j : ℕ). code_in (set ws q (with_byte_in (get_or ws q 0) j b))) place rest
    ∙ ap (λ (h : ℕ). drop (1 + literal_count h) (set ws (1 + n + i / 4) v)) (header_in-set ws (1 + n + i / 4) v (omega arith))
    ∙ ap (λ (m : ℕ). drop (1 + m) (set ws (1 + n + i / 4) v)) (sym is)
    ∙ drop-set-add (1 + n) ws (i / 4) v
    ∙ ap (λ (w : ℕ). set (drop (1 + n) ws) (i / 4) (with_byte_in w (i % 4) b)) (sym (get_or-drop (1 + n) ws (i / 4) 0))
    ∙ ap (λ (m : ℕ). set (drop (1 + m) ws) (i / 4) (with_byte_in (get_or (drop (1 + m) ws) (i / 4) 0) (i % 4) b)) is

pub obj_of-set_code : (refer : ℕ → Ref) (x : Object) (i b : ℕ) → is_heap_context x ≡ false → is_code x.format ≡ true → b < 256
    → obj_of refer (set_byte (4 * (1 + literal_count (method_header x.words)) + i) b x) ≡ with_byte i b (obj_of refer x)
obj_of-set_code refer x i b o m f =
    let n : ℕ = literal_count (method_header x.words) in
    let k : ℕ = 4 * (1 + n) + i in
    let v : ℕ = with_byte_in (slice_index x.words (k / 4)) (k % 4) b in
    let behind : n < k / 4 = omega arith in
    let p = not_pointers x.format m in
    let made : ℕ → List ℕ → List ℕ → Obj = λ header literals code. Method (head_of x) header (map refer literals) (used_bytes x.format code) in
    obj_of-method refer (set_byte k b x) o p m
    ∙ ap (λ (h : ℕ). made h (literal_words (set x.words (k / 4) v)) (code_in (set x.words (k / 4) v))) (header_in-set x.words (k / 4) v (omega (arith, behind)))
    ∙ ap₂ (made (method_header x.words)) (literals_in-set_code x.words (k / 4) v behind) (code_in-set_byte x.words n i b refl)
    ∙ ap (Method (head_of x) (method_header x.words) (map refer (literal_words x.words))) (used_bytes-set_byte x.format (code_in x.words) i b f)
    ∙ sym (ap (with_byte i b) (obj_of-method refer x o p m))

-- ---- hashes

pub obj_of-hash : (refer : ℕ → Ref) (x : Object) (h : ℕ) → obj_of refer (record x { hash = h }) ≡ with_hash h (obj_of refer x)
unfolding obj_of method_meaning context_of
obj_of-hash refer x h = go (sort_of x)
  where
    y : Object
    y = record x { hash = h }

    go : Sort x → obj_of refer y ≡ with_hash h (obj_of refer x)
    go (AContext c) = obj_of-context refer y c ∙ sym (ap (with_hash h) (obj_of-context refer x c))
    go (Pointers o p) = obj_of-pointers refer y o p ∙ sym (ap (with_hash h) (obj_of-pointers refer x o p))
    go (AMethod o p m) = obj_of-method refer y o p m ∙ sym (ap (with_hash h) (obj_of-method refer x o p m))
    go (Bytes o p m) = obj_of-bytes refer y o p m ∙ sym (ap (with_hash h) (obj_of-bytes refer x o p m))

-- ---- read-only objects

-- the flags say what they were made to say
immutable-set : (on : Bool) (n : ℕ) → ((n / 2 * 2 + (if on then 1 else 0)) % 2 == 1) ≡ on
immutable-set true n = grind (arith, nat_tests)
immutable-set false n = grind (arith, nat_tests)

-- an object that is no context
pub obj_of-fixed : (refer : ℕ → Ref) (x : Object) (on : Bool) → is_heap_context x ≡ false → obj_of refer (record x { flags = with_immutable on x.flags }) ≡ with_fixed on (obj_of refer x)
unfolding obj_of method_meaning
obj_of-fixed refer x on other = go (sort_of x)
  where
    y : Object
    y = record x { flags = with_immutable on x.flags }

    head : head_of y ≡ fixed_to on (head_of x)
    head = ap (λ (b : Bool). record (head_of x) { fixed = b }) (immutable-set on (flag_bits x.flags))

    go : Sort x → obj_of refer y ≡ with_fixed on (obj_of refer x)
    go (AContext c) = absurd (false≢true (sym other ∙ c))
    go (Pointers o p) = obj_of-pointers refer y o p ∙ ap (λ (h : Head). Ptr h (map refer x.words)) head ∙ sym (ap (with_fixed on) (obj_of-pointers refer x o p))
    go (AMethod o p m) = obj_of-method refer y o p m ∙ ap (λ (h : Head). Method h (method_header x.words) (map refer (literal_words x.words)) (used_bytes x.format (code_in x.words))) head
        ∙ sym (ap (with_fixed on) (obj_of-method refer x o p m))
    go (Bytes o p m) = obj_of-bytes refer y o p m ∙ ap (λ (h : Head). Raw h (used_bytes x.format x.words)) head ∙ sym (ap (with_fixed on) (obj_of-bytes refer x o p m))
