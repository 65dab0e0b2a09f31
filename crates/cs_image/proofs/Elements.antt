-- What an object of a file means in memory.
use Rattle.std.proofs.Common.{◌≡◌, ℕ, suc, ◌+◌, ◌*◌, ◌-◌, ◌/◌, ◌%◌, ◌^◌, ◌<◌, ◌≤◌, ◌==◌, ◌&&◌, ◌||◌, leb, Bool, true, false, cond, not, List, [], ◌∷◌, length, map, take, drop, get_or, Option, refl, ap, sym, ◌∙◌, arith, unwrap_or, length-drop}
use Rattle.std.proofs.lemmas.List.{get_or-map, get_or-drop, get_or-take, ext_get_or, length-map, length-take}
use Rattle.std.specs.List.{take-map, drop-map}
use Rattle.std.proofs.lemmas.Bool.Decides.{nat_tests}
use Rattle.cs_word.specs.Word.{natural_of_word}
use Rattle.cs_model.specs.Obj.{Head, Ptr, Raw, Method, Ctx, context_class, literal_count}
use Rattle.cs_model.specs.Image.{head_in}
use Rattle.cs_model.specs.Words.{obj_by, plain, context_by, ref_by, natural_in_word, is_pointer_format, is_method_format, plain_format, header_in_words, literals_in_words, bytecodes_in_words, bytes_in_words, stackp_in_words, unused_bytes, bytes_of_words}
use Rattle.cs_model.specs.ImageFile.{FileObject, File}
use Rattle.cs_model.specs.ImageFault.{is_lost}
use Rattle.cs_heap.specs.Object.{Object}
use Rattle.cs_classes.specs.Meaning.{head_of, ref_of, obj_of, context_of, method_meaning, used_bytes, depth_in, code_in, literal_words, method_header}
use Rattle.cs_classes.proofs.Sorts.{obj_of-bytes, obj_of-method, obj_of-pointers}
use Rattle.cs_image.specs.Loading.{translated, loaded}
use Rattle.cs_image.proofs.Wording.{memory_of, meant, ref_translated, count_same, count_translated, loaded_words, length-loaded_words, get_loaded, words_pointers, words_raw, method_head, method_literals, IsMethodOf, word_stays}

-- no word of these is lost
abbrev pub NoneLost : File → List ℕ → Type 0
NoneLost f words = (i : ℕ) → i < length words → is_lost f (get_or words i 0) ≡ false

none_lost_tail : (f : File) (w : ℕ) (ws : List ℕ) → NoneLost f (w ∷ ws) → NoneLost f ws
none_lost_tail f w ws h i g = h (suc i) (omega (arith, g))

pub none_lost_take : (f : File) (n : ℕ) (ws : List ℕ) → NoneLost f ws → NoneLost f (take n ws)
none_lost_take f n ws h i g =
    let l = length-take n ws in
    let inside : i < n = omega (arith, l, g) in
    ap (is_lost f) (get_or-take n ws i 0 inside) ∙ h i (omega (arith, l, g))

pub none_lost_drop : (f : File) (n : ℕ) (ws : List ℕ) → NoneLost f ws → NoneLost f (drop n ws)
none_lost_drop f n ws h i g = ap (is_lost f) (get_or-drop n ws i 0) ∙ h (n + i) (let l = length-drop n ws in omega (arith, l, g))

pub refs_same : (births : List ℕ) (f : File) (ws : List ℕ) → NoneLost f ws → map (ref_of (memory_of births f)) (map (translated f) ws) ≡ map (ref_by (meant births f)) ws
refs_same births f [] h = refl
refs_same births f (w ∷ ws) h = λ i. ref_translated births f w (h 0 (omega arith)) i ∷ refs_same births f ws (none_lost_tail f w ws h) i

-- the object that stands in memory
abbrev pub standing : File → ℕ → FileObject → Object
standing f j o = loaded f j o

-- its head: whether it is read-only is told of no context
fixed_kept : (on : Bool) → (0 / 2 * 2 + cond on 1 0) % 2 == 1 ≡ on
fixed_kept true = refl
fixed_kept false = refl

pub head_loaded : (f : File) (birth : ℕ) (o : FileObject) → (o.class == context_class) ≡ false → head_of (loaded f birth o) ≡ plain (head_in o)
head_loaded f birth o other = λ i. record { class = o.class; format = plain_format o.format; hash = o.hash; fixed = fixed i }
  where
    unless_context : (on context : Bool) → context ≡ false → (on && not context) ≡ on
    unless_context true context e = ap not e
    unless_context false context e = refl

    fixed : (head_of (loaded f birth o)).fixed ≡ o.fixed
    fixed = fixed_kept (o.fixed && not (o.class == context_class)) ∙ unless_context o.fixed (o.class == context_class) other

head_other : (f : File) (birth : ℕ) (o : FileObject) → (o.class == context_class) ≡ false → plain_format o.format ≡ o.format → head_of (loaded f birth o) ≡ head_in o
head_other f birth o other same = head_loaded f birth o other ∙ ap (λ n. record (head_in o) { format = n }) same

-- a context
context_same : (births : List ℕ) (f : File) (hash : ℕ) (ws : List ℕ) → 6 ≤ length ws → NoneLost f ws
    → context_of (ref_of (memory_of births f)) hash (map (translated f) ws) ≡ context_by (meant births f) hash ws
unfolding context_of
context_same births f hash ws long fine = λ i. record {
  hash = hash;
  sender = at 0 (omega (arith, long)) i;
  pc = count 1 (omega (arith, long)) i;
  method = at 3 (omega (arith, long)) i;
  closure = at 4 (omega (arith, long)) i;
  receiver = at 5 (omega (arith, long)) i;
  stack = stack i;
  size = size i;
}
  where
    read : (k : ℕ) → k < length ws → get_or (map (translated f) ws) k 0 ≡ translated f (get_or ws k 0)
    read k h = get_or-map (translated f) ws k 0 0 h

    at : (k : ℕ) → k < length ws → ref_of (memory_of births f) (get_or (map (translated f) ws) k 0) ≡ ref_by (meant births f) (get_or ws k 0)
    at k h = ap (ref_of (memory_of births f)) (read k h) ∙ ref_translated births f (get_or ws k 0) (fine k h)

    count : (k : ℕ) → k < length ws → natural_of_word (get_or (map (translated f) ws) k 0) ≡ natural_in_word (get_or ws k 0)
    count k h = ap natural_of_word (read k h) ∙ count_translated f (get_or ws k 0)

    depth : depth_in (map (translated f) ws) ≡ stackp_in_words ws
    depth = ap (λ (n : Option ℕ). unwrap_or n 0) (count 2 (omega (arith, long)))

    stack : map (ref_of (memory_of births f)) (take (depth_in (map (translated f) ws)) (drop 6 (map (translated f) ws))) ≡ map (ref_by (meant births f)) (take (stackp_in_words ws) (drop 6 ws))
    stack = ap (λ n. map (ref_of (memory_of births f)) (take n (drop 6 (map (translated f) ws)))) depth
        ∙ ap (λ (xs : List ℕ). map (ref_of (memory_of births f)) (take (stackp_in_words ws) xs)) (drop-map (translated f) 6 ws)
        ∙ ap (map (ref_of (memory_of births f))) (take-map (translated f) (stackp_in_words ws) (drop 6 ws))
        ∙ refs_same births f (take (stackp_in_words ws) (drop 6 ws)) (none_lost_take f (stackp_in_words ws) (drop 6 ws) (none_lost_drop f 6 ws fine))

    size : length (map (translated f) ws) - 6 ≡ length ws - 6
    size = ap (λ n. n - 6) (length-map ws (translated f))

-- the bytecodes of a method
method_code : (f : File) (format : ℕ) (words : List ℕ) → IsMethodOf f format words
    → drop (1 + literal_count (header_in_words words)) (loaded_words f format words) ≡ drop (1 + literal_count (header_in_words words)) words
method_code f format words m = ext_get_or 0 (drop (1 + n) (loaded_words f format words)) (drop (1 + n) words)
    (length-drop (1 + n) (loaded_words f format words) ∙ ap (λ k. k - (1 + n)) (length-loaded_words f format words) ∙ sym (length-drop (1 + n) words))
    (λ i h.
    let l = length-drop (1 + n) (loaded_words f format words) in
    let inside : 1 + n + i < length words = omega (arith, h, l, length-loaded_words f format words) in
    get_or-drop (1 + n) (loaded_words f format words) i 0
    ∙ get_loaded f format words (1 + n + i) inside
    ∙ word_stays f format words (1 + n + i) (stays (is_method_format format) (leb 1 (1 + n + i)) (above n i))
    ∙ sym (get_or-drop (1 + n) words i 0))
  where
    n : ℕ
    n = literal_count (header_in_words words)

    above : (n i : ℕ) → leb (1 + n + i) n ≡ false
    above n i = let h : n < 1 + n + i = omega arith in grind (arith, nat_tests, h)

    stays : (c d : Bool) {e : Bool} → e ≡ false → (is_pointer_format format || c && (d && e)) ≡ false
    stays true true h = rw (m.pointers, h) refl
    stays true false h = rw m.pointers refl
    stays false d h = rw m.pointers refl

pub header_loaded : (f : File) (j : ℕ) (o : FileObject) → is_pointer_format o.format ≡ false → 0 < length o.words → method_header (loaded_words f o.format o.words) ≡ header_in_words o.words
header_loaded f j o p h = ap (λ (n : Option ℕ). unwrap_or n 0) (ap natural_of_word (method_head f o.format o.words p h) ∙ count_same (get_or o.words 0 0))

method_same : (births : List ℕ) (f : File) (j : ℕ) (o : FileObject) → (o.class == context_class) ≡ false → IsMethodOf f o.format o.words → plain_format o.format ≡ o.format → NoneLost f (literals_in_words o.words)
    → method_meaning (ref_of (memory_of births f)) (loaded f j o)
    ≡ Method (head_in o) (header_in_words o.words) (map (ref_by (meant births f)) (literals_in_words o.words)) (bytecodes_in_words o.format o.words)
unfolding method_meaning
method_same births f j o other m same fine = λ i. Method (head_other f j o other same i) (header i) (literals i) (code i)
  where
    ws : List ℕ
    ws = loaded_words f o.format o.words

    header : method_header ws ≡ header_in_words o.words
    header = ap (λ (n : Option ℕ). unwrap_or n 0) (ap natural_of_word (method_head f o.format o.words m.pointers (omega (arith, m.fits))) ∙ count_same (get_or o.words 0 0))

    literals : map (ref_of (memory_of births f)) (literal_words ws) ≡ map (ref_by (meant births f)) (literals_in_words o.words)
    literals = ap (λ n. map (ref_of (memory_of births f)) (take (literal_count n) (drop 1 ws))) header
        ∙ ap (map (ref_of (memory_of births f))) (method_literals f o.format o.words m) ∙ refs_same births f (literals_in_words o.words) fine

    words_code : code_in ws ≡ drop (1 + literal_count (header_in_words o.words)) o.words
    words_code = ap (λ n. drop (1 + literal_count n) ws) header ∙ method_code f o.format o.words m

    code : used_bytes (plain_format o.format) (code_in ws) ≡ bytecodes_in_words o.format o.words
    code = ap (λ n. used_bytes n (code_in ws)) same ∙ ap (used_bytes o.format) words_code
        ∙ ap (λ n. take (4 * n - unused_bytes o.format) (bytes_of_words (drop (1 + literal_count (header_in_words o.words)) o.words))) (length-drop (1 + literal_count (header_in_words o.words)) o.words)

-- ---- all four sorts

pub record IsFine (f : File) (o : FileObject) : Type 0 where
  pub context : (o.class == context_class) ≡ true → (o.format ≡ 3) × (6 ≤ length o.words)
  pub pointers : is_pointer_format o.format ≡ true → NoneLost f o.words
  pub method : is_pointer_format o.format ≡ false → is_method_format o.format ≡ true → IsMethodOf f o.format o.words × NoneLost f (literals_in_words o.words)

plain_pointers : (format : ℕ) → is_pointer_format format ≡ true → is_pointer_format (plain_format format) ≡ true
plain_pointers format h = go (format == 4) (format == 5)
  where
    go : (a b : Bool) → is_pointer_format (cond a 3 (cond b 1 format)) ≡ true
    go true b = refl
    go false true = refl
    go false false = h

pub plain_others : (format : ℕ) → is_pointer_format format ≡ false → plain_format format ≡ format
plain_others format h =
    let a : (format == 4) ≡ false = grind (arith, nat_tests, h) in
    let b : (format == 5) ≡ false = grind (arith, nat_tests, h) in
    rw (a, b) refl

pub object_same : (births : List ℕ) (f : File) (j : ℕ) (o : FileObject) → IsFine f o → obj_of (ref_of (memory_of births f)) (loaded f j o) ≡ obj_by (meant births f) (head_in o) o.words
unfolding obj_of obj_by method_meaning
object_same births f j o fine = go (o.class == context_class) (is_pointer_format o.format) (is_method_format o.format) refl refl refl
  where
    raw_bytes : (a b : ℕ) (xs ys : List ℕ) → a ≡ b → xs ≡ ys → used_bytes a xs ≡ bytes_in_words b ys
    raw_bytes a b xs ys e h = ap (λ n. used_bytes n xs) e ∙ ap (used_bytes b) h

    go : (b c d : Bool) → (o.class == context_class) ≡ b → is_pointer_format o.format ≡ c → is_method_format o.format ≡ d
        → obj_of (ref_of (memory_of births f)) (loaded f j o) ≡ obj_by (meant births f) (head_in o) o.words
    go true c d eb ec ed =
        let three = (fine.context eb).0 in
        let p : is_pointer_format o.format ≡ true = ap is_pointer_format three in
        rw eb (ap (λ (ws : List ℕ). Ctx (context_of (ref_of (memory_of births f)) o.hash ws)) (words_pointers f o.format o.words p)
        ∙ ap Ctx (context_same births f o.hash o.words (fine.context eb).1 (fine.pointers p)))
    go false true d eb ec ed =
        let there : obj_by (meant births f) (head_in o) o.words ≡ Ptr (plain (head_in o)) (map (ref_by (meant births f)) o.words) = rw (eb, ec) refl in
        obj_of-pointers (ref_of (memory_of births f)) (loaded f j o) eb (plain_pointers o.format ec)
        ∙ ap (λ (ws : List ℕ). Ptr (head_of (loaded f j o)) (map (ref_of (memory_of births f)) ws)) (words_pointers f o.format o.words ec)
        ∙ ap (λ (h : Head). Ptr h (map (ref_of (memory_of births f)) (map (translated f) o.words))) (head_loaded f j o eb)
        ∙ ap (Ptr (plain (head_in o))) (refs_same births f o.words (fine.pointers ec)) ∙ sym there
    go false false true eb ec ed =
        let same = plain_others o.format ec in
        let p : is_pointer_format (plain_format o.format) ≡ false = ap is_pointer_format same ∙ ec in
        let m : is_method_format (plain_format o.format) ≡ true = ap is_method_format same ∙ ed in
        let there : obj_by (meant births f) (head_in o) o.words
        ≡ Method (head_in o) (header_in_words o.words) (map (ref_by (meant births f)) (literals_in_words o.words)) (bytecodes_in_words o.format o.words) = rw (eb, ec, ed) refl in
        obj_of-method (ref_of (memory_of births f)) (loaded f j o) eb p m
        ∙ method_same births f j o eb (fine.method ec ed).0 same (fine.method ec ed).1 ∙ sym there
    go false false false eb ec ed =
        let same = plain_others o.format ec in
        let p : is_pointer_format (plain_format o.format) ≡ false = ap is_pointer_format same ∙ ec in
        let m : is_method_format (plain_format o.format) ≡ false = ap is_method_format same ∙ ed in
        let words = words_raw f o.format o.words ec ed in
        let there : obj_by (meant births f) (head_in o) o.words ≡ Raw (head_in o) (bytes_in_words o.format o.words) = rw (eb, ec, ed) refl in
        obj_of-bytes (ref_of (memory_of births f)) (loaded f j o) eb p m
        ∙ ap (Raw (head_of (loaded f j o))) (raw_bytes (plain_format o.format) o.format (loaded_words f o.format o.words) o.words same words)
        ∙ ap (λ (h : Head). Raw h (bytes_in_words o.format o.words)) (head_other f j o eb same) ∙ sym there
