-- An object of a file that is saved is what the object of the memory means.
use Rattle.std.proofs.Common.{◌≡◌, ℕ, zero, suc, ◌+◌, ◌-◌, ◌*◌, ◌<◌, ◌≤◌, ◌==◌, Bool, true, false, nat_lt, List, [], ◌∷◌, ◌++◌, length, map, take, drop, get_or, Option, unwrap_or, refl, ap, ap₂, sym, ◌∙◌, arith, slice_index, subst, length-drop}
use Rattle.std.specs.List.{take-map, drop-map}
use Rattle.std.proofs.lemmas.List.{append-nil, length-map, length-take, take_all, get_or-map}
use Rattle.std.proofs.lemmas.Bool.Decides.{nat_tests}
use Rattle.cs_word.specs.Word.{natural_of_word}
use Rattle.cs_heap.specs.Object.{Object}
use Rattle.cs_heap.specs.Format.{is_code, is_pointers}
use Rattle.cs_model.specs.Ref.{Ref}
use Rattle.cs_model.specs.Obj.{Head, Ptr, Raw, Method, Ctx, context_class, literal_count}
use Rattle.cs_model.specs.Words.{obj_by, plain, plain_format, context_by, ref_by, natural_in_word, is_pointer_format, is_method_format, header_in_words, literals_in_words, bytecodes_in_words, bytes_in_words, stackp_in_words, unused_bytes, bytes_of_words}
use Rattle.cs_classes.specs.Meaning.{head_of, ref_of, obj_of, context_of, used_bytes, depth_in, code_in, literal_words, method_header, is_heap_context}
use Rattle.cs_classes.specs.Sound.{is_reference}
use Rattle.cs_classes.proofs.Sorts.{obj_of-context, obj_of-bytes, obj_of-method, obj_of-pointers}
use Rattle.cs_model.specs.SoundFile.{saved_head}
use Rattle.cs_save.specs.Filed.{filed, filed_words, file_word, referring}
use Rattle.cs_save.proofs.Headers.{length-filed}
use Rattle.cs_save.proofs.Meanings.{count_same}

-- ---- the words of an object

all_dropped : (n : ℕ) (ws : List ℕ) → length ws ≤ n → drop n ws ≡ []
all_dropped zero [] h = refl
all_dropped zero (w ∷ ws) h = absurd (omega (arith, h))
all_dropped (suc n) [] h = refl
all_dropped (suc n) (w ∷ ws) h = all_dropped n ws (omega (arith, h))

pub words_pointers : (format : ℕ) (ws : List ℕ) → is_pointers format ≡ true → filed_words format ws ≡ map file_word ws
unfolding referring
words_pointers format ws p =
    let n : referring format ws ≡ length ws = rw p refl in
    ap₂ (λ (a b : List ℕ). map file_word a ++ b)
    (ap (λ k. take k ws) n ∙ take_all (length ws) ws (omega arith)) (ap (λ k. drop k ws) n ∙ all_dropped (length ws) ws (omega arith))
    ∙ append-nil (map file_word ws)

pub words_raw : (format : ℕ) (ws : List ℕ) → is_pointers format ≡ false → is_code format ≡ false → filed_words format ws ≡ ws
unfolding referring
words_raw format ws p m =
    let n : referring format ws ≡ 0 = rw (p, m) refl in
    ap (λ k. map file_word (take k ws) ++ drop k ws) n

-- a method's header, its literals and its bytecodes
pub record FiledMethod (fw ws : List ℕ) : Type 0 where
  pub first : natural_in_word (slice_index fw 0) ≡ natural_of_word (slice_index ws 0)
  pub header : header_in_words fw ≡ method_header ws
  pub literals : literals_in_words fw ≡ map file_word (literal_words ws)
  pub code : drop (1 + literal_count (header_in_words fw)) fw ≡ code_in ws
  pub count : 1 + literal_count (method_header ws) ≤ length ws

take_front : (xs ys : List ℕ) (m : ℕ) → length xs ≡ m → take m (xs ++ ys) ≡ xs
take_front [] ys zero h = refl
take_front [] ys (suc m) h = absurd (omega (arith, h))
take_front (x ∷ xs) ys zero h = absurd (omega (arith, h))
take_front (x ∷ xs) ys (suc m) h = ap (λ (zs : List ℕ). x ∷ zs) (take_front xs ys m (omega (arith, h)))

drop_front : (xs ys : List ℕ) (m : ℕ) → length xs ≡ m → drop m (xs ++ ys) ≡ ys
drop_front [] ys zero h = refl
drop_front [] ys (suc m) h = absurd (omega (arith, h))
drop_front (x ∷ xs) ys zero h = absurd (omega (arith, h))
drop_front (x ∷ xs) ys (suc m) h = drop_front xs ys m (omega (arith, h))

parts : (h : ℕ) (ws : List ℕ) (m : ℕ) → m ≡ literal_count (method_header (h ∷ ws)) → m ≤ length ws
    → FiledMethod (file_word h ∷ (map file_word (take m ws) ++ drop m ws)) (h ∷ ws)
parts h ws m e long =
    let header : header_in_words (file_word h ∷ (map file_word (take m ws) ++ drop m ws)) ≡ method_header (h ∷ ws) = ap (λ (n : Option ℕ). unwrap_or n 0) (count_same h) in
    let count : literal_count (header_in_words (file_word h ∷ (map file_word (take m ws) ++ drop m ws))) ≡ m = ap literal_count header ∙ sym e in
    let front : length (map file_word (take m ws)) ≡ m = omega (arith, length-map (take m ws) file_word, length-take m ws, long) in
    let next : (k : ℕ) → 1 + k ≡ suc k = λ k. omega arith in
    record {
      first = count_same h;
      header = header;
      literals = ap (λ k. take k (map file_word (take m ws) ++ drop m ws)) count ∙ take_front (map file_word (take m ws)) (drop m ws) m front
          ∙ ap (λ k. map file_word (take k ws)) e;
      code = ap (λ k. drop (1 + k) (file_word h ∷ (map file_word (take m ws) ++ drop m ws))) count
          ∙ ap (λ k. drop k (file_word h ∷ (map file_word (take m ws) ++ drop m ws))) (next m)
          ∙ drop_front (map file_word (take m ws)) (drop m ws) m front
          ∙ sym (ap (λ k. drop k (h ∷ ws)) (ap (λ k. 1 + k) (sym e) ∙ next m));
      count = omega (arith, e, long);
    }

pub words_method : (format : ℕ) (ws : List ℕ) → is_pointers format ≡ false → is_code format ≡ true → literal_count (method_header ws) < length ws
    → FiledMethod (filed_words format ws) ws
unfolding referring
words_method format [] p m long = absurd (omega (arith, long))
words_method format (h ∷ ws) p m long =
    let k : ℕ = literal_count (method_header (h ∷ ws)) in
    let some : nat_lt 0 (length (h ∷ ws)) ≡ true = let l : 0 < length (h ∷ ws) = omega arith in grind (arith, nat_tests, l) in
    let n : referring format (h ∷ ws) ≡ suc k = let at : referring format (h ∷ ws) ≡ 1 + k = rw (p, m, some) refl in at ∙ omega arith in
    let is : filed_words format (h ∷ ws) ≡ file_word h ∷ (map file_word (take k ws) ++ drop k ws) = ap (λ i. map file_word (take i (h ∷ ws)) ++ drop i (h ∷ ws)) n in
    subst (λ (fw : List ℕ). FiledMethod fw (h ∷ ws)) (sym is) (parts h ws k refl (omega (arith, long)))

-- ---- what words mean

-- each of these words is a reference

abbrev pub AreReferences : List Object → List ℕ → Type 0
AreReferences xs ws = (i : ℕ) → i < length ws → is_reference xs (get_or ws i 0) ≡ true

-- how a reference to an object is read again

abbrev pub ReadsAgain : List Object → (ℕ → Ref) → Type 0
ReadsAgain xs named = (w : ℕ) → is_reference xs w ≡ true → ref_by named (file_word w) ≡ ref_of xs w

refs_again : (xs : List Object) (named : ℕ → Ref) → ReadsAgain xs named → (ws : List ℕ) → AreReferences xs ws
    → map (ref_by named) (map file_word ws) ≡ map (ref_of xs) ws
refs_again xs named again [] h = refl
refs_again xs named again (w ∷ ws) h = ap₂ (λ (r : Ref) (rs : List Ref). r ∷ rs) (again w (h 0 (omega arith)))
    (refs_again xs named again ws (λ i l. h (suc i) (omega (arith, l))))

-- ---- all four sorts

-- what is asked of an object's words
pub record IsFine (xs : List Object) (x : Object) : Type 0 where
  pub context : is_heap_context x ≡ true → (x.format ≡ 3) × (6 ≤ length x.words)
  pub pointers : is_pointers x.format ≡ true → AreReferences xs x.words
  pub method : is_code x.format ≡ true → literal_count (method_header x.words) < length x.words
  pub literals : is_code x.format ≡ true → AreReferences xs (literal_words x.words)
  pub plain : plain_format x.format ≡ x.format

take_references : (xs : List Object) (n : ℕ) (ws : List ℕ) → AreReferences xs ws → AreReferences xs (take n ws)
take_references xs zero ws h i l = absurd (omega (arith, l))
take_references xs (suc n) [] h i l = absurd (omega (arith, l))
take_references xs (suc n) (w ∷ ws) h zero l = h 0 (omega arith)
take_references xs (suc n) (w ∷ ws) h (suc i) l = take_references xs n ws (λ j k. h (suc j) (omega (arith, k))) i (omega (arith, l))

drop_references : (xs : List Object) (n : ℕ) (ws : List ℕ) → AreReferences xs ws → AreReferences xs (drop n ws)
drop_references xs zero ws h = h
drop_references xs (suc n) [] h = h
drop_references xs (suc n) (w ∷ ws) h = drop_references xs n ws (λ j k. h (suc j) (omega (arith, k)))

context_same : (xs : List Object) (named : ℕ → Ref) → ReadsAgain xs named → (hash : ℕ) (ws : List ℕ) → 6 ≤ length ws → AreReferences xs ws
    → context_by named hash (map file_word ws) ≡ context_of (ref_of xs) hash ws
unfolding context_of
context_same xs named again hash ws long fine = λ i. record {
  hash = hash;
  sender = at 0 (omega (arith, long)) i;
  pc = count 1 (omega (arith, long)) i;
  method = at 3 (omega (arith, long)) i;
  closure = at 4 (omega (arith, long)) i;
  receiver = at 5 (omega (arith, long)) i;
  stack = stack i;
  size = size i;
}
  where
    read : (k : ℕ) → k < length ws → get_or (map file_word ws) k 0 ≡ file_word (get_or ws k 0)
    read k h = get_or-map file_word ws k 0 0 h

    at : (k : ℕ) → k < length ws → ref_by named (get_or (map file_word ws) k 0) ≡ ref_of xs (get_or ws k 0)
    at k h = ap (ref_by named) (read k h) ∙ again (get_or ws k 0) (fine k h)

    count : (k : ℕ) → k < length ws → natural_in_word (get_or (map file_word ws) k 0) ≡ natural_of_word (get_or ws k 0)
    count k h = ap natural_in_word (read k h) ∙ count_same (get_or ws k 0)

    depth : stackp_in_words (map file_word ws) ≡ depth_in ws
    depth = ap (λ (n : Option ℕ). unwrap_or n 0) (count 2 (omega (arith, long)))

    stack : map (ref_by named) (take (stackp_in_words (map file_word ws)) (drop 6 (map file_word ws))) ≡ map (ref_of xs) (take (depth_in ws) (drop 6 ws))
    stack = ap (λ n. map (ref_by named) (take n (drop 6 (map file_word ws)))) depth
        ∙ ap (λ (vs : List ℕ). map (ref_by named) (take (depth_in ws) vs)) (drop-map file_word 6 ws)
        ∙ ap (map (ref_by named)) (take-map file_word (depth_in ws) (drop 6 ws))
        ∙ refs_again xs named again (take (depth_in ws) (drop 6 ws)) (take_references xs (depth_in ws) (drop 6 ws) (drop_references xs 6 ws fine))

    size : length (map file_word ws) - 6 ≡ length ws - 6
    size = ap (λ n. n - 6) (length-map ws file_word)

-- its head
head_same : (x : Object) → plain_format x.format ≡ x.format → plain (saved_head (filed x)) ≡ head_of x
unfolding filed
head_same x e = λ i. record { class = x.class; format = e i; hash = x.hash; fixed = (head_of x).fixed }

head_plain : (x : Object) → saved_head (filed x) ≡ head_of x
unfolding filed
head_plain x = refl

raw_same : (format : ℕ) (ws : List ℕ) → bytes_in_words format ws ≡ used_bytes format ws
raw_same format ws = refl

code_same : (format : ℕ) (fw ws : List ℕ) → length fw ≡ length ws → FiledMethod fw ws → bytecodes_in_words format fw ≡ used_bytes format (code_in ws)
code_same format fw ws long m =
    ap (λ (n : ℕ). take (4 * (length fw - (1 + literal_count n)) - unused_bytes format) (bytes_of_words (drop (1 + literal_count (header_in_words fw)) fw))) m.header
    ∙ ap (λ (vs : List ℕ). take (4 * (length fw - (1 + literal_count (method_header ws))) - unused_bytes format) (bytes_of_words vs)) m.code
    ∙ ap (λ (n : ℕ). take (4 * n - unused_bytes format) (bytes_of_words (code_in ws)))
    (ap (λ n. n - (1 + literal_count (method_header ws))) long ∙ sym (length-drop (1 + literal_count (method_header ws)) ws))
    ∙ raw_same format (code_in ws)

as_context : (named : ℕ → Ref) (head : Head) (ws : List ℕ) → (head.class == context_class) ≡ true → obj_by named head ws ≡ Ctx (context_by named head.hash ws)
unfolding obj_by
as_context named head ws e = rw e refl

as_pointers : (named : ℕ → Ref) (head : Head) (ws : List ℕ) → (head.class == context_class) ≡ false → is_pointer_format head.format ≡ true
    → obj_by named head ws ≡ Ptr (plain head) (map (ref_by named) ws)
unfolding obj_by
as_pointers named head ws e p = rw (e, p) refl

as_method : (named : ℕ → Ref) (head : Head) (ws : List ℕ) → (head.class == context_class) ≡ false → is_pointer_format head.format ≡ false → is_method_format head.format ≡ true
    → obj_by named head ws ≡ Method head (header_in_words ws) (map (ref_by named) (literals_in_words ws)) (bytecodes_in_words head.format ws)
unfolding obj_by
as_method named head ws e p m = rw (e, p, m) refl

as_raw : (named : ℕ → Ref) (head : Head) (ws : List ℕ) → (head.class == context_class) ≡ false → is_pointer_format head.format ≡ false → is_method_format head.format ≡ false
    → obj_by named head ws ≡ Raw head (bytes_in_words head.format ws)
unfolding obj_by
as_raw named head ws e p m = rw (e, p, m) refl

pub element_same : (xs : List Object) (named : ℕ → Ref) → ReadsAgain xs named → (x : Object) → IsFine xs x
    → obj_by named (saved_head (filed x)) (filed_words x.format x.words) ≡ obj_of (ref_of xs) x
element_same xs named again x fine =
    ap (λ (h : Head). obj_by named h (filed_words x.format x.words)) (head_plain x)
    ∙ go (is_heap_context x) (is_pointers x.format) (is_code x.format) refl refl refl
  where
    go : (b c d : Bool) → is_heap_context x ≡ b → is_pointers x.format ≡ c → is_code x.format ≡ d
        → obj_by named (head_of x) (filed_words x.format x.words) ≡ obj_of (ref_of xs) x
    go true c d eb ec ed =
        let pointers : is_pointers x.format ≡ true = ap is_pointers (fine.context eb).0 in
        as_context named (head_of x) (filed_words x.format x.words) eb
        ∙ ap (λ (ws : List ℕ). Ctx (context_by named x.hash ws)) (words_pointers x.format x.words pointers)
        ∙ ap Ctx (context_same xs named again x.hash x.words (fine.context eb).1 (fine.pointers pointers))
        ∙ sym (obj_of-context (ref_of xs) x eb)
    go false true d eb ec ed =
        as_pointers named (head_of x) (filed_words x.format x.words) eb ec
        ∙ ap₂ (λ (h : Head) (ws : List ℕ). Ptr h (map (ref_by named) ws)) (ap plain (sym (head_plain x)) ∙ head_same x fine.plain) (words_pointers x.format x.words ec)
        ∙ ap (Ptr (head_of x)) (refs_again xs named again x.words (fine.pointers ec))
        ∙ sym (obj_of-pointers (ref_of xs) x eb ec)
    go false false true eb ec ed =
        let m = words_method x.format x.words ec ed (fine.method ed) in
        as_method named (head_of x) (filed_words x.format x.words) eb ec ed
        ∙ (λ i. Method (head_of x) (m.header i)
        ((ap (map (ref_by named)) m.literals ∙ refs_again xs named again (literal_words x.words) (fine.literals ed)) i)
        (code_same x.format (filed_words x.format x.words) x.words (length-filed x.format x.words) m i))
        ∙ sym (obj_of-method (ref_of xs) x eb ec ed)
    go false false false eb ec ed =
        as_raw named (head_of x) (filed_words x.format x.words) eb ec ed
        ∙ ap (λ (ws : List ℕ). Raw (head_of x) (bytes_in_words x.format ws)) (words_raw x.format x.words ec ed)
        ∙ ap (Raw (head_of x)) (raw_same x.format x.words)
        ∙ sym (obj_of-bytes (ref_of xs) x eb ec ed)
