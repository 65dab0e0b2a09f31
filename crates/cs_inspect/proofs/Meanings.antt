-- What an object is and what may be asked of it, by its kind.
use Rattle.std.proofs.Common.{◌≡◌, ◌%◌, ℕ, ◌+◌, ◌-◌, ◌*◌, ◌<◌, ◌≤◌, Bool, true, false, refl, sym, ap, ap₂, subst, ◌∙◌, arith, Option, Some, None, List, [], ◌++◌, length, map, take, drop, get_or, option_map}
use Rattle.std.specs.Prelude.{codes, decimal, nat_lt, slice_index, unwrap_or, ◌==◌, ◌&&◌, ◌||◌, if◌then◌else◌}
use Rattle.std.specs.List.{AllPass}
use Rattle.std.specs.Option.{option_map_or}
use Rattle.std.proofs.lemmas.Bool.{eq-eqb, false≢true, or_left, or_right}
use Rattle.std.proofs.lemmas.Bool.Decides.{nat_tests}
use Rattle.std.proofs.lemmas.List.{append_assoc, get_or-drop, get_or-take, length-drop, length-take, take_all}
use Rattle.cs_model.specs.Words.{bytes_of_words, unused_bytes}
use Rattle.cs_word.specs.Header.{flag_bits}
use Rattle.cs_word.specs.Word.{natural_of_word}
use Rattle.cs_word.specs.declared.method_header.MethodHeader.{MethodHeader}
use Rattle.cs_heap.specs.Format.{format_allows, is_code, is_pointers, is_raw}
use Rattle.cs_heap.specs.Object.{Object, class_at, format_at, hash_at, is_object, heap_object, slot_count_of, slot_of, words_at}
use Rattle.cs_model.specs.Obj.{Obj, Ptr, Raw, Method, Ctx, literal_count}
use Rattle.cs_model.specs.Print.{bytes_text, context_text, object_text, pc_text, ref_text, refs_text}
use Rattle.cs_model.specs.Ref.{Ref}
use Rattle.cs_classes.specs.Meaning.{code_in, context_of, depth_in, method_header, literal_words, meaning_at, obj_of, ref_of, used_bytes}
use Rattle.cs_classes.specs.Sound.{AreSoundObjects, is_reference, is_sender}
use Rattle.cs_classes.proofs.Heaps.{object_there}
use Rattle.cs_classes.proofs.Sorts.{obj_of-bytes, obj_of-context, obj_of-method, obj_of-pointers, references-method}
use Rattle.cs_classes.proofs.Sounds.{method_other, whole_context}
use Rattle.cs_inspect.specs.Reading.{context_seen, names_object, method_at, pointers_at, raw_at}
use Rattle.cs_inspect.specs.Texts.{activation_text, object_text_at, return_text}
use Rattle.cs_inspect.proofs.Reading.{bytes_of-drop, length-words_at, there, word_is}

-- ---- formats

-- an object that is neither pointers nor a method has bytes or units
pub raw_format : (f n : ℕ) → format_allows f n ≡ true → is_pointers f ≡ false → is_code f ≡ false → is_raw f ≡ true
raw_format f n h p m = go _ (is_pointers f) (is_raw f) (is_code f) p m h
  where
    go : (rest a b c : Bool) → a ≡ false → c ≡ false → ((a || b || c) && rest) ≡ true → b ≡ true
    go rest true b c e d h = absurd (false≢true (sym e))
    go rest false true c e d h = refl
    go rest false false true e d h = absurd (false≢true (sym d))
    go rest false false false e d h = absurd (false≢true h)

pub raw_read : (os : List Object) (a f : ℕ) → f ≡ format_at os a → format_allows f (slot_count_of os a) ≡ true → is_pointers (format_at os a) ≡ false → is_code (format_at os a) ≡ false → is_raw f ≡ true
raw_read os a f e h p m = raw_format f (slot_count_of os a) h (ap is_pointers e ∙ p) (ap is_code e ∙ m)

-- one from 24 on is a method
pub method_format : (f n : ℕ) → format_allows f n ≡ true → 24 ≤ f → is_code f ≡ true
method_format f n h l = go _ (is_pointers f) (is_raw f) (is_code f) no_pointers no_raw h
  where
    no_pointers : is_pointers f ≡ false
    no_pointers = grind (arith, nat_tests)

    no_raw : is_raw f ≡ false
    no_raw = grind (arith, nat_tests)

    go : (rest a b c : Bool) → a ≡ false → b ≡ false → ((a || b || c) && rest) ≡ true → c ≡ true
    go rest true b c e d h = absurd (false≢true (sym e))
    go rest false true c e d h = absurd (false≢true (sym d))
    go rest false false true e d h = refl
    go rest false false false e d h = absurd (false≢true h)

pub raw_unused : (f n : ℕ) → format_allows f n ≡ true → is_raw f ≡ true → unused_bytes f ≤ 4 * n
raw_unused f n h r = grind (arith, nat_tests)

-- ---- kinds

pub means_pointers : (os : List Object) (a : ℕ) → is_object os a ≡ true → (class_at os a == 36) ≡ false → is_pointers (format_at os a) ≡ true → meaning_at os a ≡ Some (pointers_at os a)
means_pointers os a h c p = let t = object_there os a h in go (heap_object os a) t.0 t.1 c p
  where
    go : (o : Option Object) (x : Object) → o ≡ Some x → (option_map_or (λ (y : Object). y.class) o 0 == 36) ≡ false → is_pointers (option_map_or (λ (y : Object). y.format) o 0) ≡ true
        → option_map (obj_of (ref_of os)) o ≡ Some (Ptr (record { class = option_map_or (λ (y : Object). y.class) o 0; format = option_map_or (λ (y : Object). y.format) o 0; hash = option_map_or (λ (y : Object). y.hash) o 0; fixed = option_map_or (λ (y : Object). flag_bits y.flags) o 0 % 2 == 1 }) (map (ref_of os) (option_map_or (λ (y : Object). y.words) o [])))
    go None x e c p = absurd (cc)
    go (Some y) x e c p = ap Some (obj_of-pointers (ref_of os) y c p)

pub means_raw : (os : List Object) (a : ℕ) → is_object os a ≡ true → (class_at os a == 36) ≡ false → is_pointers (format_at os a) ≡ false → is_code (format_at os a) ≡ false → meaning_at os a ≡ Some (raw_at os a)
means_raw os a h c p m = let t = object_there os a h in go (heap_object os a) t.0 t.1 c p m
  where
    go : (o : Option Object) (x : Object) → o ≡ Some x → (option_map_or (λ (y : Object). y.class) o 0 == 36) ≡ false → is_pointers (option_map_or (λ (y : Object). y.format) o 0) ≡ false → is_code (option_map_or (λ (y : Object). y.format) o 0) ≡ false
        → option_map (obj_of (ref_of os)) o ≡ Some (Raw (record { class = option_map_or (λ (y : Object). y.class) o 0; format = option_map_or (λ (y : Object). y.format) o 0; hash = option_map_or (λ (y : Object). y.hash) o 0; fixed = option_map_or (λ (y : Object). flag_bits y.flags) o 0 % 2 == 1 }) (used_bytes (option_map_or (λ (y : Object). y.format) o 0) (option_map_or (λ (y : Object). y.words) o [])))
    go None x e c p m = absurd (cc)
    go (Some y) x e c p m = ap Some (obj_of-bytes (ref_of os) y c p m)

pub means_method : (os : List Object) (a : ℕ) → is_object os a ≡ true → (class_at os a == 36) ≡ false → is_pointers (format_at os a) ≡ false → is_code (format_at os a) ≡ true → meaning_at os a ≡ Some (method_at os a)
means_method os a h c p m = let t = object_there os a h in go (heap_object os a) t.0 t.1 c p m
  where
    go : (o : Option Object) (x : Object) → o ≡ Some x → (option_map_or (λ (y : Object). y.class) o 0 == 36) ≡ false → is_pointers (option_map_or (λ (y : Object). y.format) o 0) ≡ false → is_code (option_map_or (λ (y : Object). y.format) o 0) ≡ true
        → option_map (obj_of (ref_of os)) o ≡ Some (Method (record { class = option_map_or (λ (y : Object). y.class) o 0; format = option_map_or (λ (y : Object). y.format) o 0; hash = option_map_or (λ (y : Object). y.hash) o 0; fixed = option_map_or (λ (y : Object). flag_bits y.flags) o 0 % 2 == 1 }) (method_header (option_map_or (λ (y : Object). y.words) o [])) (map (ref_of os) (literal_words (option_map_or (λ (y : Object). y.words) o []))) (used_bytes (option_map_or (λ (y : Object). y.format) o 0) (code_in (option_map_or (λ (y : Object). y.words) o []))))
    go None x e c p m = absurd (cc)
    go (Some y) x e c p m = ap Some (obj_of-method (ref_of os) y c p m)

pub means_context : (os : List Object) (a : ℕ) → is_object os a ≡ true → (class_at os a == 36) ≡ true → meaning_at os a ≡ Some (Ctx (context_seen os a))
means_context os a h c = let t = object_there os a h in go (heap_object os a) t.0 t.1 c
  where
    go : (o : Option Object) (x : Object) → o ≡ Some x → (option_map_or (λ (y : Object). y.class) o 0 == 36) ≡ true
        → option_map (obj_of (ref_of os)) o ≡ Some (Ctx (context_of (ref_of os) (option_map_or (λ (y : Object). y.hash) o 0) (option_map_or (λ (y : Object). y.words) o [])))
    go None x e c = absurd (cc)
    go (Some y) x e c = ap Some (obj_of-context (ref_of os) y c)

-- what is printed of it
pub text_is : (os : List Object) (a : ℕ) (o : Obj) → meaning_at os a ≡ Some o → object_text o ≡ object_text_at os a
text_is os a o e = sym (ap (λ (p : Option Obj). option_map_or object_text p []) e)

-- ---- what the calls ask, and the whole text

regroup : (k a c b f d h z t : List ℕ) → k ++ a ++ c ++ b ++ f ++ d ++ h ++ z ++ t ≡ k ++ (a ++ c) ++ (b ++ f) ++ (d ++ h) ++ z ++ t
regroup k a c b f d h z t = simp append_assoc

pub pointers_whole : (os : List Object) (a n : ℕ) → n ≡ slot_count_of os a
    → codes " ptr" ++ codes " class=" ++ decimal (class_at os a) ++ codes " format=" ++ decimal (format_at os a) ++ codes " hash=" ++ decimal (hash_at os a) ++ codes ":"
    ++ refs_text (map (ref_of os) (take (n - 0) (drop 0 (words_at os a))))
    ≡ object_text (pointers_at os a)
pointers_whole os a n e =
    ap (λ (ws : List ℕ). codes " ptr" ++ codes " class=" ++ decimal (class_at os a) ++ codes " format=" ++ decimal (format_at os a) ++ codes " hash=" ++ decimal (hash_at os a) ++ codes ":" ++ refs_text (map (ref_of os) ws))
    (take_all (n - 0) (words_at os a) (omega (arith, e, length-words_at os a)))
    ∙ regroup (codes " ptr") (codes " class=") (decimal (class_at os a)) (codes " format=") (decimal (format_at os a)) (codes " hash=") (decimal (hash_at os a)) (codes ":") (refs_text (map (ref_of os) (words_at os a)))

pub raw_whole : (os : List Object) (a n u : ℕ) → n ≡ slot_count_of os a → u ≡ unused_bytes (format_at os a)
    → codes " raw" ++ codes " class=" ++ decimal (class_at os a) ++ codes " format=" ++ decimal (format_at os a) ++ codes " hash=" ++ decimal (hash_at os a) ++ codes ":"
    ++ bytes_text (take (4 * n - u - 0) (drop 0 (bytes_of_words (words_at os a))))
    ≡ object_text (raw_at os a)
raw_whole os a n u e f =
    let size : 4 * n - u - 0 ≡ 4 * length (words_at os a) - unused_bytes (format_at os a) = omega (arith, e, f, length-words_at os a) in
    ap (λ (m : ℕ). codes " raw" ++ codes " class=" ++ decimal (class_at os a) ++ codes " format=" ++ decimal (format_at os a) ++ codes " hash=" ++ decimal (hash_at os a) ++ codes ":" ++ bytes_text (take m (bytes_of_words (words_at os a))))
    size
    ∙ regroup (codes " raw") (codes " class=") (decimal (class_at os a)) (codes " format=") (decimal (format_at os a)) (codes " hash=") (decimal (hash_at os a)) (codes ":") (bytes_text (used_bytes (format_at os a) (words_at os a)))

-- a method's header, literals and bytecodes
pub record MethodThere (os : List Object) (a : ℕ) : Type 0 where
  pub header : natural_of_word (slot_of os a 0) ≡ Some (method_header (words_at os a))
  pub other : (class_at os a == 36) ≡ false
  pub slots : literal_count (method_header (words_at os a)) < slot_count_of os a
  pub unused : unused_bytes (format_at os a) ≤ 4 * (slot_count_of os a - (1 + literal_count (method_header (words_at os a))))
  pub literal : (i : ℕ) → 1 ≤ i → i < 1 + literal_count (method_header (words_at os a)) → is_reference os (slot_of os a i) ≡ true

pub method_there : (os : List Object) (a : ℕ) → AreSoundObjects os → is_object os a ≡ true → is_code (format_at os a) ≡ true → MethodThere os a
method_there os a sound h m =
    let t = there os a sound h in
    let method : is_code t.x.format ≡ true = ap is_code (sym t.format) ∙ m in
    let parts = t.sound.method method in
    let words : words_at os a ≡ t.x.words = ap (λ (o : Option Object). option_map_or (λ (y : Object). y.words) o []) t.at in
    let count : literal_count (method_header (words_at os a)) ≡ literal_count (method_header t.x.words) = ap (λ (ws : List ℕ). literal_count (method_header ws)) words in
    let all : AllPass (is_reference os) (literal_words t.x.words) = subst (AllPass (is_reference os)) (references-method t.x method) t.sound.references in
    record {
      header = ap natural_of_word (t.slot 0) ∙ parts.header ∙ ap (λ (ws : List ℕ). Some (method_header ws)) (sym words);
      other = ap (λ (n : ℕ). n == 36) t.class ∙ method_other os t.x t.sound method;
      slots = omega (arith, parts.literals, count, t.count);
      unused = few t.x.format (literal_count (method_header t.x.words)) (length t.x.words) (format_at os a) (slot_count_of os a) (literal_count (method_header (words_at os a))) method parts.literals t.format t.count count;
      literal = λ i begun within.
          subst (λ v. is_reference os v ≡ true)
          (get_or-take (literal_count (method_header t.x.words)) (drop 1 t.x.words) (i - 1) 0 (omega (arith, begun, within, count)) ∙ get_or-drop 1 t.x.words (i - 1) 0 ∙ ap (λ (j : ℕ). get_or t.x.words j 0) (omega (arith, begun)) ∙ sym (t.slot i))
          (all (i - 1) 0 (omega (arith, begun, within, count, parts.literals, length-take (literal_count (method_header t.x.words)) (drop 1 t.x.words), length-drop 1 t.x.words)));
    }
  where
    fewer : (f : ℕ) → is_code f ≡ true → unused_bytes f < 4
    fewer f h = grind (arith, nat_tests)

    none : (u : ℕ) → nat_lt 0 u ≡ false → u ≡ 0
    none u e = grind (arith, nat_tests)

    few : (f c n g k d : ℕ) → is_code f ≡ true → c + (if nat_lt 0 (unused_bytes f) then 1 else 0) < n → g ≡ f → k ≡ n → d ≡ c → unused_bytes g ≤ 4 * (k - (1 + d))
    few f c n g k d m l e i j = subst (λ (q : ℕ). unused_bytes q ≤ 4 * (k - (1 + d))) (sym e) (go (nat_lt 0 (unused_bytes f)) refl l)
      where
        go : (b : Bool) → nat_lt 0 (unused_bytes f) ≡ b → c + (if b then 1 else 0) < n → unused_bytes f ≤ 4 * (k - (1 + d))
        go true e l = omega (arith, fewer f m, l, i, j)
        go false e l = omega (arith, none (unused_bytes f) e)

abbrev pub method_front : List Object → ℕ → ℕ → List ℕ
method_front os a x = codes " method class=" ++ decimal (class_at os a) ++ codes " hash=" ++ decimal (hash_at os a) ++ codes " header=" ++ decimal x ++ codes ":"

regroup_method : (k c b h d n z r s t : List ℕ) → k ++ c ++ b ++ h ++ d ++ n ++ z ++ r ++ s ++ t ≡ k ++ c ++ (b ++ h) ++ d ++ n ++ z ++ r ++ s ++ t
regroup_method k c b h d n z r s t = simp append_assoc

pub method_whole : (os : List Object) (a h n u : ℕ) → h ≡ method_header (words_at os a) → n ≡ slot_count_of os a → u ≡ unused_bytes (format_at os a)
    → codes " method class=" ++ decimal (class_at os a) ++ codes " hash=" ++ decimal (hash_at os a) ++ codes " header=" ++ decimal h ++ codes ":"
    ++ refs_text (map (ref_of os) (take (1 + literal_count h - 1) (drop 1 (words_at os a)))) ++ codes " ;"
    ++ bytes_text (take (4 * n - u - 4 * (1 + literal_count h)) (drop (4 * (1 + literal_count h)) (bytes_of_words (words_at os a))))
    ≡ object_text (method_at os a)
method_whole os a h n u e f g =
    ap (λ (x : ℕ). method_front os a x ++ refs_text (map (ref_of os) (take (1 + literal_count x - 1) (drop 1 (words_at os a)))) ++ codes " ;" ++ bytes_text (take (4 * n - u - 4 * (1 + literal_count x)) (drop (4 * (1 + literal_count x)) (bytes_of_words (words_at os a))))) e
    ∙ ap₂ (λ (x : ℕ) (bs : List ℕ). method_front os a (method_header (words_at os a)) ++ refs_text (map (ref_of os) (take x (drop 1 (words_at os a)))) ++ codes " ;" ++ bytes_text bs) literals codes_are
    ∙ regroup_method (codes " method class=") (decimal (class_at os a)) (codes " hash=") (decimal (hash_at os a)) (codes " header=") (decimal (method_header (words_at os a))) (codes ":")
    (refs_text (map (ref_of os) (literal_words (words_at os a)))) (codes " ;") (bytes_text (used_bytes (format_at os a) (code_in (words_at os a))))
  where
    literals : 1 + literal_count (method_header (words_at os a)) - 1 ≡ literal_count (method_header (words_at os a))
    literals = omega arith

    size : 4 * n - u - 4 * (1 + literal_count (method_header (words_at os a))) ≡ 4 * length (code_in (words_at os a)) - unused_bytes (format_at os a)
    size = omega (arith, f, g, length-words_at os a, length-drop (1 + literal_count (method_header (words_at os a))) (words_at os a))

    codes_are : take (4 * n - u - 4 * (1 + literal_count (method_header (words_at os a)))) (drop (4 * (1 + literal_count (method_header (words_at os a)))) (bytes_of_words (words_at os a))) ≡ used_bytes (format_at os a) (code_in (words_at os a))
    codes_are = ap₂ (λ (k : ℕ) (bs : List ℕ). take k bs) size (sym (bytes_of-drop (1 + literal_count (method_header (words_at os a))) (words_at os a)))

-- the slots of a context
pub record ContextThere (os : List Object) (a : ℕ) : Type 0 where
  pub fields : 6 ≤ slot_count_of os a
  pub sender : names_object os (slot_of os a 0) ≡ true
  pub others : (i : ℕ) → 0 < i → i < slot_count_of os a → is_reference os (slot_of os a i) ≡ true
  pub depth : 6 + depth_in (words_at os a) ≤ slot_count_of os a

pub context_there : (os : List Object) (a : ℕ) → AreSoundObjects os → is_object os a ≡ true → (class_at os a == 36) ≡ true → ContextThere os a
context_there os a sound h c =
    let t = there os a sound h in
    let w = whole_context os t.x t.sound (ap (λ (n : ℕ). n == 36) (sym t.class) ∙ c) in
    let words : words_at os a ≡ t.x.words = ap (λ (o : Option Object). option_map_or (λ (y : Object). y.words) o []) t.at in
    let depth : depth_in (words_at os a) ≡ depth_in t.x.words = ap depth_in words in
    record {
      fields = omega (arith, w.fields, t.count);
      sender = or_right (is_reference os (slot_of os a 0)) (is_sender os (slot_of os a 0)) (ap (is_sender os) (t.slot 0) ∙ w.sender);
      others = λ i some within. ap (is_reference os) (t.slot i) ∙ w.references i some (omega (arith, within, t.count));
      depth = omega (arith, w.fields, w.depth, t.count, depth);
    }

pub named_reference : (os : List Object) (w : ℕ) → is_reference os w ≡ true → names_object os w ≡ true
named_reference os w h = or_left (is_reference os w) (is_sender os w) h

regroup_context : (a h b n c s d p e m f k g r z t : List ℕ) → (a ++ h) ++ (b ++ n) ++ (c ++ s ++ d ++ p) ++ (e ++ m ++ (f ++ k) ++ (g ++ r) ++ z) ++ t ≡ a ++ h ++ b ++ n ++ c ++ s ++ d ++ p ++ e ++ m ++ f ++ k ++ g ++ r ++ z ++ t
regroup_context a h b n c s d p e m f k g r z t = simp append_assoc

abbrev context_shape : List Object → ℕ → ℕ → ℕ → ℕ → ℕ → ℕ → ℕ → List Ref → List ℕ
context_shape os hash x s p m c r rs = (codes " context hash=" ++ decimal hash) ++ (codes " size=" ++ decimal x)
    ++ (codes " sender=" ++ ref_text (ref_of os s) ++ codes " pc=" ++ pc_text (natural_of_word p))
    ++ (codes " method=" ++ ref_text (ref_of os m) ++ (codes " closure=" ++ ref_text (ref_of os c)) ++ (codes " receiver=" ++ ref_text (ref_of os r)) ++ codes ":")
    ++ refs_text rs

pub context_whole : (os : List Object) (a h n d : ℕ) → h ≡ hash_at os a → n ≡ slot_count_of os a - 6 → d ≡ depth_in (words_at os a)
    → (codes " context hash=" ++ decimal h) ++ (codes " size=" ++ decimal n) ++ return_text os a ++ activation_text os a
    ++ refs_text (map (ref_of os) (take (6 + d - 6) (drop 6 (words_at os a))))
    ≡ context_text (context_seen os a)
unfolding context_of
context_whole os a h n d g e f =
    let ws : List ℕ = words_at os a in
    let stack : List Ref = map (ref_of os) (take (depth_in ws) (drop 6 ws)) in
    let size : ℕ = length ws - 6 in
    let hash : ℕ = hash_at os a in
    let deep : 6 + d - 6 ≡ depth_in ws = omega (arith, f) in
    ap (λ (v : ℕ). context_shape os v n (slot_of os a 0) (slot_of os a 1) (slot_of os a 3) (slot_of os a 4) (slot_of os a 5) (map (ref_of os) (take (6 + d - 6) (drop 6 ws)))) g
    ∙ ap₂ (λ (x y : ℕ). context_shape os hash x (slot_of os a 0) (slot_of os a 1) (slot_of os a 3) (slot_of os a 4) (slot_of os a 5) (map (ref_of os) (take y (drop 6 ws))))
    (e ∙ ap (λ (k : ℕ). k - 6) (sym (length-words_at os a))) deep
    ∙ ap (λ (v : ℕ). context_shape os hash size v (slot_of os a 1) (slot_of os a 3) (slot_of os a 4) (slot_of os a 5) stack) (sym (word_is os a 0))
    ∙ ap (λ (v : ℕ). context_shape os hash size (slice_index ws 0) v (slot_of os a 3) (slot_of os a 4) (slot_of os a 5) stack) (sym (word_is os a 1))
    ∙ ap (λ (v : ℕ). context_shape os hash size (slice_index ws 0) (slice_index ws 1) v (slot_of os a 4) (slot_of os a 5) stack) (sym (word_is os a 3))
    ∙ ap (λ (v : ℕ). context_shape os hash size (slice_index ws 0) (slice_index ws 1) (slice_index ws 3) v (slot_of os a 5) stack) (sym (word_is os a 4))
    ∙ ap (λ (v : ℕ). context_shape os hash size (slice_index ws 0) (slice_index ws 1) (slice_index ws 3) (slice_index ws 4) v stack) (sym (word_is os a 5))
    ∙ regroup_context (codes " context hash=") (decimal hash) (codes " size=") (decimal size) (codes " sender=") (ref_text (ref_of os (slice_index ws 0))) (codes " pc=") (pc_text (natural_of_word (slice_index ws 1)))
    (codes " method=") (ref_text (ref_of os (slice_index ws 3))) (codes " closure=") (ref_text (ref_of os (slice_index ws 4))) (codes " receiver=") (ref_text (ref_of os (slice_index ws 5))) (codes ":") (refs_text stack)

-- ---- what is read of a method's header and of a stackp

pub header_read : (os : List Object) (a h w : ℕ) → MethodThere os a → Some h ≡ natural_of_word w → w ≡ slot_of os a 0 → h ≡ method_header (words_at os a)
header_read os a h w t e is =
    let same : Some h ≡ Some (method_header (words_at os a)) = e ∙ ap natural_of_word is ∙ t.header in
    ap (λ (o : Option ℕ). unwrap_or o 0) same

pub no_header : (os : List Object) (a w : ℕ) (r : Option MethodHeader) → MethodThere os a → r ≡ None → option_map (λ header. header.0) r ≡ natural_of_word w → w ≡ slot_of os a 0 → ⊥
no_header os a w r t none e is =
    let gone : None ≡ Some (method_header (words_at os a)) = sym (ap (option_map (λ (header : MethodHeader). header.0)) none) ∙ e ∙ ap natural_of_word is ∙ t.header in
    cc

pub depth_read : (os : List Object) (a d w : ℕ) (r : Option ℕ) → d ≡ unwrap_or r 0 → r ≡ natural_of_word w → w ≡ slot_of os a 2 → d ≡ depth_in (words_at os a)
depth_read os a d w r e f is =
    e ∙ ap (λ (o : Option ℕ). unwrap_or o 0) (f ∙ ap natural_of_word (is ∙ sym (word_is os a 2)))

pub method_unused : (os : List Object) (a f : ℕ) → f ≡ format_at os a → is_code (format_at os a) ≡ true → f - 24 ≡ unused_bytes (format_at os a)
method_unused os a f e m = ap (λ (g : ℕ). g - 24) e ∙ go (format_at os a) m
  where
    go : (g : ℕ) → is_code g ≡ true → g - 24 ≡ unused_bytes g
    go g h = grind (arith, nat_tests)

pub head_whole : (a n b h c p z : List ℕ) → (a ++ n) ++ (b ++ h) ++ c ++ p ++ z ≡ a ++ n ++ b ++ h ++ c ++ p ++ z
head_whole a n b h c p z = simp append_assoc

regroup_method_head : (k c b h d n z : List ℕ) → (k ++ c) ++ (b ++ h) ++ (d ++ n) ++ z ≡ k ++ c ++ b ++ h ++ d ++ n ++ z
regroup_method_head k c b h d n z = simp append_assoc

pub method_head_whole : (os : List Object) (a x y n : ℕ) → x ≡ class_at os a → y ≡ hash_at os a
    → (codes " method class=" ++ decimal x) ++ (codes " hash=" ++ decimal y) ++ (codes " header=" ++ decimal n) ++ codes ":" ≡ method_front os a n
method_head_whole os a x y n e f =
    ap₂ (λ (u v : ℕ). (codes " method class=" ++ decimal u) ++ (codes " hash=" ++ decimal v) ++ (codes " header=" ++ decimal n) ++ codes ":") e f
    ∙ regroup_method_head (codes " method class=") (decimal (class_at os a)) (codes " hash=") (decimal (hash_at os a)) (codes " header=") (decimal n) (codes ":")

pub method_text : (os : List Object) (a h n u k : ℕ) → h ≡ method_header (words_at os a) → n ≡ slot_count_of os a → u ≡ unused_bytes (format_at os a) → k ≡ literal_count h
    → method_front os a h ++ refs_text (map (ref_of os) (take (1 + k - 1) (drop 1 (words_at os a)))) ++ codes " ;"
    ++ bytes_text (take (4 * n - u - 4 * (1 + k)) (drop (4 * (1 + k)) (bytes_of_words (words_at os a))))
    ≡ object_text (method_at os a)
method_text os a h n u k e f g l =
    ap (λ (m : ℕ). method_front os a h ++ refs_text (map (ref_of os) (take (1 + m - 1) (drop 1 (words_at os a)))) ++ codes " ;" ++ bytes_text (take (4 * n - u - 4 * (1 + m)) (drop (4 * (1 + m)) (bytes_of_words (words_at os a))))) l
    ∙ method_whole os a h n u e f g

-- ---- kinds as the code tests them

pub is_context_read : (x n : ℕ) → x ≡ n → x ≡ 36 → (n == 36) ≡ true
is_context_read x n e h = eq-eqb n 36 (sym e ∙ h)

pub is_pointers_read : (x n : ℕ) → x ≡ n → x < 6 → is_pointers n ≡ true
is_pointers_read x n e h = grind (arith, nat_tests)

pub no_pointers_read : (x n : ℕ) → x ≡ n → 6 ≤ x → is_pointers n ≡ false
no_pointers_read x n e h = grind (arith, nat_tests)

pub no_method_read : (x n : ℕ) → x ≡ n → x < 24 → is_code n ≡ false
no_method_read x n e h = grind (arith, nat_tests)

pub method_read : (x n k : ℕ) → x ≡ n → format_allows x k ≡ true → 24 ≤ x → is_code n ≡ true
method_read x n k e h l = ap is_code (sym e) ∙ method_format x k h l

pub other_read : (x n : ℕ) → x ≡ n → (x ≡ 36 → ⊥) → (n == 36) ≡ false
other_read x n e h = grind (arith, nat_tests)
