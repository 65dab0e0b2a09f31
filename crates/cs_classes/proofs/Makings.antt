-- What a new object is, and what it adds to the kept parts: the laws for the crates above.
use Rattle.std.proofs.Common.{◌≡◌, ℕ, zero, suc, ◌+◌, ◌-◌, ◌*◌, ◌<◌, Bool, true, false, List, [], ◌∷◌, ◌++◌, length, map, take, replicate, Option, Some, None, is_some, refl, ap, ap₂, subst, sym, ◌∙◌, arith, get_or}
use Rattle.std.specs.Prelude.{slice_index, unwrap_or, ◌==◌, ◌||◌, IsTrue}
use Rattle.std.specs.List.{AllPass}
use Rattle.std.specs.Option.{option_map_or}
use Rattle.std.specs.Ordering.{nat_cmp}
use Rattle.std.specs.FinMap.{FinMap, get}
use Rattle.std.proofs.lemmas.Bool.{eq-eqb, false≢true, or_left}
use Rattle.std.proofs.lemmas.Bool.Decides.{nat_tests}
use Rattle.std.proofs.lemmas.List.{get_or-replicate, length-replicate, take-replicate}
use Rattle.std.proofs.lemmas.List.Elements.{All-drop}
use Rattle.cs_word.specs.Word.{natural_of_word}
use Rattle.cs_model.specs.Words.{bytes_of_words, unused_bytes}
use Rattle.cs_word.specs.Header.{flag_bits}
use Rattle.cs_heap.specs.Format.{format_allows, is_code, is_pointers}
use Rattle.cs_heap.specs.Object.{Object, address_of, base, is_object, new_object, new_slot}
use Rattle.cs_heap.proofs.Laws.{address_of-below, index_of-address, is_object-old, object_at-address}
use Rattle.cs_model.specs.Ref.{Ref}
use Rattle.cs_model.specs.Ref as ref
use Rattle.cs_model.specs.Obj.{Ctx, Method, Obj, Ptr, Raw, new_head}
use Rattle.cs_model.specs.State.{Kept, is_class_index}
use Rattle.cs_model.specs.Operation.{add_of, new_pointers}
use Rattle.cs_model.specs.Operation as operation
use Rattle.cs_model.specs.Instance.{new_context}
use Rattle.cs_classes.specs.declared.Roots.{Roots}
use Rattle.cs_classes.specs.Meaning.{nth_birth, code_in, context_of, depth_in, method_header, is_heap_context, kept_of, literal_words, obj_of, ref_of, used_bytes, head_of}
use Rattle.cs_classes.specs.Sound.{IsSoundMethod, IsSoundObject, IsWhole, is_closure_address, is_method_address, is_reference, is_sender, is_weak, nil_word, references_in}
use Rattle.cs_classes.proofs.Refs.{is_nil_or_closure, is_nil_or_method, is_reference-object, is_reference-push, is_sender-nil, nil_of-push, ref_of-object, ref_of-push}
use Rattle.cs_classes.proofs.Sorts.{map_alike, not_pointers, obj_of-bytes, obj_of-context, obj_of-method, obj_of-pointers, references-context, references-method, references-pointers}
use Rattle.cs_classes.proofs.Wholes.{after_birth, kept_of-push, whole-push}

-- a new object is added, which is the one that o says
pub record Makes (os : List Object) (y : Object) (table : FinMap nat_cmp ℕ) (roots : Roots) (o : Kept → Obj) : Type 0 where
  pub whole : IsWhole (os ++ y ∷ []) table (after_birth roots)
  pub kept : (active : Option ℕ) → kept_of (os ++ y ∷ []) table (after_birth roots) active ≡ add_of (kept_of os table roots active) (o (kept_of os table roots active))

-- ---- nil

nil_address : (os : List Object) → 0 < length os → nil_word os ≡ base → address_of os 0 ≡ Some base
nil_address os some e = go (address_of os 0) refl (address_of-below os 0 some)
  where
    go : (o : Option ℕ) → address_of os 0 ≡ o → is_some o ≡ true → address_of os 0 ≡ Some base
    go None p h = absurd (cc)
    go (Some a) p h = p ∙ ap Some (sym (ap (λ (o : Option ℕ). unwrap_or o 0) p) ∙ e)

pub nil_is_object : (os : List Object) (table : FinMap nat_cmp ℕ) (roots : Roots) → IsWhole os table roots → is_object os base ≡ true
nil_is_object os table roots w = ap is_some (index_of-address os base 0 (nil_address os (omega (arith, w.first)) w.nil))

pub ref_of-nil : (os : List Object) (table : FinMap nat_cmp ℕ) (roots : Roots) → IsWhole os table roots → ref_of os base ≡ ref.Obj (nth_birth os 0)
ref_of-nil os table roots w =
    ref_of-object os base (nil_is_object os table roots w)
    ∙ ap (λ (o : Option Object). ref.Obj (option_map_or (λ (x : Object). x.birth) o 0)) (object_at-address os base 0 (nil_address os (omega (arith, w.first)) w.nil))

-- nil may stand in each field of a context

pub is_sender-base : (os : List Object) (table : FinMap nat_cmp ℕ) (roots : Roots) → IsWhole os table roots → is_sender os base ≡ true
is_sender-base os table roots w =
    subst (λ n. is_sender os n ≡ true) w.nil (is_sender-nil os (ap (is_object os) w.nil ∙ nil_is_object os table roots w))

pub is_nil_or_method-base : (os : List Object) (table : FinMap nat_cmp ℕ) (roots : Roots) → IsWhole os table roots → is_nil_or_method os base ≡ true
is_nil_or_method-base os table roots w = or_left (base == nil_word os) (is_method_address os base) (eq-eqb base (nil_word os) (sym w.nil))

pub is_nil_or_closure-base : (os : List Object) (table : FinMap nat_cmp ℕ) (roots : Roots) → IsWhole os table roots → is_nil_or_closure os base ≡ true
is_nil_or_closure-base os table roots w = or_left (base == nil_word os) (is_closure_address os base) (eq-eqb base (nil_word os) (sym w.nil))

-- ---- the new object

module _ {os : List Object} {table : FinMap nat_cmp ℕ} {roots : Roots} (w : IsWhole os table roots) where
  pub makes : (y : Object) (o : Kept → Obj) → y.birth ≡ roots.next_birth → is_some (get table y.class) ≡ true → IsSoundObject (os ++ y ∷ []) y
      → ((active : Option ℕ) → obj_of (ref_of (os ++ y ∷ [])) y ≡ o (kept_of os table roots active)) → Makes os y table roots o
  makes y o next class sound means = record {
    whole = whole-push os table roots y w next class sound;
    kept = λ active. kept_of-push os table roots active y w next ∙ ap (add_of (kept_of os table roots active)) (means active);
  }

  nil_ref : (y : Object) → ref_of (os ++ y ∷ []) base ≡ ref.Obj (nth_birth os 0)
  nil_ref y = ref_of-push os y base (is_reference-object os base (nil_is_object os table roots w)) ∙ ref_of-nil os table roots w

  nils : (y : Object) (n : ℕ) → map (ref_of (os ++ y ∷ [])) (replicate n base) ≡ replicate n (ref.Obj (nth_birth os 0))
  nils y zero = refl
  nils y (suc n) = ap₂ (λ (r : Ref) (rs : List Ref). r ∷ rs) (nil_ref y) (nils y n)

  all_nils : (y : Object) (n : ℕ) → AllPass (is_reference (os ++ y ∷ [])) (replicate n base)
  all_nils y n = λ k d l. subst (λ (v : ℕ). is_reference (os ++ y ∷ []) v ≡ true) (sym (get_or-replicate n k base d (omega (arith, l, length-replicate n base))))
      (is_reference-push os y base (is_reference-object os base (nil_is_object os table roots w)))

  -- a pointer object, whose slots are nil
  pub makes-pointers : (class format slots : ℕ) → is_class_index class ≡ true → (class == 36) ≡ false → is_weak format ≡ false → is_pointers format ≡ true → IsTrue (format_allows format slots) → is_some (get table class) ≡ true
      → Makes os (new_object class format slots roots.next_birth) table roots (λ k. new_pointers k class format slots)
  makes-pointers class format slots kind other plain p shape entry = makes y (λ k. new_pointers k class format slots) refl entry sound (λ active. means)
    where
      y : Object
      y = new_object class format slots roots.next_birth

      words : y.words ≡ replicate slots base
      words = rw p refl

      sound : IsSoundObject (os ++ y ∷ []) y
      sound = record {
        kind = kind;
        flags = omega arith;
        plain = plain;
        shape = subst (λ (n : ℕ). IsTrue (format_allows format n)) (sym (length-replicate slots (new_slot format))) shape;
        references = subst (AllPass (is_reference (os ++ y ∷ []))) (sym (references-pointers y other p ∙ words)) (all_nils y slots);
        context = λ c. absurd (false≢true (sym other ∙ c));
        method = λ m. absurd (false≢true (sym (not_pointers format m) ∙ p));
      }

      means : obj_of (ref_of (os ++ y ∷ [])) y ≡ Ptr (new_head class format) (replicate slots (ref.Obj (nth_birth os 0)))
      means = obj_of-pointers (ref_of (os ++ y ∷ [])) y other p ∙ ap (Ptr (new_head class format)) (ap (map (ref_of (os ++ y ∷ []))) words ∙ nils y slots)

  bits_plain : (n : ℕ) → is_pointers n ≡ false → is_weak n ≡ false
  bits_plain n h = grind (arith, nat_tests)

  pub zero_bytes : (n : ℕ) → bytes_of_words (replicate n 0) ≡ replicate (4 * n) 0
  unfolding bytes_of_words
  zero_bytes zero = refl
  zero_bytes (suc n) = ap (λ (rest : List ℕ). 0 ∷ 0 ∷ 0 ∷ 0 ∷ rest) (zero_bytes n) ∙ ap (λ (m : ℕ). replicate m 0) (later n)
    where
      later : (n : ℕ) → suc (suc (suc (suc (4 * n)))) ≡ 4 * suc n
      later n = omega arith

  -- a raw object, whose bytes are 0
  pub makes-bytes : (class format slots : ℕ) → is_class_index class ≡ true → (class == 36) ≡ false → is_pointers format ≡ false → is_code format ≡ false → IsTrue (format_allows format slots) → is_some (get table class) ≡ true
      → Makes os (new_object class format slots roots.next_birth) table roots (λ k. Raw (new_head class format) (replicate (4 * slots - unused_bytes format) 0))
  makes-bytes class format slots kind other p m shape entry = makes y (λ k. Raw (new_head class format) (replicate (4 * slots - unused_bytes format) 0)) refl entry sound (λ active. means)
    where
      y : Object
      y = new_object class format slots roots.next_birth

      words : y.words ≡ replicate slots 0
      words = rw p refl

      none : references_in y ≡ []
      none = rw (p, m) refl

      sound : IsSoundObject (os ++ y ∷ []) y
      sound = record {
        kind = kind;
        flags = omega arith;
        plain = bits_plain format p;
        shape = subst (λ (n : ℕ). IsTrue (format_allows format n)) (sym (length-replicate slots (new_slot format))) shape;
        references = subst (AllPass (is_reference (os ++ y ∷ []))) (sym none) (λ k d l. absurd (omega (arith, l)));
        context = λ c. absurd (false≢true (sym other ∙ c));
        method = λ n. absurd (false≢true (sym m ∙ n));
      }

      bytes : used_bytes format (replicate slots 0) ≡ replicate (4 * slots - unused_bytes format) 0
      bytes = ap (λ (n : ℕ). take (4 * n - unused_bytes format) (bytes_of_words (replicate slots 0))) (length-replicate slots 0)
          ∙ ap (take (4 * slots - unused_bytes format)) (zero_bytes slots)
          ∙ take-replicate (4 * slots - unused_bytes format) (4 * slots) 0 (omega arith)

      means : obj_of (ref_of (os ++ y ∷ [])) y ≡ Raw (new_head class format) (replicate (4 * slots - unused_bytes format) 0)
      means = obj_of-bytes (ref_of (os ++ y ∷ [])) y other p m ∙ ap (Raw (new_head class format)) (ap (used_bytes format) words ∙ bytes)

  -- a method, whose header and literals stand already: all words of a new one are 0 until these are written
  pub makes-method : (y : Object) → y.birth ≡ roots.next_birth → is_some (get table y.class) ≡ true → is_class_index y.class ≡ true → flag_bits y.flags < 2 → is_heap_context y ≡ false → is_code y.format ≡ true
      → IsTrue (format_allows y.format (length y.words)) → IsSoundMethod y → AllPass (is_reference os) (literal_words y.words)
      → Makes os y table roots (λ k. Method (head_of y) (method_header y.words) (map (ref_of os) (literal_words y.words)) (used_bytes y.format (code_in y.words)))
  makes-method y next entry kind flags other m shape sound_method all =
      makes y (λ k. Method (head_of y) (method_header y.words) (map (ref_of os) (literal_words y.words)) (used_bytes y.format (code_in y.words))) next entry sound (λ active. means)
    where
      sound : IsSoundObject (os ++ y ∷ []) y
      sound = record {
        kind = kind;
        flags = flags;
        plain = bits_plain y.format (not_pointers y.format m);
        shape = shape;
        references = subst (AllPass (is_reference (os ++ y ∷ []))) (sym (references-method y m)) (λ k d l. is_reference-push os y (get_or (literal_words y.words) k d) (all k d l));
        context = λ c. absurd (false≢true (sym other ∙ c));
        method = λ _. sound_method;
      }

      means : obj_of (ref_of (os ++ y ∷ [])) y ≡ Method (head_of y) (method_header y.words) (map (ref_of os) (literal_words y.words)) (used_bytes y.format (code_in y.words))
      means = obj_of-method (ref_of (os ++ y ∷ [])) y other (not_pointers y.format m) m
          ∙ ap (λ (ls : List Ref). Method (head_of y) (method_header y.words) ls (used_bytes y.format (code_in y.words)))
          (map_alike (is_reference os) (ref_of (os ++ y ∷ [])) (ref_of os) (ref_of-push os y) (literal_words y.words) all)

  -- a context: its fields are nil and its stack is empty
  new_context_of : (refer : ℕ → Ref) (m : ℕ) → context_of refer 0 (replicate (suc (suc (suc (suc (suc (suc m)))))) base) ≡ new_context (refer base) m
  unfolding context_of natural_of_word
  new_context_of refer m =
      let size : length (replicate (suc (suc (suc (suc (suc (suc m)))))) base) - 6 ≡ m = omega (arith, length-replicate (suc (suc (suc (suc (suc (suc m)))))) base) in
      λ i. record { hash = 0; sender = refer base; pc = None; method = refer base; closure = refer base; receiver = refer base; stack = []; size = size i }

  pub makes-context : (size : ℕ) → (size == 16 || size == 56) ≡ true
      → Makes os (new_object 36 3 (6 + size) roots.next_birth) table roots (λ k. Ctx (new_context (operation.nil_of k) size))
  unfolding natural_of_word
  makes-context size fits = makes y (λ k. Ctx (new_context (operation.nil_of k) size)) refl w.entries.contexts sound (λ active. means)
    where
      y : Object
      y = new_object 36 3 (6 + size) roots.next_birth

      long : length y.words ≡ 6 + size
      long = length-replicate (6 + size) base

      word : (i : ℕ) → i < 6 → slice_index y.words i ≡ base
      word i l = get_or-replicate (6 + size) i base 0 (omega (arith, l))

      depth : depth_in y.words ≡ 0
      depth = ap (λ (v : ℕ). unwrap_or (natural_of_word v) 0) (word 2 (omega arith))

      nil : nil_word (os ++ y ∷ []) ≡ base
      nil = nil_of-push os y (omega (arith, w.first)) ∙ w.nil

      nil_there : is_object (os ++ y ∷ []) (nil_word (os ++ y ∷ [])) ≡ true
      nil_there = ap (is_object (os ++ y ∷ [])) nil ∙ is_object-old os y base (nil_is_object os table roots w)

      no_more : (i : ℕ) → i < 6 → (b : Bool) → (slice_index y.words i == nil_word (os ++ y ∷ []) || b) ≡ true
      no_more i l b = or_left (slice_index y.words i == nil_word (os ++ y ∷ [])) b (eq-eqb (slice_index y.words i) (nil_word (os ++ y ∷ [])) (word i l ∙ sym nil))

      is_nil : (i : ℕ) → i < 6 → IsTrue (slice_index y.words i == nil_word (os ++ y ∷ []) || is_some (natural_of_word (slice_index y.words i)))
      is_nil i l = or_left (slice_index y.words i == nil_word (os ++ y ∷ [])) (is_some (natural_of_word (slice_index y.words i))) (eq-eqb (slice_index y.words i) (nil_word (os ++ y ∷ [])) (word i l ∙ sym nil))

      shape : (n : ℕ) → (n == 16 || n == 56) ≡ true → ((6 + n) == 22 || (6 + n) == 62) ≡ true
      shape n h = grind (arith, nat_tests)

      allowed : (n : ℕ) → IsTrue (format_allows 3 n)
      allowed n = refl

      sound : IsSoundObject (os ++ y ∷ []) y
      sound = record {
        kind = refl;
        flags = omega arith;
        plain = refl;
        shape = allowed (length y.words);
        references = subst (AllPass (is_reference (os ++ y ∷ []))) (sym (references-context y refl refl))
            (All-drop (λ v. is_reference (os ++ y ∷ []) v ≡ true) 1 (replicate (6 + size) base) (all_nils y (6 + size)));
        context = λ c. record {
          flags = refl;
          format = refl;
          slots = subst (λ (n : ℕ). IsTrue (n == 22 || n == 62)) (sym long) (shape size fits);
          sender = subst (λ v. is_sender (os ++ y ∷ []) v ≡ true) (nil ∙ sym (word 0 (omega arith))) (is_sender-nil (os ++ y ∷ []) nil_there);
          pc = is_nil 1 (omega arith);
          stackp = is_nil 2 (omega arith);
          depth = omega (arith, depth);
          method = no_more 3 (omega arith) (is_method_address (os ++ y ∷ []) (slice_index y.words 3));
          closure = no_more 4 (omega arith) (is_closure_address (os ++ y ∷ []) (slice_index y.words 4));
        };
        method = λ m. absurd (false≢true m);
      }

      means : obj_of (ref_of (os ++ y ∷ [])) y ≡ Ctx (new_context (ref.Obj (nth_birth os 0)) size)
      means =
          let refer : ℕ → Ref = ref_of (os ++ y ∷ []) in
          let six : 6 + size ≡ suc (suc (suc (suc (suc (suc size))))) = omega arith in
          obj_of-context refer y refl ∙ ap Ctx (ap (λ (n : ℕ). context_of refer 0 (replicate n base)) six ∙ new_context_of refer size ∙ ap (λ (r : Ref). new_context r size) (nil_ref y))
