-- A heap stays sound when an object changes in a sound way, or a sound one comes.
use Rattle.std.proofs.Common.{◌≡◌, ℕ, zero, suc, drop, ◌+◌, ◌-◌, ◌*◌, ◌/◌, ◌<◌, ◌≤◌, Bool, true, false, List, [], ◌∷◌, ◌++◌, length, Option, Some, None, option_map, refl, ap, subst, sym, ◌∙◌, arith, get_or, set, ◌⊎◌, inl, inr}
use Rattle.std.specs.Prelude.{slice_get, slice_index, unwrap_or, ◌||◌, ◌==◌, if◌then◌else◌, is_some, IsTrue}
use Rattle.std.specs.List.{AllPass}
use Rattle.std.proofs.lemmas.Bool.{cases_eq, false≢true}
use Rattle.std.proofs.lemmas.Bool.Decides.{nat_tests}
use Rattle.std.proofs.lemmas.List.{get_or-set_other, get_or-set_same, length-set}
use Rattle.std.proofs.lemmas.List.Elements.{All-drop, All-set}
use Rattle.std.proofs.lemmas.Option.{slice_get_within}
use Rattle.cs_word.specs.Header.{flag_bits, with_immutable}
use Rattle.cs_word.specs.Word.{natural_of_word}
use Rattle.cs_heap.specs.Format.{is_code, is_pointers, format_allows}
use Rattle.cs_heap.specs.Object.{Object, at_index, heap_object, set_word, with_object}
use Rattle.cs_model.specs.Obj.{is_header, literal_count}
use Rattle.cs_classes.specs.Meaning.{depth_in, method_header, is_heap_context, literal_words}
use Rattle.cs_classes.specs.Sound.{AreSoundObjects, IsSoundObject, is_reference, is_sender, nil_word, references_in}
use Rattle.cs_classes.proofs.Heaps.{IsEdit, slice_get-at_index_other, slice_get-at_index_same, slice_get-push, stands, with_object-stands}
use Rattle.cs_classes.proofs.Objects.{IsFresh}
use Rattle.cs_classes.proofs.Refs.{is_nil_or_closure, is_nil_or_closure-push, is_nil_or_closure-with_object, is_nil_or_method, is_nil_or_method-push, is_nil_or_method-with_object, is_reference-push, is_reference-with_object, is_sender-push, is_sender-with_object, nil_of-push, nil_of-with_object}
use Rattle.cs_classes.proofs.Edits.{literals_in-set, literals_in-set_code}
use Rattle.cs_classes.proofs.Sorts.{behind_first, drop_six, not_pointers, references-context, references-method, references-pointers}

-- ---- what a sound object is

pub sound_at : (os : List Object) (a : ℕ) (x : Object) → AreSoundObjects os → heap_object os a ≡ Some x → IsSoundObject os x
sound_at os a x sound h = let s = stands os a x h in sound.each s.0 x s.1.element

-- a context has six fields, and all its words behind its sender are references
pub record IsWholeContext (os : List Object) (x : Object) : Type 0 where
  pub format : x.format ≡ 3
  pub fields : 6 ≤ length x.words
  pub depth : depth_in x.words ≤ length x.words - 6
  pub sender : is_sender os (slice_index x.words 0) ≡ true
  pub references : (i : ℕ) → 0 < i → i < length x.words → is_reference os (slice_index x.words i) ≡ true
  pub behind : AllPass (is_reference os) (drop 1 x.words)
  pub stack : AllPass (is_reference os) (drop 6 x.words)

slots_at_least : (n : ℕ) → (n == 22 || n == 62) ≡ true → 6 ≤ n
slots_at_least n h = grind (arith, nat_tests)

pub whole_context : (os : List Object) (x : Object) → IsSoundObject os x → is_heap_context x ≡ true → IsWholeContext os x
whole_context os x sound c =
    let s = sound.context c in
    let behind : AllPass (is_reference os) (drop 1 x.words) = subst (AllPass (is_reference os)) (references-context x c s.format) sound.references in
    record {
      format = s.format;
      fields = slots_at_least (length x.words) s.slots;
      depth = s.depth;
      sender = s.sender;
      references = behind_first (λ w. is_reference os w ≡ true) x.words behind;
      behind = behind;
      stack = subst (AllPass (is_reference os)) (sym (drop_six x.words)) (All-drop (λ w. is_reference os w ≡ true) 5 (drop 1 x.words) behind);
    }

-- a sound method is no context
pub method_other : (os : List Object) (x : Object) → IsSoundObject os x → is_code x.format ≡ true → is_heap_context x ≡ false
method_other os x sound m = go (is_heap_context x) refl
  where
    go : (b : Bool) → is_heap_context x ≡ b → is_heap_context x ≡ false
    go true e = absurd (false≢true (sym (ap is_code (sound.context e).format) ∙ m))
    go false e = e

-- ---- one object changes

-- what is said of words is the same in two heaps
pub record ReadsAlike (os us : List Object) : Type 0 where
  pub references : is_reference us ≡ is_reference os
  pub nil : nil_word us ≡ nil_word os
  pub senders : is_sender us ≡ is_sender os
  pub methods : is_nil_or_method us ≡ is_nil_or_method os
  pub closures : is_nil_or_closure us ≡ is_nil_or_closure os

pub with_object-alike : (os : List Object) (a : ℕ) (f : Object → Object) → IsEdit f → ReadsAlike os (with_object os a f)
with_object-alike os a f edit = record {
  references = is_reference-with_object os a f edit;
  nil = nil_of-with_object os a f edit;
  senders = is_sender-with_object os a f edit;
  methods = is_nil_or_method-with_object os a f edit;
  closures = is_nil_or_closure-with_object os a f edit;
}

-- so what is sound in the one is in the other
pub sound-alike : (os us : List Object) → ReadsAlike os us → (x : Object) → IsSoundObject os x → IsSoundObject us x
sound-alike os us alike x s = record {
  kind = s.kind;
  flags = s.flags;
  plain = s.plain;
  shape = s.shape;
  references = subst (λ (p : ℕ → Bool). AllPass p (references_in x)) (sym alike.references) s.references;
  context = λ c. let old = s.context c in record {
    flags = old.flags;
    format = old.format;
    slots = old.slots;
    sender = subst (λ (p : ℕ → Bool). IsTrue (p (slice_index x.words 0))) (sym alike.senders) old.sender;
    pc = subst (λ (n : ℕ). IsTrue (slice_index x.words 1 == n || is_some (natural_of_word (slice_index x.words 1)))) (sym alike.nil) old.pc;
    stackp = subst (λ (n : ℕ). IsTrue (slice_index x.words 2 == n || is_some (natural_of_word (slice_index x.words 2)))) (sym alike.nil) old.stackp;
    depth = old.depth;
    method = subst (λ (p : ℕ → Bool). IsTrue (p (slice_index x.words 3))) (sym alike.methods) old.method;
    closure = subst (λ (p : ℕ → Bool). IsTrue (p (slice_index x.words 4))) (sym alike.closures) old.closure;
  };
  method = s.method;
}

pub sound-with_object : (os : List Object) (a : ℕ) (x : Object) (f : Object → Object) → IsEdit f → AreSoundObjects os → heap_object os a ≡ Some x → IsSoundObject os (f x) → AreSoundObjects (with_object os a f)
sound-with_object os a x f edit sound there new =
    let s = stands os a x there in
    let list = with_object-stands os a x s.0 f s.1 in
    record {
      apart = λ j k y z p q e.
          let u = element_before os s.0 j y (subst (λ (ys : List Object). slice_get ys j ≡ Some y) list p) in
          let v = element_before os s.0 k z (subst (λ (ys : List Object). slice_get ys k ≡ Some z) list q) in
          sound.apart j k u.0 v.0 u.1.0 v.1.0 (u.1.1 ∙ e ∙ sym v.1.1);
      each = λ k y h. sound-alike os (with_object os a f) (with_object-alike os a f edit) y
          (element_sound s.0 s.1.element k y (subst (λ (ys : List Object). slice_get ys k ≡ Some y) list h));
    }
  where
    element_before : (xs : List Object) (k j : ℕ) (y : Object) → slice_get (at_index k f xs) j ≡ Some y → (z : Object) × ((slice_get xs j ≡ Some z) × (z.birth ≡ y.birth))
    element_before xs k j y h = go (cases_eq k j)
      where
        changed : (o : Option Object) → slice_get xs j ≡ o → option_map f o ≡ Some y → (z : Object) × ((slice_get xs j ≡ Some z) × (z.birth ≡ y.birth))
        changed None e g = absurd (cc)
        changed (Some z) e g = let is : f z ≡ y = cc in (z, (e, sym (edit.birth z) ∙ ap (λ (u : Object). u.birth) is))

        go : (k ≡ j) ⊎ (k ≡ j → ⊥) → (z : Object) × ((slice_get xs j ≡ Some z) × (z.birth ≡ y.birth))
        go (inl e) = changed (slice_get xs j) refl (sym (slice_get-at_index_same j f xs) ∙ ap (λ (n : ℕ). slice_get (at_index n f xs) j) (sym e) ∙ h)
        go (inr other) = (y, (sym (slice_get-at_index_other k j f xs other) ∙ h, refl))

    element_sound : (k : ℕ) → slice_get os k ≡ Some x → (j : ℕ) (y : Object) → slice_get (at_index k f os) j ≡ Some y → IsSoundObject os y
    element_sound k here j y h = go (cases_eq k j)
      where
        go : (k ≡ j) ⊎ (k ≡ j → ⊥) → IsSoundObject os y
        go (inl e) =
            let is : Some (f x) ≡ Some y = sym (ap (option_map f) here) ∙ sym (slice_get-at_index_same k f os) ∙ ap (slice_get (at_index k f os)) e ∙ h in
            let same : f x ≡ y = cc in
            subst (IsSoundObject os) same new
        go (inr other) = sound.each j y (sym (slice_get-at_index_other k j f os other) ∙ h)

-- ---- one comes

more : (os : List Object) (y : Object) → 0 < length os → (x : Object) → IsSoundObject os x → IsSoundObject (os ++ y ∷ []) x
more os y some x s = record {
  kind = s.kind;
  flags = s.flags;
  plain = s.plain;
  shape = s.shape;
  references = λ k d l. is_reference-push os y (get_or (references_in x) k d) (s.references k d l);
  context = λ c. let old = s.context c in record {
    flags = old.flags;
    format = old.format;
    slots = old.slots;
    sender = is_sender-push os y (slice_index x.words 0) some old.sender;
    pc = subst (λ (n : ℕ). IsTrue (slice_index x.words 1 == n || is_some (natural_of_word (slice_index x.words 1)))) (sym (nil_of-push os y some)) old.pc;
    stackp = subst (λ (n : ℕ). IsTrue (slice_index x.words 2 == n || is_some (natural_of_word (slice_index x.words 2)))) (sym (nil_of-push os y some)) old.stackp;
    depth = old.depth;
    method = is_nil_or_method-push os y (slice_index x.words 3) some old.method;
    closure = is_nil_or_closure-push os y (slice_index x.words 4) some old.closure;
  };
  method = s.method;
}

pub sound-push : (os : List Object) (y : Object) → AreSoundObjects os → IsFresh os y.birth → IsSoundObject (os ++ y ∷ []) y → AreSoundObjects (os ++ y ∷ [])
sound-push os y sound fresh new = record {
  apart = λ j k u v p q e. apart j k u v (slice_get-push os y j u p) (slice_get-push os y k v q) e;
  each = λ k x h. each k x (slice_get-push os y k x h);
}
  where
    apart : (j k : ℕ) (u v : Object) → (slice_get os j ≡ Some u) ⊎ ((j ≡ length os) × (y ≡ u)) → (slice_get os k ≡ Some v) ⊎ ((k ≡ length os) × (y ≡ v)) → u.birth ≡ v.birth → j ≡ k
    apart j k u v (inl p) (inl q) e = sound.apart j k u v p q e
    apart j k u v (inl p) (inr q) e = absurd (fresh j u p (e ∙ ap (λ (z : Object). z.birth) (sym q.1)))
    apart j k u v (inr p) (inl q) e = absurd (fresh k v q (sym e ∙ ap (λ (z : Object). z.birth) (sym p.1)))
    apart j k u v (inr p) (inr q) e = p.0 ∙ sym q.0

    each : (k : ℕ) (x : Object) → (slice_get os k ≡ Some x) ⊎ ((k ≡ length os) × (y ≡ x)) → IsSoundObject (os ++ y ∷ []) x
    each k x (inl h) = more os y (omega (arith, slice_get_within os k x h)) x (sound.each k x h)
    each k x (inr h) = subst (IsSoundObject (os ++ y ∷ [])) h.1 new

-- ---- sound changes of one object

allows_set : (format : ℕ) (ws : List ℕ) (i v : ℕ) → IsTrue (format_allows format (length ws)) → IsTrue (format_allows format (length (set ws i v)))
allows_set format ws i v h = subst (λ (n : ℕ). IsTrue (format_allows format n)) (sym (length-set ws i v)) h

-- a slot of a pointer object
pub sound-set_slot : (os : List Object) (x : Object) (i v : ℕ) → IsSoundObject os x → is_heap_context x ≡ false → is_pointers x.format ≡ true → is_reference os v ≡ true → IsSoundObject os (set_word i v x)
sound-set_slot os x i v s other p h = record {
  kind = s.kind;
  flags = s.flags;
  plain = s.plain;
  shape = allows_set x.format x.words i v s.shape;
  references = subst (AllPass (is_reference os)) (sym (references-pointers (set_word i v x) other p))
      (All-set (λ (w : ℕ). is_reference os w ≡ true) x.words i v h (subst (AllPass (is_reference os)) (references-pointers x other p) s.references));
  context = λ c. absurd (false≢true (sym other ∙ c));
  method = λ m. absurd (false≢true (sym (not_pointers x.format m) ∙ p));
}

-- a word of a method behind its header
sound_method : (os : List Object) (x : Object) (i v : ℕ) → IsSoundObject os x → is_code x.format ≡ true → 0 < i → AllPass (is_reference os) (literal_words (set x.words i v)) → IsSoundObject os (set_word i v x)
sound_method os x i v s m h all =
    let word : slice_index (set x.words i v) 0 ≡ slice_index x.words 0 = get_or-set_other x.words i 0 v 0 (λ e. omega (arith, e, h)) in
    let header : method_header (set x.words i v) ≡ method_header x.words = ap (λ (w : ℕ). unwrap_or (natural_of_word w) 0) word in
    let old = s.method m in
    record {
      kind = s.kind;
      flags = s.flags;
      plain = s.plain;
      shape = allows_set x.format x.words i v s.shape;
      references = subst (AllPass (is_reference os)) (sym (references-method (set_word i v x) m)) all;
      context = λ c. absurd (false≢true (sym (method_other os x s m) ∙ c));
      method = λ _. record {
        header = ap natural_of_word word ∙ old.header ∙ ap Some (sym header);
        valid = subst (λ (n : ℕ). IsTrue (is_header n)) (sym header) old.valid;
        literals = omega (arith, old.literals, length-set x.words i v, ap literal_count header);
      };
    }

pub sound-set_literal : (os : List Object) (x : Object) (i v : ℕ) → IsSoundObject os x → is_code x.format ≡ true → 0 < i → is_reference os v ≡ true → IsSoundObject os (set_word i v x)
sound-set_literal os x i v s m h r =
    sound_method os x i v s m h (subst (AllPass (is_reference os)) (sym (literals_in-set x.words i v h))
    (All-set (λ (w : ℕ). is_reference os w ≡ true) (literal_words x.words) (i - 1) v r (subst (AllPass (is_reference os)) (references-method x m) s.references)))

-- a word of its bytecodes
pub sound-set_code : (os : List Object) (x : Object) (i v : ℕ) → IsSoundObject os x → is_code x.format ≡ true → literal_count (method_header x.words) < i → IsSoundObject os (set_word i v x)
sound-set_code os x i v s m h =
    sound_method os x i v s m (omega (arith, h)) (subst (AllPass (is_reference os)) (sym (literals_in-set_code x.words i v h)) (subst (AllPass (is_reference os)) (references-method x m) s.references))

-- a word of raw bytes
pub sound-set_bytes : (os : List Object) (x : Object) (i v : ℕ) → IsSoundObject os x → is_heap_context x ≡ false → is_pointers x.format ≡ false → is_code x.format ≡ false → IsSoundObject os (set_word i v x)
sound-set_bytes os x i v s other p m = record {
  kind = s.kind;
  flags = s.flags;
  plain = s.plain;
  shape = allows_set x.format x.words i v s.shape;
  references = subst (AllPass (is_reference os)) (sym (none (set_word i v x) p m)) (λ k d l. absurd (omega (arith, l)));
  context = λ c. absurd (false≢true (sym other ∙ c));
  method = λ n. absurd (false≢true (sym m ∙ n));
}
  where
    none : (y : Object) → is_pointers y.format ≡ false → is_code y.format ≡ false → references_in y ≡ []
    none y q n = rw (q, n) refl

-- A word of a context. Its sender stays nil, a context or no address; its pc stays nil or a count, and so does its stackp, which is at
-- most its size; its method stays nil or a method, its closure nil or a closure.
pub record IsContextWrite (os : List Object) (x : Object) (i v : ℕ) : Type 0 where
  pub reference : 0 < i → is_reference os v ≡ true
  pub sender : i ≡ 0 → is_sender os v ≡ true
  pub pc : i ≡ 1 → IsTrue (v == nil_word os || is_some (natural_of_word v))
  pub stackp : i ≡ 2 → IsTrue (v == nil_word os || is_some (natural_of_word v))
  pub depth : i ≡ 2 → unwrap_or (natural_of_word v) 0 ≤ length x.words - 6
  pub method : i ≡ 3 → is_nil_or_method os v ≡ true
  pub closure : i ≡ 4 → is_nil_or_closure os v ≡ true

behind_set : (P : ℕ → Type 0) (ws : List ℕ) (i v : ℕ) → (0 < i → P v) → ((k d : ℕ) → k < length (drop 1 ws) → P (get_or (drop 1 ws) k d))
    → (k d : ℕ) → k < length (drop 1 (set ws i v)) → P (get_or (drop 1 (set ws i v)) k d)
behind_set P [] i v h all = all
behind_set P (w ∷ ws) zero v h all = all
behind_set P (w ∷ ws) (suc i) v h all = All-set P ws i v (h (omega arith)) all

pub sound-set_context : (os : List Object) (x : Object) (i v : ℕ) → IsSoundObject os x → is_heap_context x ≡ true → IsContextWrite os x i v → IsSoundObject os (set_word i v x)
sound-set_context os x i v s c w =
    let old = s.context c in
    let whole = whole_context os x s c in
    let pointers : is_pointers x.format ≡ true = ap is_pointers old.format in
    let slots : length (set x.words i v) ≡ length x.words = length-set x.words i v in
    record {
      kind = s.kind;
      flags = s.flags;
      plain = s.plain;
      shape = allows_set x.format x.words i v s.shape;
      references = subst (AllPass (is_reference os)) (sym (references-context (set_word i v x) c old.format))
          (behind_set (λ (u : ℕ). is_reference os u ≡ true) x.words i v w.reference whole.behind);
      context = λ _. record {
        flags = old.flags;
        format = old.format;
        slots = subst (λ (n : ℕ). IsTrue (n == 22 || n == 62)) (sym slots) old.slots;
        sender = read 0 (λ (u : ℕ). IsTrue (is_sender os u)) (omega (arith, whole.fields)) w.sender old.sender;
        pc = read 1 (λ (u : ℕ). IsTrue (u == nil_word os || is_some (natural_of_word u))) (omega (arith, whole.fields)) w.pc old.pc;
        stackp = read 2 (λ (u : ℕ). IsTrue (u == nil_word os || is_some (natural_of_word u))) (omega (arith, whole.fields)) w.stackp old.stackp;
        depth = subst (λ (n : ℕ). depth_in (set x.words i v) ≤ n - 6) (sym slots)
            (read 2 (λ (u : ℕ). unwrap_or (natural_of_word u) 0 ≤ length x.words - 6) (omega (arith, whole.fields)) w.depth old.depth);
        method = read 3 (λ (u : ℕ). IsTrue (is_nil_or_method os u)) (omega (arith, whole.fields)) w.method old.method;
        closure = read 4 (λ (u : ℕ). IsTrue (is_nil_or_closure os u)) (omega (arith, whole.fields)) w.closure old.closure;
      };
      method = λ m. absurd (false≢true (sym (not_pointers x.format m) ∙ pointers));
    }
  where
    read : (k : ℕ) (P : ℕ → Type 0) → k < length x.words → (i ≡ k → P v) → P (slice_index x.words k) → P (slice_index (set x.words i v) k)
    read k P h new old = go (cases_eq i k)
      where
        go : (i ≡ k) ⊎ (i ≡ k → ⊥) → P (slice_index (set x.words i v) k)
        go (inl e) = subst P (sym (get_or-set_same x.words k v 0 h) ∙ ap (λ (j : ℕ). get_or (set x.words j v) k 0) (sym e)) (new e)
        go (inr other) = subst P (sym (get_or-set_other x.words i k v 0 (λ e. other (sym e)))) old

-- a hash
pub sound-hash : (os : List Object) (x : Object) (h : ℕ) → IsSoundObject os x → IsSoundObject os (record x { hash = h })
sound-hash os x h s = record {
  kind = s.kind;
  flags = s.flags;
  plain = s.plain;
  shape = s.shape;
  references = s.references;
  context = λ c. let old = s.context c in record {
    flags = old.flags;
    format = old.format;
    slots = old.slots;
    sender = old.sender;
    pc = old.pc;
    stackp = old.stackp;
    depth = old.depth;
    method = old.method;
    closure = old.closure;
  };
  method = λ m. let old = s.method m in record { header = old.header; valid = old.valid; literals = old.literals };
}

-- the mark of a read-only object, on an object that is no context
pub sound-fixed : (os : List Object) (x : Object) (on : Bool) → IsSoundObject os x → is_heap_context x ≡ false → IsSoundObject os (record x { flags = with_immutable on x.flags })
sound-fixed os x on s other = record {
  kind = s.kind;
  flags = still on (flag_bits x.flags) s.flags;
  plain = s.plain;
  shape = s.shape;
  references = s.references;
  context = λ c. absurd (false≢true (sym other ∙ c));
  method = λ m. let old = s.method m in record { header = old.header; valid = old.valid; literals = old.literals };
}
  where
    still : (on : Bool) (n : ℕ) → n < 2 → n / 2 * 2 + (if on then 1 else 0) < 2
    still true n l = omega (arith, l)
    still false n l = omega (arith, l)
