-- What each write to a heap does to the kept parts that it stands for: the laws for the crates above.
--
-- The premises are what the code knows of the object x at an address a: that it stands there, its sort, and that a word
-- that is stored is a reference. Each law says that the heap is whole again, and what its kept parts are.
use Rattle.std.proofs.Common.{◌≡◌, ℕ, pos, ◌+◌, ◌-◌, ◌*◌, ◌/◌, ◌%◌, ◌^◌, ◌<◌, ◌≤◌, Bool, true, false, List, length, take, set, Option, Some, refl, ap, subst, sym, ◌∙◌, arith, map, drop, option_map}
use Rattle.std.specs.Prelude.{slice_index, unwrap_or, is_some, ◌==◌, ◌||◌, IsTrue}
use Rattle.std.specs.Option.{option_map_or}
use Rattle.std.specs.Ordering.{nat_cmp}
use Rattle.std.specs.FinMap.{FinMap, get}
use Rattle.std.proofs.lemmas.Bool.{or_right}
use Rattle.std.proofs.lemmas.Bool.Decides.{nat_tests}
use Rattle.std.proofs.lemmas.List.{length-set}
use Rattle.cs_word.specs.Word.{small_word, natural_of_word}
use Rattle.cs_word.specs.Header.{with_immutable}
use Rattle.cs_heap.specs.Format.{is_code, is_pointers}
use Rattle.cs_heap.specs.Object.{Object, birth_at, class_at, format_at, hash_at, is_object, slot_count_of, heap_object, set_word, slot_of, byte_set, fixed_set, hash_set, with_object, slot_set}
use Rattle.cs_heap.specs.Object as heap
use Rattle.cs_model.specs.Ref.{Ref}
use Rattle.cs_model.specs.Obj.{Context, Obj, edit_context, literal_count, popped, pushed, stored, with_pc, with_stack}
use Rattle.cs_model.specs.State.{Kept}
use Rattle.cs_model.specs.Operation.{edit_object, set_fixed_of, store_byte_of, store_of}
use Rattle.cs_model.specs.Operation as operation
use Rattle.cs_classes.specs.declared.Roots.{Roots}
use Rattle.cs_classes.specs.Meaning.{context_of, depth_in, method_header, is_heap_context, kept_of, obj_of, objects_of, ref_of}
use Rattle.cs_classes.specs.Sound.{IsSoundObject, IsWhole, is_reference, is_sender, nil_word}
use Rattle.cs_classes.proofs.Heaps.{IsEdit, is_object-object_at, object_there, set_word-IsEdit, with_object-twice}
use Rattle.cs_classes.proofs.Objects.{get-objects_of}
use Rattle.cs_classes.proofs.Refs.{count_of-small, is_nil_or_closure, is_nil_or_method, is_reference-small, ref_of-object, small_natural}
use Rattle.cs_classes.proofs.Edits.{obj_of-fixed, obj_of-hash, obj_of-set_byte, obj_of-set_code, obj_of-set_literal, obj_of-set_word}
use Rattle.cs_classes.proofs.Contexts.{context_of-closure, context_of-lower, context_of-method, context_of-pc, context_of-push, context_of-receiver, context_of-sender, context_of-stack, context_of-stackp, depth_is, obj_of-edit_context}
use Rattle.cs_classes.proofs.Sounds.{IsContextWrite, method_other, sound-fixed, sound-hash, sound-set_bytes, sound-set_code, sound-set_context, sound-set_literal, sound-set_slot, sound_at, whole_context}
use Rattle.cs_classes.proofs.Wholes.{HashFits, kept_of-with_object, no_entry, whole-with_hash}

-- a write: the heap is whole again, and its kept parts are those that g makes
pub record Does (os us : List Object) (table : FinMap nat_cmp ℕ) (roots : Roots) (g : Kept → Kept) : Type 0 where
  pub whole : IsWhole us table roots
  pub kept : (active : Option ℕ) → kept_of us table roots active ≡ g (kept_of os table roots active)

-- what is known of the object that is written
pub record Holds (os : List Object) (table : FinMap nat_cmp ℕ) (roots : Roots) (a : ℕ) (x : Object) : Type 0 where
  pub whole : IsWhole os table roots
  pub there : heap_object os a ≡ Some x

-- the object at an address, and what the heap answers of it
pub record Known (os : List Object) (table : FinMap nat_cmp ℕ) (roots : Roots) (a : ℕ) : Type 0 where
  pub object : Object
  pub holds : Holds os table roots a object
  pub class : class_at os a ≡ object.class
  pub format : format_at os a ≡ object.format
  pub hash : hash_at os a ≡ object.hash
  pub count : slot_count_of os a ≡ length object.words
  pub slot : (i : ℕ) → slot_of os a i ≡ slice_index object.words i
  pub meaning : get (objects_of os) (birth_at os a) ≡ Some (obj_of (ref_of os) object)

pub known : (os : List Object) (table : FinMap nat_cmp ℕ) (roots : Roots) (a : ℕ) → IsWhole os table roots → is_object os a ≡ true → Known os table roots a
known os table roots a w h =
    let x = object_there os a h in
    record {
      object = x.0;
      holds = record { whole = w; there = x.1 };
      class = ap (λ (o : Option Object). option_map_or (λ (y : Object). y.class) o 0) x.1;
      format = ap (λ (o : Option Object). option_map_or (λ (y : Object). y.format) o 0) x.1;
      hash = ap (λ (o : Option Object). option_map_or (λ (y : Object). y.hash) o 0) x.1;
      count = ap (λ (o : Option Object). option_map_or (λ (y : Object). length y.words) o 0) x.1;
      slot = λ i. ap (λ (o : Option Object). option_map_or (λ (y : Object). slice_index y.words i) o 0) x.1;
      meaning = get-objects_of os a w.heap h ∙ ap (option_map (obj_of (ref_of os))) x.1;
    }

slots_at_most : (n : ℕ) → (n == 22 || n == 62) ≡ true → n ≤ 62
slots_at_most n h = grind (arith, nat_tests)

-- the depth of a stack is a SmallInteger
small_depth : (os : List Object) (x : Object) (d : ℕ) → IsSoundObject os x → is_heap_context x ≡ true → d ≤ length x.words - 6 → d < 2 ^ 30
small_depth os x d s c l = omega (arith, l, slots_at_most (length x.words) (s.context c).slots)

module _ {os : List Object} {table : FinMap nat_cmp ℕ} {roots : Roots} {a : ℕ} {x : Object} (h : Holds os table roots a x) where
  pub sound_object : IsSoundObject os x
  sound_object = sound_at os a x h.whole.heap h.there

  -- any edit that keeps the object sound, and gives it no hash but its index where it is a class
  does-edit_by : (f : Object → Object) (g : Obj → Obj) → IsEdit f → HashFits table a (f x).hash → IsSoundObject os (f x) → obj_of (ref_of os) (f x) ≡ g (obj_of (ref_of os) x)
      → Does os (with_object os a f) table roots (λ k. edit_object k (ref_of os a) g)
  does-edit_by f g edit hash sound means = record {
    whole = whole-with_hash os table roots a x f edit hash h.whole h.there sound;
    kept = λ active. kept_of-with_object os table roots active a x f g edit h.whole.heap h.there means
        ∙ ap (λ (r : Ref). edit_object (kept_of os table roots active) r g) (sym (ref_of-object os a (is_object-object_at os a x h.there)));
  }

  -- the same where its hash stays
  pub does-edit : (f : Object → Object) (g : Obj → Obj) → IsEdit f → (f x).hash ≡ x.hash → IsSoundObject os (f x) → obj_of (ref_of os) (f x) ≡ g (obj_of (ref_of os) x)
      → Does os (with_object os a f) table roots (λ k. edit_object k (ref_of os a) g)
  does-edit f g edit hash = does-edit_by f g edit (λ index e three. hash ∙ (h.whole.entries.class index a x e three h.there).hash)

  slot_is : (i : ℕ) → slot_of os a i ≡ slice_index x.words i
  slot_is i = ap (λ (o : Option Object). option_map_or (λ (y : Object). slice_index y.words i) o 0) h.there

  -- ---- pointer objects

  pub does-set_slot : (i v : ℕ) → is_heap_context x ≡ false → is_pointers x.format ≡ true → is_reference os v ≡ true
      → Does os (slot_set os a i v) table roots (λ k. store_of k (ref_of os a) i (ref_of os v))
  unfolding store_of
  does-set_slot i v other p r =
      does-edit (set_word i v) (operation.with_slot i (ref_of os v)) (set_word-IsEdit i v) refl (sound-set_slot os x i v sound_object other p r) (obj_of-set_word (ref_of os) x i v other p)

  -- ---- methods

  pub does-set_literal : (i v : ℕ) → is_code x.format ≡ true → 0 < i → i ≤ literal_count (method_header x.words) → is_reference os v ≡ true
      → Does os (slot_set os a i v) table roots (λ k. store_of k (ref_of os a) i (ref_of os v))
  unfolding store_of
  does-set_literal i v m l u r =
      does-edit (set_word i v) (operation.with_slot i (ref_of os v)) (set_word-IsEdit i v) refl (sound-set_literal os x i v sound_object m l r)
      (obj_of-set_literal (ref_of os) x i v (method_other os x sound_object m) m l u)

  -- bytecode i, counted from behind the literals
  pub does-set_code : (i b : ℕ) → is_code x.format ≡ true → b < 256
      → Does os (byte_set os a (4 * (1 + literal_count (method_header x.words)) + i) b) table roots (λ k. store_byte_of k (ref_of os a) i b)
  unfolding store_byte_of
  does-set_code i b m f =
      let n : ℕ = 4 * (1 + literal_count (method_header x.words)) + i in
      let v : ℕ = heap.with_byte_in (slice_index x.words (n / 4)) (n % 4) b in
      let done = does-edit (set_word (n / 4) v) (operation.with_byte i b) (set_word-IsEdit (n / 4) v) refl (sound-set_code os x (n / 4) v sound_object m (omega arith))
      (obj_of-set_code (ref_of os) x i b (method_other os x sound_object m) m f) in
      subst (λ (w : ℕ). Does os (slot_set os a (n / 4) (heap.with_byte_in w (n % 4) b)) table roots (λ k. edit_object k (ref_of os a) (operation.with_byte i b))) (sym (slot_is (n / 4))) done

  -- ---- raw bytes

  pub does-set_byte : (i b : ℕ) → is_heap_context x ≡ false → is_pointers x.format ≡ false → is_code x.format ≡ false → b < 256
      → Does os (byte_set os a i b) table roots (λ k. store_byte_of k (ref_of os a) i b)
  unfolding store_byte_of
  does-set_byte i b other p m f =
      let v : ℕ = heap.with_byte_in (slice_index x.words (i / 4)) (i % 4) b in
      let done = does-edit (set_word (i / 4) v) (operation.with_byte i b) (set_word-IsEdit (i / 4) v) refl (sound-set_bytes os x (i / 4) v sound_object other p m)
      (obj_of-set_byte (ref_of os) x i b other p m f) in
      subst (λ (w : ℕ). Does os (slot_set os a (i / 4) (heap.with_byte_in w (i % 4) b)) table roots (λ k. edit_object k (ref_of os a) (operation.with_byte i b))) (sym (slot_is (i / 4))) done

  -- ---- hashes

  -- a class of the table keeps its index as its hash
  pub does-set_hash : (hash : ℕ) → HashFits table a hash → Does os (hash_set os a hash) table roots (λ k. edit_object k (ref_of os a) (operation.with_hash hash))
  does-set_hash hash fits =
      does-edit_by (λ (y : Object). record y { hash = hash }) (operation.with_hash hash)
      (record { slots = λ (y : Object). refl; birth = λ (y : Object). refl; class = λ (y : Object). refl; format = λ (y : Object). refl })
      fits (sound-hash os x hash sound_object) (obj_of-hash (ref_of os) x hash)

  -- an object that has no hash yet may take any
  pub does-first_hash : (hash : ℕ) → x.hash ≡ 0 → Does os (hash_set os a hash) table roots (λ k. edit_object k (ref_of os a) (operation.with_hash hash))
  does-first_hash hash none = does-set_hash hash (λ index e three. absurd (no_entry os table roots a x h.whole h.there none index e))

  -- ---- read-only objects

  pub does-set_fixed : (on : Bool) → is_heap_context x ≡ false → Does os (fixed_set os a on) table roots (λ k. set_fixed_of k (ref_of os a) on)
  unfolding set_fixed_of
  does-set_fixed on other =
      does-edit (λ (y : Object). record y { flags = with_immutable on y.flags }) (operation.with_fixed on)
      (record { slots = λ (y : Object). refl; birth = λ (y : Object). refl; class = λ (y : Object). refl; format = λ (y : Object). refl })
      refl (sound-fixed os x on sound_object other) (obj_of-fixed (ref_of os) x on other)

  -- ---- contexts

  module _ (c : is_heap_context x ≡ true) where
    fields : 6 ≤ length x.words
    fields = (whole_context os x sound_object c).fields

    context_edit : (i v : ℕ) (g : Context → Context) → IsContextWrite os x i v → context_of (ref_of os) x.hash (set x.words i v) ≡ g (context_of (ref_of os) x.hash x.words)
        → Does os (slot_set os a i v) table roots (λ k. edit_object k (ref_of os a) (edit_context g))
    context_edit i v g write means =
        does-edit (set_word i v) (edit_context g) (set_word-IsEdit i v) refl (sound-set_context os x i v sound_object c write) (obj_of-edit_context (ref_of os) x (set_word i v x) g c c means)

    -- the receiver, or a value behind the fields
    plain : (i v : ℕ) → 5 ≤ i → is_reference os v ≡ true → IsContextWrite os x i v
    plain i v l r = record {
      reference = λ some. r;
      sender = λ e. absurd (omega (arith, e, l));
      pc = λ e. absurd (omega (arith, e, l));
      stackp = λ e. absurd (omega (arith, e, l));
      depth = λ e. absurd (omega (arith, e, l));
      method = λ e. absurd (omega (arith, e, l));
      closure = λ e. absurd (omega (arith, e, l));
    }

    -- nil, a context, or no address
    pub does-set_sender : (v : ℕ) → is_sender os v ≡ true → Does os (slot_set os a 0 v) table roots (λ k. edit_object k (ref_of os a) (edit_context (λ d. record d { sender = ref_of os v })))
    does-set_sender v r =
        context_edit 0 v (λ d. record d { sender = ref_of os v }) (record {
          reference = λ e. absurd (omega (arith, e));
          sender = λ e. r;
          pc = λ e. absurd (omega (arith, e));
          stackp = λ e. absurd (omega (arith, e));
          depth = λ e. absurd (omega (arith, e));
          method = λ e. absurd (omega (arith, e));
          closure = λ e. absurd (omega (arith, e));
        }) (context_of-sender (ref_of os) x.hash x.words v fields)

    -- nil, or a SmallInteger that isn't negative
    pub does-set_pc : (v : ℕ) → is_reference os v ≡ true → IsTrue (v == nil_word os || is_some (natural_of_word v)) → Does os (slot_set os a 1 v) table roots (λ k. edit_object k (ref_of os a) (edit_context (with_pc (natural_of_word v))))
    does-set_pc v r h =
        context_edit 1 v (with_pc (natural_of_word v)) (record {
          reference = λ some. r;
          sender = λ e. absurd (omega (arith, e));
          pc = λ e. h;
          stackp = λ e. absurd (omega (arith, e));
          depth = λ e. absurd (omega (arith, e));
          method = λ e. absurd (omega (arith, e));
          closure = λ e. absurd (omega (arith, e));
        }) (context_of-pc (ref_of os) x.hash x.words v fields)

    -- nil or a method
    pub does-set_method : (v : ℕ) → is_reference os v ≡ true → is_nil_or_method os v ≡ true → Does os (slot_set os a 3 v) table roots (λ k. edit_object k (ref_of os a) (edit_context (λ d. record d { method = ref_of os v })))
    does-set_method v r h =
        context_edit 3 v (λ d. record d { method = ref_of os v }) (record {
          reference = λ some. r;
          sender = λ e. absurd (omega (arith, e));
          pc = λ e. absurd (omega (arith, e));
          stackp = λ e. absurd (omega (arith, e));
          depth = λ e. absurd (omega (arith, e));
          method = λ e. h;
          closure = λ e. absurd (omega (arith, e));
        }) (context_of-method (ref_of os) x.hash x.words v fields)

    -- nil or a closure
    pub does-set_closure : (v : ℕ) → is_reference os v ≡ true → is_nil_or_closure os v ≡ true → Does os (slot_set os a 4 v) table roots (λ k. edit_object k (ref_of os a) (edit_context (λ d. record d { closure = ref_of os v })))
    does-set_closure v r h =
        context_edit 4 v (λ d. record d { closure = ref_of os v }) (record {
          reference = λ some. r;
          sender = λ e. absurd (omega (arith, e));
          pc = λ e. absurd (omega (arith, e));
          stackp = λ e. absurd (omega (arith, e));
          depth = λ e. absurd (omega (arith, e));
          method = λ e. absurd (omega (arith, e));
          closure = λ e. h;
        }) (context_of-closure (ref_of os) x.hash x.words v fields)

    pub does-set_receiver : (v : ℕ) → is_reference os v ≡ true → Does os (slot_set os a 5 v) table roots (λ k. edit_object k (ref_of os a) (edit_context (λ d. record d { receiver = ref_of os v })))
    does-set_receiver v r =
        context_edit 5 v (λ d. record d { receiver = ref_of os v }) (plain 5 v (omega arith) r) (context_of-receiver (ref_of os) x.hash x.words v fields)

    -- a value of the stack, counted from the lowest; a word beyond the stack means nothing
    pub does-set_stack : (i v : ℕ) → is_reference os v ≡ true → Does os (slot_set os a (6 + i) v) table roots (λ k. edit_object k (ref_of os a) (edit_context (stored i (ref_of os v))))
    does-set_stack i v r =
        context_edit (6 + i) v (stored i (ref_of os v)) (plain (6 + i) v (omega arith) r) (context_of-stack (ref_of os) x.hash x.words i v fields)

    -- a word of stackp
    stackp_write : (y : Object) (d : ℕ) → length y.words ≡ length x.words → d ≤ length x.words - 6 → IsContextWrite os y 2 (small_word (pos d))
    stackp_write y d long l =
        let small : d < 2 ^ 30 = small_depth os x d sound_object c l in
        let count = count_of-small d small in
        record {
          reference = λ some. is_reference-small os (pos d) (small_natural d small);
          sender = λ e. absurd (omega (arith, e));
          pc = λ e. absurd (omega (arith, e));
          stackp = λ e. or_right (small_word (pos d) == nil_word os) (is_some (natural_of_word (small_word (pos d)))) (ap is_some count);
          depth = λ e. omega (arith, ap (λ (o : Option ℕ). unwrap_or o 0) count, l, long);
          method = λ e. absurd (omega (arith, e));
          closure = λ e. absurd (omega (arith, e));
        }

    -- the n topmost values leave the stack
    pub does-pop : (n : ℕ) → Does os (slot_set os a 2 (small_word (pos (depth_in x.words - n)))) table roots (λ k. edit_object k (ref_of os a) (edit_context (popped n)))
    does-pop n =
        let whole = whole_context os x sound_object c in
        let d : ℕ = depth_in x.words - n in
        let l : d ≤ length x.words - 6 = omega (arith, whole.depth) in
        let deep = depth_is (ref_of os) x.hash x.words whole.depth in
        let old : Context = context_of (ref_of os) x.hash x.words in
        context_edit 2 (small_word (pos d)) (popped n) (stackp_write x d refl l)
        (context_of-lower (ref_of os) x.hash x.words (small_word (pos d)) d fields (count_of-small d (small_depth os x d sound_object c l)) (omega (arith, deep))
        ∙ ap (λ (m : ℕ). with_stack (take (m - n) old.stack) old) (sym deep))

    -- the stack is so deep: what stands in its words
    pub does-set_stackp : (d : ℕ) → d ≤ length x.words - 6
        → Does os (slot_set os a 2 (small_word (pos d))) table roots (λ k. edit_object k (ref_of os a) (edit_context (with_stack (map (ref_of os) (take d (drop 6 x.words))))))
    does-set_stackp d l =
        context_edit 2 (small_word (pos d)) (with_stack (map (ref_of os) (take d (drop 6 x.words)))) (stackp_write x d refl l)
        (context_of-stackp (ref_of os) x.hash x.words (small_word (pos d)) fields
        ∙ ap (λ (o : Option ℕ). with_stack (map (ref_of os) (take (unwrap_or o 0) (drop 6 x.words))) (context_of (ref_of os) x.hash x.words)) (count_of-small d (small_depth os x d sound_object c l)))

    -- a value is pushed: first it, and then stackp
    pub does-push : (v : ℕ) → depth_in x.words < length x.words - 6 → is_reference os v ≡ true
        → Does os (slot_set (slot_set os a (6 + depth_in x.words) v) a 2 (small_word (pos (depth_in x.words + 1)))) table roots (λ k. edit_object k (ref_of os a) (edit_context (pushed (ref_of os v))))
    does-push v room r =
        let d : ℕ = depth_in x.words in
        let w : ℕ = small_word (pos (d + 1)) in
        let first : Object = set_word (6 + d) v x in
        let l : d + 1 ≤ length x.words - 6 = omega (arith, room) in
        let first_sound = sound-set_context os x (6 + d) v sound_object c (plain (6 + d) v (omega arith) r) in
        let both : Object → Object = λ (y : Object). set_word 2 w (set_word (6 + d) v y) in
        let done = does-edit both (edit_context (pushed (ref_of os v)))
        (record { slots = λ (y : Object). length-set (set y.words (6 + d) v) 2 w ∙ length-set y.words (6 + d) v; birth = λ (y : Object). refl; class = λ (y : Object). refl; format = λ (y : Object). refl })
        refl (sound-set_context os first 2 w first_sound c (stackp_write first (d + 1) (length-set x.words (6 + d) v) l))
        (obj_of-edit_context (ref_of os) x (both x) (pushed (ref_of os v)) c c
        (context_of-push (ref_of os) x.hash x.words v w fields room (count_of-small (d + 1) (small_depth os x (d + 1) sound_object c l)))) in
        subst (λ (us : List Object). Does os us table roots (λ k. edit_object k (ref_of os a) (edit_context (pushed (ref_of os v)))))
        (sym (with_object-twice os a (set_word (6 + d) v) (set_word 2 w) (set_word-IsEdit (6 + d) v))) done
