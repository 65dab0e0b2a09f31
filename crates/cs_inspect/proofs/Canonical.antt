-- What is compared by addresses is what the model compares.
use Rattle.std.proofs.Common.{◌≡◌, ℕ, ◌+◌, Bool, true, false, not, refl, sym, ap, ap₂, ◌∙◌, cond, Option, Some, None, List, [], ◌∷◌, map, take, drop, filter_map, option_map}
use Rattle.std.specs.Prelude.{nat_eq, nat_lt, slice_index, ◌==◌, ◌&&◌, ◌||◌, if◌then◌else◌}
use Rattle.std.specs.List.{AllPass, cons_option, position_or_len}
use Rattle.std.specs.Ordering.{nat_cmp}
use Rattle.std.specs.FinMap.{FinMap, entries, get}
use Rattle.std.proofs.lemmas.Bool.{eq-eqb, eqb-true, false≢true, ne_eqb, or_right}
use Rattle.std.proofs.lemmas.List.{length-map}
use Rattle.cs_word.specs.declared.Kind.{Kind}
use Rattle.cs_word.specs.declared.Kind.TheVariants as kind
use Rattle.cs_word.specs.Word.{kind_of}
use Rattle.cs_heap.specs.Object.{Object, birth_at, class_at, is_object}
use Rattle.cs_model.specs.Canon.{canon, canon_by, canon_context, difference, canon_number, canon_object, ref_in}
use Rattle.cs_model.specs.Obj.{Ptr, Method, Ctx}
use Rattle.cs_model.specs.Ref.{Ref}
use Rattle.cs_model.specs.Ref as ref
use Rattle.cs_model.specs.State.{Kept, object_at as kept_at}
use Rattle.cs_classes.specs.declared.Roots.{Roots}
use Rattle.cs_classes.specs.Meaning.{classes_of, code_in, context_of, depth_in, method_header, head_of, kept_of, literal_words, obj_of, ref_of, ref_of_kind, used_bytes}
use Rattle.cs_classes.specs.Sound.{AreSoundObjects, IsWhole, is_reference, is_reference_kind, is_sender, is_sender_kind, nil_word}
use Rattle.cs_classes.proofs.Objects.{get-objects_of}
use Rattle.cs_classes.proofs.Refs.{same_births}
use Rattle.cs_classes.proofs.Sorts.{AContext, AMethod, Bytes, Pointers, Sort, obj_of-alike, obj_of-bytes, obj_of-context, obj_of-method, obj_of-pointers, sort_of}
use Rattle.cs_classes.proofs.Sounds.{whole_context}
use Rattle.cs_classes.proofs.Wholes.{get-classes_of}
use Rattle.cs_inspect.specs.Comparing.{address_number, class_numbers, difference_from, place_number, numbered_word, numbered_kind, numbered_object, numbered_objects, same_class_numbers}
use Rattle.cs_inspect.specs.Numbering.{IsNumbering}
use Rattle.cs_inspect.specs.Reading.{names_object}
use Rattle.cs_inspect.proofs.Meanings.{named_reference}
use Rattle.cs_inspect.proofs.Reaching.{head_of_all, tail_of_all}
use Rattle.cs_inspect.proofs.Reading.{There, there}
use Rattle.cs_inspect.proofs.Sides.{valued_alike}

-- ---- numbers

same_test : (os : List Object) (a k : ℕ) → AreSoundObjects os → is_object os a ≡ true → is_object os k ≡ true → (birth_at os k == birth_at os a) ≡ nat_eq a k
same_test os a k sound h i = go (nat_eq a k) refl
  where
    go : (b : Bool) → nat_eq a k ≡ b → (birth_at os k == birth_at os a) ≡ nat_eq a k
    go true e = eq-eqb (birth_at os k) (birth_at os a) (ap (birth_at os) (sym (eqb-true a k e))) ∙ sym e
    go false e = ne_eqb (birth_at os k) (birth_at os a) (λ same. false≢true (sym e ∙ eq-eqb a k (same_births os a k sound h i (sym same)))) ∙ sym e

same_prefix : (os : List Object) (a : ℕ) (keys : List ℕ) → AreSoundObjects os → is_object os a ≡ true → AllPass (is_object os) keys
    → position_or_len (λ i. i == birth_at os a) (map (birth_at os) keys) ≡ position_or_len (nat_eq a) keys
same_prefix os a [] sound h all = refl
same_prefix os a (k ∷ keys) sound h all =
    ap₂ (λ (b : Bool) (n : ℕ). if not b then 1 + n else 0) (same_test os a k sound h (head_of_all (λ (w : ℕ). is_object os w ≡ true) k keys all))
    (same_prefix os a keys sound h (tail_of_all (λ (w : ℕ). is_object os w ≡ true) k keys all))

-- the number of an object in the model's order
number_is : (os : List Object) (a : ℕ) (keys : List ℕ) → AreSoundObjects os → is_object os a ≡ true → AllPass (is_object os) keys
    → canon_number (map (birth_at os) keys) (birth_at os a) ≡ address_number keys a
number_is os a keys sound h all =
    ap₂ (λ (n m : ℕ). place_number (cond (nat_lt n m) (Some n) None)) (same_prefix os a keys sound h all) (length-map keys (birth_at os))

-- what a word refers to
numbered_is : (os : List Object) (keys : List ℕ) (w : ℕ) → AreSoundObjects os → AllPass (is_object os) keys → names_object os w ≡ true → ref_in (map (birth_at os) keys) (ref_of os w) ≡ numbered_word keys w
unfolding ref_of is_reference is_sender numbered_word
numbered_is os keys w sound all n = at (kind_of w) n
  where
    either : (x y : Bool) → (x || (x && y)) ≡ true → x ≡ true
    either true y g = refl
    either false y g = g

    at : (p : Kind) → (is_reference_kind os p || is_sender_kind os p) ≡ true → ref_in (map (birth_at os) keys) (ref_of_kind os p) ≡ numbered_kind keys p
    at (kind.Small z) g = refl
    at (kind.Character c) g = refl
    at (kind.Link v) g = refl
    at (kind.Object b) g = ap ref.Obj (number_is os b keys sound (either (is_object os b) (b == nil_word os || class_at os b == 36) g) all)

-- ---- objects

map_map : (f : Ref → Ref) (g : ℕ → Ref) (ws : List ℕ) → map f (map g ws) ≡ map (λ w. f (g w)) ws
map_map f g [] = refl
map_map f g (w ∷ ws) = ap (λ (rs : List Ref). f (g w) ∷ rs) (map_map f g ws)

context_in-of : (order : List ℕ) (refer : ℕ → Ref) (hash : ℕ) (ws : List ℕ) → canon_context order (context_of refer hash ws) ≡ context_of (λ w. ref_in order (refer w)) hash ws
unfolding context_of
context_in-of order refer hash ws = λ i. record (context_of (λ w. ref_in order (refer w)) hash ws) { stack = map_map (ref_in order) refer (take (depth_in ws) (drop 6 ws)) i }

object_in-of : (order : List ℕ) (refer : ℕ → Ref) (x : Object) → canon_object order (obj_of refer x) ≡ obj_of (λ w. ref_in order (refer w)) x
object_in-of order refer x = go (sort_of x)
  where
    go : Sort x → canon_object order (obj_of refer x) ≡ obj_of (λ w. ref_in order (refer w)) x
    go (AContext c) = ap (canon_object order) (obj_of-context refer x c) ∙ ap Ctx (context_in-of order refer x.hash x.words) ∙ sym (obj_of-context (λ w. ref_in order (refer w)) x c)
    go (Pointers o p) = ap (canon_object order) (obj_of-pointers refer x o p) ∙ ap (Ptr (head_of x)) (map_map (ref_in order) refer x.words) ∙ sym (obj_of-pointers (λ w. ref_in order (refer w)) x o p)
    go (AMethod o p m) =
        ap (canon_object order) (obj_of-method refer x o p m)
        ∙ ap (λ (ls : List Ref). Method (head_of x) (method_header x.words) ls (used_bytes x.format (code_in x.words))) (map_map (ref_in order) refer (literal_words x.words))
        ∙ sym (obj_of-method (λ w. ref_in order (refer w)) x o p m)
    go (Bytes o p m) = ap (canon_object order) (obj_of-bytes refer x o p m) ∙ sym (obj_of-bytes (λ w. ref_in order (refer w)) x o p m)

object_is : (os : List Object) (keys : List ℕ) (a : ℕ) (t : There os a) → AreSoundObjects os → AllPass (is_object os) keys → canon_object (map (birth_at os) keys) (obj_of (ref_of os) t.x) ≡ obj_of (numbered_word keys) t.x
object_is os keys a t sound all =
    object_in-of (map (birth_at os) keys) (ref_of os) t.x
    ∙ obj_of-alike (is_reference os) (λ w. ref_in (map (birth_at os) keys) (ref_of os w)) (numbered_word keys) (λ w r. numbered_is os keys w sound all (named_reference os w r)) t.x t.sound.references
    (λ c. let w = whole_context os t.x t.sound c in (w.format, (w.fields, numbered_is os keys (slice_index t.x.words 0) sound all (named_sender (slice_index t.x.words 0) w.sender))))
  where
    named_sender : (w : ℕ) → is_sender os w ≡ true → names_object os w ≡ true
    named_sender w h = or_right (is_reference os w) (is_sender os w) h

module _ (os : List Object) (table : FinMap nat_cmp ℕ) (roots : Roots) (whole : IsWhole os table roots) (keys : List ℕ) (all : AllPass (is_object os) keys) where
  abbrev K : Kept
  K = kept_of os table roots None

  abbrev order : List ℕ
  order = map (birth_at os) keys

  one_object : (a : ℕ) → is_object os a ≡ true → option_map (canon_object order) (kept_at K (birth_at os a)) ≡ numbered_object keys os a
  one_object a h =
      let t = there os a whole.heap h in
      ap (option_map (canon_object order)) (get-objects_of os a whole.heap h)
      ∙ ap (λ (o : Option Object). option_map (canon_object order) (option_map (obj_of (ref_of os)) o)) t.at
      ∙ ap Some (object_is os keys a t whole.heap all)
      ∙ sym (ap (option_map (obj_of (numbered_word keys))) t.at)

  objects_are : (ks : List ℕ) → AllPass (is_object os) ks
      → filter_map (λ birth. option_map (canon_object order) (kept_at K birth)) (map (birth_at os) ks) ≡ filter_map (numbered_object keys os) ks
  objects_are [] h = refl
  objects_are (k ∷ ks) h =
      ap₂ cons_option (one_object k (head_of_all (λ (w : ℕ). is_object os w ≡ true) k ks h)) (objects_are ks (tail_of_all (λ (w : ℕ). is_object os w ≡ true) k ks h))

  classes_are : map (λ e. (e.0, canon_number order e.1)) (entries (classes_of os table)) ≡ class_numbers keys table
  classes_are = valued_alike (canon_number order) (address_number keys) (classes_of os table) table (λ q. ap (option_map (canon_number order)) (get-classes_of os table q) ∙ at q (get table q) refl)
    where
      at : (q : ℕ) (o : Option ℕ) → get table q ≡ o → option_map (canon_number order) (option_map (birth_at os) o) ≡ option_map (address_number keys) o
      at q None e = refl
      at q (Some a) e = ap Some (number_is os a keys whole.heap (whole.classes q a e) all)

  canon_is : canon_by order K ≡ record { last_hash = roots.last_hash; special = address_number keys roots.special.0; classes = class_numbers keys table; objects = numbered_objects keys os }
  canon_is = λ i. record {
    last_hash = roots.last_hash;
    special = number_is os roots.special.0 keys whole.heap whole.special all i;
    classes = classes_are i;
    objects = objects_are keys all i;
  }

pub differs : (osa : List Object) (ta : FinMap nat_cmp ℕ) (ra : Roots) (ka : List ℕ) (osb : List Object) (tb : FinMap nat_cmp ℕ) (rb : Roots) (kb : List ℕ) → IsWhole osa ta ra → IsWhole osb tb rb
    → IsNumbering osa (kept_of osa ta ra None) ka → IsNumbering osb (kept_of osb tb rb None) kb
    → difference_from (ra.last_hash == rb.last_hash && address_number ka ra.special.0 == address_number kb rb.special.0 && same_class_numbers (class_numbers ka ta) (class_numbers kb tb)) (numbered_objects ka osa) (numbered_objects kb osb)
    ≡ difference (canon (kept_of osa ta ra None)) (canon (kept_of osb tb rb None))
unfolding canon difference
differs osa ta ra ka osb tb rb kb wa wb na nb =
    sym (ap₂ difference
    (ap (λ (order : List ℕ). canon_by order (kept_of osa ta ra None)) (sym na.births) ∙ canon_is osa ta ra wa ka na.objects_are)
    (ap (λ (order : List ℕ). canon_by order (kept_of osb tb rb None)) (sym nb.births) ∙ canon_is osb tb rb wb kb nb.objects_are))
