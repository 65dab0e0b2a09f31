-- The order in which the objects of a heap are numbered is the model's.
use Rattle.std.proofs.Common.{◌≡◌, ℕ, suc, ◌+◌, ◌-◌, ◌<◌, ◌≤◌, Bool, true, false, refl, sym, ap, ap₂, subst, ◌∙◌, arith, Option, Some, None, List, [], ◌∷◌, ◌++◌, length, take, drop, get_or, Result, Ok, Err, OnOk}
use Rattle.std.specs.Prelude.{nat_eq, slice_get, slice_index, unwrap_or, ◌==◌, ◌&&◌, if◌then◌else◌}
use Rattle.std.specs.Option.{option_map_or}
use Rattle.std.specs.List.{All, AllPass, list_any, IsDistinct}
use Rattle.std.proofs.Math.Seq.{take-suc}
use Rattle.std.proofs.lemmas.List.{get_or-drop, length-drop, take_all}
use Rattle.std.proofs.lemmas.List.Elements.{All-append}
use Rattle.std.specs.Cmp.{nat_eq_equiv}
use Rattle.std.proofs.lemmas.Map.Keys.{IsDistinct-push}
use Rattle.std.proofs.lemmas.List.Sums.{fold-append}
use Rattle.std.proofs.lemmas.Option.{slice_get_within, get_or_from_slice_get}
use Rattle.cs_word.specs.Word.{natural_of_word}
use Rattle.cs_heap.specs.Format.{is_code, is_pointers}
use Rattle.cs_heap.specs.Object.{Object, class_at, format_at, is_object, slot_count_of, slot_of, words_at}
use Rattle.cs_model.specs.Obj.{literal_count}
use Rattle.cs_classes.specs.Meaning.{depth_in, method_header, is_heap_context, literal_words}
use Rattle.cs_classes.specs.Sound.{AreSoundObjects}
use Rattle.cs_classes.proofs.Sorts.{not_pointers}
use Rattle.indexmap.specs.IndexSet.{insert_key}
use Rattle.cs_inspect.specs.Numbering.{all_reached, leading_from, leading_words, reached, turn, turns}
use Rattle.cs_inspect.proofs.Meanings.{method_there}
use Rattle.cs_inspect.proofs.Reading.{There, length-words_at, there, word_is}
use Rattle.cs_inspect.proofs.Texts.{none_taken}

-- ---- one word after another

-- what a result is, by another name
pub ok_is : {T E X : Type 0} (r : Result T E) (new a b : X) → OnOk r (new ≡ a) → a ≡ b → OnOk r (new ≡ b)
ok_is (Ok x) new a b h e = h ∙ e
ok_is (Err x) new a b h e = tt

-- one more word of an object
pub more_words : (os : List Object) (a from i w : ℕ) → from ≤ i → i < slot_count_of os a → w ≡ slot_of os a i
    → take (i - from) (drop from (words_at os a)) ++ w ∷ [] ≡ take (i + 1 - from) (drop from (words_at os a))
more_words os a from i w begun within is =
    let ws : List ℕ = drop from (words_at os a) in
    let n : ℕ = i - from in
    let less : n < length ws = omega (arith, begun, within, length-words_at os a, length-drop from (words_at os a)) in
    let at : from + n ≡ i = omega (arith, begun) in
    let word : get_or ws n 0 ≡ w = get_or-drop from (words_at os a) n 0 ∙ ap (λ k. get_or (words_at os a) k 0) at ∙ word_is os a i ∙ sym is in
    let next : i + 1 - from ≡ suc n = omega (arith, begun) in
    ap (λ v. take n ws ++ v ∷ []) (sym word) ∙ sym (take-suc ws n 0 less) ∙ sym (ap (λ k. take k ws) next)

pub slot_reached : (os : List Object) (a from i w : ℕ) (old keys new : List ℕ) → from ≤ i → i < slot_count_of os a → w ≡ slot_of os a i
    → keys ≡ all_reached os old (take (i - from) (drop from (words_at os a))) → new ≡ reached os keys w
    → new ≡ all_reached os old (take (i + 1 - from) (drop from (words_at os a)))
slot_reached os a from i w old keys new begun within is before now =
    now ∙ ap (λ (ks : List ℕ). reached os ks w) before
    ∙ sym (fold-append (reached os) old (take (i - from) (drop from (words_at os a))) (w ∷ []))
    ∙ ap (all_reached os old) (more_words os a from i w begun within is)

pub none_reached : (os : List Object) (n : ℕ) (ws old : List ℕ) → old ≡ all_reached os old (take (n - n) ws)
none_reached os n ws old = sym (ap (all_reached os old) (none_taken n ws))

-- ---- what an object leads to, by its kind

pub words_there : (os : List Object) (a : ℕ) (t : There os a) → words_at os a ≡ t.x.words
words_there os a t = ap (λ (o : Option Object). option_map_or (λ (y : Object). y.words) o []) t.at

pub leading_there : (os : List Object) (a : ℕ) (t : There os a) → leading_from os a ≡ leading_words t.x
leading_there os a t = ap (λ (o : Option Object). option_map_or leading_words o []) t.at

pub words-context : (x : Object) → is_heap_context x ≡ true → leading_words x ≡ slice_index x.words 0 ∷ slice_index x.words 4 ∷ slice_index x.words 5 ∷ take (depth_in x.words) (drop 6 x.words)
words-context x c = rw c refl

pub words-pointers : (x : Object) → is_heap_context x ≡ false → is_pointers x.format ≡ true → leading_words x ≡ x.words
words-pointers x c p = rw (c, p) refl

pub words-method : (x : Object) → is_heap_context x ≡ false → is_pointers x.format ≡ false → is_code x.format ≡ true → leading_words x ≡ literal_words x.words
words-method x c p m = rw (c, p, m) refl

pub words-bytes : (x : Object) → is_heap_context x ≡ false → is_pointers x.format ≡ false → is_code x.format ≡ false → leading_words x ≡ []
words-bytes x c p m = rw (c, p, m) refl

abbrev context_words : ℕ → ℕ → ℕ → ℕ → List ℕ → List ℕ
context_words s c r n ws = s ∷ c ∷ r ∷ take n (drop 6 ws)

pub leading_context : (os : List Object) (a d : ℕ) → AreSoundObjects os → is_object os a ≡ true → (class_at os a == 36) ≡ true → d ≡ depth_in (words_at os a)
    → slot_of os a 0 ∷ slot_of os a 4 ∷ slot_of os a 5 ∷ take (6 + d - 6) (drop 6 (words_at os a)) ≡ leading_from os a
leading_context os a d sound h c e =
    let t = there os a sound h in
    let context : is_heap_context t.x ≡ true = ap (λ (n : ℕ). n == 36) (sym t.class) ∙ c in
    let words = words_there os a t in
    let size : 6 + d - 6 ≡ depth_in t.x.words = omega (arith, e, ap depth_in words) in
    ap (λ (s : ℕ). context_words s (slot_of os a 4) (slot_of os a 5) (6 + d - 6) (words_at os a)) (t.slot 0)
    ∙ ap (λ (s : ℕ). context_words (slice_index t.x.words 0) s (slot_of os a 5) (6 + d - 6) (words_at os a)) (t.slot 4)
    ∙ ap (λ (s : ℕ). context_words (slice_index t.x.words 0) (slice_index t.x.words 4) s (6 + d - 6) (words_at os a)) (t.slot 5)
    ∙ ap₂ (λ (n : ℕ) (ws : List ℕ). context_words (slice_index t.x.words 0) (slice_index t.x.words 4) (slice_index t.x.words 5) n ws) size words
    ∙ sym (words-context t.x context) ∙ sym (leading_there os a t)

pub leading_pointers : (os : List Object) (a n : ℕ) → AreSoundObjects os → is_object os a ≡ true → (class_at os a == 36) ≡ false → is_pointers (format_at os a) ≡ true → n ≡ slot_count_of os a
    → take (n - 0) (drop 0 (words_at os a)) ≡ leading_from os a
leading_pointers os a n sound h c p e =
    let t = there os a sound h in
    take_all (n - 0) (words_at os a) (omega (arith, e, length-words_at os a)) ∙ words_there os a t
    ∙ sym (words-pointers t.x (ap (λ (k : ℕ). k == 36) (sym t.class) ∙ c) (ap is_pointers (sym t.format) ∙ p)) ∙ sym (leading_there os a t)

pub leading_raw : (os : List Object) (a : ℕ) → AreSoundObjects os → is_object os a ≡ true → (class_at os a == 36) ≡ false → is_pointers (format_at os a) ≡ false → is_code (format_at os a) ≡ false
    → leading_from os a ≡ []
leading_raw os a sound h c p m =
    let t = there os a sound h in
    leading_there os a t ∙ words-bytes t.x (ap (λ (k : ℕ). k == 36) (sym t.class) ∙ c) (ap is_pointers (sym t.format) ∙ p) (ap is_code (sym t.format) ∙ m)

pub leading_method : (os : List Object) (a k h : ℕ) → AreSoundObjects os → is_object os a ≡ true → is_code (format_at os a) ≡ true
    → h ≡ unwrap_or (natural_of_word (slot_of os a 0)) 0 → k ≡ literal_count h → take (1 + k - 1) (drop 1 (words_at os a)) ≡ leading_from os a
leading_method os a k h sound o m e f =
    let t = there os a sound o in
    let r = method_there os a sound o m in
    let words = words_there os a t in
    let method : is_code t.x.format ≡ true = ap is_code (sym t.format) ∙ m in
    let header : h ≡ method_header t.x.words = e ∙ ap (λ (w : ℕ). unwrap_or (natural_of_word w) 0) (t.slot 0) in
    let size : 1 + k - 1 ≡ literal_count (method_header t.x.words) = omega (arith, f, ap literal_count header) in
    ap₂ (λ (n : ℕ) (ws : List ℕ). take n (drop 1 ws)) size words
    ∙ sym (words-method t.x (ap (λ (n : ℕ). n == 36) (sym t.class) ∙ r.other) (not_pointers t.x.format method) method) ∙ sym (leading_there os a t)

pub context_reached : (os : List Object) (a d s c r : ℕ) (old k1 k2 k3 : List ℕ) → AreSoundObjects os → is_object os a ≡ true → (class_at os a == 36) ≡ true → d ≡ depth_in (words_at os a)
    → s ≡ slot_of os a 0 → c ≡ slot_of os a 4 → r ≡ slot_of os a 5 → k1 ≡ reached os old s → k2 ≡ reached os k1 c → k3 ≡ reached os k2 r
    → all_reached os k3 (take (6 + d - 6) (drop 6 (words_at os a))) ≡ all_reached os old (leading_from os a)
context_reached os a d s c r old k1 k2 k3 sound h context e is_s is_c is_r e1 e2 e3 =
    let rest : List ℕ = take (6 + d - 6) (drop 6 (words_at os a)) in
    let one : k1 ≡ reached os old (slot_of os a 0) = e1 ∙ ap (reached os old) is_s in
    let two : k2 ≡ reached os (reached os old (slot_of os a 0)) (slot_of os a 4) = e2 ∙ ap₂ (reached os) one is_c in
    let three : k3 ≡ reached os (reached os (reached os old (slot_of os a 0)) (slot_of os a 4)) (slot_of os a 5) = e3 ∙ ap₂ (reached os) two is_r in
    ap (λ (ks : List ℕ). all_reached os ks rest) three
    ∙ ap (all_reached os old) (leading_context os a d sound h context e)

pub method_slots : (os : List Object) (a k h : ℕ) → AreSoundObjects os → is_object os a ≡ true → is_code (format_at os a) ≡ true
    → h ≡ unwrap_or (natural_of_word (slot_of os a 0)) 0 → k ≡ literal_count h → 1 + k ≤ slot_count_of os a
method_slots os a k h sound o m e f =
    let r = method_there os a sound o m in
    let header : h ≡ method_header (words_at os a) = e ∙ ap (λ (w : ℕ). unwrap_or (natural_of_word w) 0) (sym (word_is os a 0)) in
    omega (arith, r.slots, f, ap literal_count header)

pub raw_reached : (os : List Object) (a : ℕ) (old : List ℕ) → AreSoundObjects os → is_object os a ≡ true → (class_at os a == 36) ≡ false → is_pointers (format_at os a) ≡ false → is_code (format_at os a) ≡ false
    → old ≡ all_reached os old (leading_from os a)
raw_reached os a old sound h c p m = sym (ap (all_reached os old) (leading_raw os a sound h c p m))

-- ---- turns

pub head_of_all : {X : Type 0} (P : X → Type 0) (x : X) (xs : List X) → All P (x ∷ xs) → P x
head_of_all P x xs all = all 0 x (omega arith)

pub tail_of_all : {X : Type 0} (P : X → Type 0) (x : X) (xs : List X) → All P (x ∷ xs) → All P xs
tail_of_all P x xs all = λ k d l. all (suc k) d (omega (arith, l))

pub one_of_all : {X : Type 0} (P : X → Type 0) (x : X) → P x → All P (x ∷ [])
one_of_all P x p = λ k d l. subst (λ (n : ℕ). P (get_or (x ∷ []) n d)) (zero_is k l) p
  where
    zero_is : (k : ℕ) → k < 1 → 0 ≡ k
    zero_is k l = omega (arith, l)

-- a queue of objects, none twice
pub record Lined (os : List Object) (keys : List ℕ) : Type 0 where
  pub objects : AllPass (is_object os) keys
  pub distinct : IsDistinct nat_eq keys

pub inserted_lined : (os : List Object) (keys : List ℕ) (w : ℕ) → is_object os w ≡ true → Lined os keys → Lined os (insert_key nat_eq keys w)
inserted_lined os keys w h lined = go (list_any (nat_eq w) keys) refl
  where
    go : (b : Bool) → list_any (nat_eq w) keys ≡ b → Lined os (if b then keys else keys ++ w ∷ [])
    go true e = lined
    go false e = record {
      objects = All-append (λ (x : ℕ). is_object os x ≡ true) keys (w ∷ []) lined.objects (one_of_all (λ (x : ℕ). is_object os x ≡ true) w h);
      distinct = IsDistinct-push nat_eq_equiv keys w lined.distinct e;
    }

pub reached_lined : (os : List Object) (keys : List ℕ) (w : ℕ) → Lined os keys → Lined os (reached os keys w)
reached_lined os keys w lined = go (is_object os w) (class_at os w == 36) refl
  where
    go : (b c : Bool) → is_object os w ≡ b → Lined os (if b && c then insert_key nat_eq keys w else keys)
    go true true e = inserted_lined os keys w e lined
    go true false e = lined
    go false c e = lined

pub all_reached_lined : (os : List Object) (keys ws : List ℕ) → Lined os keys → Lined os (all_reached os keys ws)
all_reached_lined os keys [] lined = lined
all_reached_lined os keys (w ∷ ws) lined = all_reached_lined os (reached os keys w) ws (reached_lined os keys w lined)

pub turn_lined : (os : List Object) (place : ℕ) (keys : List ℕ) → Lined os keys → Lined os (turn os place keys)
turn_lined os place keys lined = go (slice_get keys place)
  where
    go : (o : Option ℕ) → Lined os (option_map_or (λ a. all_reached os keys (leading_from os a)) o keys)
    go None = lined
    go (Some a) = all_reached_lined os keys (leading_from os a) lined

-- the object at a place
pub object_in_line : (os : List Object) (keys : List ℕ) (place a : ℕ) → AllPass (is_object os) keys → slice_get keys place ≡ Some a → is_object os a ≡ true
object_in_line os keys place a all e = subst (λ (w : ℕ). is_object os w ≡ true) (get_or_from_slice_get keys place a 0 e) (all place 0 (slice_get_within keys place a e))

pub turn_none : (os : List Object) (place : ℕ) (keys : List ℕ) → slice_get keys place ≡ None → keys ≡ turn os place keys
turn_none os place keys e = sym (ap (λ (o : Option ℕ). option_map_or (λ a. all_reached os keys (leading_from os a)) o keys) e)

pub turn_some : (os : List Object) (place a : ℕ) (keys : List ℕ) → slice_get keys place ≡ Some a → all_reached os keys (leading_from os a) ≡ turn os place keys
turn_some os place a keys e = sym (ap (λ (o : Option ℕ). option_map_or (λ b. all_reached os keys (leading_from os b)) o keys) e)

-- one turn less
pub turns_more : (os : List Object) (n place : ℕ) (keys : List ℕ) → place < n → turns (n - place) os place keys ≡ turns (n - (place + 1)) os (place + 1) (turn os place keys)
unfolding turns
turns_more os n place keys less = ap (λ (m : ℕ). turns m os place keys) one
  where
    one : n - place ≡ suc (n - (place + 1))
    one = omega (arith, less)

pub turns_none : (os : List Object) (n place : ℕ) (keys : List ℕ) → n ≤ place → turns (n - place) os place keys ≡ keys
unfolding turns
turns_none os n place keys past = ap (λ (m : ℕ). turns m os place keys) none
  where
    none : n - place ≡ 0
    none = omega (arith, past)

pub turns_begin : (os : List Object) (n : ℕ) (keys : List ℕ) → turns (n - 0) os 0 keys ≡ turns n os 0 keys
turns_begin os n keys = ap (λ (m : ℕ). turns m os 0 keys) whole
  where
    whole : n - 0 ≡ n
    whole = omega arith

pub stack_reached : (os : List Object) (keys ws : List ℕ) (d e : ℕ) → e ≡ d → all_reached os keys (take (6 + e - 6) (drop 6 ws)) ≡ all_reached os keys (take d (drop 6 ws))
stack_reached os keys ws d e same = ap (λ (n : ℕ). all_reached os keys (take n (drop 6 ws))) whole
  where
    whole : 6 + e - 6 ≡ d
    whole = omega (arith, same)
