-- The numbered objects are those of the model, in its order.
use Rattle.std.proofs.Common.{◌≡◌, ℕ, zero, suc, ◌+◌, ◌<◌, ◌≤◌, Bool, true, false, not, T, refl, sym, ap, ap₂, subst, ◌∙◌, arith, Option, Some, None, List, [], ◌∷◌, ◌++◌, length, map, take, drop, get_or, filter, filter_map, flat_map, option_map, is_some}
use Rattle.std.specs.Prelude.{nat_eq, slice_get, slice_index, unwrap_or, ◌==◌, ◌&&◌, ◌||◌, if◌then◌else◌}
use Rattle.std.specs.Option.{option_map_or}
use Rattle.std.specs.List.{All, AllByRecursion, AllPass, IsDistinct, list_any}
use Rattle.std.specs.Ordering.{is_lt, nat_cmp}
use Rattle.std.specs.Cmp.{nat_cmp_total, tied_itself}
use Rattle.std.specs.FinMap.{FinMap, entries, entries_sorted}
use Rattle.std.specs.FinMap.Entries.{below_all, is_sorted}
use Rattle.std.proofs.lemmas.Bool.{eq-eqb, eqb-true, false≢true, ne_eqb, or_right}
use Rattle.std.proofs.lemmas.List.{append_assoc, append-nil, length-append, length-map, map-append}
use Rattle.std.proofs.lemmas.List.Elements.{All-append, All-cons, All-nil, All-take, filter_map-append}
use Rattle.std.proofs.lemmas.List.Concat.{flat_map-cons}
use Rattle.std.proofs.lemmas.List.Folds.{list_any-append}
use Rattle.std.proofs.lemmas.Map.Steps.{length-le_from_distinct_below}
use Rattle.std.proofs.lemmas.List.Sums.{fold-append}
use Rattle.std.proofs.lemmas.Option.{slice_get-map}
use Rattle.cs_word.specs.declared.Kind.{Kind}
use Rattle.cs_word.specs.declared.Kind.TheVariants as kind
use Rattle.cs_word.specs.declared.Oop.{Oop}
use Rattle.cs_word.specs.Word.{kind_of}
use Rattle.cs_heap.specs.Object.{Object, birth_at, class_at, object_place, is_object, heap_object}
use Rattle.cs_heap.proofs.Laws.{index_of-below, index_of-injective}
use Rattle.cs_model.specs.Canon.{all_queued, contexts_from, leads_to, order_of, plain_births, queued, turned}
use Rattle.cs_model.specs.Obj.{Obj, Ptr, Raw, Method, Ctx, is_context_at}
use Rattle.cs_model.specs.Obj as model
use Rattle.cs_model.specs.Ref.{Ref, named_object as named_birth}
use Rattle.cs_model.specs.Ref as ref
use Rattle.cs_model.specs.State.{Kept, object_at as kept_at}
use Rattle.cs_classes.specs.declared.Roots.{Roots}
use Rattle.cs_classes.specs.Meaning.{context_of, depth_in, is_heap_context, kept_of, literal_words, meaning_at, obj_of, objects_of, ref_of, ref_of_kind}
use Rattle.cs_classes.specs.Sound.{AreSoundObjects, is_reference, is_reference_kind, is_sender, is_sender_kind, nil_word}
use Rattle.cs_classes.proofs.Objects.{get-objects_of}
use Rattle.cs_classes.proofs.Refs.{ref_of-object, same_births}
use Rattle.cs_classes.proofs.Sorts.{AContext, AMethod, Bytes, Pointers, Sort, obj_of-bytes, obj_of-context, obj_of-method, obj_of-pointers, references-method, references-pointers, sort_of}
use Rattle.cs_classes.proofs.Sounds.{whole_context}
use Rattle.indexmap.specs.IndexSet.{insert_all, insert_key}
use Rattle.cs_inspect.specs.Numbering.{IsNumbering, all_reached, is_context_address, leading_from, leading_words, plain_among, reached, turn, turns}
use Rattle.cs_inspect.specs.Reading.{IsInOrder, entry_at, names_object}
use Rattle.cs_inspect.proofs.Finding.{kind_of_address, no_object}
use Rattle.cs_inspect.proofs.Meanings.{named_reference}
use Rattle.cs_inspect.proofs.Reaching.{Lined, head_of_all, inserted_lined, leading_there, object_in_line, one_of_all, tail_of_all, turn_none, turn_some, words-bytes, words-context, words-method, words-pointers}
use Rattle.cs_inspect.proofs.Reading.{There, there}

-- ---- whether an object is a context, here and in the model

class_there : (os : List Object) (a : ℕ) (x : Object) → heap_object os a ≡ Some x → (class_at os a == 36) ≡ is_heap_context x
class_there os a x e = ap (λ (o : Option Object). option_map_or (λ (y : Object). y.class) o 0 == 36) e

object_present : (os : List Object) (a : ℕ) (x : Object) → heap_object os a ≡ Some x → is_object os a ≡ true
object_present os a x e = go (is_object os a) refl
  where
    go : (b : Bool) → is_object os a ≡ b → is_object os a ≡ true
    go true h = h
    go false h = absurd (let n = no_object os a h in cc)

context_means : (refer : ℕ → Ref) (x : Object) → is_context_at (Some (obj_of refer x)) ≡ is_heap_context x
context_means refer x = go (sort_of x)
  where
    go : Sort x → is_context_at (Some (obj_of refer x)) ≡ is_heap_context x
    go (AContext c) = ap (λ (o : Obj). is_context_at (Some o)) (obj_of-context refer x c) ∙ sym c
    go (Pointers o p) = ap (λ (o : Obj). is_context_at (Some o)) (obj_of-pointers refer x o p) ∙ sym o
    go (AMethod o p m) = ap (λ (o : Obj). is_context_at (Some o)) (obj_of-method refer x o p m) ∙ sym o
    go (Bytes o p m) = ap (λ (o : Obj). is_context_at (Some o)) (obj_of-bytes refer x o p m) ∙ sym o

context_address : (os : List Object) (a : ℕ) → is_context_at (meaning_at os a) ≡ is_context_address os a
context_address os a = go (heap_object os a) refl
  where
    go : (o : Option Object) → heap_object os a ≡ o → is_context_at (meaning_at os a) ≡ is_context_address os a
    go None e = ap (λ (o : Option Object). is_context_at (option_map (obj_of (ref_of os)) o)) e ∙ sym (nowhere (is_object os a) refl)
      where
        nowhere : (b : Bool) → is_object os a ≡ b → is_context_address os a ≡ false
        nowhere true h = ap (λ (o : Option Object). is_object os a && (option_map_or (λ (y : Object). y.class) o 0 == 36)) e ∙ ap (λ (b : Bool). b && false) h
        nowhere false h = ap (λ (b : Bool). b && (class_at os a == 36)) h
    go (Some x) e =
        ap (λ (o : Option Object). is_context_at (option_map (obj_of (ref_of os)) o)) e ∙ context_means (ref_of os) x ∙ sym (class_there os a x e)
        ∙ sym (ap (λ (b : Bool). b && (class_at os a == 36)) (object_present os a x e))

-- ---- what an object leads to

leads-context : (refer : ℕ → Ref) (x : Object)
    → leads_to (Some (Ctx (context_of refer x.hash x.words))) ≡ map refer (slice_index x.words 0 ∷ slice_index x.words 4 ∷ slice_index x.words 5 ∷ take (depth_in x.words) (drop 6 x.words))
unfolding context_of
leads-context refer x = refl

leads-obj : (refer : ℕ → Ref) (x : Object) → leads_to (Some (obj_of refer x)) ≡ map refer (leading_words x)
leads-obj refer x = go (sort_of x)
  where
    go : Sort x → leads_to (Some (obj_of refer x)) ≡ map refer (leading_words x)
    go (AContext c) = ap (λ (o : Obj). leads_to (Some o)) (obj_of-context refer x c) ∙ leads-context refer x ∙ sym (ap (map refer) (words-context x c))
    go (Pointers o p) = ap (λ (o : Obj). leads_to (Some o)) (obj_of-pointers refer x o p) ∙ sym (ap (map refer) (words-pointers x o p))
    go (AMethod o p m) = ap (λ (o : Obj). leads_to (Some o)) (obj_of-method refer x o p m) ∙ sym (ap (map refer) (words-method x o p m))
    go (Bytes o p m) = ap (λ (o : Obj). leads_to (Some o)) (obj_of-bytes refer x o p m) ∙ sym (ap (map refer) (words-bytes x o p m))

-- ---- queues

queued_append : (queue xs ys : List ℕ) → all_queued queue (xs ++ ys) ≡ all_queued (all_queued queue xs) ys
queued_append queue xs ys = fold-append queued queue xs ys

-- whether a list has an address, by the births
same_member : (os : List Object) (a : ℕ) (keys : List ℕ) → AreSoundObjects os → is_object os a ≡ true → AllPass (is_object os) keys
    → list_any (λ j. j == birth_at os a) (map (birth_at os) keys) ≡ list_any (nat_eq a) keys
same_member os a [] sound h all = refl
same_member os a (k ∷ keys) sound h all =
    ap₂ (λ (x y : Bool). x || y)
    (same_test os a k sound h (head_of_all (λ (w : ℕ). is_object os w ≡ true) k keys all))
    (same_member os a keys sound h (tail_of_all (λ (w : ℕ). is_object os w ≡ true) k keys all))
  where
    same_test : (os : List Object) (a k : ℕ) → AreSoundObjects os → is_object os a ≡ true → is_object os k ≡ true → (birth_at os k == birth_at os a) ≡ (a == k)
    same_test os a k sound h i = go (a == k) refl
      where
        go : (b : Bool) → (a == k) ≡ b → (birth_at os k == birth_at os a) ≡ (a == k)
        go true e = eq-eqb (birth_at os k) (birth_at os a) (ap (birth_at os) (sym (eqb-true a k e))) ∙ sym e
        go false e = ne_eqb (birth_at os k) (birth_at os a) (λ same. false≢true (sym e ∙ eq-eqb a k (same_births os a k sound h i (sym same)))) ∙ sym e

absent : (os : List Object) (a : ℕ) (keys : List ℕ) → is_context_address os a ≡ true → AllPass (λ k. not (is_context_address os k)) keys → list_any (nat_eq a) keys ≡ false
absent os a [] c all = refl
absent os a (k ∷ keys) c all = go (nat_eq a k) refl (absent os a keys c (tail_of_all (λ (w : ℕ). not (is_context_address os w) ≡ true) k keys all))
  where
    go : (b : Bool) → nat_eq a k ≡ b → list_any (nat_eq a) keys ≡ false → (nat_eq a k || list_any (nat_eq a) keys) ≡ false
    go true e rest =
        let here : not (is_context_address os k) ≡ true = head_of_all (λ (w : ℕ). not (is_context_address os w) ≡ true) k keys all in
        absurd (false≢true (sym (ap not (ap (is_context_address os) (sym (eqb-true a k e)) ∙ c)) ∙ here))
    go false e rest = ap (λ (b : Bool). b || list_any (nat_eq a) keys) e ∙ rest

context_is_object : (os : List Object) (a : ℕ) → is_context_address os a ≡ true → is_object os a ≡ true
context_is_object os a c = go (is_object os a) c
  where
    go : (b : Bool) → (b && (class_at os a == 36)) ≡ true → b ≡ true
    go true h = refl
    go false h = h

all_objects : (os : List Object) (keys : List ℕ) → AllPass (is_context_address os) keys → AllPass (is_object os) keys
all_objects os keys all = λ k d l. context_is_object os (get_or keys k d) (all k d l)

-- what isn't the address of an object names none
no_birth : (os : List Object) (w : ℕ) → names_object os w ≡ true → is_object os w ≡ false → filter_map named_birth (ref_of os w ∷ []) ≡ []
unfolding ref_of is_reference is_sender
no_birth os w n h = at (kind_of w) refl n
  where
    first : (x y : Bool) → (x && y) ≡ true → x ≡ true
    first true y g = refl
    first false y g = g

    at : (p : Kind) → kind_of w ≡ p → (is_reference_kind os p || is_sender_kind os p) ≡ true → filter_map named_birth (ref_of_kind os p ∷ []) ≡ []
    at (kind.Small z) e g = refl
    at (kind.Character c) e g = refl
    at (kind.Link v) e g = refl
    at (kind.Object b) e g = absurd (false≢true (sym (ap (is_object os) (sym (kind_of_address w b e)) ∙ h) ∙ either (is_object os b) (b == nil_word os || class_at os b == 36) g))
      where
        either : (x y : Bool) → (x || (x && y)) ≡ true → x ≡ true
        either true y g = refl
        either false y g = g

-- each word through which contexts are reached is a reference or a sender
leading_named : (os : List Object) (a : ℕ) → AreSoundObjects os → is_object os a ≡ true → AllPass (names_object os) (leading_from os a)
leading_named os a sound h = subst (AllPass (names_object os)) (sym (leading_there os a t)) (go (sort_of t.x))
  where
    t : There os a
    t = there os a sound h

    named : (w : ℕ) → is_reference os w ≡ true → names_object os w ≡ true
    named w r = named_reference os w r

    all_named : (ws : List ℕ) → AllPass (is_reference os) ws → AllPass (names_object os) ws
    all_named ws all = λ k d l. named (get_or ws k d) (all k d l)

    go : Sort t.x → AllPass (names_object os) (leading_words t.x)
    go (AContext c) =
        let w = whole_context os t.x t.sound c in
        subst (AllPass (names_object os)) (sym (words-context t.x c))
        (All-cons (λ (x : ℕ). names_object os x ≡ true) (slice_index t.x.words 0) (slice_index t.x.words 4 ∷ slice_index t.x.words 5 ∷ take (depth_in t.x.words) (drop 6 t.x.words)) (or_right (is_reference os (slice_index t.x.words 0)) (is_sender os (slice_index t.x.words 0)) w.sender)
        (All-cons (λ (x : ℕ). names_object os x ≡ true) (slice_index t.x.words 4) (slice_index t.x.words 5 ∷ take (depth_in t.x.words) (drop 6 t.x.words)) (named (slice_index t.x.words 4) (w.references 4 (omega arith) (omega (arith, w.fields))))
        (All-cons (λ (x : ℕ). names_object os x ≡ true) (slice_index t.x.words 5) (take (depth_in t.x.words) (drop 6 t.x.words)) (named (slice_index t.x.words 5) (w.references 5 (omega arith) (omega (arith, w.fields))))
        (All-take (λ (x : ℕ). names_object os x ≡ true) (depth_in t.x.words) (drop 6 t.x.words) (all_named (drop 6 t.x.words) w.stack)))))
    go (Pointers o p) = subst (AllPass (names_object os)) (sym (words-pointers t.x o p)) (all_named t.x.words (subst (AllPass (is_reference os)) (references-pointers t.x o p) t.sound.references))
    go (AMethod o p m) = subst (AllPass (names_object os)) (sym (words-method t.x o p m)) (all_named (literal_words t.x.words) (subst (AllPass (is_reference os)) (references-method t.x m) t.sound.references))
    go (Bytes o p m) = subst (AllPass (names_object os)) (sym (words-bytes t.x o p m)) (All-nil (λ (x : ℕ). names_object os x ≡ true))

module _ (os : List Object) (table : FinMap nat_cmp ℕ) (roots : Roots) (sound : AreSoundObjects os) where
  abbrev K : Kept
  K = kept_of os table roots None

  -- the births of the contexts among some references
  abbrev contexts_in : List Ref → List ℕ
  contexts_in refs = filter (λ i. is_context_at (kept_at K i)) (filter_map named_birth refs)

  contexts_append : (xs ys : List Ref) → contexts_in (xs ++ ys) ≡ contexts_in xs ++ contexts_in ys
  contexts_append xs ys = ap (filter (λ i. is_context_at (kept_at K i))) (filter_map-append named_birth xs ys) ∙ filter_append (λ i. is_context_at (kept_at K i)) (filter_map named_birth xs) (filter_map named_birth ys)
    where
      filter_append : (p : ℕ → Bool) (us vs : List ℕ) → filter p (us ++ vs) ≡ filter p us ++ filter p vs
      filter_append p [] vs = refl
      filter_append p (u ∷ us) vs = go (p u) (filter_append p us vs)
        where
          go : (b : Bool) → filter p (us ++ vs) ≡ filter p us ++ filter p vs → (if b then u ∷ filter p (us ++ vs) else filter p (us ++ vs)) ≡ (if b then u ∷ filter p us else filter p us) ++ filter p vs
          go true e = ap (λ (ws : List ℕ). u ∷ ws) e
          go false e = e

  leads_there : (a : ℕ) → is_object os a ≡ true → leads_to (kept_at K (birth_at os a)) ≡ map (ref_of os) (leading_from os a)
  leads_there a h =
      let t = there os a sound h in
      ap leads_to (get-objects_of os a sound h)
      ∙ ap (λ (o : Option Object). leads_to (option_map (obj_of (ref_of os)) o)) t.at
      ∙ leads-obj (ref_of os) t.x
      ∙ sym (ap (λ (o : Option Object). map (ref_of os) (option_map_or leading_words o [])) t.at)

  context_there_is : (a : ℕ) → is_object os a ≡ true → is_context_at (kept_at K (birth_at os a)) ≡ is_context_address os a
  context_there_is a h = ap is_context_at (get-objects_of os a sound h) ∙ context_address os a

  -- the addresses are the plain ones and behind them a queue of contexts, which is the model's
  module _ (plain : List ℕ) (others : AllPass (λ k. not (is_context_address os k)) plain) where
    record Stands (keys queue : List ℕ) : Type 0 where
      line : List ℕ
      keys_are : keys ≡ plain ++ line
      births : map (birth_at os) line ≡ queue
      contexts : AllPass (is_context_address os) line

    one_inserted : (a : ℕ) (keys queue : List ℕ) → is_context_address os a ≡ true → Stands keys queue → Stands (insert_key nat_eq keys a) (queued queue (birth_at os a))
    one_inserted a keys queue c s = go (list_any (nat_eq a) s.line) refl
      where
        h : is_object os a ≡ true
        h = context_is_object os a c

        here : list_any (nat_eq a) keys ≡ list_any (nat_eq a) s.line
        here = ap (list_any (nat_eq a)) s.keys_are ∙ list_any-append (nat_eq a) plain s.line ∙ ap (λ (b : Bool). b || list_any (nat_eq a) s.line) (absent os a plain c others)

        model_here : list_any (λ j. j == birth_at os a) queue ≡ list_any (nat_eq a) s.line
        model_here = ap (list_any (λ j. j == birth_at os a)) (sym s.births) ∙ same_member os a s.line sound h (all_objects os s.line s.contexts)

        go : (b : Bool) → list_any (nat_eq a) s.line ≡ b → Stands (insert_key nat_eq keys a) (queued queue (birth_at os a))
        go true e =
            subst (λ (ks : List ℕ). Stands ks (queued queue (birth_at os a))) (sym (ap (λ (b : Bool). if b then keys else keys ++ a ∷ []) (here ∙ e)))
            (subst (λ (qs : List ℕ). Stands keys qs) (sym (ap (λ (b : Bool). if b then queue else queue ++ birth_at os a ∷ []) (model_here ∙ e))) s)
        go false e =
            subst (λ (ks : List ℕ). Stands ks (queued queue (birth_at os a))) (sym (ap (λ (b : Bool). if b then keys else keys ++ a ∷ []) (here ∙ e)))
            (subst (λ (qs : List ℕ). Stands (keys ++ a ∷ []) qs) (sym (ap (λ (b : Bool). if b then queue else queue ++ birth_at os a ∷ []) (model_here ∙ e)))
            (record {
              line = s.line ++ a ∷ [];
              keys_are = ap (λ (ks : List ℕ). ks ++ a ∷ []) s.keys_are ∙ append_assoc plain s.line (a ∷ []);
              births = map-append (birth_at os) s.line (a ∷ []) ∙ ap (λ (bs : List ℕ). bs ++ birth_at os a ∷ []) s.births;
              contexts = All-append (λ (w : ℕ). is_context_address os w ≡ true) s.line (a ∷ []) s.contexts (one_of_all (λ (w : ℕ). is_context_address os w ≡ true) a c);
            }))

    -- one word
    one_reached : (w : ℕ) (keys queue : List ℕ) → names_object os w ≡ true → Stands keys queue → Stands (reached os keys w) (all_queued queue (contexts_in (ref_of os w ∷ [])))
    one_reached w keys queue n s = go (is_object os w) refl
      where
        go : (b : Bool) → is_object os w ≡ b → Stands (reached os keys w) (all_queued queue (contexts_in (ref_of os w ∷ [])))
        go false h =
            subst (λ (ks : List ℕ). Stands ks (all_queued queue (contexts_in (ref_of os w ∷ [])))) (sym (ap (λ (b : Bool). if b && (class_at os w == 36) then insert_key nat_eq keys w else keys) h))
            (subst (λ (bs : List ℕ). Stands keys (all_queued queue (filter (λ i. is_context_at (kept_at K i)) bs))) (sym (no_birth os w n h)) s)
        go true h = subst (λ (r : Ref). Stands (reached os keys w) (all_queued queue (contexts_in (r ∷ [])))) (sym (ref_of-object os w h)) (tested (is_context_address os w) refl)
          where
            tested : (c : Bool) → is_context_address os w ≡ c → Stands (reached os keys w) (all_queued queue (contexts_in (ref.Obj (birth_at os w) ∷ [])))
            tested true e =
                subst (λ (b : Bool). Stands (reached os keys w) (all_queued queue (if b then birth_at os w ∷ [] else []))) (sym (context_there_is w h ∙ e))
                (subst (λ (b : Bool). Stands (if b then insert_key nat_eq keys w else keys) (queued queue (birth_at os w))) (sym e) (one_inserted w keys queue e s))
            tested false e =
                subst (λ (b : Bool). Stands (reached os keys w) (all_queued queue (if b then birth_at os w ∷ [] else []))) (sym (context_there_is w h ∙ e))
                (subst (λ (b : Bool). Stands (if b then insert_key nat_eq keys w else keys) queue) (sym e) s)

    -- some words
    words_reached : (ws : List ℕ) (keys queue : List ℕ) → AllPass (names_object os) ws → Stands keys queue → Stands (all_reached os keys ws) (all_queued queue (contexts_in (map (ref_of os) ws)))
    words_reached [] keys queue n s = s
    words_reached (w ∷ ws) keys queue n s =
        subst (Stands (all_reached os (reached os keys w) ws))
        (sym (ap (all_queued queue) (contexts_append (ref_of os w ∷ []) (map (ref_of os) ws)) ∙ queued_append queue (contexts_in (ref_of os w ∷ [])) (contexts_in (map (ref_of os) ws))))
        (words_reached ws (reached os keys w) (all_queued queue (contexts_in (ref_of os w ∷ [])))
        (tail_of_all (λ (x : ℕ). names_object os x ≡ true) w ws n)
        (one_reached w keys queue (head_of_all (λ (x : ℕ). names_object os x ≡ true) w ws n) s))

    -- all that an object leads to
    object_reached : (a : ℕ) (keys queue : List ℕ) → is_object os a ≡ true → Stands keys queue → Stands (all_reached os keys (leading_from os a)) (all_queued queue (contexts_from K (birth_at os a)))
    object_reached a keys queue h s =
        subst (λ (refs : List Ref). Stands (all_reached os keys (leading_from os a)) (all_queued queue (contexts_in refs))) (sym (leads_there a h))
        (words_reached (leading_from os a) keys queue (leading_named os a sound h) s)

    -- ---- turns

    slice_get-seam : (xs ys : List ℕ) (a : ℕ) → slice_get (xs ++ a ∷ ys) (length xs) ≡ Some a
    slice_get-seam [] ys a = refl
    slice_get-seam (x ∷ xs) ys a = slice_get-seam xs ys a

    slice_get-behind : (xs ys : List ℕ) (n : ℕ) → slice_get (xs ++ ys) (length xs + n) ≡ slice_get ys n
    slice_get-behind [] ys n = ap (slice_get ys) (nothing n)
      where
        nothing : (n : ℕ) → 0 + n ≡ n
        nothing n = omega arith
    slice_get-behind (x ∷ xs) ys n = ap (slice_get (x ∷ xs ++ ys)) (one (length xs) n) ∙ slice_get-behind xs ys n
      where
        one : (k n : ℕ) → suc k + n ≡ suc (k + n)
        one k n = omega arith

    -- what is left once the plain objects have had their turns
    record Past (result : List ℕ) (n : ℕ) (queue : List ℕ) : Type 0 where
      keys : List ℕ
      stands : Stands keys queue
      rest : result ≡ turns n os (length plain) keys

    plain_turns : (before after : List ℕ) (n : ℕ) (keys queue : List ℕ) → plain ≡ before ++ after → AllPass (is_object os) after → Stands keys queue
        → Past (turns (length after + n) os (length before) keys) n (all_queued queue (flat_map (contexts_from K) (map (birth_at os) after)))
    unfolding turns
    plain_turns before [] n keys queue e all s = record {
      keys = keys;
      stands = s;
      rest = ap₂ (λ (m k : ℕ). turns m os k keys) none (ap length (sym (append-nil before) ∙ sym e));
    }
      where
        none : 0 + n ≡ n
        none = omega arith
    plain_turns before (a ∷ after) n keys queue e all s =
        subst (λ (us : List ℕ). Past us n (all_queued queue (flat_map (contexts_from K) (birth_at os a ∷ map (birth_at os) after)))) (sym first)
        (subst (λ (qs : List ℕ). Past (turns (length after + n) os (length (before ++ a ∷ [])) (all_reached os keys (leading_from os a))) n qs)
        (sym (ap (all_queued queue) (flat_map-cons (contexts_from K) (birth_at os a) (map (birth_at os) after)) ∙ queued_append queue (contexts_from K (birth_at os a)) (flat_map (contexts_from K) (map (birth_at os) after))))
        (plain_turns (before ++ a ∷ []) after n (all_reached os keys (leading_from os a)) (all_queued queue (contexts_from K (birth_at os a)))
        (e ∙ sym (append_assoc before (a ∷ []) after))
        (tail_of_all (λ (w : ℕ). is_object os w ≡ true) a after all)
        (object_reached a keys queue (head_of_all (λ (w : ℕ). is_object os w ≡ true) a after all) s)))
      where
        one : suc (length after) + n ≡ suc (length after + n)
        one = omega arith

        place : length before + 1 ≡ length (before ++ a ∷ [])
        place = sym (length-append before (a ∷ []))

        found : slice_get keys (length before) ≡ Some a
        found = ap (λ (ks : List ℕ). slice_get ks (length before)) (s.keys_are ∙ ap (λ (ks : List ℕ). ks ++ s.line) e ∙ append_assoc before (a ∷ after) s.line) ∙ slice_get-seam before (after ++ s.line) a

        first : turns (suc (length after) + n) os (length before) keys ≡ turns (length after + n) os (length (before ++ a ∷ [])) (all_reached os keys (leading_from os a))
        first =
            ap (λ (m : ℕ). turns m os (length before) keys) one
            ∙ ap₂ (λ (k : ℕ) (ks : List ℕ). turns (length after + n) os k ks) place (sym (turn_some os (length before) a keys found))

    one_turn : (place : ℕ) (keys queue : List ℕ) → Stands keys queue
        → Stands (turn os (length plain + place) keys) (all_queued queue (option_map_or (contexts_from K) (slice_get queue place) []))
    one_turn place keys queue s = go (slice_get s.line place) refl
      where
        here : slice_get keys (length plain + place) ≡ slice_get s.line place
        here = ap (λ (ks : List ℕ). slice_get ks (length plain + place)) s.keys_are ∙ slice_get-behind plain s.line place

        model_here : slice_get queue place ≡ option_map (birth_at os) (slice_get s.line place)
        model_here = ap (λ (qs : List ℕ). slice_get qs place) (sym s.births) ∙ slice_get-map (birth_at os) s.line place

        go : (o : Option ℕ) → slice_get s.line place ≡ o → Stands (turn os (length plain + place) keys) (all_queued queue (option_map_or (contexts_from K) (slice_get queue place) []))
        go None e =
            subst (λ (ks : List ℕ). Stands ks (all_queued queue (option_map_or (contexts_from K) (slice_get queue place) []))) (turn_none os (length plain + place) keys (here ∙ e))
            (subst (λ (o : Option ℕ). Stands keys (all_queued queue (option_map_or (contexts_from K) o []))) (sym (model_here ∙ ap (option_map (birth_at os)) e)) s)
        go (Some a) e =
            subst (λ (ks : List ℕ). Stands ks (all_queued queue (option_map_or (contexts_from K) (slice_get queue place) []))) (turn_some os (length plain + place) a keys (here ∙ e))
            (subst (λ (o : Option ℕ). Stands (all_reached os keys (leading_from os a)) (all_queued queue (option_map_or (contexts_from K) o []))) (sym (model_here ∙ ap (option_map (birth_at os)) e))
            (object_reached a keys queue (object_in_line os s.line place a (all_objects os s.line s.contexts) e) s))

    queue_turns : (n place : ℕ) (keys queue : List ℕ) → Stands keys queue → Stands (turns n os (length plain + place) keys) (turned n K place queue)
    unfolding turns
    queue_turns zero place keys queue s = s
    queue_turns (suc n) place keys queue s =
        subst (λ (k : ℕ). Stands (turns n os k (turn os (length plain + place) keys)) (turned n K (place + 1) (all_queued queue (option_map_or (contexts_from K) (slice_get queue place) [])))) next
        (queue_turns n (place + 1) (turn os (length plain + place) keys) (all_queued queue (option_map_or (contexts_from K) (slice_get queue place) [])) (one_turn place keys queue s))
      where
        next : length plain + (place + 1) ≡ length plain + place + 1
        next = omega arith

    -- all turns
    turned_whole : (n : ℕ) → AllPass (is_object os) plain → map (birth_at os) plain ≡ plain_births K → n ≡ length (entries K.objects)
        → map (birth_at os) (turns (length plain + n) os 0 plain) ≡ order_of K
    turned_whole n all births size =
        let begun : Stands plain [] = record { line = []; keys_are = sym (append-nil plain); births = refl; contexts = All-nil (λ (w : ℕ). is_context_address os w ≡ true) } in
        let past = plain_turns [] plain n plain [] refl all begun in
        let none : length plain + 0 ≡ length plain = omega arith in
        let ended : Stands (turns n os (length plain) past.keys) (turned n K 0 (all_queued [] (flat_map (contexts_from K) (map (birth_at os) plain)))) =
        subst (λ (k : ℕ). Stands (turns n os k past.keys) (turned n K 0 (all_queued [] (flat_map (contexts_from K) (map (birth_at os) plain))))) none (queue_turns n 0 past.keys _ past.stands) in
        ap (map (birth_at os)) (past.rest ∙ ended.keys_are) ∙ map-append (birth_at os) plain ended.line
        ∙ ap₂ (λ (xs ys : List ℕ). xs ++ ys) births
        (ended.births ∙ ap₂ (λ (m : ℕ) (bs : List ℕ). turned m K 0 (all_queued [] (flat_map (contexts_from K) bs))) size births)

-- ---- the plain objects

abbrev some_value : ℕ × Obj → ℕ × Option Obj
some_value e = (e.0, Some e.1)

front : List (ℕ × Option Obj) → ℕ × Option Obj
front [] = (0, None)
front (x ∷ xs) = x

-- an object and its entry
record Entered (os : List Object) (o : Oop) (order : List Oop) (e : ℕ × Obj) (es : List (ℕ × Obj)) : Type 0 where
  birth : birth_at os o.0 ≡ e.0
  meaning : meaning_at os o.0 ≡ Some e.1
  context : is_context_address os o.0 ≡ model.is_context e.1
  rest : map (entry_at os) order ≡ map some_value es

entered : (os : List Object) (o : Oop) (order : List Oop) (e : ℕ × Obj) (es : List (ℕ × Obj)) → map (entry_at os) (o ∷ order) ≡ map some_value (e ∷ es) → Entered os o order e es
unfolding front
entered os o order e es h =
    let meaning : meaning_at os o.0 ≡ Some e.1 = ap (λ (xs : List (ℕ × Option Obj)). (front xs).1) h in
    record {
      birth = ap (λ (xs : List (ℕ × Option Obj)). (front xs).0) h;
      meaning = meaning;
      context = sym (context_address os o.0) ∙ ap is_context_at meaning;
      rest = ap (drop 1) h;
    }

none_entered : (os : List Object) (o : Oop) (order : List Oop) → map (entry_at os) (o ∷ order) ≡ [] → ⊥
none_entered os o order h = let n = ap length h in omega (arith, n)

nothing_entered : (e : ℕ × Obj) (es : List (ℕ × Obj)) → [] ≡ map some_value (e ∷ es) → ⊥
nothing_entered e es h = let n = ap length h in omega (arith, n)

plain_births_are : (os : List Object) (order : List Oop) (es : List (ℕ × Obj)) → map (entry_at os) order ≡ map some_value es
    → map (birth_at os) (plain_among os order) ≡ map (λ e. e.0) (filter (λ e. not (model.is_context e.1)) es)
plain_births_are os [] [] h = refl
plain_births_are os [] (e ∷ es) h = absurd (nothing_entered e es h)
plain_births_are os (o ∷ order) [] h = absurd (none_entered os o order h)
plain_births_are os (o ∷ order) (e ∷ es) h =
    let t = entered os o order e es h in
    go (is_context_address os o.0) (model.is_context e.1) t.context t.birth (plain_births_are os order es t.rest)
  where
    go : (b c : Bool) → b ≡ c → birth_at os o.0 ≡ e.0 → map (birth_at os) (plain_among os order) ≡ map (λ e. e.0) (filter (λ e. not (model.is_context e.1)) es)
        → map (birth_at os) (map (λ o. o.0) (if not b then o ∷ filter (λ o. not (is_context_address os o.0)) order else filter (λ o. not (is_context_address os o.0)) order))
        ≡ map (λ e. e.0) (if not c then e ∷ filter (λ e. not (model.is_context e.1)) es else filter (λ e. not (model.is_context e.1)) es)
    go true true s birth rest = rest
    go false false s birth rest = ap₂ (λ (x : ℕ) (xs : List ℕ). x ∷ xs) birth rest
    go true false s birth rest = absurd (false≢true (sym s))
    go false true s birth rest = absurd (false≢true s)

plain_others : (os : List Object) (order : List Oop) → AllPass (λ k. not (is_context_address os k)) (plain_among os order)
plain_others os [] = All-nil (λ (w : ℕ). not (is_context_address os w) ≡ true)
plain_others os (o ∷ order) = go (not (is_context_address os o.0)) refl (plain_others os order)
  where
    go : (b : Bool) → not (is_context_address os o.0) ≡ b → AllPass (λ k. not (is_context_address os k)) (plain_among os order)
        → AllPass (λ k. not (is_context_address os k)) (map (λ o. o.0) (if b then o ∷ filter (λ o. not (is_context_address os o.0)) order else filter (λ o. not (is_context_address os o.0)) order))
    go true e rest = All-cons (λ (w : ℕ). not (is_context_address os w) ≡ true) o.0 (plain_among os order) e rest
    go false e rest = rest

meaning_present : (os : List Object) (a : ℕ) (q : Obj) → meaning_at os a ≡ Some q → is_object os a ≡ true
meaning_present os a q m = go (is_object os a) refl
  where
    go : (b : Bool) → is_object os a ≡ b → is_object os a ≡ true
    go true h = h
    go false h = absurd (let n = ap (option_map (obj_of (ref_of os))) (no_object os a h) in cc)

-- entered one after another, the plain objects stand as they are, and none twice
record Plainly (os : List Object) (keys : List ℕ) (order : List Oop) : Type 0 where
  whole : insert_all nat_eq keys (plain_among os order) ≡ keys ++ plain_among os order
  lined : Lined os (keys ++ plain_among os order)

test_split : (a b : Bool) → (a && b) ≡ true → (a ≡ true) × (b ≡ true)
test_split true b h = (refl, h)
test_split false b h = absurd (false≢true h)

below_not_same : (b c : ℕ) → is_lt (nat_cmp b c) ≡ true → b ≡ c → ⊥
below_not_same b c l e = false≢true (sym (ap is_lt (tied_itself nat_cmp_total b)) ∙ ap (λ (n : ℕ). is_lt (nat_cmp b n)) e ∙ l)

lacks : (os : List Object) (a : ℕ) (es : List (ℕ × Obj)) (e : ℕ × Obj) (keys : List ℕ) → birth_at os a ≡ e.0 → All (λ k. below_all nat_cmp (birth_at os k) (e ∷ es) ≡ true) keys → list_any (nat_eq a) keys ≡ false
lacks os a es e [] birth all = refl
lacks os a es e (k ∷ keys) birth all = go (nat_eq a k) refl (lacks os a es e keys birth (tail_of_all (λ (w : ℕ). below_all nat_cmp (birth_at os w) (e ∷ es) ≡ true) k keys all))
  where
    go : (t : Bool) → nat_eq a k ≡ t → list_any (nat_eq a) keys ≡ false → (nat_eq a k || list_any (nat_eq a) keys) ≡ false
    go true s rest =
        let below = (test_split (is_lt (nat_cmp (birth_at os k) e.0)) (below_all nat_cmp (birth_at os k) es) (head_of_all (λ (w : ℕ). below_all nat_cmp (birth_at os w) (e ∷ es) ≡ true) k keys all)).0 in
        absurd (below_not_same (birth_at os k) e.0 below (ap (birth_at os) (sym (eqb-true a k s)) ∙ birth))
    go false s rest = ap (λ (t : Bool). t || list_any (nat_eq a) keys) s ∙ rest

abbrev plain_if : List Object → Oop → List Oop → Bool → List ℕ
plain_if os o order b = map (λ o. o.0) (if b then o ∷ filter (λ o. not (is_context_address os o.0)) order else filter (λ o. not (is_context_address os o.0)) order)

plainly : (os : List Object) (order : List Oop) (es : List (ℕ × Obj)) (keys : List ℕ) → map (entry_at os) order ≡ map some_value es → is_sorted nat_cmp es ≡ true
    → All (λ k. below_all nat_cmp (birth_at os k) es ≡ true) keys → Lined os keys → Plainly os keys order
plainly os [] es keys h sorted below lined = record { whole = sym (append-nil keys); lined = subst (Lined os) (sym (append-nil keys)) lined }
plainly os (o ∷ order) [] keys h sorted below lined = absurd (none_entered os o order h)
plainly os (o ∷ order) (e ∷ es) keys h sorted below lined =
    let t = entered os o order e es h in
    let parts = test_split (below_all nat_cmp e.0 es) (is_sorted nat_cmp es) sorted in
    let still : All (λ k. below_all nat_cmp (birth_at os k) es ≡ true) keys =
    λ k d l. (test_split (is_lt (nat_cmp (birth_at os (get_or keys k d)) e.0)) (below_all nat_cmp (birth_at os (get_or keys k d)) es) (below k d l)).1 in
    let added : insert_key nat_eq keys o.0 ≡ keys ++ o.0 ∷ [] = ap (λ (b : Bool). if b then keys else keys ++ o.0 ∷ []) (lacks os o.0 es e keys t.birth below) in
    let more : Plainly os (keys ++ o.0 ∷ []) order =
    plainly os order es (keys ++ o.0 ∷ []) t.rest parts.1
    (All-append (λ (w : ℕ). below_all nat_cmp (birth_at os w) es ≡ true) keys (o.0 ∷ []) still
    (one_of_all (λ (w : ℕ). below_all nat_cmp (birth_at os w) es ≡ true) o.0 (ap (λ (b : ℕ). below_all nat_cmp b es) t.birth ∙ parts.0)))
    (subst (Lined os) added (inserted_lined os keys o.0 (meaning_present os o.0 e.1 t.meaning) lined)) in
    let fewer : Plainly os keys order = plainly os order es keys t.rest parts.1 still lined in
    let r = go (not (is_context_address os o.0)) added more fewer in
    record { whole = r.0; lined = r.1 }
  where
    go : (b : Bool) → insert_key nat_eq keys o.0 ≡ keys ++ o.0 ∷ [] → Plainly os (keys ++ o.0 ∷ []) order → Plainly os keys order
        → (insert_all nat_eq keys (plain_if os o order b) ≡ keys ++ plain_if os o order b) × Lined os (keys ++ plain_if os o order b)
    go true added more fewer = (
      ap (λ (ks : List ℕ). insert_all nat_eq ks (plain_among os order)) added ∙ more.whole ∙ append_assoc keys (o.0 ∷ []) (plain_among os order),
      subst (Lined os) (append_assoc keys (o.0 ∷ []) (plain_among os order)) more.lined,
    )
    go false added more fewer = (fewer.whole, fewer.lined)

nil_distinct : IsDistinct nat_eq []
unfolding IsDistinct
nil_distinct = tt

true_of : (b : Bool) → T b → b ≡ true
true_of true t = refl
true_of false t = absurd t

plain_whole : (os : List Object) (order : List Oop) → IsInOrder os order → Plainly os [] order
plain_whole os order h =
    plainly os order (entries (objects_of os)) [] h (true_of (is_sorted nat_cmp (entries (objects_of os))) (entries_sorted (objects_of os)))
    (All-nil (λ (w : ℕ). below_all nat_cmp (birth_at os w) (entries (objects_of os)) ≡ true)) (record { objects = All-nil (λ (w : ℕ). is_object os w ≡ true); distinct = nil_distinct })

pub plain_inserted : (os : List Object) (order : List Oop) (keys : List ℕ) → IsInOrder os order → keys ≡ insert_all nat_eq [] (plain_among os order) → keys ≡ plain_among os order
plain_inserted os order keys h e = e ∙ (plain_whole os order h).whole

pub plain_lined : (os : List Object) (order : List Oop) (keys : List ℕ) → IsInOrder os order → keys ≡ plain_among os order → Lined os keys
plain_lined os order keys h e = subst (Lined os) (sym e) (plain_whole os order h).lined

-- ---- the whole

-- where an object lies among the others
place_of : List Object → ℕ → ℕ
place_of os a = unwrap_or (object_place os a) 0

place_there : (os : List Object) (a : ℕ) → is_object os a ≡ true → (object_place os a ≡ Some (place_of os a)) × (place_of os a < length os)
unfolding place_of
place_there os a h = go (object_place os a) refl h
  where
    go : (o : Option ℕ) → object_place os a ≡ o → is_some o ≡ true → (object_place os a ≡ Some (unwrap_or (object_place os a) 0)) × (unwrap_or (object_place os a) 0 < length os)
    go None e g = absurd (false≢true g)
    go (Some k) e g =
        let same : unwrap_or (object_place os a) 0 ≡ k = ap (λ (o : Option ℕ). unwrap_or o 0) e in
        (e ∙ ap Some (sym same), subst (λ (n : ℕ). n < length os) (sym same) (index_of-below os a k e))

places_apart : (os : List Object) (a : ℕ) (ks : List ℕ) → is_object os a ≡ true → AllPass (is_object os) ks → AllByRecursion (λ y. nat_eq a y ≡ false) ks
    → AllByRecursion (λ y. nat_eq (place_of os a) y ≡ false) (map (place_of os) ks)
places_apart os a [] h all apart = tt
places_apart os a (k ∷ ks) h all apart = (other, places_apart os a ks h (tail_of_all (λ (w : ℕ). is_object os w ≡ true) k ks all) apart.1)
  where
    other : nat_eq (place_of os a) (place_of os k) ≡ false
    other = ne_eqb (place_of os a) (place_of os k) (λ same.
        let p = place_there os a h in
        let q = place_there os k (head_of_all (λ (w : ℕ). is_object os w ≡ true) k ks all) in
        false≢true (sym apart.0 ∙ eq-eqb a k (index_of-injective os a k (place_of os k) (p.0 ∙ ap Some same) q.0)))

places_distinct : (os : List Object) (ks : List ℕ) → AllPass (is_object os) ks → IsDistinct nat_eq ks → IsDistinct nat_eq (map (place_of os) ks)
unfolding IsDistinct
places_distinct os [] all d = tt
places_distinct os (k ∷ ks) all d = (
  places_apart os k ks (head_of_all (λ (w : ℕ). is_object os w ≡ true) k ks all) (tail_of_all (λ (w : ℕ). is_object os w ≡ true) k ks all) d.0,
  places_distinct os ks (tail_of_all (λ (w : ℕ). is_object os w ≡ true) k ks all) d.1,
)

places_below : (os : List Object) (ks : List ℕ) → AllPass (is_object os) ks → (q : ℕ) → list_any (nat_eq q) (map (place_of os) ks) ≡ true → q < length os
places_below os [] all q h = absurd (false≢true h)
places_below os (k ∷ ks) all q h = go (nat_eq q (place_of os k)) refl h (places_below os ks (tail_of_all (λ (w : ℕ). is_object os w ≡ true) k ks all) q)
  where
    go : (b : Bool) → nat_eq q (place_of os k) ≡ b → (b || list_any (nat_eq q) (map (place_of os) ks)) ≡ true → (list_any (nat_eq q) (map (place_of os) ks) ≡ true → q < length os) → q < length os
    go true e g rest = subst (λ (n : ℕ). n < length os) (sym (eqb-true q (place_of os k) e)) (place_there os k (head_of_all (λ (w : ℕ). is_object os w ≡ true) k ks all)).1
    go false e g rest = rest g

-- addresses of objects, none twice, are at most as many as the objects
few_lined : (os : List Object) (keys : List ℕ) → Lined os keys → length keys ≤ length os
few_lined os keys lined =
    let inside = length-le_from_distinct_below (map (place_of os) keys) (length os) (places_distinct os keys lined.objects lined.distinct) (places_below os keys lined.objects) in
    omega (arith, inside, length-map keys (place_of os))

pub numbered_whole : (os : List Object) (table : FinMap nat_cmp ℕ) (roots : Roots) (order : List Oop) (first keys : List ℕ) (count : ℕ) → AreSoundObjects os → IsInOrder os order
    → first ≡ plain_among os order → count ≡ length first + length order → keys ≡ turns count os 0 first → Lined os keys → IsNumbering os (kept_of os table roots None) keys
numbered_whole os table roots order first keys count sound h is size turned lined = record {
  objects_are = lined.objects;
  few = few_lined os keys lined;
  births = ap (map (birth_at os)) (turned ∙ ap₂ (λ (n : ℕ) (ks : List ℕ). turns n os 0 ks) (size ∙ ap (λ (ks : List ℕ). length ks + length order) is) is)
      ∙ turned_whole os table roots sound (plain_among os order) (plain_others os order) (length order)
      (plain_lined os order (plain_among os order) h refl).objects
      (plain_births_are os order (entries (objects_of os)) h)
      (sym (length-map order (entry_at os)) ∙ ap length h ∙ length-map (entries (objects_of os)) some_value);
}
