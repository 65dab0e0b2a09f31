-- What a state says of its contexts and of its active process is said of the file that is saved.
use Rattle.std.proofs.Common.{◌≡◌, ◌≢◌, ℕ, ◌/◌, ◌%◌, ◌<◌, ◌≤◌, ◌==◌, Bool, true, false, cond, leb, List, [], ◌∷◌, length, map, Option, Some, None, is_some, unwrap_or, refl, ap, sym, ◌∙◌, arith, slice_get, slice_index, option_map, subst}
use Rattle.std.specs.Prelude.{IsSome}
use Rattle.std.specs.Option.{option_map_or, option_and_then}
use Rattle.std.specs.Ordering.{nat_cmp}
use Rattle.std.specs.FinMap.{FinMap, get}
use Rattle.std.proofs.lemmas.List.{length-map}
use Rattle.std.proofs.lemmas.Option.{slice_get-map, slice_get-get_or}
use Rattle.std.proofs.lemmas.Bool.Decides.{nat_tests}
use Rattle.cs_heap.specs.Object.{Object, address_of, base, birth_at, is_object, heap_object}
use Rattle.cs_heap.specs.Format.{is_pointers}
use Rattle.cs_heap.proofs.Laws.{address_of-index}
use Rattle.cs_model.specs.Ref.{Ref, same_ref}
use Rattle.cs_model.specs.Ref as ref
use Rattle.cs_model.specs.Obj.{Obj, Context, at_least, context_in, slots_in}
use Rattle.cs_model.specs.Words.{natural_in_word, small_value}
use Rattle.cs_model.specs.State.{Kept, is_nil, object_at, object_of, slots_of}
use Rattle.cs_model.specs.ImageFault.{fields_of, is_file_context, is_live_context}
use Rattle.cs_model.specs.SavedFile.{placed_at}
use Rattle.cs_model.specs.SoundFile.{IsFound, NamesSaved}
use Rattle.cs_classes.specs.declared.Roots.{Roots}
use Rattle.cs_classes.specs.Meaning.{context_of, is_heap_context, kept_of, nth_birth, obj_of, objects_of, ref_of}
use Rattle.cs_word.specs.Word.{natural_of_word}
use Rattle.cs_classes.specs.Sound.{AreSoundObjects, is_reference, nil_word}
use Rattle.cs_classes.proofs.Heaps.{birth_of-object_at}
use Rattle.cs_classes.proofs.Heaps.{object_there as object_of_address}
use Rattle.cs_classes.proofs.Objects.{get-objects_of}
use Rattle.cs_classes.proofs.Refs.{ref_of-object}
use Rattle.cs_classes.proofs.Sorts.{Sort, sort_of, obj_of-context, obj_of-bytes, obj_of-method, obj_of-pointers}
use Rattle.cs_save.specs.Filed.{filed, filed_words, file_word, saved_file}
use Rattle.cs_save.proofs.Addresses.{AtAddress, object_there}
use Rattle.cs_save.proofs.Headers.{length-filed}
use Rattle.cs_save.proofs.Meanings.{IsFiled, Low, Odd, Two, Zero, count_same, low, reference_object}
use Rattle.cs_save.proofs.Sounding.{all_true, context_slot, found_word, test_apart, test_at_most, test_same, told_same}

-- ---- options

pub and_then_some : {X Y : Type 0} (g : X → Option Y) (r : Option X) (y : Y) → option_and_then g r ≡ Some y → (x : X) × (r ≡ Some x) × (g x ≡ Some y)
and_then_some g None y h = absurd (cc)
and_then_some g (Some x) y h = (x, refl, h)

at_most : (a b : ℕ) → leb a b ≡ true → a ≤ b
at_most a b h = grind (arith, nat_tests, h)

-- ---- what a reference names

-- the state of which the objects are those of a memory
pub record Has (xs : List Object) (k : Kept) : Type 0 where
  pub sound : AreSoundObjects xs
  pub objects : k.objects ≡ objects_of xs

-- an immediate names nothing
pub no_object : (xs : List Object) (k : Kept) (w : ℕ) → w % 4 ≢ 0 → object_of k (ref_of xs w) ≡ None
unfolding ref_of
no_object xs k w h = go (low w)
  where
    go : Low w → object_of k (ref_of xs w) ≡ None
    go (Odd e) = let b : (w % 2 == 1) ≡ true = test_same (w % 2) 1 e in rw b refl
    go (Two e) =
        let b : (w % 2 == 1) ≡ false = test_apart (w % 2) 1 (λ z. omega (arith, e, z)) in
        let d : (w % 4 == 2) ≡ true = test_same (w % 4) 2 e in
        rw (b, d) refl
    go (Zero e) = absurd (h e)

-- an address names what its object means
pub address_object : (xs : List Object) (k : Kept) → Has xs k → (w : ℕ) (x : Object) → is_object xs w ≡ true → heap_object xs w ≡ Some x
    → object_at k (birth_at xs w) ≡ Some (obj_of (ref_of xs) x)
address_object xs k has w x o there =
    ap (λ (m : FinMap nat_cmp Obj). get m (birth_at xs w)) has.objects
    ∙ get-objects_of xs w has.sound o ∙ ap (option_map (obj_of (ref_of xs))) there

pub word_object : (xs : List Object) (k : Kept) → Has xs k → (w : ℕ) (x : Object) → is_object xs w ≡ true → heap_object xs w ≡ Some x
    → object_of k (ref_of xs w) ≡ Some (obj_of (ref_of xs) x)
word_object xs k has w x o there = ap (object_of k) (ref_of-object xs w o) ∙ address_object xs k has w x o there

-- ---- fields

-- an object with pointer slots
pub record IsFields (xs : List Object) (n w : ℕ) (slots : List Ref) (x : Object) : Type 0 where
  pub is : is_object xs w ≡ true
  pub found : heap_object xs w ≡ Some x
  pub other : is_heap_context x ≡ false
  pub pointers : is_pointers x.format ≡ true
  pub long : n ≤ length x.words
  pub refs : map (ref_of xs) x.words ≡ slots

slots_sort : (xs : List Object) (n : ℕ) (x : Object) (slots : List Ref) → at_least n (slots_in (Some (obj_of (ref_of xs) x))) ≡ Some slots
    → (is_heap_context x ≡ false) × (is_pointers x.format ≡ true) × (n ≤ length x.words) × (map (ref_of xs) x.words ≡ slots)
slots_sort xs n x slots h = go (sort_of x)
  where
    told : (o : Obj) → obj_of (ref_of xs) x ≡ o → at_least n (slots_in (Some o)) ≡ Some slots
    told o e = ap (λ (p : Obj). at_least n (slots_in (Some p))) (sym e) ∙ h

    within : (b : Bool) (sl : List Ref) → cond b (Some sl) None ≡ Some slots → (b ≡ true) × (sl ≡ slots)
    within true sl e = (refl, cc)
    within false sl e = absurd (cc)

    go : Sort x → (is_heap_context x ≡ false) × (is_pointers x.format ≡ true) × (n ≤ length x.words) × (map (ref_of xs) x.words ≡ slots)
    go (Sort.AContext c) = absurd (cc (told _ (obj_of-context (ref_of xs) x c)))
    go (Sort.Pointers c p) =
        let e = within (leb n (length (map (ref_of xs) x.words))) (map (ref_of xs) x.words) (told _ (obj_of-pointers (ref_of xs) x c p)) in
        let l = at_most n _ e.0 in
        (c, p, omega (arith, l, length-map x.words (ref_of xs)), e.1)
    go (Sort.AMethod c p m) = absurd (cc (told _ (obj_of-method (ref_of xs) x c p m)))
    go (Sort.Bytes c p m) = absurd (cc (told _ (obj_of-bytes (ref_of xs) x c p m)))

pub fields_word : (xs : List Object) (k : Kept) → Has xs k → (n w : ℕ) (slots : List Ref) → is_reference xs w ≡ true → slots_of k n (ref_of xs w) ≡ Some slots
    → (x : Object) × IsFields xs n w slots x
unfolding slots_of
fields_word xs k has n w slots r h = go (w % 4 == 0) refl
  where
    go : (b : Bool) → (w % 4 == 0) ≡ b → (x : Object) × IsFields xs n w slots x
    go false e = let none = no_object xs k w (λ z. absurd (cc (sym e ∙ test_same (w % 4) 0 z))) in absurd (cc (sym h ∙ ap (λ (o : Option Obj). at_least n (slots_in o)) none))
    go true e =
        let o = reference_object xs w r (told_same (w % 4) 0 e) in
        let x = object_of_address xs w o in
        let s = slots_sort xs n x.0 slots (ap (λ (p : Option Obj). at_least n (slots_in p)) (sym (word_object xs k has w x.0 o x.1)) ∙ h) in
        (x.0, record { is = o; found = x.1; other = s.0; pointers = s.1; long = s.2; refs = s.3 })

-- element 1 of the slots of such an object is that of its words
pub next_word : (xs : List Object) (n w : ℕ) (slots : List Ref) (x : Object) (r : Ref) → IsFields xs n w slots x → 2 ≤ n → slice_get slots 1 ≡ Some r → r ≡ ref_of xs (slice_index x.words 1)
next_word xs n w slots x r f few h =
    let long = f.long in
    let at : slice_get (map (ref_of xs) x.words) 1 ≡ Some (ref_of xs (slice_index x.words 1))
    = slice_get-map (ref_of xs) x.words 1 ∙ ap (option_map (ref_of xs)) (slice_get-get_or x.words 1 0 (omega (arith, long, few))) in
    let there = ap (λ (sl : List Ref). slice_get sl 1) f.refs in
    cc

-- the same in the file
pub fields_kept : (x : Object) (n first : ℕ) → (x.class == 16) ≡ false → is_heap_context x ≡ false → is_pointers x.format ≡ true → n ≤ length x.words
    → fields_of n (placed_at first (filed x)) ≡ Some (filed x).words
unfolding filed
fields_kept x n first shown other pointers long =
    let slots : leb n (length (filed_words x.format x.words)) ≡ true = test_at_most n _ (omega (arith, long, length-filed x.format x.words)) in
    rw (shown, pointers, other, slots) refl

pub fields_found : (xs : List Object) (table : FinMap nat_cmp ℕ) (roots : Roots) → IsFiled xs table roots → (n w : ℕ) (slots : List Ref) (x : Object) → IsFields xs n w slots x
    → (x.class == 16) ≡ false → IsFound (saved_file xs table roots) (λ o. fields_of n o ≡ Some (filed x).words) (file_word w)
fields_found xs table roots f n w slots x h shown =
    found_word xs table roots f (λ o. fields_of n o ≡ Some (filed x).words) w h.is
    (λ y there first. let same : x ≡ y = let found = h.found in cc in
    subst (λ (z : Object). fields_of n (placed_at first (filed z)) ≡ Some (filed x).words) same (fields_kept x n first shown h.other h.pointers h.long))

-- ---- immediates

small_ref : (xs : List Object) (v : ℕ) → v % 2 ≡ 1 → ref_of xs v ≡ ref.Small (small_value v)
unfolding ref_of
small_ref xs v z = let b : (v % 2 == 1) ≡ true = test_same (v % 2) 1 z in rw b refl

character_ref : (xs : List Object) (v : ℕ) → v % 4 ≡ 2 → ref_of xs v ≡ ref.Char (v / 4)
unfolding ref_of
character_ref xs v z =
    let b : (v % 2 == 1) ≡ false = test_apart (v % 2) 1 (λ e. omega (arith, e, z)) in
    let d : (v % 4 == 2) ≡ true = test_same (v % 4) 2 z in
    rw (b, d) refl

not_small : (xs : List Object) (v : ℕ) → v % 2 ≡ 1 → (i : ℕ) → same_ref (ref_of xs v) (ref.Obj i) ≡ true → ⊥
not_small xs v z i e = absurd (cc (sym (ap (λ (x : Ref). same_ref x (ref.Obj i)) (small_ref xs v z)) ∙ e))

not_character : (xs : List Object) (v : ℕ) → v % 4 ≡ 2 → (i : ℕ) → same_ref (ref_of xs v) (ref.Obj i) ≡ true → ⊥
not_character xs v z i e = absurd (cc (sym (ap (λ (x : Ref). same_ref x (ref.Obj i)) (character_ref xs v z)) ∙ e))

pub no_address : (xs : List Object) (w i : ℕ) → w % 4 ≢ 0 → ref_of xs w ≡ ref.Obj i → ⊥
no_address xs w i other e = go (low w)
  where
    go : Low w → ⊥
    go (Odd z) = absurd (cc (sym (small_ref xs w z) ∙ e))
    go (Two z) = absurd (cc (sym (character_ref xs w z) ∙ e))
    go (Zero z) = other z

class_same : (x : Object) (first : ℕ) → is_heap_context x ≡ true → is_file_context (placed_at first (filed x)) ≡ true
unfolding filed
class_same x first c = c

pc_some : (refer : ℕ → Ref) (hash : ℕ) (ws : List ℕ) → IsSome ((context_of refer hash ws).pc) → is_some (natural_of_word (slice_index ws 1)) ≡ true
unfolding context_of
pc_some refer hash ws h = go (natural_of_word (slice_index ws 1)) h
  where
    go : (r : Option ℕ) → IsSome r → is_some r ≡ true
    go (Some n) h = refl
    go None h = absurd (cc)

-- ---- nil

-- what is nil in the state is nil's word
pub nil_ref : (xs : List Object) (table : FinMap nat_cmp ℕ) (roots : Roots) → IsFiled xs table roots → AreSoundObjects xs → nil_word xs ≡ base → (w : ℕ) → is_reference xs w ≡ true
    → is_nil (kept_of xs table roots None) (ref_of xs w) ≡ true → w ≡ base
nil_ref xs table roots f sound nil w r h = go (w % 4 == 0) refl
  where
    immediate : (v : ℕ) → v % 4 ≢ 0 → same_ref (ref_of xs v) (ref.Obj (nth_birth xs 0)) ≡ true → ⊥
    immediate v other e = immediate_by (low v) e
      where
        immediate_by : Low v → same_ref (ref_of xs v) (ref.Obj (nth_birth xs 0)) ≡ true → ⊥
        immediate_by (Odd z) e = not_small xs v z (nth_birth xs 0) e
        immediate_by (Two z) e = not_character xs v z (nth_birth xs 0) e
        immediate_by (Zero z) e = other z

    first : (o : AtAddress xs w) → o.object.birth ≡ nth_birth xs 0 → o.number ≡ 0
    first o e = at_first (slice_get xs 0) refl
      where
        at_first : (q : Option Object) → slice_get xs 0 ≡ q → o.number ≡ 0
        at_first (Some x) g = sound.apart o.number 0 o.object x o.there g (e ∙ ap (λ (p : Option Object). option_map_or (λ y. y.birth) p 0) g)
        at_first None g = let l = f.bare.long in let none : length xs ≡ 0 = empty xs g in absurd (omega (arith, l, none))
          where
            empty : (ys : List Object) → slice_get ys 0 ≡ None → length ys ≡ 0
            empty [] e = refl
            empty (y ∷ ys) e = absurd (cc)

    go : (b : Bool) → (w % 4 == 0) ≡ b → w ≡ base
    go false e = absurd (immediate w (λ z. absurd (cc (sym e ∙ test_same (w % 4) 0 z))) h)
    go true e =
        let object = reference_object xs w r (told_same (w % 4) 0 e) in
        let o = object_there xs w f.bare f.few object in
        let births : (birth_at xs w == nth_birth xs 0) ≡ true = ap (λ (x : Ref). same_ref x (ref.Obj (nth_birth xs 0))) (sym (ref_of-object xs w object)) ∙ h in
        let zero_it = first o (sym (birth_of-object_at xs w o.object o.found) ∙ told_same _ _ births) in
        let at : address_of xs 0 ≡ Some w = ap (address_of xs) (sym zero_it) ∙ address_of-index xs w o.number o.index in
        sym (ap (λ (p : Option ℕ). unwrap_or p 0) at) ∙ nil

-- ---- the context of a process

live_kept : (x : Object) (first : ℕ) → is_heap_context x ≡ true → is_pointers x.format ≡ true → 1 < length x.words → is_some (natural_of_word (slice_index x.words 1)) ≡ true
    → is_live_context (placed_at first (filed x)) ≡ true
live_kept x first c p long some =
    let number : is_some (natural_in_word (slice_index (filed x).words 1)) ≡ true = ap (λ v. is_some (natural_in_word v)) (context_slot x p 1 long) ∙ ap is_some (count_same (slice_index x.words 1)) ∙ some in
    all_true (is_file_context (placed_at first (filed x))) _ (class_same x first c) number

-- a context that is live in the state
pub live_context : (xs : List Object) (table : FinMap nat_cmp ℕ) (roots : Roots) → IsFiled xs table roots → (k : Kept) → Has xs k → (w i : ℕ) → is_reference xs w ≡ true
    → ((x : Object) → heap_object xs w ≡ Some x → is_heap_context x ≡ true → (is_pointers x.format ≡ true) × (1 < length x.words))
    → ref_of xs w ≡ ref.Obj i → IsSome (option_and_then (λ (c : Context). c.pc) (context_in (object_at k i)))
    → NamesSaved (saved_file xs table roots) is_live_context (file_word w)
live_context xs table roots f k has w i r shape is live = go (w % 4 == 0) refl
  where
    context_sort : (x : Object) → IsSome (option_and_then (λ (c : Context). c.pc) (context_in (Some (obj_of (ref_of xs) x))))
        → (is_heap_context x ≡ true) × (is_some (natural_of_word (slice_index x.words 1)) ≡ true)
    context_sort x s = sort (sort_of x)
      where
        told : (o : Obj) → obj_of (ref_of xs) x ≡ o → IsSome (option_and_then (λ (c : Context). c.pc) (context_in (Some o)))
        told o e = subst (λ (p : Obj). IsSome (option_and_then (λ (c : Context). c.pc) (context_in (Some p)))) e s

        sort : Sort x → (is_heap_context x ≡ true) × (is_some (natural_of_word (slice_index x.words 1)) ≡ true)
        sort (Sort.AContext c) = (c, pc_some (ref_of xs) x.hash x.words (told _ (obj_of-context (ref_of xs) x c)))
        sort (Sort.Pointers c p) = absurd (cc (told _ (obj_of-pointers (ref_of xs) x c p)))
        sort (Sort.AMethod c p m) = absurd (cc (told _ (obj_of-method (ref_of xs) x c p m)))
        sort (Sort.Bytes c p m) = absurd (cc (told _ (obj_of-bytes (ref_of xs) x c p m)))

    go : (b : Bool) → (w % 4 == 0) ≡ b → NamesSaved (saved_file xs table roots) is_live_context (file_word w)
    go false e = absurd (no_address xs w i (λ z. absurd (cc (sym e ∙ test_same (w % 4) 0 z))) is)
    go true e =
        let object = reference_object xs w r (told_same (w % 4) 0 e) in
        let y = object_of_address xs w object in
        let birth : birth_at xs w ≡ i = let same = sym (ref_of-object xs w object) ∙ is in cc in
        let there : object_at k i ≡ Some (obj_of (ref_of xs) y.0) = ap (object_at k) (sym birth) ∙ address_object xs k has w y.0 object y.1 in
        let c = context_sort y.0 (subst (λ (o : Option Obj). IsSome (option_and_then (λ (c : Context). c.pc) (context_in o))) there live) in
        found_word xs table roots f (λ o. is_live_context o ≡ true) w object
        (λ x here first. let same : y.0 ≡ x = let found = y.1 in cc in
        let d : is_heap_context x ≡ true = ap is_heap_context (sym same) ∙ c.0 in
        let t = shape x here d in
        live_kept x first d t.0 t.1 (ap (λ (z : Object). is_some (natural_of_word (slice_index z.words 1))) (sym same) ∙ c.1))
