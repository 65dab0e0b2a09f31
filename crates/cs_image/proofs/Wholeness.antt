-- The memory of a file without faults is sound.
use Rattle.std.proofs.Common.{◌≡◌, ◌≢◌, ℕ, zero, suc, ◌+◌, ◌*◌, ◌-◌, ◌/◌, ◌%◌, ◌<◌, ◌≤◌, ◌==◌, ◌&&◌, ◌||◌, ◌⊎◌, inl, inr, ltb, leb, Bool, true, false, cond, not, List, [], ◌∷◌, length, map, take, drop, filter, get_or, Option, Some, None, refl, ap, sym, subst, ◌∙◌, arith, slice_get, slice_index, option_map, is_some, unwrap_or, nat_cmp, option_and_then, length-drop}
use Rattle.std.specs.Option.{option_map_or}
use Rattle.std.specs.List.{find, AllPass}
use Rattle.std.specs.Cmp.{nat_cmp_total}
use Rattle.std.specs.Ordering.{eq_by_cmp}
use Rattle.std.specs.FinMap.{FinMap, get, get-empty, get-insert, insert}
use Rattle.std.proofs.lemmas.Bool.Decides.{nat_tests, eqb_tells}
use Rattle.std.proofs.lemmas.List.{get_or-drop, get_or-map, length-map, length-take}
use Rattle.std.proofs.lemmas.Option.{slice_get_past, slice_get_within}
use Rattle.cs_word.specs.Word.{natural_of_word}
use Rattle.cs_model.specs.Obj.{context_class, context_fields, literal_count, is_header}
use Rattle.cs_model.specs.Words.{is_pointer_format, is_method_format, has_shape, plain_format, natural_in_word, header_in_words, literals_in_words, stackp_in_words, unused_bytes}
use Rattle.cs_model.specs.ImageFile.{FileObject, File, file_of, old_base, special_address, is_visible, visible, is_nil_word, nil_in, named, names, address_in}
use Rattle.cs_model.specs.ImageFault.{entry_in, has_entry, page_addresses, table_size, bad_class, is_bad_roots, is_pc_of, is_stackp, is_file_method, is_lost, is_process_word, active_process_in, special_in, fields_of, fields_in}
use Rattle.cs_model.specs.ImageFault as fault
use Rattle.cs_model.specs.State.{is_class_index}
use Rattle.cs_heap.proofs.Laws.{object_at-address}
use Rattle.cs_classes.proofs.Refs.{is_sender-context, is_sender-nil}
use Rattle.cs_image.proofs.Entries.{entry_there}
use Rattle.cs_image.proofs.Finding.{find-number}
use Rattle.cs_heap.specs.Object.{Object, address_among, address_of, base, class_at, format_at, header_address, is_object, no_flags, heap_object, slot_count_of}
use Rattle.cs_heap.specs.Format.{format_allows}
use Rattle.cs_word.specs.Header.{flag_bits, with_immutable}
use Rattle.cs_classes.specs.Meaning.{depth_in, method_header}
use Rattle.cs_classes.specs.Sound.{is_closure_address, is_method_address, is_sender, is_weak, IsImageHeader, AreSoundObjects, IsSoundClass, IsSoundHeader, IsSoundTable, IsSpecialArray, is_reference, nil_word, references_in, IsSoundContext, IsSoundMethod, IsSoundObject, IsWhole}
use Rattle.cs_classes.specs.declared.Roots.{Roots}
use Rattle.cs_classes.proofs.Tables.{ties_same, ties_other}
use Rattle.cs_image.specs.Loading.{address_named, classes_at, loaded, loaded_from, number_that, translated}
use Rattle.cs_image.proofs.Below.{table_size_is}
use Rattle.cs_image.proofs.Numbering.{AreBirths}
use Rattle.cs_image.proofs.Describing.{IsBuilt, built_roots}
use Rattle.cs_image.proofs.Naming.{Stands, stands_named, stands_there, slice_get-loaded_from, slot_counts-loaded_from, length-loaded_from}
use Rattle.cs_image.proofs.Wording.{memory_of, is_reference_translated, count_same, count_translated, loaded_words, length-loaded_words, words_pointers, method_head, method_literals, natural_even}
use Rattle.cs_image.proofs.Elements.{IsFine, NoneLost, header_loaded, plain_others}
use Rattle.cs_image.proofs.Soundness.{ClassAt, class_is_at, known_classes, visible_from, IsSoundFile, Table, table_parts, Firsts, firsts, visible_three, and_true, not_true, not_false, find_none_at, map_none, formed_at, fine_at, context_at, method_body_at, seven, entry_stands, special_stands}

-- ---- objects by place

pub record LoadedAt (births : List ℕ) (f : File) (j : ℕ) (x : Object) : Type 0 where
  pub o : FileObject
  pub there : slice_get (visible f) j ≡ Some o
  pub is : loaded f (slice_index births j) o ≡ x

pub loaded_at : (births : List ℕ) (f : File) (j : ℕ) (x : Object) → slice_get (memory_of births f) j ≡ Some x → LoadedAt births f j x
loaded_at births f j x e = go (slice_get (visible f) j) refl (sym (slice_get-loaded_from births f 0 (visible f) j) ∙ e)
  where
    go : (r : Option FileObject) → slice_get (visible f) j ≡ r → option_map (λ o. loaded f (slice_index births (0 + j)) o) r ≡ Some x → LoadedAt births f j x
    go None er h = absurd (cc)
    go (Some o) er h =
        let same : loaded f (slice_index births (0 + j)) o ≡ x = cc in
        let place : j ≡ 0 + j = omega arith in
        record { o = o; there = er; is = ap (λ n. loaded f (slice_index births n) o) place ∙ same }

-- ---- nil

pub nil_named : (f : File) (s : Firsts f) → named f (nil_in f) ≡ Some s.nil
unfolding named
nil_named f s =
    let here : nil_in f ≡ address_in f s.nil = ap (λ (os : List FileObject). option_map_or (address_in f) (slice_get os 0) 0) s.objects in
    let p : (address_in f s.nil == nil_in f) ≡ true = same_test _ _ (sym here) in
    ap (find (λ o. address_in f o == nil_in f)) s.objects ∙ rw p refl
  where
    same_test : (a b : ℕ) → a ≡ b → (a == b) ≡ true
    same_test a b e = grind (arith, nat_tests, e)

pub nil_visible : (f : File) (s : Firsts f) → is_visible s.nil ≡ true
nil_visible f s = (and_true (is_visible s.nil) (s.nil.format == 0) s.oddball).0

visible_begins : (f : File) (s : Firsts f) → visible f ≡ s.nil ∷ filter is_visible s.rest
unfolding visible
visible_begins f s = ap (filter is_visible) s.objects ∙ rw (nil_visible f s) refl

pub nil_stands : (births : List ℕ) (f : File) (s : Firsts f) → Stands births f (nil_in f)
nil_stands births f s = stands_named births f (nil_in f) s.nil (nil_named f s) (nil_visible f s)

pub nil_number : (births : List ℕ) (f : File) (s : Firsts f) → (nil_stands births f s).j ≡ 0
nil_number births f s = first (nil_stands births f s).j (sym (nil_stands births f s).number ∙ ap (number_that (λ o. address_in f o == nil_in f)) (visible_begins f s) ∙ rw p refl)
  where
    here : nil_in f ≡ address_in f s.nil
    here = ap (λ (os : List FileObject). option_map_or (address_in f) (slice_get os 0) 0) s.objects

    same_test : (a b : ℕ) → a ≡ b → (a == b) ≡ true
    same_test a b e = grind (arith, nat_tests, e)

    p : (address_in f s.nil == nil_in f) ≡ true
    p = same_test _ _ (sym here)

    first : (j : ℕ) → Some j ≡ Some 0 → j ≡ 0
    first j e = cc

pub nil_of-memory : (births : List ℕ) (f : File) (s : Firsts f) → nil_word (memory_of births f) ≡ address_named f (nil_in f)
nil_of-memory births f s = ap (λ (r : Option ℕ). unwrap_or r 0) (ap (address_of (memory_of births f)) (sym (nil_number births f s)) ∙ (nil_stands births f s).at)

pub nil_of-base : (births : List ℕ) (f : File) (s : Firsts f) → length s.nil.words ≡ 0 → nil_word (memory_of births f) ≡ base
unfolding address_among
nil_of-base births f s none = ap (λ (ns : List ℕ). unwrap_or (address_among ns base 0) 0) (slot_counts-loaded_from births f 0 (visible f) ∙ ap (map (λ o. length o.words)) (visible_begins f s))
    ∙ ap (header_address base) none

pub nil_aligned : (f : File) → f.base % 4 ≡ 0 → (s : Firsts f) → nil_in f % 4 ≡ 0
nil_aligned f aligned s =
    let here : nil_in f ≡ f.base + 4 * s.nil.place = ap (λ (os : List FileObject). option_map_or (address_in f) (slice_get os 0) 0) s.objects in
    omega (arith, here, aligned)

pub translated_nil : (births : List ℕ) (f : File) → f.base % 4 ≡ 0 → (s : Firsts f) → translated f (nil_in f) ≡ nil_word (memory_of births f)
translated_nil births f aligned s =
    let z : (nil_in f % 4 == 0) ≡ true = zero_test _ (nil_aligned f aligned s) in
    let t : translated f (nil_in f) ≡ address_named f (nil_in f) = rw z refl in
    t ∙ sym (nil_of-memory births f s)
  where
    zero_test : (n : ℕ) → n ≡ 0 → (n == 0) ≡ true
    zero_test n e = grind (arith, nat_tests, e)

-- ---- an object

passes_map : (births : List ℕ) (f : File) (ws : List ℕ) → NoneLost f ws → AllPass (is_reference (memory_of births f)) (map (translated f) ws)
passes_map births f ws fine k d h =
    let inside : k < length ws = omega (arith, h, length-map ws (translated f)) in
    ap (is_reference (memory_of births f)) (get_or-map (translated f) ws k 0 d inside) ∙ is_reference_translated births f (get_or ws k 0) (fine k inside)

passes_along : (births : List ℕ) (f : File) (xs ys : List ℕ) → xs ≡ ys → AllPass (is_reference (memory_of births f)) ys → AllPass (is_reference (memory_of births f)) xs
passes_along births f xs ys e h = let P : List ℕ → Type 0 = AllPass (is_reference (memory_of births f)) in subst P (sym e) h

shape_plain : (format n : ℕ) → has_shape format n ≡ true → format_allows (plain_format format) n ≡ true
shape_plain format n h = elim (eqb_tells format 4) [
  | inl four ↦ rw four.0 refl
  | inr other ↦ elim (eqb_tells format 5) [
    | inl five ↦ rw (other.0, five.0) refl
    | inr another ↦ rw (other.0, another.0) h
  ]
]

or_cases : (a b : Bool) → (a || b) ≡ true → (a ≡ true) ⊎ (b ≡ true)
or_cases true b h = inl refl
or_cases false b h = inr h

or_left : (a b : Bool) → a ≡ true → (a || b) ≡ true
or_left a b h = rw h refl

or_right : (a b : Bool) → b ≡ true → (a || b) ≡ true
or_right true b h = refl
or_right false b h = h

equal : (a b : ℕ) → (a == b) ≡ true → a ≡ b
equal a b h = grind (arith, nat_tests, h)

same_test : (a b : ℕ) → a ≡ b → (a == b) ≡ true
same_test a b e = grind (arith, nat_tests, e)

-- a field that is nil or a number that isn't negative
nil_or_count : (births : List ℕ) (f : File) → f.base % 4 ≡ 0 → (s : Firsts f) → (w : ℕ) → (is_nil_word f w ≡ true) ⊎ (is_some (natural_in_word w) ≡ true)
    → (translated f w == nil_word (memory_of births f) || is_some (natural_of_word (translated f w))) ≡ true
nil_or_count births f aligned s w (inl h) =
    let e : w ≡ nil_in f = equal w (nil_in f) h in
    or_left _ _ (same_test _ _ (ap (translated f) e ∙ translated_nil births f aligned s))
nil_or_count births f aligned s w (inr h) = or_right _ _ (ap is_some (count_translated f w) ∙ h)

pc_some : (f : File) (w m : ℕ) → names f (is_pc_of w) m ≡ true → is_some (natural_in_word w) ≡ true
pc_some f w m h = go (named f m) h
  where
    some_if : (g : ℕ → Bool) (r : Option ℕ) → option_map_or g r false ≡ true → is_some r ≡ true
    some_if g None h = absurd (cc)
    some_if g (Some n) h = refl

    go : (r : Option FileObject) → option_map_or (is_pc_of w) r false ≡ true → is_some (natural_in_word w) ≡ true
    go None h = absurd (cc)
    go (Some o) h = some_if _ (natural_in_word w) (and_true (is_file_method o) _ h).1

stackp_some : (size w : ℕ) → is_stackp size w ≡ true → is_some (natural_in_word w) ≡ true
stackp_some size w h = go (natural_in_word w) h
  where
    go : (r : Option ℕ) → option_map_or (λ n. leb n size) r false ≡ true → is_some r ≡ true
    go None h = absurd (cc)
    go (Some n) h = refl

stackp_within : (size w : ℕ) → is_stackp size w ≡ true → unwrap_or (natural_in_word w) 0 ≤ size
stackp_within size w h = go (natural_in_word w) h
  where
    below : (n : ℕ) → leb n size ≡ true → n ≤ size
    below n h = grind (arith, nat_tests, h)

    go : (r : Option ℕ) → option_map_or (λ n. leb n size) r false ≡ true → unwrap_or r 0 ≤ size
    go None h = omega arith
    go (Some n) h = below n h

-- ---- options

pub and_then_some : {X Y : Type 0} (g : X → Option Y) (r : Option X) (y : Y) → option_and_then g r ≡ Some y → (x : X) × (r ≡ Some x) × (g x ≡ Some y)
and_then_some g None y e = absurd (cc)
and_then_some g (Some x) y e = (x, refl, e)

pub map_some : {X Y : Type 0} (g : X → Y) (r : Option X) (y : Y) → option_map g r ≡ Some y → (x : X) × (r ≡ Some x) × (g x ≡ y)
map_some g None y e = absurd (cc)
map_some g (Some x) y e = (x, refl, cc)

pub passes_some : {X : Type 0} (g : X → Bool) (r : Option X) → option_map_or g r false ≡ true → (x : X) × (r ≡ Some x) × (g x ≡ true)
passes_some g None e = absurd (cc)
passes_some g (Some x) e = (x, refl, e)

pub is_some_some : {X : Type 0} (r : Option X) → is_some r ≡ true → (x : X) × (r ≡ Some x)
is_some_some None e = absurd (cc)
is_some_some (Some x) e = (x, refl)

-- ---- what a word names

pub find_visible : (p : FileObject → Bool) (os : List FileObject) (x : FileObject) → find p os ≡ Some x → is_visible x ≡ true → find p (filter is_visible os) ≡ Some x
find_visible p [] x e v = absurd (cc)
find_visible p (o ∷ os) x e v = go (p o) (is_visible o) refl refl e (find_visible p os x)
  where
    go : (b c : Bool) → p o ≡ b → is_visible o ≡ c → cond b (Some o) (find p os) ≡ Some x
        → (find p os ≡ Some x → is_visible x ≡ true → find p (filter is_visible os) ≡ Some x)
        → find p (cond c (o ∷ filter is_visible os) (filter is_visible os)) ≡ Some x
    go true true pb vb e rest = rw pb e
    go true false pb vb e rest = let same : o ≡ x = cc in absurd (cc (sym vb ∙ ap is_visible same ∙ v))
    go false true pb vb e rest = rw pb (rest e v)
    go false false pb vb e rest = rest e v

pub find_passes : (p : FileObject → Bool) (os : List FileObject) (x : FileObject) → find p os ≡ Some x → p x ≡ true
find_passes p [] x e = absurd (cc)
find_passes p (o ∷ os) x e = go (p o) refl e (find_passes p os x)
  where
    go : (b : Bool) → p o ≡ b → cond b (Some o) (find p os) ≡ Some x → (find p os ≡ Some x → p x ≡ true) → p x ≡ true
    go true pb e rest = let same : o ≡ x = cc in ap p (sym same) ∙ pb
    go false pb e rest = rest e

pub named_aligned : (f : File) (word : ℕ) (x : FileObject) → f.base % 4 ≡ 0 → named f word ≡ Some x → word % 4 ≡ 0
unfolding named
named_aligned f word x aligned e =
    let at : address_in f x ≡ word = equal _ _ (find_passes (λ o. address_in f o == word) f.objects x e) in
    omega (arith, at, aligned)

pub visible_named : (f : File) (word : ℕ) (x : FileObject) → named f word ≡ Some x → is_visible x ≡ true → find (λ o. address_in f o == word) (visible f) ≡ Some x
unfolding named visible
visible_named f word x e v = find_visible (λ o. address_in f o == word) f.objects x e v

pub context_seen : (y : FileObject) → (y.class == context_class) ≡ true → is_visible y ≡ true
context_seen y h = let is : y.class ≡ context_class = equal y.class context_class h in ap (λ (n : ℕ). not (n == 16)) is

-- a word that isn't lost and names an object names a visible one
pub seen : (f : File) (word : ℕ) (x : FileObject) → f.base % 4 ≡ 0 → is_lost f word ≡ false → named f word ≡ Some x → is_visible x ≡ true
seen f word x aligned kept e = go (word % 4 == 0) (names f is_visible word) (same_test _ _ (named_aligned f word x aligned e)) kept (ap (λ (r : Option FileObject). option_map_or is_visible r false) e)
  where
    go : (b c : Bool) → b ≡ true → (b && not c) ≡ false → c ≡ is_visible x → is_visible x ≡ true
    go true true h g e = sym e
    go true false h g e = absurd (cc)
    go false c h g e = absurd (cc)

-- it stands in memory at its address
pub at_named : (births : List ℕ) (f : File) (word : ℕ) (x : FileObject) (e : named f word ≡ Some x) (v : is_visible x ≡ true)
    → heap_object (memory_of births f) (address_named f word) ≡ Some (loaded f (slice_index births (0 + (stands_named births f word x e v).j)) x)
at_named births f word x e v =
    let s = stands_named births f word x e v in
    let there : slice_get (visible f) s.j ≡ Some x = sym (ap (option_and_then (slice_get (visible f))) s.number)
    ∙ sym (find-number (λ o. address_in f o == word) (visible f)) ∙ visible_named f word x e v in
    object_at-address (memory_of births f) (address_named f word) s.j s.at ∙ slice_get-loaded_from births f 0 (visible f) s.j
    ∙ ap (option_map (λ o. loaded f (slice_index births (0 + s.j)) o)) there

there_named : (births : List ℕ) (f : File) (word : ℕ) (x : FileObject) → named f word ≡ Some x → is_visible x ≡ true → is_object (memory_of births f) (address_named f word) ≡ true
there_named births f word x e v = stands_there births f word (stands_named births f word x e v)

class_in : (births : List ℕ) (f : File) (word : ℕ) (x : FileObject) → named f word ≡ Some x → is_visible x ≡ true → class_at (memory_of births f) (address_named f word) ≡ x.class
class_in births f word x e v = ap (λ (o : Option Object). option_map_or (λ (y : Object). y.class) o 0) (at_named births f word x e v)

format_in : (births : List ℕ) (f : File) (word : ℕ) (x : FileObject) → named f word ≡ Some x → is_visible x ≡ true → format_at (memory_of births f) (address_named f word) ≡ plain_format x.format
format_in births f word x e v = ap (λ (o : Option Object). option_map_or (λ (y : Object). y.format) o 0) (at_named births f word x e v)

slots_in : (births : List ℕ) (f : File) (word : ℕ) (x : FileObject) → named f word ≡ Some x → is_visible x ≡ true → slot_count_of (memory_of births f) (address_named f word) ≡ length x.words
slots_in births f word x e v = ap (λ (o : Option Object). option_map_or (λ (y : Object). length y.words) o 0) (at_named births f word x e v) ∙ length-loaded_words f x.format x.words

translated_named : (f : File) (word : ℕ) (x : FileObject) → f.base % 4 ≡ 0 → named f word ≡ Some x → translated f word ≡ address_named f word
translated_named f word x base_is e = let z : (word % 4 == 0) ≡ true = same_test _ _ (named_aligned f word x base_is e) in rw z refl

plain_method : (format : ℕ) → is_method_format (plain_format format) ≡ is_method_format format
plain_method format = elim (eqb_tells format 4) [
  | inl four ↦ ap (λ n. is_method_format (plain_format n)) four.1 ∙ ap is_method_format (sym four.1)
  | inr other ↦ elim (eqb_tells format 5) [
    | inl five ↦ ap (λ n. is_method_format (plain_format n)) five.1 ∙ ap is_method_format (sym five.1)
    | inr another ↦ rw (other.0, another.0) refl
  ]
]

-- a field that is nil or an address at which something holds
nil_or_named : (births : List ℕ) (f : File) → f.base % 4 ≡ 0 → (s : Firsts f) (p : FileObject → Bool) (q : ℕ → Bool) (w : ℕ) → is_lost f w ≡ false
    → (is_nil_word f w ≡ true) ⊎ (names f p w ≡ true) → ((x : FileObject) → named f w ≡ Some x → is_visible x ≡ true → p x ≡ true → q (address_named f w) ≡ true)
    → (translated f w == nil_word (memory_of births f) || q (translated f w)) ≡ true
nil_or_named births f base_is s p q w kept (inl h) holds =
    let e : w ≡ nil_in f = equal w (nil_in f) h in
    or_left _ _ (same_test _ _ (ap (translated f) e ∙ translated_nil births f base_is s))
nil_or_named births f base_is s p q w kept (inr h) holds =
    let r = passes_some p (named f w) h in
    or_right _ _ (ap q (translated_named f w r.0 base_is r.1) ∙ holds r.0 r.1 (seen f w r.0 base_is kept r.1) r.2)

sender_sound : (births : List ℕ) (f : File) → f.base % 4 ≡ 0 → (s : Firsts f) (w : ℕ) → (is_nil_word f w ≡ true) ⊎ (names f fault.is_file_context w ≡ true)
    → is_sender (memory_of births f) (translated f w) ≡ true
sender_sound births f base_is s w (inl h) =
    let e : w ≡ nil_in f = equal w (nil_in f) h in
    let there : is_object (memory_of births f) (nil_word (memory_of births f)) ≡ true =
    ap (is_object (memory_of births f)) (nil_of-memory births f s) ∙ stands_there births f (nil_in f) (nil_stands births f s) in
    ap (is_sender (memory_of births f)) (ap (translated f) e ∙ translated_nil births f base_is s) ∙ is_sender-nil (memory_of births f) there
sender_sound births f base_is s w (inr h) =
    let r = passes_some fault.is_file_context (named f w) h in
    let v = context_seen r.0 r.2 in
    ap (is_sender (memory_of births f)) (translated_named f w r.0 base_is r.1)
    ∙ is_sender-context (memory_of births f) (address_named f w) (there_named births f w r.0 r.1 v) (class_in births f w r.0 r.1 v ∙ equal r.0.class 36 r.2)

both_true : (a b : Bool) → a ≡ true → b ≡ true → (a && b) ≡ true
both_true a b p q = rw (p, q) refl

-- what is needed of a file beside its faults
pub record Ground (f : File) (special : ℕ) : Type 0 where
  pub sound : IsSoundFile f special
  pub aligned : f.base % 4 ≡ 0
  pub table : Table f
  pub first : Firsts f

record ContextFacts (f : File) (o : FileObject) : Type 0 where
  class : (o.class == context_class) ≡ true
  three : o.format ≡ 3
  long : 6 ≤ length o.words
  slots : (length o.words == 22 || length o.words == 62) ≡ true
  pc : (is_nil_word f (get_or o.words 1 0) ≡ true) ⊎ (is_some (natural_in_word (get_or o.words 1 0)) ≡ true)
  stackp : (is_nil_word f (get_or o.words 2 0) ≡ true) ⊎ (is_some (natural_in_word (get_or o.words 2 0)) ≡ true)
  depth : stackp_in_words o.words ≤ length o.words - context_fields
  sender : (is_nil_word f (get_or o.words 0 0) ≡ true) ⊎ (names f fault.is_file_context (get_or o.words 0 0) ≡ true)
  method : (is_nil_word f (get_or o.words 3 0) ≡ true) ⊎ (names f is_file_method (get_or o.words 3 0) ≡ true)
  closure : (is_nil_word f (get_or o.words 4 0) ≡ true) ⊎ (names f (λ x. x.class == 37) (get_or o.words 4 0) ≡ true)
  kept : NoneLost f o.words

either : {A B C : Type 0} → A ⊎ B → (B → C) → A ⊎ C
either (inl a) g = inl a
either (inr b) g = inr (g b)

depth_within : (f : File) (special : ℕ) (o : FileObject) → Ground f special
    → (is_nil_word f (get_or o.words 2 0) ≡ true) ⊎ (is_stackp (length o.words - context_fields) (get_or o.words 2 0) ≡ true) → stackp_in_words o.words ≤ length o.words - context_fields
depth_within f special o g (inr h) = stackp_within (length o.words - context_fields) (get_or o.words 2 0) h
depth_within f special o g (inl h) =
    let e : get_or o.words 2 0 ≡ nil_in f = equal (get_or o.words 2 0) (nil_in f) h in
    let even : get_or o.words 2 0 % 2 ≡ 0 = (let a = nil_aligned f g.aligned g.first in omega (arith, e, a)) in
    let none : stackp_in_words o.words ≡ 0 = ap (λ (r : Option ℕ). unwrap_or r 0) (natural_even (get_or o.words 2 0) even) in
    omega (arith, none)

context_facts : (f : File) (special j : ℕ) (o : FileObject) → Ground f special → slice_get (visible f) j ≡ Some o → (o.class == context_class) ≡ true → ContextFacts f o
context_facts f special j o g e h =
    let parts = seven _ _ _ _ _ _ _ (context_at f special j o g.sound e h) in
    let all = fine_at f special j o g.sound e in
    let context = all.context h in
    record {
      class = h;
      three = context.0;
      long = context.1;
      slots = parts.slots;
      pc = either (or_cases _ _ parts.pc) (pc_some f (get_or o.words 1 0) (get_or o.words 3 0));
      stackp = either (or_cases _ _ parts.stackp) (stackp_some (length o.words - context_fields) (get_or o.words 2 0));
      depth = depth_within f special o g (or_cases _ _ parts.stackp);
      sender = or_cases _ _ parts.sender;
      method = or_cases _ _ parts.method;
      closure = or_cases _ _ parts.closure;
      kept = all.pointers (ap is_pointer_format context.0);
    }

-- of the flags at most isImmutable is set, and of a context's none
one_flag : (on : Bool) → flag_bits (with_immutable on no_flags) < 2
one_flag true = omega arith
one_flag false = omega arith

no_flag : (on context : Bool) → context ≡ true → flag_bits (with_immutable (on && not context) no_flags) ≡ 0
no_flag true context e = ap (λ b. flag_bits (with_immutable (not b) no_flags)) e
no_flag false context e = refl

context_sound : (births : List ℕ) (f : File) (special j : ℕ) (o : FileObject) → Ground f special → ContextFacts f o → IsSoundContext (memory_of births f) (loaded f (slice_index births j) o)
context_sound births f special j o g c = record {
  flags = no_flag o.fixed (o.class == context_class) c.class;
  format = ap plain_format c.three;
  slots = ap (λ n. n == 22 || n == 62) (length-loaded_words f o.format o.words) ∙ c.slots;
  sender = ap (is_sender (memory_of births f)) (read 0 (omega (arith, c.long))) ∙ sender_sound births f g.aligned g.first (get_or o.words 0 0) c.sender;
  pc = at 1 (omega (arith, c.long)) c.pc;
  stackp = at 2 (omega (arith, c.long)) c.stackp;
  depth =
      let d : depth_in (loaded_words f o.format o.words) ≡ stackp_in_words o.words = ap (λ (r : Option ℕ). unwrap_or r 0) (ap natural_of_word (read 2 (omega (arith, c.long))) ∙ count_translated f (get_or o.words 2 0)) in
      let w = c.depth in
      let l = length-loaded_words f o.format o.words in
      omega (arith, d, w, l);
  method = ap (λ w. w == nil_word (memory_of births f) || is_method_address (memory_of births f) w) (read 3 (omega (arith, c.long)))
      ∙ nil_or_named births f g.aligned g.first is_file_method (is_method_address (memory_of births f)) (get_or o.words 3 0) (c.kept 3 (omega (arith, c.long))) c.method
      (λ x e v p. both_true _ _ (there_named births f (get_or o.words 3 0) x e v) (ap is_method_format (format_in births f (get_or o.words 3 0) x e v) ∙ plain_method x.format ∙ p));
  closure = ap (λ w. w == nil_word (memory_of births f) || is_closure_address (memory_of births f) w) (read 4 (omega (arith, c.long)))
      ∙ nil_or_named births f g.aligned g.first (λ x. x.class == 37) (is_closure_address (memory_of births f)) (get_or o.words 4 0) (c.kept 4 (omega (arith, c.long))) c.closure
      (λ x e v p. both_true _ _ (there_named births f (get_or o.words 4 0) x e v) (ap (λ n. n == 37) (class_in births f (get_or o.words 4 0) x e v) ∙ p));
}
  where
    words : loaded_words f o.format o.words ≡ map (translated f) o.words
    words = words_pointers f o.format o.words (ap is_pointer_format c.three)

    read : (k : ℕ) → k < length o.words → get_or (loaded_words f o.format o.words) k 0 ≡ translated f (get_or o.words k 0)
    read k h = ap (λ (ws : List ℕ). get_or ws k 0) words ∙ get_or-map (translated f) o.words k 0 0 h

    at : (k : ℕ) → k < length o.words → (is_nil_word f (get_or o.words k 0) ≡ true) ⊎ (is_some (natural_in_word (get_or o.words k 0)) ≡ true)
        → (get_or (loaded_words f o.format o.words) k 0 == nil_word (memory_of births f) || is_some (natural_of_word (get_or (loaded_words f o.format o.words) k 0))) ≡ true
    at k h d = ap (λ w. w == nil_word (memory_of births f) || is_some (natural_of_word w)) (read k h) ∙ nil_or_count births f g.aligned g.first (get_or o.words k 0) d

header_known : (r : Option ℕ) → option_map_or is_header r false ≡ true → r ≡ Some (unwrap_or r 0)
header_known None h = absurd (cc)
header_known (Some n) h = refl

header_valid : (r : Option ℕ) → option_map_or is_header r false ≡ true → is_header (unwrap_or r 0) ≡ true
header_valid None h = absurd (cc)
header_valid (Some n) h = h

method_from : (f : File) (j : ℕ) (o : FileObject) → is_pointer_format o.format ≡ false → option_map_or is_header (natural_in_word (slice_index o.words 0)) false ≡ true
    → literal_count (header_in_words o.words) + (cond (ltb 0 (unused_bytes o.format)) 1 0) < length o.words → IsSoundMethod (loaded f j o)
method_from f j o p known fits =
    let header : method_header (loaded_words f o.format o.words) ≡ header_in_words o.words = header_loaded f j o p (omega (arith, fits)) in
    let l = length-loaded_words f o.format o.words in
    let Q : ℕ → Type 0 = λ h. literal_count h + (cond (ltb 0 (unused_bytes o.format)) 1 0) < length o.words in
    let R : ℕ → Type 0 = λ n. literal_count (method_header (loaded_words f o.format o.words)) + (cond (ltb 0 (unused_bytes o.format)) 1 0) < n in
    let S : ℕ → Type 0 = λ u. literal_count (method_header (loaded_words f o.format o.words)) + (cond (ltb 0 (unused_bytes u)) 1 0) < length (loaded_words f o.format o.words) in
    record {
      header = ap natural_of_word (method_head f o.format o.words p (omega (arith, fits))) ∙ count_same (get_or o.words 0 0) ∙ header_known (natural_in_word (get_or o.words 0 0)) known ∙ ap Some (sym header);
      valid = ap is_header header ∙ header_valid (natural_in_word (get_or o.words 0 0)) known;
      literals = subst S (sym (plain_others o.format p)) (subst R (sym l) (subst Q (sym header) fits));
    }

method_sound : (births : List ℕ) (f : File) (special j : ℕ) (o : FileObject) → Ground f special → slice_get (visible f) j ≡ Some o → is_pointer_format o.format ≡ false → is_method_format o.format ≡ true → IsSoundMethod (loaded f (slice_index births j) o)
method_sound births f special j o g e p m =
    let body = and_true (option_map_or is_header (natural_in_word (slice_index o.words 0)) false) _ (method_body_at f special j o g.sound e m) in
    method_from f (slice_index births j) o p body.0 (less (literal_count (header_in_words o.words) + (cond (ltb 0 (unused_bytes o.format)) 1 0)) (length o.words) body.1)
  where
    less : (a b : ℕ) → ltb a b ≡ true → a < b
    less a b h = grind (arith, nat_tests, h)

-- formats stay what they are
plain_pointer : (format : ℕ) → is_pointer_format (plain_format format) ≡ is_pointer_format format
plain_pointer format = elim (eqb_tells format 4) [
  | inl four ↦ ap (λ n. is_pointer_format (plain_format n)) four.1 ∙ ap is_pointer_format (sym four.1)
  | inr other ↦ elim (eqb_tells format 5) [
    | inl five ↦ ap (λ n. is_pointer_format (plain_format n)) five.1 ∙ ap is_pointer_format (sym five.1)
    | inr another ↦ rw (other.0, another.0) refl
  ]
]

method_is_other : (format : ℕ) → is_method_format format ≡ true → is_pointer_format format ≡ false
method_is_other format h = grind (arith, nat_tests, h)

references_sound : (births : List ℕ) (f : File) (j : ℕ) (o : FileObject) → IsFine f o → AllPass (is_reference (memory_of births f)) (references_in (loaded f j o))
references_sound births f j o fine = go (is_pointer_format o.format) (is_method_format o.format) refl refl
  where
    some_pass : (b : Bool) (ws : List ℕ) → AllPass (is_reference (memory_of births f)) ws → AllPass (is_reference (memory_of births f)) (cond b (drop 1 ws) ws)
    some_pass false ws all k d h = all k d h
    some_pass true ws all k d h =
        ap (is_reference (memory_of births f)) (get_or-drop 1 ws k d) ∙ all (1 + k) d (let l = length-drop 1 ws in omega (arith, l, h))

    go : (b c : Bool) → is_pointer_format o.format ≡ b → is_method_format o.format ≡ c → AllPass (is_reference (memory_of births f)) (references_in (loaded f j o))
    go true c eb ec =
        let is : references_in (loaded f j o) ≡ cond (o.class == context_class) (drop 1 (map (translated f) o.words)) (map (translated f) o.words) =
        rw (plain_pointer o.format, eb) (ap (λ (ws : List ℕ). cond (o.class == context_class) (drop 1 ws) ws) (words_pointers f o.format o.words eb)) in
        passes_along births f _ _ is (some_pass (o.class == context_class) (map (translated f) o.words) (passes_map births f o.words (fine.pointers eb)))
    go false true eb ec =
        let m = (fine.method eb ec).0 in
        let some_words : 0 < length o.words = (let fits = m.fits in omega (arith, fits)) in
        let header = header_loaded f j o eb some_words in
        let is : references_in (loaded f j o) ≡ map (translated f) (literals_in_words o.words) =
        rw (plain_pointer o.format, eb, plain_method o.format, ec) (ap (λ h. take (literal_count h) (drop 1 (loaded_words f o.format o.words))) header ∙ method_literals f o.format o.words m) in
        passes_along births f _ _ is (passes_map births f (literals_in_words o.words) (fine.method eb ec).1)
    go false false eb ec =
        let is : references_in (loaded f j o) ≡ [] = rw (plain_pointer o.format, eb, plain_method o.format, ec) refl in
        passes_along births f _ _ is (λ k d h. absurd (omega (arith, h)))

pub index_at : (f : File) (special j : ℕ) (o : FileObject) → IsSoundFile f special → slice_get (visible f) j ≡ Some o → is_class_index o.class ≡ true
unfolding bad_class
index_at f special j o s e =
    let p = find_none_at (λ o. ltb o.class 4 || not (has_entry f o.class)) (visible f) j o (map_none (λ o. o.place) (find (λ o. ltb o.class 4 || not (has_entry f o.class)) (visible f)) s.classes) e in
    let high = first (ltb o.class 4) _ p in
    let seen : is_visible o ≡ true = (visible_from f j o e).passes in
    rw (above o.class high) seen
  where
    first : (a b : Bool) → (a || b) ≡ false → a ≡ false
    first true b h = absurd (cc)
    first false b h = refl

    above : (n : ℕ) → ltb n 4 ≡ false → ltb 3 n ≡ true
    above n h = grind (arith, nat_tests, h)

never_weak : (format : ℕ) → is_weak (plain_format format) ≡ false
never_weak format = elim (eqb_tells format 4) [
  | inl four ↦ rw four.0 refl
  | inr other ↦ elim (eqb_tells format 5) [
    | inl five ↦ rw (other.0, five.0) refl
    | inr another ↦ rw (other.0, another.0) (neither (format == 4) (format == 5) other.0 another.0)
  ]
]
  where
    neither : (a b : Bool) → a ≡ false → b ≡ false → (a || b) ≡ false
    neither a b p q = rw (p, q) refl

object_sound : (births : List ℕ) (f : File) (special j : ℕ) (o : FileObject) → Ground f special → slice_get (visible f) j ≡ Some o → IsSoundObject (memory_of births f) (loaded f (slice_index births j) o)
object_sound births f special j o g e = record {
  kind = index_at f special j o g.sound e;
  flags = one_flag (o.fixed && not (o.class == context_class));
  plain = never_weak o.format;
  shape = ap (format_allows (plain_format o.format)) (length-loaded_words f o.format o.words)
      ∙ shape_plain o.format (length o.words) (and_true (has_shape o.format (length o.words)) _ (formed_at f special j o g.sound e)).0;
  references = references_sound births f (slice_index births j) o (fine_at f special j o g.sound e);
  context = λ h. context_sound births f special j o g (context_facts f special j o g e h);
  method = λ h. let m : is_method_format o.format ≡ true = sym (plain_method o.format) ∙ h in method_sound births f special j o g e (method_is_other o.format m) m;
}

-- ---- the class table

get_filled : (f : File) (n i : ℕ) → i < n → is_nil_word f (entry_in f i) ≡ false → get (classes_at f n) i ≡ Some (address_named f (entry_in f i))
get_filled f zero i h e = absurd (omega (arith, h))
get_filled f (suc n) i h e = go (is_nil_word f (entry_in f n)) refl (λ (below : i < n). get_filled f n i below e) (eqb_tells i n)
  where
    go : (b : Bool) → is_nil_word f (entry_in f n) ≡ b → (i < n → get (classes_at f n) i ≡ Some (address_named f (entry_in f i))) → ((i == n) ≡ true) × (i ≡ n) ⊎ ((i == n) ≡ false) × (i ≢ n) → get (classes_at f (suc n)) i ≡ Some (address_named f (entry_in f i))
    go true en rest (inl same) = let wrong : true ≡ false = sym en ∙ ap (λ k. is_nil_word f (entry_in f k)) (sym same.1) ∙ e in absurd (cc)
    go true en rest (inr other) = rw en (rest (omega (arith, h, other.1)))
    go false en rest (inl same) = rw en (get-insert nat_cmp_total (classes_at f n) n (address_named f (entry_in f n)) i
        ∙ ap (λ k. cond (eq_by_cmp nat_cmp k n) (Some (address_named f (entry_in f n))) (get (classes_at f n) k)) same.1
        ∙ ap (λ b. cond b (Some (address_named f (entry_in f n))) (get (classes_at f n) n)) (ties_same n)
        ∙ ap (λ k. Some (address_named f (entry_in f k))) (sym same.1))
    go false en rest (inr other) = rw en (get-insert nat_cmp_total (classes_at f n) n (address_named f (entry_in f n)) i
        ∙ ap (λ b. cond b (Some (address_named f (entry_in f n))) (get (classes_at f n) i)) (ties_other i n other.1)
        ∙ rest (omega (arith, h, other.1)))

-- what the table has comes from an entry
pub record FromEntry (f : File) (n i a : ℕ) : Type 0 where
  pub below : i < n
  pub filled : is_nil_word f (entry_in f i) ≡ false
  pub address : a ≡ address_named f (entry_in f i)

some_same : (a b : ℕ) → Some a ≡ Some b → a ≡ b
some_same a b e = cc

pub from_entry : (f : File) (n i a : ℕ) → get (classes_at f n) i ≡ Some a → FromEntry f n i a
from_entry f zero i a h = let none = get-empty {X = ℕ} nat_cmp i in absurd (cc (sym none ∙ h))
from_entry f (suc n) i a h = go (is_nil_word f (entry_in f n)) refl (from_entry f n i a) (eqb_tells i n)
  where
    later : FromEntry f n i a → FromEntry f (suc n) i a
    later r = record { below = (let b = r.below in omega (arith, b)); filled = r.filled; address = r.address }

    go : (b : Bool) → is_nil_word f (entry_in f n) ≡ b → (get (classes_at f n) i ≡ Some a → FromEntry f n i a) → ((i == n) ≡ true) × (i ≡ n) ⊎ ((i == n) ≡ false) × (i ≢ n) → FromEntry f (suc n) i a
    go true en rest c =
        let here : classes_at f (suc n) ≡ classes_at f n = rw en refl in
        later (rest (ap (λ (m : FinMap nat_cmp ℕ). get m i) (sym here) ∙ h))
    go false en rest (inl same) =
        let here : classes_at f (suc n) ≡ insert (classes_at f n) n (address_named f (entry_in f n)) = rw en refl in
        let got : get (classes_at f (suc n)) i ≡ Some (address_named f (entry_in f n)) = ap (λ (m : FinMap nat_cmp ℕ). get m i) here
        ∙ get-insert nat_cmp_total (classes_at f n) n (address_named f (entry_in f n)) i
        ∙ ap (λ k. cond (eq_by_cmp nat_cmp k n) (Some (address_named f (entry_in f n))) (get (classes_at f n) k)) same.1
        ∙ ap (λ b. cond b (Some (address_named f (entry_in f n))) (get (classes_at f n) n)) (ties_same n) in
        record {
          below = (let s = same.1 in omega (arith, s));
          filled = ap (λ k. is_nil_word f (entry_in f k)) same.1 ∙ en;
          address = let it : a ≡ address_named f (entry_in f n) = some_same _ _ (sym h ∙ got) in it ∙ ap (λ k. address_named f (entry_in f k)) (sym same.1);
        }
    go false en rest (inr other) =
        let here : classes_at f (suc n) ≡ insert (classes_at f n) n (address_named f (entry_in f n)) = rw en refl in
        let got : get (classes_at f (suc n)) i ≡ get (classes_at f n) i = ap (λ (m : FinMap nat_cmp ℕ). get m i) here
        ∙ get-insert nat_cmp_total (classes_at f n) n (address_named f (entry_in f n)) i
        ∙ ap (λ b. cond b (Some (address_named f (entry_in f n))) (get (classes_at f n) i)) (ties_other i n other.1) in
        later (rest (sym got ∙ h))

-- an entry that is filled is one of the table
entry_below : (f : File) (i : ℕ) → is_nil_word f (entry_in f i) ≡ false → i < table_size
unfolding entry_in
entry_below f i e = elim (bounded i) [ inl h ↦ h | inr h ↦ absurd (past h) ]
  where
    bounded : (i : ℕ) → (i < table_size) ⊎ (16384 ≤ i)
    bounded i = go (ltb i 16384) refl
      where
        go : (b : Bool) → ltb i 16384 ≡ b → (i < table_size) ⊎ (16384 ≤ i)
        go true h = inl (let l : i < 16384 = grind (arith, nat_tests, h) in let s = table_size_is in omega (arith, l, s))
        go false h = inr (grind (arith, nat_tests, h))

    few : (r : Option FileObject) → length (option_map_or (λ root. take 16 root.words) r []) ≤ 16
    few None = omega arith
    few (Some x) = let l = length-take 16 x.words in omega (arith, l)

    itself : (n : ℕ) → (n == n) ≡ true
    itself n = grind (arith, nat_tests)

    past : 16384 ≤ i → ⊥
    past h =
        let far : length (page_addresses f) ≤ i / 1024 = (let l = few (slice_get f.objects 4) in omega (arith, l, h)) in
        let none : slice_get (page_addresses f) (i / 1024) ≡ None = slice_get_past (page_addresses f) (i / 1024) far in
        let nil : is_nil_word f (entry_in f i) ≡ true = rw none (itself (nil_in f)) in
        absurd (cc (sym e ∙ nil))

class_filled : (f : File) (special j : ℕ) (o : FileObject) → Ground f special → slice_get (visible f) j ≡ Some o → is_nil_word f (entry_in f o.class) ≡ false
unfolding bad_class
class_filled f special j o g e =
    let s = g.sound.classes in
    let p = find_none_at (λ o. ltb o.class 4 || not (has_entry f o.class)) (visible f) j o (map_none (λ o. o.place) (find (λ o. ltb o.class 4 || not (has_entry f o.class)) (visible f)) s) e in
    not_true (is_nil_word f (entry_in f o.class)) (not_false (not (is_nil_word f (entry_in f o.class))) (second (ltb o.class 4) (not (not (is_nil_word f (entry_in f o.class)))) p))
  where
    second : (a b : Bool) → (a || b) ≡ false → b ≡ false
    second true b h = absurd (cc)
    second false b h = h

no_entry : (f : File) (n i : ℕ) → is_nil_word f (entry_in f i) ≡ true → get (classes_at f n) i ≡ None
no_entry f n i nil = go (get (classes_at f n) i) refl
  where
    go : (r : Option ℕ) → get (classes_at f n) i ≡ r → get (classes_at f n) i ≡ None
    go None e = e
    go (Some a) e = let wrong : true ≡ false = sym nil ∙ (from_entry f n i a e).filled in absurd (cc)

plain_class : (format : ℕ) → leb 1 format ≡ true → leb format 5 ≡ true → (leb 1 (plain_format format) && leb (plain_format format) 3) ≡ true
plain_class format low high = elim (eqb_tells format 4) [
  | inl four ↦ rw four.0 refl
  | inr other ↦ elim (eqb_tells format 5) [
    | inl five ↦ rw (other.0, five.0) refl
    | inr another ↦ rw (other.0, another.0) (both_true _ _ low (small format high other.1 another.1))
  ]
]
  where
    small : (n : ℕ) → leb n 5 ≡ true → n ≢ 4 → n ≢ 5 → leb n 3 ≡ true
    small n h a b = grind (arith, nat_tests, h, a, b)

class_sound : (f : File) (birth i : ℕ) (c : ClassAt f i (entry_in f i)) → IsSoundClass i (loaded f birth c.class)
class_sound f birth i c = record {
  format = plain_class c.class.format c.low c.high;
  other = c.plain;
  slots = let l = length-loaded_words f c.class.format c.class.words in let m = least (length c.class.words) c.slots in omega (arith, l, m);
  hash = equal c.class.hash i c.hash;
}
  where
    least : (n : ℕ) → leb 3 n ≡ true → 3 ≤ n
    least n h = grind (arith, nat_tests, h)

some_object : (x y : Object) → Some x ≡ Some y → x ≡ y
some_object x y e = cc

table_sound : (births : List ℕ) (f : File) (special : ℕ) → Ground f special → IsSoundTable (memory_of births f) (classes_at f table_size)
table_sound births f special g =
    let t = g.table in
    let k = known_classes f t in
    let size = table_size_is in
    let three : is_nil_word f (entry_in f 3) ≡ false = ap (is_nil_word f) k.same ∙ not_true (is_nil_word f (entry_in f 1)) k.integers in
    record {
      within = λ index a e. let r = from_entry f table_size index a e in let b = r.below in omega (arith, b, size);
      zero = no_entry f table_size 0 (not_false (is_nil_word f (entry_in f 0)) k.zero);
      hidden = no_entry f table_size 16 (not_false (is_nil_word f (entry_in f 16)) k.free);
      integers = entry_there f table_size 1 (omega (arith, size)) (not_true (is_nil_word f (entry_in f 1)) k.integers);
      characters = entry_there f table_size 2 (omega (arith, size)) (not_true (is_nil_word f (entry_in f 2)) k.characters);
      contexts = entry_there f table_size 36 (omega (arith, size)) (not_true (is_nil_word f (entry_in f 36)) k.contexts);
      closures = entry_there f table_size 37 (omega (arith, size)) (not_true (is_nil_word f (entry_in f 37)) k.closures);
      second = get_filled f table_size 3 (omega (arith, size)) three ∙ ap (λ w. Some (address_named f w)) k.same
          ∙ sym (get_filled f table_size 1 (omega (arith, size)) (not_true (is_nil_word f (entry_in f 1)) k.integers));
      class = λ index a x e other at.
          let r = from_entry f table_size index a e in
          let c = class_is_at f index t r.below (no_test index 3 other) r.filled in
          let here = at_named births f (entry_in f index) c.class c.named_is c.visible_is in
          let same = some_object _ x (sym here ∙ ap (heap_object (memory_of births f)) (sym r.address) ∙ at) in
          subst (IsSoundClass index) same (class_sound f _ index c);
    }
  where
    no_test : (a b : ℕ) → a ≢ b → (a == b) ≡ false
    no_test a b ne = grind (arith, nat_tests, ne)

-- the special-object array
array_sound : (births : List ℕ) (f : File) (special : ℕ) → is_bad_roots f special ≡ false → IsSpecialArray (memory_of births f) (address_named f special)
unfolding is_bad_roots
array_sound births f special h =
    let r = passes_some (is_process_word f) (active_process_in f special) (not_false _ h) in
    let a = and_then_some (λ (sp : List ℕ). option_and_then (λ (link : List ℕ). option_map (λ (scheduler : List ℕ). get_or scheduler 1 0) (fields_in f 2 (get_or link 1 0))) (fields_in f 2 (get_or sp 3 0))) (special_in f special) r.0 r.1 in
    let o = and_then_some (λ (x : FileObject). cond (x.format == 2) (fields_of 51 x) None) (named f special) a.0 a.1 in
    go o.0 o.1 (o.0.format == 2) refl (is_visible o.0 && is_pointer_format o.0.format && not (fault.is_file_context o.0) && leb 51 (length o.0.words)) refl o.2
  where
    least : (n : ℕ) → leb 51 n ≡ true → 51 ≤ n
    least n h = grind (arith, nat_tests, h)

    go : (x : FileObject) → named f special ≡ Some x → (b : Bool) → (x.format == 2) ≡ b → (d : Bool) → (is_visible x && is_pointer_format x.format && not (fault.is_file_context x) && leb 51 (length x.words)) ≡ d
        → {ws : List ℕ} → cond b (cond d (Some x.words) None) None ≡ Some ws → IsSpecialArray (memory_of births f) (address_named f special)
    go x e true eb true ed h =
        let p = and_true (is_visible x && is_pointer_format x.format && not (fault.is_file_context x)) (leb 51 (length x.words)) ed in
        let q = and_true (is_visible x && is_pointer_format x.format) _ p.0 in
        let v = (and_true (is_visible x) _ q.0).0 in
        let l = slots_in births f special x e v in
        let m = least (length x.words) p.1 in
        record { format = format_in births f special x e v ∙ ap plain_format (equal x.format 2 eb); slots = omega (arith, l, m) }
    go x e true eb false ed h = absurd (cc)
    go x e false eb d ed h = absurd (cc)

-- ---- the whole

pub nil_empty : (f : File) (special : ℕ) (g : Ground f special) → length g.first.nil.words ≡ 0
nil_empty f special g =
    let s = g.first in
    let form : s.nil.format ≡ 0 = equal s.nil.format 0 (and_true (is_visible s.nil) (s.nil.format == 0) s.oddball).1 in
    let there : slice_get (visible f) 0 ≡ Some s.nil = ap (λ (xs : List FileObject). slice_get xs 0) (visible_begins f s) in
    let shape = (and_true (has_shape s.nil.format (length s.nil.words)) _ (formed_at f special 0 s.nil g.sound there)).0 in
    let P : ℕ → Type 0 = λ n. has_shape n (length s.nil.words) ≡ true in
    let zero_shape : has_shape 0 (length s.nil.words) ≡ true = subst P form shape in
    equal (length s.nil.words) 0 zero_shape

apart : (births : List ℕ) (f : File) (next : ℕ) → AreBirths births (length (visible f)) next → (j k : ℕ) (x y : Object)
    → slice_get (memory_of births f) j ≡ Some x → slice_get (memory_of births f) k ≡ Some y → x.birth ≡ y.birth → j ≡ k
apart births f next known j k x y ej ek same =
    let a = loaded_at births f j x ej in
    let b = loaded_at births f k y ek in
    known.apart j k (slice_get_within (visible f) j a.o a.there) (slice_get_within (visible f) k b.o b.there)
    (ap (λ (z : Object). z.birth) a.is ∙ same ∙ ap (λ (z : Object). z.birth) (sym b.is))

singles_at : (f : File) (s : Firsts f) (k : ℕ) (o : FileObject) → slice_get (visible f) k ≡ Some o → k < 3 → o.format ≡ 0
unfolding visible
singles_at f s k o e h = s.singles k o (ap (λ (xs : List FileObject). slice_get (filter is_visible xs) k) (sym s.objects) ∙ e) h

pub memory_sound : (births : List ℕ) (f : File) (special next : ℕ) → Ground f special → AreBirths births (length (visible f)) next → AreSoundObjects (memory_of births f)
memory_sound births f special next g known = record {
  apart = apart births f next known;
  each = λ k x e. let a = loaded_at births f k x e in let P : Object → Type 0 = IsSoundObject (memory_of births f) in subst P a.is (object_sound births f special k a.o g a.there);
}

pub memory_whole : (births : List ℕ) (f : File) (special : ℕ) (roots : Roots) → Ground f special → roots.special.0 ≡ address_named f special → AreBirths births (length (visible f)) roots.next_birth → roots.last_hash < 4194304
    → IsImageHeader roots.header → IsWhole (memory_of births f) (classes_at f table_size) roots
unfolding IsSoundHeader
memory_whole births f special roots g at known small checked = record {
  heap = memory_sound births f special roots.next_birth g known;
  first = let l = length-loaded_from births f 0 (visible f) in let three = visible_three f g.table in omega (arith, l, three);
  nil = nil_of-base births f g.first (nil_empty f special g);
  singles = λ k x e h.
      let a = loaded_at births f k x e in
      let zero_format = singles_at f g.first k a.o a.there h in
      ap (λ (z : Object). z.format) (sym a.is) ∙ ap plain_format zero_format;
  entries = table_sound births f special g;
  array = let P : ℕ → Type 0 = IsSpecialArray (memory_of births f) in subst P (sym at) (array_sound births f special g.sound.roots);
  last_hash = small;
  header = checked;
  births = λ k x e.
      let a = loaded_at births f k x e in
      let birth : slice_index births k ≡ x.birth = ap (λ (z : Object). z.birth) a.is in
      let below = known.below k (slice_get_within (visible f) k a.o a.there) in
      omega (arith, birth, below);
  indices = λ k x e.
      let a = loaded_at births f k x e in
      let filled = class_filled f special k a.o g a.there in
      let got = get_filled f table_size a.o.class (entry_below f a.o.class filled) filled in
      ap (λ (z : Object). is_some (get (classes_at f table_size) z.class)) (sym a.is) ∙ ap is_some got;
  classes = λ index a e.
      let r = from_entry f table_size index a e in
      ap (is_object (memory_of births f)) r.address ∙ stands_there births f (entry_in f index) (entry_stands births f index g.table r.below r.filled);
  special = ap (is_object (memory_of births f)) at ∙ stands_there births f special (special_stands births f special g.sound.roots);
}

pub ground_of : (bytes : List ℕ) → old_base bytes % 8 ≡ 0 → IsSoundFile (file_of bytes) (special_address bytes) → Ground (file_of bytes) (special_address bytes)
unfolding file_of
ground_of bytes base_is s = record {
  sound = s;
  aligned = omega (arith, base_is);
  table = table_parts (file_of bytes) s.table;
  first = firsts (file_of bytes) (table_parts (file_of bytes) s.table);
}

-- what was built for a file without faults
pub built_whole : (births : List ℕ) (bytes : List ℕ) (file : File) (objects : List Object) (table : FinMap nat_cmp ℕ) (roots : Roots) → file ≡ file_of bytes → IsBuilt births bytes file objects table roots
    → old_base bytes % 8 ≡ 0 → IsSoundFile (file_of bytes) (special_address bytes) → IsWhole objects table roots
built_whole births bytes file objects table roots same b base_is s =
    let r = built_roots births bytes file objects table roots same b in
    let whole = memory_whole births (file_of bytes) (special_address bytes) roots (ground_of bytes base_is s) r.special r.known r.small r.checked in
    let P : List Object → Type 0 = λ os. IsWhole os (classes_at (file_of bytes) table_size) roots in
    let Q : FinMap nat_cmp ℕ → Type 0 = λ t. IsWhole objects t roots in
    subst Q (sym (b.table_is ∙ ap (λ (f : File). classes_at f table_size) same)) (subst P (sym (b.objects_are ∙ ap (λ (f : File). loaded_from f births 0 (visible f)) same)) whole)
