-- The file that is saved of a whole memory has sound objects.
use Rattle.std.proofs.Common.{◌≡◌, ◌≢◌, ℕ, suc, ◌+◌, ◌-◌, ◌/◌, ◌%◌, ◌<◌, ◌≤◌, ◌==◌, ◌&&◌, ◌||◌, Bool, true, false, cond, leb, nat_lt, not, List, [], ◌∷◌, length, map, Option, Some, None, is_some, unwrap_or, refl, ap, ap₂, sym, ◌∙◌, arith, slice_index, subst}
use Rattle.std.specs.Option.{option_map_or}
use Rattle.std.specs.List.{AllByRecursion}
use Rattle.std.specs.Ordering.{nat_cmp}
use Rattle.std.specs.FinMap.{FinMap, get}
use Rattle.std.proofs.lemmas.List.{get_or-map}
use Rattle.std.proofs.lemmas.Bool.Decides.{nat_tests}
use Rattle.cs_heap.specs.Object.{Object, base, class_at, format_at, is_object, heap_object}
use Rattle.cs_heap.specs.Format.{format_allows, is_pointers, is_code}
use Rattle.cs_heap.proofs.Laws.{object_placed}
use Rattle.cs_model.specs.Obj.{context_class, is_header, literal_count}
use Rattle.cs_model.specs.State.{is_class_index}
use Rattle.cs_model.specs.Words.{small_value, natural_in_word, header_in_words, is_method_format, literals_in_words, unused_bytes}
use Rattle.cs_model.specs.ImageFile.{FileObject}
use Rattle.cs_model.specs.ImageFault.{is_body, is_class, is_file_context, is_file_method, is_method_body, is_pc_of, is_stackp}
use Rattle.cs_model.specs.SavedFile.{SavedFile, placed_at, saved_base}
use Rattle.cs_model.specs.SoundFile.{IsFound, NamesSaved, IsReference, IsSavedContext, IsSavedTable, saved_entry, saved_references}
use Rattle.cs_classes.specs.declared.Roots.{Roots}
use Rattle.cs_classes.specs.Meaning.{depth_in, literal_words}
use Rattle.cs_word.specs.declared.Kind.TheVariants as kind
use Rattle.cs_word.specs.Word.{natural_of_word}
use Rattle.cs_classes.specs.Sound.{IsSoundClass, IsSoundContext, IsSoundObject, IsWhole, is_reference, is_sender, is_sender_kind, is_method_address, is_closure_address, nil_word}
use Rattle.cs_save.specs.Filed.{entry_word, filed, filed_words, file_word, saved_file}
use Rattle.cs_save.proofs.Addresses.{AtAddress, object_there}
use Rattle.cs_save.proofs.Classes.{class_named, entry_is, entry_none}
use Rattle.cs_save.proofs.Elements.{AreReferences, IsFine, words_method, words_pointers}
use Rattle.cs_save.proofs.Headers.{length-filed}
use Rattle.cs_save.proofs.Meanings.{IsFiled, count_same, reference_object, word_stays}
use Rattle.cs_save.proofs.Storing.{are_classes}

-- ---- tests

pub told_same : (a b : ℕ) → (a == b) ≡ true → a ≡ b
told_same a b e = grind (arith, nat_tests, e)

pub told_apart : (a b : ℕ) → (a == b) ≡ false → a ≢ b
told_apart a b e = grind (arith, nat_tests, e)

pub test_same : (a b : ℕ) → a ≡ b → (a == b) ≡ true
test_same a b e = grind (arith, nat_tests, e)

pub test_at_most : (a b : ℕ) → a ≤ b → leb a b ≡ true
test_at_most a b e = grind (arith, nat_tests, e)

pub or_second : (a b : Bool) → (a || b) ≡ true → a ≡ false → b ≡ true
or_second true b h e = absurd (cc)
or_second false b h e = h

pub test_apart : (a b : ℕ) → a ≢ b → (a == b) ≡ false
test_apart a b e = grind (arith, nat_tests, e)

pub all_true : (a b : Bool) → a ≡ true → b ≡ true → (a && b) ≡ true
all_true a b h k = rw (h, k) refl

-- ---- what words name

-- the word of an object names it in the file
pub found_word : (xs : List Object) (table : FinMap nat_cmp ℕ) (roots : Roots) → IsFiled xs table roots → (P : FileObject → Type 0) (a : ℕ) → is_object xs a ≡ true
    → ((x : Object) → heap_object xs a ≡ Some x → (first : ℕ) → P (placed_at first (filed x))) → IsFound (saved_file xs table roots) P (file_word a)
found_word xs table roots f P a h p =
    let o = object_there xs a f.bare f.few h in
    record { number = o.number; object = filed o.object; there = o.filed_there; address = o.place; is = p o.object o.found }

pub reference_again : (xs : List Object) (table : FinMap nat_cmp ℕ) (roots : Roots) → IsFiled xs table roots → (w : ℕ) → is_reference xs w ≡ true → IsReference (saved_file xs table roots) (file_word w)
reference_again xs table roots f w h z = go (w % 4 == 0) refl
  where
    go : (b : Bool) → (w % 4 == 0) ≡ b → NamesSaved (saved_file xs table roots) (λ o. true) (file_word w)
    go true e = found_word xs table roots f (λ o. true ≡ true) w (reference_object xs w h (told_same (w % 4) 0 e)) (λ x there first. refl)
    go false e =
        let other = told_apart (w % 4) 0 e in
        let stays = word_stays w other in
        absurd (other (ap (λ v. v % 4) (sym stays) ∙ z))

references_again : (xs : List Object) (table : FinMap nat_cmp ℕ) (roots : Roots) → IsFiled xs table roots → (ws : List ℕ) → AreReferences xs ws
    → AllByRecursion (IsReference (saved_file xs table roots)) (map file_word ws)
references_again xs table roots f [] h = tt
references_again xs table roots f (w ∷ ws) h =
    (reference_again xs table roots f w (h 0 (omega arith)), references_again xs table roots f ws (λ i l. h (suc i) (omega (arith, l))))

pub object_references : (xs : List Object) (table : FinMap nat_cmp ℕ) (roots : Roots) → IsFiled xs table roots → (x : Object) → IsFine xs x
    → AllByRecursion (IsReference (saved_file xs table roots)) (saved_references (filed x))
unfolding filed
object_references xs table roots f x fine = go (is_pointers x.format) (is_code x.format) refl refl
  where
    All : List ℕ → Type 0
    All ws = AllByRecursion (IsReference (saved_file xs table roots)) ws

    go : (a b : Bool) → is_pointers x.format ≡ a → is_code x.format ≡ b
        → All (cond a (filed_words x.format x.words) (cond b (literals_in_words (filed_words x.format x.words)) []))
    go true b p m = subst All (sym (words_pointers x.format x.words p)) (references_again xs table roots f x.words (fine.pointers p))
    go false true p m =
        let fm = words_method x.format x.words p m (fine.method m) in
        subst All (sym fm.literals) (references_again xs table roots f (literal_words x.words) (fine.literals m))
    go false false p m = tt

-- ---- bodies

pub both_true : (a b : Bool) → (a && b) ≡ true → (a ≡ true) × (b ≡ true)
both_true true b h = (refl, h)
both_true false b h = absurd (cc)

pub body_formed : (xs : List Object) (x : Object) → IsSoundObject xs x → IsFine xs x → is_body (filed x).format (filed x).words ≡ true
unfolding filed
body_formed xs x s fine = rw (shape) (go (is_code x.format) refl)
  where
    fw : List ℕ
    fw = filed_words x.format x.words

    shape : format_allows x.format (length fw) ≡ true
    shape = ap (format_allows x.format) (length-filed x.format x.words) ∙ s.shape

    method : is_code x.format ≡ true → is_method_body x.format fw ≡ true
    method m =
        let p : is_pointers x.format ≡ false = let high : is_code x.format ≡ true = m in pointers_not x.format high in
        let fm = words_method x.format x.words p m (fine.method m) in
        let sm = s.method m in
        let header : option_map_or is_header (natural_in_word (slice_index fw 0)) false ≡ true = ap (λ (r : Option ℕ). option_map_or is_header r false) (fm.first ∙ sm.header) ∙ sm.valid in
        let fits = sm.literals in
        let long : literal_count (header_in_words fw) + cond (nat_lt 0 (unused_bytes x.format)) 1 0 < length fw
        = omega (arith, ap literal_count fm.header, length-filed x.format x.words, fits) in
        let few : nat_lt (literal_count (header_in_words fw) + cond (nat_lt 0 (unused_bytes x.format)) 1 0) (length fw) ≡ true = below _ _ long in
        rw (header, few) refl
      where
        below : (a b : ℕ) → a < b → nat_lt a b ≡ true
        below a b l = grind (arith, nat_tests, l)

        pointers_not : (format : ℕ) → is_code format ≡ true → is_pointers format ≡ false
        pointers_not format h = grind (arith, nat_tests, h)

    go : (b : Bool) → is_code x.format ≡ b → (not b || is_method_body x.format fw) ≡ true
    go false m = refl
    go true m = method m

-- ---- contexts

-- slot i of a context in the file
pub context_slot : (x : Object) → is_pointers x.format ≡ true → (i : ℕ) → i < length x.words → slice_index (filed x).words i ≡ file_word (slice_index x.words i)
unfolding filed
context_slot x p i l = ap (λ (ws : List ℕ). slice_index ws i) (words_pointers x.format x.words p) ∙ get_or-map file_word x.words i 0 0 l

-- nil's word stays
pub nil_stays : (w : ℕ) → w ≡ base → file_word w ≡ saved_base
unfolding file_word
nil_stays w e = ap file_word e

pub not_nil : (xs : List Object) → nil_word xs ≡ base → (w : ℕ) → file_word w ≢ saved_base → (w == nil_word xs) ≡ false
not_nil xs nil w h = test_apart w (nil_word xs) (λ e. h (nil_stays w (e ∙ nil)))

-- a context names a context as its sender
sender_context : (xs : List Object) (w : ℕ) → is_object xs w ≡ true → is_sender xs w ≡ true → (w == nil_word xs) ≡ false → (class_at xs w == context_class) ≡ true
unfolding is_sender
sender_context xs w o s n =
    let p = object_placed xs w o in
    let a : (w % 2 == 1) ≡ false = test_apart (w % 2) 1 (λ e. omega (arith, e, p.aligned)) in
    let b : (w % 4 == 2) ≡ false = test_apart (w % 4) 2 (λ e. omega (arith, e, p.aligned)) in
    let c : (w % 8 == 0) ≡ true = test_same (w % 8) 0 p.aligned in
    let s' : (is_object xs w && (w == nil_word xs || class_at xs w == context_class)) ≡ true = sym (is (w % 2 == 1) (w % 4 == 2) (w % 8 == 0) a b c) ∙ s in
    or_second (w == nil_word xs) (class_at xs w == context_class) (both_true (is_object xs w) _ s').1 n
  where
    is : (a b c : Bool) → a ≡ false → b ≡ false → c ≡ true
        → is_sender_kind xs (cond a (kind.Small (small_value w)) (cond b (kind.Character (w / 4)) (cond c (kind.Object w) (kind.Link w))))
        ≡ (is_object xs w && (w == nil_word xs || class_at xs w == context_class))
    is a b c ha hb hc = rw (ha, hb, hc) refl

-- what is read of an object at an address
at_object : (xs : List Object) (w : ℕ) (x : Object) (g : Object → ℕ) → heap_object xs w ≡ Some x → option_map_or g (heap_object xs w) 0 ≡ g x
at_object xs w x g e = ap (λ (r : Option Object). option_map_or g r 0) e

class_kept : (x : Object) (first : ℕ) → (placed_at first (filed x)).class ≡ x.class
unfolding filed
class_kept x first = refl

pub format_kept : (x : Object) (first : ℕ) → (placed_at first (filed x)).format ≡ x.format
unfolding filed
format_kept x first = refl

names_class : (xs : List Object) (table : FinMap nat_cmp ℕ) (roots : Roots) → IsFiled xs table roots → (class w : ℕ) → is_object xs w ≡ true → (class_at xs w == class) ≡ true
    → NamesSaved (saved_file xs table roots) (λ o. o.class == class) (file_word w)
names_class xs table roots f class w o h = found_word xs table roots f (λ o. (o.class == class) ≡ true) w o
    (λ x there first. ap (λ n. n == class) (class_kept x first ∙ sym (at_object xs w x (λ y. y.class) there)) ∙ h)

names_method : (xs : List Object) (table : FinMap nat_cmp ℕ) (roots : Roots) → IsFiled xs table roots → (w : ℕ) → is_method_address xs w ≡ true
    → NamesSaved (saved_file xs table roots) is_file_method (file_word w)
names_method xs table roots f w h =
    let b = both_true (is_object xs w) (is_code (format_at xs w)) h in
    found_word xs table roots f (λ o. is_file_method o ≡ true) w b.0
    (λ x there first. ap is_method_format (format_kept x first ∙ sym (at_object xs w x (λ y. y.format) there)) ∙ b.1)

names_closure : (xs : List Object) (table : FinMap nat_cmp ℕ) (roots : Roots) → IsFiled xs table roots → (w : ℕ) → is_closure_address xs w ≡ true
    → NamesSaved (saved_file xs table roots) (λ c. c.class == 37) (file_word w)
names_closure xs table roots f w h =
    let b = both_true (is_object xs w) (class_at xs w == 37) h in
    names_class xs table roots f 37 w b.0 b.1

stackp_again : (size w : ℕ) (ws : List ℕ) → slice_index ws 2 ≡ w → is_some (natural_of_word w) ≡ true → depth_in ws ≤ size → is_stackp size (file_word w) ≡ true
stackp_again size w ws at some depth = go (natural_of_word w) refl some
  where
    go : (r : Option ℕ) → natural_of_word w ≡ r → is_some r ≡ true → is_stackp size (file_word w) ≡ true
    go None e h = absurd (cc)
    go (Some n) e h =
        let read : natural_in_word (file_word w) ≡ Some n = count_same w ∙ e in
        let is : depth_in ws ≡ n = ap (λ v. unwrap_or (natural_of_word v) 0) at ∙ ap (λ (r : Option ℕ). unwrap_or r 0) e in
        ap (λ (r : Option ℕ). option_map_or (λ n. leb n size) r false) read ∙ test_at_most n size (omega (arith, is, depth))

format_of_filed : (x : Object) → (filed x).format ≡ x.format
unfolding filed
format_of_filed x = refl

length_of_filed : (x : Object) → length (filed x).words ≡ length x.words
unfolding filed
length_of_filed x = length-filed x.format x.words

pub context_again : (xs : List Object) (table : FinMap nat_cmp ℕ) (roots : Roots) → IsFiled xs table roots → nil_word xs ≡ base → (x : Object) → IsSoundContext xs x → 6 ≤ length x.words
    → is_object xs (slice_index x.words 0) ≡ true
    → ((slice_index x.words 1 == nil_word xs) ≡ false → NamesSaved (saved_file xs table roots) (is_pc_of (file_word (slice_index x.words 1))) (file_word (slice_index x.words 3)))
    → IsSavedContext (saved_file xs table roots) (filed x)
context_again xs table roots f nil x c long single pc = record {
  format = format_of_filed x ∙ c.format;
  slots = ap (λ n. n == 22 || n == 62) (length_of_filed x) ∙ c.slots;
  sender = λ h. subst (NamesSaved F is_file_context) (sym (slot 0 (omega (arith, long))))
      (names_class xs table roots f 36 (w 0) single (sender_context xs (w 0) single c.sender (other 0 (omega (arith, long)) h)));
  pc = λ h. subst (λ v. NamesSaved F (is_pc_of v) (slice_index (filed x).words 3)) (sym (slot 1 (omega (arith, long))))
      (subst (NamesSaved F (is_pc_of (file_word (w 1)))) (sym (slot 3 (omega (arith, long)))) (pc (other 1 (omega (arith, long)) h)));
  stackp = λ h. ap₂ is_stackp (ap (λ n. n - 6) (length_of_filed x)) (slot 2 (omega (arith, long)))
      ∙ stackp_again (length x.words - 6) (w 2) x.words refl (or_second _ _ c.stackp (other 2 (omega (arith, long)) h)) c.depth;
  method = λ h. subst (NamesSaved F is_file_method) (sym (slot 3 (omega (arith, long))))
      (names_method xs table roots f (w 3) (or_second _ _ c.method (other 3 (omega (arith, long)) h)));
  closure = λ h. subst (NamesSaved F (λ o. o.class == 37)) (sym (slot 4 (omega (arith, long))))
      (names_closure xs table roots f (w 4) (or_second _ _ c.closure (other 4 (omega (arith, long)) h)));
}
  where
    F : SavedFile
    F = saved_file xs table roots

    w : ℕ → ℕ
    w i = slice_index x.words i

    slot : (i : ℕ) → i < length x.words → slice_index (filed x).words i ≡ file_word (w i)
    slot i l = context_slot x (ap is_pointers c.format) i l

    other : (i : ℕ) → i < length x.words → slice_index (filed x).words i ≢ saved_base → (w i == nil_word xs) ≡ false
    other i l h = not_nil xs nil (w i) (λ e. h (slot i l ∙ e))

-- ---- the class table

pub class_again : (index : ℕ) (x : Object) → IsSoundClass index x → is_class_index x.class ≡ true → (first : ℕ) → is_class index (placed_at first (filed x)) ≡ true
unfolding filed
class_again index x c kind first =
    let long = c.slots in
    let format = both_true (leb 1 x.format) (leb x.format 3) c.format in
    let five : leb x.format 5 ≡ true = up (x.format) format.1 in
    let slots : leb 3 (length (filed_words x.format x.words)) ≡ true = test_at_most 3 _ (omega (arith, long, length-filed x.format x.words)) in
    let hash : (x.hash == index) ≡ true = test_same _ _ c.hash in
    let shown : not (x.class == 16) ≡ true = (both_true (nat_lt 3 x.class) (not (x.class == 16)) kind).1 in
    rw (shown, format.0, five, c.other, slots, hash) refl
  where
    up : (n : ℕ) → leb n 3 ≡ true → leb n 5 ≡ true
    up n h = grind (arith, nat_tests, h)

some_of : (r : Option ℕ) → is_some r ≡ true → (a : ℕ) × (r ≡ Some a)
some_of None h = absurd (cc)
some_of (Some a) h = (a, refl)

pub entry_filled : (xs : List Object) (table : FinMap nat_cmp ℕ) (roots : Roots) → IsFiled xs table roots → IsWhole xs table roots → (q : ℕ) → is_some (get table q) ≡ true
    → saved_entry (saved_file xs table roots) q ≢ saved_base
entry_filled xs table roots f w q h =
    let a = some_of (get table q) h in
    (class_named xs table roots f q a.0 a.1 (are_classes xs table roots w f.few q a.0 a.1)).1

entry_empty : (xs : List Object) (table : FinMap nat_cmp ℕ) (roots : Roots) (q : ℕ) → q < 16384 → get table q ≡ None → saved_entry (saved_file xs table roots) q ≡ saved_base
entry_empty xs table roots q l h = entry_is xs table roots q l ∙ entry_none table q h

entry_at : (table : FinMap nat_cmp ℕ) (p q : ℕ) → get table p ≡ get table q → entry_word table p ≡ entry_word table q
unfolding entry_word
entry_at table p q h = ap (λ (r : Option ℕ). option_map_or file_word r base) h

pub table_again : (xs : List Object) (table : FinMap nat_cmp ℕ) (roots : Roots) → IsFiled xs table roots → IsWhole xs table roots → IsSavedTable (saved_file xs table roots)
table_again xs table roots f w = record {
  zero = entry_empty xs table roots 0 (omega arith) w.entries.zero;
  hidden = entry_empty xs table roots 16 (omega arith) w.entries.hidden;
  integers = entry_filled xs table roots f w 1 w.entries.integers;
  characters = entry_filled xs table roots f w 2 w.entries.characters;
  contexts = entry_filled xs table roots f w 36 w.entries.contexts;
  closures = entry_filled xs table roots f w 37 w.entries.closures;
  second = entry_is xs table roots 3 (omega arith) ∙ entry_at table 3 1 w.entries.second ∙ sym (entry_is xs table roots 1 (omega arith));
  class = λ index below other there. class index below other (get table index) refl there;
}
  where
    class : (index : ℕ) → index < 16384 → index ≢ 3 → (r : Option ℕ) → get table index ≡ r → saved_entry (saved_file xs table roots) index ≢ saved_base
        → NamesSaved (saved_file xs table roots) (is_class index) (saved_entry (saved_file xs table roots) index)
    class index below other None e there = absurd (there (entry_empty xs table roots index below e))
    class index below other (Some a) e there =
        let c = are_classes xs table roots w f.few index a e in
        let n = class_named xs table roots f index a e c in
        let o = object_there xs a f.bare f.few c.object in
        subst (NamesSaved (saved_file xs table roots) (is_class index)) (sym n.0)
        (found_word xs table roots f (λ x. is_class index x ≡ true) a c.object
        (λ x here first. class_again index x (w.entries.class index a x e other here) (kind_of_object x here o) first))
      where
        kind_of_object : (x : Object) → heap_object xs a ≡ Some x → AtAddress xs a → is_class_index x.class ≡ true
        kind_of_object x here o =
            let same : x ≡ o.object = let found = o.found in cc in
            ap (λ (y : Object). is_class_index y.class) same ∙ (w.heap.each o.number o.object o.there).kind
