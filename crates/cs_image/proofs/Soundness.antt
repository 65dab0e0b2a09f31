-- What holds of each visible object of a file without faults.
use Rattle.std.proofs.Common.{◌≡◌, ℕ, zero, suc, ◌+◌, ◌<◌, ◌≤◌, ◌==◌, ◌&&◌, ◌||◌, inl, inr, ltb, leb, Bool, true, false, cond, not, List, [], ◌∷◌, length, filter, flat_map, get_or, Option, Some, None, refl, ap, sym, subst, ◌∙◌, arith, slice_get, slice_index, option_map, option_and_then}
use Rattle.std.specs.Option.{option_map_or, option_or}
use Rattle.std.specs.List.{find, enumerate_from}
use Rattle.std.proofs.lemmas.Bool.Decides.{nat_tests, eqb_tells}
use Rattle.cs_model.specs.Obj.{context_class, literal_count, is_header}
use Rattle.cs_model.specs.Words.{is_pointer_format, is_method_format, has_shape, header_in_words, literals_in_words, natural_in_word, unused_bytes}
use Rattle.cs_model.specs.ImageFile.{FileObject, File, Cut, is_visible, visible, stands, file_of, cut_of, words_in, special_address}
use Rattle.std.specs.List.{list_all}
use Rattle.cs_model.specs.ImageFile.{is_hidden, is_nil_word, named, names}
use Rattle.cs_model.specs.ImageFault.{begins_well, has_object, is_oddball, has_known_classes, is_page, page_addresses, is_sound_entry, entry_in, is_class, all_below, table_size, is_process_word, active_process_in, special_in, fields_of, fields_in}
use Rattle.cs_image.proofs.Below.{table_size_is}
use Rattle.cs_image.proofs.Naming.{Stands, stands_named}
use Rattle.cs_model.specs.ImageFault.{ImageFault, bad_object, is_well_formed, is_method_body, is_bad_table, bad_ref, bad_class, bad_context, is_bad_roots, is_lost, references, has_entry, is_file_context, is_sound_context}
use Rattle.cs_model.specs.ImageFault as fault
use Rattle.cs_model.specs.Image.{at_word, when}
use Rattle.cs_image.specs.Answer.{objects_fault}
use Rattle.cs_image.proofs.Scanning.{find-append}
use Rattle.cs_image.proofs.Elements.{IsFine, NoneLost}

-- ---- Booleans

pub and_true : (a b : Bool) → (a && b) ≡ true → (a ≡ true) × (b ≡ true)
and_true true b e = (refl, e)
and_true false b e = absurd (cc)

pub not_false : (a : Bool) → not a ≡ false → a ≡ true
not_false true e = refl
not_false false e = absurd (cc)

pub not_true : (a : Bool) → not a ≡ true → a ≡ false
not_true true e = absurd (cc)
not_true false e = refl

-- seven tests in a row
pub record Seven (a b c d e g h : Bool) : Type 0 where
  pub format : a ≡ true
  pub slots : b ≡ true
  pub sender : c ≡ true
  pub pc : d ≡ true
  pub stackp : e ≡ true
  pub method : g ≡ true
  pub closure : h ≡ true

pub seven : (a b c d e g h : Bool) → (a && b && c && d && e && g && h) ≡ true → Seven a b c d e g h
seven a b c d e g h all =
    let s = and_true _ h all in
    let r = and_true _ g s.0 in
    let q = and_true _ e r.0 in
    let p = and_true _ d q.0 in
    let o = and_true _ c p.0 in
    let n = and_true a b o.0 in
    record { format = n.0; slots = n.1; sender = o.1; pc = p.1; stackp = q.1; method = r.1; closure = s.1 }

-- ---- lists in which nothing passes, or of what passes

pub find_none_at : {X : Type 0} (p : X → Bool) (xs : List X) (k : ℕ) (x : X) → find p xs ≡ None → slice_get xs k ≡ Some x → p x ≡ false
find_none_at p [] k x none e = absurd (cc)
find_none_at {X} p (y ∷ xs) k x none e = go (p y) refl none (find_none_at p xs) k e
  where
    go : (b : Bool) → p y ≡ b → cond b (Some y) (find p xs) ≡ None → ((i : ℕ) (x : X) → find p xs ≡ None → slice_get xs i ≡ Some x → p x ≡ false)
        → (k : ℕ) → slice_get (y ∷ xs) k ≡ Some x → p x ≡ false
    go true py none rest k e = absurd (cc)
    go false py none rest zero e = let same : y ≡ x = cc in ap p (sym same) ∙ py
    go false py none rest (suc k) e = rest k x none e

pub record FilteredFrom {X : Type 0} (p : X → Bool) (xs : List X) (x : X) : Type 0 where
  pub k : ℕ
  pub there : slice_get xs k ≡ Some x
  pub passes : p x ≡ true

pub filter_at : {X : Type 0} (p : X → Bool) (xs : List X) (j : ℕ) (x : X) → slice_get (filter p xs) j ≡ Some x → FilteredFrom p xs x
filter_at p [] j x e = absurd (cc)
filter_at {X} p (y ∷ xs) j x e = go (p y) refl (filter_at p xs) j e
  where
    later : FilteredFrom p xs x → FilteredFrom p (y ∷ xs) x
    later r = record { k = suc r.k; there = r.there; passes = r.passes }

    go : (b : Bool) → p y ≡ b → ((i : ℕ) (x : X) → slice_get (filter p xs) i ≡ Some x → FilteredFrom p xs x) → (j : ℕ)
        → slice_get (cond b (y ∷ filter p xs) (filter p xs)) j ≡ Some x → FilteredFrom p (y ∷ xs) x
    go true py rest zero e = let same : y ≡ x = cc in record { k = 0; there = e; passes = ap p (sym same) ∙ py }
    go true py rest (suc j) e = later (rest j x e)
    go false py rest j e = later (rest j x e)

find_none_flat : {X Y : Type 0} (q : Y → Bool) (r : X → List Y) (xs : List X) (k : ℕ) (x : X) → find q (flat_map r xs) ≡ None → slice_get xs k ≡ Some x → find q (r x) ≡ None
find_none_flat q r [] k x none e = absurd (cc)
find_none_flat {X} {Y} q r (y ∷ xs) k x none e = go (find q (r y)) refl (sym (find-append q (r y) (flat_map r xs)) ∙ none) k e (find_none_flat q r xs)
  where
    go : (o : Option Y) → find q (r y) ≡ o → option_or o (find q (flat_map r xs)) ≡ None → (k : ℕ) → slice_get (y ∷ xs) k ≡ Some x
        → ((i : ℕ) (x : X) → find q (flat_map r xs) ≡ None → slice_get xs i ≡ Some x → find q (r x) ≡ None) → find q (r x) ≡ None
    go (Some z) eo h k e rest = absurd (cc)
    go None eo h zero e rest = let same : y ≡ x = cc in ap (λ z. find q (r z)) (sym same) ∙ eo
    go None eo h (suc k) e rest = rest k x h e

none_lost_in : (f : File) (place : ℕ) (words : List ℕ) → find (λ e. is_lost f e.1) (enumerate_from place words) ≡ None → NoneLost f words
none_lost_in f place [] none i h = absurd (omega (arith, h))
none_lost_in f place (w ∷ words) none i h = go (is_lost f w) refl none (none_lost_in f (place + 1) words) i h
  where
    rest : Option (ℕ × ℕ)
    rest = find (λ e. is_lost f e.1) (enumerate_from (place + 1) words)

    go : (b : Bool) → is_lost f w ≡ b → cond b (Some (place, w)) rest ≡ None → (rest ≡ None → NoneLost f words) → (i : ℕ) → i < suc (length words) → is_lost f (get_or (w ∷ words) i 0) ≡ false
    go true e none later i h = absurd (cc)
    go false e none later zero h = e
    go false e none later (suc i) h = later none i (omega (arith, h))

pub map_none : {X Y : Type 0} (g : X → Y) (r : Option X) → option_map g r ≡ None → r ≡ None
map_none g None e = refl
map_none g (Some x) e = absurd (cc)

-- ---- a file without faults

pub record IsSoundFile (f : File) (special : ℕ) : Type 0 where
  pub formed : (k : ℕ) (o : FileObject) → slice_get f.objects k ≡ Some o → is_well_formed o ≡ true
  pub table : is_bad_table f ≡ false
  pub refs : bad_ref f ≡ None
  pub classes : bad_class f ≡ None
  pub contexts : bad_context f ≡ None
  pub roots : is_bad_roots f special ≡ false

or_none : (a b : Option ImageFault) → option_or a b ≡ None → (a ≡ None) × (b ≡ None)
or_none None b e = (refl, e)
or_none (Some f) b e = absurd (cc)

when_none : (b : Bool) (f : ImageFault) → when b f ≡ None → b ≡ false
when_none true f e = absurd (cc)
when_none false f e = refl

place_none : (g : ℕ → ImageFault) (r : Option ℕ) → at_word g r ≡ None → r ≡ None
place_none g None e = refl
place_none g (Some k) e = absurd (cc)

well_formed_all : (c : Cut) → bad_object c ≡ None → (k : ℕ) (o : FileObject) → slice_get (filter stands c.objects) k ≡ Some o → is_well_formed o ≡ true
unfolding bad_object
well_formed_all c none k o e =
    let r = filter_at stands c.objects k o e in
    let p = find_none_at (λ o. stands o && not (is_well_formed o)) c.objects r.k o (map_none (λ o. o.first) (find (λ o. stands o && not (is_well_formed o)) c.objects) (first_none _ _ none)) r.there in
    not_false (is_well_formed o) (ap (λ b. b && not (is_well_formed o)) (sym r.passes) ∙ p)
  where
    first_none : (a b : Option ℕ) → option_or a b ≡ None → a ≡ None
    first_none None b e = refl
    first_none (Some x) b e = absurd (cc)

pub sound_file : (bytes : List ℕ) → at_word fault.BadObject (bad_object (cut_of (words_in bytes))) ≡ None
    → objects_fault (file_of bytes) (special_address bytes) ≡ None → IsSoundFile (file_of bytes) (special_address bytes)
unfolding file_of
sound_file bytes whole none =
    let a = or_none (when (is_bad_table (file_of bytes)) fault.BadTable) _ none in
    let b = or_none (at_word fault.BadRef (bad_ref (file_of bytes))) _ a.1 in
    let c = or_none (at_word fault.BadClass (bad_class (file_of bytes))) _ b.1 in
    let d = or_none (at_word fault.BadContext (bad_context (file_of bytes))) _ c.1 in
    let e = or_none (when (is_bad_roots (file_of bytes) (special_address bytes)) fault.BadRoots) None d.1 in
    record {
      formed = well_formed_all (cut_of (words_in bytes)) (place_none fault.BadObject (bad_object (cut_of (words_in bytes))) whole);
      table = when_none (is_bad_table (file_of bytes)) fault.BadTable a.0;
      refs = place_none fault.BadRef (bad_ref (file_of bytes)) b.0;
      classes = place_none fault.BadClass (bad_class (file_of bytes)) c.0;
      contexts = place_none fault.BadContext (bad_context (file_of bytes)) d.0;
      roots = when_none (is_bad_roots (file_of bytes) (special_address bytes)) fault.BadRoots e.0;
    }

-- ---- each visible object

pub visible_from : (f : File) (j : ℕ) (o : FileObject) → slice_get (visible f) j ≡ Some o → FilteredFrom is_visible f.objects o
unfolding visible
visible_from f j o e = filter_at is_visible f.objects j o e

pub formed_at : (f : File) (special j : ℕ) (o : FileObject) → IsSoundFile f special → slice_get (visible f) j ≡ Some o → is_well_formed o ≡ true
formed_at f special j o s e = let r = visible_from f j o e in s.formed r.k o r.there

pub context_at : (f : File) (special j : ℕ) (o : FileObject) → IsSoundFile f special → slice_get (visible f) j ≡ Some o → (o.class == context_class) ≡ true → is_sound_context f o ≡ true
unfolding bad_context
context_at f special j o s e h =
    let p = find_none_at (λ o. is_file_context o && not (is_sound_context f o)) (visible f) j o (map_none (λ o. o.place) (find (λ o. is_file_context o && not (is_sound_context f o)) (visible f)) s.contexts) e in
    not_false (is_sound_context f o) (ap (λ b. b && not (is_sound_context f o)) (sym h) ∙ p)

references_at : (f : File) (special j : ℕ) (o : FileObject) → IsSoundFile f special → slice_get (visible f) j ≡ Some o → find (λ e. is_lost f e.1) (references o) ≡ None
unfolding bad_ref
references_at f special j o s e = find_none_flat (λ e. is_lost f e.1) references (visible f) j o (map_none (λ e. e.0) (find (λ e. is_lost f e.1) (flat_map references (visible f))) s.refs) e

pub method_body_at : (f : File) (special j : ℕ) (o : FileObject) → IsSoundFile f special → slice_get (visible f) j ≡ Some o → is_method_format o.format ≡ true → is_method_body o.format o.words ≡ true
method_body_at f special j o s e m =
    let p = (and_true (has_shape o.format (length o.words)) (not (is_method_format o.format) || is_method_body o.format o.words) (formed_at f special j o s e)).1 in
    ap (λ b. not b || is_method_body o.format o.words) (sym m) ∙ p

pub fine_at : (f : File) (special j : ℕ) (o : FileObject) → IsSoundFile f special → slice_get (visible f) j ≡ Some o → IsFine f o
fine_at f special j o s e = record {
  context = λ h.
      let parts = seven _ _ _ _ _ _ _ (context_at f special j o s e h) in
      (three o.format parts.format, long (length o.words) parts.slots);
  pointers = λ p. none_lost_in f (o.place + 2) o.words (ap (find (λ e. is_lost f e.1)) (sym (pointers p)) ∙ references_at f special j o s e);
  method = λ p m.
      let fits = (and_true (option_map_or is_header (natural_in_word (slice_index o.words 0)) false) _ (method_body_at f special j o s e m)).1 in (
        record { pointers = p; method = m; fits = room (literal_count (header_in_words o.words)) (cond (ltb 0 (unused_bytes o.format)) 1 0) (length o.words) fits },
        none_lost_in f (o.place + 3) (literals_in_words o.words) (ap (find (λ e. is_lost f e.1)) (sym (methods p m)) ∙ references_at f special j o s e),
      );
}
  where
    three : (n : ℕ) → (n == 3) ≡ true → n ≡ 3
    three n h = grind (arith, nat_tests, h)

    long : (n : ℕ) → (n == 22 || n == 62) ≡ true → 6 ≤ n
    long n h = grind (arith, nat_tests, h)

    pointers : is_pointer_format o.format ≡ true → references o ≡ enumerate_from (o.place + 2) o.words
    pointers p = rw p refl

    methods : is_pointer_format o.format ≡ false → is_method_format o.format ≡ true → references o ≡ enumerate_from (o.place + 3) (literals_in_words o.words)
    methods p m = rw (p, m) refl

    room : (a b c : ℕ) → ltb (a + b) c ≡ true → a < c
    room a b c h = let less : a + b < c = grind (arith, nat_tests, h) in omega (arith, less)

-- ---- the class table

pub record Table (f : File) : Type 0 where
  pub begins : begins_well f ≡ true
  pub known : has_known_classes f ≡ true
  pub entries : all_below table_size (is_sound_entry f) ≡ true

pub table_parts : (f : File) → is_bad_table f ≡ false → Table f
unfolding is_bad_table
table_parts f h =
    let all = not_false (begins_well f && list_all (is_page f) (page_addresses f) && has_known_classes f && all_below table_size (is_sound_entry f)) h in
    let a = and_true (begins_well f && list_all (is_page f) (page_addresses f) && has_known_classes f) _ all in
    let b = and_true (begins_well f && list_all (is_page f) (page_addresses f)) _ a.0 in
    let c = and_true (begins_well f) _ b.0 in
    record { begins = c.0; known = b.1; entries = a.1 }

all_below_at : (n i : ℕ) (p : ℕ → Bool) → all_below n p ≡ true → i < n → p i ≡ true
all_below_at zero i p all h = absurd (omega (arith, h))
all_below_at (suc n) i p all h = elim (eqb_tells i n) [
  | inl same ↦ ap p same.1 ∙ (and_true (all_below n p) (p n) all).1
  | inr other ↦ all_below_at n i p (and_true (all_below n p) (p n) all).0 (omega (arith, h, other.1))
]

-- what a class names: an object that is visible and is no context
pub record NamesClass (f : File) (word : ℕ) : Type 0 where
  pub class : FileObject
  pub named_is : named f word ≡ Some class
  pub visible_is : is_visible class ≡ true
  pub plain : (class.class == context_class) ≡ false

names_class : (f : File) (i word : ℕ) → names f (is_class i) word ≡ true → NamesClass f word
names_class f i word h = go (named f word) refl h
  where
    go : (r : Option FileObject) → named f word ≡ r → option_map_or (is_class i) r false ≡ true → NamesClass f word
    go None e h = absurd (cc)
    go (Some x) e h =
        let a = and_true (is_visible x && leb 1 x.format && leb x.format 5 && not (x.class == context_class) && leb 3 (length x.words)) _ h in
        let b = and_true (is_visible x && leb 1 x.format && leb x.format 5 && not (x.class == context_class)) _ a.0 in
        let c = and_true (is_visible x && leb 1 x.format && leb x.format 5) _ b.0 in
        let d = and_true (is_visible x && leb 1 x.format) _ c.0 in
        let g = and_true (is_visible x) _ d.0 in
        record { class = x; named_is = e; visible_is = g.0; plain = not_true (x.class == context_class) c.1 }

-- a class as an entry names it
pub record ClassAt (f : File) (i word : ℕ) : Type 0 where
  pub class : FileObject
  pub named_is : named f word ≡ Some class
  pub visible_is : is_visible class ≡ true
  pub low : leb 1 class.format ≡ true
  pub high : leb class.format 5 ≡ true
  pub plain : (class.class == context_class) ≡ false
  pub slots : leb 3 (length class.words) ≡ true
  pub hash : (class.hash == i) ≡ true

class_named : (f : File) (i word : ℕ) → names f (is_class i) word ≡ true → ClassAt f i word
class_named f i word h = go (named f word) refl h
  where
    go : (r : Option FileObject) → named f word ≡ r → option_map_or (is_class i) r false ≡ true → ClassAt f i word
    go None e h = absurd (cc)
    go (Some x) e h =
        let a = and_true (is_visible x && leb 1 x.format && leb x.format 5 && not (x.class == context_class) && leb 3 (length x.words)) _ h in
        let b = and_true (is_visible x && leb 1 x.format && leb x.format 5 && not (x.class == context_class)) _ a.0 in
        let c = and_true (is_visible x && leb 1 x.format && leb x.format 5) _ b.0 in
        let d = and_true (is_visible x && leb 1 x.format) _ c.0 in
        let g = and_true (is_visible x) _ d.0 in
        record { class = x; named_is = e; visible_is = g.0; low = g.1; high = d.1; plain = not_true (x.class == context_class) c.1; slots = b.1; hash = a.1 }

or_third : (a b c : Bool) → (a || b || c) ≡ true → a ≡ false → b ≡ false → c ≡ true
or_third true b c h x y = absurd (cc)
or_third false true c h x y = absurd (cc)
or_third false false c h x y = h

other_entry : (f : File) (i : ℕ) → Table f → i < table_size → (i == 3) ≡ false → is_nil_word f (entry_in f i) ≡ false → NamesClass f (entry_in f i)
other_entry f i t h three filled =
    names_class f i (entry_in f i) (or_third (i == 3) (is_nil_word f (entry_in f i)) _ (all_below_at table_size i (is_sound_entry f) t.entries h) three filled)

pub class_is_at : (f : File) (i : ℕ) → Table f → i < table_size → (i == 3) ≡ false → is_nil_word f (entry_in f i) ≡ false → ClassAt f i (entry_in f i)
class_is_at f i t h three filled =
    class_named f i (entry_in f i) (or_third (i == 3) (is_nil_word f (entry_in f i)) _ (all_below_at table_size i (is_sound_entry f) t.entries h) three filled)

-- what is known of the entries of some indices
pub record KnownClasses (f : File) : Type 0 where
  pub zero : has_entry f 0 ≡ false
  pub free : has_entry f 16 ≡ false
  pub integers : has_entry f 1 ≡ true
  pub characters : has_entry f 2 ≡ true
  pub contexts : has_entry f 36 ≡ true
  pub closures : has_entry f 37 ≡ true
  pub same : entry_in f 3 ≡ entry_in f 1

pub known_classes : (f : File) → Table f → KnownClasses f
known_classes f t =
    let a = and_true (not (has_entry f 0) && not (has_entry f 16) && has_entry f 1 && has_entry f 2 && has_entry f 36 && has_entry f 37 && entry_in f 3 == entry_in f 1) _ t.known in
    let b = and_true (not (has_entry f 0) && not (has_entry f 16) && has_entry f 1 && has_entry f 2 && has_entry f 36 && has_entry f 37) _ a.0 in
    let c = and_true (not (has_entry f 0) && not (has_entry f 16) && has_entry f 1 && has_entry f 2 && has_entry f 36) _ b.0 in
    let d = and_true (not (has_entry f 0) && not (has_entry f 16) && has_entry f 1 && has_entry f 2) _ c.0 in
    let e = and_true (not (has_entry f 0) && not (has_entry f 16) && has_entry f 1) _ d.0 in
    let g = and_true (not (has_entry f 0) && not (has_entry f 16)) _ e.0 in
    let k = and_true (not (has_entry f 0)) (not (has_entry f 16)) g.0 in
    record { zero = not_true (has_entry f 0) k.0; free = not_true (has_entry f 16) k.1; integers = g.1; characters = e.1; contexts = d.1; closures = c.1; same = equal (entry_in f 3) (entry_in f 1) b.1 }
  where
    equal : (a b : ℕ) → (a == b) ≡ true → a ≡ b
    equal a b h = grind (arith, nat_tests, h)

-- each entry that is filled names a class
pub entry_names : (f : File) (i : ℕ) → Table f → i < table_size → is_nil_word f (entry_in f i) ≡ false → NamesClass f (entry_in f i)
entry_names f i t h filled = elim (eqb_tells i 3) [
  | inl three ↦
      let this : entry_in f i ≡ entry_in f 1 = ap (entry_in f) three.1 ∙ (known_classes f t).same in
      let P : ℕ → Type 0 = NamesClass f in
      subst P (sym this) (other_entry f 1 t (omega (arith, table_size_is)) refl (ap (is_nil_word f) (sym this) ∙ filled))
  | inr other ↦ other_entry f i t h other.0 filled
]

-- which stands
pub entry_stands : (births : List ℕ) (f : File) (i : ℕ) → Table f → i < table_size → is_nil_word f (entry_in f i) ≡ false → Stands births f (entry_in f i)
entry_stands births f i t h filled = let c = entry_names f i t h filled in stands_named births f (entry_in f i) c.class c.named_is c.visible_is

-- ---- the roots

pub special_stands : (births : List ℕ) (f : File) (special : ℕ) → is_bad_roots f special ≡ false → Stands births f special
unfolding is_bad_roots
special_stands births f special h = go (named f special) refl
  where
    held : option_map_or (is_process_word f) (active_process_in f special) false ≡ true
    held = not_false (option_map_or (is_process_word f) (active_process_in f special) false) h

    from : Option (List ℕ) → Option ℕ
    from array = option_and_then (λ special. option_and_then (λ link. option_map (λ scheduler. slice_index scheduler 1)
        (fields_in f 2 (slice_index link 1))) (fields_in f 2 (slice_index special 3))) array

    dead : special_in f special ≡ None → Stands births f special
    dead e = let none : option_map_or (is_process_word f) (from (special_in f special)) false ≡ false = ap (λ (o : Option (List ℕ)). option_map_or (is_process_word f) (from o) false) e in absurd (cc (sym held ∙ none))

    hidden : (x : FileObject) → is_visible x ≡ false → (b : Bool) → cond b (fields_of 51 x) None ≡ None
    hidden x v true = rw v refl
    hidden x v false = refl

    by_visible : (x : FileObject) → named f special ≡ Some x → (b : Bool) → is_visible x ≡ b → Stands births f special
    by_visible x e true v = stands_named births f special x e v
    by_visible x e false v = dead (ap (option_and_then (λ o. cond (o.format == 2) (fields_of 51 o) None)) e ∙ hidden x v (x.format == 2))

    go : (r : Option FileObject) → named f special ≡ r → Stands births f special
    go None e = dead (ap (option_and_then (λ o. cond (o.format == 2) (fields_of 51 o) None)) e)
    go (Some x) e = by_visible x e (is_visible x) refl

-- ---- the first objects

pub record Firsts (f : File) : Type 0 where
  pub nil : FileObject
  pub rest : List FileObject
  pub objects : f.objects ≡ nil ∷ rest
  pub oddball : is_oddball nil ≡ true
  pub three : 3 ≤ length (filter is_visible (nil ∷ rest))
  pub singles : (k : ℕ) (x : FileObject) → slice_get (filter is_visible (nil ∷ rest)) k ≡ Some x → k < 3 → x.format ≡ 0

firsts_in : (os : List FileObject) → option_map_or is_oddball (slice_get os 0) false ≡ true → option_map_or is_oddball (slice_get os 1) false ≡ true → option_map_or is_oddball (slice_get os 2) false ≡ true
    → 3 ≤ length (filter is_visible os)
firsts_in [] a b c = absurd (cc)
firsts_in (x ∷ []) a b c = absurd (cc)
firsts_in (x ∷ y ∷ []) a b c = absurd (cc)
firsts_in (x ∷ y ∷ z ∷ os) a b c =
    let p = (and_true (is_visible x) (x.format == 0) a).0 in
    let q = (and_true (is_visible y) (y.format == 0) b).0 in
    let r = (and_true (is_visible z) (z.format == 0) c).0 in
    rw (p, q, r) (omega arith)

singles_in : (os : List FileObject) → option_map_or is_oddball (slice_get os 0) false ≡ true → option_map_or is_oddball (slice_get os 1) false ≡ true → option_map_or is_oddball (slice_get os 2) false ≡ true
    → (k : ℕ) (x : FileObject) → slice_get (filter is_visible os) k ≡ Some x → k < 3 → x.format ≡ 0
singles_in [] a b c k w e h = absurd (cc)
singles_in (x ∷ []) a b c k w e h = absurd (cc)
singles_in (x ∷ y ∷ []) a b c k w e h = absurd (cc)
singles_in (x ∷ y ∷ z ∷ os) a b c k w e h =
    let p = and_true (is_visible x) (x.format == 0) a in
    let q = and_true (is_visible y) (y.format == 0) b in
    let r = and_true (is_visible z) (z.format == 0) c in
    let is : filter is_visible (x ∷ y ∷ z ∷ os) ≡ x ∷ y ∷ z ∷ filter is_visible os = rw (p.0, q.0, r.0) refl in
    go (zero_format x.format p.1) (zero_format y.format q.1) (zero_format z.format r.1) k h (sym (ap (λ (xs : List FileObject). slice_get xs k) is) ∙ e)
  where
    zero_format : (n : ℕ) → (n == 0) ≡ true → n ≡ 0
    zero_format n e = grind (arith, nat_tests, e)

    go : x.format ≡ 0 → y.format ≡ 0 → z.format ≡ 0 → (k : ℕ) → k < 3 → slice_get (x ∷ y ∷ z ∷ filter is_visible os) k ≡ Some w → w.format ≡ 0
    go p q r zero h e = let same : x ≡ w = cc in ap (λ (o : FileObject). o.format) (sym same) ∙ p
    go p q r (suc zero) h e = let same : y ≡ w = cc in ap (λ (o : FileObject). o.format) (sym same) ∙ q
    go p q r (suc (suc zero)) h e = let same : z ≡ w = cc in ap (λ (o : FileObject). o.format) (sym same) ∙ r
    go p q r (suc (suc (suc k))) h e = absurd (omega (arith, h))

pub firsts : (f : File) → Table f → Firsts f
firsts f t = go f.objects refl
  where
    abc : (begins_well f ≡ true) → (has_object f 0 is_oddball ≡ true) × (has_object f 1 is_oddball ≡ true) × (has_object f 2 is_oddball ≡ true)
    abc h =
        let a = and_true (has_object f 0 is_oddball && has_object f 1 is_oddball && has_object f 2 is_oddball && has_object f 3 (λ o. is_hidden o && o.format == 10)) _ h in
        let b = and_true (has_object f 0 is_oddball && has_object f 1 is_oddball && has_object f 2 is_oddball) _ a.0 in
        let c = and_true (has_object f 0 is_oddball && has_object f 1 is_oddball) _ b.0 in
        let d = and_true (has_object f 0 is_oddball) _ c.0 in
        (d.0, d.1, c.1)

    go : (os : List FileObject) → f.objects ≡ os → Firsts f
    go [] e = let h : false ≡ true = ap (λ (xs : List FileObject). option_map_or is_oddball (slice_get xs 0) false) (sym e) ∙ (abc t.begins).0 in absurd (cc)
    go (x ∷ os) e = record {
      nil = x;
      rest = os;
      objects = e;
      oddball = ap (λ (xs : List FileObject). option_map_or is_oddball (slice_get xs 0) false) (sym e) ∙ (abc t.begins).0;
      three = firsts_in (x ∷ os) (ap (λ (xs : List FileObject). option_map_or is_oddball (slice_get xs 0) false) (sym e) ∙ (abc t.begins).0)
          (ap (λ (xs : List FileObject). option_map_or is_oddball (slice_get xs 1) false) (sym e) ∙ (abc t.begins).1)
          (ap (λ (xs : List FileObject). option_map_or is_oddball (slice_get xs 2) false) (sym e) ∙ (abc t.begins).2);
      singles = singles_in (x ∷ os) (ap (λ (xs : List FileObject). option_map_or is_oddball (slice_get xs 0) false) (sym e) ∙ (abc t.begins).0)
          (ap (λ (xs : List FileObject). option_map_or is_oddball (slice_get xs 1) false) (sym e) ∙ (abc t.begins).1)
          (ap (λ (xs : List FileObject). option_map_or is_oddball (slice_get xs 2) false) (sym e) ∙ (abc t.begins).2);
    }

pub visible_three : (f : File) → Table f → 3 ≤ length (visible f)
unfolding visible
visible_three f t = let s = firsts f t in let P : List FileObject → Type 0 = λ xs. 3 ≤ length (filter is_visible xs) in subst P (sym s.objects) s.three
