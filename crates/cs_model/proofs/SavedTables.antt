-- The class table, references and class indices of a sound file have no fault.
use Rattle.std.proofs.Common.{◌≡◌, ◌≢◌, ℕ, zero, suc, ◌+◌, ◌-◌, ◌%◌, ◌<◌, ◌≤◌, ◌==◌, ◌&&◌, ◌||◌, Bool, true, false, cond, not, nat_lt, leb, List, [], ◌∷◌, length, map, take, replicate, Option, Some, None, refl, ap, ap₂, sym, ◌∙◌, arith, slice_get, subst, option_map}
use Rattle.std.specs.Prelude.{flat_map}
use Rattle.std.specs.Option.{option_map_or}
use Rattle.std.specs.List.{find, AllByRecursion, list_all, range_with_len, enumerate_from}
use Rattle.std.proofs.lemmas.Bool.Decides.{nat_tests}
use Rattle.std.proofs.lemmas.List.Folds.{list_all-append}
use Rattle.cs_model.specs.Obj.{context_class}
use Rattle.cs_model.specs.Words.{is_pointer_format, is_method_format, literals_in_words}
use Rattle.cs_model.specs.ImageFile.{FileObject, is_hidden, is_nil_word, is_visible, names}
use Rattle.cs_model.specs.ImageFault.{is_oddball, has_object, begins_well, is_page, page_addresses, entry_in, has_entry, is_class, is_sound_entry, all_below, table_size, has_known_classes, is_bad_table, references, is_lost, bad_ref, bad_class}
use Rattle.cs_model.specs.SavedFile.{SavedObject, SavedFile, FitsFile, IsSeen, saved_base, saved_sizes, placed_at, page_address, free_lists, table_root, all_saved}
use Rattle.cs_model.specs.SoundFile.{IsSoundFile, IsSavedTable, NamesSaved, IsNilOr, IsReference, saved_references, saved_entry, visible_saved}
use Rattle.cs_model.proofs.SavedPlacing.{placed_file, split, is_named, nil_base}
use Rattle.cs_model.proofs.SavedEntries.{placed_get, root_words, has_page, nil_nil, entry_there, has_entry_there}
use Rattle.cs_model.proofs.SavedSeen.{all_each, find_none, find_numbered, find_flat, Anywhere, all_visible, all_seen, visible_there, names_visible}

-- ---- the first objects

at_place : (f : SavedFile) (i : ℕ) (o : SavedObject) (passes : FileObject → Bool) → slice_get (all_saved f) i ≡ Some o
    → ((first : ℕ) → passes (placed_at first o) ≡ true) → has_object (placed_file f) i passes ≡ true
at_place f i o passes e h =
    ap (λ (r : Option FileObject). option_map_or passes r false) (placed_get 0 (all_saved f) i o e) ∙ h (0 + saved_sizes (take i (all_saved f)))

both : (a b c d e : Bool) → a ≡ true → b ≡ true → c ≡ true → d ≡ true → e ≡ true → (a && b && c && d && e) ≡ true
both a b c d e ha hb hc hd he = rw (ha, hb, hc, hd, he) refl

oddball : (o : SavedObject) → IsSeen o → o.format ≡ 0 → (first : ℕ) → is_oddball (placed_at first o) ≡ true
oddball o seen format first = go (not (o.class == 0)) (not (o.class == 16)) (o.format == 0) seen (ap (λ n. n == 0) format)
  where
    go : (a b c : Bool) → (a && b) ≡ true → c ≡ true → (b && c) ≡ true
    go true b c h k = rw (h, k) refl
    go false true c h k = k
    go false false c h k = h

begins : (f : SavedFile) (limit : ℕ) → IsSoundFile f limit → begins_well (placed_file f) ≡ true
begins f limit s =
    let p = split f s.fits in
    let seen = subst (AllByRecursion IsSeen) p.objects (all_seen f limit s) in
    let formats : AllByRecursion (λ (o : SavedObject). o.format ≡ 0) (take 3 (p.nil ∷ p.false_ ∷ p.true_ ∷ p.others))
    = subst (λ (xs : List SavedObject). AllByRecursion (λ (o : SavedObject). o.format ≡ 0) (take 3 xs)) p.objects s.first in
    let at = λ (i : ℕ). ap (λ (xs : List SavedObject). slice_get xs i) p.all in
    both _ _ _ _ _
    (at_place f 0 p.nil is_oddball (at 0) (oddball p.nil seen.0 formats.0))
    (at_place f 1 p.false_ is_oddball (at 1) (oddball p.false_ seen.1.0 formats.1.0))
    (at_place f 2 p.true_ is_oddball (at 2) (oddball p.true_ seen.1.1.0 formats.1.1.0))
    (at_place f 3 free_lists (λ o. is_hidden o && o.format == 10) (at 3) (λ first. refl))
    (at_place f 4 (table_root f) (λ o. is_hidden o && o.format == 2) (at 4) (λ first. refl))

-- ---- pages

or_true : (a b : Bool) → b ≡ true → (a || b) ≡ true
or_true true b h = refl
or_true false b h = h

all_range : (p g : ℕ → ℕ) (q : ℕ → Bool) (a n : ℕ) → ((k : ℕ) → a ≤ k → k < a + n → q (g k) ≡ true) → list_all q (map g (range_with_len a n)) ≡ true
all_range p g q a zero h = refl
all_range p g q a (suc n) h = rw (h a (omega arith) (omega arith)) (all_range p g q (a + 1) n (λ k l m. h k (omega (arith, l)) (omega (arith, m))))

all_copies : (q : ℕ → Bool) (n x : ℕ) → q x ≡ true → list_all q (replicate n x) ≡ true
all_copies q zero x h = refl
all_copies q (suc n) x h = rw h (all_copies q n x h)

some_page : (pages : List (List ℕ)) (p : ℕ) → p < length pages → (entries : List ℕ) × (slice_get pages p ≡ Some entries)
some_page [] p h = absurd (omega (arith, h))
some_page (x ∷ pages) zero h = (x, refl)
some_page (x ∷ pages) (suc p) h = some_page pages p (omega (arith, h))

page_right : (f : SavedFile) → FitsFile f → (p : ℕ) → p < length f.pages → is_page (placed_file f) (page_address f.objects p) ≡ true
page_right f fits p h =
    let e = some_page f.pages p h in
    let g = has_page f fits p e.0 e.1 in
    let long : leb 1024 (length e.0) ≡ true = let l = g.long in grind (arith, nat_tests, l) in
    or_true (is_nil_word (placed_file f) (page_address f.objects p)) (names (placed_file f) (λ o. is_hidden o && o.format == 2 && leb 1024 (length o.words)) (page_address f.objects p))
    (ap (λ (r : Option FileObject). option_map_or (λ o. is_hidden o && o.format == 2 && leb 1024 (length o.words)) r false) g.named ∙ long)

pages_right : (f : SavedFile) → FitsFile f → list_all (is_page (placed_file f)) (page_addresses (placed_file f)) ≡ true
pages_right f fits =
    let q = is_page (placed_file f) in
    let front = map (page_address f.objects) (range_with_len 0 (length f.pages)) in
    ap (list_all q) (root_words f fits)
    ∙ list_all-append q front (replicate (16 - length f.pages) saved_base)
    ∙ ap₂ (λ a b. a && b)
    (all_range (λ k. k) (page_address f.objects) q 0 (length f.pages) (λ k l m. page_right f fits k (omega (arith, m))))
    (all_copies q (16 - length f.pages) saved_base (rw (nil_nil f fits) refl))

-- ---- entries

pub nil_or : (f : SavedFile) → FitsFile f → (passes : FileObject → Bool) (word : ℕ) → IsNilOr f passes word
    → (is_nil_word (placed_file f) word || names (placed_file f) passes word) ≡ true
nil_or f fits passes word h = ap (λ n. (word == n) || names (placed_file f) passes word) (nil_base f fits) ∙ go (word == saved_base) refl
  where
    go : (b : Bool) → (word == saved_base) ≡ b → (b || names (placed_file f) passes word) ≡ true
    go true e = refl
    go false e = is_named f fits passes word (h (grind (arith, nat_tests, e)))

sound_entry : (f : SavedFile) → FitsFile f → IsSavedTable f → (index : ℕ) → index < 16384 → is_sound_entry (placed_file f) index ≡ true
sound_entry f fits t index below =
    ap (λ w. index == 3 || is_nil_word (placed_file f) w || names (placed_file f) (is_class index) w) (entry_there f fits index)
    ∙ go (index == 3) refl
  where
    go : (b : Bool) → (index == 3) ≡ b → (b || is_nil_word (placed_file f) (saved_entry f index) || names (placed_file f) (is_class index) (saved_entry f index)) ≡ true
    go true e = refl
    go false e = nil_or f fits (is_class index) (saved_entry f index) (t.class index below (grind (arith, nat_tests, e)))

all_pass : (p : ℕ → Bool) (n : ℕ) → ((k : ℕ) → k < n → p k ≡ true) → all_below n p ≡ true
all_pass p zero h = refl
all_pass p (suc n) h = rw (all_pass p n (λ k l. h k (omega (arith, l)))) (h n (omega arith))

size_is : table_size ≡ 16384
unfolding table_size
size_is = refl

known_eight : (a b c d e g h i : Bool) → a ≡ true → b ≡ true → c ≡ true → d ≡ true → e ≡ true → g ≡ true → h ≡ true → i ≡ true
    → (a && b && c && d && e && g && h && i) ≡ true
known_eight a b c d e g h i ha hb hc hd he hg hh hi = rw (ha, hb, hc, hd, he, hg, hh, hi) refl

is_class_hash : (index : ℕ) (o : FileObject) → is_class index o ≡ true → (o.hash == index) ≡ true
is_class_hash index o h = last (is_visible o) (leb 1 o.format) (leb o.format 5) (not (o.class == context_class)) (leb 3 (length o.words)) (o.hash == index) h
  where
    last : (a b c d e g : Bool) → (a && b && c && d && e && g) ≡ true → g ≡ true
    last true true true true true g h = h
    last false b c d e g h = absurd (cc)
    last true false c d e g h = absurd (cc)
    last true true false d e g h = absurd (cc)
    last true true true false e g h = absurd (cc)
    last true true true true false g h = absurd (cc)

known : (f : SavedFile) → FitsFile f → IsSavedTable f → has_known_classes (placed_file f) ≡ true
known f fits t =
    known_eight _ _ _ _ _ _ _ _
    (ap not (absent 0 t.zero)) (ap not (absent 16 t.hidden)) (present 1 t.integers) (present 2 t.characters) (present 36 t.contexts) (present 37 t.closures)
    (let same : entry_in (placed_file f) 3 ≡ entry_in (placed_file f) 1 = entry_there f fits 3 ∙ t.second ∙ sym (entry_there f fits 1) in grind (arith, nat_tests, same))
    (ap (names (placed_file f) (λ o. o.hash == 1)) (entry_there f fits 1) ∙ is_named f fits (λ o. o.hash == 1) (saved_entry f 1) first)
  where
    absent : (index : ℕ) → saved_entry f index ≡ saved_base → has_entry (placed_file f) index ≡ false
    absent index e =
        let same : (saved_entry f index == saved_base) ≡ true = grind (arith, nat_tests, e) in
        has_entry_there f fits index ∙ ap not same

    present : (index : ℕ) → saved_entry f index ≢ saved_base → has_entry (placed_file f) index ≡ true
    present index e =
        let other : (saved_entry f index == saved_base) ≡ false = grind (arith, nat_tests, e) in
        has_entry_there f fits index ∙ ap not other

    first : NamesSaved f (λ o. o.hash == 1) (saved_entry f 1)
    first =
        let n = t.class 1 (omega arith) (omega arith) t.integers in
        record { number = n.number; object = n.object; there = n.there; address = n.address; is = λ k. is_class_hash 1 (placed_at k n.object) (n.is k) }

pub table_right : (f : SavedFile) (limit : ℕ) → IsSoundFile f limit → is_bad_table (placed_file f) ≡ false
unfolding is_bad_table
table_right f limit s =
    rw (
      begins f limit s,
      pages_right f s.fits,
      known f s.fits s.table,
      all_pass (is_sound_entry (placed_file f)) table_size (λ k h. sound_entry f s.fits s.table k (omega (arith, h, size_is))),
    ) refl

-- ---- references

not_lost : (f : SavedFile) (limit : ℕ) → IsSoundFile f limit → (word : ℕ) → IsReference f word → is_lost (placed_file f) word ≡ false
not_lost f limit s word h = go (word % 4 == 0) refl
  where
    go : (b : Bool) → (word % 4 == 0) ≡ b → (b && not (names (placed_file f) is_visible word)) ≡ false
    go false e = refl
    go true e = ap not (names_visible f limit s word (h (grind (arith, nat_tests, e))))

none_lost : (f : SavedFile) (limit : ℕ) → IsSoundFile f limit → (o : SavedObject) → AllByRecursion (IsReference f) (saved_references o) → (first : ℕ)
    → find (λ (e : ℕ × ℕ). is_lost (placed_file f) e.1) (references (placed_at first o)) ≡ None
none_lost f limit s o h first = go (is_pointer_format o.format) (is_method_format o.format) h
  where
    Lost : ℕ → Type 0
    Lost w = is_lost (placed_file f) w ≡ false

    go : (a b : Bool) → AllByRecursion (IsReference f) (cond a o.words (cond b (literals_in_words o.words) []))
        → find (λ (e : ℕ × ℕ). is_lost (placed_file f) e.1)
        (cond a (enumerate_from ((placed_at first o).place + 2) o.words) (cond b (enumerate_from ((placed_at first o).place + 3) (literals_in_words o.words)) [])) ≡ None
    go true b k = find_numbered (is_lost (placed_file f)) ((placed_at first o).place + 2) o.words
        (all_each (IsReference f) Lost (not_lost f limit s) o.words k)
    go false true k = find_numbered (is_lost (placed_file f)) ((placed_at first o).place + 3) (literals_in_words o.words)
        (all_each (IsReference f) Lost (not_lost f limit s) (literals_in_words o.words) k)
    go false false k = refl

pub references_right : (f : SavedFile) (limit : ℕ) → IsSoundFile f limit → bad_ref (placed_file f) ≡ None
unfolding bad_ref
references_right f limit s =
    let p = λ (e : ℕ × ℕ). is_lost (placed_file f) e.1 in
    let P : FileObject → Type 0 = λ o. find p (references o) ≡ None in
    ap (option_map (λ (e : ℕ × ℕ). e.0))
    (ap (λ (os : List FileObject). find p (flat_map references os)) (visible_there f limit s)
    ∙ find_flat p references (visible_saved f) (all_visible P f
    (all_each (λ o. AllByRecursion (IsReference f) (saved_references o)) (Anywhere P) (none_lost f limit s) f.objects s.references)))

-- ---- class indices

kind_right : (f : SavedFile) → FitsFile f → (class : ℕ) → 4 ≤ class → saved_entry f class ≢ saved_base
    → (nat_lt class 4 || not (has_entry (placed_file f) class)) ≡ false
kind_right f fits class least there =
    let low : nat_lt class 4 ≡ false = grind (arith, nat_tests, least) in
    let same : (saved_entry f class == saved_base) ≡ false = grind (arith, nat_tests, there) in
    rw (low, has_entry_there f fits class, same) refl

pub kinds_right : (f : SavedFile) (limit : ℕ) → IsSoundFile f limit → bad_class (placed_file f) ≡ None
unfolding bad_class
kinds_right f limit s =
    let p = λ (o : FileObject). nat_lt o.class 4 || not (has_entry (placed_file f) o.class) in
    let P : FileObject → Type 0 = λ o. p o ≡ false in
    ap (option_map (λ (o : FileObject). o.place))
    (ap (find p) (visible_there f limit s)
    ∙ find_none p (visible_saved f) (all_visible P f
    (all_each (λ (o : SavedObject). (4 ≤ o.class) × (saved_entry f o.class ≢ saved_base)) (Anywhere P)
    (λ o h first. kind_right f s.fits o.class h.0 h.1) f.objects s.kinds)))
