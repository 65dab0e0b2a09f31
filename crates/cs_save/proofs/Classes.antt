-- The class table of a file that is saved.
use Rattle.std.proofs.Common.{◌≡◌, ◌≢◌, ℕ, zero, suc, ◌+◌, ◌*◌, ◌/◌, ◌%◌, ◌^◌, ◌<◌, ◌≤◌, ◌==◌, Bool, true, false, cond, leb, nat_lt, inl, inr, List, map, Option, Some, None, refl, ap, sym, ◌∙◌, arith, rules, slice_get, slice_index, option_map, nat_cmp}
use Rattle.std.specs.Option.{option_map_or}
use Rattle.std.specs.List.{range_with_len}
use Rattle.std.specs.FinMap.{FinMap, get, get-empty, gets, insert, nat_cmp-IsAntisymmetric, same_map}
use Rattle.std.specs.Cmp.{nat_cmp_total}
use Rattle.std.proofs.lemmas.Option.{slice_get_past}
use Rattle.std.proofs.lemmas.List.FromFn.{get_or-map-range_with_len, length-map-range_with_len}
use Rattle.std.proofs.lemmas.Bool.Decides.{nat_tests, eqb_tells}
use Rattle.cs_heap.specs.Object.{Object, base, birth_at, is_object}
use Rattle.cs_heap.proofs.Laws.{object_placed}
use Rattle.cs_model.specs.SavedFile.{SavedFile, saved_base}
use Rattle.cs_classes.specs.declared.Roots.{Roots}
use Rattle.cs_classes.specs.Meaning.{classes_of}
use Rattle.cs_classes.proofs.Wholes.{get-classes_of}
use Rattle.cs_model.specs.SoundFile.{saved_birth, saved_classes, saved_entry}
use Rattle.cs_save.specs.Filed.{entry_word, file_address, saved_file, file_word, page_entries}
use Rattle.cs_save.proofs.Meanings.{IsFiled, birth_same}

-- ---- numbers

yes_test : (a b : ℕ) → a ≡ b → (a == b) ≡ true
yes_test a b e = grind (arith, nat_tests, e)

no_test : (a b : ℕ) → a ≢ b → (a == b) ≡ false
no_test a b e = grind (arith, nat_tests, e)

at_most : (a b : ℕ) → leb a b ≡ true → a ≤ b
at_most a b e = grind (arith, nat_tests, e)

more_than : (a b : ℕ) → leb a b ≡ false → b < a
more_than a b e = grind (arith, nat_tests, e)

-- ---- entries

get_pages : (table : FinMap nat_cmp ℕ) (a n p : ℕ) → p < n → slice_get (map (page_entries table) (range_with_len a n)) p ≡ Some (page_entries table (a + p))
get_pages table a zero p h = absurd (omega (arith, h))
get_pages table a (suc n) zero h = ap (λ k. Some (page_entries table k)) (omega arith)
get_pages table a (suc n) (suc p) h = get_pages table (a + 1) n p (omega (arith, h)) ∙ ap (λ k. Some (page_entries table k)) (omega arith)

pub entry_is : (xs : List Object) (table : FinMap nat_cmp ℕ) (roots : Roots) (q : ℕ) → q < 16384 → saved_entry (saved_file xs table roots) q ≡ entry_word table q
entry_is xs table roots q h =
    ap (λ (r : Option (List ℕ)). option_map_or (λ page. slice_index page (q % 1024)) r saved_base) (get_pages table 0 16 (q / 1024) (omega (arith, h)))
    ∙ get_or-map-range_with_len (entry_word table) (1024 * (0 + q / 1024)) 1024 (q % 1024) q 0 (omega arith) (omega arith)

pub entry_past : (xs : List Object) (table : FinMap nat_cmp ℕ) (roots : Roots) (q : ℕ) → 16384 ≤ q → saved_entry (saved_file xs table roots) q ≡ saved_base
entry_past xs table roots q h =
    ap (λ (r : Option (List ℕ)). option_map_or (λ page. slice_index page (q % 1024)) r saved_base)
    (slice_get_past (map (page_entries table) (range_with_len 0 16)) (q / 1024) (omega (arith, h, length-map-range_with_len (page_entries table) 0 16)))

pub entry_none : (table : FinMap nat_cmp ℕ) (q : ℕ) → get table q ≡ None → entry_word table q ≡ base
unfolding entry_word
entry_none table q e = ap (λ (r : Option ℕ). option_map_or file_word r base) e

pub entry_some : (table : FinMap nat_cmp ℕ) (q a : ℕ) → get table q ≡ Some a → entry_word table q ≡ file_word a
unfolding entry_word
entry_some table q a e = ap (λ (r : Option ℕ). option_map_or file_word r base) e

-- ---- no class is nil

-- an object other than the first is not named by nil's word
pub word_not_base : (a : ℕ) → base < a → a % 4 ≡ 0 → a + 88 < 2 ^ 32 → file_word a ≢ base
unfolding file_word
word_not_base a above aligned few =
    let zero_bits : (a % 4 == 0) ≡ true = grind (arith, nat_tests, aligned) in
    λ h. go (nat_lt a (base + 48)) (sym (ap (λ (b : Bool). cond b (file_address a) a) zero_bits) ∙ h)
  where
    go : (b : Bool) → cond b a ((a + 88) % 2 ^ 32) ≡ base → ⊥
    go true h = omega (arith, h, above)
    go false h = omega (arith, h, above, few)

-- ---- the classes by birth

get_here : (m : FinMap nat_cmp ℕ) (i a : ℕ) → get (insert m i a) i ≡ Some a
get_here m i a = grind (gets, rules)

get_apart : (m : FinMap nat_cmp ℕ) (i j a : ℕ) → (j ≡ i → ⊥) → get (insert m i a) j ≡ get m j
get_apart m i j a apart = grind (gets, rules)

-- the class of an index in the file
abbrev pub class_by : SavedFile → ℕ → Option ℕ
class_by f q = cond (saved_entry f q == saved_base) None (Some (saved_birth f (saved_entry f q)))

pub get_above : (f : SavedFile) (n q : ℕ) → n ≤ q → get (saved_classes f n) q ≡ None
get_above f zero q h = get-empty nat_cmp q
get_above f (suc n) q h = go (saved_entry f n == saved_base) (get_above f n q (omega (arith, h)))
  where
    go : (b : Bool) → get (saved_classes f n) q ≡ None → get (cond b (saved_classes f n) (insert (saved_classes f n) n (saved_birth f (saved_entry f n)))) q ≡ None
    go true before = before
    go false before = get_apart (saved_classes f n) n q (saved_birth f (saved_entry f n)) (λ e. omega (arith, e, h)) ∙ before

pub get_below : (f : SavedFile) (n q : ℕ) → q < n → get (saved_classes f n) q ≡ class_by f q
get_below f zero q h = absurd (omega (arith, h))
get_below f (suc n) q h = elim (eqb_tells q n) [ inl e ↦ last e.1 | inr e ↦ earlier e.1 (saved_entry f n == saved_base) (get_below f n q (omega (arith, h, e.1))) ]
  where
    earlier : (q ≡ n → ⊥) → (b : Bool) → get (saved_classes f n) q ≡ class_by f q
        → get (cond b (saved_classes f n) (insert (saved_classes f n) n (saved_birth f (saved_entry f n)))) q ≡ class_by f q
    earlier apart true before = before
    earlier apart false before = get_apart (saved_classes f n) n q (saved_birth f (saved_entry f n)) apart ∙ before

    here : q ≡ n → (b : Bool) → (saved_entry f n == saved_base) ≡ b
        → get (cond b (saved_classes f n) (insert (saved_classes f n) n (saved_birth f (saved_entry f n)))) q
        ≡ cond b None (Some (saved_birth f (saved_entry f n)))
    here e true h = get_above f n q (omega (arith, e))
    here e false h = ap (get (insert (saved_classes f n) n (saved_birth f (saved_entry f n)))) e ∙ get_here (saved_classes f n) n (saved_birth f (saved_entry f n))

    last : q ≡ n → get (saved_classes f (suc n)) q ≡ class_by f q
    last e = here e (saved_entry f n == saved_base) refl ∙ ap (class_by f) (sym e)

-- an entry names a class, which isn't nil
pub record HasClass (xs : List Object) (table : FinMap nat_cmp ℕ) (q a : ℕ) : Type 0 where
  pub within : q < 16384
  pub object : is_object xs a ≡ true
  pub above : base < a

abbrev pub AreClasses : List Object → FinMap nat_cmp ℕ → Type 0
AreClasses xs table = (q a : ℕ) → get table q ≡ Some a → HasClass xs table q a

pub class_named : (xs : List Object) (table : FinMap nat_cmp ℕ) (roots : Roots) → IsFiled xs table roots → (q a : ℕ) → get table q ≡ Some a → HasClass xs table q a
    → (saved_entry (saved_file xs table roots) q ≡ file_word a) × (saved_entry (saved_file xs table roots) q ≢ saved_base)
class_named xs table roots f q a e c =
    let is = entry_is xs table roots q c.within ∙ entry_some table q a e in
    let p = object_placed xs a c.object in
    (is, λ h. word_not_base a c.above (omega (arith, p.aligned)) (omega (arith, p.below, f.few)) (sym is ∙ h))

class_same : (xs : List Object) (table : FinMap nat_cmp ℕ) (roots : Roots) → IsFiled xs table roots → (q : ℕ) → q < 16384
    → (r : Option ℕ) → get table q ≡ r → ((a : ℕ) → r ≡ Some a → HasClass xs table q a)
    → class_by (saved_file xs table roots) q ≡ option_map (birth_at xs) r
class_same xs table roots f q h None e c =
    let is : saved_entry (saved_file xs table roots) q ≡ saved_base = entry_is xs table roots q h ∙ entry_none table q e in
    let same : (saved_entry (saved_file xs table roots) q == saved_base) ≡ true = yes_test _ _ is in
    ap (λ (b : Bool). cond b None (Some (saved_birth (saved_file xs table roots) (saved_entry (saved_file xs table roots) q)))) same
class_same xs table roots f q h (Some a) e c =
    let n = class_named xs table roots f q a e (c a refl) in
    let other : (saved_entry (saved_file xs table roots) q == saved_base) ≡ false = no_test _ _ n.1 in
    ap (λ (b : Bool). cond b None (Some (saved_birth (saved_file xs table roots) (saved_entry (saved_file xs table roots) q)))) other
    ∙ ap (λ w. Some (saved_birth (saved_file xs table roots) w)) n.0
    ∙ ap Some (birth_same xs table roots f a (c a refl).object)

pub classes_same : (xs : List Object) (table : FinMap nat_cmp ℕ) (roots : Roots) → IsFiled xs table roots → AreClasses xs table
    → (n : ℕ) → n ≡ 16384 → saved_classes (saved_file xs table roots) n ≡ classes_of xs table
classes_same xs table roots f c n e = same_map nat_cmp_total nat_cmp-IsAntisymmetric _ _ (λ q. go q (leb n q) refl ∙ sym (get-classes_of xs table q))
  where
    none_past : (q : ℕ) (r : Option ℕ) → get table q ≡ r → n ≤ q → r ≡ None
    none_past q None h l = refl
    none_past q (Some a) h l = let w = (c q a h).within in absurd (omega (arith, w, l, e))

    go : (q : ℕ) (b : Bool) → leb n q ≡ b → get (saved_classes (saved_file xs table roots) n) q ≡ option_map (birth_at xs) (get table q)
    go q true h =
        let past = at_most n q h in
        get_above (saved_file xs table roots) n q past ∙ sym (ap (option_map (birth_at xs)) (none_past q (get table q) refl past))
    go q false h =
        let below = more_than n q h in
        get_below (saved_file xs table roots) n q below
        ∙ class_same xs table roots f q (omega (arith, below, e)) (get table q) refl (λ a k. c q a k)
