-- The contexts, the class table and the roots of a formed image are sound in its file.
use Rattle.std.proofs.Common.{◌≡◌, ◌≢◌, ℕ, zero, suc, ◌+◌, ◌-◌, ◌*◌, ◌/◌, ◌^◌, ◌<◌, ◌≤◌, ◌==◌, ◌||◌, Bool, true, false, leb, nat_lt, List, [], ◌∷◌, length, map, replicate, Option, Some, refl, ap, ap₂, sym, subst, ◌∙◌, arith, slice_get, slice_index, append-nil, length-append}
use Rattle.std.proofs.lemmas.Bool.Decides.{nat_tests}
use Rattle.std.proofs.lemmas.List.{length-replicate}
use Rattle.std.specs.Prelude.{pos, nat_le, is_some}
use Rattle.std.specs.Option.{option_map_or}
use Rattle.std.specs.List.{AllByRecursion}
use Rattle.cs_model.specs.Ref.{Ref}
use Rattle.cs_model.specs.Ref as ref
use Rattle.cs_model.specs.Obj.{Obj, Head, Context, Ptr, Method, Ctx, new_head, first_pc, lies_between, literal_count}
use Rattle.cs_model.specs.Words.{natural_in_word, header_in_words, bytecode_count, is_method_format, unused_bytes}
use Rattle.cs_model.specs.Builder.{nil_ref, spare}
use Rattle.cs_model.specs.ImageFault.{is_class, is_pc_of, is_file_method, is_live_context, fields_of}
use Rattle.cs_model.specs.SavedFile.{SavedFile, saved_base, placed_at}
use Rattle.cs_model.specs.SoundFile.{IsFound, NamesSaved, IsSavedContext, IsSavedTable, IsRooted, IsActive, saved_entry}
use Rattle.cs_build.specs.Laid.{laid, laid_words, ref_word, saved_by, laid_addresses, file_for}
use Rattle.cs_build.specs.Stored.{StoredMethod, StoredContext, IsStored}
use Rattle.cs_build.specs.Formed.{FormedContext, HasSlots, IsClassAt, IsFormedTable, IsFormedProcess, IsFormedRoots}
use Rattle.cs_build.proofs.Putting.{slots_of_laid}
use Rattle.cs_build.proofs.Locating.{IsBare, found_at, zero_address, other_address, entry_is}
use Rattle.cs_build.proofs.Forming.{method_words, natural_back, get_there}

-- ---- contexts

method_pc : (a : List ℕ) (n : ℕ) (head : Head) (header : ℕ) (literals : List Ref) (bytes : List ℕ) (at first : ℕ) → StoredMethod n head header literals bytes
    → at < 2 ^ 30 → lies_between (first_pc literals) (length bytes) at ≡ true
    → is_pc_of (2 * at + 1) (placed_at first (saved_by a (laid (Method head header literals bytes)))) ≡ true
method_pc a n head header literals bytes at first s few lies =
    ap (λ (h : Head). is_pc_of (2 * at + 1) (placed_at first (saved_by a (laid (Method h header literals bytes))))) s.is_head ∙ here
  where
    words : List ℕ
    words = laid_words a (laid (Method head header literals bytes))

    count : bytecode_count (24 + spare (length bytes)) (laid_words a (laid (Method head header literals bytes))) ≡ length bytes
    count =
        let m = method_words a n head header literals bytes s in
        let long : length (laid_words a (laid (Method head header literals bytes))) ≡ suc (length literals) + (length bytes + 3) / 4 = slots_of_laid a (laid (Method head header literals bytes)) in
        let low : nat_le 24 (24 + spare (length bytes)) ≡ true = grind (arith, nat_tests) in
        let mid : nat_le 16 (24 + spare (length bytes)) ≡ true = grind (arith, nat_tests) in
        let rest : 24 + spare (length bytes) - 24 ≡ spare (length bytes) = omega arith in
        let unused : unused_bytes (24 + spare (length bytes)) ≡ spare (length bytes) = rw (mid, low) rest in
        ap₂ (λ (x y : ℕ). 4 * (x - (1 + y)) - unused_bytes (24 + spare (length bytes))) long (ap literal_count m.header_is ∙ s.counted)
        ∙ omega (arith, unused)

    start : 4 * (1 + literal_count (header_in_words (laid_words a (laid (Method head header literals bytes))))) + 1 ≡ first_pc literals
    start =
        let m = method_words a n head header literals bytes s in
        ap (λ (y : ℕ). 4 * (1 + y) + 1) (ap literal_count m.header_is ∙ s.counted) ∙ omega arith

    here : is_pc_of (2 * at + 1) (placed_at first (saved_by a (laid (Method (new_head 43 (24 + spare (length bytes))) header literals bytes)))) ≡ true
    here =
        let low : nat_le 24 (24 + spare (length bytes)) ≡ true = grind (arith, nat_tests) in
        let high : nat_lt (24 + spare (length bytes)) 28 ≡ true = grind (arith, nat_tests) in
        let methods : is_method_format (24 + spare (length bytes)) ≡ true = rw (low, high) refl in
        rw methods
        (ap (λ (r : Option ℕ). option_map_or (lies_between (4 * (1 + literal_count (header_in_words words)) + 1) (bytecode_count (24 + spare (length bytes)) words)) r false) (natural_back at few)
        ∙ ap₂ (λ (x y : ℕ). lies_between x y at) start count ∙ lies)

method_shown : (a : List ℕ) (n : ℕ) (head : Head) (header : ℕ) (literals : List Ref) (bytes : List ℕ) (first : ℕ) → StoredMethod n head header literals bytes
    → is_file_method (placed_at first (saved_by a (laid (Method head header literals bytes)))) ≡ true
method_shown a n head header literals bytes first s =
    ap (λ (h : Head). is_file_method (placed_at first (saved_by a (laid (Method h header literals bytes))))) s.is_head ∙ here
  where
    here : is_method_format (24 + spare (length bytes)) ≡ true
    here =
        let low : nat_le 24 (24 + spare (length bytes)) ≡ true = grind (arith, nat_tests) in
        let high : nat_lt (24 + spare (length bytes)) 28 ≡ true = grind (arith, nat_tests) in
        rw (low, high) refl

all_get : {A : Type 0} (P : A → Type 0) (xs : List A) (k : ℕ) (x : A) → AllByRecursion P xs → slice_get xs k ≡ Some x → P x
all_get P [] k x all e = absurd (cc)
all_get P (y ∷ xs) zero x all e = let same : y ≡ x = cc in subst P same all.0
all_get P (y ∷ xs) (suc k) x all e = all_get P xs k x all.1 e

pub context_formed : (os : List Obj) (table : List ℕ) (c : Context) → IsBare (map laid os) → AllByRecursion (IsStored (length os)) os → StoredContext (length os) c → FormedContext os c
    → IsSavedContext (file_for (map laid os) table) (saved_by (laid_addresses (map laid os)) (laid (Ctx c)))
context_formed os table c bare all s f = record {
  format = refl;
  slots = go (c.size == 16) (c.size == 56) refl refl f.size;
  sender = λ h. absurd (h (nil c.sender f.sender));
  pc = λ h. subst (λ (w : ℕ). NamesSaved F (is_pc_of w) (ref_word a c.method)) (sym pc_is)
      (subst (λ (r : Ref). NamesSaved F (is_pc_of (2 * s.at + 1)) (ref_word a r)) (sym f.method.named)
      (found_at os table (λ o. is_pc_of (2 * s.at + 1) o ≡ true) f.method.number (Method f.method.head f.method.header f.method.literals f.method.bytecodes) bare f.method.there
      (λ first. method_pc a (length os) f.method.head f.method.header f.method.literals f.method.bytecodes s.at first stored s.fits
      (ap (lies_between (first_pc f.method.literals) (length f.method.bytecodes)) same ∙ f.method.lies))));
  stackp = λ h. ap (λ (r : Option ℕ). option_map_or (λ n. leb n (length words - 6)) r false) (natural_back (length c.stack) (omega (arith, s.depth, s.size)))
      ∙ below (length c.stack) (length words - 6) (omega (arith, s.depth, long));
  method = λ h. subst (λ (r : Ref). NamesSaved F is_file_method (ref_word a r)) (sym f.method.named)
      (found_at os table (λ o. is_file_method o ≡ true) f.method.number (Method f.method.head f.method.header f.method.literals f.method.bytecodes) bare f.method.there
      (λ first. method_shown a (length os) f.method.head f.method.header f.method.literals f.method.bytecodes first stored));
  closure = λ h. absurd (h (nil c.closure f.closure));
}
  where
    a : List ℕ
    a = laid_addresses (map laid os)

    F : SavedFile
    F = file_for (map laid os) table

    words : List ℕ
    words = laid_words (laid_addresses (map laid os)) (laid (Ctx c))

    nil : (r : Ref) → r ≡ nil_ref → ref_word (laid_addresses (map laid os)) r ≡ saved_base
    nil r e = ap (ref_word (laid_addresses (map laid os))) e ∙ zero_address (map laid os) bare

    stored : StoredMethod (length os) f.method.head f.method.header f.method.literals f.method.bytecodes
    stored = all_get (IsStored (length os)) os f.method.number (Method f.method.head f.method.header f.method.literals f.method.bytecodes) all f.method.there

    same : s.at ≡ f.at
    same = let e = s.pc in let g = f.pc in cc

    pc_is : ref_word (laid_addresses (map laid os)) (option_map_or (λ pc. ref.Small (pos pc)) c.pc nil_ref) ≡ 2 * s.at + 1
    pc_is = ap (λ (o : Option ℕ). ref_word (laid_addresses (map laid os)) (option_map_or (λ pc. ref.Small (pos pc)) o nil_ref)) s.pc

    long : length (laid_words (laid_addresses (map laid os)) (laid (Ctx c))) ≡ 6 + c.size
    long = slots_of_laid (laid_addresses (map laid os)) (laid (Ctx c)) ∙ omega (
      arith,
      s.depth,
      length-append c.stack (replicate (c.size - length c.stack) nil_ref),
      length-replicate {A = Ref} (c.size - length c.stack) nil_ref,
    )

    below : (x y : ℕ) → x ≤ y → leb x y ≡ true
    below x y l = grind (arith, nat_tests, l)

    test : (x y : ℕ) → x ≡ y → (x == y) ≡ true
    test x y e = grind (arith, nat_tests, e)

    told : (x y : ℕ) → (x == y) ≡ true → x ≡ y
    told x y e = grind (arith, nat_tests, e)

    either : (x y : Bool) → y ≡ true → (x || y) ≡ true
    either true y e = refl
    either false y e = e

    go : (x y : Bool) → (c.size == 16) ≡ x → (c.size == 56) ≡ y → (x || y) ≡ true
        → (length (laid_words (laid_addresses (map laid os)) (laid (Ctx c))) == 22 || length (laid_words (laid_addresses (map laid os)) (laid (Ctx c))) == 62) ≡ true
    go true y ex ey h = let is = told c.size 16 ex in
        let first : (length (laid_words (laid_addresses (map laid os)) (laid (Ctx c))) == 22) ≡ true = test (length (laid_words (laid_addresses (map laid os)) (laid (Ctx c)))) 22 (omega (arith, long, is)) in
        rw first refl
    go false true ex ey h = let is = told c.size 56 ey in
        either (length (laid_words (laid_addresses (map laid os)) (laid (Ctx c))) == 22) (length (laid_words (laid_addresses (map laid os)) (laid (Ctx c))) == 62)
        (test (length (laid_words (laid_addresses (map laid os)) (laid (Ctx c)))) 62 (omega (arith, long, is)))
    go false false ex ey h = absurd (cc)

-- ---- slots

pub slots_found : (os : List Obj) (table : List ℕ) (number least : ℕ) (head : Head) (slots : List Ref) → IsBare (map laid os) → HasSlots os number least head slots
    → IsFound (file_for (map laid os) table) (λ o. fields_of least o ≡ Some (laid_words (laid_addresses (map laid os)) (laid (Ptr head slots)))) (slice_index (laid_addresses (map laid os)) number)
slots_found os table number least head slots bare h =
    let a : List ℕ = laid_addresses (map laid os) in
    found_at os table (λ o. fields_of least o ≡ Some (laid_words (laid_addresses (map laid os)) (laid (Ptr head slots)))) number (Ptr head slots) bare h.there
    (λ first. rw (h.shown, h.pointers, h.other, long) refl)
  where
    long : nat_le least (length (laid_words (laid_addresses (map laid os)) (laid (Ptr head slots)))) ≡ true
    long = let all : least ≤ length (laid_words (laid_addresses (map laid os)) (laid (Ptr head slots))) =
        omega (arith, h.long, slots_of_laid (laid_addresses (map laid os)) (laid (Ptr head slots))) in
        grind (arith, nat_tests, all)

pub slot_word : (a : List ℕ) (head : Head) (slots : List Ref) (i : ℕ) (r : Ref) → slice_get slots i ≡ Some r → slice_index (laid_words a (laid (Ptr head slots))) i ≡ ref_word a r
slot_word a head slots i r e = ap (λ (ws : List ℕ). slice_index ws i) (append-nil (map (ref_word a) slots)) ∙ go slots i e
  where
    go : (xs : List Ref) (j : ℕ) → slice_get xs j ≡ Some r → slice_index (map (ref_word a) xs) j ≡ ref_word a r
    go [] j e = absurd (cc)
    go (x ∷ xs) zero e = let same : x ≡ r = cc in ap (ref_word a) same
    go (x ∷ xs) (suc j) e = go xs j e

-- ---- the class table

class_shown : (os : List Obj) (table : List ℕ) (index number : ℕ) → IsBare (map laid os) → IsClassAt os index number
    → NamesSaved (file_for (map laid os) table) (is_class index) (slice_index (laid_addresses (map laid os)) number)
class_shown os table index number bare c =
    found_at os table (λ o. is_class index o ≡ true) number (Ptr c.head c.slots) bare c.has.there
    (λ first. rw (c.has.shown, format.0, format.1, c.has.other, long, hash) refl)
  where
    format : (nat_le 1 c.head.format ≡ true) × (nat_le c.head.format 5 ≡ true)
    format = let p : nat_lt c.head.format 6 ≡ true = c.has.pointers in let f : 1 ≤ c.head.format = c.fields in (grind (arith, nat_tests, f), grind (arith, nat_tests, p))

    hash : (c.head.hash == index) ≡ true
    hash = let e = c.hash in grind (arith, nat_tests, e)

    long : nat_le 3 (length (laid_words (laid_addresses (map laid os)) (laid (Ptr c.head c.slots)))) ≡ true
    long = let all : 3 ≤ length (laid_words (laid_addresses (map laid os)) (laid (Ptr c.head c.slots))) =
        omega (arith, c.has.long, slots_of_laid (laid_addresses (map laid os)) (laid (Ptr c.head c.slots))) in
        grind (arith, nat_tests, all)

-- an entry of a class isn't nil
pub entry_filled : (os : List Obj) (table : List ℕ) (q : ℕ) → IsBare (map laid os) → 1024 * (length table / 1024) ≡ length table → AllByRecursion (λ number. number < length (map laid os)) table
    → slice_index table q ≢ 0 → saved_entry (file_for (map laid os) table) q ≢ saved_base
entry_filled os table q bare pages inside h =
    let small : slice_index table q < length (map laid os) = below table q in
    let l = get_there (map laid os) (slice_index table q) small in
    λ same. other_address (map laid os) (slice_index table q) l.0 bare l.1 h (sym (entry_is (map laid os) table q bare pages) ∙ same)
  where
    go : (xs : List ℕ) (i : ℕ) → AllByRecursion (λ number. number < length (map laid os)) xs → slice_index xs i < length (map laid os)
    go [] i all = omega (arith, bare.0)
    go (x ∷ xs) zero all = all.0
    go (x ∷ xs) (suc i) all = go xs i all.1

    below : (xs : List ℕ) (i : ℕ) → slice_index table q < length (map laid os)
    below xs i = go table q inside

entry_empty : (os : List Obj) (table : List ℕ) (q : ℕ) → IsBare (map laid os) → 1024 * (length table / 1024) ≡ length table → slice_index table q ≡ 0
    → saved_entry (file_for (map laid os) table) q ≡ saved_base
entry_empty os table q bare pages e = entry_is (map laid os) table q bare pages ∙ ap (slice_index (laid_addresses (map laid os))) e ∙ zero_address (map laid os) bare

pub table_formed : (os : List Obj) (table : List ℕ) → IsBare (map laid os) → 1024 * (length table / 1024) ≡ length table → AllByRecursion (λ number. number < length (map laid os)) table
    → IsFormedTable os table → IsSavedTable (file_for (map laid os) table)
table_formed os table bare pages inside t = record {
  zero = entry_empty os table 0 bare pages t.zero;
  hidden = entry_empty os table 16 bare pages t.hidden;
  integers = entry_filled os table 1 bare pages inside t.integers;
  characters = entry_filled os table 2 bare pages inside t.characters;
  contexts = entry_filled os table 36 bare pages inside t.contexts;
  closures = entry_filled os table 37 bare pages inside t.closures;
  second = entry_is (map laid os) table 3 bare pages ∙ ap (slice_index (laid_addresses (map laid os))) t.second ∙ sym (entry_is (map laid os) table 1 bare pages);
  class = λ q few other there. subst (NamesSaved (file_for (map laid os) table) (is_class q)) (sym (entry_is (map laid os) table q bare pages))
      (class_shown os table q (slice_index table q) bare (t.class q few other (λ e. there (entry_empty os table q bare pages e))));
}

-- ---- roots

active_formed : (os : List Obj) (table : List ℕ) (number : ℕ) → IsBare (map laid os) → AllByRecursion (IsStored (length os)) os → IsFormedProcess os number
    → IsActive (file_for (map laid os) table) (slice_index (laid_addresses (map laid os)) number)
active_formed os table number bare all p =
    let a : List ℕ = laid_addresses (map laid os) in
    let s : StoredContext (length os) p.frame = all_get (IsStored (length os)) os p.context (Ctx p.frame) all p.there in
    record {
      fields = laid_words a (laid (Ptr p.head p.slots));
      process = slots_found os table number 4 p.head p.slots bare p.has;
      context = subst (NamesSaved (file_for (map laid os) table) is_live_context) (sym (slot_word a p.head p.slots 1 (ref.Obj p.context) p.names))
          (found_at os table (λ o. is_live_context o ≡ true) p.context (Ctx p.frame) bare p.there
          (λ first. ap (λ (o : Option ℕ). is_some (natural_in_word (ref_word (laid_addresses (map laid os)) (option_map_or (λ pc. ref.Small (pos pc)) o nil_ref)))) s.pc
          ∙ ap is_some (natural_back s.at s.fits)));
    }

pub roots_formed : (os : List Obj) (table : List ℕ) → IsBare (map laid os) → AllByRecursion (IsStored (length os)) os → IsFormedRoots os → (file_for (map laid os) table).special ≡ slice_index (laid_addresses (map laid os)) 3
    → IsRooted (file_for (map laid os) table)
roots_formed os table bare all r at =
    let a : List ℕ = laid_addresses (map laid os) in
    let F : SavedFile = file_for (map laid os) table in
    record {
      special = laid_words a (laid (Ptr r.array r.special));
      link = laid_words a (laid (Ptr r.link_head r.link_slots));
      scheduler = laid_words a (laid (Ptr r.scheduler_head r.scheduler_slots));
      array = subst (IsFound (file_for (map laid os) table) (λ o. (o.format ≡ 2) × (fields_of 51 o ≡ Some (laid_words (laid_addresses (map laid os)) (laid (Ptr r.array r.special)))))) (sym at)
          (with_format (slots_found os table 3 51 r.array r.special bare r.specials));
      linked = subst (IsFound (file_for (map laid os) table) (λ o. fields_of 2 o ≡ Some (laid_words (laid_addresses (map laid os)) (laid (Ptr r.link_head r.link_slots)))))
          (sym (slot_word a r.array r.special 3 (ref.Obj r.link) r.third)) (slots_found os table r.link 2 r.link_head r.link_slots bare r.linked);
      scheduled = subst (IsFound (file_for (map laid os) table) (λ o. fields_of 2 o ≡ Some (laid_words (laid_addresses (map laid os)) (laid (Ptr r.scheduler_head r.scheduler_slots)))))
          (sym (slot_word a r.link_head r.link_slots 1 (ref.Obj r.scheduler) r.first)) (slots_found os table r.scheduler 2 r.scheduler_head r.scheduler_slots bare r.scheduled);
      active = λ h. subst (IsActive (file_for (map laid os) table)) (sym process_word)
          (active_formed os table r.process bare all (r.live (λ e. h (process_word ∙ ap (slice_index (laid_addresses (map laid os))) e ∙ zero_address (map laid os) bare))));
    }
  where
    process_word : slice_index (laid_words (laid_addresses (map laid os)) (laid (Ptr r.scheduler_head r.scheduler_slots))) 1 ≡ slice_index (laid_addresses (map laid os)) r.process
    process_word = slot_word (laid_addresses (map laid os)) r.scheduler_head r.scheduler_slots 1 (ref.Obj r.process) r.active

    with_format : IsFound (file_for (map laid os) table) (λ o. fields_of 51 o ≡ Some (laid_words (laid_addresses (map laid os)) (laid (Ptr r.array r.special)))) (slice_index (laid_addresses (map laid os)) 3)
        → IsFound (file_for (map laid os) table) (λ o. (o.format ≡ 2) × (fields_of 51 o ≡ Some (laid_words (laid_addresses (map laid os)) (laid (Ptr r.array r.special))))) (slice_index (laid_addresses (map laid os)) 3)
    with_format f = found_at os table (λ o. (o.format ≡ 2) × (fields_of 51 o ≡ Some (laid_words (laid_addresses (map laid os)) (laid (Ptr r.array r.special))))) 3 (Ptr r.array r.special) bare r.specials.there
        (λ first. (r.format, rw (r.specials.shown, r.specials.pointers, r.specials.other, long) refl))
      where
        long : nat_le 51 (length (laid_words (laid_addresses (map laid os)) (laid (Ptr r.array r.special)))) ≡ true
        long = let all : 51 ≤ length (laid_words (laid_addresses (map laid os)) (laid (Ptr r.array r.special))) =
            omega (arith, r.specials.long, slots_of_laid (laid_addresses (map laid os)) (laid (Ptr r.array r.special))) in
            grind (arith, nat_tests, all)
