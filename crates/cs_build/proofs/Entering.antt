-- Tables of numbers by index, into which one after another is entered.
use Rattle.std.proofs.Common.{◌≡◌, ◌≢◌, ℕ, ◌<◌, ◌≤◌, ◌==◌, Bool, true, false, cond, leb, List, [], ◌∷◌, ◌++◌, length, map, replicate, Some, None, refl, ap, ap₂, sym, subst, ◌∙◌, arith, if◌then◌else◌, slice_index}
use Rattle.std.specs.Prelude.{fold, slice_set, ◌||◌}
use Rattle.std.specs.List.{AllByRecursion}
use Rattle.std.specs.Ordering.{nat_cmp, eq_by_cmp}
use Rattle.std.specs.FinMap.{find, from_entries, get-from_entries, get-insert, insert}
use Rattle.std.proofs.lemmas.Bool.Decides.{nat_tests}
use Rattle.std.proofs.lemmas.Cmp.{nat_cmp_total}
use Rattle.std.proofs.lemmas.List.{get_or-replicate, get_or-set_other, get_or-set_same, get_or_past, length-replicate, length-set}
use Rattle.std.proofs.lemmas.Option.{slice_get_within}
use Rattle.cs_model.specs.Obj.{Obj}
use Rattle.cs_model.proofs.Same.{all-replicate, all-slice_set}
use Rattle.cs_build.specs.Formed.{IsClassAt, IsFormedTable, IsTableOf, class_in}

same_test : (a b : ℕ) → eq_by_cmp nat_cmp a b ≡ (a == b)
same_test a b = grind (arith, nat_tests)

pub told : (a b : ℕ) → (a == b) ≡ true → a ≡ b
told a b e = grind (arith, nat_tests, e)

other : (a b : ℕ) → (a == b) ≡ false → a ≢ b
other a b e = grind (arith, nat_tests, e)

equal : (a b : ℕ) → a ≡ b → (a == b) ≡ true
equal a b e = grind (arith, nat_tests, e)

unequal : (a b : ℕ) → a ≢ b → (a == b) ≡ false
unequal a b e = grind (arith, nat_tests, e)

-- ---- entries by index

-- some element has this index
abbrev pub has_index : {C : Type 0} → (C → ℕ) → ℕ → List C → Bool
has_index g i [] = false
has_index g i (c ∷ cs) = (i == g c) || has_index g i cs

abbrev pub entered : {C : Type 0} → (C → ℕ) → (C → ℕ) → List ℕ → C → List ℕ
entered g h table c = slice_set table (g c) (h c)

pub put_entry : (table : List ℕ) (k v i : ℕ) → i < length table → slice_index (slice_set table k v) i ≡ (if i == k then v else slice_index table i)
put_entry table k v i h = go (i == k) refl
  where
    go : (b : Bool) → (i == k) ≡ b → slice_index (slice_set table k v) i ≡ (if b then v else slice_index table i)
    go true e = ap (λ j. slice_index (slice_set table j v) i) (sym (told i k e)) ∙ get_or-set_same table i v 0 h
    go false e = get_or-set_other table k i v 0 (other i k e)

pub entered_length : {C : Type 0} (g h : C → ℕ) (table : List ℕ) (cs : List C) → length (fold (entered g h) table cs) ≡ length table
entered_length g h table [] = refl
entered_length g h table (c ∷ cs) = entered_length g h (slice_set table (g c) (h c)) cs ∙ length-set table (g c) (h c)

-- where elements with one index have one number, an entry has it
pub entry_is : {C : Type 0} (g h : C → ℕ) (H : ℕ → ℕ) (i : ℕ) (table : List ℕ) (cs : List C) → i < length table → AllByRecursion (λ c. h c ≡ H (g c)) cs
    → slice_index (fold (entered g h) table cs) i ≡ (if has_index g i cs then H i else slice_index table i)
entry_is g h H i table [] e all = refl
entry_is g h H i table (c ∷ cs) e all =
    let long : length (slice_set table (g c) (h c)) ≡ length table = length-set table (g c) (h c) in
    entry_is g h H i (slice_set table (g c) (h c)) cs (omega (arith, e, long)) all.1
    ∙ ap (λ n. if has_index g i cs then H i else n) (put_entry table (g c) (h c) i e)
    ∙ go (i == g c) refl (has_index g i cs)
  where
    go : (b : Bool) → (i == g c) ≡ b → (a : Bool) → (if a then H i else (if b then h c else slice_index table i)) ≡ (if b || a then H i else slice_index table i)
    go true e true = refl
    go true e false = all.0 ∙ ap H (sym (told i (g c) e))
    go false e a = refl

pub has_at : {C : Type 0} (g : C → ℕ) (i : ℕ) (front : List C) (c : C) (rest : List C) → i ≡ g c → has_index g i (front ++ c ∷ rest) ≡ true
has_at g i [] c rest e = ap (λ b. b || has_index g i rest) (equal i (g c) e)
has_at g i (x ∷ front) c rest e = ap (λ b. (i == g x) || b) (has_at g i front c rest e) ∙ go (i == g x)
  where
    go : (b : Bool) → b || true ≡ true
    go true = refl
    go false = refl

pub has_none : {C : Type 0} (g : C → ℕ) (i : ℕ) (cs : List C) → AllByRecursion (λ c. g c ≢ i) cs → has_index g i cs ≡ false
has_none g i [] all = refl
has_none g i (c ∷ cs) all = ap (λ b. b || has_index g i cs) (unequal i (g c) (λ e. all.0 (sym e))) ∙ has_none g i cs all.1

pub has_some : {C : Type 0} (g h : C → ℕ) (H : ℕ → ℕ) (P : ℕ → ℕ → Type 0) (i : ℕ) (cs : List C) → AllByRecursion (λ c. h c ≡ H (g c)) cs → AllByRecursion (λ c. P (g c) (h c)) cs
    → has_index g i cs ≡ true → P i (H i)
has_some g h H P i [] all ps e = absurd (cc)
has_some g h H P i (c ∷ cs) all ps e = go (i == g c) refl e (has_some g h H P i cs all.1 ps.1)
  where
    go : (b : Bool) → (i == g c) ≡ b → b || has_index g i cs ≡ true → (has_index g i cs ≡ true → P i (H i)) → P i (H i)
    go true is e r = subst (λ k. P k (H k)) (sym (told i (g c) is)) (subst (P (g c)) all.0 ps.0)
    go false is e r = r e

find_is : {C : Type 0} (g h : C → ℕ) (H : ℕ → ℕ) (i : ℕ) (cs : List C) → AllByRecursion (λ c. h c ≡ H (g c)) cs
    → find nat_cmp i (map (λ c. (g c, h c)) cs) ≡ (if has_index g i cs then Some (H i) else None)
find_is g h H i [] all = refl
find_is g h H i (c ∷ cs) all = ap (λ b. cond b (Some (h c)) (find nat_cmp i (map (λ c. (g c, h c)) cs))) (same_test i (g c))
    ∙ ap (cond (i == g c) (Some (h c))) (find_is g h H i cs all.1) ∙ go (i == g c) refl (has_index g i cs)
  where
    go : (b : Bool) → (i == g c) ≡ b → (a : Bool) → cond b (Some (h c)) (if a then Some (H i) else None) ≡ (if b || a then Some (H i) else None)
    go true e a = ap Some (all.0 ∙ ap H (sym (told i (g c) e)))
    go false e a = refl

all_entered : {C : Type 0} (P : ℕ → Type 0) (g h : C → ℕ) (table : List ℕ) (cs : List C) → AllByRecursion P table → AllByRecursion (λ c. P (h c)) cs → AllByRecursion P (fold (entered g h) table cs)
all_entered P g h table [] t all = t
all_entered P g h table (c ∷ cs) t all = all_entered P g h (slice_set table (g c) (h c)) cs (all-slice_set P table (g c) (h c) t all.0) all.1

-- ---- a table of classes

-- elements with indices g and numbers h, of which H is the number by index; and the number of the class with two indices
pub record AreEntries {C : Type 0} (os : List Obj) (cs : List C) (g h : C → ℕ) (H : ℕ → ℕ) (long last : ℕ) : Type 0 where
  pub numbers : AllByRecursion (λ c. h c ≡ H (g c)) cs
  pub within : AllByRecursion (λ c. g c < long) cs
  pub classes : AllByRecursion (λ c. IsClassAt os (g c) (h c)) cs
  pub filled : AllByRecursion (λ c. h c ≢ 0) cs
  pub zero_free : AllByRecursion (λ c. g c ≢ 0) cs
  pub hidden_free : AllByRecursion (λ c. g c ≢ 16) cs
  pub integers : has_index g 1 cs ≡ true
  pub characters : has_index g 2 cs ≡ true
  pub contexts : has_index g 36 cs ≡ true
  pub closures : has_index g 37 cs ≡ true
  pub second : last ≡ H 1
  pub page : 1024 ≤ long

abbrev pub table_of : {C : Type 0} → (C → ℕ) → (C → ℕ) → ℕ → ℕ → List C → List ℕ
table_of g h long last cs = slice_set (fold (entered g h) (replicate long 0) cs) 3 last

pub table_length : {C : Type 0} (g h : C → ℕ) (long last : ℕ) (cs : List C) → length (table_of g h long last cs) ≡ long
table_length g h long last cs = length-set (fold (entered g h) (replicate long 0) cs) 3 last ∙ entered_length g h (replicate long 0) cs ∙ length-replicate long 0

in_table : {C : Type 0} (g h : C → ℕ) (H : ℕ → ℕ) (long last i : ℕ) (cs : List C) → AllByRecursion (λ c. h c ≡ H (g c)) cs → i < long
    → slice_index (table_of g h long last cs) i ≡ (if i == 3 then last else (if has_index g i cs then H i else 0))
in_table g h H long last i cs all e =
    let blank : List ℕ = replicate long 0 in
    let full : ◌≡◌ {A = ℕ} (length blank) long = length-replicate long 0 in
    let more : ◌≡◌ {A = ℕ} (length (fold (entered g h) blank cs)) long = entered_length g h (replicate long 0) cs ∙ full in
    put_entry (fold (entered g h) (replicate long 0) cs) 3 last i (omega (arith, e, more))
    ∙ ap (λ n. if i == 3 then last else n) (entry_is g h H i (replicate long 0) cs (omega (arith, e, full)) all
    ∙ ap (λ n. if has_index g i cs then H i else n) (get_or-replicate long i 0 0 e))

entry_with : (b c : Bool) (last n : ℕ) → b ≡ false → c ≡ true → (if b then last else (if c then n else 0)) ≡ n
entry_with true c last n e h = absurd (cc)
entry_with false true last n e h = refl
entry_with false false last n e h = absurd (cc)

entry_without : (b c : Bool) (last n : ℕ) → b ≡ false → c ≡ false → (if b then last else (if c then n else 0)) ≡ 0
entry_without true c last n e h = absurd (cc)
entry_without false true last n e h = absurd (cc)
entry_without false false last n e h = refl

above_none : {C : Type 0} (g : C → ℕ) (i long : ℕ) (cs : List C) → AllByRecursion (λ c. g c < long) cs → long ≤ i → has_index g i cs ≡ false
above_none g i long [] all h = refl
above_none g i long (c ∷ cs) all h =
    let apart : i ≢ g c = λ e. omega (arith, e, h, all.0) in
    ap (λ b. b || has_index g i cs) (unequal i (g c) apart) ∙ above_none g i long cs all.1 h

pub table_formed : {C : Type 0} (os : List Obj) (cs : List C) (g h : C → ℕ) (H : ℕ → ℕ) (long last : ℕ) → AreEntries os cs g h H long last
    → IsFormedTable os (table_of g h long last cs)
table_formed os cs g h H long last are = record {
  zero = at 0 (small 0 (omega arith)) ∙ entry_without (0 == 3) (has_index g 0 cs) last (H 0) refl (has_none g 0 cs are.zero_free);
  hidden = at 16 (small 16 (omega arith)) ∙ entry_without (16 == 3) (has_index g 16 cs) last (H 16) refl (has_none g 16 cs are.hidden_free);
  integers = there 1 (small 1 (omega arith)) refl are.integers;
  characters = there 2 (small 2 (omega arith)) refl are.characters;
  contexts = there 36 (small 36 (omega arith)) refl are.contexts;
  closures = there 37 (small 37 (omega arith)) refl are.closures;
  second = at 3 (small 3 (omega arith)) ∙ are.second ∙ sym (at 1 (small 1 (omega arith)) ∙ entry_with (1 == 3) (has_index g 1 cs) last (H 1) refl are.integers);
  class = λ index few no_third filled. class_at index no_third filled (leb long index) refl;
}
  where
    small : (i : ℕ) → i < 1024 → i < long
    small i e = omega (arith, e, are.page)

    at : (i : ℕ) → i < long → slice_index (table_of g h long last cs) i ≡ (if i == 3 then last else (if has_index g i cs then H i else 0))
    at i e = in_table g h H long last i cs are.numbers e

    there : (i : ℕ) → i < long → (i == 3) ≡ false → has_index g i cs ≡ true → slice_index (table_of g h long last cs) i ≢ 0
    there i e differs has = λ absent. has_some g h H (λ k n. n ≢ 0) i cs are.numbers are.filled has
        (sym (entry_with (i == 3) (has_index g i cs) last (H i) differs has) ∙ sym (at i e) ∙ absent)

    class_in_cases : (index : ℕ) → index < long → index ≢ 3 → slice_index (table_of g h long last cs) index ≢ 0 → (b : Bool) → has_index g index cs ≡ b
        → IsClassAt os index (slice_index (table_of g h long last cs) index)
    class_in_cases index few differs filled true has =
        subst (IsClassAt os index) (sym (at index few ∙ entry_with (index == 3) (has_index g index cs) last (H index) (unequal index 3 differs) has))
        (has_some g h H (IsClassAt os) index cs are.numbers are.classes has)
    class_in_cases index few differs filled false has =
        absurd (filled (at index few ∙ entry_without (index == 3) (has_index g index cs) last (H index) (unequal index 3 differs) has))

    class_at : (index : ℕ) → index ≢ 3 → slice_index (table_of g h long last cs) index ≢ 0 → (b : Bool) → leb long index ≡ b
        → IsClassAt os index (slice_index (table_of g h long last cs) index)
    class_at index differs filled true e =
        let past : long ≤ index = grind (arith, nat_tests, e) in
        absurd (filled (get_or_past (table_of g h long last cs) index 0 (omega (arith, past, table_length g h long last cs))))
    class_at index differs filled false e =
        let few : index < long = grind (arith, nat_tests, e) in
        class_in_cases index few differs filled (has_index g index cs) refl

pub entry_filled : {C : Type 0} (os : List Obj) (cs : List C) (g h : C → ℕ) (H : ℕ → ℕ) (long last i : ℕ) → AreEntries os cs g h H long last
    → has_index g i cs ≡ true → i < long → i ≢ 3 → slice_index (table_of g h long last cs) i ≢ 0
entry_filled os cs g h H long last i are has few differs = λ absent. has_some g h H (λ k n. n ≢ 0) i cs are.numbers are.filled has
    (sym (entry_with (i == 3) (has_index g i cs) last (H i) (unequal i 3 differs) has) ∙ sym (in_table g h H long last i cs are.numbers few) ∙ absent)

pub table_entries : {C : Type 0} (os : List Obj) (cs : List C) (g h : C → ℕ) (H : ℕ → ℕ) (long last : ℕ) → AreEntries os cs g h H long last → 0 < length os
    → AllByRecursion (λ number. number < length os) (table_of g h long last cs)
table_entries {C} os cs g h H long last are filled =
    all-slice_set (λ number. number < length os) (fold (entered g h) (replicate long 0) cs) 3 last
    (all_entered (λ number. number < length os) g h (replicate long 0) cs (all-replicate (λ number. number < length os) long 0 filled) inside) last_inside
  where
    each : (xs : List C) → AllByRecursion (λ c. IsClassAt os (g c) (h c)) xs → AllByRecursion (λ c. h c < length os) xs
    each [] all = tt
    each (c ∷ xs) all = (slice_get_within os (h c) _ all.0.has.there, each xs all.1)

    inside : AllByRecursion (λ c. h c < length os) cs
    inside = each cs are.classes

    last_inside : last < length os
    last_inside = subst (λ n. n < length os) (sym are.second) (has_some g h H (λ k n. n < length os) 1 cs are.numbers inside are.integers)

pub map_is : {C : Type 0} (os : List Obj) (cs : List C) (g h : C → ℕ) (H : ℕ → ℕ) (long last : ℕ) → AreEntries os cs g h H long last
    → IsTableOf (table_of g h long last cs) (insert (from_entries (map (λ c. (g c, h c)) cs)) 3 last)
map_is os cs g h H long last are index =
    get-insert nat_cmp_total (from_entries (map (λ c. (g c, h c)) cs)) 3 last index
    ∙ ap₂ (λ b o. cond b (Some last) o) (same_test index 3) (get-from_entries nat_cmp_total (map (λ c. (g c, h c)) cs) index ∙ find_is g h H index cs are.numbers)
    ∙ go (leb long index) refl
  where
    last_some : last ≢ 0
    last_some = λ absent. has_some g h H (λ k n. n ≢ 0) 1 cs are.numbers are.filled are.integers (sym are.second ∙ absent)

    shown : (n : ℕ) → n ≢ 0 → Some n ≡ (if n == 0 then None else Some n)
    shown n e = sym (ap (λ b. if b then None else Some n) (unequal n 0 e))

    cases : (a : Bool) → (index == 3) ≡ a → (b : Bool) → has_index g index cs ≡ b
        → cond a (Some last) (if b then Some (H index) else None)
        ≡ (let n : ℕ = if a then last else (if b then H index else 0) in if n == 0 then None else Some n)
    cases true ea b eb = shown last last_some
    cases false ea true eb = shown (H index) (has_some g h H (λ k n. n ≢ 0) index cs are.numbers are.filled eb)
    cases false ea false eb = refl

    go : (b : Bool) → leb long index ≡ b → cond (index == 3) (Some last) (if has_index g index cs then Some (H index) else None) ≡ class_in (table_of g h long last cs) index
    go true e =
        let past : long ≤ index = grind (arith, nat_tests, e) in
        let differs : (index == 3) ≡ false = unequal index 3 (λ is. omega (arith, is, past, are.page)) in
        ap₂ (λ a b. cond a (Some last) (if b then Some (H index) else None)) differs (above_none g index long cs are.within past)
        ∙ sym (ap (λ n. if n == 0 then None else Some n) (get_or_past (table_of g h long last cs) index 0 (omega (arith, past, table_length g h long last cs))))
    go false e =
        let few : index < long = grind (arith, nat_tests, e) in
        cases (index == 3) refl (has_index g index cs) refl
        ∙ sym (ap (λ n. if n == 0 then None else Some n) (in_table g h H long last index cs are.numbers few))
