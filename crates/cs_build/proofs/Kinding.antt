-- Objects of a text, as an image may hold them, and the indices of their classes.
use Rattle.std.proofs.Common.{◌≡◌, ◌≢◌, ℕ, zero, suc, ◌+◌, ◌*◌, ◌/◌, ◌^◌, ◌<◌, ◌≤◌, ◌==◌, Bool, true, false, nat_lt, List, [], ◌∷◌, ◌++◌, length, take, drop, Some, None, Option, refl, ap, sym, subst, ◌∙◌, arith, get_or, slice_index}
use Rattle.std.specs.Prelude.{find, position, ◌||◌, IfSome}
use Rattle.std.specs.Option.{option_map_or}
use Rattle.std.specs.List.{AllByRecursion}
use Rattle.std.proofs.lemmas.Bool.Decides.{nat_tests}
use Rattle.std.proofs.lemmas.Slice.Eq.{bytes_eq-Decides}
use Rattle.cs_model.specs.Obj.{Obj, Head, Ptr, Raw, Method, Ctx, given_hash, new_head}
use Rattle.cs_model.specs.Ref.{Ref}
use Rattle.cs_model.specs.Words.{is_pointer_format, plain_format}
use Rattle.cs_model.specs.BuilderText.{Form, ClassLine}
use Rattle.cs_model.specs.BuilderFault.{all_classes, class_named, known_classes}
use Rattle.cs_model.specs.Builder.{class_index, class_place, index_at, natural, raw_object, spare}
use Rattle.cs_build.specs.Formed.{HasKind, IsFormed, IsFormedContext}
use Rattle.cs_build.specs.Judged.{IsJudged}
use Rattle.cs_build.specs.Laid.{FitsRef, laid}
use Rattle.cs_build.specs.Numbered.{first_at}
use Rattle.cs_build.specs.Stored.{IsByte, IsStored}
use Rattle.cs_build.specs.Wholes.{table_made}
use Rattle.cs_build.proofs.Entering.{has_index}
use Rattle.cs_build.proofs.Standing.{find_none, find_position, position_within}
use Rattle.cs_build.proofs.Tabling.{IsGoodIndex, blank, find_passes, good_index, has_known, index_filled, index_of_line, is_line, known_at, place_at}

-- ---- what an image may hold

pub record IsShaped (os : List Obj) (table : List ℕ) (total : ℕ) (o : Obj) : Type 0 where
  pub stored : IsStored total o
  pub formed : IsFormed o
  pub kind : HasKind table o
  pub context : IsFormedContext os o
  pub class : (laid o).class < 2 ^ 22
  pub hash : (laid o).hash < 2 ^ 22

pub record IsKind (table : List ℕ) (class : ℕ) : Type 0 where
  pub large : 4 ≤ class
  pub shown : class ≢ 16
  pub filled : slice_index table class ≢ 0
  pub small : class < 2 ^ 22

plain_same : (class hash f g : ℕ) → g ≡ f → (let h : Head = record { class = class; format = g; hash = hash; fixed = false } in h) ≡ record { class = class; format = f; hash = hash; fixed = false }
plain_same class hash f g e = ap (λ n. let h : Head = record { class = class; format = n; hash = hash; fixed = false } in h) e

pub pointers_shaped : (os : List Obj) (table : List ℕ) (total class format hash : ℕ) (slots : List Ref) → IsKind table class → class ≢ 36 → format < 6 → plain_format format ≡ format
    → AllByRecursion (FitsRef total) slots → (format ≡ 0 → slots ≡ []) → hash < 2 ^ 22 → IsShaped os table total (Ptr (given_hash hash (new_head class format)) slots)
pointers_shaped os table total class format hash slots kind differs few same refs bare small = record {
  stored = record {
    other = grind (arith, nat_tests, differs);
    pointers = grind (arith, nat_tests, few);
    same = plain_same class hash format (plain_format format) same;
    loose = refl;
    refs = refs;
  };
  formed = bare;
  kind = record { large = kind.large; shown = kind.shown; entry = kind.filled };
  context = tt;
  class = kind.small;
  hash = small;
}

pub raw_shaped : (os : List Obj) (table : List ℕ) (total class : ℕ) (bytes : List ℕ) → IsKind table class → class ≢ 36 → AllByRecursion IsByte bytes → IsShaped os table total (raw_object class bytes)
raw_shaped os table total class bytes kind differs units = record {
  stored = record { is_head = refl; other = grind (arith, nat_tests, differs); units = units };
  formed = tt;
  kind = record { large = kind.large; shown = kind.shown; entry = kind.filled };
  context = tt;
  class = kind.small;
  hash = omega arith;
}

-- ---- what has room in a file

pub stored_format : (total : ℕ) (o : Obj) → IsStored total o → (laid o).format < 2 ^ 5
stored_format total (Ptr head slots) s = pointer_format head.format s.pointers
  where
    pointer_format : (f : ℕ) → is_pointer_format f ≡ true → f < 2 ^ 5
    pointer_format f e = let few : f < 6 = grind (arith, nat_tests, e) in omega (arith, few)
stored_format total (Raw head bytes) s = let is : head.format ≡ 16 + spare (length bytes) = ap (λ (h : Head). h.format) s.is_head in omega (arith, is)
stored_format total (Method head header literals bytecodes) s = let is : head.format ≡ 24 + spare (length bytecodes) = ap (λ (h : Head). h.format) s.is_head in omega (arith, is)
stored_format total (Ctx c) s = omega arith

-- ---- the class of a name

-- a class with its place
pub record HasClass (forms : List Form) (name : List ℕ) (c : ClassLine) : Type 0 where
  pub place : ℕ
  pub at : class_place forms name ≡ Some place
  pub inside : place < length (all_classes forms)
  pub is : get_or (all_classes forms) place blank ≡ c
  pub named : c.name ≡ name

class_from : (lines : List ClassLine) (name : List ℕ) (c : ClassLine) → find (is_line name) lines ≡ Some c
    → (k : ℕ) × (position (is_line name) lines ≡ Some k) × (k < length lines) × (get_or lines k blank ≡ c)
class_from lines name c e = go (position (is_line name) lines) refl (position_within (is_line name) lines)
  where
    go : (o : Option ℕ) → position (is_line name) lines ≡ o → IfSome o (λ k. k < length lines)
        → (k : ℕ) × (position (is_line name) lines ≡ Some k) × (k < length lines) × (get_or lines k blank ≡ c)
    go None is h = let absent : find (is_line name) lines ≡ None = find_none (is_line name) lines is in absurd (cc)
    go (Some k) is h =
        let there : find (is_line name) lines ≡ Some (get_or lines k blank) = find_position (is_line name) k lines blank is in
        let same : get_or lines k blank ≡ c = cc in (k, is, h, same)

pub has_class : (forms : List Form) (name : List ℕ) (c : ClassLine) → class_named forms name ≡ Some c → HasClass forms name c
has_class forms name c e =
    let r = class_from (all_classes forms) name c e in
    record { place = r.0; at = r.1; inside = r.2; is = r.3; named = (bytes_eq-Decides c.name name).0 (find_passes (is_line name) (all_classes forms) c e) }

-- the index of a class by its place
pub index_by : (forms : List Form) (name : List ℕ) (c : ClassLine) (h : HasClass forms name c) → class_index forms name ≡ index_at h.place
index_by forms name c h = ap (λ o. option_map_or index_at o 0) h.at

-- a class of a given index
pub class_of_index : (forms : List Form) (name : List ℕ) (c : ClassLine) → HasClass forms name c → (i k : ℕ) → place_at i ≡ k → class_index forms name ≡ i → get_or (all_classes forms) k blank ≡ c
class_of_index forms name c h i k at e =
    let place : h.place ≡ k = sym (good_index h.place).back ∙ ap place_at (sym (index_by forms name c h) ∙ e) ∙ at in
    ap (λ p. get_or (all_classes forms) p blank) (sym place) ∙ h.is

pub index_few : (forms : List Form) (name : List ℕ) → IsJudged forms → class_index forms name < 2 ^ 22
index_few forms name judged = go (class_place forms name) (position_within (is_line name) (all_classes forms))
  where
    small : (k n : ℕ) → k < n → n ≤ 16354 → IsGoodIndex k (index_at k) → index_at k < 2 ^ 22
    small k n h few good = let near : index_at k < k + 52 = good.few in omega (arith, h, few, near)

    go : (o : Option ℕ) → IfSome o (λ k. k < length (all_classes forms)) → option_map_or index_at o 0 < 2 ^ 22
    go None h = omega arith
    go (Some k) h = small k (length (all_classes forms)) h judged.few_classes (good_index k)

index_long : (i k n : ℕ) → IsGoodIndex k i → k < n → i < 1024 * ((n + 1053) / 1024)
index_long i k n good h = go (nat_lt k 22) refl
  where
    go : (b : Bool) → nat_lt k 22 ≡ b → i < 1024 * ((n + 1053) / 1024)
    go true e =
        let low : k < 22 = grind (arith, nat_tests, e) in
        let few : i < k + 52 = good.few in omega (arith, low, few)
    go false e =
        let high : 22 ≤ k = grind (arith, nat_tests, e) in
        let is : i ≡ k + 30 = good.later high in omega (arith, is, h)

has_place : {C : Type 0} (g : C → ℕ) (i : ℕ) (cs : List C) (k : ℕ) (d : C) → k < length cs → i ≡ g (get_or cs k d) → has_index g i cs ≡ true
has_place g i [] k d h e = absurd (omega (arith, h))
has_place g i (c ∷ cs) zero d h e = let same : (i == g c) ≡ true = grind (arith, nat_tests, e) in ap (λ b. b || has_index g i cs) same
has_place g i (c ∷ cs) (suc k) d h e = ap (λ b. (i == g c) || b) (has_place g i cs k d (omega (arith, h)) e) ∙ go (i == g c)
  where
    go : (b : Bool) → b || true ≡ true
    go true = refl
    go false = refl

index_named : (forms : List Form) (name : List ℕ) (c : ClassLine) → c.name ≡ name → class_index forms name ≡ index_of_line forms c
unfolding index_of_line
index_named forms name c e = ap (class_index forms) (sym e)

-- SmallIntegers, Characters and contexts have formats of their own
pub kind_of_class : (forms : List Form) (name : List ℕ) (c : ClassLine) → IsJudged forms → HasClass forms name c → natural c.format ≢ 7 → IsKind (table_made forms) (class_index forms name)
unfolding known_at
kind_of_class forms name c judged h other = record {
  large = four (class_index forms name) no_zero no_one no_two no_three;
  shown = λ e. good.hidden_free e;
  filled = index_filled forms (class_index forms name) judged
      (has_place (index_of_line forms) (class_index forms name) (all_classes forms) h.place blank h.inside (index_named forms name c h.named ∙ ap (index_of_line forms) (sym h.is)))
      (index_long (class_index forms name) h.place (length (all_classes forms)) good h.inside) no_three;
  small = index_few forms name judged;
}
  where
    good : IsGoodIndex h.place (class_index forms name)
    good = subst (IsGoodIndex h.place) (sym (index_by forms name c h)) (good_index h.place)

    four : (i : ℕ) → i ≢ 0 → i ≢ 1 → i ≢ 2 → i ≢ 3 → 4 ≤ i
    four i a b c d = omega (arith, a, b, c, d)

    no_zero : class_index forms name ≢ 0
    no_zero = good.zero_free

    no_one : class_index forms name ≢ 1
    no_one = λ e. other (ap (λ (l : ClassLine). natural l.format) (sym (class_of_index forms name c h 1 7 refl e)))

    no_two : class_index forms name ≢ 2
    no_two = λ e. other (ap (λ (l : ClassLine). natural l.format) (sym (class_of_index forms name c h 2 8 refl e)))

    no_three : class_index forms name ≢ 3
    no_three = λ e.
        let place : h.place ≡ 0 = sym good.back ∙ ap place_at e in
        let is : class_index forms name ≡ 32 = index_by forms name c h ∙ ap index_at place in omega (arith, is, e)

-- ---- the classes that have their indices in every text

fixed_kind : (forms : List Form) (i k : ℕ) (c : ClassLine) → IsJudged forms → known_classes ≡ take k known_classes ++ c ∷ drop (suc k) known_classes
    → first_at (is_line c.name) 0 known_classes ≡ Some k → index_at k ≡ i → 17 ≤ i → i < 52 → IsKind (table_made forms) i
fixed_kind forms i k c judged e place is low high = record {
  large = omega (arith, low);
  shown = λ same. omega (arith, low, same);
  filled = index_filled forms i judged (has_known forms i k (take k known_classes) c (drop (suc k) known_classes) e place is)
      (long (length (all_classes forms)) (omega (arith, high))) (λ same. omega (arith, low, same));
  small = omega (arith, high);
}
  where
    long : (n : ℕ) → i < 52 → i < 1024 * ((n + 1053) / 1024)
    long n h = omega (arith, h)

-- the indices of the classes of objects that every text has
pub record HasKinds (table : List ℕ) : Type 0 where
  pub class : IsKind table 33
  pub nil : IsKind table 34
  pub no_truth : IsKind table 35
  pub context : IsKind table 36
  pub truth : IsKind table 38
  pub array : IsKind table 39
  pub symbol : IsKind table 41
  pub method : IsKind table 43
  pub process : IsKind table 45
  pub list : IsKind table 47
  pub scheduler : IsKind table 48
  pub association : IsKind table 49
  pub dictionary : IsKind table 50

pub all_kinds : (forms : List Form) → IsJudged forms → HasKinds (table_made forms)
unfolding known_at
all_kinds forms judged = record {
  class = fixed_kind forms 33 1 (known_at 1) judged refl refl refl (omega arith) (omega arith);
  nil = fixed_kind forms 34 2 (known_at 2) judged refl refl refl (omega arith) (omega arith);
  no_truth = fixed_kind forms 35 3 (known_at 3) judged refl refl refl (omega arith) (omega arith);
  context = fixed_kind forms 36 4 (known_at 4) judged refl refl refl (omega arith) (omega arith);
  truth = fixed_kind forms 38 6 (known_at 6) judged refl refl refl (omega arith) (omega arith);
  array = fixed_kind forms 39 9 (known_at 9) judged refl refl refl (omega arith) (omega arith);
  symbol = fixed_kind forms 41 11 (known_at 11) judged refl refl refl (omega arith) (omega arith);
  method = fixed_kind forms 43 13 (known_at 13) judged refl refl refl (omega arith) (omega arith);
  process = fixed_kind forms 45 15 (known_at 15) judged refl refl refl (omega arith) (omega arith);
  list = fixed_kind forms 47 17 (known_at 17) judged refl refl refl (omega arith) (omega arith);
  scheduler = fixed_kind forms 48 18 (known_at 18) judged refl refl refl (omega arith) (omega arith);
  association = fixed_kind forms 49 19 (known_at 19) judged refl refl refl (omega arith) (omega arith);
  dictionary = fixed_kind forms 50 20 (known_at 20) judged refl refl refl (omega arith) (omega arith);
}
