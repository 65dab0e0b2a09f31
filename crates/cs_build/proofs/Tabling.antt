-- The class table of a text without fault.
use Rattle.std.proofs.Common.{◌≡◌, ◌≢◌, ℕ, zero, suc, ◌+◌, ◌-◌, ◌*◌, ◌/◌, ◌<◌, ◌≤◌, ◌==◌, Bool, true, false, nat_lt, List, [], ◌∷◌, ◌++◌, length, map, take, drop, Some, None, Option, refl, ap, ap₂, sym, subst, ◌∙◌, arith, if◌then◌else◌, get_or, slice_index, slice_get}
use Rattle.std.specs.Prelude.{pos, codes, find, flat_map, position, sum_by, unwrap_or, option_map, ◌||◌, ◌&&◌, not, IfSome}
use Rattle.std.specs.Option.{option_map_or, option_or}
use Rattle.std.specs.List.{AllByRecursion, list_all, list_any, range_with_len}
use Rattle.std.specs.Ordering.{nat_cmp}
use Rattle.std.specs.FinMap.{from_entries, insert}
use Rattle.std.specs.Str.{bytes_eq}
use Rattle.std.proofs.lemmas.Bool.{false≢true}
use Rattle.std.proofs.lemmas.Bool.Decides.{nat_tests}
use Rattle.std.proofs.lemmas.List.{append_assoc}
use Rattle.std.proofs.lemmas.Slice.Eq.{bytes_eq-Decides}
use Rattle.cs_model.specs.Obj.{Obj, Ptr, given_hash, new_head}
use Rattle.cs_model.specs.Ref.{Ref}
use Rattle.cs_model.specs.BuilderText as text
use Rattle.cs_model.specs.BuilderText.{Form, ClassLine}
use Rattle.cs_model.specs.BuilderFault.{all_classes, class_lines_in, is_named, known_classes}
use Rattle.cs_model.specs.Builder.{all_forms, class_index, class_object, class_table, index_at, known_indices, named_birth, object_count, text_objects}
use Rattle.cs_model.proofs.SavedSeen.{all_each}
use Rattle.cs_build.specs.Formed.{IsClassAt, IsFormedTable, IsTableOf}
use Rattle.cs_build.specs.Judged.{IsJudged}
use Rattle.cs_build.specs.Numbered.{first_at}
use Rattle.cs_build.specs.Wholes.{table_by, table_made}
use Rattle.cs_build.proofs.Entering.{AreEntries, entry_filled, has_at, has_index, map_is, table_entries, table_formed, table_length, table_of, told}
use Rattle.cs_build.proofs.Gathering.{all_flat}
use Rattle.cs_build.proofs.Noting.{bytes_eq_self, position_is}
use Rattle.cs_build.proofs.Sounding.{and_true}
use Rattle.cs_build.proofs.Standing.{classes_are, find_none, find_position, position_within}
use Rattle.cs_build.proofs.Totalling.{all_by_place, total_made}
use Rattle.cs_build.proofs.ObjectsThere.{birth_named, object_there, process_named}

-- ---- the indices of places

-- the place of a class with this index
abbrev pub place_at : ℕ → ℕ
place_at i = if nat_lt i 52 then unwrap_or (position (λ k. k == i) known_indices) 0 else i - 30

abbrev is_good_place : ℕ → Bool
is_good_place p = (place_at (index_at p) == p) && (not (index_at p == 0) && (not (index_at p == 16) && nat_lt (index_at p) 52))

in_range : (p : ℕ → Bool) (a n k : ℕ) → list_all p (range_with_len a n) ≡ true → a ≤ k → k < a + n → p k ≡ true
in_range p a zero k e low high = absurd (omega (arith, low, high))
in_range p a (suc n) k e low high = go (a == k) refl (λ next. in_range p (a + 1) n k (and_true (p a) (list_all p (range_with_len (a + 1) n)) e).1 next (omega (arith, high)))
  where
    go : (b : Bool) → (a == k) ≡ b → (a + 1 ≤ k → p k ≡ true) → p k ≡ true
    go true is r = let same : a ≡ k = grind (arith, nat_tests, is) in ap p (sym same) ∙ (and_true (p a) (list_all p (range_with_len (a + 1) n)) e).0
    go false is r = let apart : a ≢ k = grind (arith, nat_tests, is) in r (omega (arith, apart, low))

good_places : list_all is_good_place (range_with_len 0 22) ≡ true
good_places = refl

pub record IsGoodIndex (p i : ℕ) : Type 0 where
  pub back : place_at i ≡ p
  pub zero_free : i ≢ 0
  pub hidden_free : i ≢ 16
  pub few : i < p + 52
  pub later : 22 ≤ p → i ≡ p + 30

differs : (a b : ℕ) → not (a == b) ≡ true → a ≢ b
differs a b e = grind (arith, nat_tests, e)

pub good_index : (p : ℕ) → IsGoodIndex p (index_at p)
good_index p = go (nat_lt p 22) refl
  where
    low : p < 22 → IsGoodIndex p (index_at p)
    low h =
        let all = and_true (place_at (index_at p) == p) _ (in_range is_good_place 0 22 p good_places (omega arith) (omega (arith, h))) in
        let more = and_true (not (index_at p == 0)) _ all.1 in
        let last = and_true (not (index_at p == 16)) (nat_lt (index_at p) 52) more.1 in
        let few : index_at p < 52 = grind (arith, nat_tests, last.1) in record {
          back = told (place_at (index_at p)) p all.0;
          zero_free = differs (index_at p) 0 more.0;
          hidden_free = differs (index_at p) 16 last.0;
          few = omega (arith, few);
          later = λ high. absurd (omega (arith, h, high));
        }

    high : 22 ≤ p → IsGoodIndex p (52 + (p - 22))
    high h =
        let past : nat_lt (52 + (p - 22)) 52 ≡ false = grind (arith, nat_tests) in record {
          back = ap (λ b. if b then unwrap_or (position (λ k. k == 52 + (p - 22)) known_indices) 0 else 52 + (p - 22) - 30) past ∙ omega (arith, h);
          zero_free = λ e. omega (arith, e);
          hidden_free = λ e. omega (arith, e);
          few = omega (arith, h);
          later = λ same. omega (arith, h);
        }

    go : (b : Bool) → nat_lt p 22 ≡ b → IsGoodIndex p (index_at p)
    go true e = low (grind (arith, nat_tests, e))
    go false e = subst (λ b. IsGoodIndex p (if b then slice_index known_indices p else 52 + (p - 22))) (sym e) (high (grind (arith, nat_tests, e)))

-- ---- the place of a class

abbrev pub blank : ClassLine
blank = record { name = []; super = None; format = pos 0; fields = pos 0 }

abbrev pub is_line : List ℕ → ClassLine → Bool
is_line name c = bytes_eq c.name name

record IsListed (lines : List ClassLine) (name : List ℕ) : Type 0 where
  place : ℕ
  at : position (is_line name) lines ≡ Some place
  inside : place < length lines
  same : (get_or lines place blank).name ≡ name

find_any : (p : ClassLine → Bool) (lines : List ClassLine) → list_any p lines ≡ true → find p lines ≡ None → ⊥
find_any p [] e none = false≢true e
find_any p (c ∷ lines) e none = go (p c) e none (find_any p lines)
  where
    go : (b : Bool) → b || list_any p lines ≡ true → (if b then Some c else find p lines) ≡ None → (list_any p lines ≡ true → find p lines ≡ None → ⊥) → ⊥
    go true e none r = absurd (cc)
    go false e none r = r e none

pub find_passes : (p : ClassLine → Bool) (lines : List ClassLine) (c : ClassLine) → find p lines ≡ Some c → p c ≡ true
find_passes p [] c e = absurd (cc)
find_passes p (x ∷ lines) c e = go (p x) refl e (find_passes p lines c)
  where
    go : (b : Bool) → p x ≡ b → (if b then Some x else find p lines) ≡ Some c → (find p lines ≡ Some c → p c ≡ true) → p c ≡ true
    go true is e r = let same : x ≡ c = cc in ap p (sym same) ∙ is
    go false is e r = r e

listed : (lines : List ClassLine) (name : List ℕ) → list_any (is_line name) lines ≡ true → IsListed lines name
listed lines name e = go (position (is_line name) lines) refl (position_within (is_line name) lines)
  where
    go : (o : Option ℕ) → position (is_line name) lines ≡ o → IfSome o (λ k. k < length lines) → IsListed lines name
    go None is h = absurd (find_any (is_line name) lines e (find_none (is_line name) lines is))
    go (Some k) is h = record {
      place = k;
      at = is;
      inside = h;
      same = (bytes_eq-Decides (get_or lines k blank).name name).0 (find_passes (is_line name) lines (get_or lines k blank) (find_position (is_line name) k lines blank is));
    }

any_at : (above : List ClassLine) (c : ClassLine) (below : List ClassLine) → list_any (is_line c.name) (above ++ c ∷ below) ≡ true
any_at [] c below = ap (λ b. b || list_any (is_line c.name) below) (bytes_eq_self c.name)
any_at (x ∷ above) c below = ap (λ b. is_line c.name x || b) (any_at above c below) ∙ go (is_line c.name x)
  where
    go : (b : Bool) → b || true ≡ true
    go true = refl
    go false = refl

all_listed : (lines : List ClassLine) → AllByRecursion (λ c. IsListed lines c.name) lines
all_listed lines = all_by_place (λ c. IsListed lines c.name) lines
    (λ above c below e. listed lines c.name (ap (list_any (is_line c.name)) e ∙ any_at above c below))

-- ---- indices and numbers of classes

unfoldable pub index_of_line : List Form → ClassLine → ℕ
index_of_line forms c = class_index forms c.name

unfoldable pub number_of_line : List Form → ClassLine → ℕ
number_of_line forms c = unwrap_or (named_birth forms c.name) 0

-- the number of the class with an index
unfoldable number_at : List Form → ℕ → ℕ
number_at forms i = number_of_line forms (get_or (all_classes forms) (place_at i) blank)

index_is : (forms : List Form) (c : ClassLine) (l : IsListed (all_classes forms) c.name) → index_of_line forms c ≡ index_at l.place
unfolding index_of_line
index_is forms c l = ap (λ o. option_map_or index_at o 0) l.at

same_number : (forms : List Form) (c d : ClassLine) → c.name ≡ d.name → number_of_line forms c ≡ number_of_line forms d
unfolding number_of_line
same_number forms c d e = ap (λ q. unwrap_or (named_birth forms q) 0) e

number_is : (forms : List Form) (c : ClassLine) → IsListed (all_classes forms) c.name → number_of_line forms c ≡ number_at forms (index_of_line forms c)
unfolding number_at
number_is forms c l = same_number forms c (get_or (all_classes forms) l.place blank) (sym l.same)
    ∙ ap (λ p. number_of_line forms (get_or (all_classes forms) p blank)) (sym (ap place_at (index_is forms c l) ∙ (good_index l.place).back))

-- ---- the objects of classes

record IsClassThere (forms : List Form) (c : ClassLine) : Type 0 where
  is : IsClassAt (text_objects forms) (index_of_line forms c) (number_of_line forms c)
  high : number_of_line forms c ≢ 0

class_at : (os : List Obj) (index number : ℕ) (a b c d : Ref) → slice_get os number ≡ Some (Ptr (given_hash index (new_head 33 1)) (a ∷ b ∷ c ∷ d ∷ [])) → IsClassAt os index number
class_at os index number a b c d e = record {
  head = given_hash index (new_head 33 1);
  slots = a ∷ b ∷ c ∷ d ∷ [];
  has = record { there = e; pointers = refl; shown = refl; other = refl; long = omega arith };
  fields = omega arith;
  hash = refl;
}

pub class_numbered : (forms above : List Form) (line : ClassLine) (below : List Form) → IsJudged forms → all_forms forms ≡ above ++ text.Class line ∷ below
    → named_birth forms line.name ≡ Some (16 + sum_by object_count above)
class_numbered forms above line below judged e =
    let named : is_named line.name (text.Class line) ≡ true = ap (λ b. b || false) (bytes_eq_self line.name) in
    ap₂ (λ p q. option_or (option_map (λ i. i + 1) p) q) (process_named forms above (text.Class line) below line.name judged e named) (birth_named forms above (text.Class line) below line.name judged e named)

class_there : (forms above : List Form) (line : ClassLine) (below : List Form) → IsJudged forms → all_forms forms ≡ above ++ text.Class line ∷ below → IsClassThere forms line
unfolding index_of_line number_of_line
class_there forms above line below judged e =
    let number : number_of_line forms line ≡ 16 + (sum_by object_count above + 0) = ap (λ o. unwrap_or o 0) (class_numbered forms above line below judged e) ∙ omega arith in record {
      is = class_at (text_objects forms) (class_index forms line.name) (number_of_line forms line) _ _ _ _
          (ap (slice_get (text_objects forms)) number ∙ object_there forms above (text.Class line) below 0 (class_object forms line) judged e refl);
      high = λ none. omega (arith, number, none);
    }

line_classes : (forms above : List Form) (form : Form) (below : List Form) → IsJudged forms → all_forms forms ≡ above ++ form ∷ below → AllByRecursion (IsClassThere forms) (class_lines_in form)
line_classes forms above (text.Class line) below judged e = (class_there forms above line below judged e, tt)
line_classes forms above form below judged e = tt

classes_there : (forms : List Form) → IsJudged forms → AllByRecursion (IsClassThere forms) (all_classes forms)
classes_there forms judged = subst (AllByRecursion (IsClassThere forms)) (classes_are forms) (all_flat (λ form. AllByRecursion (IsClassThere forms) (class_lines_in form)) (IsClassThere forms) class_lines_in (all_forms forms) (λ form h. h)
    (all_by_place (λ form. AllByRecursion (IsClassThere forms) (class_lines_in form)) (all_forms forms) (λ above form below e. line_classes forms above form below judged e)))

-- ---- the classes that have their indices in every text

first_front : (p : ClassLine → Bool) (at k : ℕ) (xs ys : List ClassLine) → first_at p at xs ≡ Some k → first_at p at (xs ++ ys) ≡ Some k
first_front p at k [] ys e = absurd (cc)
first_front p at k (x ∷ xs) ys e = go (p x) e (first_front p (at + 1) k xs ys)
  where
    go : (b : Bool) → (if b then Some at else first_at p (at + 1) xs) ≡ Some k → (first_at p (at + 1) xs ≡ Some k → first_at p (at + 1) (xs ++ ys) ≡ Some k)
        → (if b then Some at else first_at p (at + 1) (xs ++ ys)) ≡ Some k
    go true e r = e
    go false e r = r e

known_index : (forms : List Form) (c : ClassLine) (k : ℕ) → first_at (is_line c.name) 0 known_classes ≡ Some k → index_of_line forms c ≡ index_at k
unfolding index_of_line
known_index forms c k e = ap (λ o. option_map_or index_at o 0) (sym (position_is (is_line c.name) (all_classes forms))
    ∙ first_front (is_line c.name) 0 k known_classes (flat_map class_lines_in forms) e)

pub has_known : (forms : List Form) (i k : ℕ) (front : List ClassLine) (c : ClassLine) (rest : List ClassLine) → known_classes ≡ front ++ c ∷ rest
    → first_at (is_line c.name) 0 known_classes ≡ Some k → index_at k ≡ i → has_index (index_of_line forms) i (all_classes forms) ≡ true
has_known forms i k front c rest e place is =
    ap (λ known. has_index (index_of_line forms) i (known ++ flat_map class_lines_in forms)) e
    ∙ ap (has_index (index_of_line forms) i) (append_assoc front (c ∷ rest) (flat_map class_lines_in forms))
    ∙ has_at (index_of_line forms) i front c (rest ++ flat_map class_lines_in forms) (sym (known_index forms c k place ∙ is))

unfoldable pub known_at : ℕ → ClassLine
known_at k = get_or known_classes k blank

-- ---- the table

abbrev pub table_long : List Form → ℕ
table_long forms = 1024 * ((length (all_classes forms) + 1053) / 1024)

last_is : (forms : List Form) → unwrap_or (named_birth forms (codes "SmallInteger")) 0 ≡ number_at forms 1
unfolding number_at number_of_line
last_is forms = refl

entries : (forms : List Form) → IsJudged forms
    → AreEntries (text_objects forms) (all_classes forms) (index_of_line forms) (number_of_line forms) (number_at forms) (table_long forms) (unwrap_or (named_birth forms (codes "SmallInteger")) 0)
unfolding known_at
entries forms judged =
    let lines : AllByRecursion (λ c. IsListed (all_classes forms) c.name) (all_classes forms) = all_listed (all_classes forms) in
    let there : AllByRecursion (IsClassThere forms) (all_classes forms) = classes_there forms judged in record {
      numbers = all_each (λ c. IsListed (all_classes forms) c.name) (λ c. number_of_line forms c ≡ number_at forms (index_of_line forms c)) (λ c l. number_is forms c l) (all_classes forms) lines;
      within = all_each (λ c. IsListed (all_classes forms) c.name) (λ c. index_of_line forms c < table_long forms) (λ c l. inside c l) (all_classes forms) lines;
      classes = all_each (IsClassThere forms) (λ c. IsClassAt (text_objects forms) (index_of_line forms c) (number_of_line forms c)) (λ c t. t.is) (all_classes forms) there;
      filled = all_each (IsClassThere forms) (λ c. number_of_line forms c ≢ 0) (λ c t. t.high) (all_classes forms) there;
      zero_free = all_each (λ c. IsListed (all_classes forms) c.name) (λ c. index_of_line forms c ≢ 0)
          (λ c l e. (good_index l.place).zero_free (sym (index_is forms c l) ∙ e)) (all_classes forms) lines;
      hidden_free = all_each (λ c. IsListed (all_classes forms) c.name) (λ c. index_of_line forms c ≢ 16)
          (λ c l e. (good_index l.place).hidden_free (sym (index_is forms c l) ∙ e)) (all_classes forms) lines;
      integers = has_known forms 1 7 (take 7 known_classes) (known_at 7) (drop 8 known_classes) refl refl refl;
      characters = has_known forms 2 8 (take 8 known_classes) (known_at 8) (drop 9 known_classes) refl refl refl;
      contexts = has_known forms 36 4 (take 4 known_classes) (known_at 4) (drop 5 known_classes) refl refl refl;
      closures = has_known forms 37 5 (take 5 known_classes) (known_at 5) (drop 6 known_classes) refl refl refl;
      second = last_is forms;
      page = long_enough (length (all_classes forms));
    }
  where
    long_enough : (n : ℕ) → 1024 ≤ 1024 * ((n + 1053) / 1024)
    long_enough n = omega arith

    index_within : (p i n : ℕ) → IsGoodIndex p i → p < n → 22 ≤ n → i < 1024 * ((n + 1053) / 1024)
    index_within p i n good h known = go (nat_lt p 22) refl
      where
        go : (b : Bool) → nat_lt p 22 ≡ b → i < 1024 * ((n + 1053) / 1024)
        go true e =
            let low : p < 22 = grind (arith, nat_tests, e) in
            let few : i < p + 52 = good.few in omega (arith, low, few)
        go false e =
            let high : 22 ≤ p = grind (arith, nat_tests, e) in
            let is : i ≡ p + 30 = good.later high in omega (arith, is, h)

    known_long : 22 ≤ length (all_classes forms)
    known_long = omega arith

    inside : (c : ClassLine) → IsListed (all_classes forms) c.name → index_of_line forms c < table_long forms
    inside c l = subst (λ i. i < table_long forms) (sym (index_is forms c l)) (index_within l.place (index_at l.place) (length (all_classes forms)) (good_index l.place) l.inside known_long)

table_by_is : (forms : List Form) (lines : List ClassLine) → table_by forms lines
    ≡ table_of (index_of_line forms) (number_of_line forms) (1024 * ((length lines + 1053) / 1024)) (unwrap_or (named_birth forms (codes "SmallInteger")) 0) lines
unfolding index_of_line number_of_line
table_by_is forms lines = refl

table_is : (forms : List Form) → table_made forms
    ≡ table_of (index_of_line forms) (number_of_line forms) (table_long forms) (unwrap_or (named_birth forms (codes "SmallInteger")) 0) (all_classes forms)
unfolding table_made
table_is forms = table_by_is forms (all_classes forms)

pub text_table_formed : (forms : List Form) → IsJudged forms → IsFormedTable (text_objects forms) (table_made forms)
text_table_formed forms judged = subst (IsFormedTable (text_objects forms)) (sym (table_is forms))
    (table_formed (text_objects forms) (all_classes forms) (index_of_line forms) (number_of_line forms) (number_at forms) (table_long forms) _ (entries forms judged))

map_by_is : (forms : List Form) (lines : List ClassLine) → from_entries {R = nat_cmp} (map (λ c. (class_index forms c.name, unwrap_or (named_birth forms c.name) 0)) lines)
    ≡ from_entries {R = nat_cmp} (map (λ c. (index_of_line forms c, number_of_line forms c)) lines)
unfolding index_of_line number_of_line
map_by_is forms lines = refl

pub text_table_is : (forms : List Form) → IsJudged forms → IsTableOf (table_made forms) (class_table forms)
text_table_is forms judged =
    let last : ℕ = unwrap_or (named_birth forms (codes "SmallInteger")) 0 in
    subst (λ m. IsTableOf (table_made forms) (insert m 3 last)) (sym (map_by_is forms (all_classes forms)))
    (subst (λ t. IsTableOf t (insert (from_entries (map (λ c. (index_of_line forms c, number_of_line forms c)) (all_classes forms))) 3 last)) (sym (table_is forms))
    (map_is (text_objects forms) (all_classes forms) (index_of_line forms) (number_of_line forms) (number_at forms) (table_long forms) last (entries forms judged)))

-- an index that some class has is filled
pub index_filled : (forms : List Form) (i : ℕ) → IsJudged forms → has_index (index_of_line forms) i (all_classes forms) ≡ true → i < table_long forms → i ≢ 3 → slice_index (table_made forms) i ≢ 0
index_filled forms i judged has few differs = subst (λ t. slice_index t i ≢ 0) (sym (table_is forms))
    (entry_filled (text_objects forms) (all_classes forms) (index_of_line forms) (number_of_line forms) (number_at forms) (table_long forms) _ i (entries forms judged) has few differs)

pub text_table_length : (forms : List Form) → length (table_made forms) ≡ table_long forms
text_table_length forms = ap length (table_is forms) ∙ table_length (index_of_line forms) (number_of_line forms) (table_long forms) _ (all_classes forms)

pub text_table_few : (forms : List Form) → IsJudged forms → length (table_made forms) ≤ 16384
text_table_few forms judged = let few : length (all_classes forms) ≤ 16354 = judged.few_classes in omega (arith, few, text_table_length forms)

pub text_table_pages : (forms : List Form) → 1024 * (length (table_made forms) / 1024) ≡ length (table_made forms)
text_table_pages forms = ap (λ n. 1024 * (n / 1024)) (text_table_length forms) ∙ whole ((length (all_classes forms) + 1053) / 1024) ∙ sym (text_table_length forms)
  where
    whole : (n : ℕ) → 1024 * ((1024 * n) / 1024) ≡ 1024 * n
    whole n = omega arith

pub text_table_entries : (forms : List Form) → IsJudged forms → AllByRecursion (λ number. number < length (text_objects forms)) (table_made forms)
text_table_entries forms judged = subst (AllByRecursion (λ number. number < length (text_objects forms))) (sym (table_is forms))
    (table_entries (text_objects forms) (all_classes forms) (index_of_line forms) (number_of_line forms) (number_at forms) (table_long forms) _ (entries forms judged)
    (omega (arith, total_made forms judged)))
