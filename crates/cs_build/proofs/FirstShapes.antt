-- The objects in front of a text's lines and those behind them, as an image may hold them.
use Rattle.std.proofs.Common.{◌≡◌, ◌≢◌, ℕ, zero, suc, ◌+◌, ◌^◌, ◌<◌, ◌≤◌, true, nat_lt, List, [], ◌∷◌, ◌++◌, length, map, replicate, Some, refl, ap, sym, subst, ◌∙◌, arith, slice_get}
use Rattle.std.specs.Prelude.{ℤ, pos, negsuc, codes, flat_map, fold, slice_set, ◌&&◌, not}
use Rattle.std.specs.List.{AllByRecursion, enumerate_from, list_all, range_with_len}
use Rattle.std.proofs.lemmas.Bool.{false≢true}
use Rattle.std.proofs.lemmas.Bool.Decides.{nat_tests}
use Rattle.std.proofs.lemmas.List.{length-set}
use Rattle.cs_model.specs.Obj.{Obj, Ptr, new_head}
use Rattle.cs_model.specs.Ref.{Ref, Small}
use Rattle.cs_model.specs.Ref as ref
use Rattle.cs_model.specs.Words.{plain_format}
use Rattle.cs_model.specs.BuilderText as text
use Rattle.cs_model.specs.BuilderText.{Form, ClassLine, MethodLine}
use Rattle.cs_model.specs.BuilderFault.{all_classes, fits, is_between}
use Rattle.cs_model.specs.Builder.{active_ref, class_ref, dictionary_objects, first_list, list_object, method_birth, methods_of, natural, nil_ref, obj_or_nil, raw_object, selector_names, selector_slots, special_given, special_slots, special_symbols, symbol_ref, symbols_of, text_objects, values_birth, with_special}
use Rattle.cs_model.proofs.Same.{all-append, all-replicate, all-slice_set}
use Rattle.cs_build.specs.Firsts.{first_made}
use Rattle.cs_build.specs.Grouped.{all_dictionaries, symbol_objects}
use Rattle.cs_build.specs.Judged.{IsJudged}
use Rattle.cs_build.specs.Laid.{FitsRef}
use Rattle.cs_build.specs.Standing.{symbol_names}
use Rattle.cs_build.specs.Stored.{IsByte}
use Rattle.cs_build.specs.Wholes.{table_made}
use Rattle.cs_build.proofs.Gathering.{all_flat}
use Rattle.cs_build.proofs.Grouping.{methods_few}
use Rattle.cs_build.proofs.Kinding.{HasKinds, IsKind, all_kinds, pointers_shaped, raw_shaped}
use Rattle.cs_build.proofs.LineShapes.{Refers, Shaped, count_small}
use Rattle.cs_build.proofs.Sounding.{and_true}
use Rattle.cs_build.proofs.Totalling.{all_by_place}

plain_shaped : (forms : List Form) (class format : ℕ) (slots : List Ref) → IsKind (table_made forms) class → class ≢ 36 → format < 6 → plain_format format ≡ format
    → AllByRecursion (FitsRef (length (text_objects forms))) slots → (format ≡ 0 → slots ≡ []) → Shaped forms (Ptr (new_head class format) slots)
plain_shaped forms class format slots kind differs few same refs bare =
    pointers_shaped (text_objects forms) (table_made forms) (length (text_objects forms)) class format 0 slots kind differs few same refs bare (omega arith)

-- ---- the special objects

-- a special object and its place, which isn't that of the scheduler
pub record IsSpecial (total : ℕ) (e : ℕ × Ref) : Type 0 where
  pub fits : FitsRef total e.1
  pub differs : e.0 ≢ 3

-- those behind the scheduler's
unfoldable pub other_specials : List Form → List (ℕ × Ref)
other_specials forms = (23, ref.Obj 4) ∷ (7, class_ref forms (codes "Array")) ∷ (12, class_ref forms (codes "Point"))
    ∷ (15, class_ref forms (codes "Message")) ∷ (18, class_ref forms (codes "Semaphore"))
    ∷ map (λ e. (e.0, symbol_ref forms e.1)) special_symbols ++ flat_map (special_given forms) forms

pub specials_are : (forms : List Form) → special_slots forms ≡ fold with_special (slice_set (replicate 51 nil_ref) 3 (ref.Obj 5)) (other_specials forms)
unfolding other_specials
specials_are forms = refl

symbol_specials : (total : ℕ) (f : List ℕ → Ref) (es : List (ℕ × List ℕ)) → ((name : List ℕ) → FitsRef total (f name)) → list_all (λ e. nat_lt 3 e.0) es ≡ true
    → AllByRecursion (IsSpecial total) (map (λ e. (e.0, f e.1)) es)
symbol_specials total f [] each e = tt
symbol_specials total f (x ∷ es) each e =
    let both = and_true (nat_lt 3 x.0) (list_all (λ y. nat_lt 3 y.0) es) e in
    let high : 3 < x.0 = grind (arith, nat_tests, both.0) in
    (record { fits = each x.1; differs = λ same. omega (arith, high, same) }, symbol_specials total f es each both.1)

given_specials : (forms above : List Form) (form : Form) (below : List Form) → IsJudged forms → Refers forms → forms ≡ above ++ form ∷ below
    → AllByRecursion (IsSpecial (length (text_objects forms))) (special_given forms form)
given_specials forms above (text.Special place value) below judged refers e =
    let ranges = and_true (is_between 0 50 place && not (is_between 3 3 place)) (fits value) (judged.lines above (text.Special place value) below e).fits in
    (record { fits = refers.mentions value ranges.1; differs = λ same. three place same (and_true (is_between 0 50 place) (not (is_between 3 3 place)) ranges.0).1 }, tt)
  where
    three : (z : ℤ) → natural z ≡ 3 → not (is_between 3 3 z) ≡ true → ⊥
    three (pos n) same h = false≢true (sym (ap (λ k. not (is_between 3 3 (pos k))) same) ∙ h)
    three (negsuc n) same h = absurd (cc)
given_specials forms above form below judged refers e = tt

pub all_special : (forms : List Form) → IsJudged forms → Refers forms → AllByRecursion (IsSpecial (length (text_objects forms))) (other_specials forms)
unfolding other_specials
all_special forms judged refers = (
  record { fits = refers.numbers 4 (omega arith); differs = λ e. omega (arith, e) },
  (
    record { fits = refers.classes (codes "Array"); differs = λ e. omega (arith, e) },
    (
      record { fits = refers.classes (codes "Point"); differs = λ e. omega (arith, e) },
      (
        record { fits = refers.classes (codes "Message"); differs = λ e. omega (arith, e) },
        (
          record { fits = refers.classes (codes "Semaphore"); differs = λ e. omega (arith, e) },
          rest,
        ),
      ),
    ),
  ),
)
  where
    rest : AllByRecursion (IsSpecial (length (text_objects forms))) (map (λ e. (e.0, symbol_ref forms e.1)) special_symbols ++ flat_map (special_given forms) forms)
    rest = all-append (IsSpecial (length (text_objects forms))) (map (λ e. (e.0, symbol_ref forms e.1)) special_symbols) (flat_map (special_given forms) forms)
        (symbol_specials (length (text_objects forms)) (symbol_ref forms) special_symbols (λ name. refers.symbols name) refl)
        (all_flat (λ form. AllByRecursion (IsSpecial (length (text_objects forms))) (special_given forms form)) (IsSpecial (length (text_objects forms))) (special_given forms) forms (λ form h. h)
        (all_by_place (λ form. AllByRecursion (IsSpecial (length (text_objects forms))) (special_given forms form)) forms
        (λ above form below e. given_specials forms above form below judged refers e)))

specials_fit : (total : ℕ) (slots : List Ref) (es : List (ℕ × Ref)) → AllByRecursion (FitsRef total) slots → AllByRecursion (IsSpecial total) es → AllByRecursion (FitsRef total) (fold with_special slots es)
specials_fit total slots [] all each = all
specials_fit total slots (e ∷ es) all each = specials_fit total (slice_set slots e.0 e.1) es (all-slice_set (FitsRef total) slots e.0 e.1 all each.0.fits) each.1

pub specials_length : (slots : List Ref) (es : List (ℕ × Ref)) → length (fold with_special slots es) ≡ length slots
specials_length slots [] = refl
specials_length slots (e ∷ es) = specials_length (slice_set slots e.0 e.1) es ∙ length-set slots e.0 e.1

get_other : (slots : List Ref) (k i : ℕ) (v : Ref) → k ≢ i → slice_get (slice_set slots k v) i ≡ slice_get slots i
get_other [] k i v h = refl
get_other (x ∷ slots) zero zero v h = absurd (h refl)
get_other (x ∷ slots) zero (suc i) v h = refl
get_other (x ∷ slots) (suc k) zero v h = refl
get_other (x ∷ slots) (suc k) (suc i) v h = get_other slots k i v (λ e. h (ap suc e))

pub third_stays : (total : ℕ) (slots : List Ref) (es : List (ℕ × Ref)) (r : Ref) → AllByRecursion (IsSpecial total) es → slice_get slots 3 ≡ Some r → slice_get (fold with_special slots es) 3 ≡ Some r
third_stays total slots [] r all e = e
third_stays total slots (x ∷ es) r all e = third_stays total (slice_set slots x.0 x.1) es r all.1 (get_other slots x.0 3 x.1 all.0.differs ∙ e)

-- ---- the special selectors

selectors_fit : (total : ℕ) (f : List ℕ → Ref) (es : List (List ℕ × ℕ)) → ((name : List ℕ) → FitsRef total (f name)) → list_all (λ e. nat_lt e.1 3) es ≡ true
    → AllByRecursion (FitsRef total) (flat_map (λ e. f e.0 ∷ Small (pos e.1) ∷ []) es)
selectors_fit total f [] each e = tt
selectors_fit total f (x ∷ es) each e =
    let both = and_true (nat_lt x.1 3) (list_all (λ y. nat_lt y.1 3) es) e in
    let low : x.1 < 3 = grind (arith, nat_tests, both.0) in
    (each x.0, (count_small x.1 (omega (arith, low)), selectors_fit total f es each both.1))

-- ---- the first objects

all_map : {X Y : Type 0} (P : Y → Type 0) (f : X → Y) (xs : List X) → ((x : X) → P (f x)) → AllByRecursion P (map f xs)
all_map P f [] each = tt
all_map P f (x ∷ xs) each = (each x, all_map P f xs each)

list_shaped : (forms : List Form) → IsJudged forms → Refers forms → (priority : ℕ) → Shaped forms (list_object forms priority)
list_shaped forms judged refers priority =
    plain_shaped forms 47 1 _ (all_kinds forms judged).list (λ e. omega (arith, e)) (omega arith) refl (refers.processes _, (refers.processes _, tt)) (λ e. absurd (omega (arith, e)))

special_shaped : (forms : List Form) → IsJudged forms → Refers forms → Shaped forms (Ptr (new_head 39 2) (special_slots forms))
special_shaped forms judged refers =
    plain_shaped forms 39 2 (special_slots forms) (all_kinds forms judged).array (λ e. omega (arith, e)) (omega arith) refl
    (subst (AllByRecursion (FitsRef (length (text_objects forms)))) (sym (specials_are forms))
    (specials_fit (length (text_objects forms)) (slice_set (replicate 51 nil_ref) 3 (ref.Obj 5)) (other_specials forms)
    (all-slice_set (FitsRef (length (text_objects forms))) (replicate 51 nil_ref) 3 (ref.Obj 5)
    (all-replicate (FitsRef (length (text_objects forms))) 51 nil_ref (refers.numbers 0 (omega arith))) (refers.numbers 5 (omega arith))) (all_special forms judged refers)))
    (λ e. absurd (omega (arith, e)))

selectors_shaped : (forms : List Form) → IsJudged forms → Refers forms → Shaped forms (Ptr (new_head 39 2) (selector_slots forms))
selectors_shaped forms judged refers =
    plain_shaped forms 39 2 (selector_slots forms) (all_kinds forms judged).array (λ e. omega (arith, e)) (omega arith) refl
    (selectors_fit (length (text_objects forms)) (symbol_ref forms) selector_names (λ name. refers.symbols name) refl) (λ e. absurd (omega (arith, e)))

pub first_shaped : (forms : List Form) → IsJudged forms → Refers forms → AllByRecursion (Shaped forms) (first_made forms)
unfolding first_made
first_shaped forms judged refers = (
  plain_shaped forms 34 0 [] kinds.nil (λ e. omega (arith, e)) (omega arith) refl tt (λ e. refl),
  (
    plain_shaped forms 35 0 [] kinds.no_truth (λ e. omega (arith, e)) (omega arith) refl tt (λ e. refl),
    (
      plain_shaped forms 38 0 [] kinds.truth (λ e. omega (arith, e)) (omega arith) refl tt (λ e. refl),
      (
        special_shaped forms judged refers,
        (
          selectors_shaped forms judged refers,
          (
            plain_shaped forms 49 1 (nil_ref ∷ ref.Obj 6 ∷ []) kinds.association (λ e. omega (arith, e)) (omega arith) refl
                (refers.numbers 0 (omega arith), (refers.numbers 6 (omega arith), tt)) (λ e. absurd (omega (arith, e))),
            (
              plain_shaped forms 48 1 (ref.Obj 7 ∷ active_ref forms ∷ []) kinds.scheduler (λ e. omega (arith, e)) (omega arith) refl
                  (refers.numbers 7 (omega arith), (refers.processes _, tt)) (λ e. absurd (omega (arith, e))),
              (
                plain_shaped forms 39 2 (map (λ i. ref.Obj i) (range_with_len first_list 8)) kinds.array (λ e. omega (arith, e)) (omega arith) refl lists (λ e. absurd (omega (arith, e))),
                all_map (Shaped forms) (list_object forms) (range_with_len 1 8) (λ k. list_shaped forms judged refers k),
              ),
            ),
          ),
        ),
      ),
    ),
  ),
)
  where
    kinds : HasKinds (table_made forms)
    kinds = all_kinds forms judged

    lists : AllByRecursion (FitsRef (length (text_objects forms))) (map (λ i. ref.Obj i) (range_with_len first_list 8))
    lists = (
      refers.numbers 8 (omega arith),
      (
        refers.numbers 9 (omega arith),
        (
          refers.numbers 10 (omega arith),
          (
            refers.numbers 11 (omega arith),
            (refers.numbers 12 (omega arith), (refers.numbers 13 (omega arith), (refers.numbers 14 (omega arith), (refers.numbers 15 (omega arith), tt)))),
          ),
        ),
      ),
    )

-- ---- the dictionaries and the symbols

pair_shaped : (forms : List Form) (place : ℕ) (methods : List MethodLine) → IsJudged forms → Refers forms → place < length (all_classes forms) → length methods ≤ length forms
    → AllByRecursion (Shaped forms) (Ptr (new_head 50 3) (Small (pos (length methods)) ∷ ref.Obj (values_birth forms place) ∷ map (λ m. symbol_ref forms m.selector) methods)
    ∷ Ptr (new_head 39 2) (map (λ m. obj_or_nil (method_birth forms m.class m.selector)) methods) ∷ [])
pair_shaped forms place methods judged refers h few = (
  plain_shaped forms 50 3 _ (all_kinds forms judged).dictionary (λ e. omega (arith, e)) (omega arith) refl (
    count_small (length methods) (small (length methods) (length forms) few judged.few),
    (refers.values place h, all_map (FitsRef (length (text_objects forms))) (λ (m : MethodLine). symbol_ref forms m.selector) methods (λ m. refers.symbols m.selector)),
  ) (λ e. absurd (omega (arith, e))),
  (
    plain_shaped forms 39 2 _ (all_kinds forms judged).array (λ e. omega (arith, e)) (omega arith) refl
        (all_map (FitsRef (length (text_objects forms))) (λ (m : MethodLine). obj_or_nil (method_birth forms m.class m.selector)) methods (λ m. refers.methods m.class m.selector)) (λ e. absurd (omega (arith, e))),
    tt,
  ),
)
  where
    small : (k n : ℕ) → k ≤ n → n ≤ 262144 → k < 2 ^ 30
    small k n h few = omega (arith, h, few)

pairs_shaped : (P : Obj → Type 0) (f : ℕ → ClassLine → List Obj) (n : ℕ) → ((k : ℕ) (line : ClassLine) → k < n → AllByRecursion P (f k line)) → (at : ℕ) (lines : List ClassLine) → at + length lines ≤ n
    → AllByRecursion P (flat_map (λ e. f e.0 e.1) (enumerate_from at lines))
pairs_shaped P f n each at [] h = tt
pairs_shaped P f n each at (line ∷ lines) h =
    all-append P (f at line) (flat_map (λ e. f e.0 e.1) (enumerate_from (at + 1) lines)) (each at line (omega (arith, h))) (pairs_shaped P f n each (at + 1) lines (omega (arith, h)))

pub dictionaries_shaped : (forms : List Form) → IsJudged forms → Refers forms → AllByRecursion (Shaped forms) (all_dictionaries forms)
unfolding all_dictionaries
dictionaries_shaped forms judged refers = pairs_shaped (Shaped forms) (dictionary_objects forms) (length (all_classes forms))
    (λ k line h. pair_shaped forms k (methods_of forms line.name) judged refers h (methods_few forms line.name)) 0 (all_classes forms) (le (length (all_classes forms)))
  where
    le : (n : ℕ) → 0 + n ≤ n
    le n = omega arith

symbols_from : (forms : List Form) (names : List (List ℕ)) → IsJudged forms → AllByRecursion (λ name. AllByRecursion IsByte name) names → AllByRecursion (Shaped forms) (map (raw_object 41) names)
symbols_from forms [] judged units = tt
symbols_from forms (name ∷ names) judged units =
    (raw_shaped (text_objects forms) (table_made forms) (length (text_objects forms)) 41 name (all_kinds forms judged).symbol (λ e. omega (arith, e)) units.0, symbols_from forms names judged units.1)

pub symbols_shaped : (forms : List Form) → IsJudged forms → AllByRecursion (Shaped forms) (symbol_objects forms)
unfolding symbol_names
symbols_shaped forms judged = symbols_from forms (symbols_of forms) judged judged.symbols
