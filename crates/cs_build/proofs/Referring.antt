-- References of a text's lines name objects of the text, and numbers and characters that fit a word.
use Rattle.std.proofs.Common.{◌≡◌, ℕ, ◌+◌, ◌*◌, ◌^◌, ◌<◌, ◌≤◌, Bool, true, false, nat_lt, List, [], ◌∷◌, length, Some, None, Option, refl, arith, if◌then◌else◌}
use Rattle.std.specs.Prelude.{ℤ, pos, negsuc, ◌-ℤ◌, not, int_lt, position, sum_by, option_map, unwrap_or, IfSome}
use Rattle.std.specs.Option.{option_or}
use Rattle.std.specs.List.{AllByRecursion, list_all}
use Rattle.std.specs.Str.{bytes_eq}
use Rattle.std.proofs.lemmas.Bool.Decides.{nat_tests}
use Rattle.std.proofs.lemmas.Int.{ints}
use Rattle.std.proofs.lemmas.List.Sums.{sum_by-cons}
use Rattle.cs_word.specs.Word.{IsSmall}
use Rattle.cs_model.specs.Assemble.{is_within}
use Rattle.cs_model.specs.Ref.{Ref}
use Rattle.cs_model.specs.Ref as ref
use Rattle.cs_model.specs.BuilderText as text
use Rattle.cs_model.specs.BuilderText.{Form, Mention, ClassLine, MethodLine}
use Rattle.cs_model.specs.BuilderFault.{all_classes, fits, is_between, is_in_range, is_named, mentions_in, place_where}
use Rattle.cs_model.specs.Builder.{active_ref, all_forms, birth_where, class_place, class_ref, dictionary_birth, first_class, first_dictionary, first_symbol, is_method_of, is_process_named, list_birth, mention_ref, method_birth, named_birth, natural, nil_ref, obj_or_nil, object_count, process_birth, process_ref, symbol_ref, symbols_of, values_birth}
use Rattle.cs_build.specs.Laid.{FitsRef}
use Rattle.cs_build.specs.Judged.{IsJudged}
use Rattle.cs_build.proofs.Gathering.{all_passed}
use Rattle.cs_build.proofs.Sounding.{and_true, natural_between}
use Rattle.cs_build.proofs.Standing.{position_within}
use Rattle.cs_build.proofs.Symboling.{symbols_some}
use Rattle.cs_build.proofs.Totalling.{all_by_place}

-- ---- places of lines, each of which makes so many objects at least

place_least : (w : Form → ℕ) (p : Form → Bool) (least : ℕ) → ((form : Form) → p form ≡ true → least ≤ w form) → (n : ℕ) (xs : List Form)
    → IfSome (place_where w p n xs) (λ k. k + least ≤ n + sum_by w xs)
place_least w p least room n [] = tt
place_least w p least room n (x ∷ xs) = go (p x) (place_where w p (n + w x) xs) (room x) (place_least w p least room (n + w x) xs)
  where
    go : (b : Bool) (o : Option ℕ) → (b ≡ true → least ≤ w x) → IfSome o (λ k. k + least ≤ n + w x + sum_by w xs)
        → IfSome (if b then Some n else o) (λ k. k + least ≤ n + sum_by w (x ∷ xs))
    go true o here rest = let room : least ≤ w x = here refl in omega (arith, sum_by-cons w x xs)
    go false None here rest = tt
    go false (Some k) here rest = omega (arith, rest, sum_by-cons w x xs)

named_makes : (name : List ℕ) (form : Form) → is_named name form ≡ true → 1 ≤ object_count form
named_makes name (text.Class line) e = omega arith
named_makes name (text.Object n class slots) e = omega arith
named_makes name (text.Bytes n class bytes) e = omega arith
named_makes name (text.Process line) e = omega arith
named_makes name form e = absurd (cc)

process_makes : (name : List ℕ) (form : Form) → is_process_named name form ≡ true → 2 ≤ object_count form
process_makes name (text.Process line) e = omega arith
process_makes name form e = absurd (cc)

method_makes : (class selector : List ℕ) (form : Form) → is_method_of class selector form ≡ true → 1 ≤ object_count form
method_makes class selector (text.Method line) e = omega arith
method_makes class selector form e = absurd (cc)

birth_least : (forms : List Form) (p : Form → Bool) (least : ℕ) → ((form : Form) → p form ≡ true → least ≤ object_count form)
    → IfSome (birth_where forms p) (λ k. k + least ≤ first_dictionary forms)
birth_least forms p least room = place_least object_count p least room first_class (all_forms forms)

so_below : (o : Option ℕ) (f : ℕ → ℕ) (least top most : ℕ) → IfSome o (λ k. k + least ≤ top) → ((k : ℕ) → k + least ≤ top → f k < most) → IfSome (option_map f o) (λ k. k < most)
so_below None f least top most h each = tt
so_below (Some k) f least top most h each = each k h

least_below : (o : Option ℕ) (top most : ℕ) → IfSome o (λ k. k + 1 ≤ top) → top ≤ most → IfSome o (λ k. k < most)
least_below None top most h le = tt
least_below (Some k) top most h le = omega (arith, h, le)

or_below : (o p : Option ℕ) (most : ℕ) → IfSome o (λ k. k < most) → IfSome p (λ k. k < most) → IfSome (option_or o p) (λ k. k < most)
or_below None p most h k = k
or_below (Some x) p most h k = h

-- ---- numbers and characters

least_negative : (n : ℕ) → not (nat_lt 1073741823 n) ≡ true → n ≤ 1073741823
least_negative n h = grind (arith, nat_tests, h)

most_natural : (n : ℕ) → nat_lt n 1073741824 ≡ true → n < 1073741824
most_natural n h = grind (arith, nat_tests, h)

pub small_fits : (z : ℤ) → is_within (pos 0 -ℤ pos (2 ^ 30)) (pos (2 ^ 30)) z ≡ true → IsSmall z
small_fits (pos n) e =
    let high : n < 1073741824 = most_natural n (and_true (not (int_lt (pos n) (pos 0 -ℤ pos (2 ^ 30)))) (int_lt (pos n) (pos (2 ^ 30))) e).1 in
    (omega (arith, ints, high), omega (arith, ints, high))
small_fits (negsuc n) e =
    let low : n ≤ 1073741823 = least_negative n (and_true (not (int_lt (negsuc n) (pos 0 -ℤ pos (2 ^ 30)))) (int_lt (negsuc n) (pos (2 ^ 30))) e).0 in
    (omega (arith, ints, low), omega (arith, ints, low))

pub code_fits : (z : ℤ) → is_within (pos 0) (pos (2 ^ 30)) z ≡ true → natural z < 2 ^ 30
code_fits z e = let most : natural z ≤ 1073741823 = natural_between 0 1073741823 z e in omega arith

-- ---- among so many objects

pub birth_fits : (total : ℕ) (o : Option ℕ) → 0 < total → IfSome o (λ k. k < total) → FitsRef total (obj_or_nil o)
birth_fits total None some h = some
birth_fits total (Some k) some h = h

symbol_below : (total first : ℕ) (names : List (List ℕ)) (o : Option ℕ) → total ≡ first + length names → 0 < length names → IfSome o (λ k. k < length names)
    → first + unwrap_or o 0 < total
symbol_below total first names None e some h = omega (arith, e, some)
symbol_below total first names (Some k) e some h = omega (arith, e, h)

module _ (forms : List Form) (total : ℕ) (counted : total ≡ first_symbol forms + length (symbols_of forms)) where
  pub dictionaries_below : first_dictionary forms + 2 * length (all_classes forms) < total
  dictionaries_below = sum_below (first_dictionary forms + 2 * length (all_classes forms)) (length (symbols_of forms)) total counted (symbols_some forms)
    where
      sum_below : (a b c : ℕ) → c ≡ a + b → 0 < b → a < c
      sum_below a b c e h = omega (arith, e, h)

  lines_below : first_dictionary forms ≤ total
  lines_below = le (first_dictionary forms) (length (all_classes forms)) total dictionaries_below
    where
      le : (a b c : ℕ) → a + 2 * b < c → a ≤ c
      le a b c h = omega (arith, h)

  pub first_below : 16 < total
  first_below = le (sum_by object_count (all_forms forms)) (length (all_classes forms)) total dictionaries_below
    where
      le : (a b c : ℕ) → 16 + a + 2 * b < c → 16 < c
      le a b c h = omega (arith, h)

  some : 0 < total
  some = let h : 16 < total = first_below in omega (arith, h)

  pub number_fits : (n : ℕ) → n ≤ 16 → FitsRef total (ref.Obj n)
  number_fits n h = let k : 16 < total = first_below in omega (arith, h, k)

  pub nil_fits : FitsRef total nil_ref
  nil_fits = some

  pub symbol_fits : (name : List ℕ) → FitsRef total (symbol_ref forms name)
  symbol_fits name = symbol_below total (first_symbol forms) (symbols_of forms) (position (bytes_eq name) (symbols_of forms)) counted (symbols_some forms)
      (position_within (bytes_eq name) (symbols_of forms))

  process_within : (name : List ℕ) → IfSome (process_birth forms name) (λ k. k < total)
  process_within name = so_below (birth_where forms (is_process_named name)) (λ i. i + 1) 2 (first_dictionary forms) total
      (birth_least forms (is_process_named name) 2 (process_makes name)) (λ k h. let le : first_dictionary forms ≤ total = lines_below in below k (first_dictionary forms) h le)
    where
      below : (k top : ℕ) → k + 2 ≤ top → top ≤ total → k + 1 < total
      below k top h le = omega (arith, h, le)

  pub context_fits : (name : List ℕ) → FitsRef total (obj_or_nil (birth_where forms (is_process_named name)))
  context_fits name = birth_fits total (birth_where forms (is_process_named name)) some
      (below (birth_where forms (is_process_named name)) (first_dictionary forms) (birth_least forms (is_process_named name) 2 (process_makes name)) lines_below)
    where
      below : (o : Option ℕ) (top : ℕ) → IfSome o (λ k. k + 2 ≤ top) → top ≤ total → IfSome o (λ k. k < total)
      below None top h le = tt
      below (Some k) top h le = omega (arith, h, le)

  named_within : (name : List ℕ) → IfSome (named_birth forms name) (λ k. k < total)
  named_within name = or_below (process_birth forms name) (birth_where forms (is_named name)) total (process_within name)
      (least_below (birth_where forms (is_named name)) (first_dictionary forms) total (birth_least forms (is_named name) 1 (named_makes name)) lines_below)

  pub named_fits : (name : List ℕ) → FitsRef total (obj_or_nil (named_birth forms name))
  named_fits name = birth_fits total (named_birth forms name) some (named_within name)

  pub class_fits : (name : List ℕ) → FitsRef total (class_ref forms name)
  class_fits name = named_fits name

  pub method_birth_fits : (class selector : List ℕ) → FitsRef total (obj_or_nil (method_birth forms class selector))
  method_birth_fits class selector = birth_fits total (method_birth forms class selector) some
      (least_below (method_birth forms class selector) (first_dictionary forms) total
      (birth_least forms (is_method_of class selector) 1 (method_makes class selector)) lines_below)

  place_fits : (f : ℕ → ℕ) (o : Option ℕ) → IfSome o (λ k. k < length (all_classes forms)) → ((k : ℕ) → k < length (all_classes forms) → f k < total)
      → FitsRef total (obj_or_nil (option_map f o))
  place_fits f None h each = some
  place_fits f (Some k) h each = each k h

  pub dictionary_below : (place : ℕ) → place < length (all_classes forms) → dictionary_birth forms place < total
  dictionary_below place h = below (first_dictionary forms) place (length (all_classes forms)) h dictionaries_below
    where
      below : (a k n : ℕ) → k < n → a + 2 * n < total → a + 2 * k < total
      below a k n h le = omega (arith, h, le)

  pub values_below : (place : ℕ) → place < length (all_classes forms) → values_birth forms place < total
  values_below place h = below (first_dictionary forms) place (length (all_classes forms)) h dictionaries_below
    where
      below : (a k n : ℕ) → k < n → a + 2 * n < total → a + 2 * k + 1 < total
      below a k n h le = omega (arith, h, le)

  pub dictionary_fits : (class : List ℕ) → FitsRef total (obj_or_nil (option_map (dictionary_birth forms) (class_place forms class)))
  dictionary_fits class = place_fits (dictionary_birth forms) (class_place forms class) (position_within (λ c. bytes_eq c.name class) (all_classes forms)) dictionary_below

  pub values_fit : (class : List ℕ) → FitsRef total (obj_or_nil (option_map (values_birth forms) (class_place forms class)))
  values_fit class = place_fits (values_birth forms) (class_place forms class) (position_within (λ c. bytes_eq c.name class) (all_classes forms)) values_below

  pub process_fits : (name : Option (List ℕ)) → FitsRef total (process_ref forms name)
  process_fits None = some
  process_fits (Some name) = birth_fits total (process_birth forms name) some (process_within name)

  pub active_fits : FitsRef total (active_ref forms)
  active_fits = process_fits _

  pub list_fits : (priority : ℕ) → priority ≤ 8 → FitsRef total (ref.Obj (list_birth priority))
  list_fits priority h = let k : 16 < total = first_below in omega (arith, h, k)

  pub mention_fits : (m : Mention) → fits m ≡ true → FitsRef total (mention_ref forms m)
  mention_fits (text.Number value) e = small_fits value e
  mention_fits (text.Code value) e = code_fits value e
  mention_fits text.Nil e = nil_fits
  mention_fits text.False e = number_fits 1 (omega arith)
  mention_fits text.True e = number_fits 2 (omega arith)
  mention_fits (text.Symbol name) e = symbol_fits name
  mention_fits (text.Named name) e = named_fits name
  mention_fits (text.Dictionary class) e = dictionary_fits class
  mention_fits (text.Values class) e = values_fit class
  mention_fits (text.MethodOf class selector) e = method_birth_fits class selector

-- ---- what lines refer to

abbrev pub AreInRange : Form → Type 0
AreInRange form = AllByRecursion (λ m. fits m ≡ true) (mentions_in form)

line_ranged : (above : List Form) (form : Form) → is_in_range above form ≡ true → AreInRange form
line_ranged above (text.Object name class slots) e = all_passed (λ m. fits m ≡ true) fits (λ m h. h) slots (and_true (list_all fits slots) _ e).0
line_ranged above (text.Process line) e = ((and_true (is_between 1 8 line.priority) (fits line.receiver) e).1, tt)
line_ranged above (text.Special place value) e = ((and_true _ (fits value) e).1, tt)
line_ranged above (text.Literal value) e = ((and_true (fits value) _ e).0, tt)
line_ranged above form e = tt

pub all_ranged : (forms : List Form) → IsJudged forms → AllByRecursion AreInRange forms
all_ranged forms judged = all_by_place AreInRange forms (λ above form below e. line_ranged above form (judged.lines above form below e).fits)
