-- The headers of methods of a text without fault, and how many literals they have.
use Rattle.std.proofs.Common.{◌≡◌, ℕ, suc, ◌+◌, ◌*◌, ◌/◌, ◌%◌, ◌^◌, ◌==◌, ◌<◌, ◌≤◌, Bool, true, false, cond, nat_lt, List, [], ◌∷◌, ◌++◌, length, map, take, Some, ap, ap₂, sym, ◌∙◌, refl, arith, append_assoc, if◌then◌else◌}
use Rattle.std.specs.Prelude.{ℤ, pos, negsuc, ◌&&◌, not, count_by, filter, flat_map, is_some, nat_le, int_lt}
use Rattle.std.specs.Option.{option_map_or}
use Rattle.std.specs.List.{AllByRecursion, before_first, position_or_len}
use Rattle.std.proofs.lemmas.Bool.{and_from}
use Rattle.std.proofs.lemmas.Bool.Decides.{nat_tests}
use Rattle.std.proofs.lemmas.List.{append-nil, length-map}
use Rattle.std.proofs.lemmas.List.Sums.{sum_by-cons, sum_by_push}
use Rattle.cs_model.specs.Obj.{argument_count, context_size, is_header, literal_count, temporary_count}
use Rattle.cs_model.specs.BuilderText as text
use Rattle.cs_model.specs.BuilderText.{Form, MethodLine, is_inside}
use Rattle.cs_model.specs.BuilderFault.{fits, is_between, is_end_line, is_in_range, is_literal, is_method_line, mentions_in, method_fits, most_temporaries, has_literal_room, open_body}
use Rattle.cs_model.specs.Builder.{bit_of, body_behind, body_of, built_header, built_literals, is_method_of, mention_ref, natural, first_symbol, symbols_of}
use Rattle.cs_build.specs.Judged.{IsJudged, are_nested, is_inner}
use Rattle.cs_build.specs.Laid.{FitsRef}
use Rattle.cs_build.proofs.Contexts.{temporaries_fit}
use Rattle.cs_build.proofs.Encoding.{body_all}
use Rattle.cs_build.proofs.Gathering.{all_flat, all_kept, all_mapped}
use Rattle.cs_build.proofs.Referring.{AreInRange, all_ranged, mention_fits}
use Rattle.cs_build.proofs.Sounding.{and_true, natural_between}
use Rattle.cs_build.proofs.TableLemmas.{body-begin, body-more}

-- ---- how many literals

count : List Form → ℕ
count forms = count_by is_literal forms

count_none : count [] ≡ 0
unfolding count
count_none = refl

count_push : (forms : List Form) (form : Form) → count (forms ++ form ∷ []) ≡ count forms + cond (is_literal form) 1 0
unfolding count
count_push forms form = sum_by_push (λ f. cond (is_literal f) 1 0) forms form

room_left : (above : List Form) → has_literal_room above ≡ true → count (open_body above) < 32767
unfolding count
room_left above h = below (count_by is_literal (open_body above)) h
  where
    below : (n : ℕ) → nat_lt n 32767 ≡ true → n < 32767
    below n h = grind (arith, nat_tests, h)

-- behind the lines of an open method the lines up to its end give no more literals than there is room for
body_few : (forms : List Form) → IsJudged forms → (above body rest : List Form) → forms ≡ above ++ rest → open_body above ≡ body → are_nested true rest ≡ true
    → count body ≤ 32767 → count (body ++ before_first is_end_line rest) ≤ 32767
body_few forms judged above body [] e behind nested few = rw (append-nil body) few
body_few forms judged above body (form ∷ rest) e behind nested few =
    go form (judged.lines above form rest e).fits (and_true (is_inner form) (are_nested (is_inside true (Some form)) rest) nested)
    (λ other next small. body_few forms judged (above ++ form ∷ []) (body ++ form ∷ []) rest (e ∙ sym (append_assoc above (form ∷ []) rest))
    (body-more above form other ∙ ap (λ (b : List Form). b ++ form ∷ []) behind) next small)
  where
    on : (form : Form) → take (cond true (1 + position_or_len is_end_line rest) 0) (form ∷ rest) ≡ form ∷ before_first is_end_line rest
    on form =
        let n : 1 + position_or_len is_end_line rest ≡ suc (position_or_len is_end_line rest) = omega arith in
        ap (λ (n : ℕ). take n (form ∷ rest)) n

    further : (form : Form) → count ((body ++ form ∷ []) ++ before_first is_end_line rest) ≤ 32767
        → count (body ++ take (cond true (1 + position_or_len is_end_line rest) 0) (form ∷ rest)) ≤ 32767
    further form h = rw (on form) (rw (append_assoc body (form ∷ []) (before_first is_end_line rest)) at h)

    plain : (form : Form) → is_literal form ≡ false → count (body ++ form ∷ []) ≤ 32767
    plain form e = omega (arith, few, count_push body form, ap {B = ℕ} (λ (b : Bool). cond b 1 0) e)

    go : (form : Form) → is_in_range above form ≡ true → (is_inner form ≡ true) × (are_nested (is_inside true (Some form)) rest ≡ true)
        → (is_method_line form ≡ false → are_nested true rest ≡ true → count (body ++ form ∷ []) ≤ 32767 → count ((body ++ form ∷ []) ++ before_first is_end_line rest) ≤ 32767)
        → count (body ++ before_first is_end_line (form ∷ rest)) ≤ 32767
    go text.End range inner next = rw (append-nil body) few
    go (text.Literal value) range inner next =
        let room : has_literal_room above ≡ true = (and_true (fits value) (has_literal_room above) range).1 in
        further (text.Literal value) (next refl inner.1 (more (room_left above room)))
      where
        more : count (open_body above) < 32767 → count (body ++ text.Literal value ∷ []) ≤ 32767
        more h = omega (arith, h, count_push body (text.Literal value), ap count behind)
    go (text.Byte value) range inner next = further (text.Byte value) (next refl inner.1 (plain (text.Byte value) refl))
    go (text.Label name) range inner next = further (text.Label name) (next refl inner.1 (plain (text.Label name) refl))
    go (text.Plain op) range inner next = further (text.Plain op) (next refl inner.1 (plain (text.Plain op) refl))
    go (text.JumpTo word label) range inner next = further (text.JumpTo word label) (next refl inner.1 (plain (text.JumpTo word label) refl))
    go (text.ClosureTo copied args label) range inner next =
        further (text.ClosureTo copied args label) (next refl inner.1 (plain (text.ClosureTo copied args label) refl))
    go form range inner next = absurd (cc)

method_of_line : (class selector : List ℕ) (form : Form) → is_method_of class selector form ≡ true → is_method_line form ≡ true
method_of_line class selector (text.Method line) e = refl
method_of_line class selector form e = absurd (cc)

inside_behind : (inside : Bool) (form : Form) → is_method_line form ≡ true → is_inside inside (Some form) ≡ true
inside_behind inside (text.Method line) e = refl
inside_behind inside form e = absurd (cc)

methods_few : (forms : List Form) → IsJudged forms → (class selector : List ℕ) (inside : Bool) (above rest : List Form) → forms ≡ above ++ rest
    → are_nested inside rest ≡ true → count (body_behind class selector rest) ≤ 32767
methods_few forms judged class selector inside above [] e nested = omega (arith, count_none)
methods_few forms judged class selector inside above (form ∷ rest) e nested =
    let on : forms ≡ (above ++ form ∷ []) ++ rest = e ∙ sym (append_assoc above (form ∷ []) rest) in
    let next : are_nested (is_inside inside (Some form)) rest ≡ true = (and_true _ (are_nested (is_inside inside (Some form)) rest) nested).1 in
    go (is_method_of class selector form) refl on next (methods_few forms judged class selector (is_inside inside (Some form)) (above ++ form ∷ []) rest on next)
  where
    go : (b : Bool) → is_method_of class selector form ≡ b → forms ≡ (above ++ form ∷ []) ++ rest → are_nested (is_inside inside (Some form)) rest ≡ true
        → count (body_behind class selector rest) ≤ 32767 → count (if b then before_first is_end_line rest else body_behind class selector rest) ≤ 32767
    go true is on next few =
        let first : is_method_line form ≡ true = method_of_line class selector form is in
        body_few forms judged (above ++ form ∷ []) [] rest on (body-begin above form first)
        (ap (λ (b : Bool). are_nested b rest) (sym (inside_behind inside form first)) ∙ next) (omega (arith, count_none))
    go false is on next few = few

literals_counted : (forms body : List Form) → length (map (mention_ref forms) (flat_map mentions_in (filter is_literal body))) ≡ count body
unfolding count
literals_counted forms body = length-map (flat_map mentions_in (filter is_literal body)) (mention_ref forms) ∙ go body
  where
    one : (form : Form) (body : List Form) → length (flat_map mentions_in (filter is_literal (form ∷ body))) ≡ cond (is_literal form) 1 0 + length (flat_map mentions_in (filter is_literal body))
    one (text.Literal value) body = omega arith
    one form body = omega arith

    go : (body : List Form) → length (flat_map mentions_in (filter is_literal body)) ≡ count_by is_literal body
    go [] = refl
    go (form ∷ body) = omega (arith, one form body, go body, sum_by-cons (λ f. cond (is_literal f) 1 0) form body)

pub literals_few : (forms : List Form) (line : MethodLine) → IsJudged forms → length (built_literals forms line) < 32768
literals_few forms line judged =
    let few : count (body_of forms line) ≤ 32767 = methods_few forms judged line.class line.selector false [] forms refl judged.nested in
    below (length (built_literals forms line)) (count (body_of forms line)) (literals_counted forms (body_of forms line)) few
  where
    below : (n m : ℕ) → n ≡ m → m ≤ 32767 → n < 32768
    below n m e h = omega (arith, e, h)

-- ---- the header

most_few : (line : MethodLine) → most_temporaries line ≤ 56
most_few line = go line.large
  where
    go : (b : Bool) → (if b then 56 else 16) ≤ 56
    go true = omega arith
    go false = omega arith

ordered_by : (t a : ℤ) → not (int_lt t a) ≡ true → natural a ≤ natural t
ordered_by (pos m) (pos k) h = grind (arith, nat_tests, h)
ordered_by (pos m) (negsuc k) h = omega arith
ordered_by (negsuc m) (pos k) h = absurd (cc)
ordered_by (negsuc m) (negsuc k) h = omega arith

-- the numbers of a method's line
record AreFew (line : MethodLine) : Type 0 where
  arguments : natural line.arguments ≤ 15
  temporaries : natural line.temporaries ≤ most_temporaries line
  ordered : natural line.arguments ≤ natural line.temporaries

are_few : (line : MethodLine) → method_fits line ≡ true → AreFew line
are_few line e =
    let three = and_true (is_between 0 15 line.arguments && is_between 0 (most_temporaries line) line.temporaries && not (int_lt line.temporaries line.arguments))
    (option_map_or (is_between 0 65535) line.primitive true) e in
    let two = and_true (is_between 0 15 line.arguments && is_between 0 (most_temporaries line) line.temporaries) (not (int_lt line.temporaries line.arguments)) three.0 in
    let one = and_true (is_between 0 15 line.arguments) (is_between 0 (most_temporaries line) line.temporaries) two.0 in
    record {
      arguments = natural_between 0 15 line.arguments one.0;
      temporaries = temporaries_fit line e;
      ordered = ordered_by line.temporaries line.arguments two.1;
    }

bit_few : (b : Bool) → bit_of b ≤ 1
bit_few true = omega arith
bit_few false = omega arith

header_by : (n p l t a : ℕ) → ℕ
header_by n p l t a = n + p * 2 ^ 16 + l * 2 ^ 17 + t * 2 ^ 18 + a * 2 ^ 24

module _ (n p l t a : ℕ) (literals : n < 32768) (primitive : p ≤ 1) (large : l ≤ 1) (temporaries : t ≤ 56) (arguments : a ≤ 15) where
  by_small : header_by n p l t a < 2 ^ 30
  unfolding header_by
  by_small = omega (arith, literals, primitive, large, temporaries, arguments)

  by_literals : header_by n p l t a % 2 ^ 15 ≡ n
  unfolding header_by
  by_literals = omega (arith, literals, primitive, large, temporaries, arguments)

  by_large : header_by n p l t a / 2 ^ 17 % 2 ≡ l
  unfolding header_by
  by_large = omega (arith, literals, primitive, large, temporaries, arguments)

  by_temporaries : header_by n p l t a / 2 ^ 18 % 2 ^ 6 ≡ t
  unfolding header_by
  by_temporaries = omega (arith, literals, primitive, large, temporaries, arguments)

  by_arguments : header_by n p l t a / 2 ^ 24 % 2 ^ 4 ≡ a
  unfolding header_by
  by_arguments = omega (arith, literals, primitive, large, temporaries, arguments)

size_by : ℕ → ℕ
size_by k = if k == 1 then 56 else 16

size_of_bit : (l : Bool) → size_by (bit_of l) ≡ (if l then 56 else 16)
unfolding size_by
size_of_bit true = refl
size_of_bit false = refl

le_true : (a b : ℕ) → a ≤ b → nat_le a b ≡ true
le_true a b h = grind (arith, nat_tests, h)

lt_true : (a b : ℕ) → a < b → nat_lt a b ≡ true
lt_true a b h = grind (arith, nat_tests, h)

module _ (line : MethodLine) (fitting : method_fits line ≡ true) (n : ℕ) (literals : n < 32768) where
  few : AreFew line
  few = are_few line fitting

  temporaries_few : natural line.temporaries ≤ 56
  temporaries_few = let h : AreFew line = few in omega (arith, h.temporaries, most_few line)

  pub header_small : built_header line n < 2 ^ 30
  unfolding header_by
  header_small = by_small n (bit_of (is_some line.primitive)) (bit_of line.large) (natural line.temporaries) (natural line.arguments) literals
      (bit_few (is_some line.primitive)) (bit_few line.large) temporaries_few few.arguments

  pub header_counted : literal_count (built_header line n) ≡ n
  unfolding header_by
  header_counted = by_literals n (bit_of (is_some line.primitive)) (bit_of line.large) (natural line.temporaries) (natural line.arguments) literals
      (bit_few (is_some line.primitive)) (bit_few line.large) temporaries_few few.arguments

  header_size : context_size (built_header line n) ≡ most_temporaries line
  unfolding header_by size_by
  header_size = ap size_by (by_large n (bit_of (is_some line.primitive)) (bit_of line.large) (natural line.temporaries) (natural line.arguments) literals
      (bit_few (is_some line.primitive)) (bit_few line.large) temporaries_few few.arguments) ∙ size_of_bit line.large

  header_arguments : argument_count (built_header line n) ≡ natural line.arguments
  unfolding header_by
  header_arguments = by_arguments n (bit_of (is_some line.primitive)) (bit_of line.large) (natural line.temporaries) (natural line.arguments) literals
      (bit_few (is_some line.primitive)) (bit_few line.large) temporaries_few few.arguments

  header_temporaries : temporary_count (built_header line n) ≡ natural line.temporaries
  unfolding header_by
  header_temporaries = by_temporaries n (bit_of (is_some line.primitive)) (bit_of line.large) (natural line.temporaries) (natural line.arguments) literals
      (bit_few (is_some line.primitive)) (bit_few line.large) temporaries_few few.arguments

  pub header_formed : is_header (built_header line n) ≡ true
  header_formed = by (built_header line n) header_small header_arguments header_temporaries header_size
    where
      by : (h : ℕ) → h < 2 ^ 30 → argument_count h ≡ natural line.arguments → temporary_count h ≡ natural line.temporaries → context_size h ≡ most_temporaries line
          → is_header h ≡ true
      by h small arguments temporaries size = and_from (nat_lt h (2 ^ 30) && nat_le (argument_count h) (temporary_count h)) (nat_le (temporary_count h) (context_size h))
          (and_from (nat_lt h (2 ^ 30)) (nat_le (argument_count h) (temporary_count h)) (lt_true h (2 ^ 30) small)
          (ap₂ nat_le arguments temporaries ∙ le_true (natural line.arguments) (natural line.temporaries) few.ordered))
          (ap₂ nat_le temporaries size ∙ le_true (natural line.temporaries) (most_temporaries line) few.temporaries)

-- ---- literals

pub literals_fit : (forms : List Form) (total : ℕ) → IsJudged forms → total ≡ first_symbol forms + length (symbols_of forms) → (line : MethodLine)
    → AllByRecursion (FitsRef total) (built_literals forms line)
literals_fit forms total judged counted line =
    all_mapped (λ m. fits m ≡ true) (FitsRef total) (mention_ref forms) (flat_map mentions_in (filter is_literal (body_of forms line)))
    (λ m h. mention_fits forms total counted m h)
    (all_flat AreInRange (λ m. fits m ≡ true) mentions_in (filter is_literal (body_of forms line)) (λ form h. h)
    (all_kept AreInRange is_literal (body_of forms line) (body_all AreInRange line.class line.selector forms (all_ranged forms judged))))
