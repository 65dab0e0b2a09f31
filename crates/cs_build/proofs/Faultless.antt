-- A text that has no fault is judged.
use Rattle.std.proofs.Common.{◌≡◌, ℕ, ◌+◌, ◌≤◌, Bool, true, false, cond, nat_lt, List, [], ◌∷◌, ◌++◌, Some, None, Option, length, ap, sym, subst, ◌∙◌, refl, arith, append_assoc, if◌then◌else◌}
use Rattle.std.specs.Prelude.{◌&&◌, not, count_by, find, flat_map, option_map, option_to_list, IfSome}
use Rattle.std.specs.Option.{option_or}
use Rattle.std.specs.List.{AllByRecursion, list_all}
use Rattle.std.proofs.lemmas.Bool.{and_from, or_parts}
use Rattle.std.proofs.lemmas.Bool.Decides.{nat_tests}
use Rattle.std.proofs.lemmas.List.{append-nil, length-append}
use Rattle.std.proofs.lemmas.List.Sums.{sum_by-cons}
use Rattle.cs_model.specs.BuilderText.{Form, form_in, forms_from, is_inside, is_skipped}
use Rattle.cs_model.specs.BuilderFault as fault
use Rattle.cs_model.specs.BuilderFault.{BuildFault, all_known, class_lines, class_lines_in, known_classes, forms_of, form_fault, is_known, is_open, is_too_much, is_twice, is_in_range, has_names, lines_fault, line_fault, mention_fault, mentions_in, numbered_forms, text_fault}
use Rattle.cs_model.specs.Builder.{symbols_in}
use Rattle.cs_model.specs.Text.{is_too_long, lines_of}
use Rattle.cs_model.proofs.Same.{all-append}
use Rattle.cs_build.specs.Stored.{IsByte}
use Rattle.cs_build.specs.Judged.{HasBytes, IsJudged, IsJudgedLine, are_nested, is_inner}
use Rattle.cs_build.proofs.Symboling.{symbols_bytes}
use Rattle.cs_build.proofs.Shaping.{IsSaid, OfBytes, begins_class, line_said, lines_bytes}

-- ---- the parts of the verdict

-- what the lines say
abbrev said : ℕ × Option Form → List Form
said line = option_to_list line.1

or_none : {A : Type 0} (a b : Option A) → option_or a b ≡ None → (a ≡ None) × (b ≡ None)
or_none None b h = (refl, h)
or_none (Some x) b h = absurd (cc)

if_none : {A : Type 0} (b : Bool) (x : A) (o : Option A) → (if b then Some x else o) ≡ None → (b ≡ false) × (o ≡ None)
if_none true x o h = absurd (cc)
if_none false x o h = (refl, h)

map_none : {A B : Type 0} (f : A → B) (o : Option A) → option_map f o ≡ None → o ≡ None
map_none f None h = refl
map_none f (Some x) h = absurd (cc)

record Verdict (text : List ℕ) : Type 0 where
  few : is_too_much text ≡ false
  lines : lines_fault [] (numbered_forms text) ≡ None
  closed : is_open (forms_of text) ≡ false
  mentions : find (λ line. not (all_known (forms_of text) line.1)) (numbered_forms text) ≡ None

verdict : (text : List ℕ) → text_fault text ≡ None → Verdict text
unfolding text_fault
verdict text h =
    let first = if_none (is_too_much text) fault.TooMany _ h in
    let second = or_none (lines_fault [] (numbered_forms text)) _ first.1 in
    let third = if_none (is_open (forms_of text)) (fault.BadLine (length (lines_of text) + 1)) (mention_fault (forms_of text) (numbered_forms text)) second.1 in
    record { few = first.0; lines = second.0; closed = third.0; mentions = map_none (λ line. fault.BadName line.0) _ third.1 }

-- ---- each line

judged_line : (above : List Form) (n : ℕ) (form : Form) → form_fault above n form ≡ None → IsJudgedLine above form
judged_line above n form h =
    let first = if_none (is_twice above form) (fault.Twice n) _ h in
    let second = if_none (not (is_in_range above form)) (fault.BadRange n) _ first.1 in
    let third = if_none (not (has_names above form)) (fault.BadName n) None second.1 in
    record { new = first.0; fits = yes (is_in_range above form) second.0; names = yes (has_names above form) third.0 }
  where
    yes : (b : Bool) → not b ≡ false → b ≡ true
    yes true h = refl
    yes false h = absurd (cc)

lines_judged : (above : List Form) (lines : List (ℕ × Option Form)) → lines_fault above lines ≡ None
    → (before : List Form) (form : Form) (below : List Form) → flat_map said lines ≡ before ++ form ∷ below → IsJudgedLine (above ++ before) form
lines_judged above [] h [] form below e = absurd (cc)
lines_judged above [] h (b ∷ before) form below e = absurd (cc)
lines_judged above ((n, None) ∷ lines) h before form below e = absurd (cc)
lines_judged above ((n, Some f) ∷ lines) h [] form below e =
    let same : f ≡ form = cc in
    subst (λ (fs : List Form). IsJudgedLine fs form) (sym (append-nil above))
    (subst (IsJudgedLine above) same (judged_line above n f (or_none (form_fault above n f) _ h).0))
lines_judged above ((n, Some f) ∷ lines) h (b ∷ before) form below e =
    let same : f ≡ b = cc in
    let rest : flat_map said lines ≡ before ++ form ∷ below = cc in
    let here = lines_judged (above ++ f ∷ []) lines (or_none (form_fault above n f) _ h).1 before form below rest in
    subst (λ (fs : List Form). IsJudgedLine fs form) (append_assoc above (f ∷ []) before ∙ ap (λ (x : Form). above ++ x ∷ before) same) here

-- ---- references

known_all : (forms : List Form) (lines : List (ℕ × Option Form)) → find (λ line. not (all_known forms line.1)) lines ≡ None
    → list_all (λ form. list_all (is_known forms) (mentions_in form)) (flat_map said lines) ≡ true
known_all forms [] h = refl
known_all forms ((n, None) ∷ lines) h = known_all forms lines h
known_all forms ((n, Some form) ∷ lines) h = go (list_all (is_known forms) (mentions_in form)) _ h (known_all forms lines)
  where
    go : (b : Bool) (o : Option (ℕ × Option Form)) → cond (not b) (Some (n, Some form)) o ≡ None
        → (o ≡ None → list_all (λ form. list_all (is_known forms) (mentions_in form)) (flat_map said lines) ≡ true)
        → (b && list_all (λ form. list_all (is_known forms) (mentions_in form)) (flat_map said lines)) ≡ true
    go true o e rest = rest e
    go false o e rest = absurd (cc)

-- ---- what all lines say

-- the forms of lines, from where a method is open or not
record AreSaidBy (inside : Bool) (lines : List (List ℕ)) (forms : List Form) : Type 0 where
  nested : are_nested inside forms ≡ true
  few : length forms ≤ length lines
  classes : length (flat_map class_lines_in forms) ≤ count_by begins_class lines
  symbols : AllByRecursion OfBytes (flat_map symbols_in forms)
  bytes : AllByRecursion HasBytes forms

line_skipped : (inside : Bool) (line : List ℕ) (lines : List (List ℕ)) (forms : List Form) → AreSaidBy inside lines forms → AreSaidBy inside (line ∷ lines) forms
line_skipped inside line lines forms are = record {
  nested = are.nested;
  few = omega (arith, are.few);
  classes = omega (arith, are.classes, sum_by-cons (λ l. cond (begins_class l) 1 0) line lines);
  symbols = are.symbols;
  bytes = are.bytes;
}

line_more : (inside : Bool) (line : List ℕ) (lines : List (List ℕ)) (form : Form) (forms : List Form) → IsSaid inside (cond (begins_class line) 1 0) form
    → AreSaidBy (is_inside inside (Some form)) lines forms → AreSaidBy inside (line ∷ lines) (form ∷ forms)
line_more inside line lines form forms is are = record {
  nested = and_from (if inside then is_inner form else not (is_inner form)) (are_nested (is_inside inside (Some form)) forms) is.place are.nested;
  few = omega (arith, are.few);
  classes = omega (
    arith,
    is.classes,
    are.classes,
    sum_by-cons (λ l. cond (begins_class l) 1 0) line lines,
    length-append (class_lines_in form) (flat_map class_lines_in forms),
  );
  symbols = all-append OfBytes (symbols_in form) (flat_map symbols_in forms) is.symbols are.symbols;
  bytes = (is.bytes, are.bytes);
}

lines_said : (inside : Bool) (number : ℕ) (lines : List (List ℕ)) → AllByRecursion OfBytes lines
    → AreSaidBy inside lines (flat_map said (forms_from inside number lines))
lines_said inside number [] all = record { nested = refl; few = omega arith; classes = omega arith; symbols = tt; bytes = tt }
lines_said inside number (line ∷ lines) all =
    go (is_skipped line) (form_in inside line) (line_said inside line all.0) (λ next. lines_said next (number + 1) lines all.1)
  where
    go : (b : Bool) (o : Option Form) → IfSome o (IsSaid inside (cond (begins_class line) 1 0))
        → ((next : Bool) → AreSaidBy next lines (flat_map said (forms_from next (number + 1) lines)))
        → AreSaidBy inside (line ∷ lines) (flat_map said (if b then forms_from inside (number + 1) lines else (number, o) ∷ forms_from (is_inside inside o) (number + 1) lines))
    go true o is rest = line_skipped inside line lines _ (rest inside)
    go false None is rest = line_skipped inside line lines _ (rest inside)
    go false (Some form) is rest = line_more inside line lines form _ is (rest (is_inside inside (Some form)))

-- ---- sizes

under : (most n : ℕ) → nat_lt most n ≡ false → n ≤ most
under most n h = grind (arith, nat_tests, h)

-- ---- the whole

pub text_judged : (text : List ℕ) → AllByRecursion IsByte text → text_fault text ≡ None → IsJudged (forms_of text)
text_judged text units h =
    let v : Verdict text = verdict text h in
    let are = lines_said false 1 (lines_of text) (lines_bytes text units) in
    let sizes = or_parts (is_too_long text) (nat_lt 16332 (class_lines text)) v.few in
    let long = or_parts (nat_lt 16777216 (length text)) (nat_lt 262144 (length (lines_of text))) sizes.0 in
    let few : length (lines_of text) ≤ 262144 = under 262144 (length (lines_of text)) long.1 in
    let classes : class_lines text ≤ 16332 = under 16332 (class_lines text) sizes.1 in
    record {
      lines = λ above form below e. lines_judged [] (numbered_forms text) v.lines above form below e;
      known = known_all (forms_of text) (numbered_forms text) v.mentions;
      closed = v.closed;
      nested = are.nested;
      few = omega (arith, are.few, few);
      few_classes = omega (arith, are.classes, classes, length-append known_classes (flat_map class_lines_in (forms_of text)));
      symbols = symbols_bytes (forms_of text) are.symbols;
      bytes = are.bytes;
    }
