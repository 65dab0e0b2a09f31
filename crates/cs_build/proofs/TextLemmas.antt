-- Texts whose lines are read and judged.
use Rattle.std.proofs.Common.{◌≡◌, ℕ, suc, ◌+◌, ◌<◌, ◌≤◌, Bool, true, false, List, [], ◌∷◌, ◌++◌, Some, None, Err, length, map, refl, arith, ap, sym, subst, ◌∙◌, if◌then◌else◌, nat_lt}
use Rattle.std.specs.Prelude.{◌||◌, ◌==◌, Option, codes, count_by, flat_map, option_to_list, MatchOption}
use Rattle.std.specs.Option.{option_or}
use Rattle.std.specs.List.{before_first}
use Rattle.std.specs.Str.{bytes_eq}
use Rattle.std.specs.Borrow.{Bor}
use Rattle.std.proofs.lemmas.Bool.Decides.{nat_tests}
use Rattle.cs_model.specs.BuilderText.{Form, forms_from}
use Rattle.cs_model.specs.BuilderFault as fault
use Rattle.cs_model.specs.BuilderFault.{BuildFault, class_lines, forms_of, is_open, is_too_much, lines_fault, mention_fault, numbered_forms, text_fault}
use Rattle.cs_model.specs.Text.{is_too_long, lines_of, space}
use Rattle.cs_build.specs.declared.error.BuildError.{BuildError}
use Rattle.cs_build.specs.declared.error.BuildError.TheVariants as error
use Rattle.cs_build.specs.declared.lines.Line.{Line}
use Rattle.cs_build.specs.declared.lines.Reading.{Reading}
use Rattle.cs_build.specs.Lines.{IsRead, Judges, TellsFault, forms_by, lines_by, narrow_line}
use Rattle.cs_build.specs.Meaning.{form_by}
use Rattle.cs_build.specs.Narrow.{word_texts}
use Rattle.cs_build.proofs.Narrowing.{bad-line, lines-narrow, lines-same}

-- ---- texts that are too large

abbrev begins_class : List ℕ → Bool
begins_class line = bytes_eq (before_first (λ b. b == space) line) (codes "class")

length-texts : (lines : List (Bor (List ℕ))) → length (word_texts lines) ≡ length lines
length-texts [] = refl
length-texts (line ∷ lines) = ap (λ n. suc n) (length-texts lines)

over : (most n : ℕ) → most < n → nat_lt most n ≡ true
over most n h = grind (arith, nat_tests, h)

under : (most n : ℕ) → n ≤ most → nat_lt most n ≡ false
under most n h = grind (arith, nat_tests, h)

counted : (text : List ℕ) (lines : List (Bor (List ℕ))) → word_texts lines ≡ lines_of text → length (lines_of text) ≡ length lines
counted text lines are = ap length (sym are) ∙ length-texts lines

too-much : (text : List ℕ) → is_too_much text ≡ true → text_fault text ≡ Some fault.TooMany
unfolding text_fault
too-much text h = ap (λ b. if b then Some fault.TooMany else
    option_or (lines_fault [] (numbered_forms text))
    (if is_open (forms_of text) then Some (fault.BadLine (length (lines_of text) + 1)) else mention_fault (forms_of text) (numbered_forms text))) h

pub too-long : (text : List ℕ) → 16777216 < length text → text_fault text ≡ Some fault.TooMany
too-long text h = too-much text (ap (λ b. (b || nat_lt 262144 (length (lines_of text))) || nat_lt 16332 (class_lines text)) (over 16777216 (length text) h))

or-true : (b : Bool) → (b || true) ≡ true
or-true true = refl
or-true false = refl

pub too-many-lines : (text : List ℕ) (lines : List (Bor (List ℕ))) → word_texts lines ≡ lines_of text → 262144 < length lines → text_fault text ≡ Some fault.TooMany
too-many-lines text lines are h = too-much text
    (ap (λ b. (nat_lt 16777216 (length text) || b) || nat_lt 16332 (class_lines text)) (ap (nat_lt 262144) (counted text lines are) ∙ over 262144 (length lines) h)
    ∙ ap (λ b. b || nat_lt 16332 (class_lines text)) (or-true (nat_lt 16777216 (length text))))

pub too-many-classes : (text : List ℕ) (lines : List (Bor (List ℕ))) (n : ℕ) → word_texts lines ≡ lines_of text
    → n ≡ count_by begins_class (word_texts lines) → 16332 < n → text_fault text ≡ Some fault.TooMany
too-many-classes text lines n are count h = too-much text
    (ap (λ b. is_too_long text || b) (ap (nat_lt 16332) (sym (count ∙ ap (count_by begins_class) are)) ∙ over 16332 n h) ∙ or-true (is_too_long text))

-- ---- texts that aren't

-- what a text of a size that is allowed says
abbrev pub judged_by : List ℕ → Option BuildFault
judged_by text = option_or (lines_fault [] (numbered_forms text))
    (if is_open (forms_of text) then Some (fault.BadLine (length (lines_of text) + 1)) else mention_fault (forms_of text) (numbered_forms text))

pub allowed : (text : List ℕ) (lines : List (Bor (List ℕ))) (n : ℕ) → length text ≤ 16777216 → word_texts lines ≡ lines_of text → length lines ≤ 262144
    → n ≡ count_by begins_class (word_texts lines) → n ≤ 16332 → text_fault text ≡ judged_by text
unfolding text_fault
allowed text lines n short are few count classes =
    let first : nat_lt 16777216 (length text) ≡ false = under 16777216 (length text) short in
    let second : nat_lt 262144 (length (lines_of text)) ≡ false = ap (nat_lt 262144) (counted text lines are) ∙ under 262144 (length lines) few in
    let third : nat_lt 16332 (class_lines text) ≡ false = ap (nat_lt 16332) (sym (count ∙ ap (count_by begins_class) are)) ∙ under 16332 n classes in
    λ i. if (first i || second i) || third i then Some fault.TooMany else judged_by text

numbered-read : (text : List ℕ) (lines : List (Bor (List ℕ))) → word_texts lines ≡ lines_of text → numbered_forms text ≡ forms_from false 1 (word_texts lines)
numbered-read text lines are = ap (forms_from false 1) (sym are)

-- a fault of the lines that are read
pub fault-judged : (text : List ℕ) (lines : List (Bor (List ℕ))) (reading : Reading) (x : BuildFault) → word_texts lines ≡ lines_of text
    → IsRead (forms_from false 1 (word_texts lines)) reading → lines_fault [] (lines_by reading.lines.items) ≡ Some x → judged_by text ≡ Some x
fault-judged text lines reading x are read found =
    ap (λ f. option_or f (if is_open (forms_of text) then Some (fault.BadLine (length (lines_of text) + 1)) else mention_fault (forms_of text) (numbered_forms text)))
    (ap (lines_fault []) (numbered-read text lines are) ∙ sym (lines-narrow [] (forms_from false 1 (word_texts lines))) ∙ by reading.bad read)
  where
    by : (bad : Option ℕ)
        → MatchOption bad (map narrow_line (forms_from false 1 (word_texts lines)) ≡ lines_by reading.lines.items)
        (λ n. (rest : List (ℕ × Option Form)) × (map narrow_line (forms_from false 1 (word_texts lines)) ≡ lines_by reading.lines.items ++ (n, None) ∷ rest))
        → lines_fault [] (map narrow_line (forms_from false 1 (word_texts lines))) ≡ Some x
    by None h = ap (lines_fault []) h ∙ found
    by (Some n) h = ap (lines_fault []) h.1 ∙ bad-line [] (lines_by reading.lines.items) h.0 n ∙ ap (λ f. option_or f (Some (fault.BadLine n))) found

-- the line that has no form
pub fault-bad : (text : List ℕ) (lines : List (Bor (List ℕ))) (reading : Reading) (n : ℕ) → word_texts lines ≡ lines_of text
    → IsRead (forms_from false 1 (word_texts lines)) reading → reading.bad ≡ Some n → lines_fault [] (lines_by reading.lines.items) ≡ None
    → judged_by text ≡ Some (fault.BadLine n)
fault-bad text lines reading n are read bad none =
    let h = subst (λ b. MatchOption b (map narrow_line (forms_from false 1 (word_texts lines)) ≡ lines_by reading.lines.items)
    (λ n. (rest : List (ℕ × Option Form)) × (map narrow_line (forms_from false 1 (word_texts lines)) ≡ lines_by reading.lines.items ++ (n, None) ∷ rest))) bad read in
    ap (λ f. option_or f (if is_open (forms_of text) then Some (fault.BadLine (length (lines_of text) + 1)) else mention_fault (forms_of text) (numbered_forms text)))
    (ap (lines_fault []) (numbered-read text lines are) ∙ sym (lines-narrow [] (forms_from false 1 (word_texts lines)))
    ∙ ap (lines_fault []) h.1 ∙ bad-line [] (lines_by reading.lines.items) h.0 n ∙ ap (λ f. option_or f (Some (fault.BadLine n))) none)

forms-said : (lines : List Line) → flat_map (λ line. option_to_list line.1) (lines_by lines) ≡ forms_by lines
forms-said [] = refl
forms-said (line ∷ lines) = ap (λ fs. form_by line.form ∷ fs) (forms-said lines)

-- all lines are read and judged
pub record AreSaid (text : List ℕ) (lines : List Line) : Type 0 where
  pub numbered : numbered_forms text ≡ lines_by lines
  pub forms : forms_of text ≡ forms_by lines
  pub fault : lines_fault [] (numbered_forms text) ≡ None

pub all-said : (text : List ℕ) (lines : List (Bor (List ℕ))) (reading : Reading) → word_texts lines ≡ lines_of text
    → IsRead (forms_from false 1 (word_texts lines)) reading → reading.bad ≡ None → lines_fault [] (lines_by reading.lines.items) ≡ None
    → AreSaid text reading.lines.items
all-said text lines reading are read bad none =
    let h = subst (λ b. MatchOption b (map narrow_line (forms_from false 1 (word_texts lines)) ≡ lines_by reading.lines.items)
    (λ n. (rest : List (ℕ × Option Form)) × (map narrow_line (forms_from false 1 (word_texts lines)) ≡ lines_by reading.lines.items ++ (n, None) ∷ rest))) bad read in
    let fault : lines_fault [] (forms_from false 1 (word_texts lines)) ≡ None =
    sym (lines-narrow [] (forms_from false 1 (word_texts lines))) ∙ ap (lines_fault []) h ∙ none in
    let numbered : numbered_forms text ≡ lines_by reading.lines.items =
    numbered-read text lines are ∙ sym (lines-same [] (forms_from false 1 (word_texts lines)) fault) ∙ h in
    record {
      numbered = numbered;
      forms = ap (flat_map (λ line. option_to_list line.1)) numbered ∙ forms-said reading.lines.items;
      fault = ap (lines_fault []) (numbered-read text lines are) ∙ fault;
    }

-- a method without its end
pub fault-open : (text : List ℕ) (lines : List (Bor (List ℕ))) (said : List Line) → word_texts lines ≡ lines_of text → AreSaid text said
    → is_open (forms_by said) ≡ true → judged_by text ≡ Some (fault.BadLine (length lines + 1))
fault-open text lines said are all is =
    (λ i. option_or (all.fault i) (if (ap is_open all.forms ∙ is) i then Some (fault.BadLine (length (lines_of text) + 1)) else mention_fault (forms_of text) (numbered_forms text)))
    ∙ ap (λ n. Some (fault.BadLine (n + 1))) (counted text lines are)

-- references
pub fault-mention : (text : List ℕ) (said : List Line) → AreSaid text said → is_open (forms_by said) ≡ false
    → judged_by text ≡ mention_fault (forms_by said) (lines_by said)
fault-mention text said all is =
    (λ i. option_or (all.fault i) (if (ap is_open all.forms ∙ is) i then Some (fault.BadLine (length (lines_of text) + 1)) else mention_fault (forms_of text) (numbered_forms text)))
    ∙ (λ i. mention_fault (all.forms i) (all.numbered i))

-- ---- what errors tell

pub tells-as : (f g : Option BuildFault) (e : BuildError) → ((x : BuildFault) → f ≡ Some x → g ≡ Some x) → TellsFault f e → TellsFault g e
tells-as f g error.TooMany all h = all _ h
tells-as f g (error.BadLine n) all h = all _ h
tells-as f g (error.Twice n) all h = all _ h
tells-as f g (error.BadRange n) all h = all _ h
tells-as f g (error.BadName n) all h = all _ h
tells-as f g error.NoMemory all h = tt

pub tells-judged : (f g : Option BuildFault) (e : BuildError) → g ≡ f → Judges {A = Unit {0}} f (Err e) → TellsFault g e
tells-judged f g error.TooMany is h = is ∙ h
tells-judged f g (error.BadLine n) is h = is ∙ h
tells-judged f g (error.Twice n) is h = is ∙ h
tells-judged f g (error.BadRange n) is h = is ∙ h
tells-judged f g (error.BadName n) is h = is ∙ h
tells-judged f g error.NoMemory is h = tt
