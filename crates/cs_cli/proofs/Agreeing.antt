-- The command's specification agrees with the line.
use Rattle.std.proofs.Common.{◌≡◌, Bool, true, false, List, [], ◌∷◌, ◌++◌, ◌&&◌, ◌||◌, not, if◌then◌else◌, fold, find, Option, Some, None, codes, refl, sym, ap, subst, ◌∙◌}
use Rattle.std.specs.Option.{option_map_or}
use Rattle.std.specs.Str.{bytes_eq}
use Rattle.clap.specs.Walk.{Row, Rule, Text, Walk, finished, has_row, more_values, settled, nothing_held, with_default}
use Rattle.clap.specs.Simple.{Shape, built, matches_of}
use Rattle.clap.specs.Takes.{is_given}
use Rattle.clap.specs.Faults.{check_fault, level_fault, defaults_fault, fault_of, settle_fault, walk_fault}
use Rattle.clap.specs.Kinds.{Kinds, or_else}
use Rattle.clap.proofs.FaultLemmas.{leaf_fault}
use Rattle.clap.specs.declared.parser.matches.ValueSource.TheVariants.{DefaultValue}
use Rattle.clap.specs.declared.builder.value_parser.Reading.TheVariants.{AsWritten}
use Rattle.cs_model.specs.CommandLine.{Part, Free, parts_from}
use Rattle.cs_cli.specs.LineApp.{line_app}
use Rattle.cs_cli.proofs.Rules.{flag, is_shape, names_none, no, rules, shape}
use Rattle.cs_cli.proofs.Uses.{Uses, at_row-new, clean, clean-or, has, rows_by}
use Rattle.cs_cli.proofs.Walking.{Told, at, clashes, end_of, fits, none, rest, uses}
use Rattle.cs_cli.proofs.Telling.{AllUtf8, tells}

-- ---- defaults

-- the flag's row where it isn't given
abbrev pub flag_row : Row
flag_row = record { id = codes "--stats"; values = codes "false" ∷ []; count = None; source = Some DefaultValue; reading = AsWritten }

abbrev pub with_flag : List Row → List Row
with_flag rows = if has_row (codes "--stats") rows then rows else rows ++ flag_row ∷ []

plain_default : (rows : List Row) (a : Rule) → a.defaults ≡ [] → with_default rows a ≡ rows
plain_default rows a h = go (has_row a.id rows) refl where
  go : (t : Bool) → has_row a.id rows ≡ t → with_default rows a ≡ rows
  go true e = rw e refl
  go false e = rw (e, h) refl

plain_fault : (rows : List Row) (a : Rule) → a.defaults ≡ [] → Rattle.clap.specs.Faults.default_fault rows a ≡ []
plain_fault rows a h = go (has_row a.id rows) refl where
  go : (t : Bool) → has_row a.id rows ≡ t → Rattle.clap.specs.Faults.default_fault rows a ≡ []
  go true e = rw e refl
  go false e = rw (e, h) refl

flag_default : (rows : List Row) → with_default rows flag ≡ with_flag rows
flag_default rows = go (has_row (codes "--stats") rows) refl where
  go : (t : Bool) → has_row (codes "--stats") rows ≡ t → with_default rows flag ≡ with_flag rows
  go true e = rw e refl
  go false e = rw e (at_row-new (codes "--stats") (more_values DefaultValue (codes "false" ∷ [])) (flag_row ∷ []) rows e)

flag_fault : (rows : List Row) → Rattle.clap.specs.Faults.default_fault rows flag ≡ []
flag_fault rows = go (has_row (codes "--stats") rows) refl where
  go : (t : Bool) → has_row (codes "--stats") rows ≡ t → Rattle.clap.specs.Faults.default_fault rows flag ≡ []
  go true e = rw e refl
  go false e = rw e refl

abbrev AllPlain : List Rule → Type 0
AllPlain [] = Unit {0}
AllPlain (a ∷ xs) = (a.defaults ≡ []) × AllPlain xs

plain_defaults : (xs : List Rule) (rows : List Row) (ys : List Rule) → AllPlain xs → fold with_default rows (xs ++ ys) ≡ fold with_default rows ys
plain_defaults [] rows ys h = refl
plain_defaults (a ∷ xs) rows ys h = ap (λ r. fold with_default r (xs ++ ys)) (plain_default rows a (h.0)) ∙ plain_defaults xs rows ys (h.1)

plain_faults : (xs : List Rule) (rows : List Row) (ys : List Rule) → AllPlain xs → defaults_fault rows (xs ++ ys) ≡ defaults_fault rows ys
unfolding defaults_fault
plain_faults [] rows ys h = refl
plain_faults (a ∷ xs) rows ys h = ap (λ k. or_else k (defaults_fault (with_default rows a) (xs ++ ys))) (plain_fault rows a (h.0))
    ∙ ap (λ r. defaults_fault r (xs ++ ys)) (plain_default rows a (h.0)) ∙ plain_faults xs rows ys (h.1)

pub defaults_are : (rows : List Row) → fold with_default rows rules ≡ with_flag rows
unfolding rules
defaults_are rows = plain_defaults Rattle.cs_cli.proofs.Rules.plain_rules rows (flag ∷ []) (refl, (refl, (refl, (refl, (refl, (refl, (refl, (refl, (refl, tt))))))))) ∙ flag_default rows

pub no_default_faults : (rows : List Row) → defaults_fault rows rules ≡ []
unfolding rules defaults_fault
no_default_faults rows = plain_faults Rattle.cs_cli.proofs.Rules.plain_rules rows (flag ∷ []) (refl, (refl, (refl, (refl, (refl, (refl, (refl, (refl, (refl, tt)))))))))
    ∙ ap (λ k. or_else k []) (flag_fault rows)

-- ---- what is required

given_by : (id : Text) (us : Uses) → is_given id (rows_by us) ≡ has id us
given_by id [] = refl
given_by id (u ∷ us) = go (bytes_eq u.0 id) refl (given_by id us) where
  go : (t : Bool) → bytes_eq u.0 id ≡ t → is_given id (rows_by us) ≡ has id us → is_given id (rows_by (u ∷ us)) ≡ has id (u ∷ us)
  go true e h = rw e refl
  go false e h = rw e h

-- the flag's row at the end says nothing of other ids
find_other : (id : Text) (rows : List Row) → bytes_eq (codes "--stats") id ≡ false → find (λ r. bytes_eq r.id id) (rows ++ flag_row ∷ []) ≡ find (λ r. bytes_eq r.id id) rows
find_other id [] h = rw h refl
find_other id (r ∷ rows) h = go (bytes_eq r.id id) refl (find_other id rows h) where
  go : (t : Bool) → bytes_eq r.id id ≡ t → find (λ r. bytes_eq r.id id) (rows ++ flag_row ∷ []) ≡ find (λ r. bytes_eq r.id id) rows
      → find (λ r. bytes_eq r.id id) ((r ∷ rows) ++ flag_row ∷ []) ≡ find (λ r. bytes_eq r.id id) (r ∷ rows)
  go true e k = rw e refl
  go false e k = rw e k

pub find_with_flag : (id : Text) (rows : List Row) → bytes_eq (codes "--stats") id ≡ false → find (λ r. bytes_eq r.id id) (with_flag rows) ≡ find (λ r. bytes_eq r.id id) rows
find_with_flag id rows h = go (has_row (codes "--stats") rows) refl where
  go : (t : Bool) → has_row (codes "--stats") rows ≡ t → find (λ r. bytes_eq r.id id) (with_flag rows) ≡ find (λ r. bytes_eq r.id id) rows
  go true e = rw e refl
  go false e = rw e (find_other id rows h)

pub check_clean : (us : Uses) → clean (check_fault shape (with_flag (rows_by us)) false) ≡ (has (codes "COMMAND") us && has (codes "FILE") us)
unfolding rules
check_clean us =
    let first : is_given (codes "COMMAND") (with_flag (rows_by us)) ≡ has (codes "COMMAND") us =
    ap (λ f. option_map_or (λ r. Rattle.clap.specs.Facts.explicit_source r.source) f false) (find_with_flag (codes "COMMAND") (rows_by us) refl) ∙ given_by (codes "COMMAND") us in
    let second : is_given (codes "FILE") (with_flag (rows_by us)) ≡ has (codes "FILE") us =
    ap (λ f. option_map_or (λ r. Rattle.clap.specs.Facts.explicit_source r.source) f false) (find_with_flag (codes "FILE") (rows_by us) refl) ∙ given_by (codes "FILE") us in
    rw (first, second) (go (has (codes "COMMAND") us) (has (codes "FILE") us))
  where
    go : (a b : Bool) → clean (Rattle.clap.specs.Kinds.check_kinds false false (not a || (not b || false))) ≡ (a && b)
    go true true = refl
    go true false = refl
    go false true = refl
    go false false = refl

-- ---- the whole

-- two words by place, and no option twice
abbrev pub accepts : Option (List Part) → Bool
accepts None = false
accepts (Some parts) = (fits none parts && not (clashes [] (uses none parts))) && (has (codes "COMMAND") (uses none parts) && has (codes "FILE") (uses none parts))

pub matches_are : (words : List Text) → matches_of line_app words ≡ with_flag (settled rules (end_of (at [] [] none false) words).held).rows
unfolding rules line_app
matches_are words = defaults_are (settled rules (end_of (at [] [] none false) words).held).rows

and_assoc : (a b c : Bool) → (a && (b && c)) ≡ ((a && b) && c)
and_assoc true b c = refl
and_assoc false b c = refl

abbrev start : Walk
start = at [] [] none false

abbrev level : Shape → List Text → Kinds
level s words = level_fault s [] nothing_held words false []

whole_fault : (words : List Text) → fault_of line_app words ≡ level shape words
unfolding line_app
whole_fault words = leaf_fault (built line_app) nothing_held words refl ∙ ap (λ s. level s words) is_shape

level_clean : (words : List Text) → clean (level shape words) ≡ (clean (rest start words) && clean (check_fault shape (with_flag (settled rules (end_of start words).held).rows) false))
level_clean words =
    let h = (end_of start words).held in
    let walked_all = walk_fault shape [] start words in
    let settle = settle_fault rules false h in
    let defaults = defaults_fault (settled rules h).rows rules in
    let check = check_fault shape (finished rules h) false in
    clean-or walked_all (or_else settle (or_else defaults check))
    ∙ ap (λ x. clean walked_all && x) (clean-or settle (or_else defaults check) ∙ ap (λ x. clean settle && clean (or_else x check)) (no_default_faults (settled rules h).rows))
    ∙ and_assoc (clean walked_all) (clean settle) (clean check)
    ∙ ap (λ x. x && clean check) (sym (clean-or walked_all settle))
    ∙ ap (λ x. clean (rest start words) && clean (check_fault shape x false)) (defaults_are (settled rules h).rows)

-- nothing is wrong with the words where the parts of the line are accepted
pub fault_is : (words : List Text) → AllUtf8 words → clean (fault_of line_app words) ≡ accepts (parts_from Free words)
fault_is words utf8 =
    ap clean (whole_fault words) ∙ level_clean words ∙ go (parts_from Free words) refl ((tells words utf8).free [] [] none tt)
  where
    with_rows : (parts : List Part) (t : Bool) → (fits none parts && not (clashes [] (uses none parts))) ≡ t
        → (t ≡ true → (settled rules (end_of start words).held).rows ≡ rows_by (uses none parts))
        → (t && clean (check_fault shape (with_flag (settled rules (end_of start words).held).rows) false)) ≡ (t && (has (codes "COMMAND") (uses none parts) && has (codes "FILE") (uses none parts)))
    with_rows parts false e rows = refl
    with_rows parts true e rows = ap (λ x. clean (check_fault shape (with_flag x) false)) (rows refl) ∙ check_clean (uses none parts)

    go : (o : Option (List Part)) → parts_from Free words ≡ o → Told start words [] [] none o
        → (clean (rest start words) && clean (check_fault shape (with_flag (settled rules (end_of start words).held).rows) false)) ≡ accepts o
    go None e told = ap (λ t. t && clean (check_fault shape (with_flag (settled rules (end_of start words).held).rows) false)) told.clean
    go (Some parts) e told = ap (λ t. t && clean (check_fault shape (with_flag (settled rules (end_of start words).held).rows) false)) told.clean
        ∙ with_rows parts (fits none parts && not (clashes [] (uses none parts))) refl (λ passed. told.rows parts refl passed)

-- and then the matches are those of the parts
pub matches_by : (words : List Text) (parts : List Part) → AllUtf8 words → parts_from Free words ≡ Some parts → accepts (Some parts) ≡ true
    → matches_of line_app words ≡ with_flag (rows_by (uses none parts))
matches_by words parts utf8 is accepted =
    let told = subst (Told start words [] [] none) is ((tells words utf8).free [] [] none tt) in
    matches_are words ∙ ap with_flag (told.rows parts refl (left_true _ _ accepted))
  where
    left_true : (a b : Bool) → (a && b) ≡ true → a ≡ true
    left_true true b h = refl
    left_true false b h = h
