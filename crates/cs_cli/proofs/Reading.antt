-- What the matches of the words tell of the line.
use Rattle.std.proofs.Common.{◌≡◌, Bool, true, false, List, [], ◌∷◌, ◌++◌, ◌&&◌, ◌||◌, not, if◌then◌else◌, filter_map, find, map, Option, Some, None, is_some, option_map, option_and_then, codes, refl, sym, ap, subst, ◌∙◌, slice_get, string_bytes, String}
use Rattle.std.specs.Str.{bytes_eq}
use Rattle.std.proofs.lemmas.Str.{IsUtf8-string_bytes}
use Rattle.clap.specs.Faults.{fault_of}
use Rattle.clap.specs.Kinds.{Kinds, IsAmong}
use Rattle.clap.specs.Simple.{matches_of}
use Rattle.clap.specs.Walk.{Row, Text, first_of, has_row, rows_of}
use Rattle.clap.specs.Matches.{first_value}
use Rattle.clap.proofs.WalkLemmas.{first_value-rows}
use Rattle.clap.specs.declared.error.kind.ErrorKind.{ErrorKind}
use Rattle.clap.specs.declared.parser.matches.Found.{Found}
use Rattle.cs_model.specs.CommandLine.{Options, Part, Free, command_line_of, given_value, has_repeated_names, line_in, line_with, name_in, options_in, parts_from, positional_in, stats_word}
use Rattle.cs_cli.specs.Possible.{line_of, possible}
use Rattle.cs_cli.specs.LineApp.{line_app}
use Rattle.cs_cli.specs.Told.{IsTold}
use Rattle.cs_cli.proofs.Agreeing.{accepts, fault_is, find_with_flag, flag_row, matches_by, with_flag}
use Rattle.cs_cli.proofs.Parts.{Known, KnownIn, accepts_is, command_word, flag_has, flag_of, is_pair, known_from, second_word, value_of}
use Rattle.cs_cli.proofs.Rules.{no}
use Rattle.cs_cli.proofs.Telling.{AllUtf8}
use Rattle.cs_cli.proofs.Uses.{clean, has, has_row-by, rows_by}
use Rattle.cs_cli.proofs.Walking.{clashes, fits, none, uses}

pub utf8_of : {Z : Type 0} (words : List (String Z)) → AllUtf8 (map string_bytes words)
utf8_of [] = tt
utf8_of (word ∷ words) = (IsUtf8-string_bytes word, utf8_of words)

left_true : (a b : Bool) → (a && b) ≡ true → a ≡ true
left_true true b h = refl
left_true false b h = h

right_true : (a b : Bool) → (a && b) ≡ true → b ≡ true
right_true true b h = h
right_true false b h = absurd (no (sym h))

not_true : (a : Bool) → not a ≡ true → a ≡ false
not_true false h = refl
not_true true h = absurd (no (sym h))

pub line_by_parts : (words : List Text) (parts : List Part) → parts_from Free words ≡ Some parts → line_of words ≡ option_and_then possible (line_in parts)
unfolding line_of command_line_of
line_by_parts words parts is = ap (λ o. option_and_then possible (option_and_then line_in o)) is

-- ---- refused

none_with : (words : List Text) (o : Option Options) → is_pair words ≡ false → option_and_then (line_with words) o ≡ None
none_with words None h = refl
none_with [] (Some x) h = refl
none_with (a ∷ []) (Some x) h = refl
none_with (a ∷ b ∷ []) (Some x) h = absurd (no h)
none_with (a ∷ b ∷ c ∷ more) (Some x) h = refl

line_none : (parts : List Part) → Known parts → accepts (Some parts) ≡ false → line_in parts ≡ None
line_none parts k refused = go (has_repeated_names (filter_map name_in parts)) refl where
  go : (t : Bool) → has_repeated_names (filter_map name_in parts) ≡ t → line_in parts ≡ None
  go true e = rw e refl
  go false e =
      let pair : is_pair (filter_map positional_in parts) ≡ false = sym (ap (λ t. not t && is_pair (filter_map positional_in parts)) e) ∙ sym (accepts_is parts k) ∙ refused in
      rw e (none_with (filter_map positional_in parts) (options_in parts) pair)

pub refused_line : (words : List Text) → AllUtf8 words → clean (fault_of line_app words) ≡ false → line_of words ≡ None
unfolding line_of command_line_of
refused_line words utf8 fault = go (parts_from Free words) refl (sym (fault_is words utf8) ∙ fault) (known_from words Free tt) where
  go : (o : Option (List Part)) → parts_from Free words ≡ o → accepts (parts_from Free words) ≡ false → KnownIn (parts_from Free words) → line_of words ≡ None
  go None e refused k = rw e refl
  go (Some parts) e refused k =
      ap (λ o. option_and_then possible (option_and_then line_in o)) e
      ∙ ap (λ o. option_and_then possible o) (line_none parts (subst KnownIn e k) (sym (ap accepts e) ∙ refused))

pub among_faults : (k : ErrorKind) (kinds : Kinds) → IsAmong k kinds → clean kinds ≡ false
among_faults k [] h = absurd h
among_faults k (x ∷ xs) h = refl

-- ---- accepted

pair_of : (words : List Text) → is_pair words ≡ true → (a : Text) × (b : Text) × (words ≡ a ∷ b ∷ [])
pair_of [] h = absurd (no (sym h))
pair_of (a ∷ []) h = absurd (no (sym h))
pair_of (a ∷ b ∷ []) h = (a, b, refl)
pair_of (a ∷ b ∷ c ∷ more) h = absurd (no (sym h))

or_right : (a b : Bool) → (a || b) ≡ false → b ≡ false
or_right false b h = h
or_right true b h = absurd (no h)

or_left : (a b : Bool) → (a || b) ≡ false → a ≡ false
or_left false b h = refl
or_left true b h = absurd (no h)

find_last : (rows : List Row) → has_row stats_word rows ≡ false → find (λ r. bytes_eq r.id stats_word) (rows ++ flag_row ∷ []) ≡ Some flag_row
find_last [] h = refl
find_last (r ∷ rows) h = rw (or_left (bytes_eq r.id stats_word) (has_row stats_word rows) h) (find_last rows (or_right (bytes_eq r.id stats_word) (has_row stats_word rows) h))

flag_text : (parts : List Part) → fits none parts ≡ true
    → first_of stats_word (with_flag (rows_by (uses none parts))) ≡ Some (if is_some (given_value parts stats_word) then codes "true" else codes "false")
flag_text parts fit = go (given_value parts stats_word) refl where
  there : has_row stats_word (rows_by (uses none parts)) ≡ is_some (given_value parts stats_word)
  there = has_row-by stats_word (uses none parts) ∙ flag_has none parts fit

  go : (o : Option Text) → given_value parts stats_word ≡ o → first_of stats_word (with_flag (rows_by (uses none parts))) ≡ Some (if is_some (given_value parts stats_word) then codes "true" else codes "false")
  go (Some v) e =
      let has_it : has_row stats_word (rows_by (uses none parts)) ≡ true = there ∙ ap is_some e in
      rw has_it (flag_of none parts fit ∙ ap (option_map (λ x. codes "true")) e ∙ sym (ap (λ o. Some (if is_some o then codes "true" else codes "false")) e))
  go None e =
      let lacks : has_row stats_word (rows_by (uses none parts)) ≡ false = there ∙ ap is_some e in
      rw lacks (ap (λ o. option_and_then (λ r. slice_get r.values 0) o) (find_last (rows_by (uses none parts)) lacks) ∙ sym (ap (λ o. Some (if is_some o then codes "true" else codes "false")) e))

told_parts : (f : Found) (parts : List Part) → Known parts → accepts (Some parts) ≡ true → rows_of f ≡ with_flag (rows_by (uses none parts)) → IsTold f parts
told_parts f parts k accepted rows =
    let says = sym (accepts_is parts k) ∙ accepted in
    let fit = left_true (fits none parts) (not (clashes [] (uses none parts))) (left_true _ (has (codes "COMMAND") (uses none parts) && has (codes "FILE") (uses none parts)) accepted) in
    let pair = pair_of (filter_map positional_in parts) (right_true (not (has_repeated_names (filter_map name_in parts))) _ says) in
    let at : (id : Text) → bytes_eq stats_word id ≡ false → first_value f id ≡ first_of id (rows_by (uses none parts)) =
    λ id other. first_value-rows f id ∙ ap (first_of id) rows ∙ ap (λ o. option_and_then (λ r. slice_get r.values 0) o) (find_with_flag id (rows_by (uses none parts)) other) in
    record {
      command = pair.0;
      file = pair.1;
      words = pair.2;
      once = not_true (has_repeated_names (filter_map name_in parts)) (left_true _ (is_pair (filter_map positional_in parts)) says);
      first = at (codes "COMMAND") refl ∙ command_word parts k ∙ ap (λ ws. slice_get ws 0) (pair.2);
      second = at (codes "FILE") refl ∙ second_word parts k ∙ ap (λ ws. slice_get ws 1) (pair.2);
      events = at (codes "--events") refl ∙ value_of (codes "--events") none parts refl refl refl fit;
      pages = at (codes "--pages") refl ∙ value_of (codes "--pages") none parts refl refl refl fit;
      steps = at (codes "--steps") refl ∙ value_of (codes "--steps") none parts refl refl refl fit;
      heap = at (codes "--heap") refl ∙ value_of (codes "--heap") none parts refl refl refl fit;
      save = at (codes "--save") refl ∙ value_of (codes "--save") none parts refl refl refl fit;
      snapshot = at (codes "--snapshot") refl ∙ value_of (codes "--snapshot") none parts refl refl refl fit;
      other = at (codes "--other") refl ∙ value_of (codes "--other") none parts refl refl refl fit;
      stats = first_value-rows f stats_word ∙ ap (first_of stats_word) rows ∙ flag_text parts fit;
    }

-- the parts of the line that the matches of accepted words tell
pub told_by : (words : List Text) (f : Found) → AllUtf8 words → fault_of line_app words ≡ [] → rows_of f ≡ matches_of line_app words
    → (parts : List Part) × (parts_from Free words ≡ Some parts) × IsTold f parts
told_by words f utf8 fault rows = go (parts_from Free words) refl (sym (fault_is words utf8) ∙ ap clean fault) (known_from words Free tt) where
  go : (o : Option (List Part)) → parts_from Free words ≡ o → accepts (parts_from Free words) ≡ true → KnownIn (parts_from Free words)
      → (parts : List Part) × (parts_from Free words ≡ Some parts) × IsTold f parts
  go None e accepted k = absurd (no (sym accepted ∙ ap accepts e))
  go (Some parts) e accepted k =
      let accepted_parts = sym (ap accepts e) ∙ accepted in
      (parts, e, told_parts f parts (subst KnownIn e k) accepted_parts (rows ∙ matches_by words parts utf8 e accepted_parts))
