-- The command line: a command, a file and options, read as `clap` 4 reads a simple command without help and version flags.
-- `Line` beside it is the shorter line of a first program.
use Rattle.std.specs.Prelude.{ℕ, ◌==◌, ◌&&◌, ◌||◌, not, Bool, true, false, nat_le, if◌then◌else◌, List, [], ◌∷◌, ◌++◌, length, filter_map, codes, Option, Some, None, is_some, option_map, option_and_then, unwrap_or, slice_index}
use Rattle.std.specs.Option.{option_map_or}
use Rattle.std.specs.List.{list_any, before_first, after_first}
use Rattle.std.specs.Str.{bytes_eq}
use Rattle.cs_model.specs.Line.{most_steps, longest_name}
use Rattle.cs_model.specs.Text.{number_between, first_that}

-- ---- words

abbrev pub hyphen : ℕ
hyphen = 45

abbrev pub equals : ℕ
equals = 61

-- the options with a value, and the flag
abbrev pub option_words : List (List ℕ)
option_words = codes "--events" ∷ codes "--pages" ∷ codes "--steps" ∷ codes "--heap" ∷ codes "--save"
    ∷ codes "--snapshot" ∷ codes "--other" ∷ []

abbrev pub stats_word : List ℕ
stats_word = codes "--stats"

abbrev pub is_option : List ℕ → Bool
is_option word = list_any (bytes_eq word) option_words

-- a value or positional word doesn't begin with a hyphen, unless it is one
abbrev pub is_plain : List ℕ → Bool
is_plain word = not (slice_index word 0 == hyphen) || bytes_eq word (codes "-")

-- what a word gives: one of the two words by place, or an option's value; a flag's value is empty
pub data Part : Type 0 where
  Positional : (word : List ℕ) → Part
  Given : (name value : List ℕ) → Part

-- A word may stand free, or behind an option whose value it is. Behind two hyphens all words are positional.
pub data Mode : Type 0 where
  Free : Mode
  Waiting : (name : List ℕ) → Mode
  Behind : Mode

abbrev pub mode_after : Mode → List ℕ → Mode
mode_after Free word =
    if bytes_eq word (codes "--") then Behind else
    if is_option word then Waiting word else
    Free
mode_after (Waiting name) word = Free
mode_after Behind word = Behind

-- an option's name and value in one word, with an equals sign between them
abbrev pub assigned : List ℕ → Option (List Part)
assigned word =
    if list_any (λ b. b == equals) word && is_option (before_first (λ b. b == equals) word)
    then Some (Given (before_first (λ b. b == equals) word) (after_first (λ b. b == equals) word) ∷ []) else None

abbrev pub free_parts : List ℕ → Option (List Part)
free_parts word =
    if is_plain word then Some (Positional word ∷ []) else
    if bytes_eq word (codes "--") || is_option word then Some [] else
    if bytes_eq word stats_word then Some (Given stats_word [] ∷ []) else
    assigned word

-- what a word gives, or that it is refused
abbrev pub parts_in : Mode → List ℕ → Option (List Part)
parts_in Free word = free_parts word
parts_in (Waiting name) word = if is_plain word then Some (Given name word ∷ []) else None
parts_in Behind word = Some (Positional word ∷ [])

-- no option waits for its value at the end
abbrev pub at_end : Mode → Option (List Part)
at_end Free = Some []
at_end (Waiting name) = None
at_end Behind = Some []

abbrev pub parts_from : Mode → List (List ℕ) → Option (List Part)
parts_from mode [] = at_end mode
parts_from mode (word ∷ words) =
    option_and_then (λ first. option_map (λ others. first ++ others) (parts_from (mode_after mode word) words))
    (parts_in mode word)

-- ---- what is given

abbrev pub positional_in : Part → Option (List ℕ)
positional_in (Positional word) = Some word
positional_in (Given name value) = None

abbrev pub name_in : Part → Option (List ℕ)
name_in (Positional word) = None
name_in (Given name value) = Some name

abbrev pub value_in : List ℕ → Part → Option (List ℕ)
value_in name (Positional word) = None
value_in name (Given other value) = if bytes_eq other name then Some value else None

abbrev pub given_value : List Part → List ℕ → Option (List ℕ)
given_value parts name = first_that (filter_map (value_in name) parts)

-- each option stands at most once
abbrev pub has_repeated_names : List (List ℕ) → Bool
has_repeated_names [] = false
has_repeated_names (name ∷ names) = list_any (bytes_eq name) names || has_repeated_names names

-- ---- the line

-- gen has the number of its image
pub data Command : Type 0 where
  Run : Command
  Build : Command
  Inspect : Command
  Same : Command
  Gen : (k : ℕ) → Command

-- 0 pages are those of the machine without pages; where none are given, whoever uses them has a number of its own
pub record Options : Type 0 where
  pub events : Option (List ℕ)
  pub pages : Option ℕ
  pub steps : ℕ
  pub heap : ℕ
  pub save : Option (List ℕ)
  pub snapshot : Option (List ℕ)
  pub other : Option (List ℕ)
  pub stats : Bool

pub record CommandLine : Type 0 where
  pub command : Command
  pub file : List ℕ
  pub options : Options

abbrev pub command_line : List ℕ → Options → Command → CommandLine
command_line file options command = record { command = command; file = file; options = options }

abbrev pub is_short_name : List ℕ → Bool
is_short_name name = nat_le (length name) longest_name

-- no option has a name that is too long
abbrev pub has_short_names : Options → Bool
has_short_names o = option_map_or is_short_name o.events true && option_map_or is_short_name o.save true
    && option_map_or is_short_name o.snapshot true && option_map_or is_short_name o.other true

-- a number within its range, or else what it is without the option
abbrev pub number_given : ℕ → ℕ → ℕ → Option (List ℕ) → Option ℕ
number_given lowest highest default None = Some default
number_given lowest highest default (Some word) = number_between lowest highest word

-- one page is too few
abbrev pub page_count : List ℕ → Option ℕ
page_count word = option_and_then (λ n. if n == 1 then None else Some n) (number_between 0 64 word)

abbrev pub pages_given : Option (List ℕ) → Option (Option ℕ)
pages_given None = Some None
pages_given (Some word) = option_map (λ n. Some n) (page_count word)

abbrev pub steps_given : Option (List ℕ) → Option ℕ
steps_given word = number_given 0 most_steps 1000000 word

abbrev pub heap_given : Option (List ℕ) → Option ℕ
heap_given word = number_given 4096 67108864 16777216 word

abbrev pub options_with : List Part → Option ℕ → ℕ → ℕ → Options
options_with parts pages steps heap = record {
  events = given_value parts (codes "--events");
  pages = pages;
  steps = steps;
  heap = heap;
  save = given_value parts (codes "--save");
  snapshot = given_value parts (codes "--snapshot");
  other = given_value parts (codes "--other");
  stats = is_some (given_value parts stats_word);
}

-- the options, each of which must be in range whatever the command
abbrev pub options_in : List Part → Option Options
options_in parts = option_and_then (λ pages. option_and_then (λ steps. option_and_then (λ heap.
    if has_short_names (options_with parts pages steps heap) then Some (options_with parts pages steps heap) else None)
    (heap_given (given_value parts (codes "--heap")))) (steps_given (given_value parts (codes "--steps"))))
    (pages_given (given_value parts (codes "--pages")))

-- a command that needs an option
abbrev pub needing : Option (List ℕ) → Command → Option Command
needing value command = option_map (λ name. command) value

abbrev pub command_in : List ℕ → List ℕ → Options → Option Command
command_in word file o =
    if bytes_eq word (codes "run") then Some Run else
    if bytes_eq word (codes "build") then needing o.save Build else
    if bytes_eq word (codes "inspect") then Some Inspect else
    if bytes_eq word (codes "same") then needing o.other Same else
    if bytes_eq word (codes "gen") then option_map (λ k. Gen k) (number_between 0 4294967295 file) else
    None

-- two words stand by place, the command and the file
abbrev pub line_with : List (List ℕ) → Options → Option CommandLine
line_with [] o = None
line_with (word ∷ []) o = None
line_with (word ∷ file ∷ []) o =
    if is_short_name file then option_map (command_line file o) (command_in word file o) else None
line_with (word ∷ file ∷ more ∷ words) o = None

abbrev pub line_in : List Part → Option CommandLine
line_in parts =
    if has_repeated_names (filter_map name_in parts) then None else
    option_and_then (line_with (filter_map positional_in parts)) (options_in parts)

-- the command and its values, or that the line is refused
unfoldable pub command_line_of : List (List ℕ) → Option CommandLine
command_line_of words = option_and_then line_in (parts_from Free words)

-- ---- what a command uses

-- a generated image runs for so many steps, whatever the option says
abbrev pub steps_of : Command → Options → ℕ
steps_of (Gen k) o = 1000000
steps_of command o = o.steps

-- the stack pages of a run
abbrev pub run_pages : Options → ℕ
run_pages o = unwrap_or o.pages 8

-- the commands that run an image
abbrev pub is_run : Command → Bool
is_run Run = true
is_run (Gen k) = true
is_run command = false

-- a run takes snapshots where it has a name for them
abbrev pub takes_snapshots : CommandLine → Bool
takes_snapshots line = is_run line.command && is_some line.options.snapshot
