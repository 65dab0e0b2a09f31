-- What the program can do yet, of all that a line may ask for.
use Rattle.std.specs.Prelude.{ℕ, ◌≡◌, ◌≢◌, ◌≤◌, ◌==◌, ◌&&◌, not, Bool, true, false, if◌then◌else◌, List, length, Option, Some, None, is_none, is_some, option_and_then}
use Rattle.cs_model.specs.CommandLine.{Command, Run, Build, Inspect, Same, Gen, CommandLine, Options, command_line_of, has_short_names, run_pages}
use Rattle.cs_model.specs.Line.{longest_name}

-- No command has these yet: a script of events, snapshots, the line of counts, and a machine without pages.
abbrev pub has_known_options : Options → Bool
has_known_options o = is_none o.events && is_none o.snapshot && not o.stats && not (run_pages o == 0)

-- What each command does by now: an image is run, also a generated one, but isn't saved at its end, one is built of a text and saved, one is
-- printed, and two are compared.
abbrev pub can_do : Command → Options → Bool
can_do Run o = is_none o.save
can_do Build o = is_some o.save
can_do Inspect o = true
can_do Same o = is_some o.other
can_do (Gen k) o = is_none o.save

abbrev pub is_possible : CommandLine → Bool
is_possible line = has_known_options line.options && can_do line.command line.options

abbrev pub possible : CommandLine → Option CommandLine
possible line = if is_possible line then Some line else None

-- The line that the program takes. One that asks for what can't be done yet is refused like any other that is wrong.
unfoldable pub line_of : List (List ℕ) → Option CommandLine
line_of words = option_and_then possible (command_line_of words)

-- a number of stack pages, or that of a machine without pages
abbrev pub IsPageChoice : ℕ → Type 0
IsPageChoice pages = (pages ≤ 64) × (pages ≢ 1)

-- what holds of options that are read
pub record HasRanges (o : Options) : Type 0 where
  pub least : 4096 ≤ o.heap
  pub most : o.heap ≤ 67108864
  pub pages : IsPageChoice (run_pages o)
  pub names : has_short_names o ≡ true

-- what holds of a line that is taken
pub record IsInRange (line : CommandLine) : Type 0 where
  pub name : length line.file ≤ longest_name
  pub names : has_short_names line.options ≡ true
  pub least : 4096 ≤ line.options.heap
  pub most : line.options.heap ≤ 67108864
  pub few : 2 ≤ run_pages line.options
  pub many : run_pages line.options ≤ 64
