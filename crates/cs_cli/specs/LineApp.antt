-- The command line's command, as the specification of `clap` sees it.
use Rattle.std.specs.Prelude.{true, List, [], ◌∷◌, codes, Some}
use Rattle.clap.specs.Walk.{Rule, Text}
use Rattle.clap.specs.Simple.{App, new_rule, new_shape}
use Rattle.clap.specs.declared.builder.action.ArgAction.TheVariants.{SetTrue}

-- a word by its place, which is required
abbrev pub place_rule : Text → Rule
place_rule id = record (new_rule id) { required = true }

-- an option with a value; its id is its word
abbrev pub option_rule : Text → Text → Rule
option_rule id name = record (new_rule id) { long = Some name }

abbrev pub flag_rule : Text → Text → Rule
flag_rule id name = record (new_rule id) { long = Some name; action = Some SetTrue }

abbrev pub line_rules : List Rule
line_rules = place_rule (codes "COMMAND") ∷ place_rule (codes "FILE")
    ∷ option_rule (codes "--events") (codes "events") ∷ option_rule (codes "--pages") (codes "pages")
    ∷ option_rule (codes "--steps") (codes "steps") ∷ option_rule (codes "--heap") (codes "heap")
    ∷ option_rule (codes "--save") (codes "save") ∷ option_rule (codes "--snapshot") (codes "snapshot")
    ∷ option_rule (codes "--other") (codes "other") ∷ flag_rule (codes "--stats") (codes "stats") ∷ []

-- without a word for the program itself, and without flags for help and the version
unfoldable pub line_app : App
line_app = record {
  top = record (new_shape (codes "cogstack")) {
    rules = line_rules;
    no_binary_name = true;
    disable_help_flag = true;
    disable_version_flag = true;
  };
  subs = [];
}
