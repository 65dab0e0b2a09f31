-- What the matches of an accepted line tell.
use Rattle.std.specs.Prelude.{◌≡◌, false, ℕ, List, [], ◌∷◌, filter_map, codes, Some, is_some, if◌then◌else◌}
use Rattle.clap.specs.Words.{first_value}
use Rattle.clap.specs.declared.parser.matches.Found.{Found}
use Rattle.cs_model.specs.CommandLine.{Part, given_value, has_repeated_names, name_in, positional_in, stats_word}

-- the matches have the two words by place, and each option as the parts have it; the flag is a text
pub record IsTold (f : Found) (parts : List Part) : Type 0 where
  pub command : List ℕ
  pub file : List ℕ
  pub words : filter_map positional_in parts ≡ command ∷ file ∷ []
  pub once : has_repeated_names (filter_map name_in parts) ≡ false
  pub first : first_value f (codes "COMMAND") ≡ Some command
  pub second : first_value f (codes "FILE") ≡ Some file
  pub events : first_value f (codes "--events") ≡ given_value parts (codes "--events")
  pub pages : first_value f (codes "--pages") ≡ given_value parts (codes "--pages")
  pub steps : first_value f (codes "--steps") ≡ given_value parts (codes "--steps")
  pub heap : first_value f (codes "--heap") ≡ given_value parts (codes "--heap")
  pub save : first_value f (codes "--save") ≡ given_value parts (codes "--save")
  pub snapshot : first_value f (codes "--snapshot") ≡ given_value parts (codes "--snapshot")
  pub other : first_value f (codes "--other") ≡ given_value parts (codes "--other")
  pub stats : first_value f (codes "--stats") ≡ Some (if is_some (given_value parts stats_word) then codes "true" else codes "false")
