-- A method that can be made.
use Rattle.std.specs.Prelude.{◌≡◌, ◌^◌, ◌<◌, true, length, map, count_by}
use Rattle.std.specs.List.{list_all}
use Rattle.cs_model.specs.BuilderFault.{is_literal, method_fits}
use Rattle.cs_build.specs.declared.numbering.Numbered.{Numbered}
use Rattle.cs_build.specs.Meaning.{form_by, method_line_by}
use Rattle.cs_build.specs.Sound.{is_sound}

pub record IsMethodMade (m : Numbered) : Type 0 where
  pub fits : method_fits (method_line_by m.line) ≡ true
  pub few : length m.body.now < 2 ^ 26
  pub sound : list_all is_sound (map form_by m.body.now) ≡ true
  pub counted : m.literals ≡ count_by (λ form. is_literal (form_by form)) m.body.now
