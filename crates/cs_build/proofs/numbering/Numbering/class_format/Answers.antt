use Rattle.std.proofs.Common.{◌≡◌, true, List, ap, subst, ◌∙◌, arith}
use Rattle.std.specs.Prelude.{find}
use Rattle.std.specs.Option.{option_map_or}
use Rattle.std.specs.List.{list_all}
use Rattle.cs_build.specs.Sound.{is_sound}
use Rattle.std.specs.Str.{bytes_eq}
use Rattle.cs_model.specs.BuilderText as text
use Rattle.cs_model.specs.Builder.{class_format, natural}
use Rattle.cs_build.specs.Standing.{forms_in}
use Rattle.cs_build.proofs.Sounding.{format_few}
use Rattle.cs_build.proofs.numbering.Numbering.class_format.Goals as goal

pub returns-clause-value : goal.returns-clause-value
returns-clause-value c = c.format.ensures ∙ ap (λ (lines : List text.ClassLine). option_map_or (λ (line : text.ClassLine). natural line.format) (find (λ (line : text.ClassLine). bytes_eq line.name c.args.name.now) lines) 0) c.requires.lines

pub returns-clause-few : goal.returns-clause-few
returns-clause-few c =
    let value : c.format.result ≡ class_format (forms_in c.args.self.now) c.args.name.now =
    c.format.ensures ∙ ap (λ (lines : List text.ClassLine). option_map_or (λ (line : text.ClassLine). natural line.format) (find (λ (line : text.ClassLine). bytes_eq line.name c.args.name.now) lines) 0) c.requires.lines in
    omega (arith, value, format_few (forms_in c.args.self.now) c.args.name.now (subst (λ (fs : List text.Form). list_all is_sound fs ≡ true) c.requires.whole c.requires.sound))
