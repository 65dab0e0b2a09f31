use Rattle.std.proofs.Common.{List, ap, ◌∙◌}
use Rattle.std.specs.Prelude.{filter_map}
use Rattle.cs_model.specs.BuilderText as text
use Rattle.cs_model.specs.Text.{first_that}
use Rattle.cs_model.specs.Builder.{active_name, process_ref}
use Rattle.cs_build.specs.Standing.{forms_in}
use Rattle.cs_build.proofs.first.active.Goals as goal

pub returns : goal.returns
returns c = c.process_or_nil.ensures ∙ ap (process_ref (forms_in c.args.numbering.now))
    (c.active_name.ensures ∙ ap (λ (fs : List text.Form). first_that (filter_map active_name fs)) c.requires.whole)
