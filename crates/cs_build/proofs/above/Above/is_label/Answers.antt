use Rattle.std.proofs.Common.{ap, ◌∙◌}
use Rattle.std.specs.Prelude.{is_some}
use Rattle.cs_model.specs.BuilderFault.{is_label}
use Rattle.cs_build.specs.Tabled.{body_by}
use Rattle.cs_build.proofs.TableLemmas.{place-any}
use Rattle.cs_build.proofs.above.Above.is_label.Goals as goal

pub returns : goal.returns
returns c = c.is_some.ensures ∙ ap is_some c.place_of.ensures ∙ place-any (is_label c.args.label.now) 0 (body_by c.args.self.now)
