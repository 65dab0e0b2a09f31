use Rattle.std.proofs.Common.{◌∙◌}
use Rattle.cs_build.proofs.above.Above.place_of.Goals as goal

pub returns : goal.returns
returns c = c.copied.ensures ∙ c.get.ensures.value ∙ c.requires.tables.body.labels c.args.label.now
