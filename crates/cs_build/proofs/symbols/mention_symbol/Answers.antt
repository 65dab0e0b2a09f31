use Rattle.std.proofs.Common.{ap, ◌∙◌}
use Rattle.cs_build.specs.Numbered.{plain_names}
use Rattle.cs_build.proofs.Noting.{mention_new}
use Rattle.cs_build.proofs.symbols.mention_symbol.Goals as goal

pub returns : goal.returns
returns c = ap plain_names c.in_ok-insert.ensures.keys ∙ mention_new c.args.name c.args.symbols.now.keys
