use Rattle.std.proofs.Common.{ap, ◌∙◌}
use Rattle.std.specs.List.{list_any}
use Rattle.std.specs.Str.{bytes_eq}
use Rattle.cs_model.specs.Builder.{ready_in}
use Rattle.cs_build.proofs.Noting.{any_name}
use Rattle.cs_build.proofs.Queueing.{any_mentioned}
use Rattle.cs_build.proofs.ready.Ready.has.Goals as goal

pub returns : goal.returns
returns c = λ forms ready. c.contains.ensures ∙ any_name c.args.name c.args.self.now.names.keys
    ∙ ap (list_any (bytes_eq c.args.name.now)) ready.names ∙ any_mentioned c.args.name.now (ready_in forms)
