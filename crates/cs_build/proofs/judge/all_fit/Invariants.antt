use Rattle.std.proofs.Common.{◌≡◌, map, drop}
use Rattle.std.specs.List.{list_all}
use Rattle.cs_model.specs.BuilderFault.{fits}
use Rattle.cs_build.specs.Meaning.{mention_by}
use Rattle.cs_build.proofs.judge.all_fit.Given as goal

abbrev pub invariant-loop-mention : goal.invariant-loop-mention
invariant-loop-mention l =
    list_all fits (map mention_by l.mentions) ≡ list_all fits (map mention_by (drop l.mention-index l.mentions))
