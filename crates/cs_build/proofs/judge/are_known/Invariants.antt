use Rattle.std.proofs.Common.{◌≡◌, map, drop}
use Rattle.std.specs.List.{list_all}
use Rattle.cs_model.specs.BuilderFault.{is_known}
use Rattle.cs_build.specs.Meaning.{mention_by}
use Rattle.cs_build.specs.Tabled.{above_by}
use Rattle.cs_build.proofs.judge.are_known.Given as goal

abbrev pub invariant-loop-mention : goal.invariant-loop-mention
invariant-loop-mention l = list_all (is_known (above_by l.above)) (map mention_by l.mentions)
    ≡ list_all (is_known (above_by l.above)) (map mention_by (drop l.mention-index l.mentions))
