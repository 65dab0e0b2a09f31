use Rattle.std.proofs.Common.{◌≡◌, map, drop}
use Rattle.std.specs.Prelude.{flat_map}
use Rattle.cs_model.specs.Builder.{symbol_in}
use Rattle.cs_build.specs.Meaning.{mention_by}
use Rattle.cs_build.specs.Numbered.{plain_names, mentioned}
use Rattle.cs_build.proofs.symbols.mention_all.Given as goal

abbrev pub invariant-loop-value : goal.invariant-loop-value
invariant-loop-value l = mentioned (plain_names l.symbols.keys) (flat_map symbol_in (map mention_by (drop l.value-index l.values)))
    ≡ mentioned (plain_names l.fn.symbols.keys) (flat_map symbol_in (map mention_by l.values))
