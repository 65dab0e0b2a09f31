use Rattle.std.proofs.Common.{◌≡◌, map, drop, []}
use Rattle.std.specs.Prelude.{flat_map}
use Rattle.cs_model.specs.Builder.{symbols_in}
use Rattle.cs_build.specs.Meaning.{form_by}
use Rattle.cs_build.specs.Numbered.{plain_names, mentioned, selector_words, special_names_of}
use Rattle.cs_build.proofs.symbols.symbols_of.Given as goal

abbrev pub invariant-loop-form : goal.invariant-loop-form
invariant-loop-form l = mentioned (plain_names l.symbols.keys) (flat_map symbols_in (map form_by (drop l.form-index l.forms)))
    ≡ mentioned (mentioned (mentioned [] selector_words) special_names_of) (flat_map symbols_in (map form_by l.forms))
