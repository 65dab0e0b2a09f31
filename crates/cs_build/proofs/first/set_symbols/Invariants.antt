use Rattle.std.proofs.Common.{◌≡◌, map, drop}
use Rattle.std.specs.Prelude.{fold}
use Rattle.cs_model.specs.Builder.{symbol_ref, with_special}
use Rattle.cs_build.specs.Laid.{reference_by}
use Rattle.cs_build.specs.Standing.{forms_in}
use Rattle.cs_build.proofs.first.set_symbols.Given as goal

abbrev pub invariant-loop-special : goal.invariant-loop-special
invariant-loop-special l = fold with_special (map reference_by l.slots) (map (λ e. (e.0, symbol_ref (forms_in l.numbering) e.1.now)) (drop l.special-index l.special-items))
    ≡ fold with_special (map reference_by l.fn.slots) (map (λ e. (e.0, symbol_ref (forms_in l.numbering) e.1.now)) l.special-items)
