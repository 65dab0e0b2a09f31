use Rattle.std.proofs.Common.{◌≡◌, ◌∷◌, ◌++◌, [], map, drop}
use Rattle.std.specs.Prelude.{flat_map}
use Rattle.cs_model.specs.Ref.{Small}
use Rattle.cs_model.specs.Builder.{symbol_ref}
use Rattle.cs_build.specs.Laid.{reference_by}
use Rattle.cs_build.specs.Standing.{forms_in}
use Rattle.cs_build.proofs.first.selector_array.Given as goal

abbrev pub invariant-loop-selector : goal.invariant-loop-selector
invariant-loop-selector l = map reference_by l.slots.items ++ flat_map (λ e. symbol_ref (forms_in l.numbering) e.0.now ∷ Small e.1 ∷ []) (drop l.selector-index l.selector-items)
    ≡ flat_map (λ e. symbol_ref (forms_in l.numbering) e.0.now ∷ Small e.1 ∷ []) l.selector-items
