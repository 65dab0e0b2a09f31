use Rattle.std.proofs.Common.{◌≡◌, ◌++◌, map, drop}
use Rattle.cs_model.specs.Builder.{symbol_ref}
use Rattle.cs_build.specs.Laid.{reference_by}
use Rattle.cs_build.specs.Meaning.{method_line_by}
use Rattle.cs_build.specs.Standing.{forms_in}
use Rattle.cs_build.proofs.objects.put_selectors.Given as goal

abbrev pub invariant-loop-method : goal.invariant-loop-method
invariant-loop-method l = map reference_by l.slots.items ++ map (λ m. symbol_ref (forms_in l.numbering) m.selector) (map method_line_by (drop l.method-index l.methods))
    ≡ map reference_by l.fn.slots.items ++ map (λ m. symbol_ref (forms_in l.numbering) m.selector) (map method_line_by l.methods)
