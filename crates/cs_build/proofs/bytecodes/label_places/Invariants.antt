use Rattle.std.proofs.Common.{◌≡◌, ◌≤◌, ℕ, ◌*◌, List, map, drop}
use Rattle.std.specs.Prelude.{IfSome}
use Rattle.std.specs.Option.{option_or}
use Rattle.cs_model.specs.BuilderFault.{byte_count, is_label, label_place, place_where}
use Rattle.cs_build.specs.Meaning.{form_by}
use Rattle.cs_build.specs.Numbered.{name_number}
use Rattle.cs_build.proofs.bytecodes.label_places.Given as goal

abbrev pub invariant-loop-form : goal.invariant-loop-form
invariant-loop-form l = record {
  few : l.place ≤ 4 * l.form-index;
  within : (q : List ℕ) → IfSome (name_number l.places q) (λ k. k ≤ l.place);
  places : (q : List ℕ) → option_or (name_number l.places q) (place_where byte_count (is_label q) l.place (map form_by (drop l.form-index l.body)))
      ≡ label_place (map form_by l.body) q;
}
