use Rattle.std.proofs.Common.{◌≡◌, ◌≤◌, ℕ, List, length, map, drop, ◌++◌}
use Rattle.std.specs.Prelude.{flat_map}
use Rattle.cs_model.specs.BuilderFault.{class_lines_in}
use Rattle.cs_build.specs.Meaning.{form_by, class_by}
use Rattle.cs_build.specs.Numbered.{name_number, placed}
use Rattle.cs_build.proofs.classes.classes_of.Given as goal

abbrev pub invariant-loop-form : goal.invariant-loop-form
invariant-loop-form l = record {
  few : length l.lines.items ≤ l.form-index;
  lines : map class_by l.lines.items ++ flat_map class_lines_in (map form_by (drop l.form-index l.forms)) ≡ flat_map class_lines_in (map form_by l.forms);
  places : (q : List ℕ) → placed (name_number l.places q) (length l.lines.items) q (flat_map class_lines_in (map form_by (drop l.form-index l.forms)))
      ≡ placed (name_number l.initial.places q) 0 q (flat_map class_lines_in (map form_by l.forms));
}
