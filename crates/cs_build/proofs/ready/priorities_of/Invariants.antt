use Rattle.std.proofs.Common.{◌≡◌, ℕ, List, map, drop}
use Rattle.std.specs.Prelude.{◌||◌}
use Rattle.cs_model.specs.Builder.{has_priority}
use Rattle.cs_build.specs.Meaning.{form_by}
use Rattle.cs_build.specs.Queued.{has_in}
use Rattle.cs_build.proofs.ready.priorities_of.Given as goal

abbrev pub invariant-loop-form : goal.invariant-loop-form
invariant-loop-form l = (priority : ℕ) (name : List ℕ)
    → (has_priority (map form_by (drop l.form-index l.forms)) priority name || has_in l.priorities priority name) ≡ has_priority (map form_by l.forms) priority name
