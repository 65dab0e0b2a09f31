use Rattle.std.proofs.Common.{◌≡◌, ℕ, ◌++◌, List, map, drop}
use Rattle.cs_model.specs.Builder.{methods_of}
use Rattle.cs_build.specs.Grouped.{group_at}
use Rattle.cs_build.specs.Meaning.{form_by}
use Rattle.cs_build.proofs.groups.groups_of.Given as goal

abbrev pub invariant-loop-form : goal.invariant-loop-form
invariant-loop-form l = (q : List ℕ) → group_at l.groups q ++ methods_of (map form_by (drop l.form-index l.forms)) q ≡ methods_of (map form_by l.forms) q
