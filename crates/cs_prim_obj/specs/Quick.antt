-- What the quick primitives answer that read no field.
use Rattle.std.specs.Prelude.{ℕ, pos, negsuc, ◌-◌, ◌==◌, true, false, if◌then◌else◌}
use Rattle.cs_model.specs.Ref.{Ref, Small}
use Rattle.cs_model.specs.State.{Kept}
use Rattle.cs_model.specs.Operation.{nil_of}
use Rattle.cs_model.specs.Number.{boolean}
use Rattle.cs_model.specs.PrimAnswer.{receiver}

-- 256 to 263: self, true, false, nil, -1, 0, 1, 2
abbrev pub quick_value : Kept → ℕ → ℕ → Ref
quick_value k number args =
    if number == 256 then receiver k args else
    if number == 257 then boolean k true else
    if number == 258 then boolean k false else
    if number == 259 then nil_of k else
    if number == 260 then Small (negsuc 0) else
    Small (pos (number - 261))
