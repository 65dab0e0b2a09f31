-- How a closure is made, part by part.
use Rattle.std.specs.Prelude.{ℕ, pos, ◌-◌, List, ◌∷◌, ◌++◌, replicate, take}
use Rattle.cs_model.specs.Ref.{Ref, Small}
use Rattle.cs_model.specs.Ref as ref
use Rattle.cs_model.specs.Obj.{Obj, Ptr, new_head}
use Rattle.cs_model.specs.State.{Kept}
use Rattle.cs_model.specs.Read.{active_birth, pc_of, stack_of}
use Rattle.cs_model.specs.Operation.{last_values, nil_of}
use Rattle.cs_model.specs.Context.{closure_class}

-- the slots of a closure over the active context, with these copied values
abbrev pub slots_with : Kept → ℕ → List Ref → List Ref
slots_with k args values = ref.Obj (active_birth k) ∷ Small (pos (pc_of k)) ∷ Small (pos args) ∷ values

abbrev pub closure_with : Kept → ℕ → List Ref → Obj
closure_with k args values = Ptr (new_head closure_class 3) (slots_with k args values)

-- all of whose copied values are nil
abbrev pub bare_closure : Kept → ℕ → ℕ → Obj
bare_closure k copied args = closure_with k args (replicate copied (nil_of k))

-- the first i of the copied values, and nil for the others
abbrev pub copied_so_far : Kept → ℕ → ℕ → List Ref
copied_so_far k copied i = take i (last_values copied (stack_of k)) ++ replicate (copied - i) (nil_of k)
