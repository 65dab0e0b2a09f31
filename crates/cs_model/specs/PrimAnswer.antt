-- What all primitives share: their arguments, and how they answer.
use Rattle.std.specs.Prelude.{ℕ, ◌+◌, ◌-◌, ◌==◌, if◌then◌else◌, Option, unwrap_or}
use Rattle.cs_model.specs.Ref.{Ref}
use Rattle.cs_model.specs.State.{Kept}
use Rattle.cs_model.specs.Read.{stack_of, from_top}
use Rattle.cs_model.specs.Operation.{push_of, drop_of, nil_of, receiver_below}
use Rattle.cs_model.specs.End.{Out, out, given}
use Rattle.cs_model.specs.End as ends

abbrev pub fail : Kept → Out
fail k = out ends.Fail k

-- receiver and arguments are popped, and the answer is pushed
unfoldable pub answer : Kept → ℕ → Ref → Out
answer k args x = out ends.Answer (push_of (drop_of k (args + 1)) x)

-- the receiver of a primitive with so many arguments
abbrev pub receiver : Kept → ℕ → Ref
receiver k args = receiver_below args (nil_of k) (stack_of k)

-- its i-th argument, counted from 0
abbrev pub argument : Kept → ℕ → ℕ → Ref
argument k args i = unwrap_or (from_top (args - (i + 1)) (stack_of k)) (nil_of k)

-- the answer is given where there is one
abbrev pub answer_if : Kept → ℕ → Option Ref → Out
answer_if k args value = given value (fail k) (λ x. answer k args x)

-- a primitive with another number of arguments fails
abbrev pub with_count : Kept → ℕ → ℕ → Out → Out
with_count k wanted args body = if wanted == args then body else fail k
