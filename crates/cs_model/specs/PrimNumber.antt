-- Primitives on SmallIntegers, 1 to 17. Those on floats and large integers, 21 to 37 and 40 to 59, fail.
use Rattle.std.specs.Prelude.{ℕ, option_and_then}
use Rattle.cs_model.specs.State.{Kept}
use Rattle.cs_model.specs.Exec.{small_operands}
use Rattle.cs_model.specs.Number.{number_result}
use Rattle.cs_model.specs.PrimAnswer.{with_count, answer_if}
use Rattle.cs_model.specs.End.{Out}

-- receiver and argument are SmallIntegers, and the result is defined and fits
unfoldable pub number_prim : Kept → ℕ → ℕ → Out
number_prim k number args = with_count k 1 args (answer_if k 1 (option_and_then (λ p. number_result k number p.0 p.1) (small_operands k)))
