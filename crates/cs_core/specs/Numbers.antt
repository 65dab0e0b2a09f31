-- Which of the built primitives a number names.
use Rattle.std.specs.Prelude.{◌≡◌, ℕ, true, false, Option, Some, None}
use Rattle.cs_model.specs.Built.{is_built_number}
use Rattle.cs_model.specs.PrimTable.{is_listed}
use Rattle.cs_model.specs.State.{Kept}
use Rattle.cs_prim_ctx.specs.Numbers.{reads_context}
use Rattle.cs_prim_num.specs.Numbers.{is_on_numbers}
use Rattle.cs_unwind.specs.Primitive.{unwinds}
use Rattle.cs_core.specs.declared.primitive.Primitive.{Primitive}
use Rattle.cs_core.specs.declared.primitive.Primitive.TheVariants.{Number, Write, Unwind, ReadContext, Unlisted}

-- this is the number of a primitive that is called with so many arguments, or that of one that isn't built
abbrev pub HasBuiltNumber : Kept → ℕ → Option Primitive → ℕ → Type 0
HasBuiltNumber k args None number = is_built_number k args (Some number) ≡ false
HasBuiltNumber k args (Some Number) number = is_on_numbers number ≡ true
HasBuiltNumber k args (Some Write) number = number ≡ 900
HasBuiltNumber k args (Some Unwind) number = unwinds number ≡ true
HasBuiltNumber k args (Some ReadContext) number = reads_context k number args ≡ true
HasBuiltNumber k args (Some Unlisted) number = is_listed number ≡ false
