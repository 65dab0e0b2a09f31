-- Which special selector an index names.
use Rattle.std.specs.Prelude.{◌≡◌, ◌≢◌, ℕ}
use Rattle.cs_model.specs.Number.{selector_primitive}
use Rattle.cs_acts.specs.Arithmetic.{primitive_of}
use Rattle.cs_code.specs.declared.arithmetic.Selector.{Selector}
use Rattle.cs_code.specs.declared.arithmetic.Selector.TheVariants.{Computes, Compares, TellsClass, IsSent}

-- what is sent has no primitive and is neither `==` nor `class`
pub record IsOther (i : ℕ) : Type 0 where
  pub primitive : selector_primitive i ≡ 0
  pub same : i ≢ 22
  pub class : i ≢ 23

abbrev pub HasIndex : Selector → ℕ → Type 0
HasIndex (Computes operation) i = selector_primitive i ≡ primitive_of operation
HasIndex Compares i = i ≡ 22
HasIndex TellsClass i = i ≡ 23
HasIndex IsSent i = IsOther i
