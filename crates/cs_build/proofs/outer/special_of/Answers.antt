use Rattle.std.proofs.Common.{rules, ◌∙◌, sym}
use Rattle.cs_build.proofs.OuterLemmas.{special-none, special-some}
use Rattle.cs_build.proofs.outer.special_of.Goals as goal

pub returns-in_err-value : goal.returns-in_err-value
returns-in_err-value c = rw (c.from_residual-in_err-value.ensures) (sym (special-none _ _ c.in_err-value.ensures))

pub returns : goal.returns
returns c = special-some _ _ _ _ _ (sym c.in_ok-place.was ∙ c.read_integer.ensures) c.in_ok-value.ensures (search rules)
