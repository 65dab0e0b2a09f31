use Rattle.std.proofs.Common.{rules, ◌∙◌, sym}
use Rattle.cs_build.proofs.OuterLemmas.{process-none, process-unnamed, process-some}
use Rattle.cs_build.proofs.outer.process_of.Goals as goal

pub returns-in_err-receiver : goal.returns-in_err-receiver
returns-in_err-receiver c = rw (c.from_residual-in_err-receiver.ensures) (sym (process-none _ _ _ _ _ _ c.in_err-receiver.ensures))

pub returns-then-not-are_names : goal.returns-then-not-are_names
returns-then-not-are_names c = sym (process-unnamed _ _ _ _ _ _ (sym c.are_names.ensures ∙ c.if-not-are_names.true))

pub returns : goal.returns
returns c = process-some _ _ _ _ _ _ _ _ _ (sym c.in_ok-priority.was ∙ c.read_integer.ensures) c.in_ok-receiver.ensures (sym c.are_names.ensures ∙ c.if-not-are_names.false) (search rules)
