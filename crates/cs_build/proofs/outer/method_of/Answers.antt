use Rattle.std.proofs.Common.{rules, ◌∙◌, sym, ap, option_map}
use Rattle.cs_model.specs.BuilderText.{primitive_given}
use Rattle.cs_build.specs.Narrow.{narrow}
use Rattle.cs_build.proofs.OuterLemmas.{method-none, method-some}
use Rattle.cs_build.proofs.outer.method_of.Goals as goal

pub returns-in_err-primitive : goal.returns-in_err-primitive
returns-in_err-primitive c = rw (c.from_residual-in_err-primitive.ensures) (sym (method-none _ _ _ _ _ _ _
    (sym c.in_err-primitive.was ∙ c.read_primitive.ensures ∙ ap (λ t. option_map (option_map narrow) (primitive_given t)) c.behind_large.ensures)))

pub returns : goal.returns
returns c = method-some _ _ _ _ _ _ _ _ _ _ _ _ _ (sym c.in_ok-arguments.was ∙ c.read_integer.ensures) (sym c.in_ok-temporaries.was ∙ c.read_integer-2.ensures)
    (sym c.in_ok-primitive.was ∙ c.read_primitive.ensures ∙ ap (λ t. option_map (option_map narrow) (primitive_given t)) c.behind_large.ensures)
    (sym c.is_name.ensures ∙ c.if-not-is_name.false) c.is_large-large.ensures (search rules) (search rules)
