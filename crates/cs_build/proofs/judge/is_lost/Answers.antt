use Rattle.std.proofs.Common.{ap, sym, ◌∙◌}
use Rattle.cs_model.specs.BuilderFault.{is_label_lost}
use Rattle.cs_build.specs.Meaning.{form_by}
use Rattle.cs_build.specs.Tabled.{body_by}
use Rattle.cs_build.proofs.Judging.{none-by}
use Rattle.cs_build.proofs.judge.is_lost.Goals as goal

pub returns-in-JumpTo : goal.returns-in-JumpTo
returns-in-JumpTo c = none-by _ _ _ c.is_none.ensures c.place_of.ensures
    ∙ ap (λ f. is_label_lost (body_by c.args.above.now) (form_by f)) (sym c.in-JumpTo.is)

pub returns-in-ClosureTo : goal.returns-in-ClosureTo
returns-in-ClosureTo c = none-by _ _ _ c.is_none-in-ClosureTo.ensures c.place_of-in-ClosureTo.ensures
    ∙ ap (λ f. is_label_lost (body_by c.args.above.now) (form_by f)) (sym c.in-ClosureTo.is)
