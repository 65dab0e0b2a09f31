use Rattle.std.proofs.Common.{sym, ap, ◌∙◌}
use Rattle.cs_acts.proofs.Naturals.{natural_name}
use Rattle.cs_model.specs.Element.{place_in, range}
use Rattle.cs_prim_obj.proofs.elements.place.Goals as goal

pub returns-in-Some-clause-place : goal.returns-in-Some-clause-place
returns-in-Some-clause-place c =
    λ s named. c.place_of.ensures.place ∙ ap (place_in (range c.args.elements.first c.args.elements.count)) (sym c.in-Some.is ∙ c.natural.ensures.value ∙ sym (natural_name s c.args.index named))

pub returns-in-None-clause-place : goal.returns-in-None-clause-place
returns-in-None-clause-place c =
    λ s named. ap (place_in (range c.args.elements.first c.args.elements.count)) (sym c.in-None.is ∙ c.natural.ensures.value ∙ sym (natural_name s c.args.index named))
