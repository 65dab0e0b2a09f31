use Rattle.std.proofs.Common.{List, subst}
use Rattle.cs_model.specs.BuilderText as text
use Rattle.cs_build.specs.Grouped.{AreGroups}
use Rattle.cs_build.specs.Readied.{AreReadied}
use Rattle.cs_build.specs.Standing.{forms_in}
use Rattle.cs_build.proofs.Wholing.{own_ready, own_groups, whole_is}
use Rattle.cs_build.proofs.whole.objects_of.Goals as goal

pub first_objects-requires-clause-ready : goal.first_objects-requires-clause-ready
first_objects-requires-clause-ready c = own_ready (forms_in c.args.numbering.now) c.in_ok-ready.ready
    (subst (λ (fs : List text.Form). AreReadied fs c.in_ok-ready.ready) c.requires.whole c.in_ok-ready.ensures)

pub put_forms-requires-clause-ready : goal.put_forms-requires-clause-ready
put_forms-requires-clause-ready c = own_ready (forms_in c.args.numbering.now) c.in_ok-ready.ready
    (subst (λ (fs : List text.Form). AreReadied fs c.in_ok-ready.ready) c.requires.whole c.in_ok-ready.ensures)

pub put_dictionaries-requires-clause-groups : goal.put_dictionaries-requires-clause-groups
put_dictionaries-requires-clause-groups c = own_groups (forms_in c.args.numbering.now) c.in_ok-groups.groups
    (subst (λ (fs : List text.Form). AreGroups c.in_ok-groups.groups fs) c.requires.whole c.in_ok-groups.ensures)

pub returns : goal.returns
returns c = whole_is (forms_in c.args.numbering.now) _ _ _ _ _ c.requires.whole c.in_ok-objects.ensures c.in_ok-put_forms.ensures c.in_ok-put_dictionaries.ensures c.in_ok-put_symbols.ensures
