use Rattle.std.proofs.Common.{◌++◌, List, map, ap, ◌∙◌}
use Rattle.cs_build.specs.Firsts.{all_lists, first_made, heads_made, selector_array_of, special_array_of}
use Rattle.cs_build.specs.Laid.{Laid, laid}
use Rattle.cs_build.specs.Standing.{forms_in}
use Rattle.cs_build.proofs.first.first_objects.Goals as goal

pub returns : goal.returns
unfolding first_made heads_made all_lists special_array_of selector_array_of
returns c = c.in_ok-put_lists.ensures ∙ ap (λ (l : List Laid). l ++ map laid (all_lists (forms_in c.args.numbering.now))) c.in_ok-objects.ensures
