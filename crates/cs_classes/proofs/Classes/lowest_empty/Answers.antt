use Rattle.std.proofs.Common.{ap, ◌∙◌, option_map, ◌+◌}
use Rattle.cs_model.specs.Instance.{free_indices, first_free_index, lowest_free}
use Rattle.cs_classes.proofs.Indices.{lowest_empty}
use Rattle.cs_classes.proofs.Classes.lowest_empty.Goals as goal

pub returns-in-Some-clause-value : goal.returns-in-Some-clause-value
returns-in-Some-clause-value c = ap (option_map (λ p. 32 + p)) (c.in-Some.ensures) ∙ lowest_empty c.self.inside.entries.items c.deref.result.now c.self.invariant c.deref.ensures.value ∙ ap (lowest_free free_indices first_free_index) c.self.view_is

pub returns-in-None-clause-value : goal.returns-in-None-clause-value
returns-in-None-clause-value c = ap (option_map (λ p. 32 + p)) (c.in-None.ensures) ∙ lowest_empty c.self.inside.entries.items c.deref.result.now c.self.invariant c.deref.ensures.value ∙ ap (lowest_free free_indices first_free_index) c.self.view_is
