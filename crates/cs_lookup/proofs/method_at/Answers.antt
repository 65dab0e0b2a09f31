use Rattle.std.proofs.Common.{sym, ◌∙◌, true, false}
use Rattle.cs_lookup.proofs.Finding.{method_there, no_method_there}
use Rattle.cs_lookup.proofs.method_at.Goals as goal

pub returns-then-not-has_slots-clause-value : goal.returns-then-not-has_slots-clause-value
returns-then-not-has_slots-clause-value c = λ k has.
    sym (no_method_there _ k c.args.values.0 c.args.position c.requires.sound has c.requires.values (sym c.has_slots.ensures ∙ c.if-not-has_slots.true))

pub returns-then-is_method-clause-value : goal.returns-then-is_method-clause-value
returns-then-is_method-clause-value c = λ k has.
    sym (method_there _ k c.args.values.0 c.args.position c.slot-value.result.0 true c.requires.sound has (sym c.has_slots.ensures ∙ c.if-not-has_slots.false) c.slot-value.ensures (sym c.is_method.ensures ∙ c.if-is_method.true))

pub returns-else-is_method-clause-value : goal.returns-else-is_method-clause-value
returns-else-is_method-clause-value c = λ k has.
    sym (method_there _ k c.args.values.0 c.args.position c.slot-value.result.0 false c.requires.sound has (sym c.has_slots.ensures ∙ c.if-not-has_slots.false) c.slot-value.ensures (sym c.is_method.ensures ∙ c.if-is_method.false))
