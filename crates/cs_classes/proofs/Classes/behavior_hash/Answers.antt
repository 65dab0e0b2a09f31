use Rattle.std.proofs.Common.{ap, sym, ◌∙◌}
use Rattle.cs_classes.specs.Instances.{entry_taken, hash_taken, index_answer}
use Rattle.cs_classes.proofs.Plans.{behavior-index, handed, index_is, no_entry_taken, no_hash_taken}
use Rattle.cs_classes.proofs.Classes.behavior_hash.Goals as goal

pub returns-then-not-has_slots-clause-value : goal.returns-then-not-has_slots-clause-value
returns-then-not-has_slots-clause-value c = sym (ap index_answer (behavior-index _ _ _ _ (sym c.if-not-has_slots.ensures)))

pub returns-then-not-has_slots-clause-memory : goal.returns-then-not-has_slots-clause-memory
returns-then-not-has_slots-clause-memory c = sym (ap (hash_taken c.args.heap.now c.args.class.0) (behavior-index _ _ _ _ (sym c.if-not-has_slots.ensures)))

pub returns-then-not-has_slots-clause-table : goal.returns-then-not-has_slots-clause-table
returns-then-not-has_slots-clause-table c = sym (ap (entry_taken c.args.self.now c.args.class.0) (behavior-index _ _ _ _ (sym c.if-not-has_slots.ensures)))

pub returns-in_err-index-clause-value : goal.returns-in_err-index-clause-value
returns-in_err-index-clause-value c =
    handed c.from_residual.result c.in_err-index.field-0.0 c.from_residual.ensures.0 c.from_residual.ensures.1 ∙ c.in_err-index.ensures.value ∙ sym (ap index_answer (behavior-index _ _ _ _ (sym c.if-not-has_slots.ensures)))

pub returns-in_err-index-clause-memory : goal.returns-in_err-index-clause-memory
returns-in_err-index-clause-memory c =
    no_hash_taken c.args.heap.now c.args.class.0 _ c.in_err-index.field-0.0 c.in_err-index.ensures.value ∙ sym (ap (hash_taken c.args.heap.now c.args.class.0) (behavior-index _ _ _ _ (sym c.if-not-has_slots.ensures)))

pub returns-in_err-index-clause-table : goal.returns-in_err-index-clause-table
returns-in_err-index-clause-table c =
    no_entry_taken c.args.self.now c.args.class.0 _ c.in_err-index.field-0.0 c.in_err-index.ensures.value ∙ sym (ap (entry_taken c.args.self.now c.args.class.0) (behavior-index _ _ _ _ (sym c.if-not-has_slots.ensures)))

pub take-requires-clause-index : goal.take-requires-clause-index
take-requires-clause-index c = index_is _ _ c.in_ok-index.ensures.value

pub returns-clause-value : goal.returns-clause-value
returns-clause-value c = c.in_ok-index.ensures.value ∙ sym (ap index_answer (behavior-index _ _ _ _ (sym c.if-not-has_slots.ensures)))

pub returns-clause-memory : goal.returns-clause-memory
returns-clause-memory c = c.take.ensures.memory ∙ sym (ap (hash_taken c.args.heap.now c.args.class.0) (behavior-index _ _ _ _ (sym c.if-not-has_slots.ensures) ∙ index_is _ _ c.in_ok-index.ensures.value))

pub returns-clause-table : goal.returns-clause-table
returns-clause-table c = c.take.ensures.table ∙ sym (ap (entry_taken c.args.self.now c.args.class.0) (behavior-index _ _ _ _ (sym c.if-not-has_slots.ensures) ∙ index_is _ _ c.in_ok-index.ensures.value))
