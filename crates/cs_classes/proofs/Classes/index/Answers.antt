use Rattle.std.proofs.Common.{ap, sym, ◌∙◌}
use Rattle.cs_model.specs.Instance.{taken}
use Rattle.cs_classes.specs.Instances.{index_answer}
use Rattle.cs_classes.proofs.Indices.{index-entry, index-free, index-none}
use Rattle.cs_classes.proofs.Classes.index.Goals as goal

pub returns-in-Some-clause-value : goal.returns-in-Some-clause-value
returns-in-Some-clause-value c =
    ap (λ o. index_answer (taken o)) c.in-Some.ensures.value
    ∙ sym (ap index_answer (index-free c.args.heap.now.objects c.args.self.now c.args.class.0 (sym c.hash-hash.ensures.value ∙ c.if-hash-eq0.true)))

pub returns-in-None-clause-value : goal.returns-in-None-clause-value
returns-in-None-clause-value c =
    ap (λ o. index_answer (taken o)) c.in-None.ensures.value
    ∙ sym (ap index_answer (index-free c.args.heap.now.objects c.args.self.now c.args.class.0 (sym c.hash-hash.ensures.value ∙ c.if-hash-eq0.true)))

pub returns-then-is_entry-clause-value : goal.returns-then-is_entry-clause-value
returns-then-is_entry-clause-value c = sym (ap index_answer (index-entry c.args.heap.now.objects c.args.self.now c.args.class.0 c.hash-hash.result c.hash-hash.ensures.value c.if-hash-eq0.false (sym c.is_entry.ensures.value ∙ c.if-is_entry.true)))

pub returns-else-is_entry-clause-value : goal.returns-else-is_entry-clause-value
returns-else-is_entry-clause-value c = sym (ap index_answer (index-none c.args.heap.now.objects c.args.self.now c.args.class.0 c.hash-hash.result c.hash-hash.ensures.value c.if-hash-eq0.false (sym c.is_entry.ensures.value ∙ c.if-is_entry.false)))
