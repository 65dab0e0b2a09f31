use Rattle.std.proofs.Common.{ap, sym, ◌∙◌, List}
use Rattle.cs_heap.specs.Object.{Object}
use Rattle.cs_classes.proofs.Indices.{has_index, hash_set-same, insert-same}
use Rattle.cs_classes.proofs.Classes.take.Goals as goal

pub returns-else-hash-eq0-clause-memory : goal.returns-else-hash-eq0-clause-memory
returns-else-hash-eq0-clause-memory c =
    let has = has_index c.args.heap.now.objects c.args.self.now c.args.class.0 c.args.index (λ e. c.if-hash-eq0.false (c.hash.ensures.value ∙ e)) c.requires.index in
    sym (ap (λ (os : List Object). record c.args.heap.now { objects = os }) (hash_set-same c.args.heap.now.objects c.args.class.0 c.args.index has.hash))

pub returns-else-hash-eq0-clause-table : goal.returns-else-hash-eq0-clause-table
returns-else-hash-eq0-clause-table c =
    let has = has_index c.args.heap.now.objects c.args.self.now c.args.class.0 c.args.index (λ e. c.if-hash-eq0.false (c.hash.ensures.value ∙ e)) c.requires.index in
    sym (insert-same c.args.self.now c.args.index c.args.class.0 has.entry)
