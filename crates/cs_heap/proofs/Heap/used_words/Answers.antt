use Rattle.std.proofs.Common.{length, ap, arith}
use Rattle.cs_heap.proofs.Standing.{laid_seen, length-all_words}
use Rattle.cs_heap.proofs.Heap.used_words.Goals as goal

pub returns-clause-value : goal.returns-clause-value
returns-clause-value c = let laid = laid_seen c.self.inside c.args.self.now c.self.invariant c.self.view_is in
    omega (arith, c.len.ensures, c.self.inside.words.ok.0, ap length laid.words, length-all_words c.args.self.now.objects)
