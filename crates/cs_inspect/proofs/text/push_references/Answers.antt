use Rattle.std.proofs.Common.{arith, drop}
use Rattle.cs_heap.specs.Object.{words_at}
use Rattle.cs_classes.specs.Meaning.{ref_of}
use Rattle.cs_inspect.proofs.Texts.{more_refs, refs_begin}
use Rattle.cs_inspect.proofs.text.push_references.Goals as goal

pub loop-i-init : goal.loop-i-init
loop-i-init c = refs_begin (ref_of c.args.heap.now.objects) c.args.from (drop c.args.from (words_at c.args.heap.now.objects c.args.o.0)) c.args.text.now.items

pub loop-i-preserved : goal.loop-i-preserved
loop-i-preserved c = more_refs c.args.heap.now.objects c.args.o.0 c.args.from c.loop-i.i _ _ _ _ c.slot.result.0 (omega arith) (omega (arith, c.requires.within)) c.slot.ensures c.loop-i.invariant c.in_ok-push_text.ensures c.in_ok-push_reference.ensures
