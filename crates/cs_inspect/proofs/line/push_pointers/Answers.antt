use Rattle.std.proofs.Common.{arith}
use Rattle.cs_inspect.proofs.Finding.{has_field}
use Rattle.cs_inspect.proofs.Meanings.{pointers_whole}
use Rattle.cs_inspect.proofs.Texts.{ends}
use Rattle.cs_inspect.proofs.line.push_pointers.Goals as goal

pub push_references-requires-clause-references : goal.push_references-requires-clause-references
push_references-requires-clause-references c = λ i _ within.
    (has_field c.args.heap.now.objects c.args.o.0 i c.requires.sound c.requires.object c.requires.other c.requires.format (omega (arith, within, c.slot_count.ensures.value))).reference

pub returns : goal.returns
returns c = ends _ _ _ _ _ _ _ c.push_references.ensures c.in_ok-push_head.ensures (pointers_whole c.args.heap.now.objects c.args.o.0 c.slot_count.result c.slot_count.ensures.value)
