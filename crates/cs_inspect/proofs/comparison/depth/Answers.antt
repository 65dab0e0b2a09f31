use Rattle.cs_inspect.proofs.Meanings.{depth_read}
use Rattle.cs_inspect.proofs.comparison.depth.Goals as goal

pub returns : goal.returns
returns c =
    depth_read c.args.heap.now.objects c.args.o.0 c.unwrap_or.result c.slot.result.0 c.natural.result c.unwrap_or.ensures c.natural.ensures.value c.slot.ensures
