use Rattle.std.proofs.Common.{arith}
use Rattle.cs_inspect.proofs.Sides.{few_objects}
use Rattle.cs_inspect.proofs.comparison.told.Goals as goal

pub prove-unreachable-requires : goal.prove-unreachable-requires
prove-unreachable-requires c = omega (arith, few_objects c.args.heap.now.objects, c.used_words-used.ensures.value, c.requires, c.if-prove.true)
