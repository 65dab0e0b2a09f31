use Rattle.std.proofs.Common.{arith, ap}
use Rattle.cs_inspect.specs.Numbering.{all_reached}
use Rattle.cs_inspect.proofs.Meanings.{method_there}
use Rattle.cs_inspect.proofs.Reaching.{leading_method, method_slots, ok_is}
use Rattle.cs_inspect.proofs.numbering.reach_from_method.Goals as goal

pub method_header-requires : goal.method_header-requires
method_header-requires c = let t = method_there c.args.heap.now.objects c.args.o.0 c.requires.sound c.requires.object c.requires.method in omega (arith, t.slots)

pub reach_slots-requires-clause-within : goal.reach_slots-requires-clause-within
reach_slots-requires-clause-within c =
    omega (arith, method_slots c.args.heap.now.objects c.args.o.0 c.literals-literals.result c.method_header.result.0 c.requires.sound c.requires.object c.requires.method c.method_header.ensures c.literals-literals.ensures.value)

pub returns : goal.returns
returns c =
    ok_is _ _ _ _ c.reach_slots.ensures
    (ap (all_reached c.args.heap.now.objects c.args.addresses.now.keys)
    (leading_method c.args.heap.now.objects c.args.o.0 c.literals-literals.result c.method_header.result.0 c.requires.sound c.requires.object c.requires.method c.method_header.ensures c.literals-literals.ensures.value))
