use Rattle.std.proofs.Common.{arith, refl, sym, ◌∙◌}
use Rattle.cs_heap.specs.Object.{words_at}
use Rattle.cs_classes.specs.Meaning.{depth_in}
use Rattle.cs_inspect.proofs.Meanings.{context_there}
use Rattle.cs_inspect.proofs.Reaching.{context_reached, ok_is, stack_reached}
use Rattle.cs_inspect.proofs.numbering.reach_from_context.Goals as goal

pub slot-requires : goal.slot-requires
slot-requires c = let t = context_there c.args.heap.now.objects c.args.o.0 c.requires.sound c.requires.object c.requires.context in omega (arith, t.fields)

pub slot-requires-2 : goal.slot-requires-2
slot-requires-2 c = let t = context_there c.args.heap.now.objects c.args.o.0 c.requires.sound c.requires.object c.requires.context in omega (arith, t.fields)

pub slot-requires-3 : goal.slot-requires-3
slot-requires-3 c = let t = context_there c.args.heap.now.objects c.args.o.0 c.requires.sound c.requires.object c.requires.context in omega (arith, t.fields)

pub returns : goal.returns
returns c =
    ok_is _ _ _ _ c.reach_stack.ensures
    (sym (stack_reached c.args.heap.now.objects c.reach-3.new.addresses.keys (words_at c.args.heap.now.objects c.args.o.0) (depth_in (words_at c.args.heap.now.objects c.args.o.0)) (depth_in (words_at c.args.heap.now.objects c.args.o.0)) refl)
    ∙ context_reached c.args.heap.now.objects c.args.o.0 (depth_in (words_at c.args.heap.now.objects c.args.o.0)) c.slot.result.0 c.slot-2.result.0 c.slot-3.result.0 c.args.addresses.now.keys c.reach.new.addresses.keys c.reach-2.new.addresses.keys c.reach-3.new.addresses.keys
    c.requires.sound c.requires.object c.requires.context refl
    c.slot.ensures c.slot-2.ensures c.slot-3.ensures c.in_ok-reach.ensures c.in_ok-reach-2.ensures c.in_ok-reach-3.ensures)
