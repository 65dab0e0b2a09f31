use Rattle.std.proofs.Common.{arith, ap, ◌-◌, ◌++◌, ℕ, List}
use Rattle.std.specs.Prelude.{codes, decimal}
use Rattle.cs_inspect.specs.Texts.{activation_text, return_text}
use Rattle.cs_inspect.proofs.Meanings.{context_there, context_whole, depth_read}
use Rattle.cs_inspect.proofs.Texts.{ends, joins}
use Rattle.cs_inspect.proofs.line.push_context.Goals as goal

pub overflow_sub-slot_count : goal.overflow_sub-slot_count
overflow_sub-slot_count c = let t = context_there c.args.heap.now.objects c.args.o.0 c.requires.sound c.requires.object c.requires.context in omega (arith, t.fields, c.slot_count.ensures.value)

pub slot-requires : goal.slot-requires
slot-requires c = let t = context_there c.args.heap.now.objects c.args.o.0 c.requires.sound c.requires.object c.requires.context in omega (arith, t.fields)

pub push_references-requires-clause-within : goal.push_references-requires-clause-within
push_references-requires-clause-within c =
    let t = context_there c.args.heap.now.objects c.args.o.0 c.requires.sound c.requires.object c.requires.context in
    omega (arith, t.depth, depth_read c.args.heap.now.objects c.args.o.0 c.unwrap_or-depth.result c.slot.result.0 c.natural.result c.unwrap_or-depth.ensures c.natural.ensures.value c.slot.ensures)

pub push_references-requires-clause-references : goal.push_references-requires-clause-references
push_references-requires-clause-references c = λ i begun within.
    let t = context_there c.args.heap.now.objects c.args.o.0 c.requires.sound c.requires.object c.requires.context in
    t.others i (omega (arith, begun)) (omega (arith, within, t.depth, depth_read c.args.heap.now.objects c.args.o.0 c.unwrap_or-depth.result c.slot.result.0 c.natural.result c.unwrap_or-depth.ensures c.natural.ensures.value c.slot.ensures))

pub returns : goal.returns
returns c =
    let hash : List ℕ = codes " context hash=" ++ decimal c.hash.result in
    let size : List ℕ = codes " size=" ++ decimal (c.slot_count.result - 6) in
    let place : List ℕ = return_text c.args.heap.now.objects c.args.o.0 in
    let activation : List ℕ = activation_text c.args.heap.now.objects c.args.o.0 in
    ends c.push_references.result c.push_references.new.text.items c.push_activation.new.text.items c.args.text.now.items (hash ++ size ++ place ++ activation) _ _ c.push_references.ensures
    (joins c.args.text.now.items (hash ++ size ++ place) activation c.push_place.new.text.items c.push_activation.new.text.items
    (joins c.args.text.now.items (hash ++ size) place c.push_field-2.new.text.items c.push_place.new.text.items
    (joins c.args.text.now.items hash size c.push_field.new.text.items c.push_field-2.new.text.items c.in_ok-push_field.ensures c.in_ok-push_field-2.ensures)
    c.in_ok-push_place.ensures)
    c.in_ok-push_activation.ensures)
    (context_whole c.args.heap.now.objects c.args.o.0 c.hash.result (c.slot_count.result - 6) c.unwrap_or-depth.result c.hash.ensures.value (ap (λ n. n - 6) c.slot_count.ensures.value)
    (depth_read c.args.heap.now.objects c.args.o.0 c.unwrap_or-depth.result c.slot.result.0 c.natural.result c.unwrap_or-depth.ensures c.natural.ensures.value c.slot.ensures))
