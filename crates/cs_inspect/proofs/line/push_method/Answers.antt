use Rattle.std.proofs.Common.{arith, ap, ◌+◌, ◌-◌, ◌++◌, ◌∙◌, ℕ, List, drop, map, take}
use Rattle.std.specs.Prelude.{codes}
use Rattle.cs_heap.specs.Object.{words_at}
use Rattle.cs_model.specs.Obj.{literal_count}
use Rattle.cs_model.specs.Print.{refs_text}
use Rattle.cs_classes.specs.Meaning.{ref_of}
use Rattle.cs_inspect.proofs.Meanings.{header_read, method_front, method_text, method_there, method_unused, no_header}
use Rattle.cs_inspect.proofs.Texts.{ends, joins}
use Rattle.cs_inspect.proofs.line.push_method.Goals as goal

pub slot-requires : goal.slot-requires
slot-requires c = let t = method_there c.args.heap.now.objects c.args.o.0 c.requires.sound c.requires.object c.requires.method in omega (arith, t.slots)

pub unreachable-requires : goal.unreachable-requires
unreachable-requires c = let t = method_there c.args.heap.now.objects c.args.o.0 c.requires.sound c.requires.object c.requires.method in no_header c.args.heap.now.objects c.args.o.0 c.slot.result.0 c.read.result t c.in_default.is c.read.ensures c.slot.ensures

pub push_references-requires-clause-within : goal.push_references-requires-clause-within
push_references-requires-clause-within c =
    let t = method_there c.args.heap.now.objects c.args.o.0 c.requires.sound c.requires.object c.requires.method in
    let h = header_read c.args.heap.now.objects c.args.o.0 c.in-Some.header.0 c.slot.result.0 t c.in-Some.ensures c.slot.ensures in
    omega (arith, t.slots, c.literals-code.ensures.value, ap literal_count h)

pub push_references-requires-clause-references : goal.push_references-requires-clause-references
push_references-requires-clause-references c = λ i begun within.
    let t = method_there c.args.heap.now.objects c.args.o.0 c.requires.sound c.requires.object c.requires.method in
    let h = header_read c.args.heap.now.objects c.args.o.0 c.in-Some.header.0 c.slot.result.0 t c.in-Some.ensures c.slot.ensures in
    t.literal i begun (omega (arith, within, c.literals-code.ensures.value, ap literal_count h))

pub push_bytes-requires-clause-begun : goal.push_bytes-requires-clause-begun
push_bytes-requires-clause-begun c =
    let t = method_there c.args.heap.now.objects c.args.o.0 c.requires.sound c.requires.object c.requires.method in
    let h = header_read c.args.heap.now.objects c.args.o.0 c.in-Some.header.0 c.slot.result.0 t c.in-Some.ensures c.slot.ensures in
    omega (arith, t.slots, t.unused, c.literals-code.ensures.value, ap literal_count h, c.slot_count.ensures.value, c.from-unused.ensures, method_unused c.args.heap.now.objects c.args.o.0 c.format.result c.format.ensures.value c.requires.method)

pub returns : goal.returns
returns c =
    let t = method_there c.args.heap.now.objects c.args.o.0 c.requires.sound c.requires.object c.requires.method in
    let h = header_read c.args.heap.now.objects c.args.o.0 c.in-Some.header.0 c.slot.result.0 t c.in-Some.ensures c.slot.ensures in
    let front : List ℕ = method_front c.args.heap.now.objects c.args.o.0 c.in-Some.header.0 in
    let refs : List ℕ = refs_text (map (ref_of c.args.heap.now.objects) (take (1 + c.literals-code.result - 1) (drop 1 (words_at c.args.heap.now.objects c.args.o.0)))) in
    let mark : List ℕ = codes " ;" in
    ends c.push_bytes.result c.push_bytes.new.text.items c.push_text.new.text.items c.args.text.now.items (front ++ refs ++ mark) _ _ c.push_bytes.ensures
    (joins c.args.text.now.items (front ++ refs) mark c.push_references.new.text.items c.push_text.new.text.items
    (joins c.args.text.now.items front refs c.push_method_head.new.text.items c.push_references.new.text.items c.in_ok-push_method_head.ensures c.in_ok-push_references.ensures)
    c.in_ok-push_text.ensures)
    (method_text c.args.heap.now.objects c.args.o.0 c.in-Some.header.0 c.slot_count.result c.from-unused.result c.literals-code.result h c.slot_count.ensures.value
    (c.from-unused.ensures ∙ method_unused c.args.heap.now.objects c.args.o.0 c.format.result c.format.ensures.value c.requires.method) c.literals-code.ensures.value)
