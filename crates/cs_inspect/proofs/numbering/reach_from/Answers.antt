use Rattle.std.proofs.Common.{ap}
use Rattle.cs_heap.specs.Object.{class_at, format_at}
use Rattle.cs_inspect.specs.Numbering.{all_reached}
use Rattle.cs_inspect.proofs.Meanings.{is_pointers_read, no_method_read, no_pointers_read, other_read}
use Rattle.cs_inspect.proofs.Reaching.{leading_pointers, ok_is, raw_reached}
use Rattle.cs_inspect.proofs.numbering.reach_from.Goals as goal

pub returns-then-format-lt-POINTERS_END : goal.returns-then-format-lt-POINTERS_END
returns-then-format-lt-POINTERS_END c =
    ok_is _ _ _ _ c.reach_slots.ensures
    (ap (all_reached c.args.heap.now.objects c.args.addresses.now.keys)
    (leading_pointers c.args.heap.now.objects c.args.o.0 c.slot_count.result c.requires.sound c.requires.object
    (other_read c.class_index.result (class_at c.args.heap.now.objects c.args.o.0) c.class_index.ensures.value c.if-class_index-eq-CONTEXT_CLASS.false)
    (is_pointers_read c.format.result (format_at c.args.heap.now.objects c.args.o.0) c.format.ensures.value c.if-format-lt-POINTERS_END.true)
    c.slot_count.ensures.value))

pub returns-then-format-lt-METHODS_BEGIN : goal.returns-then-format-lt-METHODS_BEGIN
returns-then-format-lt-METHODS_BEGIN c =
    raw_reached c.args.heap.now.objects c.args.o.0 c.args.addresses.now.keys c.requires.sound c.requires.object
    (other_read c.class_index.result (class_at c.args.heap.now.objects c.args.o.0) c.class_index.ensures.value c.if-class_index-eq-CONTEXT_CLASS.false)
    (no_pointers_read c.format.result (format_at c.args.heap.now.objects c.args.o.0) c.format.ensures.value c.if-format-lt-POINTERS_END.false)
    (no_method_read c.format-else-format-lt-POINTERS_END.result (format_at c.args.heap.now.objects c.args.o.0) c.format-else-format-lt-POINTERS_END.ensures.value c.if-format-lt-METHODS_BEGIN.true)
