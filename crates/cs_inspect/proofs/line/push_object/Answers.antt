use Rattle.cs_inspect.proofs.Meanings.{is_context_read, is_pointers_read, means_context, means_method, means_pointers, means_raw, method_read, no_method_read, no_pointers_read, other_read, text_is}
use Rattle.cs_heap.specs.Object.{class_at, format_at, slot_count_of}
use Rattle.cs_inspect.proofs.Texts.{then_is}
use Rattle.cs_inspect.proofs.line.push_object.Goals as goal

pub returns-then-class_index-eq-CONTEXT_CLASS : goal.returns-then-class_index-eq-CONTEXT_CLASS
returns-then-class_index-eq-CONTEXT_CLASS c =
    then_is _ _ _ _ _ (text_is c.args.heap.now.objects c.args.o.0 _ (means_context c.args.heap.now.objects c.args.o.0 c.requires.object (is_context_read c.class_index.result (class_at c.args.heap.now.objects c.args.o.0) c.class_index.ensures.value c.if-class_index-eq-CONTEXT_CLASS.true))) c.push_context.ensures

pub returns-then-format-lt-POINTERS_END : goal.returns-then-format-lt-POINTERS_END
returns-then-format-lt-POINTERS_END c =
    then_is _ _ _ _ _
    (text_is c.args.heap.now.objects c.args.o.0 _ (means_pointers c.args.heap.now.objects c.args.o.0 c.requires.object
    (other_read c.class_index.result (class_at c.args.heap.now.objects c.args.o.0) c.class_index.ensures.value c.if-class_index-eq-CONTEXT_CLASS.false)
    (is_pointers_read c.format.result (format_at c.args.heap.now.objects c.args.o.0) c.format.ensures.value c.if-format-lt-POINTERS_END.true)))
    c.push_pointers.ensures

pub returns-then-format-lt-METHODS_BEGIN : goal.returns-then-format-lt-METHODS_BEGIN
returns-then-format-lt-METHODS_BEGIN c =
    then_is _ _ _ _ _
    (text_is c.args.heap.now.objects c.args.o.0 _ (means_raw c.args.heap.now.objects c.args.o.0 c.requires.object
    (other_read c.class_index.result (class_at c.args.heap.now.objects c.args.o.0) c.class_index.ensures.value c.if-class_index-eq-CONTEXT_CLASS.false)
    (no_pointers_read c.format.result (format_at c.args.heap.now.objects c.args.o.0) c.format.ensures.value c.if-format-lt-POINTERS_END.false)
    (no_method_read c.format-else-format-lt-POINTERS_END.result (format_at c.args.heap.now.objects c.args.o.0) c.format-else-format-lt-POINTERS_END.ensures.value c.if-format-lt-METHODS_BEGIN.true)))
    c.push_raw.ensures

pub returns-else-format-lt-METHODS_BEGIN : goal.returns-else-format-lt-METHODS_BEGIN
returns-else-format-lt-METHODS_BEGIN c =
    then_is _ _ _ _ _
    (text_is c.args.heap.now.objects c.args.o.0 _ (means_method c.args.heap.now.objects c.args.o.0 c.requires.object
    (other_read c.class_index.result (class_at c.args.heap.now.objects c.args.o.0) c.class_index.ensures.value c.if-class_index-eq-CONTEXT_CLASS.false)
    (no_pointers_read c.format.result (format_at c.args.heap.now.objects c.args.o.0) c.format.ensures.value c.if-format-lt-POINTERS_END.false)
    (method_read c.format-else-format-lt-POINTERS_END.result (format_at c.args.heap.now.objects c.args.o.0) (slot_count_of c.args.heap.now.objects c.args.o.0) c.format-else-format-lt-POINTERS_END.ensures.value c.format-else-format-lt-POINTERS_END.ensures.shape c.if-format-lt-METHODS_BEGIN.false)))
    c.push_method.ensures
