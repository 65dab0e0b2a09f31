use Rattle.std.proofs.Common.{◌≡◌, arith, ap, ap₂, sym, ◌∙◌, ◌-◌, ◌*◌, ◌+◌}
use Rattle.std.proofs.lemmas.Bool.Decides.{nat_tests}
use Rattle.cs_word.specs.declared.header.Header.{Header}
use Rattle.cs_heap.specs.Object.{class_at, format_at, slot_count_of}
use Rattle.cs_model.specs.Obj.{literal_count}
use Rattle.cs_model.specs.Words.{unused_bytes}
use Rattle.cs_heap.specs.Format.{format_allows}
use Rattle.cs_prim_obj.specs.Contents.{literals_at}
use Rattle.cs_prim_obj.specs.declared.contents.Contents.TheVariants.{Slots, Bytes, Code}
use Rattle.cs_prim_obj.proofs.Reading.{at_bytes, at_code, at_context, at_none, at_slots, code_fits, code_format, contents_read}
use Rattle.cs_prim_obj.proofs.contents.held_by.Goals as goal

pub returns-then-not-is_object-clause-value : goal.returns-then-not-is_object-clause-value
returns-then-not-is_object-clause-value g c =
    let s = g.W.World.stored c.args.w.now in
    let k = g.W.World.view c.args.w.now in
    let m = c.heap-heap.result.now in
    at_none m.objects c.args.o.0 (sym c.is_object.ensures ∙ c.if-not-is_object.true) ∙ contents_read s k m c.args.o c.heap-heap.ensures c.requires.sound.holds c.requires.named

pub returns-then-header-eq-CONTEXT_CLASS-clause-value : goal.returns-then-header-eq-CONTEXT_CLASS-clause-value
returns-then-header-eq-CONTEXT_CLASS-clause-value g c =
    let s = g.W.World.stored c.args.w.now in
    let k = g.W.World.view c.args.w.now in
    let m = c.heap-heap.result.now in
    let class : class_at m.objects c.args.o.0 ≡ c.header-header.result.class = sym (ap (λ (h : Header). h.class) c.header-header.ensures.value) in
    let format : format_at m.objects c.args.o.0 ≡ c.header-header.result.format = sym (ap (λ (h : Header). h.format) c.header-header.ensures.value) in
    at_context m.objects c.args.o.0 (sym c.is_object.ensures ∙ c.if-not-is_object.false) (grind (arith, nat_tests, c.if-header-eq-CONTEXT_CLASS.true, class)) ∙ contents_read s k m c.args.o c.heap-heap.ensures c.requires.sound.holds c.requires.named

pub returns-then-format-lt-POINTERS_END-clause-value : goal.returns-then-format-lt-POINTERS_END-clause-value
returns-then-format-lt-POINTERS_END-clause-value g c =
    let s = g.W.World.stored c.args.w.now in
    let k = g.W.World.view c.args.w.now in
    let m = c.heap-heap.result.now in
    let class : class_at m.objects c.args.o.0 ≡ c.header-header.result.class = sym (ap (λ (h : Header). h.class) c.header-header.ensures.value) in
    let format : format_at m.objects c.args.o.0 ≡ c.header-header.result.format = sym (ap (λ (h : Header). h.format) c.header-header.ensures.value) in
    ap₂ Slots (sym format) c.slot_count-slots.ensures.value ∙ at_slots m.objects c.args.o.0 (sym c.is_object.ensures ∙ c.if-not-is_object.false) (λ e. grind (arith, nat_tests, c.if-header-eq-CONTEXT_CLASS.false, class, e)) (grind (arith, nat_tests, c.if-format-lt-POINTERS_END.true, format)) ∙ contents_read s k m c.args.o c.heap-heap.ensures c.requires.sound.holds c.requires.named

pub returns-then-format-lt-FIRST_CODE-clause-value : goal.returns-then-format-lt-FIRST_CODE-clause-value
returns-then-format-lt-FIRST_CODE-clause-value g c =
    let s = g.W.World.stored c.args.w.now in
    let k = g.W.World.view c.args.w.now in
    let m = c.heap-heap.result.now in
    let class : class_at m.objects c.args.o.0 ≡ c.header-header.result.class = sym (ap (λ (h : Header). h.class) c.header-header.ensures.value) in
    let format : format_at m.objects c.args.o.0 ≡ c.header-header.result.format = sym (ap (λ (h : Header). h.format) c.header-header.ensures.value) in
    ap₂ (λ f n. Bytes f (4 * n - c.unused_bytes.result)) (sym format) c.slot_count-slots.ensures.value ∙ ap (λ u. Bytes (format_at m.objects c.args.o.0) (4 * slot_count_of m.objects c.args.o.0 - u)) (c.unused_bytes.ensures ∙ ap unused_bytes (sym format)) ∙ at_bytes m.objects c.args.o.0 (sym c.is_object.ensures ∙ c.if-not-is_object.false) (λ e. grind (arith, nat_tests, c.if-header-eq-CONTEXT_CLASS.false, class, e)) (grind (arith, nat_tests, c.if-format-lt-POINTERS_END.false, format)) (grind (arith, nat_tests, c.if-format-lt-FIRST_CODE.true, format)) ∙ contents_read s k m c.args.o c.heap-heap.ensures c.requires.sound.holds c.requires.named

pub method_header-requires : goal.method_header-requires
method_header-requires g c =
    let s = g.W.World.stored c.args.w.now in
    let k = g.W.World.view c.args.w.now in
    let m = c.heap-heap.result.now in
    let class : class_at m.objects c.args.o.0 ≡ c.header-header.result.class = sym (ap (λ (h : Header). h.class) c.header-header.ensures.value) in
    let format : format_at m.objects c.args.o.0 ≡ c.header-header.result.format = sym (ap (λ (h : Header). h.format) c.header-header.ensures.value) in
    omega (arith, (code_fits s k m c.args.o.0 c.heap-heap.ensures c.requires.sound.holds (sym c.is_object.ensures ∙ c.if-not-is_object.false) (code_format (format_at m.objects c.args.o.0) (slot_count_of m.objects c.args.o.0) (ap (λ f. format_allows f (slot_count_of m.objects c.args.o.0)) format ∙ c.header-header.ensures.shape) (grind (arith, nat_tests, c.if-format-lt-FIRST_CODE.false, format)))).literals)

pub overflow_sub-result-else-format-lt-FIRST_CODE : goal.overflow_sub-result-else-format-lt-FIRST_CODE
overflow_sub-result-else-format-lt-FIRST_CODE g c =
    let s = g.W.World.stored c.args.w.now in
    let k = g.W.World.view c.args.w.now in
    let m = c.heap-heap.result.now in
    let class : class_at m.objects c.args.o.0 ≡ c.header-header.result.class = sym (ap (λ (h : Header). h.class) c.header-header.ensures.value) in
    let format : format_at m.objects c.args.o.0 ≡ c.header-header.result.format = sym (ap (λ (h : Header). h.format) c.header-header.ensures.value) in
    omega (arith, (code_fits s k m c.args.o.0 c.heap-heap.ensures c.requires.sound.holds (sym c.is_object.ensures ∙ c.if-not-is_object.false) (code_format (format_at m.objects c.args.o.0) (slot_count_of m.objects c.args.o.0) (ap (λ f. format_allows f (slot_count_of m.objects c.args.o.0)) format ∙ c.header-header.ensures.shape) (grind (arith, nat_tests, c.if-format-lt-FIRST_CODE.false, format)))).literals, (c.literals-literals.ensures.value ∙ ap literal_count c.method_header.ensures), c.slot_count-slots.ensures.value)

pub overflow_sub-result-else-format-lt-FIRST_CODE-2 : goal.overflow_sub-result-else-format-lt-FIRST_CODE-2
overflow_sub-result-else-format-lt-FIRST_CODE-2 g c =
    let s = g.W.World.stored c.args.w.now in
    let k = g.W.World.view c.args.w.now in
    let m = c.heap-heap.result.now in
    let class : class_at m.objects c.args.o.0 ≡ c.header-header.result.class = sym (ap (λ (h : Header). h.class) c.header-header.ensures.value) in
    let format : format_at m.objects c.args.o.0 ≡ c.header-header.result.format = sym (ap (λ (h : Header). h.format) c.header-header.ensures.value) in
    let u = c.unused_bytes-else-format-lt-FIRST_CODE.ensures ∙ ap unused_bytes (sym format) in omega (arith, (code_fits s k m c.args.o.0 c.heap-heap.ensures c.requires.sound.holds (sym c.is_object.ensures ∙ c.if-not-is_object.false) (code_format (format_at m.objects c.args.o.0) (slot_count_of m.objects c.args.o.0) (ap (λ f. format_allows f (slot_count_of m.objects c.args.o.0)) format ∙ c.header-header.ensures.shape) (grind (arith, nat_tests, c.if-format-lt-FIRST_CODE.false, format)))).unused, (c.literals-literals.ensures.value ∙ ap literal_count c.method_header.ensures), c.slot_count-slots.ensures.value, u)

pub returns-else-format-lt-FIRST_CODE-clause-value : goal.returns-else-format-lt-FIRST_CODE-clause-value
returns-else-format-lt-FIRST_CODE-clause-value g c =
    let s = g.W.World.stored c.args.w.now in
    let k = g.W.World.view c.args.w.now in
    let m = c.heap-heap.result.now in
    let class : class_at m.objects c.args.o.0 ≡ c.header-header.result.class = sym (ap (λ (h : Header). h.class) c.header-header.ensures.value) in
    let format : format_at m.objects c.args.o.0 ≡ c.header-header.result.format = sym (ap (λ (h : Header). h.format) c.header-header.ensures.value) in
    ap₂ (λ l n. Code l (4 * (n - (1 + l)) - c.unused_bytes-else-format-lt-FIRST_CODE.result)) (c.literals-literals.ensures.value ∙ ap literal_count c.method_header.ensures) c.slot_count-slots.ensures.value ∙ ap (λ u. Code (literals_at m.objects c.args.o.0) (4 * (slot_count_of m.objects c.args.o.0 - (1 + literals_at m.objects c.args.o.0)) - u)) (c.unused_bytes-else-format-lt-FIRST_CODE.ensures ∙ ap unused_bytes (sym format)) ∙ at_code m.objects c.args.o.0 (sym c.is_object.ensures ∙ c.if-not-is_object.false) (λ e. grind (arith, nat_tests, c.if-header-eq-CONTEXT_CLASS.false, class, e)) (code_format (format_at m.objects c.args.o.0) (slot_count_of m.objects c.args.o.0) (ap (λ f. format_allows f (slot_count_of m.objects c.args.o.0)) format ∙ c.header-header.ensures.shape) (grind (arith, nat_tests, c.if-format-lt-FIRST_CODE.false, format))) (grind (arith, nat_tests, c.if-format-lt-FIRST_CODE.false, format)) ∙ contents_read s k m c.args.o c.heap-heap.ensures c.requires.sound.holds c.requires.named
