use Rattle.std.proofs.Common.{◌∙◌, ap, sym}
use Rattle.std.specs.Prelude.{◌==◌, ◌&&◌, Bool}
use Rattle.cs_heap.specs.Object.{format_at}
use Rattle.cs_acts.specs.Names.{name_of}
use Rattle.cs_unwind.proofs.Pointers.{closure_read, has_some, is_37, isnt_37, no_closure, pointer}
use Rattle.cs_unwind.proofs.blocks.is_closure.Goals as goal

pub returns-then-not-has_slots : goal.returns-then-not-has_slots
returns-then-not-has_slots g c = no_closure (g.W.World.view c.args.w.now) (name_of (g.W.World.stored c.args.w.now) c.args.o) (sym c.has_slots.ensures ∙ c.if-not-has_slots.true)

pub class_index-requires : goal.class_index-requires
class_index-requires g c =
    let s = g.W.World.stored c.args.w.now in
    let k = g.W.World.view c.args.w.now in
    (pointer s k c.heap-heap.result.now c.args.o c.heap-heap.ensures c.requires.sound.holds c.requires.named (has_some k 3 (name_of s c.args.o) (sym c.has_slots.ensures ∙ c.if-not-has_slots.false))).there

pub returns-then-class_index-eq-CLOSURE_CLASS : goal.returns-then-class_index-eq-CLOSURE_CLASS
returns-then-class_index-eq-CLOSURE_CLASS g c =
    let s = g.W.World.stored c.args.w.now in
    let k = g.W.World.view c.args.w.now in
    let has = sym c.has_slots.ensures ∙ c.if-not-has_slots.false in
    let p = pointer s k c.heap-heap.result.now c.args.o c.heap-heap.ensures c.requires.sound.holds c.requires.named (has_some k 3 (name_of s c.args.o) has) in
    ap (λ f. f == 3) c.format.ensures.value
    ∙ ap (λ (b : Bool). b && format_at c.heap-heap.result.now.objects c.args.o.0 == 3) (sym (is_37 _ (sym c.class_index.ensures.value ∙ c.if-class_index-eq-CLOSURE_CLASS.true)))
    ∙ closure_read s k c.heap-heap.result.now c.args.o p has

pub returns-else-class_index-eq-CLOSURE_CLASS : goal.returns-else-class_index-eq-CLOSURE_CLASS
returns-else-class_index-eq-CLOSURE_CLASS g c =
    let s = g.W.World.stored c.args.w.now in
    let k = g.W.World.view c.args.w.now in
    let has = sym c.has_slots.ensures ∙ c.if-not-has_slots.false in
    let p = pointer s k c.heap-heap.result.now c.args.o c.heap-heap.ensures c.requires.sound.holds c.requires.named (has_some k 3 (name_of s c.args.o) has) in
    isnt_37 _ c.if-class_index-eq-CLOSURE_CLASS.false
    ∙ ap (λ (b : Bool). b && format_at c.heap-heap.result.now.objects c.args.o.0 == 3) (sym (isnt_37 _ (λ e. c.if-class_index-eq-CLOSURE_CLASS.false (c.class_index.ensures.value ∙ e))))
    ∙ closure_read s k c.heap-heap.result.now c.args.o p has
