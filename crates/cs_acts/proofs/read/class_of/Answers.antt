use Rattle.std.proofs.Common.{sym, ◌∙◌, arith}
use Rattle.cs_acts.specs.Names.{name_of}
use Rattle.cs_acts.proofs.Named.{class_names, class_read}
use Rattle.cs_acts.proofs.read.class_of.Goals as goal

pub returns-then-index-len : goal.returns-then-index-len
returns-then-index-len g c =
    let s = g.W.World.stored c.args.w.now in
    let k = g.W.World.view c.args.w.now in
    class_names s k (name_of s c.args.o) c.classes-classes.result.now c.class_index-index.result c.entry.result c.requires.sound.holds c.classes-classes.ensures
    (c.class_index-index.ensures ∙ class_read s k c.heap.result.now c.args.o c.heap.ensures c.requires.sound.holds c.requires.named) c.entry.ensures

pub returns-else-index-len : goal.returns-else-index-len
returns-else-index-len g c =
    let s = g.W.World.stored c.args.w.now in
    let k = g.W.World.view c.args.w.now in
    class_names s k (name_of s c.args.o) c.classes-classes.result.now c.class_index-index.result _ c.requires.sound.holds c.classes-classes.ensures
    (c.class_index-index.ensures ∙ class_read s k c.heap.result.now c.args.o c.heap.ensures c.requires.sound.holds c.requires.named) (sym (c.len.ensures.beyond c.class_index-index.result (omega (arith, c.if-index-len.false, c.len.ensures.value))))
