use Rattle.std.proofs.Common.{arith}
use Rattle.cs_acts.specs.Names.{name_of}
use Rattle.cs_acts.proofs.Named.{any_names, past_names, slot_names, special_has, special_named, special_names, special_there}
use Rattle.cs_acts.proofs.read.special.Goals as goal

pub slot_count-requires : goal.slot_count-requires
slot_count-requires g c =
    let s = g.W.World.stored c.args.w.now in
    let k = g.W.World.view c.args.w.now in
    special_there s k c.heap-heap.result.now c.roots.result.now c.heap-heap.ensures c.roots.ensures c.requires.holds

pub returns-then-i-slot_count : goal.returns-then-i-slot_count
returns-then-i-slot_count g c =
    let s = g.W.World.stored c.args.w.now in
    let k = g.W.World.view c.args.w.now in
    let r = c.roots.result.now in
    let named = special_named s k r c.roots.ensures c.requires.holds in
    let has = special_has s k c.heap-heap.result.now r c.heap-heap.ensures c.roots.ensures c.requires.holds in
    special_names s k r c.args.i _ c.roots.ensures c.requires.holds
    (any_names s k c.args.i (name_of s r.special) _
    (slot_names s k c.heap-heap.result.now 0 c.args.i r.special c.slot.result c.heap-heap.ensures c.requires.holds named has (omega (arith, c.if-i-slot_count.true, c.slot_count.ensures.value)) c.slot.ensures))

pub returns-else-i-slot_count : goal.returns-else-i-slot_count
returns-else-i-slot_count g c =
    let s = g.W.World.stored c.args.w.now in
    let k = g.W.World.view c.args.w.now in
    let r = c.roots.result.now in
    let named = special_named s k r c.roots.ensures c.requires.holds in
    let has = special_has s k c.heap-heap.result.now r c.heap-heap.ensures c.roots.ensures c.requires.holds in
    special_names s k r c.args.i _ c.roots.ensures c.requires.holds
    (any_names s k c.args.i (name_of s r.special) _
    (past_names s k c.heap-heap.result.now c.args.i r.special c.heap-heap.ensures c.requires.holds named has (omega (arith, c.if-i-slot_count.false, c.slot_count.ensures.value))))
