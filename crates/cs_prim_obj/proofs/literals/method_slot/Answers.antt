use Rattle.std.proofs.Common.{sym, ap, ◌∙◌, arith}
use Rattle.cs_acts.specs.Names.{name_of}
use Rattle.cs_model.specs.State.{object_of}
use Rattle.cs_prim_obj.specs.Contents.{literals_held}
use Rattle.cs_prim_obj.proofs.Lettering.{literal_named_by, literal_there, no_literal, past_literals}
use Rattle.cs_prim_obj.proofs.literals.method_slot.Goals as goal

pub returns-in_default : goal.returns-in_default
returns-in_default g c =
    let s = g.W.World.stored c.args.w.now in
    let k = g.W.World.view c.args.w.now in
    let x = name_of s c.args.o in
    record { sound = tt; is = sym (no_literal (object_of k x) c.args.i (sym (ap literals_held c.held_by.ensures.value) ∙ sym c.literals_held.ensures ∙ c.in_default.is)) }

pub slot-requires : goal.slot-requires
slot-requires g c =
    let s = g.W.World.stored c.args.w.now in
    let k = g.W.World.view c.args.w.now in
    let x = name_of s c.args.o in
    literal_there s k c.heap.result.now c.args.o c.heap.ensures c.requires.sound.holds c.requires.named c.in-Some.literals (sym (ap literals_held c.held_by.ensures.value) ∙ sym c.literals_held.ensures ∙ c.in-Some.is) c.args.i (omega (arith, c.if-i-literals.true))

pub returns-then-i-literals : goal.returns-then-i-literals
returns-then-i-literals g c =
    let s = g.W.World.stored c.args.w.now in
    let k = g.W.World.view c.args.w.now in
    let x = name_of s c.args.o in
    literal_named_by s k c.heap.result.now c.args.o c.heap.ensures c.requires.sound.holds c.requires.named c.in-Some.literals (sym (ap literals_held c.held_by.ensures.value) ∙ sym c.literals_held.ensures ∙ c.in-Some.is) c.args.i c.slot.result (omega (arith, c.if-i-literals.true)) c.slot.ensures

pub returns-else-i-literals : goal.returns-else-i-literals
returns-else-i-literals g c =
    let s = g.W.World.stored c.args.w.now in
    let k = g.W.World.view c.args.w.now in
    let x = name_of s c.args.o in
    record { sound = tt; is = sym (past_literals (object_of k x) c.args.i c.in-Some.literals (sym (ap literals_held c.held_by.ensures.value) ∙ sym c.literals_held.ensures ∙ c.in-Some.is) (omega (arith, c.if-i-literals.false))) }
