use Rattle.std.proofs.Common.{subst}
use Rattle.std.specs.Prelude.{option_and_then, slice_get}
use Rattle.cs_model.specs.State.{slots_of}
use Rattle.cs_acts.specs.Names.{NamesOption, name_of}
use Rattle.cs_unwind.proofs.Pointers.{slot_is_there, slot_named}
use Rattle.cs_unwind.proofs.blocks.closure_slot.Goals as goal

pub unreachable-requires : goal.unreachable-requires
unreachable-requires g c =
    let s = g.W.World.stored c.args.w.now in
    let k = g.W.World.view c.args.w.now in
    slot_is_there s k (name_of s c.args.o) c.args.i c.requires.closure c.requires.within
    (subst (λ o. NamesOption s o (option_and_then (λ slots. slice_get slots c.args.i) (slots_of k 3 (name_of s c.args.o)))) c.in_default.is c.slot.ensures)

pub returns : goal.returns
returns g c =
    let s = g.W.World.stored c.args.w.now in
    let k = g.W.World.view c.args.w.now in
    slot_named s k (name_of s c.args.o) c.args.i c.in-Some.value c.requires.closure c.requires.within
    (subst (λ o. NamesOption s o (option_and_then (λ slots. slice_get slots c.args.i) (slots_of k 3 (name_of s c.args.o)))) c.in-Some.is c.slot.ensures)
