use Rattle.std.proofs.Common.{Some, arith, sym, subst}
use Rattle.cs_heap.specs.Object.{Memory}
use Rattle.cs_model.specs.Settle.{context_kept}
use Rattle.cs_acts.specs.Names.{NamesOption, name_of}
use Rattle.cs_plain.specs.View.{plain_stored, plain_view}
use Rattle.cs_plain.proofs.Opening.{Taken, context_taken, process_is, taken-dirtied}
use Rattle.cs_plain.proofs.PlainWorld.take_context.Goals as goal

pub set_slot-requires : goal.set_slot-requires
set_slot-requires c =
    let kept = subst (λ o. NamesOption (plain_stored c.args.self.now) o (context_kept (plain_view c.args.self.now) (name_of (plain_stored c.args.self.now) c.args.process))) c.in-Some.is c.slot.ensures in
    omega (arith, (process_is c.args.self.now c.args.process c.in-Some.context c.requires.sound c.requires.named kept).1.within)

pub returns-in-Some-clause-view : goal.returns-in-Some-clause-view
returns-in-Some-clause-view c =
    let w = c.args.self.now in
    let kept = subst (λ o. NamesOption (plain_stored w) o (context_kept (plain_view w) (name_of (plain_stored w) c.args.process))) c.in-Some.is c.slot.ensures in
    let taken = context_taken c.args.process c.in-Some.context c.args.nil c.requires.sound c.requires.closed c.requires.named c.requires.nil kept c.requires.running in
    (subst (λ (h : Memory). Taken w (record w { heap = h; active = Some c.in-Some.context }) (name_of (plain_stored w) c.args.process)) (sym c.set_slot.ensures) (taken-dirtied _ taken)).view

pub returns-in-Some-clause-sound : goal.returns-in-Some-clause-sound
returns-in-Some-clause-sound c =
    let w = c.args.self.now in
    let kept = subst (λ o. NamesOption (plain_stored w) o (context_kept (plain_view w) (name_of (plain_stored w) c.args.process))) c.in-Some.is c.slot.ensures in
    let taken = context_taken c.args.process c.in-Some.context c.args.nil c.requires.sound c.requires.closed c.requires.named c.requires.nil kept c.requires.running in
    (subst (λ (h : Memory). Taken w (record w { heap = h; active = Some c.in-Some.context }) (name_of (plain_stored w) c.args.process)) (sym c.set_slot.ensures) (taken-dirtied _ taken)).sound
