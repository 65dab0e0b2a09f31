use Rattle.std.proofs.Common.{arith, ap, ◌∙◌}
use Rattle.cs_heap.specs.Writes.{slot_stored}
use Rattle.cs_model.specs.Operation.{set_pc_of}
use Rattle.cs_plain.proofs.Active.{active_is}
use Rattle.cs_plain.proofs.Slots.{fields_within, pc_within, slots_are}
use Rattle.cs_plain.proofs.Writing.{along, writes-set_pc}
use Rattle.cs_plain.proofs.PlainWorldWorld.set_pc.Goals as goal

pub from_natural-requires : goal.from_natural-requires
from_natural-requires c =
    let a = active_is _ _ c.requires.ready c.active_context-context.ensures in
    omega (arith, pc_within c.requires.ready a.1 c.args.pc c.requires.lies)

pub set_slot-requires : goal.set_slot-requires
set_slot-requires c =
    let a = active_is _ _ c.requires.ready c.active_context-context.ensures in
    omega (arith, slots_are c.requires.ready a.1, fields_within c.requires.ready a.1)

pub returns-clause-state : goal.returns-clause-state
returns-clause-state c m k = (along c.args.self.now _ _ (λ m. set_pc_of m c.args.pc) (c.set_slot.ensures ∙ ap (λ v. slot_stored c.args.self.now.heap c.active_context-context.result.0 1 v) c.from_natural.ensures) (writes-set_pc c.requires.ready (active_is _ _ c.requires.ready c.active_context-context.ensures).1 c.args.pc (omega (arith, pc_within c.requires.ready (active_is _ _ c.requires.ready c.active_context-context.ensures).1 c.args.pc c.requires.lies)) c.requires.lies)).state m k

pub returns-clause-exact : goal.returns-clause-exact
returns-clause-exact c none = (along c.args.self.now _ _ (λ m. set_pc_of m c.args.pc) (c.set_slot.ensures ∙ ap (λ v. slot_stored c.args.self.now.heap c.active_context-context.result.0 1 v) c.from_natural.ensures) (writes-set_pc c.requires.ready (active_is _ _ c.requires.ready c.active_context-context.ensures).1 c.args.pc (omega (arith, pc_within c.requires.ready (active_is _ _ c.requires.ready c.active_context-context.ensures).1 c.args.pc c.requires.lies)) c.requires.lies)).exact

pub returns-clause-ready : goal.returns-clause-ready
returns-clause-ready c = (along c.args.self.now _ _ (λ m. set_pc_of m c.args.pc) (c.set_slot.ensures ∙ ap (λ v. slot_stored c.args.self.now.heap c.active_context-context.result.0 1 v) c.from_natural.ensures) (writes-set_pc c.requires.ready (active_is _ _ c.requires.ready c.active_context-context.ensures).1 c.args.pc (omega (arith, pc_within c.requires.ready (active_is _ _ c.requires.ready c.active_context-context.ensures).1 c.args.pc c.requires.lies)) c.requires.lies)).ready

pub returns-clause-names : goal.returns-clause-names
returns-clause-names c = (along c.args.self.now _ _ (λ m. set_pc_of m c.args.pc) (c.set_slot.ensures ∙ ap (λ v. slot_stored c.args.self.now.heap c.active_context-context.result.0 1 v) c.from_natural.ensures) (writes-set_pc c.requires.ready (active_is _ _ c.requires.ready c.active_context-context.ensures).1 c.args.pc (omega (arith, pc_within c.requires.ready (active_is _ _ c.requires.ready c.active_context-context.ensures).1 c.args.pc c.requires.lies)) c.requires.lies)).names
