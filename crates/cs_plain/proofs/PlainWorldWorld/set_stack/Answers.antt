use Rattle.std.proofs.Common.{arith}
use Rattle.cs_acts.specs.Names.{name_of}
use Rattle.cs_model.specs.Operation.{set_stack_of}
use Rattle.cs_plain.specs.View.{plain_stored}
use Rattle.cs_plain.proofs.Active.{active_is}
use Rattle.cs_plain.proofs.Slots.{depth_within, few_slots, slots_are}
use Rattle.cs_plain.proofs.Writing.{along, writes-set_stack}
use Rattle.cs_plain.proofs.PlainWorldWorld.set_stack.Goals as goal

pub overflow_add-i : goal.overflow_add-i
overflow_add-i c =
    let a = active_is _ _ c.requires.ready c.active_context-context.ensures in
    omega (arith, c.requires.there, depth_within c.requires.ready a.1, few_slots c.requires.ready a.1)

pub set_slot-requires : goal.set_slot-requires
set_slot-requires c =
    let a = active_is _ _ c.requires.ready c.active_context-context.ensures in
    omega (arith, c.requires.there, depth_within c.requires.ready a.1, slots_are c.requires.ready a.1)

pub returns-clause-state : goal.returns-clause-state
returns-clause-state c m k = (along c.args.self.now _ _ (λ m. set_stack_of m c.args.i (name_of (plain_stored c.args.self.now) c.args.v)) c.set_slot.ensures (writes-set_stack c.requires.ready (active_is _ _ c.requires.ready c.active_context-context.ensures).1 c.args.i c.args.v c.requires.named)).state m k

pub returns-clause-exact : goal.returns-clause-exact
returns-clause-exact c none = (along c.args.self.now _ _ (λ m. set_stack_of m c.args.i (name_of (plain_stored c.args.self.now) c.args.v)) c.set_slot.ensures (writes-set_stack c.requires.ready (active_is _ _ c.requires.ready c.active_context-context.ensures).1 c.args.i c.args.v c.requires.named)).exact

pub returns-clause-ready : goal.returns-clause-ready
returns-clause-ready c = (along c.args.self.now _ _ (λ m. set_stack_of m c.args.i (name_of (plain_stored c.args.self.now) c.args.v)) c.set_slot.ensures (writes-set_stack c.requires.ready (active_is _ _ c.requires.ready c.active_context-context.ensures).1 c.args.i c.args.v c.requires.named)).ready

pub returns-clause-names : goal.returns-clause-names
returns-clause-names c = (along c.args.self.now _ _ (λ m. set_stack_of m c.args.i (name_of (plain_stored c.args.self.now) c.args.v)) c.set_slot.ensures (writes-set_stack c.requires.ready (active_is _ _ c.requires.ready c.active_context-context.ensures).1 c.args.i c.args.v c.requires.named)).names
