use Rattle.std.proofs.Common.{arith, ap, ◌∙◌, ◌-◌}
use Rattle.cs_heap.specs.Writes.{slot_stored}
use Rattle.cs_model.specs.Operation.{drop_of, nil_of}
use Rattle.std.specs.Prelude.{slice_get, unwrap_or}
use Rattle.cs_model.specs.Read.{stack_of}
use Rattle.cs_plain.specs.View.{plain_view}
use Rattle.cs_plain.proofs.Active.{active_is}
use Rattle.cs_plain.proofs.Slots.{depth_within, few_slots, fields_within, slots_are}
use Rattle.cs_plain.proofs.Writing.{along, writes-pop}
use Rattle.cs_plain.proofs.PlainWorldWorld.pop.Goals as goal

pub from_natural-requires : goal.from_natural-requires
from_natural-requires c =
    let a = active_is _ _ c.requires.ready c.active_context-context.ensures in
    omega (arith, c.depth-depth.ensures.value, depth_within c.requires.ready a.1, few_slots c.requires.ready a.1)

pub set_slot-requires : goal.set_slot-requires
set_slot-requires c =
    let a = active_is _ _ c.requires.ready c.active_context-context.ensures in
    omega (arith, slots_are c.requires.ready a.1, fields_within c.requires.ready a.1)

pub returns-clause-state : goal.returns-clause-state
returns-clause-state c m k = (along c.args.self.now _ _ (λ m. drop_of m 1) (c.set_slot.ensures ∙ ap (λ v. slot_stored c.args.self.now.heap c.active_context-context.result.0 2 v) c.from_natural.ensures) (writes-pop c.requires.ready (active_is _ _ c.requires.ready c.active_context-context.ensures).1 c.depth-depth.result c.depth-depth.ensures.value)).state m k

pub returns-clause-exact : goal.returns-clause-exact
returns-clause-exact c none = (along c.args.self.now _ _ (λ m. drop_of m 1) (c.set_slot.ensures ∙ ap (λ v. slot_stored c.args.self.now.heap c.active_context-context.result.0 2 v) c.from_natural.ensures) (writes-pop c.requires.ready (active_is _ _ c.requires.ready c.active_context-context.ensures).1 c.depth-depth.result c.depth-depth.ensures.value)).exact

pub returns-clause-ready : goal.returns-clause-ready
returns-clause-ready c = (along c.args.self.now _ _ (λ m. drop_of m 1) (c.set_slot.ensures ∙ ap (λ v. slot_stored c.args.self.now.heap c.active_context-context.result.0 2 v) c.from_natural.ensures) (writes-pop c.requires.ready (active_is _ _ c.requires.ready c.active_context-context.ensures).1 c.depth-depth.result c.depth-depth.ensures.value)).ready

pub returns-clause-names : goal.returns-clause-names
returns-clause-names c = (along c.args.self.now _ _ (λ m. drop_of m 1) (c.set_slot.ensures ∙ ap (λ v. slot_stored c.args.self.now.heap c.active_context-context.result.0 2 v) c.from_natural.ensures) (writes-pop c.requires.ready (active_is _ _ c.requires.ready c.active_context-context.ensures).1 c.depth-depth.result c.depth-depth.ensures.value)).names

pub returns-clause-value : goal.returns-clause-value
returns-clause-value c =
    let named = returns-clause-names c c.stack_at-value.result c.stack_at-value.ensures.sound in
    record {
      sound = named.sound;
      is = named.is ∙ c.stack_at-value.ensures.is ∙ ap (λ d. unwrap_or (slice_get (stack_of (plain_view c.args.self.now)) (d - 1)) (nil_of (plain_view c.args.self.now))) c.depth-depth.ensures.value;
    }
