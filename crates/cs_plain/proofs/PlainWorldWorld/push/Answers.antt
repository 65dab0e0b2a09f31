use Rattle.std.proofs.Common.{arith, subst, ap, sym, ◌∙◌, ◌<◌, ◌+◌}
use Rattle.cs_acts.specs.Names.{name_of}
use Rattle.cs_heap.specs.Object.{slot_count_of}
use Rattle.cs_heap.proofs.Laws.{slot_count_of-with_slot}
use Rattle.cs_model.specs.Operation.{push_of}
use Rattle.cs_plain.specs.View.{plain_stored}
use Rattle.cs_plain.proofs.Active.{active_is}
use Rattle.cs_plain.proofs.Slots.{depth_within, few_slots, fields_within, size_is_read, slots_are}
use Rattle.cs_plain.proofs.Writing.{along, twice, writes-push}
use Rattle.cs_plain.proofs.PlainWorldWorld.push.Goals as goal

pub overflow_add-depth : goal.overflow_add-depth
overflow_add-depth c =
    let a = active_is _ _ c.requires.ready c.active_context-context.ensures in
    omega (arith, c.depth-depth.ensures.value, depth_within c.requires.ready a.1, few_slots c.requires.ready a.1)

pub set_slot-requires : goal.set_slot-requires
set_slot-requires c =
    let a = active_is _ _ c.requires.ready c.active_context-context.ensures in
    omega (arith, c.requires.fits, size_is_read c.requires.ready a.1, slots_are c.requires.ready a.1, fields_within c.requires.ready a.1, c.depth-depth.ensures.value, depth_within c.requires.ready a.1, few_slots c.requires.ready a.1)

pub overflow_add-depth-2 : goal.overflow_add-depth-2
overflow_add-depth-2 c =
    let a = active_is _ _ c.requires.ready c.active_context-context.ensures in
    omega (arith, c.depth-depth.ensures.value, depth_within c.requires.ready a.1, few_slots c.requires.ready a.1)

pub from_natural-requires : goal.from_natural-requires
from_natural-requires c =
    let a = active_is _ _ c.requires.ready c.active_context-context.ensures in
    omega (arith, c.depth-depth.ensures.value, depth_within c.requires.ready a.1, few_slots c.requires.ready a.1)

pub set_slot-requires-2 : goal.set_slot-requires-2
set_slot-requires-2 c =
    let a = active_is _ _ c.requires.ready c.active_context-context.ensures in
    let same = ap (λ h. slot_count_of h.objects c.active_context-context.result.0) c.set_slot.ensures in
    let count = slot_count_of-with_slot c.args.self.now.heap.objects c.active_context-context.result.0 (6 + c.depth-depth.result) c.args.v.0 c.active_context-context.result.0 in
    subst (λ n. 2 < n) (sym (same ∙ count ∙ slots_are c.requires.ready a.1)) (omega (arith, fields_within c.requires.ready a.1))

pub returns-clause-state : goal.returns-clause-state
returns-clause-state c m k = (along c.args.self.now _ _ (λ m. push_of m (name_of (plain_stored c.args.self.now) c.args.v)) (twice c.args.self.now.heap c.set_slot.new.self c.set_slot-2.new.self _ _ _ _ _ _ c.set_slot.ensures c.set_slot-2.ensures c.from_natural.ensures) (writes-push c.requires.ready (active_is _ _ c.requires.ready c.active_context-context.ensures).1 c.args.v c.depth-depth.result c.depth-depth.ensures.value c.requires.fits c.requires.named)).state m k

pub returns-clause-exact : goal.returns-clause-exact
returns-clause-exact c none = (along c.args.self.now _ _ (λ m. push_of m (name_of (plain_stored c.args.self.now) c.args.v)) (twice c.args.self.now.heap c.set_slot.new.self c.set_slot-2.new.self _ _ _ _ _ _ c.set_slot.ensures c.set_slot-2.ensures c.from_natural.ensures) (writes-push c.requires.ready (active_is _ _ c.requires.ready c.active_context-context.ensures).1 c.args.v c.depth-depth.result c.depth-depth.ensures.value c.requires.fits c.requires.named)).exact

pub returns-clause-ready : goal.returns-clause-ready
returns-clause-ready c = (along c.args.self.now _ _ (λ m. push_of m (name_of (plain_stored c.args.self.now) c.args.v)) (twice c.args.self.now.heap c.set_slot.new.self c.set_slot-2.new.self _ _ _ _ _ _ c.set_slot.ensures c.set_slot-2.ensures c.from_natural.ensures) (writes-push c.requires.ready (active_is _ _ c.requires.ready c.active_context-context.ensures).1 c.args.v c.depth-depth.result c.depth-depth.ensures.value c.requires.fits c.requires.named)).ready

pub returns-clause-names : goal.returns-clause-names
returns-clause-names c = (along c.args.self.now _ _ (λ m. push_of m (name_of (plain_stored c.args.self.now) c.args.v)) (twice c.args.self.now.heap c.set_slot.new.self c.set_slot-2.new.self _ _ _ _ _ _ c.set_slot.ensures c.set_slot-2.ensures c.from_natural.ensures) (writes-push c.requires.ready (active_is _ _ c.requires.ready c.active_context-context.ensures).1 c.args.v c.depth-depth.result c.depth-depth.ensures.value c.requires.fits c.requires.named)).names
