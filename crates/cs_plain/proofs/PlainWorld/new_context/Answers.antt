use Rattle.std.proofs.Common.{◌+◌, ◌-◌, ap, arith, refl, ◌∙◌}
use Rattle.cs_heap.specs.Object.{Memory, is_watched}
use Rattle.std.proofs.lemmas.Bool.{false≢true}
use Rattle.cs_plain.proofs.Called.{args_below, closure_still, copied_slots, depth_few, enters, full, new_fields, new_slots, sender_slots, sender_still, stack_few, stack_holds, written-heap}
use Rattle.cs_plain.proofs.Copying.{count-in}
use Rattle.cs_plain.proofs.PlainWorld.new_context.Goals as goal

pub returns-in_default-clause-full : goal.returns-in_default-clause-full
returns-in_default-clause-full c = full c.args.self.now c.args.header.0 c.args.args c.args.copied c.depth.result c.args.fields c.requires.ready c.requires.sender c.requires.fits c.depth.ensures.value c.context_slots-slots.result c.context_slots-slots.ensures (c.in_default.ensures.full.0 refl) c.allocate.new.self c.in_default.ensures.unchanged_if_full

pub write_fields-requires-clause-slots : goal.write_fields-requires-clause-slots
write_fields-requires-clause-slots c = omega (arith, new_slots c.args.self.now c.args.header.0 c.args.args c.args.copied c.depth.result c.args.fields c.requires.ready c.requires.sender c.requires.fits c.depth.ensures.value c.context_slots-slots.result c.context_slots-slots.ensures c.allocate.new.self c.allocate.new.self c.in-Ok.context c.in-Ok.ensures.added c.in-Ok.ensures.address)

pub write_fields-requires-clause-unwatched : goal.write_fields-requires-clause-unwatched
write_fields-requires-clause-unwatched c = c.in-Ok.ensures.unwatched

pub copy_slots-requires-clause-unwatched : goal.copy_slots-requires-clause-unwatched
copy_slots-requires-clause-unwatched c = ap (λ (m : Memory). is_watched m c.in-Ok.context.0) c.write_fields.ensures ∙ c.in-Ok.ensures.unwatched

pub copy_slots-requires-2-clause-unwatched : goal.copy_slots-requires-2-clause-unwatched
copy_slots-requires-2-clause-unwatched c =
    ap (λ (m : Memory). is_watched m c.in-Ok.context.0) c.copy_slots.ensures ∙ (ap (λ (m : Memory). is_watched m c.in-Ok.context.0) c.write_fields.ensures ∙ c.in-Ok.ensures.unwatched)

pub overflow_add-left-2 : goal.overflow_add-left-2
overflow_add-left-2 c = omega (arith, depth_few c.args.self.now c.args.header.0 c.args.args c.args.copied c.depth.result c.args.fields c.requires.ready c.requires.sender c.requires.fits c.depth.ensures.value)

pub overflow_add-left-3 : goal.overflow_add-left-3
overflow_add-left-3 c = omega (arith, depth_few c.args.self.now c.args.header.0 c.args.args c.args.copied c.depth.result c.args.fields c.requires.ready c.requires.sender c.requires.fits c.depth.ensures.value)

pub copy_slots-requires-clause-from : goal.copy_slots-requires-clause-from
copy_slots-requires-clause-from c some =
    omega (arith, args_below c.args.self.now c.args.header.0 c.args.args c.args.copied c.depth.result c.args.fields c.requires.ready c.requires.sender c.requires.fits c.depth.ensures.value, sender_slots c.args.self.now c.args.header.0 c.args.args c.args.copied c.depth.result c.args.fields c.requires.ready c.requires.sender c.requires.fits c.depth.ensures.value, sender_still c.args.self.now c.args.header.0 c.args.args c.args.copied c.depth.result c.args.fields c.requires.ready c.requires.sender c.requires.fits c.depth.ensures.value c.context_slots-slots.result c.context_slots-slots.ensures c.allocate.new.self c.write_fields.new.heap c.in-Ok.context c.in-Ok.ensures.added c.in-Ok.ensures.address c.write_fields.ensures)

pub copy_slots-requires-clause-to : goal.copy_slots-requires-clause-to
copy_slots-requires-clause-to c = omega (arith, stack_holds c.args.self.now c.args.header.0 c.args.args c.args.copied c.depth.result c.args.fields c.requires.ready c.requires.sender c.requires.fits c.depth.ensures.value, new_fields c.args.self.now c.args.header.0 c.args.args c.args.copied c.depth.result c.args.fields c.requires.ready c.requires.sender c.requires.fits c.depth.ensures.value c.context_slots-slots.result c.context_slots-slots.ensures c.allocate.new.self c.write_fields.new.heap c.in-Ok.context c.in-Ok.ensures.added c.in-Ok.ensures.address c.write_fields.ensures)

pub copy_slots-requires-clause-few : goal.copy_slots-requires-clause-few
copy_slots-requires-clause-few c = omega (arith, depth_few c.args.self.now c.args.header.0 c.args.args c.args.copied c.depth.result c.args.fields c.requires.ready c.requires.sender c.requires.fits c.depth.ensures.value, args_below c.args.self.now c.args.header.0 c.args.args c.args.copied c.depth.result c.args.fields c.requires.ready c.requires.sender c.requires.fits c.depth.ensures.value)

pub copy_slots-requires-2-clause-from : goal.copy_slots-requires-2-clause-from
copy_slots-requires-2-clause-from c some =
    omega (
      arith,
      copied_slots c.args.self.now c.args.header.0 c.args.args c.args.copied c.depth.result c.args.fields c.requires.ready c.requires.sender c.requires.fits c.depth.ensures.value some,
      closure_still c.args.self.now c.args.header.0 c.args.args c.args.copied c.depth.result c.args.fields c.requires.ready c.requires.sender c.requires.fits c.depth.ensures.value c.context_slots-slots.result c.context_slots-slots.ensures c.allocate.new.self c.write_fields.new.heap c.in-Ok.context c.in-Ok.ensures.added c.in-Ok.ensures.address c.write_fields.ensures,
      count-in c.copy_slots.new.heap c.write_fields.new.heap c.args.fields.sender.0 (6 + (c.depth.result - (c.args.args + 1)) + 1) c.in-Ok.context.0 6 c.args.args c.args.fields.closure.0 c.copy_slots.ensures,
    )

pub copy_slots-requires-2-clause-to : goal.copy_slots-requires-2-clause-to
copy_slots-requires-2-clause-to c =
    omega (
      arith,
      stack_holds c.args.self.now c.args.header.0 c.args.args c.args.copied c.depth.result c.args.fields c.requires.ready c.requires.sender c.requires.fits c.depth.ensures.value,
      new_fields c.args.self.now c.args.header.0 c.args.args c.args.copied c.depth.result c.args.fields c.requires.ready c.requires.sender c.requires.fits c.depth.ensures.value c.context_slots-slots.result c.context_slots-slots.ensures c.allocate.new.self c.write_fields.new.heap c.in-Ok.context c.in-Ok.ensures.added c.in-Ok.ensures.address c.write_fields.ensures,
      count-in c.copy_slots.new.heap c.write_fields.new.heap c.args.fields.sender.0 (6 + (c.depth.result - (c.args.args + 1)) + 1) c.in-Ok.context.0 6 c.args.args c.in-Ok.context.0 c.copy_slots.ensures,
    )

pub copy_slots-requires-2-clause-few : goal.copy_slots-requires-2-clause-few
copy_slots-requires-2-clause-few c = omega (arith, stack_few c.args.self.now c.args.header.0 c.args.args c.args.copied c.depth.result c.args.fields c.requires.ready c.requires.sender c.requires.fits c.depth.ensures.value)

pub copy_slots-requires-2-clause-small : goal.copy_slots-requires-2-clause-small
copy_slots-requires-2-clause-small c = omega (arith, stack_few c.args.self.now c.args.header.0 c.args.args c.args.copied c.depth.result c.args.fields c.requires.ready c.requires.sender c.requires.fits c.depth.ensures.value)

pub overflow_add-args : goal.overflow_add-args
overflow_add-args c = omega (arith, stack_few c.args.self.now c.args.header.0 c.args.args c.args.copied c.depth.result c.args.fields c.requires.ready c.requires.sender c.requires.fits c.depth.ensures.value)

pub from_natural-requires : goal.from_natural-requires
from_natural-requires c = omega (arith, depth_few c.args.self.now c.args.header.0 c.args.args c.args.copied c.depth.result c.args.fields c.requires.ready c.requires.sender c.requires.fits c.depth.ensures.value)

pub set_slot-requires : goal.set_slot-requires
set_slot-requires c =
    omega (
      arith,
      sender_slots c.args.self.now c.args.header.0 c.args.args c.args.copied c.depth.result c.args.fields c.requires.ready c.requires.sender c.requires.fits c.depth.ensures.value,
      sender_still c.args.self.now c.args.header.0 c.args.args c.args.copied c.depth.result c.args.fields c.requires.ready c.requires.sender c.requires.fits c.depth.ensures.value c.context_slots-slots.result c.context_slots-slots.ensures c.allocate.new.self c.write_fields.new.heap c.in-Ok.context c.in-Ok.ensures.added c.in-Ok.ensures.address c.write_fields.ensures,
      count-in c.copy_slots.new.heap c.write_fields.new.heap c.args.fields.sender.0 (6 + (c.depth.result - (c.args.args + 1)) + 1) c.in-Ok.context.0 6 c.args.args c.args.fields.sender.0 c.copy_slots.ensures,
      count-in c.copy_slots-2.new.heap c.copy_slots.new.heap c.args.fields.closure.0 3 c.in-Ok.context.0 (6 + c.args.args) c.args.copied c.args.fields.sender.0 c.copy_slots-2.ensures,
    )

pub returns-clause-view : goal.returns-clause-view
returns-clause-view c =
    let heap = written-heap c.args.self.now.heap c.allocate.new.self c.write_fields.new.heap c.copy_slots.new.heap c.copy_slots-2.new.heap c.set_slot.new.self c.context_slots-slots.result c.args.self.now.roots.next_birth c.args.fields c.in-Ok.context.0
    (c.depth.result - (c.args.args + 1)) c.args.args c.args.copied c.from_natural.result.0
    c.in-Ok.ensures.added c.write_fields.ensures c.copy_slots.ensures c.copy_slots-2.ensures c.set_slot.ensures c.from_natural.ensures in
    (enters c.args.self.now c.args.header.0 c.args.args c.args.copied c.depth.result c.args.fields c.requires.ready c.requires.sender c.requires.fits c.depth.ensures.value
    c.context_slots-slots.result c.context_slots-slots.ensures c.set_slot.new.self c.in-Ok.context c.in-Ok.ensures.address (λ over. absurd (false≢true (c.in-Ok.ensures.full.1 over))) heap).view

pub returns-clause-ready : goal.returns-clause-ready
returns-clause-ready c =
    let heap = written-heap c.args.self.now.heap c.allocate.new.self c.write_fields.new.heap c.copy_slots.new.heap c.copy_slots-2.new.heap c.set_slot.new.self c.context_slots-slots.result c.args.self.now.roots.next_birth c.args.fields c.in-Ok.context.0
    (c.depth.result - (c.args.args + 1)) c.args.args c.args.copied c.from_natural.result.0
    c.in-Ok.ensures.added c.write_fields.ensures c.copy_slots.ensures c.copy_slots-2.ensures c.set_slot.ensures c.from_natural.ensures in
    (enters c.args.self.now c.args.header.0 c.args.args c.args.copied c.depth.result c.args.fields c.requires.ready c.requires.sender c.requires.fits c.depth.ensures.value
    c.context_slots-slots.result c.context_slots-slots.ensures c.set_slot.new.self c.in-Ok.context c.in-Ok.ensures.address (λ over. absurd (false≢true (c.in-Ok.ensures.full.1 over))) heap).ready

pub returns-clause-names : goal.returns-clause-names
returns-clause-names c =
    let heap = written-heap c.args.self.now.heap c.allocate.new.self c.write_fields.new.heap c.copy_slots.new.heap c.copy_slots-2.new.heap c.set_slot.new.self c.context_slots-slots.result c.args.self.now.roots.next_birth c.args.fields c.in-Ok.context.0
    (c.depth.result - (c.args.args + 1)) c.args.args c.args.copied c.from_natural.result.0
    c.in-Ok.ensures.added c.write_fields.ensures c.copy_slots.ensures c.copy_slots-2.ensures c.set_slot.ensures c.from_natural.ensures in
    (enters c.args.self.now c.args.header.0 c.args.args c.args.copied c.depth.result c.args.fields c.requires.ready c.requires.sender c.requires.fits c.depth.ensures.value
    c.context_slots-slots.result c.context_slots-slots.ensures c.set_slot.new.self c.in-Ok.context c.in-Ok.ensures.address (λ over. absurd (false≢true (c.in-Ok.ensures.full.1 over))) heap).names
