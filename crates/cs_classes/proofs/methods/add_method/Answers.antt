use Rattle.std.proofs.Common.{◌≡◌, ℕ, ◌+◌, ◌-◌, ◌*◌, ◌/◌, ◌%◌, ap, arith, sym, ◌∙◌}
use Rattle.cs_heap.specs.Object.{Memory}
use Rattle.cs_heap.specs.Writes.{slot_stored}
use Rattle.cs_model.specs.Obj.{literal_count}
use Rattle.cs_classes.specs.Methods.{method_slots, nil_literals}
use Rattle.cs_classes.proofs.Coding.{method-chain, new_count, stored_count}
use Rattle.cs_classes.proofs.methods.add_method.Goals as goal

pub set_slot-requires : goal.set_slot-requires
set_slot-requires c = omega (arith, new_count c.args.heap.now c.allocate.new.self c.in-Ok.method.0 c.args.class _ _ c.args.birth c.in-Ok.ensures.added c.in-Ok.ensures.address)

pub set_literals_nil-requires-clause-slots : goal.set_literals_nil-requires-clause-slots
set_literals_nil-requires-clause-slots c =
    omega (arith, new_count c.args.heap.now c.allocate.new.self c.in-Ok.method.0 c.args.class _ _ c.args.birth c.in-Ok.ensures.added c.in-Ok.ensures.address, stored_count c.allocate.new.self c.set_slot.new.self c.in-Ok.method.0 0 _ c.set_slot.ensures)

pub returns-in-Ok-clause-added : goal.returns-in-Ok-clause-added
returns-in-Ok-clause-added c =
    method-chain c.args.heap.now c.allocate.new.self c.set_slot.new.self c.set_literals_nil.new.heap c.in-Ok.method.0 c.args.class _ c.args.header.0 c.args.count _ c.args.birth
    c.in-Ok.ensures.address (omega (arith, c.literals.ensures, c.div_ceil.ensures)) (omega arith) c.in-Ok.ensures.added c.in-Ok.ensures.unwatched
    (c.set_slot.ensures ∙ ap (slot_stored c.allocate.new.self c.in-Ok.method.0 0) c.from_natural.ensures)
    (c.set_literals_nil.ensures ∙ ap (λ (n : ℕ). record c.set_slot.new.self { objects = nil_literals c.set_slot.new.self.objects c.in-Ok.method.0 n }) c.literals-in-Ok.ensures.value)
