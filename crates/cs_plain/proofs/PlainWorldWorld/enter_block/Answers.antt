use Rattle.std.proofs.Common.{refl, arith, sym, subst, ◌∙◌, ◌-◌, None}
use Rattle.std.specs.Result.{IfErr}
use Rattle.std.proofs.lemmas.Result.{on_ok_weaker}
use Rattle.cs_heap.specs.Object.{slot_of}
use Rattle.cs_model.specs.Keeps.{Keeps}
use Rattle.cs_model.specs.Enter.{enter_block_of}
use Rattle.cs_model.proofs.Entering.{enter_block_moved}
use Rattle.cs_acts.specs.Full.{CausesFull}
use Rattle.cs_acts.specs.Names.{name_of}
use Rattle.cs_plain.specs.View.{plain_stored, plain_view}
use Rattle.cs_plain.proofs.Block.{called_is, can_call, closure_there, method_is, method_names, outer_slots, three_slots}
use Rattle.cs_plain.proofs.Entering.{header_there}
use Rattle.cs_plain.proofs.Writing.{held_by, same_kept}
use Rattle.cs_plain.proofs.PlainWorldWorld.enter_block.Goals as goal

pub slot-outer-requires : goal.slot-outer-requires
slot-outer-requires c = omega (arith, three_slots c.args.self.now c.args.closure c.args.args c.requires.ready c.requires.named c.requires.fits)

pub slot-method-requires : goal.slot-method-requires
slot-method-requires c = omega (arith, outer_slots c.args.self.now c.args.closure c.args.args c.requires.ready c.requires.named c.requires.fits c.slot-outer.result c.slot-outer.ensures)

pub method_header-header-requires : goal.method_header-header-requires
method_header-header-requires c =
    header_there c.args.self.now c.slot-method.result c.requires.ready.sound (method_names c.args.self.now c.args.closure c.args.args c.requires.ready c.requires.named c.requires.fits c.slot-outer.result c.slot-outer.ensures c.slot-method.result c.slot-method.ensures).sound
    (method_is c.args.self.now c.args.closure c.args.args c.requires.ready c.requires.named c.requires.fits c.slot-outer.result c.slot-outer.ensures c.slot-method.result c.slot-method.ensures)

pub slot_count-copied-requires : goal.slot_count-copied-requires
slot_count-copied-requires c = closure_there c.args.self.now c.args.closure c.args.args c.requires.ready c.requires.named c.requires.fits

pub overflow_sub-copied : goal.overflow_sub-copied
overflow_sub-copied c = omega (arith, c.slot_count-copied.ensures.value, three_slots c.args.self.now c.args.closure c.args.args c.requires.ready c.requires.named c.requires.fits)

pub slot-requires : goal.slot-requires
slot-requires c = omega (arith, three_slots c.args.self.now c.args.closure c.args.args c.requires.ready c.requires.named c.requires.fits)

pub slot-requires-2 : goal.slot-requires-2
slot-requires-2 c = omega (arith, outer_slots c.args.self.now c.args.closure c.args.args c.requires.ready c.requires.named c.requires.fits c.slot-outer.result c.slot-outer.ensures)

pub new_context-requires-clause-fits : goal.new_context-requires-clause-fits
new_context-requires-clause-fits c =
    can_call c.args.self.now c.args.closure c.args.args c.requires.ready c.requires.named c.requires.fits c.slot-outer.result c.slot-outer.ensures
    c.slot-method.result c.active_context.result c.slot.result c.from_natural.result c.slot-2.result (c.slot_count-copied.result - 3) (slot_of c.args.self.now.heap.objects c.slot-method.result.0 0) c.method_header-header.result.0 c.slot-method.ensures refl c.method_header-header.ensures
    (omega (arith, c.slot_count-copied.ensures.value, three_slots c.args.self.now c.args.closure c.args.args c.requires.ready c.requires.named c.requires.fits)) c.active_context.ensures c.slot.ensures c.from_natural.ensures c.slot-2.ensures

pub returns-clause-state : goal.returns-clause-state
returns-clause-state c =
    let is = called_is c.args.self.now c.args.closure c.args.args c.requires.ready c.requires.named c.requires.fits c.slot-outer.result c.slot-outer.ensures
    c.slot-method.result c.active_context.result c.slot.result c.from_natural.result c.slot-2.result (c.slot_count-copied.result - 3) (slot_of c.args.self.now.heap.objects c.slot-method.result.0 0) c.method_header-header.result.0 c.slot-method.ensures refl c.method_header-header.ensures
    (omega (arith, c.slot_count-copied.ensures.value, three_slots c.args.self.now c.args.closure c.args.args c.requires.ready c.requires.named c.requires.fits)) c.active_context.ensures c.slot.ensures c.from_natural.ensures c.slot-2.ensures in
    on_ok_weaker c.new_context.result (λ view m k. subst (λ t. Keeps t (enter_block_of m (name_of (plain_stored c.args.self.now) c.args.closure) c.args.args)) (sym (view ∙ is))
    (enter_block_moved k (held_by c.args.self.now c.args.closure c.requires.ready c.requires.named) c.args.args).keeps) c.new_context.ensures.view

pub returns-clause-exact : goal.returns-clause-exact
returns-clause-exact c =
    let is = called_is c.args.self.now c.args.closure c.args.args c.requires.ready c.requires.named c.requires.fits c.slot-outer.result c.slot-outer.ensures
    c.slot-method.result c.active_context.result c.slot.result c.from_natural.result c.slot-2.result (c.slot_count-copied.result - 3) (slot_of c.args.self.now.heap.objects c.slot-method.result.0 0) c.method_header-header.result.0 c.slot-method.ensures refl c.method_header-header.ensures
    (omega (arith, c.slot_count-copied.ensures.value, three_slots c.args.self.now c.args.closure c.args.args c.requires.ready c.requires.named c.requires.fits)) c.active_context.ensures c.slot.ensures c.from_natural.ensures c.slot-2.ensures in
    on_ok_weaker c.new_context.result (λ view none. same_kept _ _ (view ∙ is)) c.new_context.ensures.view

pub returns-clause-full : goal.returns-clause-full
returns-clause-full c =
    let is = called_is c.args.self.now c.args.closure c.args.args c.requires.ready c.requires.named c.requires.fits c.slot-outer.result c.slot-outer.ensures
    c.slot-method.result c.active_context.result c.slot.result c.from_natural.result c.slot-2.result (c.slot_count-copied.result - 3) (slot_of c.args.self.now.heap.objects c.slot-method.result.0 0) c.method_header-header.result.0 c.slot-method.ensures refl c.method_header-header.ensures
    (omega (arith, c.slot_count-copied.ensures.value, three_slots c.args.self.now c.args.closure c.args.args c.requires.ready c.requires.named c.requires.fits)) c.active_context.ensures c.slot.ensures c.from_natural.ensures c.slot-2.ensures in
    subst (λ t. IfErr c.new_context.result (CausesFull (plain_stored c.new_context.new.self) None (plain_view c.args.self.now) 0 t)) is c.new_context.ensures.full
