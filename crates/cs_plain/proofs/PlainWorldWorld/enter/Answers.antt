use Rattle.std.proofs.Common.{refl, sym, subst, ◌∙◌, None}
use Rattle.std.specs.Result.{IfErr}
use Rattle.std.proofs.lemmas.Result.{on_ok_weaker}
use Rattle.cs_heap.specs.Object.{slot_of}
use Rattle.cs_model.specs.Keeps.{Keeps}
use Rattle.cs_model.specs.Operation.{enter_of}
use Rattle.cs_model.proofs.Operating.{enter_moved}
use Rattle.cs_acts.specs.Full.{CausesFull}
use Rattle.cs_acts.specs.Names.{name_of}
use Rattle.cs_plain.specs.View.{plain_stored, plain_view}
use Rattle.cs_plain.proofs.Entering.{called_is, can_call, header_there}
use Rattle.cs_plain.proofs.Writing.{held_by, same_kept}
use Rattle.cs_plain.proofs.PlainWorldWorld.enter.Goals as goal

pub method_header-header-requires : goal.method_header-header-requires
method_header-header-requires c = header_there c.args.self.now c.args.method c.requires.ready.sound c.requires.named c.requires.fits.method

pub new_context-requires-clause-fits : goal.new_context-requires-clause-fits
new_context-requires-clause-fits c =
    can_call c.args.self.now c.args.method c.active_context.result c.args.args c.args.skip c.requires.ready c.requires.named c.requires.fits c.active_context.ensures (slot_of c.args.self.now.heap.objects c.args.method.0 0) c.method_header-header.result.0 refl c.method_header-header.ensures
    c.entry_pc.result c.temporaries.result c.depth.result c.from_natural.result c.from_natural-2.result c.stack_at.result c.depth.ensures.value c.entry_pc.ensures c.from_natural.ensures c.temporaries.ensures.value c.from_natural-2.ensures c.stack_at.ensures

pub returns-clause-state : goal.returns-clause-state
returns-clause-state c =
    let is = called_is c.args.self.now c.args.method c.active_context.result c.args.args c.args.skip c.requires.ready c.requires.named c.requires.fits c.active_context.ensures (slot_of c.args.self.now.heap.objects c.args.method.0 0) c.method_header-header.result.0 refl c.method_header-header.ensures
    c.entry_pc.result c.temporaries.result c.depth.result c.from_natural.result c.from_natural-2.result c.stack_at.result c.depth.ensures.value c.entry_pc.ensures c.from_natural.ensures c.temporaries.ensures.value c.from_natural-2.ensures c.stack_at.ensures in
    on_ok_weaker c.new_context.result (λ view m k. subst (λ t. Keeps t (enter_of m (name_of (plain_stored c.args.self.now) c.args.method) c.args.args c.args.skip)) (sym (view ∙ is))
    (enter_moved k (held_by c.args.self.now c.args.method c.requires.ready c.requires.named) c.args.args c.args.skip).keeps) c.new_context.ensures.view

pub returns-clause-exact : goal.returns-clause-exact
returns-clause-exact c =
    let is = called_is c.args.self.now c.args.method c.active_context.result c.args.args c.args.skip c.requires.ready c.requires.named c.requires.fits c.active_context.ensures (slot_of c.args.self.now.heap.objects c.args.method.0 0) c.method_header-header.result.0 refl c.method_header-header.ensures
    c.entry_pc.result c.temporaries.result c.depth.result c.from_natural.result c.from_natural-2.result c.stack_at.result c.depth.ensures.value c.entry_pc.ensures c.from_natural.ensures c.temporaries.ensures.value c.from_natural-2.ensures c.stack_at.ensures in
    on_ok_weaker c.new_context.result (λ view none. same_kept _ _ (view ∙ is)) c.new_context.ensures.view

pub returns-clause-full : goal.returns-clause-full
returns-clause-full c =
    let is = called_is c.args.self.now c.args.method c.active_context.result c.args.args c.args.skip c.requires.ready c.requires.named c.requires.fits c.active_context.ensures (slot_of c.args.self.now.heap.objects c.args.method.0 0) c.method_header-header.result.0 refl c.method_header-header.ensures
    c.entry_pc.result c.temporaries.result c.depth.result c.from_natural.result c.from_natural-2.result c.stack_at.result c.depth.ensures.value c.entry_pc.ensures c.from_natural.ensures c.temporaries.ensures.value c.from_natural-2.ensures c.stack_at.ensures in
    subst (λ t. IfErr c.new_context.result (CausesFull (plain_stored c.new_context.new.self) None (plain_view c.args.self.now) 0 t)) is c.new_context.ensures.full
