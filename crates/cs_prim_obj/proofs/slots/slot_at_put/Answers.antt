use Rattle.std.proofs.Common.{None, Some, arith, ap, refl, sym, ◌∙◌}
use Rattle.cs_acts.specs.Names.{name_of}
use Rattle.cs_model.specs.Context.{is_context_ref}
use Rattle.cs_model.specs.Operation.{store_of}
use Rattle.cs_model.specs.PrimAnswer.{answer, argument}
use Rattle.cs_prim_ctx.proofs.Performing.{fails}
use Rattle.cs_prim_obj.proofs.Depths.{depth_store}
use Rattle.cs_prim_obj.proofs.Putting.{pointer_kept, pointer_put, pointer_put-row, pointer_refused, put_none, put_some, wrote}
use Rattle.cs_prim_obj.proofs.slots.slot_at_put.Goals as goal

pub returns-in_default : goal.returns-in_default
returns-in_default g c =
    let s = g.W.World.stored c.args.w.now in
    let k = g.W.World.view c.args.w.now in
    let x = name_of s c.receiver-receiver.result in
    fails s (g.W.World.layout c.args.w.now) k _ c.requires.ready (sym (pointer_put-row k x (name_of s c.argument_at.result) (argument k 2 1) None c.receiver-receiver.ensures.is c.argument_at.ensures.is (sym c.in_default.is ∙ c.slot_index.ensures.value s c.argument_at.ensures.sound) refl) ∙ put_none k x (argument k 2 1) None refl)

pub returns-in-Missing : goal.returns-in-Missing
returns-in-Missing g c =
    let s = g.W.World.stored c.args.w.now in
    let k = g.W.World.view c.args.w.now in
    let x = name_of s c.receiver-receiver.result in
    fails s (g.W.World.layout c.args.w.now) k _ c.requires.ready (sym (pointer_put-row k x (name_of s c.argument_at.result) (argument k 2 1) (Some c.in-Some.i) c.receiver-receiver.ensures.is c.argument_at.ensures.is (sym c.in-Some.is ∙ c.slot_index.ensures.value s c.argument_at.ensures.sound) refl)
    ∙ pointer_refused k x (argument k 2 1) c.in-Some.i c.store_target.result (ap (is_context_ref k) c.receiver-receiver.ensures.is ∙ c.requires.other) c.store_target.ensures c.in-Missing.is)

pub store-requires-clause-there : goal.store-requires-clause-there
store-requires-clause-there g c =
    let s = g.W.World.stored c.args.w.now in
    let k = g.W.World.view c.args.w.now in
    let x = name_of s c.receiver-receiver.result in
    (pointer_kept k x (name_of s c.argument_at-value.result) c.in-Some.i (sym c.store_target.ensures ∙ c.in-Writable.is)).1.1

pub answer-requires-clause-ready : goal.answer-requires-clause-ready
answer-requires-clause-ready g c =
    let s = g.W.World.stored c.args.w.now in
    let k = g.W.World.view c.args.w.now in
    let x = name_of s c.receiver-receiver.result in
    c.store.ensures.ready c.requires.ready

pub answer-requires-clause-there : goal.answer-requires-clause-there
answer-requires-clause-there g c =
    let s = g.W.World.stored c.args.w.now in
    let k = g.W.World.view c.args.w.now in
    let x = name_of s c.receiver-receiver.result in
    omega (arith, depth_store (g.W.World.view c.store.new.self) k x c.in-Some.i (name_of s c.argument_at-value.result) c.requires.ready.running (c.store.ensures.state k c.requires.ready.sound.closed), c.requires.there)

pub answer-requires-clause-named : goal.answer-requires-clause-named
answer-requires-clause-named g c =
    let s = g.W.World.stored c.args.w.now in
    let k = g.W.World.view c.args.w.now in
    let x = name_of s c.receiver-receiver.result in
    (c.store.ensures.names c.argument_at-value.result c.argument_at-value.ensures.sound).sound

pub returns-in-Writable : goal.returns-in-Writable
returns-in-Writable g c =
    let s = g.W.World.stored c.args.w.now in
    let k = g.W.World.view c.args.w.now in
    let x = name_of s c.receiver-receiver.result in
    wrote s (g.W.World.stored c.store.new.self) (g.W.World.stored c.answer.new.w) (g.W.World.layout c.args.w.now) (g.W.World.layout c.store.new.self) (g.W.World.layout c.answer.new.w) k (g.W.World.view c.store.new.self) (g.W.World.view c.answer.new.w) (store_of k x c.in-Some.i (name_of s c.argument_at-value.result)) 2 c.argument_at-value.result _ _ (ap (answer (store_of k x c.in-Some.i (name_of s c.argument_at-value.result)) 2) (sym c.argument_at-value.ensures.is) ∙ sym (put_some k (store_of k x c.in-Some.i (name_of s c.argument_at-value.result)) x (name_of s c.argument_at-value.result) (pointer_put k x (Some c.in-Some.i) (name_of s c.argument_at-value.result)) (pointer_kept k x (name_of s c.argument_at-value.result) c.in-Some.i (sym c.store_target.ensures ∙ c.in-Writable.is)).0 (pointer_kept k x (name_of s c.argument_at-value.result) c.in-Some.i (sym c.store_target.ensures ∙ c.in-Writable.is)).1.0) ∙ pointer_put-row k x (name_of s c.argument_at.result) (name_of s c.argument_at-value.result) (Some c.in-Some.i) c.receiver-receiver.ensures.is c.argument_at.ensures.is (sym c.in-Some.is ∙ c.slot_index.ensures.value s c.argument_at.ensures.sound) c.argument_at-value.ensures.is) (record { state = c.store.ensures.state k c.requires.ready.sound.closed; exact = c.store.ensures.exact; layout = c.store.ensures.layout; limit = c.store.ensures.limit; contexts = c.store.ensures.contexts; ready = c.store.ensures.ready c.requires.ready; names = c.store.ensures.names }) c.argument_at-value.ensures c.answer.ensures
