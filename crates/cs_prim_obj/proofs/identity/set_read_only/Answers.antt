use Rattle.std.proofs.Common.{true, false, None, Some, arith, ap, refl, sym, ◌∙◌}
use Rattle.cs_acts.specs.Names.{name_of}
use Rattle.cs_model.specs.Number.{boolean}
use Rattle.cs_model.specs.Operation.{set_fixed_of}
use Rattle.cs_model.specs.PrimAnswer.{answer, argument}
use Rattle.cs_model.specs.PrimObject.{boolean_in}
use Rattle.cs_model.specs.State.{object_of}
use Rattle.cs_prim_ctx.proofs.Performing.{fails}
use Rattle.cs_prim_obj.specs.Contents.{can_be_fixed_by}
use Rattle.cs_prim_obj.proofs.Depths.{depth_set_fixed}
use Rattle.cs_prim_obj.proofs.Putting.{fixable, fixing-row, wrote}
use Rattle.cs_prim_obj.proofs.identity.set_read_only.Goals as goal

pub returns-then-not-can_be_fixed : goal.returns-then-not-can_be_fixed
returns-then-not-can_be_fixed g c =
    let s = g.W.World.stored c.args.w.now in
    let k = g.W.World.view c.args.w.now in
    let x = name_of s c.receiver-receiver.result in
    fails s (g.W.World.layout c.args.w.now) k _ c.requires.ready (sym (fixing-row k x (argument k 1 0) false (boolean_in k (argument k 1 0)) c.receiver-receiver.ensures.is refl (sym c.if-not-can_be_fixed.true ∙ (c.can_be_fixed.ensures ∙ ap can_be_fixed_by c.held_by.ensures.value ∙ fixable (object_of k x))) refl))

pub returns-in_default : goal.returns-in_default
returns-in_default g c =
    let s = g.W.World.stored c.args.w.now in
    let k = g.W.World.view c.args.w.now in
    let x = name_of s c.receiver-receiver.result in
    fails s (g.W.World.layout c.args.w.now) k _ c.requires.ready (sym (fixing-row k x (name_of s c.argument.result) true None c.receiver-receiver.ensures.is c.argument.ensures.is (sym c.if-not-can_be_fixed.false ∙ (c.can_be_fixed.ensures ∙ ap can_be_fixed_by c.held_by.ensures.value ∙ fixable (object_of k x))) (sym c.in_default.is ∙ c.truth_of.ensures)))

pub set_fixed-requires-clause-object : goal.set_fixed-requires-clause-object
set_fixed-requires-clause-object g c =
    let s = g.W.World.stored c.args.w.now in
    let k = g.W.World.view c.args.w.now in
    let x = name_of s c.receiver-receiver.result in
    sym (sym c.if-not-can_be_fixed.false ∙ (c.can_be_fixed.ensures ∙ ap can_be_fixed_by c.held_by.ensures.value ∙ fixable (object_of k x)))

pub answer-requires-clause-ready : goal.answer-requires-clause-ready
answer-requires-clause-ready g c =
    let s = g.W.World.stored c.args.w.now in
    let k = g.W.World.view c.args.w.now in
    let x = name_of s c.receiver-receiver.result in
    c.set_fixed.ensures.ready c.requires.ready

pub answer-requires-clause-there : goal.answer-requires-clause-there
answer-requires-clause-there g c =
    let s = g.W.World.stored c.args.w.now in
    let k = g.W.World.view c.args.w.now in
    let x = name_of s c.receiver-receiver.result in
    omega (arith, depth_set_fixed (g.W.World.view c.set_fixed.new.self) k x c.in-Some.on c.requires.ready.running (c.set_fixed.ensures.state k c.requires.ready.sound.closed), c.requires.there)

pub answer-requires-clause-named : goal.answer-requires-clause-named
answer-requires-clause-named g c =
    let s = g.W.World.stored c.args.w.now in
    let k = g.W.World.view c.args.w.now in
    let x = name_of s c.receiver-receiver.result in
    (c.set_fixed.ensures.names c.boolean-was.result c.boolean-was.ensures.sound).sound

pub returns : goal.returns
returns g c =
    let s = g.W.World.stored c.args.w.now in
    let k = g.W.World.view c.args.w.now in
    let x = name_of s c.receiver-receiver.result in
    wrote s (g.W.World.stored c.set_fixed.new.self) (g.W.World.stored c.answer.new.w) (g.W.World.layout c.args.w.now) (g.W.World.layout c.set_fixed.new.self) (g.W.World.layout c.answer.new.w) k (g.W.World.view c.set_fixed.new.self) (g.W.World.view c.answer.new.w) (set_fixed_of k x c.in-Some.on) 1 c.boolean-was.result _ _ (ap (λ b. answer (set_fixed_of k x c.in-Some.on) 1 (boolean k b)) c.is_read_only.ensures ∙ fixing-row k x (name_of s c.argument.result) true (Some c.in-Some.on) c.receiver-receiver.ensures.is c.argument.ensures.is (sym c.if-not-can_be_fixed.false ∙ (c.can_be_fixed.ensures ∙ ap can_be_fixed_by c.held_by.ensures.value ∙ fixable (object_of k x))) (sym c.in-Some.is ∙ c.truth_of.ensures)) (record { state = c.set_fixed.ensures.state k c.requires.ready.sound.closed; exact = c.set_fixed.ensures.exact; layout = c.set_fixed.ensures.layout; limit = c.set_fixed.ensures.limit; contexts = c.set_fixed.ensures.contexts; ready = c.set_fixed.ensures.ready c.requires.ready; names = c.set_fixed.ensures.names }) c.boolean-was.ensures c.answer.ensures
