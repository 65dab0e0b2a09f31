use Rattle.std.proofs.Common.{None, Some, arith, ap, refl, sym, ◌∙◌, if◌then◌else◌}
use Rattle.cs_acts.specs.Names.{name_of}
use Rattle.cs_model.specs.Element.{element_place}
use Rattle.cs_model.specs.Operation.{store_byte_of}
use Rattle.cs_model.specs.PrimAnswer.{answer, argument}
use Rattle.cs_model.specs.PrimObject.{byte_code, is_bytes}
use Rattle.cs_prim_ctx.proofs.Performing.{fails}
use Rattle.cs_prim_obj.proofs.Depths.{depth_store_byte}
use Rattle.cs_prim_obj.proofs.Putting.{byte_put, byte_put-row, put_fixed, put_none, put_some, wrote}
use Rattle.cs_prim_obj.proofs.elements.char_at_put.Goals as goal

pub returns-then-is_read_only : goal.returns-then-is_read_only
returns-then-is_read_only g c =
    let s = g.W.World.stored c.args.w.now in
    let k = g.W.World.view c.args.w.now in
    let x = name_of s c.receiver-receiver.result in
    fails s (g.W.World.layout c.args.w.now) k _ c.requires.ready (sym (byte_put-row k x (argument k 2 0) (argument k 2 1) (if is_bytes k x then element_place k x (argument k 2 0) else None) (byte_code (argument k 2 1)) c.receiver-receiver.ensures.is refl refl refl refl) ∙ put_fixed k x (argument k 2 1) _ (sym c.is_read_only.ensures ∙ c.if-is_read_only.true))

pub returns-in_default : goal.returns-in_default
returns-in_default g c =
    let s = g.W.World.stored c.args.w.now in
    let k = g.W.World.view c.args.w.now in
    let x = name_of s c.receiver-receiver.result in
    fails s (g.W.World.layout c.args.w.now) k _ c.requires.ready (sym (byte_put-row k x (name_of s c.argument_at.result) (argument k 2 1) None (byte_code (argument k 2 1)) c.receiver-receiver.ensures.is c.argument_at.ensures.is (sym c.in_default.is ∙ c.byte_place.ensures.place) refl refl) ∙ put_none k x (argument k 2 1) _ refl)

pub returns-in_default-byte_code : goal.returns-in_default-byte_code
returns-in_default-byte_code g c =
    let s = g.W.World.stored c.args.w.now in
    let k = g.W.World.view c.args.w.now in
    let x = name_of s c.receiver-receiver.result in
    fails s (g.W.World.layout c.args.w.now) k _ c.requires.ready (sym (byte_put-row k x (name_of s c.argument_at.result) (name_of s c.argument_at-value.result) (Some c.in-Some.place) None c.receiver-receiver.ensures.is c.argument_at.ensures.is (sym c.in-Some.is ∙ c.byte_place.ensures.place) c.argument_at-value.ensures.is (sym c.in_default-byte_code.is ∙ c.byte_code.ensures s c.argument_at-value.ensures.sound)) ∙ put_none k x (name_of s c.argument_at-value.result) _ refl)

pub store_byte-requires-clause-there : goal.store_byte-requires-clause-there
store_byte-requires-clause-there g c =
    let s = g.W.World.stored c.args.w.now in
    let k = g.W.World.view c.args.w.now in
    let x = name_of s c.receiver-receiver.result in
    c.in-Some.ensures.within

pub answer-requires-clause-ready : goal.answer-requires-clause-ready
answer-requires-clause-ready g c =
    let s = g.W.World.stored c.args.w.now in
    let k = g.W.World.view c.args.w.now in
    let x = name_of s c.receiver-receiver.result in
    c.store_byte.ensures.ready c.requires.ready

pub answer-requires-clause-there : goal.answer-requires-clause-there
answer-requires-clause-there g c =
    let s = g.W.World.stored c.args.w.now in
    let k = g.W.World.view c.args.w.now in
    let x = name_of s c.receiver-receiver.result in
    omega (arith, depth_store_byte (g.W.World.view c.store_byte.new.self) k x c.in-Some.place c.in-Some-byte_code.byte c.requires.ready.running (c.store_byte.ensures.state k c.requires.ready.sound.closed), c.requires.there)

pub answer-requires-clause-named : goal.answer-requires-clause-named
answer-requires-clause-named g c =
    let s = g.W.World.stored c.args.w.now in
    let k = g.W.World.view c.args.w.now in
    let x = name_of s c.receiver-receiver.result in
    (c.store_byte.ensures.names c.argument_at-value.result c.argument_at-value.ensures.sound).sound

pub returns : goal.returns
returns g c =
    let s = g.W.World.stored c.args.w.now in
    let k = g.W.World.view c.args.w.now in
    let x = name_of s c.receiver-receiver.result in
    wrote s (g.W.World.stored c.store_byte.new.self) (g.W.World.stored c.answer.new.w) (g.W.World.layout c.args.w.now) (g.W.World.layout c.store_byte.new.self) (g.W.World.layout c.answer.new.w) k (g.W.World.view c.store_byte.new.self) (g.W.World.view c.answer.new.w) (store_byte_of k x c.in-Some.place c.in-Some-byte_code.byte) 2 c.argument_at-value.result _ _ (ap (answer (store_byte_of k x c.in-Some.place c.in-Some-byte_code.byte) 2) (sym c.argument_at-value.ensures.is) ∙ sym (put_some k (store_byte_of k x c.in-Some.place c.in-Some-byte_code.byte) x (name_of s c.argument_at-value.result) (byte_put k x (Some c.in-Some.place) (Some c.in-Some-byte_code.byte)) (sym c.is_read_only.ensures ∙ c.if-is_read_only.false) refl) ∙ byte_put-row k x (name_of s c.argument_at.result) (name_of s c.argument_at-value.result) (Some c.in-Some.place) (Some c.in-Some-byte_code.byte) c.receiver-receiver.ensures.is c.argument_at.ensures.is (sym c.in-Some.is ∙ c.byte_place.ensures.place) c.argument_at-value.ensures.is (sym c.in-Some-byte_code.is ∙ c.byte_code.ensures s c.argument_at-value.ensures.sound)) (record { state = c.store_byte.ensures.state k c.requires.ready.sound.closed; exact = c.store_byte.ensures.exact; layout = c.store_byte.ensures.layout; limit = c.store_byte.ensures.limit; contexts = c.store_byte.ensures.contexts; ready = c.store_byte.ensures.ready c.requires.ready; names = c.store_byte.ensures.names }) c.argument_at-value.ensures c.answer.ensures
