use Rattle.std.proofs.Common.{◌≡◌, ◌∙◌, ◌<◌, Some, ap, arith, subst, take, length}
use Rattle.std.specs.Prelude.{option_and_then, slice_get}
use Rattle.cs_model.specs.Obj.{slots_in}
use Rattle.cs_model.specs.State.{object_of}
use Rattle.cs_model.specs.Operation.{push_of}
use Rattle.cs_acts.specs.Led.{Leads}
use Rattle.cs_acts.specs.Names.{NamesOption, name_of}
use Rattle.cs_acts.proofs.Leading.{then}
use Rattle.cs_unwind.proofs.BlockRows.{elements_of}
use Rattle.cs_unwind.proofs.Spreading.{all_spread, array_kept, element_is, element_is_there, elements, popped_first, room_left, so_many, spread_more}
use Rattle.cs_unwind.proofs.blocks.spread.Goals as goal

pub loop-i-init : goal.loop-i-init
loop-i-init g c =
    let k = g.W.World.view c.args.w.now in
    let e = c.pop.ensures in
    popped_first (g.W.World.stored c.args.w.now) (g.W.World.stored c.pop.new.self) (g.W.World.layout c.args.w.now) (g.W.World.layout c.pop.new.self) k (g.W.World.view c.pop.new.self) (elements k (name_of (g.W.World.stored c.args.w.now) c.args.array))
    (e.state k c.requires.ready.sound.closed) e.exact e.layout e.limit e.contexts e.ready e.names

pub unreachable-requires : goal.unreachable-requires
unreachable-requires g c =
    let s = g.W.World.stored c.args.w.now in
    let t = g.W.World.stored c.loop-i.w in
    let k = g.W.World.view c.args.w.now in
    let v = g.W.World.view c.loop-i.w in
    let x = name_of s c.args.array in
    let h = elements_of k x c.args.count c.requires.fits in
    let named : name_of t c.args.array ≡ x = (c.loop-i.invariant.names c.args.array c.requires.named).is in
    let array : slots_in (object_of v (name_of t c.args.array)) ≡ Some (elements k x) = ap (λ y. slots_in (object_of v y)) named ∙ array_kept k v x (take c.loop-i.i (elements k x)) c.args.count c.requires.ready.running c.loop-i.invariant.state h in
    let less : c.loop-i.i < length (elements k x) = omega (arith, so_many k x c.args.count h, c.loop-i-test.true) in
    element_is_there t v (name_of t c.args.array) (elements k x) c.loop-i.i array less
    (subst (λ o. NamesOption t o (option_and_then (λ slots. slice_get slots c.loop-i.i) (slots_in (object_of v (name_of t c.args.array))))) c.in_default.is c.slot_if_any.ensures)

pub push-requires-clause-fits : goal.push-requires-clause-fits
push-requires-clause-fits g c =
    let s = g.W.World.stored c.args.w.now in
    let t = g.W.World.stored c.loop-i.w in
    let k = g.W.World.view c.args.w.now in
    let v = g.W.World.view c.loop-i.w in
    let x = name_of s c.args.array in
    let h = elements_of k x c.args.count c.requires.fits in
    room_left v k x c.args.count c.loop-i.i h c.loop-i-test.true c.loop-i.invariant.state

pub loop-i-preserved : goal.loop-i-preserved
loop-i-preserved g c =
    let s = g.W.World.stored c.args.w.now in
    let t = g.W.World.stored c.loop-i.w in
    let k = g.W.World.view c.args.w.now in
    let v = g.W.World.view c.loop-i.w in
    let x = name_of s c.args.array in
    let h = elements_of k x c.args.count c.requires.fits in
    let named : name_of t c.args.array ≡ x = (c.loop-i.invariant.names c.args.array c.requires.named).is in
    let array : slots_in (object_of v (name_of t c.args.array)) ≡ Some (elements k x) = ap (λ y. slots_in (object_of v y)) named ∙ array_kept k v x (take c.loop-i.i (elements k x)) c.args.count c.requires.ready.running c.loop-i.invariant.state h in
    let value : slice_get (elements k x) c.loop-i.i ≡ Some (name_of t c.in-Some.value) = element_is t v (name_of t c.args.array) (elements k x) c.loop-i.i c.in-Some.value array
    (subst (λ o. NamesOption t o (option_and_then (λ slots. slice_get slots c.loop-i.i) (slots_in (object_of v (name_of t c.args.array))))) c.in-Some.is c.slot_if_any.ensures) in
    let e = c.push.ensures in
    subst (λ u. Leads s (g.W.World.stored c.push.new.self) (g.W.World.layout c.args.w.now) (g.W.World.layout c.push.new.self) (g.W.World.view c.push.new.self) u 0)
    (spread_more k (elements k x) c.loop-i.i (name_of t c.in-Some.value) value)
    (then s t _ _ _ _ _ _ _ 0 0 (λ u. push_of u (name_of t c.in-Some.value)) c.loop-i.invariant e.state e.exact e.layout e.limit e.contexts e.ready e.names)

pub returns-clause-spreads : goal.returns-clause-spreads
returns-clause-spreads g c =
    let s = g.W.World.stored c.args.w.now in
    let k = g.W.World.view c.args.w.now in
    let x = name_of s c.args.array in
    let all : c.loop-i.i ≡ c.args.count = omega (arith, c.loop-i-test.false, c.loop-i.auto.i-end) in
    all_spread s (g.W.World.stored c.loop-i.w) (g.W.World.layout c.args.w.now) (g.W.World.layout c.loop-i.w) k (g.W.World.view c.loop-i.w) x c.args.count c.loop-i.i
    (elements_of k x c.args.count c.requires.fits) all c.loop-i.invariant
