use Rattle.std.proofs.Common.{◌+◌, ◌≤◌, arith, [], ◌∷◌}
use Rattle.cs_model.specs.declared.stop.Stop.TheVariants as why
use Rattle.cs_model.specs.Ref as ref
use Rattle.cs_model.specs.Read.{active_birth, depth_of, size_of}
use Rattle.cs_acts.specs.Names.{name_of}
use Rattle.cs_unwind.proofs.Pushing.{call_over, call_refused, called, context_made, depth_kept, depth_pushed, size_kept, size_pushed, stopped, there_is_none, there_is_room, value_pushed}
use Rattle.cs_unwind.proofs.returns.cannot_return.Goals as goal

pub returns-then-not-fits : goal.returns-then-not-fits
returns-then-not-fits g c local =
    let s = g.W.World.stored c.args.w.now in
    let k = g.W.World.view c.args.w.now in
    stopped s (g.W.World.layout c.args.w.now) k local why.StackOver _ c.requires.ready
    (call_over k 21 1 (name_of s c.args.value ∷ []) c.fits.ensures.within (there_is_none (depth_of k) (size_of k) 2 _ c.fits.ensures.value c.if-not-fits.true))

pub returns-in-Err : goal.returns-in-Err
returns-in-Err g c local =
    let s = g.W.World.stored c.args.w.now in
    let k = g.W.World.view c.args.w.now in
    let e = c.in-Err.ensures in
    call_refused k 21 1 (name_of s c.args.value ∷ []) local s (g.W.World.stored c.this_context.new.self) (g.W.World.layout c.args.w.now) (g.W.World.layout c.this_context.new.self) (g.W.World.view c.this_context.new.self) c.in-Err.why
    (there_is_room (depth_of k) (size_of k) 2 _ c.fits.ensures.value c.if-not-fits.false) c.requires.ready.running e.limit e.heap_alone e.full

pub push-requires-2-clause-fits : goal.push-requires-2-clause-fits
push-requires-2-clause-fits g c =
    let s = g.W.World.stored c.args.w.now in
    let t = g.W.World.stored c.this_context.new.self in
    let l = g.W.World.layout c.args.w.now in
    let m = g.W.World.layout c.this_context.new.self in
    let k = g.W.World.view c.args.w.now in
    let v = g.W.World.view c.this_context.new.self in
    let w = g.W.World.view c.push.new.self in
    let me = ref.Obj (active_birth k) in
    let e = c.in-Ok.ensures in
    let p = c.push.ensures in
    let room : depth_of k + 2 ≤ size_of k = there_is_room (depth_of k) (size_of k) 2 _ c.fits.ensures.value c.if-not-fits.false in
    let here = context_made s t l m k v 1 e.view e.layout e.limit e.contexts e.sound c.requires.ready.running e.names in
    let one = value_pushed s t (g.W.World.stored c.push.new.self) l m (g.W.World.layout c.push.new.self) v w k 1 c.in-Ok.context me here e.value.is p.state p.exact p.layout p.limit p.contexts p.ready p.names in
    omega (arith, room, depth_kept w _ one.state, size_kept w _ one.state, depth_pushed k me, size_pushed k me)

pub returns : goal.returns
returns g c local =
    let s = g.W.World.stored c.args.w.now in
    let t = g.W.World.stored c.this_context.new.self in
    let u = g.W.World.stored c.push.new.self in
    let l = g.W.World.layout c.args.w.now in
    let m = g.W.World.layout c.this_context.new.self in
    let n = g.W.World.layout c.push.new.self in
    let k = g.W.World.view c.args.w.now in
    let v = g.W.World.view c.this_context.new.self in
    let w = g.W.World.view c.push.new.self in
    let me = ref.Obj (active_birth k) in
    let x = name_of s c.args.value in
    let e = c.in-Ok.ensures in
    let p = c.push.ensures in
    let q = c.push-2.ensures in
    let room : depth_of k + 2 ≤ size_of k = there_is_room (depth_of k) (size_of k) 2 _ c.fits.ensures.value c.if-not-fits.false in
    let here = context_made s t l m k v 1 e.view e.layout e.limit e.contexts e.sound c.requires.ready.running e.names in
    let one = value_pushed s t u l m n v w k 1 c.in-Ok.context me here e.value.is p.state p.exact p.layout p.limit p.contexts p.ready p.names in
    let two = value_pushed s u (g.W.World.stored c.push-2.new.self) l n (g.W.World.layout c.push-2.new.self) w (g.W.World.view c.push-2.new.self) _ 1 c.args.value x one (one.names c.args.value c.requires.named).is
    q.state q.exact q.layout q.limit q.contexts q.ready q.names in
    called k 21 1 (x ∷ []) local s (g.W.World.stored c.push-2.new.self) l (g.W.World.layout c.push-2.new.self) (g.W.World.view c.push-2.new.self) room two
