use Rattle.std.proofs.Common.{◌+◌, ◌≤◌, ◌∙◌, ℕ, IfSome, IsSome, None, Option, Some, ap, arith, refl, [], ◌∷◌}
use Rattle.cs_model.specs.Operation.{push_of}
use Rattle.cs_model.specs.declared.stop.Stop.TheVariants as why
use Rattle.cs_model.specs.Ref as ref
use Rattle.cs_model.specs.Read.{active_birth, depth_of, size_of}
use Rattle.cs_model.specs.State.{Kept}
use Rattle.std.proofs.lemmas.Bool.{false≢true}
use Rattle.cs_word.specs.declared.Oop.{Oop}
use Rattle.cs_acts.specs.Names.{IsNamed, Names, Store, name_of}
use Rattle.cs_acts.proofs.Leading.{names-trans}
use Rattle.cs_unwind.proofs.Pushing.{call_over, call_refused, called, cause_at, context_made, contexts_made, depth_kept, depth_pushed, size_kept, size_pushed, stopped, there_is_none, there_is_room, value_pushed}
use Rattle.cs_unwind.proofs.Walking.{told}
use Rattle.cs_unwind.proofs.returns.about_to_return.Goals as goal

-- the word that is made for a context that an act stands for is a reference
named_there : (s : Store) (w : Oop) (o : Option ℕ) → IfSome o (λ birth. Names s w (ref.Obj birth)) → IsSome o → IsNamed s w
named_there s w (Some birth) names some = names.sound
named_there s w None names some = absurd (false≢true some)

pub returns-then-not-fits : goal.returns-then-not-fits
returns-then-not-fits g c local birth at =
    let s = g.W.World.stored c.args.w.now in
    let k = g.W.World.view c.args.w.now in
    stopped s (g.W.World.layout c.args.w.now) k local why.StackOver _ c.requires.ready
    (call_over k 48 2 (name_of s c.args.value ∷ ref.Obj birth ∷ []) c.fits.ensures.within (there_is_none (depth_of k) (size_of k) 3 _ c.fits.ensures.value c.if-not-fits.true))

pub returns-in-Err : goal.returns-in-Err
returns-in-Err g c local birth at =
    let s = g.W.World.stored c.args.w.now in
    let k = g.W.World.view c.args.w.now in
    let e = c.in-Err.ensures in
    call_refused k 48 2 (name_of s c.args.value ∷ ref.Obj birth ∷ []) local s (g.W.World.stored c.act_context.new.self) (g.W.World.layout c.args.w.now) (g.W.World.layout c.act_context.new.self) (g.W.World.view c.act_context.new.self) c.in-Err.why
    (there_is_room (depth_of k) (size_of k) 3 _ c.fits.ensures.value c.if-not-fits.false) c.requires.ready.running e.limit e.heap_alone e.full

pub returns-in-Err-this_context : goal.returns-in-Err-this_context
returns-in-Err-this_context g c local birth at =
    let s = g.W.World.stored c.args.w.now in
    let k = g.W.World.view c.args.w.now in
    let d = c.in-Ok.ensures in
    let e = c.in-Err-this_context.ensures in
    call_refused k 48 2 (name_of s c.args.value ∷ ref.Obj birth ∷ []) local s (g.W.World.stored c.this_context.new.self) (g.W.World.layout c.args.w.now) (g.W.World.layout c.this_context.new.self) (g.W.World.view c.this_context.new.self) c.in-Err-this_context.why
    (there_is_room (depth_of k) (size_of k) 3 _ c.fits.ensures.value c.if-not-fits.false) c.requires.ready.running (e.limit ∙ d.limit) e.heap_alone
    (cause_at (g.W.World.stored c.this_context.new.self) _ _ _ _ c.in-Err-this_context.why d.layout d.view e.full)

pub push-requires-2-clause-fits : goal.push-requires-2-clause-fits
push-requires-2-clause-fits g c =
    let r = g.W.World.stored c.act_context.new.self in
    let t = g.W.World.stored c.this_context.new.self in
    let l = g.W.World.layout c.act_context.new.self in
    let m = g.W.World.layout c.this_context.new.self in
    let k = g.W.World.view c.args.w.now in
    let j = g.W.World.view c.act_context.new.self in
    let v = g.W.World.view c.this_context.new.self in
    let w = g.W.World.view c.push.new.self in
    let me = ref.Obj (active_birth j) in
    let d = c.in-Ok.ensures in
    let e = c.in-Ok-this_context.ensures in
    let p = c.push.ensures in
    let first = context_made (g.W.World.stored c.args.w.now) r (g.W.World.layout c.args.w.now) l k j 1 d.view d.layout d.limit d.contexts d.sound c.requires.ready.running d.names in
    let room : depth_of k + 3 ≤ size_of k = there_is_room (depth_of k) (size_of k) 3 _ c.fits.ensures.value c.if-not-fits.false in
    let here = context_made r t l m j v 1 e.view e.layout e.limit e.contexts e.sound first.ready.running e.names in
    let one = value_pushed r t (g.W.World.stored c.push.new.self) l m (g.W.World.layout c.push.new.self) v w j 1 c.in-Ok-this_context.active me here e.value.is p.state p.exact p.layout p.limit p.contexts p.ready p.names in
    omega (arith, room, depth_kept w _ one.state, size_kept w _ one.state, depth_pushed j me, size_pushed j me, ap depth_of d.view, ap size_of d.view)

pub push-requires-3-clause-named : goal.push-requires-3-clause-named
push-requires-3-clause-named g c =
    let r = g.W.World.stored c.act_context.new.self in
    let t = g.W.World.stored c.this_context.new.self in
    let u = g.W.World.stored c.push.new.self in
    let z = g.W.World.stored c.push-2.new.self in
    let stays = names-trans r t z c.in-Ok-this_context.ensures.names (names-trans t u z c.push.ensures.names c.push-2.ensures.names) in
    (stays c.in-Ok.mark (named_there _ _ (g.W.World.act c.args.w.now c.args.mark) c.in-Ok.ensures.value c.requires.stands)).sound

pub push-requires-3-clause-fits : goal.push-requires-3-clause-fits
push-requires-3-clause-fits g c =
    let r = g.W.World.stored c.act_context.new.self in
    let t = g.W.World.stored c.this_context.new.self in
    let u = g.W.World.stored c.push.new.self in
    let l = g.W.World.layout c.act_context.new.self in
    let m = g.W.World.layout c.this_context.new.self in
    let n = g.W.World.layout c.push.new.self in
    let k = g.W.World.view c.args.w.now in
    let j = g.W.World.view c.act_context.new.self in
    let v = g.W.World.view c.this_context.new.self in
    let w = g.W.World.view c.push.new.self in
    let y = g.W.World.view c.push-2.new.self in
    let me = ref.Obj (active_birth j) in
    let d = c.in-Ok.ensures in
    let e = c.in-Ok-this_context.ensures in
    let p = c.push.ensures in
    let q = c.push-2.ensures in
    let x = name_of u c.args.value in
    let first = context_made (g.W.World.stored c.args.w.now) r (g.W.World.layout c.args.w.now) l k j 1 d.view d.layout d.limit d.contexts d.sound c.requires.ready.running d.names in
    let room : depth_of k + 3 ≤ size_of k = there_is_room (depth_of k) (size_of k) 3 _ c.fits.ensures.value c.if-not-fits.false in
    let here = context_made r t l m j v 1 e.view e.layout e.limit e.contexts e.sound first.ready.running e.names in
    let one = value_pushed r t u l m n v w j 1 c.in-Ok-this_context.active me here e.value.is p.state p.exact p.layout p.limit p.contexts p.ready p.names in
    let two = value_pushed r u (g.W.World.stored c.push-2.new.self) l n (g.W.World.layout c.push-2.new.self) w y _ 1 c.args.value x one refl q.state q.exact q.layout q.limit q.contexts q.ready q.names in
    omega (arith, room, depth_kept y _ two.state, size_kept y _ two.state, depth_pushed (push_of j me) x, size_pushed (push_of j me) x, depth_pushed j me, size_pushed j me, ap depth_of d.view, ap size_of d.view)

pub returns : goal.returns
returns g c local birth at =
    let s = g.W.World.stored c.args.w.now in
    let r = g.W.World.stored c.act_context.new.self in
    let t = g.W.World.stored c.this_context.new.self in
    let u = g.W.World.stored c.push.new.self in
    let z = g.W.World.stored c.push-2.new.self in
    let o = g.W.World.layout c.args.w.now in
    let l = g.W.World.layout c.act_context.new.self in
    let m = g.W.World.layout c.this_context.new.self in
    let n = g.W.World.layout c.push.new.self in
    let i = g.W.World.layout c.push-2.new.self in
    let k = g.W.World.view c.args.w.now in
    let j = g.W.World.view c.act_context.new.self in
    let v = g.W.World.view c.this_context.new.self in
    let w = g.W.World.view c.push.new.self in
    let y = g.W.World.view c.push-2.new.self in
    let me = ref.Obj (active_birth k) in
    let d = c.in-Ok.ensures in
    let e = c.in-Ok-this_context.ensures in
    let p = c.push.ensures in
    let q = c.push-2.ensures in
    let h = c.push-3.ensures in
    let x = name_of s c.args.value in
    let room : depth_of k + 3 ≤ size_of k = there_is_room (depth_of k) (size_of k) 3 _ c.fits.ensures.value c.if-not-fits.false in
    let first = context_made s r o l k j 1 d.view d.layout d.limit d.contexts d.sound c.requires.ready.running d.names in
    let second = context_made r t l m j v 1 e.view e.layout e.limit e.contexts e.sound first.ready.running e.names in
    let here = contexts_made s r t o l m k j v 1 1 d.view first second in
    let one = value_pushed s t u o m n v w k 2 c.in-Ok-this_context.active me here (e.value.is ∙ ap (λ (b : Kept). ref.Obj (active_birth b)) d.view) p.state p.exact p.layout p.limit p.contexts p.ready p.names in
    let two = value_pushed s u z o n i w y _ 2 c.args.value x one (one.names c.args.value c.requires.named).is q.state q.exact q.layout q.limit q.contexts q.ready q.names in
    let mark : Names r c.in-Ok.mark (ref.Obj birth) = told _ d.value at in
    let stays = names-trans r t z e.names (names-trans t u z p.names q.names) in
    let three = value_pushed s z (g.W.World.stored c.push-3.new.self) o i (g.W.World.layout c.push-3.new.self) y (g.W.World.view c.push-3.new.self) _ 2 c.in-Ok.mark (ref.Obj birth) two ((stays c.in-Ok.mark mark.sound).is ∙ mark.is)
    h.state h.exact h.layout h.limit h.contexts h.ready h.names in
    called k 48 2 (x ∷ ref.Obj birth ∷ []) local s (g.W.World.stored c.push-3.new.self) o (g.W.World.layout c.push-3.new.self) (g.W.World.view c.push-3.new.self) room three
