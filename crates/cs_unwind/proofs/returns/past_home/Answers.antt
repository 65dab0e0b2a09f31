use Rattle.std.proofs.Common.{◌∙◌, [], ◌∷◌, ◌++◌, ap, false}
use Rattle.cs_model.specs.declared.stop.Stop.TheVariants as why
use Rattle.cs_model.specs.Keeps.{SameKept}
use Rattle.cs_model.specs.Operation.{cut_to_of}
use Rattle.cs_model.specs.Read.{active_birth}
use Rattle.cs_model.specs.State.{Kept}
use Rattle.cs_model.specs.End.{Out}
use Rattle.cs_acts.specs.Full.{CausesFull}
use Rattle.cs_acts.specs.Names.{name_of}
use Rattle.cs_unwind.specs.declared.returns.Arrival.TheVariants.{Never, NoRoom, Free}
use Rattle.cs_unwind.proofs.Arriving.{can_cut, cut_keeps, cut_laid, cut_state, landed, nonlocal_arrives, nonlocal_decided, not_landed, returns_as}
use Rattle.cs_unwind.proofs.Pushing.{stopped}
use Rattle.cs_unwind.proofs.returns.past_home.Goals as goal

pub cut_to-requires-clause-target : goal.cut_to-requires-clause-target
cut_to-requires-clause-target g c =
    let k = g.W.World.view c.args.w.now in
    let x = name_of (g.W.World.stored c.args.w.now) c.args.value in
    let u = c.requires.free in
    can_cut _ k c.args.home c.args.target c.args.dies u x (nonlocal_decided _ k c.args.home c.args.target c.args.dies u x Free c.in-Free.ensures)

pub returns-in-Never : goal.returns-in-Never
returns-in-Never g c =
    let k = g.W.World.view c.args.w.now in
    let x = name_of (g.W.World.stored c.args.w.now) c.args.value in
    let u = c.requires.free in
    returns_as _ _ _ _ _ _ _ _ _ _
    (nonlocal_arrives _ k c.args.home c.args.target c.args.dies u x ∙ nonlocal_decided _ k c.args.home c.args.target c.args.dies u x Never c.in-Never.ensures) (c.cannot_return.ensures _)

pub returns-in-NoRoom : goal.returns-in-NoRoom
returns-in-NoRoom g c =
    let k = g.W.World.view c.args.w.now in
    let x = name_of (g.W.World.stored c.args.w.now) c.args.value in
    let u = c.requires.free in
    stopped (g.W.World.stored c.args.w.now) (g.W.World.layout c.args.w.now) k _ why.StackOver _ c.requires.ready
    (ap (λ (o : Out). o.end) (nonlocal_arrives _ k c.args.home c.args.target c.args.dies u x ∙ nonlocal_decided _ k c.args.home c.args.target c.args.dies u x NoRoom c.in-NoRoom.ensures))

pub returns-in-Ok : goal.returns-in-Ok
returns-in-Ok g c =
    let k = g.W.World.view c.args.w.now in
    let v = g.W.World.view c.cut_to.new.self in
    let l = g.W.World.layout c.args.w.now in
    let m = g.W.World.layout c.cut_to.new.self in
    let x = name_of (g.W.World.stored c.args.w.now) c.args.value in
    let u = c.requires.free in
    let e = c.in-Ok.ensures in
    let h = nonlocal_decided _ k c.args.home c.args.target c.args.dies u x Free c.in-Free.ensures in
    landed (g.W.World.stored c.args.w.now) (g.W.World.stored c.cut_to.new.self) l m k v (cut_to_of k (active_birth k ∷ u.births ++ u.home.birth ∷ []) h.birth x) false _
    (nonlocal_arrives _ k c.args.home c.args.target c.args.dies u x ∙ h.is) (cut_keeps _ k c.args.home c.args.target c.args.dies u x v c.requires.ready.sound.closed h e.state)
    (λ none. cut_state _ k c.args.home c.args.target c.args.dies u x (SameKept v) h (e.exact none)) (cut_laid _ k c.args.home c.args.target c.args.dies u x l m e.layout) e.limit e.contexts e.ready e.names

pub returns-in-Err : goal.returns-in-Err
returns-in-Err g c =
    let k = g.W.World.view c.args.w.now in
    let t = g.W.World.stored c.cut_to.new.self in
    let l = g.W.World.layout c.args.w.now in
    let x = name_of (g.W.World.stored c.args.w.now) c.args.value in
    let u = c.requires.free in
    let e = c.in-Err.ensures in
    let h = nonlocal_decided _ k c.args.home c.args.target c.args.dies u x Free c.in-Free.ensures in
    not_landed (g.W.World.stored c.args.w.now) t l (g.W.World.layout c.cut_to.new.self) k (g.W.World.view c.cut_to.new.self) (cut_to_of k (active_birth k ∷ u.births ++ u.home.birth ∷ []) h.birth x) false _ c.in-Err.why
    (nonlocal_arrives _ k c.args.home c.args.target c.args.dies u x ∙ h.is) e.limit e.heap_alone (cut_state _ k c.args.home c.args.target c.args.dies u x (λ (n : Kept). CausesFull t l k 0 n c.in-Err.why) h e.full)
