use Rattle.std.proofs.Common.{◌∙◌, [], ◌∷◌, ap, subst, true}
use Rattle.cs_model.specs.declared.stop.Stop.TheVariants as why
use Rattle.cs_model.specs.Keeps.{Keeps, SameKept}
use Rattle.cs_model.specs.Operation.{cut_to_of}
use Rattle.cs_model.specs.Read.{active_birth}
use Rattle.cs_model.specs.State.{Kept}
use Rattle.cs_acts.specs.Full.{CausesFull}
use Rattle.cs_acts.specs.Names.{name_of}
use Rattle.cs_unwind.specs.declared.returns.Arrival.TheVariants.{Never, NoRoom, Free}
use Rattle.cs_unwind.proofs.Arriving.{can_arrive, landed, leave_cuts, local_decided, local_is, not_landed, returns_as}
use Rattle.cs_unwind.proofs.Pushing.{stopped}
use Rattle.cs_unwind.proofs.Walking.{told}
use Rattle.cs_model.specs.End.{Out}
use Rattle.cs_unwind.proofs.returns.to_sender.Goals as goal

pub leave-requires-clause-target : goal.leave-requires-clause-target
leave-requires-clause-target g c =
    let k = g.W.World.view c.args.w.now in
    let x = name_of (g.W.World.stored c.args.w.now) c.args.value in
    can_arrive k x
    (local_decided (g.W.World.act c.args.w.now) k x c.sender-target.result c.is-dies.result Free (told _ c.sender-target.ensures c.active-active.ensures)
    (λ i s. c.is-dies.ensures i (active_birth k) s c.active-active.ensures) c.in-Free.ensures)

pub returns-in-Never : goal.returns-in-Never
returns-in-Never g c =
    let k = g.W.World.view c.args.w.now in
    let x = name_of (g.W.World.stored c.args.w.now) c.args.value in
    returns_as _ _ _ _ _ _ _ _ _ _
    (local_is k x ∙ local_decided (g.W.World.act c.args.w.now) k x c.sender-target.result c.is-dies.result Never (told _ c.sender-target.ensures c.active-active.ensures)
    (λ i s. c.is-dies.ensures i (active_birth k) s c.active-active.ensures) c.in-Never.ensures) (c.cannot_return.ensures _)

pub returns-in-NoRoom : goal.returns-in-NoRoom
returns-in-NoRoom g c =
    let k = g.W.World.view c.args.w.now in
    let x = name_of (g.W.World.stored c.args.w.now) c.args.value in
    stopped (g.W.World.stored c.args.w.now) (g.W.World.layout c.args.w.now) k _ why.StackOver _ c.requires.ready
    (ap (λ (o : Out). o.end)
    (local_is k x ∙ local_decided (g.W.World.act c.args.w.now) k x c.sender-target.result c.is-dies.result NoRoom (told _ c.sender-target.ensures c.active-active.ensures)
    (λ i s. c.is-dies.ensures i (active_birth k) s c.active-active.ensures) c.in-NoRoom.ensures))

pub returns-in-Ok : goal.returns-in-Ok
returns-in-Ok g c =
    let k = g.W.World.view c.args.w.now in
    let v = g.W.World.view c.leave.new.self in
    let x = name_of (g.W.World.stored c.args.w.now) c.args.value in
    let e = c.in-Ok.ensures in
    let h = local_decided (g.W.World.act c.args.w.now) k x c.sender-target.result c.is-dies.result Free (told _ c.sender-target.ensures c.active-active.ensures)
    (λ i s. c.is-dies.ensures i (active_birth k) s c.active-active.ensures) c.in-Free.ensures in
    let same = leave_cuts k h.birth x c.requires.ready.running h.at in
    landed (g.W.World.stored c.args.w.now) (g.W.World.stored c.leave.new.self) (g.W.World.layout c.args.w.now) (g.W.World.layout c.leave.new.self) k v (cut_to_of k (active_birth k ∷ []) h.birth x) true _
    (local_is k x ∙ h.is) (subst (Keeps v) same (e.state k c.requires.ready.sound.closed)) (λ none. subst (SameKept v) same (e.exact none)) e.layout e.limit e.contexts e.ready e.names

pub returns-in-Err : goal.returns-in-Err
returns-in-Err g c =
    let k = g.W.World.view c.args.w.now in
    let t = g.W.World.stored c.leave.new.self in
    let l = g.W.World.layout c.args.w.now in
    let x = name_of (g.W.World.stored c.args.w.now) c.args.value in
    let e = c.in-Err.ensures in
    let h = local_decided (g.W.World.act c.args.w.now) k x c.sender-target.result c.is-dies.result Free (told _ c.sender-target.ensures c.active-active.ensures)
    (λ i s. c.is-dies.ensures i (active_birth k) s c.active-active.ensures) c.in-Free.ensures in
    not_landed (g.W.World.stored c.args.w.now) t l (g.W.World.layout c.leave.new.self) k (g.W.World.view c.leave.new.self) (cut_to_of k (active_birth k ∷ []) h.birth x) true _ c.in-Err.why
    (local_is k x ∙ h.is) e.limit e.heap_alone (subst (λ (m : Kept). CausesFull t l k 0 m c.in-Err.why) (leave_cuts k h.birth x c.requires.ready.running h.at) e.full)
