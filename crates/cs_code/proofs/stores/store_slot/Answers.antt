use Rattle.std.proofs.Common.{◌≡◌, ◌∙◌, ap, sym, subst}
use Rattle.cs_model.specs.End.{done}
use Rattle.cs_model.specs.Operation.{store_of}
use Rattle.cs_acts.specs.Names.{name_of}
use Rattle.cs_acts.specs.Storing.{target_of}
use Rattle.cs_acts.specs.declared.store.StoreTarget.TheVariants.{Missing, ReadOnly, Writable}
use Rattle.cs_code.specs.Bare.{bare_of}
use Rattle.cs_code.specs.Gives.{Gives}
use Rattle.cs_code.proofs.Fields.{slot-missing, slot-refused, slot-written}
use Rattle.cs_code.proofs.Through.{gives_done, gives_stop}
use Rattle.cs_code.proofs.stores.store_slot.Goals as goal

pub returns-in-Missing-clause-gives : goal.returns-in-Missing-clause-gives
returns-in-Missing-clause-gives g c =
    let k = g.W.World.view c.args.w.now in
    let s = g.W.World.stored c.args.w.now in
    let r = name_of s c.args.target in
    let met : target_of k r c.args.i ≡ Missing = cc in
    gives_stop s (g.W.World.layout c.args.w.now) k c.args.missing _ (slot-missing k (bare_of c.args.on_stack k) r (name_of s c.args.x) c.args.i c.args.missing met) c.requires.ready

pub returns-in-ReadOnly-clause-gives : goal.returns-in-ReadOnly-clause-gives
returns-in-ReadOnly-clause-gives g c =
    let k = g.W.World.view c.args.w.now in
    let s = g.W.World.stored c.args.w.now in
    let r = name_of s c.args.target in
    let met : target_of k r c.args.i ≡ ReadOnly = cc in
    subst (λ o. Gives s (g.W.World.stored c.refuse_slot.new.w) (g.W.World.layout c.args.w.now) (g.W.World.view c.refuse_slot.new.w) c.refuse_slot.result o)
    (sym (slot-refused k (bare_of c.args.on_stack k) r (name_of s c.args.x) c.args.i c.args.missing met)) c.refuse_slot.ensures.gives

pub returns-in-Writable-clause-gives : goal.returns-in-Writable-clause-gives
returns-in-Writable-clause-gives g c =
    let k = g.W.World.view c.args.w.now in
    let s = g.W.World.stored c.args.w.now in
    let r = name_of s c.args.target in
    let x = name_of s c.args.x in
    let met : target_of k r c.args.i ≡ Writable = cc in
    gives_done s (g.W.World.stored c.store.new.self) (g.W.World.layout c.args.w.now) (g.W.World.view c.store.new.self) (store_of k r c.from-in-Writable.result x) _
    (slot-written k (bare_of c.args.on_stack k) r x c.args.i c.args.missing met ∙ ap (λ i. done (store_of k r i x)) (sym c.from-in-Writable.ensures))
    (c.store.ensures.state k c.requires.ready.sound.closed) c.store.ensures.exact (c.store.ensures.ready c.requires.ready) c.store.ensures.names
