use Rattle.cs_send.proofs.Lookups.{found_in_state, found_method}
use Rattle.cs_send.proofs.Sender.look_up.Goals as goal

pub returns-clause-lookup : goal.returns-clause-lookup
returns-clause-lookup g c =
    found_in_state (g.W.World.stored c.args.w.now) (g.W.World.view c.args.w.now) c.heap.result.now c.args.class c.args.selector c.find.result c.heap.ensures c.requires.sound.holds c.find.ensures.lookup

pub returns-clause-method : goal.returns-clause-method
returns-clause-method g c =
    found_method (g.W.World.stored c.args.w.now) (g.W.World.view c.args.w.now) c.heap.result.now c.find.result c.heap.ensures c.requires.sound.holds c.find.ensures.method
