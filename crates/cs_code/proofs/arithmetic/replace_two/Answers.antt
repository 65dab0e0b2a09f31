use Rattle.std.proofs.Common.{arith, ap, sym, ◌∙◌, ◌-◌}
use Rattle.cs_model.specs.End.{done}
use Rattle.cs_model.specs.Operation.{pop_of, set_stack_of}
use Rattle.cs_acts.specs.Names.{name_of}
use Rattle.cs_acts.proofs.Leading.{names-trans}
use Rattle.cs_code.proofs.Through.{exact-behind, gives_done}
use Rattle.cs_code.proofs.Tops.{depth-stored, two-replaced}
use Rattle.cs_code.proofs.arithmetic.replace_two.Goals as goal

pub pop-requires-clause-there : goal.pop-requires-clause-there
pop-requires-clause-there g c =
    let old = g.W.World.view c.args.w.now in
    omega (arith, depth-stored (g.W.World.view c.set_stack.new.self) old _ _ (c.set_stack.ensures.state old c.requires.ready.sound.closed), c.requires.there)

pub returns-clause-gives : goal.returns-clause-gives
returns-clause-gives g c =
    let old = g.W.World.view c.args.w.now in
    let s = g.W.World.stored c.args.w.now in
    let x = name_of s c.args.x in
    gives_done s (g.W.World.stored c.pop.new.self) (g.W.World.layout c.args.w.now) (g.W.World.view c.pop.new.self) (pop_of (set_stack_of old (c.depth-depth.result - 2) x)) _
    (ap done (sym (ap (λ n. pop_of (set_stack_of old (n - 2) x)) c.depth-depth.ensures.value ∙ two-replaced old x c.requires.there)))
    (c.pop.ensures.state (set_stack_of old (c.depth-depth.result - 2) x) (c.set_stack.ensures.state old c.requires.ready.sound.closed))
    (exact-behind (g.W.World.layout c.args.w.now) (g.W.World.layout c.set_stack.new.self) (g.W.World.view c.set_stack.new.self) (g.W.World.view c.pop.new.self) (set_stack_of old (c.depth-depth.result - 2) x) (λ t. pop_of t)
    c.set_stack.ensures.layout c.set_stack.ensures.exact c.pop.ensures.exact)
    c.pop.ensures.ready (names-trans s (g.W.World.stored c.set_stack.new.self) (g.W.World.stored c.pop.new.self) c.set_stack.ensures.names c.pop.ensures.names)
