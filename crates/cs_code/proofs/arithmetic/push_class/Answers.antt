use Rattle.std.proofs.Common.{refl, ap, sym, ◌∙◌, ◌-◌}
use Rattle.cs_model.specs.End.{done}
use Rattle.cs_model.specs.Operation.{push_of, pop_of, set_stack_of}
use Rattle.cs_acts.specs.Names.{name_of}
use Rattle.cs_code.proofs.Through.{gives_done}
use Rattle.cs_code.proofs.Tops.{class-pushed, one-replaced}
use Rattle.cs_code.proofs.arithmetic.push_class.Goals as goal

pub returns-clause-gives : goal.returns-clause-gives
returns-clause-gives g c =
    let old = g.W.World.view c.args.w.now in
    let s = g.W.World.stored c.args.w.now in
    let class = name_of s c.class_or_nil-class.result in
    gives_done s (g.W.World.stored c.set_stack.new.self) (g.W.World.layout c.args.w.now) (g.W.World.view c.set_stack.new.self) (set_stack_of old (c.depth-depth.result - 1) class) _
    (class-pushed old (name_of s c.in-Some.x) c.in-Some.ensures.value.is
    ∙ ap done (sym (ap (λ n. set_stack_of old (n - 1) class) c.depth-depth.ensures.value ∙ one-replaced old class (c.in-Some.ensures.there refl) ∙ ap (push_of (pop_of old)) c.class_or_nil-class.ensures.is)))
    (c.set_stack.ensures.state old c.requires.sound.closed) c.set_stack.ensures.exact c.set_stack.ensures.ready c.set_stack.ensures.names
