use Rattle.std.proofs.Common.{◌∙◌, sym}
use Rattle.cs_acts.specs.Names.{name_of}
use Rattle.cs_unwind.proofs.Closures.{finds_outer, no_method, no_outer}
use Rattle.cs_unwind.proofs.blocks.outer_method.Goals as goal

pub returns-then-not-is_context : goal.returns-then-not-is_context
returns-then-not-is_context g c =
    let s = g.W.World.stored c.args.w.now in
    no_outer (g.W.World.view c.args.w.now) (name_of s c.args.closure) (name_of s c.closure_slot-outer.result) c.closure_slot-outer.ensures.is (sym c.is_context.ensures ∙ c.if-not-is_context.true)

pub returns-then-is_method : goal.returns-then-is_method
returns-then-is_method g c =
    let s = g.W.World.stored c.args.w.now in
    finds_outer s (g.W.World.view c.args.w.now) (name_of s c.args.closure) (name_of s c.closure_slot-outer.result) (g.W.World.act c.args.w.now c.act_of.result) c.act_method-method.result
    c.closure_slot-outer.ensures.is (sym c.is_context.ensures ∙ c.if-not-is_context.false) c.act_of.ensures c.act_method-method.ensures (sym c.is_method.ensures ∙ c.if-is_method.true)

pub returns-else-is_method : goal.returns-else-is_method
returns-else-is_method g c =
    let s = g.W.World.stored c.args.w.now in
    no_method s (g.W.World.view c.args.w.now) (name_of s c.args.closure) (name_of s c.closure_slot-outer.result) (g.W.World.act c.args.w.now c.act_of.result) c.act_method-method.result
    c.closure_slot-outer.ensures.is (sym c.is_context.ensures ∙ c.if-not-is_context.false) c.act_of.ensures c.act_method-method.ensures (sym c.is_method.ensures ∙ c.if-is_method.false)
