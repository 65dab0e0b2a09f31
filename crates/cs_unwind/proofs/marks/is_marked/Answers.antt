use Rattle.std.proofs.Common.{◌≡◌, ◌∙◌, Bool, ap, subst, IfSome}
use Rattle.std.specs.Prelude.{◌&&◌}
use Rattle.cs_model.specs.Return.{is_marked}
use Rattle.cs_model.specs.Ref.{same_ref}
use Rattle.cs_acts.specs.Names.{name_of}
use Rattle.cs_unwind.proofs.Marked.{marked, unmarked}
use Rattle.cs_unwind.proofs.marks.is_marked.Goals as goal

pub returns-then-same : goal.returns-then-same
returns-then-same g c =
    let s = g.W.World.stored c.args.w.now in
    let k = g.W.World.view c.args.w.now in
    subst (λ (b : Bool). IfSome (g.W.World.act c.args.w.now c.args.a) (λ i. (b && c.has_primitive.result) ≡ is_marked k c.args.number i)) c.if-same.true
    (marked k s c.args.number (g.W.World.act c.args.w.now c.args.a) c.act_closure.result c.act_method-method.result c.same.result c.requires.context c.act_closure.ensures c.act_method-method.ensures
    (c.same.ensures ∙ ap (same_ref (name_of s c.act_closure.result)) c.nil.ensures.is) c.has_primitive.result c.has_primitive.ensures)

pub returns-else-same : goal.returns-else-same
returns-else-same g c =
    let s = g.W.World.stored c.args.w.now in
    let k = g.W.World.view c.args.w.now in
    unmarked k s c.args.number (g.W.World.act c.args.w.now c.args.a) c.act_closure.result c.same.result c.requires.context c.act_closure.ensures
    (c.same.ensures ∙ ap (same_ref (name_of s c.act_closure.result)) c.nil.ensures.is) c.if-same.false
