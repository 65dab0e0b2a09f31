use Rattle.std.proofs.Common.{◌≡◌, false, subst, sym}
use Rattle.cs_model.specs.declared.instruction.Op.{Op}
use Rattle.cs_model.specs.Exec.{exec}
use Rattle.cs_code.specs.Built.{built_exec}
use Rattle.cs_code.specs.Gives.{Gives, Refuses, is_refused}
use Rattle.cs_code.proofs.exec.Goals as goal

pub returns-in-StoreVec-clause-gives : goal.returns-in-StoreVec-clause-gives
unfolding built_exec exec
returns-in-StoreVec-clause-gives g c =
    λ _. let old = g.W.World.view c.args.w.now in
    subst (λ (op : Op). Gives (g.W.World.stored c.args.w.now) (g.W.World.stored c.keep_vector.new.w) (g.W.World.layout c.args.w.now) (g.W.World.view c.keep_vector.new.w) c.keep_vector.result (built_exec op old)) (sym c.in-StoreVec.is) c.keep_vector.ensures.gives

pub returns-in-PopVec-clause-gives : goal.returns-in-PopVec-clause-gives
unfolding built_exec exec
returns-in-PopVec-clause-gives g c =
    λ _. let old = g.W.World.view c.args.w.now in
    subst (λ (op : Op). Gives (g.W.World.stored c.args.w.now) (g.W.World.stored c.pop_vector.new.w) (g.W.World.layout c.args.w.now) (g.W.World.view c.pop_vector.new.w) c.pop_vector.result (built_exec op old)) (sym c.in-PopVec.is) c.pop_vector.ensures.gives

pub returns-in-PushRcvr-clause-full : goal.returns-in-PushRcvr-clause-full
unfolding built_exec exec
returns-in-PushRcvr-clause-full g c why is =
    let old = g.W.World.view c.args.w.now in
    subst (λ (op : Op). Refuses (g.W.World.stored c.push_field.new.w) (g.W.World.layout c.args.w.now) old (built_exec op old) why) (sym c.in-PushRcvr.is) (c.push_field.ensures.full why is)

pub returns-in-ThisContext-clause-full : goal.returns-in-ThisContext-clause-full
unfolding built_exec exec
returns-in-ThisContext-clause-full g c why is =
    let old = g.W.World.view c.args.w.now in
    subst (λ (op : Op). Refuses (g.W.World.stored c.push_this.new.w) (g.W.World.layout c.args.w.now) old (built_exec op old) why) (sym c.in-ThisContext.is) (c.push_this.ensures.full why is)

pub returns-in-Closure-clause-gives : goal.returns-in-Closure-clause-gives
unfolding built_exec exec
returns-in-Closure-clause-gives g c =
    let old = g.W.World.view c.args.w.now in
    subst (λ (op : Op). is_refused c.make_closure.result ≡ false → Gives (g.W.World.stored c.args.w.now) (g.W.World.stored c.make_closure.new.w) (g.W.World.layout c.args.w.now) (g.W.World.view c.make_closure.new.w) c.make_closure.result (built_exec op old)) (sym c.in-Closure.is) c.make_closure.ensures.gives

pub returns-in-Closure-clause-full : goal.returns-in-Closure-clause-full
unfolding built_exec exec
returns-in-Closure-clause-full g c why is =
    let old = g.W.World.view c.args.w.now in
    subst (λ (op : Op). Refuses (g.W.World.stored c.make_closure.new.w) (g.W.World.layout c.args.w.now) old (built_exec op old) why) (sym c.in-Closure.is) (c.make_closure.ensures.full why is)
