use Rattle.std.proofs.Common.{◌≡◌, ◌+◌, pos, [], ◌∷◌, ◌∙◌, arith, ap, subst}
use Rattle.std.proofs.lemmas.Int.{ints}
use Rattle.cs_model.specs.Ref.{Ref, Small}
use Rattle.cs_model.specs.Exec.{attempt_to_assign, push_all, refuse_store, special_send_out}
use Rattle.cs_model.proofs.Executing.{special_send_alike}
use Rattle.cs_acts.specs.Names.{name_of}
use Rattle.cs_code.specs.declared.end.CodeEnd.TheVariants as code
use Rattle.cs_code.specs.Gives.{Gives}
use Rattle.cs_code.proofs.Refusing.{ends-given, then-given}
use Rattle.cs_code.proofs.stores.refuse_store.Goals as goal

pub returns-in-Done-clause-gives : goal.returns-in-Done-clause-gives
unfolding refuse_store
returns-in-Done-clause-gives g c =
    let k = g.W.World.view c.args.w.now in
    let s0 = g.W.World.stored c.args.w.now in
    let s1 = g.W.World.stored c.push_three.new.w in
    let v1 = g.W.World.view c.push_three.new.w in
    let l = g.W.World.layout c.args.w.now in
    let number : name_of s0 c.small_word-number.result ≡ Small (pos (c.args.i + 1)) = (c.small_word-number.ensures s0).is ∙ ap (λ z. Small z) (omega (arith, ints, c.from.ensures)) in
    then-given s0 s1 s1 l (g.W.World.layout c.push_three.new.w) v1 v1 c.send_special.result (push_all (name_of s0 c.args.target ∷ name_of s0 c.args.x ∷ Small (pos (c.args.i + 1)) ∷ []) k)
    (λ t. special_send_out t attempt_to_assign 2) (λ t keeps. special_send_alike keeps attempt_to_assign 2)
    (subst (λ (r : Ref). Gives s0 s1 l v1 code.Done (push_all (name_of s0 c.args.target ∷ name_of s0 c.args.x ∷ r ∷ []) k)) number c.in-Done.ensures.gives)
    c.push_three.ensures.layout c.send_special.ensures

pub returns-in_default : goal.returns-in_default
unfolding refuse_store
returns-in_default g c =
    let k = g.W.World.view c.args.w.now in
    let s0 = g.W.World.stored c.args.w.now in
    let s1 = g.W.World.stored c.push_three.new.w in
    let v1 = g.W.World.view c.push_three.new.w in
    let l = g.W.World.layout c.args.w.now in
    let number : name_of s0 c.small_word-number.result ≡ Small (pos (c.args.i + 1)) = (c.small_word-number.ensures s0).is ∙ ap (λ z. Small z) (omega (arith, ints, c.from.ensures)) in
    record {
      gives = ends-given s0 s1 l v1 c.push_three.result (push_all (name_of s0 c.args.target ∷ name_of s0 c.args.x ∷ Small (pos (c.args.i + 1)) ∷ []) k)
          (λ t. special_send_out t attempt_to_assign 2) c.in_default.not-Done
          (subst (λ (r : Ref). Gives s0 s1 l v1 c.push_three.result (push_all (name_of s0 c.args.target ∷ name_of s0 c.args.x ∷ r ∷ []) k)) number c.push_three.ensures.gives);
      layout = c.push_three.ensures.layout;
      limit = c.push_three.ensures.limit;
      contexts = c.push_three.ensures.contexts;
    }
