use Rattle.std.proofs.Common.{[], ◌∷◌, ◌∙◌}
use Rattle.cs_model.specs.Exec.{push_all, push_out}
use Rattle.cs_acts.specs.Names.{name_of}
use Rattle.cs_acts.proofs.Leading.{made-trans}
use Rattle.cs_code.proofs.Refusing.{ends-given, last-given, pushed-on}
use Rattle.cs_code.proofs.stores.push_three.Goals as goal

pub returns-in_default : goal.returns-in_default
unfolding push_all
returns-in_default g c =
    let k = g.W.World.view c.args.w.now in
    let s0 = g.W.World.stored c.args.w.now in
    record {
      gives = ends-given s0 (g.W.World.stored c.push.new.w) (g.W.World.layout c.args.w.now) (g.W.World.view c.push.new.w) c.push.result (push_out k (name_of s0 c.args.a))
          (λ t. push_all (name_of s0 c.args.b ∷ name_of s0 c.args.c ∷ []) t) c.in_default.not-Done c.push.ensures.gives;
      layout = c.push.ensures.layout;
      limit = c.push.ensures.limit;
      contexts = c.push.ensures.contexts;
    }

pub returns-in-Done-push-clause-gives : goal.returns-in-Done-push-clause-gives
returns-in-Done-push-clause-gives g c =
    let k = g.W.World.view c.args.w.now in
    let s0 = g.W.World.stored c.args.w.now in
    let s1 = g.W.World.stored c.push.new.w in
    let s2 = g.W.World.stored c.push-2.new.w in
    let s3 = g.W.World.stored c.push-in-Done-push.new.w in
    let v1 = g.W.World.view c.push.new.w in
    let v2 = g.W.World.view c.push-2.new.w in
    let v3 = g.W.World.view c.push-in-Done-push.new.w in
    let last = c.push-in-Done-push.result in
    pushed-on s0 s1 s3 (g.W.World.layout c.args.w.now) (g.W.World.layout c.push.new.w) k v1 v3 last (name_of s0 c.args.a) (c.args.b ∷ c.args.c ∷ []) (c.requires.second, (c.requires.third, tt)) c.in-Done.ensures.gives c.push.ensures.layout
    (pushed-on s1 s2 s3 (g.W.World.layout c.push.new.w) (g.W.World.layout c.push-2.new.w) v1 v2 v3 last (name_of s1 c.args.b) (c.args.c ∷ []) ((c.push.ensures.gives.names c.args.c c.requires.third).sound, tt) c.in-Done-push.ensures.gives c.push-2.ensures.layout
    (last-given s2 s3 (g.W.World.layout c.push-2.new.w) v3 v2 last (name_of s2 c.args.c) c.push-in-Done-push.ensures.gives))

pub returns-in_default-push : goal.returns-in_default-push
unfolding push_all
returns-in_default-push g c =
    let k = g.W.World.view c.args.w.now in
    let s0 = g.W.World.stored c.args.w.now in
    let s1 = g.W.World.stored c.push.new.w in
    let s2 = g.W.World.stored c.push-2.new.w in
    let v1 = g.W.World.view c.push.new.w in
    let v2 = g.W.World.view c.push-2.new.w in
    record {
      gives = pushed-on s0 s1 s2 (g.W.World.layout c.args.w.now) (g.W.World.layout c.push.new.w) k v1 v2 c.push-2.result (name_of s0 c.args.a) (c.args.b ∷ c.args.c ∷ []) (c.requires.second, (c.requires.third, tt)) c.in-Done.ensures.gives c.push.ensures.layout
          (ends-given s1 s2 (g.W.World.layout c.push.new.w) v2 c.push-2.result (push_out v1 (name_of s1 c.args.b)) (λ t. push_all (name_of s1 c.args.c ∷ []) t) c.in_default-push.not-Done c.push-2.ensures.gives);
      layout = c.push-2.ensures.layout ∙ c.push.ensures.layout;
      limit = c.push-2.ensures.limit ∙ c.push.ensures.limit;
      contexts = made-trans (g.W.World.layout c.args.w.now) (g.W.World.layout c.push.new.w) s0 s1 s2 0 0 c.push.ensures.layout c.push.ensures.contexts c.push-2.ensures.contexts;
    }
