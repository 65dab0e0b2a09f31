use Rattle.std.proofs.Common.{◌≡◌, List, ap, sym, subst, ◌∙◌}
use Rattle.cs_heap.specs.Object.{Memory, with_object}
use Rattle.cs_frame.specs.declared.FrameRef.{FrameRef}
use Rattle.cs_frame.specs.Frame.{Frame}
use Rattle.cs_marriage.specs.Agree.{Agree, HasContext}
use Rattle.cs_marriage.specs.Marriage.{base_frame, linked}
use Rattle.cs_marriage.proofs.Based.{agree_based, alone, alone_frame, alone_is}
use Rattle.cs_marriage.proofs.basing.base.Goals as goal

pub returns-clause-agree : goal.returns-clause-agree
returns-clause-agree c =
    let os = c.args.heap.now.objects in
    let ps = c.args.frames.now in
    let a = c.args.ctx.0 in
    let p = c.args.page in
    let r : FrameRef = c.build_base-f.result in
    let place : (record { page = p; at = 0 }) ≡ r =
    sym (ap (λ n. record { page = n; at = r.at }) c.build_base-f.ensures.page ∙ ap (λ n. record { page = p; at = n }) c.build_base-f.ensures.at) in
    subst (Agree c.vacate.new.heap.objects) (sym c.build_base-f.ensures.frames)
    (subst (λ (h : Memory). Agree h.objects (alone ps p (base_frame os a))) (sym c.vacate.ensures.heap)
    (subst (λ (q : FrameRef). Agree (with_object os a (linked q)) (alone ps p (base_frame os a))) place
    (agree_based os ps a p c.requires.agree c.requires.context c.requires.page c.requires.empty)))

pub returns-clause-married : goal.returns-clause-married
returns-clause-married c =
    let os = c.args.heap.now.objects in
    let ps = c.args.frames.now in
    let a = c.args.ctx.0 in
    let p = c.args.page in
    let r : FrameRef = c.build_base-f.result in
    let place : (record { page = p; at = 0 }) ≡ r =
    sym (ap (λ n. record { page = n; at = r.at }) c.build_base-f.ensures.page ∙ ap (λ n. record { page = p; at = n }) c.build_base-f.ensures.at) in
    subst (λ (qs : List (List Frame)). HasContext qs a r) (sym c.build_base-f.ensures.frames)
    (subst (HasContext (alone ps p (base_frame os a)) a) place
    (alone_frame ps p c.requires.page (base_frame os a), ap (λ (f : Frame). f.context) (alone_is ps p c.requires.page (base_frame os a))))
