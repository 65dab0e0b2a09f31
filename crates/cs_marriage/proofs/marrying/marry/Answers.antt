use Rattle.std.proofs.Common.{◌≡◌, List, sym, subst, ◌∙◌, arith}
use Rattle.cs_heap.specs.Object.{Memory}
use Rattle.cs_frame.specs.Frame.{Frame, with_context}
use Rattle.cs_frame.specs.Page.{frame, on_frame}
use Rattle.cs_marriage.proofs.Places.{not_apart}
use Rattle.cs_marriage.specs.Agree.{Agree, HasContext, IsContextAt}
use Rattle.cs_marriage.proofs.Agreeing.{agree_married, context_again, context_new, has_spouse, new_aligned}
use Rattle.cs_marriage.proofs.marrying.marry.Goals as goal

pub returns-then-ne-clause-frames : goal.returns-then-ne-clause-frames
returns-then-ne-clause-frames c = sym (context_again c.args.frames.now c.args.f c.context-known.result.0 c.context-known.ensures.context)

pub set_context-requires-clause-value : goal.set_context-requires-clause-value
set_context-requires-clause-value c =
    let ps = c.args.frames.now in
    let none : (frame ps c.args.f).context ≡ 65536 = sym c.context-known.ensures.context ∙ not_apart c.context-known.result.0 65536 c.if-ne.ensures in
    let aligned = new_aligned c.args.heap.now.objects ps c.args.f c.in_ok-made.made.0 c.requires.agree c.requires.frame none c.in_ok-made.ensures.address in
    λ e. omega (arith, e, aligned)

pub returns-clause-agree : goal.returns-clause-agree
returns-clause-agree c =
    let ps = c.args.frames.now in
    let none : (frame ps c.args.f).context ≡ 65536 = sym c.context-known.ensures.context ∙ not_apart c.context-known.result.0 65536 c.if-ne.ensures in
    subst (Agree c.new_context.new.heap.objects) (sym c.set_context.ensures.context)
    (subst (λ (h : Memory). Agree h.objects (on_frame ps c.args.f (with_context c.in_ok-made.made.0))) (sym c.in_ok-made.ensures.added)
    (agree_married c.args.heap.now.objects ps c.args.f c.in_ok-made.made.0 c.requires.agree c.requires.frame none c.in_ok-made.ensures.address))

pub returns-clause-stands : goal.returns-clause-stands
returns-clause-stands c =
    let none : (frame c.args.frames.now c.args.f).context ≡ 65536 = sym c.context-known.ensures.context ∙ not_apart c.context-known.result.0 65536 c.if-ne.ensures in
    subst (λ (h : Memory). IsContextAt h.objects c.in_ok-made.made.0) (sym c.in_ok-made.ensures.added)
    (context_new c.args.heap.now.objects c.args.frames.now c.args.f c.in_ok-made.made.0 c.requires.agree c.requires.frame none c.in_ok-made.ensures.address)

pub returns-clause-married : goal.returns-clause-married
returns-clause-married c =
    let none : (frame c.args.frames.now c.args.f).context ≡ 65536 = sym c.context-known.ensures.context ∙ not_apart c.context-known.result.0 65536 c.if-ne.ensures in
    subst (λ (ps : List (List Frame)). HasContext ps c.in_ok-made.made.0 c.args.f) (sym c.set_context.ensures.context)
    (has_spouse c.args.heap.now.objects c.args.frames.now c.args.f c.in_ok-made.made.0 c.requires.agree c.requires.frame none c.in_ok-made.ensures.address)
