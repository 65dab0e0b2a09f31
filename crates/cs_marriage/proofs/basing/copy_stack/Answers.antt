use Rattle.std.proofs.Common.{◌≡◌, ℕ, ◌<◌, List, [], ◌∷◌, ◌++◌, take, ap, sym, ◌∙◌, arith}
use Rattle.cs_heap.specs.Object.{words_at}
use Rattle.cs_classes.specs.Meaning.{depth_in}
use Rattle.cs_frame.specs.Frame.{Frame, value_pushed, with_values}
use Rattle.cs_frame.specs.Page.{frames_of, on_page, on_top}
use Rattle.cs_frame.proofs.PageLaws.{on_page-on_page, page_in}
use Rattle.cs_marriage.specs.Marriage.{stack_words}
use Rattle.cs_marriage.proofs.Based.{depth_is, stack_more, stacked_more}
use Rattle.cs_marriage.proofs.basing.copy_stack.Goals as goal

pub loop-i-preserved : goal.loop-i-preserved
loop-i-preserved c =
    let os = c.args.heap.now.objects in
    let a = c.args.ctx.0 in
    let ps = c.args.frames.now in
    let p = c.args.f.page in
    let i = c.loop-i.i in
    let xs = stack_words os a in
    let v = c.slot.result.0 in
    let ends : c.stack_depth-i-end.result ≡ depth_in (words_at os a) = c.stack_depth-i-end.ensures ∙ depth_is os a in
    let inside : i < depth_in (words_at os a) = omega (arith, c.loop-i-test.true, ends) in
    record {
      frames =
          c.push.ensures.pushed
          ∙ ap (λ (qs : List (List Frame)). on_page qs p (on_top (value_pushed v))) c.loop-i.invariant.frames
          ∙ on_page-on_page ps p (on_top (with_values (take i xs))) (on_top (value_pushed v)) (page_in ps p c.requires.top.0)
          ∙ ap (λ (fs : List Frame). on_page ps p (λ _. fs)) (stacked_more (take i xs) v (frames_of ps p))
          ∙ ap (λ n. on_page ps p (on_top (with_values (take i xs ++ n ∷ [])))) c.slot.ensures
          ∙ ap (λ (ys : List ℕ). on_page ps p (on_top (with_values ys))) (sym (stack_more os a c.requires.context i inside));
    }
