use Rattle.std.proofs.Common.{◌≤◌, ◌∙◌, ap, refl, subst, sym}
use Rattle.cs_classes.specs.Meaning.{loaded_kept}
use Rattle.cs_model.specs.Due.{is_idle}
use Rattle.cs_model.specs.Read.{IsRunning}
use Rattle.cs_model.specs.Settle.{open_kept}
use Rattle.cs_model.specs.Step.{shape_fault}
use Rattle.cs_stack.proofs.Closed.{good_sound}
use Rattle.cs_stack.proofs.Laid.{fresh_one}
use Rattle.cs_stack.proofs.Opening.{made_good, made_runs, made_view}
use Rattle.cs_model.proofs.Opening.{scheduled}
use Rattle.cs_stack.proofs.StackWorld.new.Goals as goal

pub invariant_of-world : goal.invariant_of-world
invariant_of-world c =
    let heap = c.args.loaded.heap in
    made_good c.args.loaded c.args.pages c.in_ok-order.order c.in_ok-frames.frames c.requires.whole c.requires.senders c.in_ok-order.ensures.free c.in_ok-frames.ensures.empty c.requires.few.1
    (subst (λ n. n ≤ heap.limit) c.used_words-used.ensures.value c.used_words-used.ensures.within)
    (subst (λ n. n ≤ 67108864) c.limit_words-limit.ensures.value c.limit_words-limit.ensures.most)
    c.requires.births c.requires.pcs c.requires.nil c.in_ok-order.ensures.sound

pub open-requires-clause-sound : goal.open-requires-clause-sound
open-requires-clause-sound c =
    let heap = c.args.loaded.heap in
    good_sound _ (made_good c.args.loaded c.args.pages c.in_ok-order.order c.in_ok-frames.frames c.requires.whole c.requires.senders c.in_ok-order.ensures.free c.in_ok-frames.ensures.empty c.requires.few.1
    (subst (λ n. n ≤ heap.limit) c.used_words-used.ensures.value c.used_words-used.ensures.within)
    (subst (λ n. n ≤ 67108864) c.limit_words-limit.ensures.value c.limit_words-limit.ensures.most)
    c.requires.births c.requires.pcs c.requires.nil c.in_ok-order.ensures.sound)

pub open-requires-clause-running : goal.open-requires-clause-running
open-requires-clause-running c =
    let heap = c.args.loaded.heap in
    made_runs c.args.loaded c.args.pages c.in_ok-order.order c.in_ok-frames.frames c.requires.whole c.requires.senders c.in_ok-order.ensures.free c.in_ok-frames.ensures.empty c.requires.few.1
    (subst (λ n. n ≤ heap.limit) c.used_words-used.ensures.value c.used_words-used.ensures.within)
    (subst (λ n. n ≤ 67108864) c.limit_words-limit.ensures.value c.limit_words-limit.ensures.most)
    c.requires.births c.requires.pcs c.requires.nil c.in_ok-order.ensures.sound c.requires.running

pub returns-clause-view : goal.returns-clause-view
returns-clause-view c =
    let heap = c.args.loaded.heap in
    c.open.ensures.view ∙ ap open_kept (made_view c.args.loaded c.args.pages c.in_ok-order.order c.in_ok-frames.frames c.requires.whole c.requires.senders c.in_ok-order.ensures.free c.in_ok-frames.ensures.empty c.requires.few.1
    (subst (λ n. n ≤ heap.limit) c.used_words-used.ensures.value c.used_words-used.ensures.within)
    (subst (λ n. n ≤ 67108864) c.limit_words-limit.ensures.value c.limit_words-limit.ensures.most)
    c.requires.births c.requires.pcs c.requires.nil c.in_ok-order.ensures.sound)

pub returns-clause-idle : goal.returns-clause-idle
returns-clause-idle c = ap is_idle (returns-clause-view c) ∙ (scheduled (loaded_kept c.args.loaded) refl c.requires.running).idle

pub returns-clause-shape : goal.returns-clause-shape
returns-clause-shape c = ap shape_fault (returns-clause-view c) ∙ (scheduled (loaded_kept c.args.loaded) refl c.requires.running).shape

pub returns-clause-ready : goal.returns-clause-ready
returns-clause-ready c active =
    record { sound = c.open.ensures.sound; running = subst IsRunning (sym (returns-clause-view c)) (c.requires.running (sym (returns-clause-idle c) ∙ active)) }

pub returns-clause-fresh : goal.returns-clause-fresh
returns-clause-fresh c = fresh_one c.open.new.self c.open.ensures.one c.open.ensures.alone
