use Rattle.std.proofs.Common.{arith, ◌∙◌, sym, ◌<◌, length}
use Rattle.cs_build.proofs.OuterLemmas.{slots-none, slots-step}
use Rattle.cs_build.proofs.outer.read_slots.Goals as goal

pub returns-in_default : goal.returns-in_default
returns-in_default c =
    let some : c.loop-word.word-index < length c.args.words.now = omega arith in
    sym (c.loop-word.invariant ∙ slots-none _ _ _ _ _ some c.in_default.ensures)

pub loop-word-preserved : goal.loop-word-preserved
loop-word-preserved c =
    let some : c.loop-word.word-index < length c.args.words.now = omega arith in
    rw (c.in_ok-push.ensures.items) (c.loop-word.invariant ∙ slots-step _ _ _ _ _ _ some c.in-Some.ensures)
