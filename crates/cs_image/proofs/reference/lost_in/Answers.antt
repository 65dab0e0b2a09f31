use Rattle.std.proofs.Common.{sym, ◌∙◌}
use Rattle.cs_image.proofs.Scanning.{word_here, word_later, words_all, words_end}
use Rattle.cs_image.proofs.reference.lost_in.Goals as goal

pub loop-i-preserved : goal.loop-i-preserved
loop-i-preserved c =
    sym (word_later c.args.file.now c.args.place c.args.words.now c.loop-i.i c.loop-i-test.true (sym c.is_lost_word.ensures ∙ c.if-is_lost_word.false))
    ∙ c.loop-i.invariant

pub returns-then-is_lost_word-clause-value : goal.returns-then-is_lost_word-clause-value
returns-then-is_lost_word-clause-value c =
    sym (word_here c.args.file.now c.args.place c.args.words.now c.loop-i.i c.loop-i-test.true (sym c.is_lost_word.ensures ∙ c.if-is_lost_word.true))
    ∙ c.loop-i.invariant ∙ words_all c.args.file.now c.args.place c.args.words.now

pub returns-clause-value : goal.returns-clause-value
returns-clause-value c =
    sym (words_end c.args.file.now c.args.place c.args.words.now c.loop-i.i c.loop-i-test.false)
    ∙ c.loop-i.invariant ∙ words_all c.args.file.now c.args.place c.args.words.now
