use Rattle.std.proofs.Common.{sym, ◌∙◌}
use Rattle.cs_acts.proofs.Ahead.{decode_alone}
use Rattle.cs_acts.proofs.words.further_bytes.Goals as goal

pub returns-then-is_whole : goal.returns-then-is_whole
returns-then-is_whole c n = decode_alone n c.args.code 0 0 0 _ _ _ (sym c.is_whole.ensures ∙ c.if-is_whole.true)
