use Rattle.std.proofs.Common.{sym, rules, ◌∙◌, to_z, of_z, w32}
use Rattle.cs_build.proofs.InnerLemmas.{one-none, one-some}
use Rattle.cs_build.proofs.inner.formed_of_one.Goals as goal

pub returns-in_err-n : goal.returns-in_err-n
returns-in_err-n c = λ z is. c.from_residual.ensures ∙ sym (one-none c.args.word.now z c.args.number (to_z w32 (of_z w32 c.args.number)) is c.in_err-n.ensures (search rules))

pub returns : goal.returns
returns c = λ z is. c.if_formed.ensures ∙ one-some c.args.word.now z c.args.number (to_z w32 (of_z w32 c.args.number)) _ _ is c.in_ok-n.ensures c.in_ok-op.ensures (search rules)
