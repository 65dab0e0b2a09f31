use Rattle.std.proofs.Common.{rules, ◌∙◌, to_z, of_z, w32}
use Rattle.cs_build.proofs.InnerLemmas.{two-some}
use Rattle.cs_build.proofs.inner.formed_of_two.Goals as goal

pub returns : goal.returns
returns c = λ y z is are. c.if_formed.ensures ∙ two-some c.args.word.now y z c.args.a c.args.b (to_z w32 (of_z w32 c.args.a)) (to_z w32 (of_z w32 c.args.b)) _ _ _ is are c.in_ok-a.ensures c.in_ok-b.ensures c.in_ok-op.ensures (search rules) (search rules)
