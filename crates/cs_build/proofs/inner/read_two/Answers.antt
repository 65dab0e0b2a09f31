use Rattle.std.proofs.Common.{rules}
use Rattle.cs_model.specs.Text.{integer_in}
use Rattle.cs_build.proofs.InnerLemmas.{two-known}
use Rattle.cs_build.proofs.inner.read_two.Goals as goal

pub returns : goal.returns
returns c =
    two-known c.args.word.now (integer_in c.args.first.now) (integer_in c.args.second.now) _ _ _ _ _ _ c.in_ok-a.ensures c.in_ok-b.ensures c.in_ok-_known.ensures c.formed_of_two.ensures (search rules) (search rules)
