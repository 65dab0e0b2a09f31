use Rattle.std.proofs.Common.{◌-◌, length, take, drop}
use Rattle.cs_build.proofs.OuterLemmas.{method_form-four, rest_of_words}
use Rattle.cs_build.proofs.outer.read_method.Goals as goal

pub returns : goal.returns
returns c = method_form-four _ _ (take (length c.args.words.now - 4) (drop 4 c.args.words.now)) _
    c.in-len4-up.len_at_least c.method_of.ensures (rest_of_words c.args.words.now 4)
