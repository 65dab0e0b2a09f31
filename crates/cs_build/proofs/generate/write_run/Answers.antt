use Rattle.std.proofs.Common.{refl, ◌∙◌}
use Rattle.cs_build.proofs.RangeLemmas.{joined}
use Rattle.cs_build.proofs.generate.write_run.Goals as goal

pub returns : goal.returns
returns c = joined c.args.text.now.items c.args.text.now.items _ _ _ _ _ _ _ _ _ refl c.as_bytes.ensures.value
    (c.as_bytes-digits.ensures.value ∙ c.format.ensures.text) c.as_bytes-2.ensures.value
    c.in_ok-append.ensures c.in_ok-append-2.ensures c.in_ok-append-3.ensures
