use Rattle.cs_build.proofs.CodeLemmas.{plain-counted}
use Rattle.cs_build.proofs.code.plain_length.Goals as goal

pub returns-in-Some-clause-count : goal.returns-in-Some-clause-count
returns-in-Some-clause-count c = plain-counted _ _ _ _ c.in-Some.ensures.length c.in-Some.ensures.op c.in-Some.ensures.form c.len.ensures.value c.assemble.ensures.bytes
