use Rattle.cs_build.proofs.groups.take_group.Goals as goal

pub returns-in-Some-clause-rest : goal.returns-in-Some-clause-rest
returns-in-Some-clause-rest c = λ q. c.in-Some.ensures.updates.0 (record { ref_ptr = (0, 0); now = q })
