use Rattle.cs_cli.proofs.top.answer.Goals as goal

pub returns-in-Run-clause-answered : goal.returns-in-Run-clause-answered
returns-in-Run-clause-answered g c = rw c.in-Run.is c.run_file.ensures.answered

pub returns-in-Inspect-clause-answered : goal.returns-in-Inspect-clause-answered
returns-in-Inspect-clause-answered g c = rw c.in-Inspect.is c.inspect.ensures.answered

pub returns-in-Same-clause-answered : goal.returns-in-Same-clause-answered
returns-in-Same-clause-answered g c = rw c.in-Same.is c.same.ensures.answered

pub returns-in-Build-clause-answered : goal.returns-in-Build-clause-answered
returns-in-Build-clause-answered g c = rw c.in-Build.is c.build_file.ensures.answered

pub returns-in-Gen-clause-answered : goal.returns-in-Gen-clause-answered
returns-in-Gen-clause-answered g c = rw c.in-Gen.is c.generate.ensures
