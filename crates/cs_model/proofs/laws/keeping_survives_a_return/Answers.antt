-- The law keeping survives a return.
use Rattle.cs_model.proofs.Surviving.{back-alike, local_out-alike, nonlocal_out-alike, cannot_return_out-alike, unwind_out-alike}
use Rattle.cs_model.proofs.Whole.{do_return-alike}
use Rattle.cs_model.proofs.laws.keeping_survives_a_return.Goals as goal

pub returns-clause-any : goal.returns-clause-any
returns-clause-any c = back-alike

pub returns-clause-local : goal.returns-clause-local
returns-clause-local c = local_out-alike

pub returns-clause-nonlocal : goal.returns-clause-nonlocal
returns-clause-nonlocal c = nonlocal_out-alike

pub returns-clause-refused : goal.returns-clause-refused
returns-clause-refused c = cannot_return_out-alike

pub returns-clause-unwound : goal.returns-clause-unwound
returns-clause-unwound c = unwind_out-alike

pub returns-clause-whole : goal.returns-clause-whole
returns-clause-whole c = do_return-alike
