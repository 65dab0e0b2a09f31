-- The law what is built is what a send finds.
use Rattle.cs_model.proofs.Finding.{out_built, send_offered, missing_unbuilt}
use Rattle.cs_model.proofs.laws.what_is_built_is_what_a_send_finds.Goals as goal

pub returns-clause-out : goal.returns-clause-out
returns-clause-out c = out_built

pub returns-clause-found : goal.returns-clause-found
returns-clause-found c = send_offered

pub returns-clause-missing : goal.returns-clause-missing
returns-clause-missing c = missing_unbuilt
