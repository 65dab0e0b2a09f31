-- The law keeping survives a switch.
use Rattle.cs_model.proofs.Surviving.{add_last-alike, add_first-alike, add_preempted-alike, start-alike, start_next-alike, resume-alike, signal-alike, wait-alike, suspend-alike, give_way-alike}
use Rattle.cs_model.proofs.laws.keeping_survives_a_switch.Goals as goal

pub returns-clause-added : goal.returns-clause-added
returns-clause-added c = add_last-alike

pub returns-clause-added_first : goal.returns-clause-added_first
returns-clause-added_first c = add_first-alike

pub returns-clause-added_preempted : goal.returns-clause-added_preempted
returns-clause-added_preempted c = add_preempted-alike

pub returns-clause-started : goal.returns-clause-started
returns-clause-started c = start-alike

pub returns-clause-next : goal.returns-clause-next
returns-clause-next c = start_next-alike

pub returns-clause-resumed : goal.returns-clause-resumed
returns-clause-resumed c = resume-alike

pub returns-clause-signalled : goal.returns-clause-signalled
returns-clause-signalled c = signal-alike

pub returns-clause-waited : goal.returns-clause-waited
returns-clause-waited c = wait-alike

pub returns-clause-suspended : goal.returns-clause-suspended
returns-clause-suspended c = suspend-alike

pub returns-clause-yielded : goal.returns-clause-yielded
returns-clause-yielded c = give_way-alike
