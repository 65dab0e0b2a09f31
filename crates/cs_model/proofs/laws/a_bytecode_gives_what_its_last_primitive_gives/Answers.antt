-- The law a bytecode gives what its last primitive gives.
use Rattle.cs_model.proofs.Trying.{followed_sent, none_tried, one_tried, two_tried, few_tried, answer_tried}
use Rattle.cs_model.proofs.laws.a_bytecode_gives_what_its_last_primitive_gives.Goals as goal

pub returns-clause-sent : goal.returns-clause-sent
returns-clause-sent c = followed_sent

pub returns-clause-none : goal.returns-clause-none
returns-clause-none c = none_tried

pub returns-clause-one : goal.returns-clause-one
returns-clause-one c = one_tried

pub returns-clause-two : goal.returns-clause-two
returns-clause-two c = two_tried

pub returns-clause-few : goal.returns-clause-few
returns-clause-few c = few_tried

pub returns-clause-answered : goal.returns-clause-answered
returns-clause-answered c = answer_tried
