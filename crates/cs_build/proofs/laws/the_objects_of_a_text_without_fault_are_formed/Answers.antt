-- The law the objects of a text without fault are formed.
use Rattle.cs_model.specs.BuilderFault.{forms_of}
use Rattle.cs_build.proofs.Faultless.{text_judged}
use Rattle.cs_build.proofs.Tabling.{text_table_is}
use Rattle.cs_build.proofs.TextFormed.{judged_formed}
use Rattle.cs_build.proofs.laws.the_objects_of_a_text_without_fault_are_formed.Goals as goal

pub returns : goal.returns
returns c = record {
  formed = λ text units none room. judged_formed (forms_of text) (text_judged text units none) room;
  classes = λ text units none. text_table_is (forms_of text) (text_judged text units none);
}
