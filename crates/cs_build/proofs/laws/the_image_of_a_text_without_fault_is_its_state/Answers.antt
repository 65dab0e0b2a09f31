-- The law the image of a text without fault is its state.
use Rattle.cs_model.specs.BuilderFault.{forms_of}
use Rattle.cs_build.proofs.Faultless.{text_judged}
use Rattle.cs_build.proofs.TextFormed.{judged_image}
use Rattle.cs_build.proofs.laws.the_image_of_a_text_without_fault_is_its_state.Goals as goal

pub returns : goal.returns
returns c = λ text limit units none room. judged_image (forms_of text) limit (text_judged text units none) room
