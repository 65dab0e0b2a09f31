-- The law an address names the birth of its object.
use Rattle.cs_model.proofs.SavedBirths.{birth_by_number}
use Rattle.cs_model.proofs.laws.an_address_names_the_birth_of_its_object.Goals as goal

pub returns : goal.returns
returns c = birth_by_number
