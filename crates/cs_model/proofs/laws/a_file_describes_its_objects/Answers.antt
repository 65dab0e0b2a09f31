-- The law a file describes its objects.
use Rattle.cs_model.proofs.SavedDescribing.{state_there}
use Rattle.cs_model.proofs.laws.a_file_describes_its_objects.Goals as goal

pub returns : goal.returns
returns c = state_there
