-- The law the image of what is saved is the state.
use Rattle.cs_save.proofs.Saved.{image_same}
use Rattle.cs_save.proofs.the_image_of_what_is_saved_is_the_state.Goals as goal

pub returns : goal.returns
returns c = image_same
