-- The law the image of formed objects is their state.
use Rattle.cs_build.proofs.Imaging.{image_is}
use Rattle.cs_build.proofs.laws.the_image_of_formed_objects_is_their_state.Goals as goal

pub returns : goal.returns
returns c = image_is
