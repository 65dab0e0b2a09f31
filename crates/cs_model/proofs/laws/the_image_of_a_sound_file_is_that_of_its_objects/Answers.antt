-- The law the image of a sound file is that of its objects.
use Rattle.cs_model.proofs.SavedDescribing.{image_there}
use Rattle.cs_model.proofs.laws.the_image_of_a_sound_file_is_that_of_its_objects.Goals as goal

pub returns : goal.returns
returns c = image_there
