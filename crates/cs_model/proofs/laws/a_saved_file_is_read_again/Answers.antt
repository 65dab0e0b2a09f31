-- The law a saved file is read again.
use Rattle.cs_model.proofs.SavedFiles.{read_again, seen_again}
use Rattle.cs_model.proofs.laws.a_saved_file_is_read_again.Goals as goal

pub returns-clause-read : goal.returns-clause-read
returns-clause-read c = read_again

pub returns-clause-seen : goal.returns-clause-seen
returns-clause-seen c = seen_again
