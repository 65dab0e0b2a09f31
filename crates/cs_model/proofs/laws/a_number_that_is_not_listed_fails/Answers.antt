-- The law a number that is not listed fails.
use Rattle.cs_model.proofs.Listing.{unlisted_built, unlisted_fails}
use Rattle.cs_model.proofs.laws.a_number_that_is_not_listed_fails.Goals as goal

pub returns-clause-fails : goal.returns-clause-fails
returns-clause-fails c = unlisted_fails

pub returns-clause-built : goal.returns-clause-built
returns-clause-built c = unlisted_built
