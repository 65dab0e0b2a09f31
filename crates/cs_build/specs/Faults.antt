-- The faults of a text as the code answers them.
use Rattle.cs_model.specs.BuilderFault as text
use Rattle.cs_model.specs.BuilderFault.{BuildFault}
use Rattle.cs_build.specs.declared.error.BuildError.{BuildError}
use Rattle.cs_build.specs.declared.error.BuildError.TheVariants as error

abbrev pub error_of : BuildFault → BuildError
error_of text.TooMany = error.TooMany
error_of (text.BadLine number) = error.BadLine number
error_of (text.Twice number) = error.Twice number
error_of (text.BadRange number) = error.BadRange number
error_of (text.BadName number) = error.BadName number
