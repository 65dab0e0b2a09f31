-- The processes of a text that are ready, as the code keeps them.
use Rattle.std.specs.Prelude.{◌≡◌, ℕ, ◌+◌, ◌<◌, List, [], length, slice_index_or}
use Rattle.cs_model.specs.BuilderText as text
use Rattle.cs_model.specs.Builder.{last_ready, ready_in}
use Rattle.cs_build.specs.declared.ready.Queue.{Queue}
use Rattle.cs_build.specs.declared.ready.Ready.{Ready}
use Rattle.cs_build.specs.Numbered.{plain_names, mentioned}
use Rattle.cs_build.specs.Queued.{IsQueue}

-- the first lists, by priority from 1 on
abbrev pub AreQueues : List text.Form → List Queue → Type 0
AreQueues forms queues = (k : ℕ) (d : Queue) → k < length queues → IsQueue (slice_index_or queues k d) (last_ready forms (k + 1))

pub record AreReadied (forms : List text.Form) (r : Ready) : Type 0 where
  pub eight : length r.queues.items ≡ 8
  pub queues : AreQueues forms r.queues.items
  pub names : plain_names r.names.keys ≡ mentioned [] (ready_in forms)
