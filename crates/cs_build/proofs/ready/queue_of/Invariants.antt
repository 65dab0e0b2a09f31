use Rattle.std.proofs.Common.{map, take}
use Rattle.cs_build.specs.Meaning.{form_by}
use Rattle.cs_build.specs.Queued.{IsQueue, has_in, ready_lists}
use Rattle.cs_build.proofs.ready.queue_of.Given as goal

abbrev pub invariant-loop-form : goal.invariant-loop-form
invariant-loop-form l = IsQueue l.queue (ready_lists (has_in l.priorities l.priority) (map form_by (take l.form-index l.forms)))
