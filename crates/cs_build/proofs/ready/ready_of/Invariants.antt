use Rattle.std.proofs.Common.{◌≡◌, ◌+◌, length, map}
use Rattle.cs_build.specs.Meaning.{form_by}
use Rattle.cs_build.specs.Readied.{AreQueues}
use Rattle.cs_build.proofs.ready.ready_of.Given as goal

abbrev pub invariant-loop-priority : goal.invariant-loop-priority
invariant-loop-priority l = record {
  count : length l.queues.items + 1 ≡ l.priority;
  queues : AreQueues (map form_by l.forms) l.queues.items;
}
