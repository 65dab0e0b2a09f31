-- The entries so far are those of the names so far.
use Rattle.std.proofs.Common.{◌≡◌, map, string_bytes}
use Rattle.cs_shelf.specs.Memory.{new_entry}
use Rattle.cs_shelf.proofs.mem_shelf.new_entries.Given as goal

abbrev pub invariant-loop-name : goal.invariant-loop-name
invariant-loop-name l = l.entries.items ≡ map (new_entry l.room) (map string_bytes l.yielded)
