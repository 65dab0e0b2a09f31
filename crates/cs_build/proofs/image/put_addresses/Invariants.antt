use Rattle.std.proofs.Common.{◌≡◌, ◌+◌, ◌++◌, map, take}
use Rattle.cs_build.specs.Laid.{laid_by, addresses_from, laid_size}
use Rattle.cs_build.proofs.image.put_addresses.Given as goal

abbrev pub invariant-loop-object : goal.invariant-loop-object
invariant-loop-object l = (l.place ≡ l.fn.place + laid_size (map laid_by (take l.object-index l.objects)))
    × (l.addresses.items ≡ l.fn.addresses.items ++ addresses_from l.fn.place (map laid_by (take l.object-index l.objects)))
