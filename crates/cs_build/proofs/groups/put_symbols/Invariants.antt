use Rattle.std.proofs.Common.{◌≡◌, ◌++◌, map, drop}
use Rattle.cs_model.specs.Builder.{raw_object}
use Rattle.cs_build.specs.Laid.{laid, laid_by}
use Rattle.cs_build.specs.Numbered.{plain_names}
use Rattle.cs_build.proofs.groups.put_symbols.Given as goal

abbrev pub invariant-loop-name : goal.invariant-loop-name
invariant-loop-name l = map laid_by l.objects.items ++ map laid (map (raw_object 41) (plain_names (drop l.name-index l.name-items)))
    ≡ map laid_by l.fn.objects.items ++ map laid (map (raw_object 41) (plain_names l.name-items))
