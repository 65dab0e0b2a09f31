use Rattle.std.proofs.Common.{◌≡◌, ◌++◌, map}
use Rattle.std.specs.List.{range_with_len}
use Rattle.cs_model.specs.Builder.{list_object}
use Rattle.cs_build.specs.Laid.{laid, laid_by}
use Rattle.cs_build.specs.Standing.{forms_in}
use Rattle.cs_build.proofs.first.put_lists.Given as goal

abbrev pub invariant-loop-k : goal.invariant-loop-k
invariant-loop-k l = map laid_by l.objects.items ≡ map laid_by l.fn.objects.items ++ map laid (map (list_object (forms_in l.numbering)) (range_with_len 1 l.k))
