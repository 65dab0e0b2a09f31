use Rattle.std.proofs.Common.{◌≡◌, ◌++◌, map, drop}
use Rattle.std.specs.Prelude.{flat_map}
use Rattle.std.specs.List.{enumerate_from}
use Rattle.cs_model.specs.Builder.{dictionary_objects}
use Rattle.cs_build.specs.Laid.{laid, laid_by}
use Rattle.cs_build.specs.Meaning.{class_by}
use Rattle.cs_build.specs.Standing.{forms_in}
use Rattle.cs_build.proofs.groups.put_dictionaries.Given as goal

abbrev pub invariant-loop-place : goal.invariant-loop-place
invariant-loop-place l = map laid_by l.objects.items
    ++ map laid (flat_map (λ e. dictionary_objects (forms_in l.numbering) e.0 e.1) (enumerate_from l.place (map class_by (drop l.place l.numbering.classes.lines.items))))
    ≡ map laid_by l.fn.objects.items ++ map laid (flat_map (λ e. dictionary_objects (forms_in l.numbering) e.0 e.1) (enumerate_from 0 (map class_by l.numbering.classes.lines.items)))
