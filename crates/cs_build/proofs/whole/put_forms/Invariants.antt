use Rattle.std.proofs.Common.{◌≡◌, ◌++◌, true, map, drop}
use Rattle.std.specs.Prelude.{flat_map}
use Rattle.std.specs.List.{list_all}
use Rattle.cs_model.specs.Builder.{objects_in}
use Rattle.cs_build.specs.Laid.{laid, laid_by}
use Rattle.cs_build.specs.Meaning.{form_by}
use Rattle.cs_build.specs.Sound.{is_sound}
use Rattle.cs_build.specs.Standing.{forms_in, has_number}
use Rattle.cs_build.proofs.whole.put_forms.Given as goal

abbrev pub invariant-loop-form : goal.invariant-loop-form
invariant-loop-form l = record {
  sound : list_all is_sound (map form_by (drop l.form-index l.numbering.forms.now)) ≡ true;
  numbered : list_all (has_number (forms_in l.numbering)) (map form_by (drop l.form-index l.numbering.forms.now)) ≡ true;
  objects : map laid_by l.objects.items ++ map laid (flat_map (objects_in (forms_in l.numbering)) (map form_by (drop l.form-index l.numbering.forms.now)))
      ≡ map laid_by l.fn.objects.items ++ map laid (flat_map (objects_in (forms_in l.numbering)) (map form_by l.numbering.forms.now));
}
