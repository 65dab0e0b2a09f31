use Rattle.std.proofs.Common.{◌≡◌, ◌≤◌, ◌*◌, ◌++◌, map, drop, true}
use Rattle.std.specs.List.{list_all}
use Rattle.cs_model.specs.BuilderFault.{code_from}
use Rattle.cs_build.specs.Meaning.{form_by}
use Rattle.cs_build.specs.Sound.{is_sound}
use Rattle.cs_build.proofs.bytecodes.put_body.Given as goal

abbrev pub invariant-loop-form : goal.invariant-loop-form
invariant-loop-form l = record {
  few : l.place ≤ 4 * l.form-index;
  sound : list_all is_sound (map form_by (drop l.form-index l.body)) ≡ true;
  code : l.code.items ++ code_from (map form_by l.body) l.place (map form_by (drop l.form-index l.body))
      ≡ l.fn.code.items ++ code_from (map form_by l.body) 0 (map form_by l.body);
}
