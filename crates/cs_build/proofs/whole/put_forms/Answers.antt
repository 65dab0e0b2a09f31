use Rattle.std.proofs.Common.{◌≡◌, ◌+◌, ◌++◌, true, List, map, drop, refl, ap, sym, subst, ◌∙◌, append-nil}
use Rattle.std.specs.Prelude.{flat_map}
use Rattle.std.specs.List.{list_all}
use Rattle.std.proofs.lemmas.List.{map-append}
use Rattle.cs_model.specs.Obj.{Obj}
use Rattle.cs_model.specs.BuilderText as text
use Rattle.cs_model.specs.Builder.{objects_in}
use Rattle.cs_build.specs.declared.form.Form.{Form}
use Rattle.cs_build.specs.Laid.{Laid, laid, laid_by}
use Rattle.cs_build.specs.Meaning.{form_by}
use Rattle.cs_build.specs.Sound.{is_sound}
use Rattle.cs_build.specs.Standing.{forms_in, has_number}
use Rattle.cs_build.proofs.Walking.{walk_more, walk_all, drop_read, put_more}
use Rattle.cs_build.proofs.Coding.{both_sound}
use Rattle.cs_build.proofs.MethodsFound.{all_numbered}
use Rattle.cs_build.proofs.Sounding.{and_true}
use Rattle.cs_build.proofs.whole.put_forms.Goals as goal

pub loop-form-init : goal.loop-form-init
loop-form-init c = record {
  sound = c.requires.stands.sound;
  numbered = all_numbered (forms_in c.args.numbering.now) (map form_by c.args.numbering.now.forms.now) c.requires.stands.whole;
  objects = refl;
}

pub put_form-requires-clause-sound : goal.put_form-requires-clause-sound
put_form-requires-clause-sound c = (both_sound (form_by c.form-item.result) (map form_by (drop (c.loop-form.form-index + 1) c.args.numbering.now.forms.now))
    (subst (λ (fs : List Form). list_all is_sound (map form_by fs) ≡ true) (drop_read c.args.numbering.now.forms.now c.loop-form.form-index c.form-item.result c.form-item.is c.loop-form-test.true) c.loop-form.invariant.sound)).0

pub put_form-requires-clause-numbered : goal.put_form-requires-clause-numbered
put_form-requires-clause-numbered c = (and_true (has_number (forms_in c.args.numbering.now) (form_by c.form-item.result)) (list_all (has_number (forms_in c.args.numbering.now)) (map form_by (drop (c.loop-form.form-index + 1) c.args.numbering.now.forms.now)))
    (subst (λ (fs : List Form). list_all (has_number (forms_in c.args.numbering.now)) (map form_by fs) ≡ true) (drop_read c.args.numbering.now.forms.now c.loop-form.form-index c.form-item.result c.form-item.is c.loop-form-test.true) c.loop-form.invariant.numbered)).0

pub loop-form-preserved : goal.loop-form-preserved
loop-form-preserved c =
    let make : text.Form → List Obj = objects_in (forms_in c.args.numbering.now) in
    let rest : List text.Form = map form_by (drop (c.loop-form.form-index + 1) c.args.numbering.now.forms.now) in
    record {
      sound = (both_sound (form_by c.form-item.result) (map form_by (drop (c.loop-form.form-index + 1) c.args.numbering.now.forms.now))
          (subst (λ (fs : List Form). list_all is_sound (map form_by fs) ≡ true) (drop_read c.args.numbering.now.forms.now c.loop-form.form-index c.form-item.result c.form-item.is c.loop-form-test.true) c.loop-form.invariant.sound)).1;
      numbered = (and_true (has_number (forms_in c.args.numbering.now) (form_by c.form-item.result)) (list_all (has_number (forms_in c.args.numbering.now)) (map form_by (drop (c.loop-form.form-index + 1) c.args.numbering.now.forms.now)))
          (subst (λ (fs : List Form). list_all (has_number (forms_in c.args.numbering.now)) (map form_by fs) ≡ true) (drop_read c.args.numbering.now.forms.now c.loop-form.form-index c.form-item.result c.form-item.is c.loop-form-test.true) c.loop-form.invariant.numbered)).1;
      objects = walk_more (λ (ls : List Laid) (fs : List Form). ls ++ map laid (flat_map make (map form_by fs))) (map laid_by c.loop-form.objects.items) (map laid_by c.put_form.new.objects.items)
          c.args.numbering.now.forms.now c.loop-form.form-index c.form-item.result _ c.form-item.is c.loop-form-test.true
          (put_more (map laid_by c.loop-form.objects.items) (map laid_by c.put_form.new.objects.items) (map laid (make (form_by c.form-item.result))) (map laid (flat_map make rest)) c.in_ok-put_form.ensures
          ∙ ap (λ (l : List Laid). map laid_by c.loop-form.objects.items ++ l) (sym (map-append laid (make (form_by c.form-item.result)) (flat_map make rest))))
          c.loop-form.invariant.objects;
    }

pub returns : goal.returns
returns c = sym (append-nil (map laid_by c.loop-form.objects.items))
    ∙ walk_all (λ (fs : List Form). map laid_by c.loop-form.objects.items ++ map laid (flat_map (objects_in (forms_in c.args.numbering.now)) (map form_by fs)))
    c.args.numbering.now.forms.now c.loop-form.form-index _ c.loop-form-test.false c.loop-form.invariant.objects
