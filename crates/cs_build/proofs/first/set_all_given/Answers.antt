use Rattle.std.proofs.Common.{ℕ, ◌+◌, List, map, drop, ap, sym, ◌∙◌}
use Rattle.std.specs.Prelude.{flat_map, fold}
use Rattle.std.proofs.lemmas.List.Sums.{fold-append}
use Rattle.cs_model.specs.Ref.{Ref}
use Rattle.cs_model.specs.BuilderText as text
use Rattle.cs_model.specs.Builder.{special_given, with_special}
use Rattle.cs_build.specs.declared.form.Form.{Form}
use Rattle.cs_build.specs.Laid.{reference_by}
use Rattle.cs_build.specs.Meaning.{form_by}
use Rattle.cs_build.specs.Standing.{forms_in}
use Rattle.cs_build.proofs.Walking.{walk_more, walk_all}
use Rattle.cs_build.proofs.first.set_all_given.Goals as goal

pub loop-form-preserved : goal.loop-form-preserved
loop-form-preserved c =
    let forms : List text.Form = forms_in c.args.numbering.now in
    let rest : List (ℕ × Ref) = flat_map (special_given (forms_in c.args.numbering.now)) (map form_by (drop (c.loop-form.form-index + 1) c.args.numbering.now.forms.now)) in
    walk_more (λ (refs : List Ref) (fs : List Form). fold with_special refs (flat_map (special_given (forms_in c.args.numbering.now)) (map form_by fs)))
    (map reference_by c.loop-form.slots) (map reference_by c.set_given.new.slots) c.args.numbering.now.forms.now c.loop-form.form-index c.form-item.result _ c.form-item.is c.loop-form-test.true
    (ap (λ (s : List Ref). fold with_special s rest) c.set_given.ensures
    ∙ sym (fold-append with_special (map reference_by c.loop-form.slots) (special_given forms (form_by c.form-item.result)) rest))
    c.loop-form.invariant

pub returns : goal.returns
returns c = walk_all (λ (fs : List Form). fold with_special (map reference_by c.loop-form.slots) (flat_map (special_given (forms_in c.args.numbering.now)) (map form_by fs)))
    c.args.numbering.now.forms.now c.loop-form.form-index _ c.loop-form-test.false c.loop-form.invariant
