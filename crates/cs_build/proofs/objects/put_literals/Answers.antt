use Rattle.std.proofs.Common.{◌+◌, ◌∷◌, ◌++◌, List, [], map, drop, ap, sym, ◌∙◌, append-nil}
use Rattle.cs_model.specs.Ref.{Ref}
use Rattle.cs_build.specs.declared.form.Form.{Form}
use Rattle.cs_build.specs.Laid.{reference_by}
use Rattle.cs_build.specs.Making.{method_literals}
use Rattle.cs_build.specs.Meaning.{form_by}
use Rattle.cs_build.specs.Standing.{forms_in}
use Rattle.cs_build.proofs.Walking.{walk_more, walk_all, put_more}
use Rattle.cs_build.proofs.Literals.{literals_cons}
use Rattle.cs_build.proofs.objects.put_literals.Goals as goal

pub loop-form-preserved : goal.loop-form-preserved
loop-form-preserved c =
    walk_more (λ (refs : List Ref) (forms : List Form). refs ++ method_literals (forms_in c.args.numbering.now) (map form_by forms))
    (map reference_by c.loop-form.slots.items) (map reference_by c.put_literal.new.slots.items) c.args.body.now c.loop-form.form-index c.form-item.result _
    c.form-item.is c.loop-form-test.true
    (put_more (map reference_by c.loop-form.slots.items) (map reference_by c.put_literal.new.slots.items) (method_literals (forms_in c.args.numbering.now) (form_by c.form-item.result ∷ []))
    (method_literals (forms_in c.args.numbering.now) (map form_by (drop (c.loop-form.form-index + 1) c.args.body.now))) c.in_ok-put_literal.ensures
    ∙ ap (λ (refs : List Ref). map reference_by c.loop-form.slots.items ++ refs)
    (sym (literals_cons (forms_in c.args.numbering.now) (form_by c.form-item.result) (map form_by (drop (c.loop-form.form-index + 1) c.args.body.now)))))
    c.loop-form.invariant

pub returns : goal.returns
returns c = sym (append-nil (map reference_by c.loop-form.slots.items))
    ∙ walk_all (λ (forms : List Form). map reference_by c.loop-form.slots.items ++ method_literals (forms_in c.args.numbering.now) (map form_by forms))
    c.args.body.now c.loop-form.form-index _ c.loop-form-test.false c.loop-form.invariant
