use Rattle.std.proofs.Common.{ℕ, ◌+◌, List, Option, map, drop, ap, sym, ◌∙◌}
use Rattle.std.specs.Prelude.{filter_map}
use Rattle.std.specs.Option.{option_or}
use Rattle.cs_model.specs.BuilderText as text
use Rattle.cs_model.specs.Text.{first_that}
use Rattle.cs_model.specs.Builder.{active_name}
use Rattle.cs_build.specs.declared.form.Form.{Form}
use Rattle.cs_build.specs.Meaning.{form_by}
use Rattle.cs_build.proofs.Walking.{drop_read, walk_all}
use Rattle.cs_build.proofs.Firsting.{active_cons}
use Rattle.cs_build.proofs.first.active_name.Goals as goal

pub returns-in-Some : goal.returns-in-Some
returns-in-Some c =
    let rest : List text.Form = map form_by (drop (c.loop-form.form-index + 1) c.args.forms.now) in
    ap (λ (o : Option (List ℕ)). option_or o (first_that (filter_map active_name rest))) c.in-Some.ensures
    ∙ sym (active_cons (form_by c.form-item.result) rest)
    ∙ ap (λ (fs : List Form). first_that (filter_map active_name (map form_by fs))) (sym (drop_read c.args.forms.now c.loop-form.form-index c.form-item.result c.form-item.is c.loop-form-test.true))
    ∙ c.loop-form.invariant

pub loop-form-preserved : goal.loop-form-preserved
loop-form-preserved c =
    let rest : List text.Form = map form_by (drop (c.loop-form.form-index + 1) c.args.forms.now) in
    ap (λ (o : Option (List ℕ)). option_or o (first_that (filter_map active_name rest))) c.in_default.ensures
    ∙ sym (active_cons (form_by c.form-item.result) rest)
    ∙ ap (λ (fs : List Form). first_that (filter_map active_name (map form_by fs))) (sym (drop_read c.args.forms.now c.loop-form.form-index c.form-item.result c.form-item.is c.loop-form-test.true))
    ∙ c.loop-form.invariant

pub returns : goal.returns
returns c = walk_all (λ (fs : List Form). first_that (filter_map active_name (map form_by fs))) c.args.forms.now c.loop-form.form-index _ c.loop-form-test.false c.loop-form.invariant
