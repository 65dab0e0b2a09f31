use Rattle.std.proofs.Common.{ℕ, ◌+◌, List, [], ◌∷◌, map, drop, ap, sym, ◌∙◌}
use Rattle.cs_model.specs.Builder.{ready_in}
use Rattle.cs_build.specs.declared.form.Form.{Form}
use Rattle.cs_build.specs.Meaning.{form_by}
use Rattle.cs_build.specs.Numbered.{plain_names, mentioned}
use Rattle.cs_build.proofs.Walking.{walk_more, walk_all}
use Rattle.cs_build.proofs.Noting.{mentioned_more, mentioned_none}
use Rattle.cs_build.proofs.Queueing.{ready_cons}
use Rattle.cs_build.proofs.ready.ready_names.Goals as goal

pub loop-form-init : goal.loop-form-init
loop-form-init c = ap (λ keys. mentioned (plain_names keys) (ready_in (map form_by c.args.forms.now))) c.new-names.ensures.empty

pub loop-form-preserved : goal.loop-form-preserved
loop-form-preserved c =
    walk_more (λ (names : List (List ℕ)) (forms : List Form). mentioned names (ready_in (map form_by forms)))
    (plain_names c.loop-form.names.keys) (plain_names c.note_ready.new.names.keys) c.args.forms.now c.loop-form.form-index c.form-item.result _
    c.form-item.is c.loop-form-test.true
    (mentioned_more (plain_names c.note_ready.new.names.keys) (plain_names c.loop-form.names.keys) (ready_in (form_by c.form-item.result ∷ []))
    (ready_in (map form_by (drop (c.loop-form.form-index + 1) c.args.forms.now))) c.in_ok-note_ready.ensures
    ∙ ap (mentioned (plain_names c.loop-form.names.keys)) (sym (ready_cons (form_by c.form-item.result) (map form_by (drop (c.loop-form.form-index + 1) c.args.forms.now)))))
    c.loop-form.invariant

pub returns : goal.returns
returns c = sym (mentioned_none (plain_names c.loop-form.names.keys))
    ∙ walk_all (λ (forms : List Form). mentioned (plain_names c.loop-form.names.keys) (ready_in (map form_by forms)))
    c.args.forms.now c.loop-form.form-index _ c.loop-form-test.false c.loop-form.invariant
