use Rattle.std.proofs.Common.{ℕ, Bool, List, map, take, ap, sym, subst, ◌∙◌}
use Rattle.std.proofs.lemmas.List.{take_all}
use Rattle.cs_model.specs.BuilderText as text
use Rattle.cs_build.specs.declared.form.Form.{Form}
use Rattle.cs_build.specs.Meaning.{form_by}
use Rattle.cs_build.specs.Queued.{IsQueue, has_in, ready_lists}
use Rattle.cs_build.proofs.Putting.{map_last}
use Rattle.cs_build.proofs.Queueing.{ready_more}
use Rattle.cs_build.proofs.ready.queue_of.Goals as goal

pub loop-form-preserved : goal.loop-form-preserved
loop-form-preserved c =
    let passes : List ℕ → Bool = has_in c.args.priorities.now c.args.priority in
    let before : List text.Form = map form_by (take c.loop-form.form-index c.args.forms.now) in
    subst (λ (names : List (List ℕ)). IsQueue c.add_ready.new.queue names)
    (sym (ap (ready_lists passes) (map_last form_by c.args.forms.now c.loop-form.form-index c.form-item.result c.form-item.is c.loop-form-test.true)
    ∙ ready_more passes before (form_by c.form-item.result)))
    (c.in_ok-add_ready.ensures (ready_lists passes before) c.loop-form.invariant)

pub returns : goal.returns
returns c = subst (λ (forms : List Form). IsQueue c.loop-form.queue (ready_lists (has_in c.args.priorities.now c.args.priority) (map form_by forms)))
    (take_all c.loop-form.form-index c.args.forms.now c.loop-form-test.false) c.loop-form.invariant
