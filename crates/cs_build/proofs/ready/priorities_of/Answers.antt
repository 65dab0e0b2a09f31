use Rattle.std.proofs.Common.{ℕ, ◌+◌, ◌==◌, Bool, Bor, List, map, drop, ap, ◌∙◌}
use Rattle.std.specs.Prelude.{◌&&◌, ◌||◌}
use Rattle.std.specs.List.{list_any}
use Rattle.std.specs.Str.{bytes_eq}
use Rattle.cs_model.specs.Builder.{has_priority}
use Rattle.cs_build.specs.declared.form.Form.{Form}
use Rattle.cs_build.specs.Meaning.{form_by}
use Rattle.cs_build.specs.Queued.{has_in}
use Rattle.cs_build.proofs.Walking.{walk_more, walk_all}
use Rattle.cs_build.proofs.Queueing.{priority_more, or_nothing}
use Rattle.cs_build.proofs.ready.priorities_of.Goals as goal

pub loop-form-init : goal.loop-form-init
loop-form-init c = λ p n.
    ap (λ (keys : List (ℕ × Bor (List ℕ))). has_priority (map form_by c.args.forms.now) p n || list_any (λ (k : ℕ × Bor (List ℕ)). p == k.0 && bytes_eq n k.1.now) keys) c.new-priorities.ensures.empty
    ∙ or_nothing (has_priority (map form_by c.args.forms.now) p n)

pub loop-form-preserved : goal.loop-form-preserved
loop-form-preserved c = λ p n.
    walk_more (λ (b : Bool) (forms : List Form). has_priority (map form_by forms) p n || b)
    (has_in c.loop-form.priorities p n) (has_in c.note_priority.new.priorities p n) c.args.forms.now c.loop-form.form-index c.form-item.result _
    c.form-item.is c.loop-form-test.true
    (priority_more (form_by c.form-item.result) (map form_by (drop (c.loop-form.form-index + 1) c.args.forms.now)) p n _ _ (c.in_ok-note_priority.ensures p n))
    (c.loop-form.invariant p n)

pub returns : goal.returns
returns c = λ p n.
    walk_all (λ (forms : List Form). has_priority (map form_by forms) p n || has_in c.loop-form.priorities p n) c.args.forms.now c.loop-form.form-index _
    c.loop-form-test.false (c.loop-form.invariant p n)
