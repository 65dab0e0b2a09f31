use Rattle.std.proofs.Common.{◌≡◌, ℕ, Bool, List, ◌++◌, ap, sym, subst, ◌∙◌}
use Rattle.cs_build.specs.declared.form.Form.{Form}
use Rattle.cs_build.specs.Meaning.{form_by}
use Rattle.cs_build.specs.Queued.{IsQueue, has_in, ready_at}
use Rattle.cs_build.proofs.Queueing.{ready_yes, ready_no}
use Rattle.cs_build.proofs.ready.add_ready.Goals as goal

pub returns-in_ok-add : goal.returns-in_ok-add
returns-in_ok-add c = λ names queue.
    let passes : List ℕ → Bool = has_in c.args.priorities.now c.args.priority in
    let there : c.contains.result ≡ passes c.in-Ready.name.now = c.contains.ensures in
    subst (λ (ns : List (List ℕ)). IsQueue c.add.new.self (ns ++ names))
    (sym (ap (λ (f : Form). ready_at passes (form_by f)) c.in-Ready.is ∙ ready_yes passes c.in-Ready.name.now (sym there ∙ c.if-contains.true)))
    (c.in_ok-add.ensures names queue)

pub returns-else-contains : goal.returns-else-contains
returns-else-contains c = λ names queue.
    let passes : List ℕ → Bool = has_in c.args.priorities.now c.args.priority in
    let there : c.contains.result ≡ passes c.in-Ready.name.now = c.contains.ensures in
    subst (λ (ns : List (List ℕ)). IsQueue c.args.queue.now (ns ++ names))
    (sym (ap (λ (f : Form). ready_at passes (form_by f)) c.in-Ready.is ∙ ready_no passes c.in-Ready.name.now (sym there ∙ c.if-contains.false)))
    queue
