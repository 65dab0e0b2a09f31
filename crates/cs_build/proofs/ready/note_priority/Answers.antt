use Rattle.std.proofs.Common.{◌≡◌, ℕ, ◌==◌, Bool, true, cond, ap, sym, ◌∙◌}
use Rattle.std.specs.Prelude.{◌&&◌, ◌||◌}
use Rattle.std.specs.Str.{bytes_eq}
use Rattle.cs_build.specs.declared.form.Form.{Form}
use Rattle.cs_build.specs.Meaning.{form_by}
use Rattle.cs_build.specs.Queued.{has_in, is_process_at}
use Rattle.cs_build.proofs.Queueing.{and_turned, cond_or}
use Rattle.cs_build.proofs.ready.note_priority.Goals as goal

pub returns-in_ok-insert : goal.returns-in_ok-insert
returns-in_ok-insert c = λ p n.
    let old : Bool = has_in c.args.priorities.now p n in
    let name : Bool = bytes_eq c.in-Process.line.name.now n in
    let one : has_in c.insert.new.self p n ≡ cond ((c.priority_in.result == p) && bytes_eq c.in-Process.line.name.now n) true (has_in c.args.priorities.now p n) =
    c.in_ok-insert.ensures.updates.0 (p, record { ref_ptr = (0, 0); now = n }) in
    one ∙ cond_or ((c.priority_in.result == p) && name) old
    ∙ ap (λ (b : Bool). b || old) (and_turned (c.priority_in.result == p) name ∙ ap (λ (k : ℕ). name && (k == p)) c.priority_in.ensures)
    ∙ ap (λ (f : Form). is_process_at p n (form_by f) || old) (sym c.in-Process.is)
