use Rattle.std.proofs.Common.{◌≡◌, ℕ, ◌+◌, ◌++◌, List, [], Option, rules, ap, sym, ◌∙◌}
use Rattle.std.specs.Prelude.{unwrap_or, option_and_then, pos, ◌-ℤ◌, option_map}
use Rattle.cs_model.specs.Assemble.{assembled}
use Rattle.cs_build.specs.Numbered.{name_number}
use Rattle.cs_model.specs.BuilderFault.{closure_bytes, jump_code, line_bytes}
use Rattle.cs_build.specs.declared.form.Form.{Form}
use Rattle.cs_build.specs.Meaning.{form_by, jump_by}
use Rattle.cs_build.proofs.Putting.{on_ok}
use Rattle.cs_build.proofs.bytecodes.put_line.Goals as goal

pub returns-in-JumpTo : goal.returns-in-JumpTo
returns-in-JumpTo c = on_ok c.put_instruction-in-JumpTo.result _ _
    (λ h body labels. h
    ∙ ap (λ (o : Option (List ℕ)). c.args.code.now.items ++ unwrap_or o [])
    (c.jump_at.ensures.code ∙ ap (λ (o : Option ℕ). option_and_then (λ to. jump_code (jump_by c.in-JumpTo.jump) (pos to -ℤ pos (c.args.place + 2))) o) (labels.at c.in-JumpTo.label.now))
    ∙ ap (λ (f : Form). c.args.code.now.items ++ unwrap_or (line_bytes body c.args.place (form_by f)) []) (sym c.in-JumpTo.is))
    c.put_instruction-in-JumpTo.ensures

pub returns-in-ClosureTo : goal.returns-in-ClosureTo
returns-in-ClosureTo c =
    let code : option_map assembled c.closure_at.result ≡ option_and_then (λ to. closure_bytes c.in-ClosureTo.copied c.in-ClosureTo.args (pos to -ℤ pos (c.args.place + 4))) (name_number c.args.places.now c.in-ClosureTo.label.now) =
    search (rules, c.closure_at.ensures.code) in
    on_ok c.put_instruction-in-ClosureTo.result _ _
    (λ h body labels. h
    ∙ ap (λ (o : Option (List ℕ)). c.args.code.now.items ++ unwrap_or o [])
    (code ∙ ap (λ (o : Option ℕ). option_and_then (λ to. closure_bytes c.in-ClosureTo.copied c.in-ClosureTo.args (pos to -ℤ pos (c.args.place + 4))) o) (labels.at c.in-ClosureTo.label.now))
    ∙ ap (λ (f : Form). c.args.code.now.items ++ unwrap_or (line_bytes body c.args.place (form_by f)) []) (sym c.in-ClosureTo.is))
    c.put_instruction-in-ClosureTo.ensures
