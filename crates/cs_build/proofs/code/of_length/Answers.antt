use Rattle.std.proofs.Common.{◌≡◌, true, false, refl, ◌∙◌}
use Rattle.cs_model.specs.Assemble.{has_form}
use Rattle.cs_build.proofs.OpLemmas.{has_form-tells}
use Rattle.cs_build.proofs.code.of_length.Goals as goal

pub returns-then-is_instr-clause-length : goal.returns-then-is_instr-clause-length
returns-then-is_instr-clause-length c =
    let h : has_form c.args.len c.args.op ≡ true = has_form-tells (record { op = c.args.op; len = c.args.len }) _ c.is_instr.ensures ∙ c.if-is_instr.true in
    rw h refl

pub returns-else-is_instr-clause-length : goal.returns-else-is_instr-clause-length
returns-else-is_instr-clause-length c =
    let h : has_form c.args.len c.args.op ≡ false = has_form-tells (record { op = c.args.op; len = c.args.len }) _ c.is_instr.ensures ∙ c.if-is_instr.false in
    rw h refl
