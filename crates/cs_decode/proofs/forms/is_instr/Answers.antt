use Rattle.std.proofs.Common.{sym, ◌∙◌}
use Rattle.cs_decode.proofs.HasForm.{IsInstr-has_form}
use Rattle.cs_decode.proofs.Assembled.{has_form-IsInstr}
use Rattle.cs_decode.proofs.forms.is_instr.Goals as goal

pub returns : goal.returns
returns c = (
  λ test. has_form-IsInstr c.args.i.now (sym c.has_form.ensures ∙ test),
  λ instr. c.has_form.ensures ∙ IsInstr-has_form c.args.i.now instr,
)
