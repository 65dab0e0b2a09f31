-- The law a text without fault is judged.
use Rattle.cs_build.proofs.Faultless.{text_judged}
use Rattle.cs_build.proofs.laws.a_text_without_fault_is_judged.Goals as goal

pub returns : goal.returns
returns c = text_judged
