use Rattle.std.proofs.Common.{ap}
use Rattle.cs_model.specs.Print.{pc_text}
use Rattle.cs_inspect.proofs.Texts.{then_is}
use Rattle.cs_inspect.proofs.text.push_pc.Goals as goal

pub returns-in-Some : goal.returns-in-Some
returns-in-Some c = then_is _ _ _ _ _ (ap pc_text (c.in-Some.ensures.value)) c.push_number.ensures

pub returns-in-None : goal.returns-in-None
returns-in-None c = then_is _ _ _ _ _ (ap pc_text (c.in-None.ensures.value)) c.push_text.ensures
