use Rattle.std.proofs.Common.{arith, ◌∙◌}
use Rattle.cs_inspect.proofs.Texts.{hex_pair, then_is}
use Rattle.cs_inspect.proofs.text.push_byte.Goals as goal

pub returns : goal.returns
returns c = then_is _ _ _ _ _ (c.in-Ok.ensures.written ∙ hex_pair c.args.byte (omega arith)) c.push_slice.ensures
