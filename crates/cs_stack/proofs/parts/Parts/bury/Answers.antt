use Rattle.std.proofs.Common.{arith}
use Rattle.cs_stack.proofs.Acts.{context_act, slot_within}
use Rattle.cs_stack.proofs.CutBuried.{bury_fades}
use Rattle.cs_stack.proofs.parts.Parts.bury.Goals as goal

pub bury_words-requires : goal.bury_words-requires
bury_words-requires c = slot_within (context_act c.args.self.now c.args.context c.requires.good c.requires.stands) 5 (omega arith)

pub returns : goal.returns
returns c = record { fades = bury_fades c.args.self.now c.args.context c.bury_words.new.heap c.requires.good c.requires.closed c.requires.stands c.bury_words.ensures }
