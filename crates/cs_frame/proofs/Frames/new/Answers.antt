use Rattle.cs_frame.proofs.Empties.{laid_new}
use Rattle.cs_frame.proofs.Frames.new.Goals as goal

pub invariant_of-result : goal.invariant_of-result
invariant_of-result c =
    (laid_new c.in_ok-zone.zone c.in_ok-heads.heads.items c.args.pages c.requires.pages.1 c.in_ok-zone.ensures.zeros c.in_ok-heads.ensures.heads).0

pub returns : goal.returns
returns c =
    record { empty = (laid_new c.in_ok-zone.zone c.in_ok-heads.heads.items c.args.pages c.requires.pages.1 c.in_ok-zone.ensures.zeros c.in_ok-heads.ensures.heads).1 }
