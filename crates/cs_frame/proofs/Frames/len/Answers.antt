use Rattle.std.proofs.Common.{length, ap, arith}
use Rattle.cs_frame.proofs.Pages.{length-pages}
use Rattle.cs_frame.proofs.Frames.len.Goals as goal

pub returns : goal.returns
returns c =
    let n = length-pages c.self.inside.zone 0 c.self.inside.heads.items in
    let e = ap length c.self.view_is in
    record { count = (omega arith) }
