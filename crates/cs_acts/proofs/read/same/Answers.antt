use Rattle.std.proofs.Common.{◌∙◌, ◌<◌, ◌^◌, arith}
use Rattle.cs_acts.proofs.Named.{same_words}
use Rattle.cs_acts.proofs.read.same.Goals as goal

pub returns : goal.returns
returns g c =
    let left : c.args.a.0 < 2 ^ 32 = omega arith in
    let right : c.args.b.0 < 2 ^ 32 = omega arith in
    c.eq.ensures ∙ same_words (g.W.World.stored c.args.w.now) (g.W.World.view c.args.w.now) c.args.a c.args.b c.requires.sound.holds c.requires.left c.requires.right left right
