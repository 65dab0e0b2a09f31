use Rattle.std.proofs.Common.{true, false, sym, ◌∙◌}
use Rattle.cs_core.proofs.Piecing.{byte_else, bytes_there, is_bytes_read}
use Rattle.cs_core.proofs.primitive.piece_of.Goals as goal

pub returns-then-holds_bytes-clause-bytes : goal.returns-then-holds_bytes-clause-bytes
returns-then-holds_bytes-clause-bytes g c =
    let s = g.W.World.stored c.args.w.now in
    bytes_there s (g.W.World.view c.args.w.now) c.args.argument c.requires.sound.holds c.requires.named
    (is_bytes_read s c.heap.result.now c.args.argument true c.heap.ensures (sym c.holds_bytes.ensures ∙ c.if-holds_bytes.true))

pub returns-in-Some-clause-bytes : goal.returns-in-Some-clause-bytes
returns-in-Some-clause-bytes g c =
    let s = g.W.World.stored c.args.w.now in
    c.in-Some.ensures ∙ byte_else s (g.W.World.view c.args.w.now) c.args.argument c.requires.sound.holds c.requires.named
    (is_bytes_read s c.heap.result.now c.args.argument false c.heap.ensures (sym c.holds_bytes.ensures ∙ c.if-holds_bytes.false))

pub returns-in-None-clause-bytes : goal.returns-in-None-clause-bytes
returns-in-None-clause-bytes g c =
    let s = g.W.World.stored c.args.w.now in
    c.in-None.ensures ∙ byte_else s (g.W.World.view c.args.w.now) c.args.argument c.requires.sound.holds c.requires.named
    (is_bytes_read s c.heap.result.now c.args.argument false c.heap.ensures (sym c.holds_bytes.ensures ∙ c.if-holds_bytes.false))
