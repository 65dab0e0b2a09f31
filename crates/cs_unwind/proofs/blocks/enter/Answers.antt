use Rattle.std.proofs.Common.{arith}
use Rattle.cs_acts.specs.Names.{name_of}
use Rattle.cs_unwind.proofs.Closures.{evaluated_closure}
use Rattle.cs_unwind.proofs.Blocking.{entered_block, fits_block, no_room, over, size_is}
use Rattle.cs_unwind.proofs.blocks.enter.Goals as goal
use Rattle.cs_unwind.proofs.blocks.enter.Goals.{then-args-size-via-then-args-size, then-args-size-via-else-args-size+then-copied-size}

pub copied-requires-clause-closure : goal.copied-requires-clause-closure
copied-requires-clause-closure g c = evaluated_closure (g.W.World.view c.args.w.now) (name_of (g.W.World.stored c.args.w.now) c.args.closure) c.args.args c.requires.block.can

pub returns-then-args-size : goal.returns-then-args-size
returns-then-args-size g c =
    let s = g.W.World.stored c.args.w.now in
    let k = g.W.World.view c.args.w.now in
    let x = name_of s c.args.closure in
    let size = size_is s k x c.args.args c.context_size-size.result c.args.method c.requires.block c.context_size-size.ensures in
    elim c.then-args-size.branch [
      | then-args-size-via-then-args-size w ↦ over s (g.W.World.layout c.args.w.now) k x c.args.args c.requires.ready (omega (arith, size, w.if-args-size.true))
      | then-args-size-via-else-args-size+then-copied-size w ↦ over s (g.W.World.layout c.args.w.now) k x c.args.args c.requires.ready (omega (arith, size, w.copied.ensures, w.if-args-size.false, w.if-copied-size.true))
    ]

pub enter_block-requires-clause-fits : goal.enter_block-requires-clause-fits
enter_block-requires-clause-fits g c =
    let s = g.W.World.stored c.args.w.now in
    let k = g.W.World.view c.args.w.now in
    record {
      closure = c.requires.block.can;
      fits = fits_block s k (name_of s c.args.closure) c.args.args c.context_size-size.result c.copied.result c.args.method c.requires.block c.context_size-size.ensures c.copied.ensures c.if-args-size.false c.if-copied-size.false;
      there = c.requires.there;
      births = c.requires.births;
    }

pub returns-in-Ok : goal.returns-in-Ok
returns-in-Ok g c =
    let s = g.W.World.stored c.args.w.now in
    let k = g.W.World.view c.args.w.now in
    let e = c.in-Ok.ensures in
    entered_block s (g.W.World.stored c.enter_block.new.self) (g.W.World.layout c.args.w.now) (g.W.World.layout c.enter_block.new.self) k (g.W.World.view c.enter_block.new.self) (name_of s c.args.closure) c.args.args
    (fits_block s k (name_of s c.args.closure) c.args.args c.context_size-size.result c.copied.result c.args.method c.requires.block c.context_size-size.ensures c.copied.ensures c.if-args-size.false c.if-copied-size.false)
    (e.state k c.requires.ready.sound.closed) e.exact e.layout e.limit e.contexts e.ready e.names

pub returns-in-Err : goal.returns-in-Err
returns-in-Err g c =
    let s = g.W.World.stored c.args.w.now in
    let k = g.W.World.view c.args.w.now in
    let e = c.in-Err.ensures in
    no_room s (g.W.World.stored c.enter_block.new.self) (g.W.World.layout c.args.w.now) (g.W.World.layout c.enter_block.new.self) k (g.W.World.view c.enter_block.new.self) (name_of s c.args.closure) c.args.args c.in-Err.why
    (fits_block s k (name_of s c.args.closure) c.args.args c.context_size-size.result c.copied.result c.args.method c.requires.block c.context_size-size.ensures c.copied.ensures c.if-args-size.false c.if-copied-size.false)
    e.limit e.full
