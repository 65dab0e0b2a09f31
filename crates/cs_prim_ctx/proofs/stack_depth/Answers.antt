use Rattle.std.proofs.Common.{arith}
use Rattle.cs_acts.specs.Names.{name_of}
use Rattle.cs_prim_ctx.proofs.Fields.{depth_read, field_below, some_field}
use Rattle.cs_prim_ctx.proofs.stack_depth.Goals as goal

pub context_get-requires-clause-there : goal.context_get-requires-clause-there
context_get-requires-clause-there g c = some_field _ _ 2 (field_below _ _ 2 c.requires.context (omega arith))

pub returns-clause-value : goal.returns-clause-value
returns-clause-value g c =
    let s = g.W.World.stored c.args.w.now in
    let t = g.W.World.stored c.context_get.new.self in
    depth_read (g.W.World.view c.args.w.now) t (name_of s c.args.ctx) c.in-Ok.stackp c.natural.result c.unwrap_or.result c.requires.context c.in-Ok.ensures.value c.natural.ensures.value c.unwrap_or.ensures
