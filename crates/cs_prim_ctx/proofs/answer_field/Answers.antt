use Rattle.std.proofs.Common.{subst}
use Rattle.cs_acts.specs.Names.{NamesOption, name_of}
use Rattle.cs_acts.specs.Targets.{field_of}
use Rattle.cs_prim_ctx.proofs.Performing.{answered, missed, refused}
use Rattle.cs_prim_ctx.proofs.answer_field.Goals as goal

pub returns-in-Ok-Some : goal.returns-in-Ok-Some
returns-in-Ok-Some g c =
    let k = g.W.World.view c.args.w.now in
    let y = name_of (g.W.World.stored c.args.w.now) c.args.ctx in
    let e = c.in-Ok-Some.ensures in
    answered (g.W.World.stored c.args.w.now) (g.W.World.stored c.field.new.w) (g.W.World.stored c.answer.new.w) (g.W.World.layout c.args.w.now) (g.W.World.layout c.field.new.w) (g.W.World.layout c.answer.new.w)
    k (g.W.World.view c.field.new.w) (g.W.World.view c.answer.new.w) c.args.args c.args.i y c.in-Ok-Some.value e.view e.leads
    (subst (λ o. NamesOption (g.W.World.stored c.field.new.w) o (field_of k y c.args.i)) c.in-Ok-Some.field-0-is e.value) c.answer.ensures

pub returns-in-Ok-None : goal.returns-in-Ok-None
returns-in-Ok-None g c =
    let k = g.W.World.view c.args.w.now in
    let y = name_of (g.W.World.stored c.args.w.now) c.args.ctx in
    let e = c.in-Ok-None.ensures in
    missed (g.W.World.stored c.args.w.now) (g.W.World.stored c.field.new.w) (g.W.World.layout c.args.w.now) (g.W.World.layout c.field.new.w)
    k (g.W.World.view c.field.new.w) c.args.args c.args.i y c.requires.context e.view e.leads
    (subst (λ o. NamesOption (g.W.World.stored c.field.new.w) o (field_of k y c.args.i)) c.in-Ok-None.field-0-is e.value)

pub returns-in-Err : goal.returns-in-Err
returns-in-Err g c =
    let k = g.W.World.view c.args.w.now in
    let y = name_of (g.W.World.stored c.args.w.now) c.args.ctx in
    let e = c.in-Err.ensures in
    refused (g.W.World.stored c.args.w.now) (g.W.World.stored c.field.new.w) (g.W.World.layout c.args.w.now) (g.W.World.layout c.field.new.w)
    k (g.W.World.view c.field.new.w) c.args.args c.args.i y c.in-Err.why c.requires.ready.running c.requires.context e.sender_alone e.limit e.heap_alone e.full
