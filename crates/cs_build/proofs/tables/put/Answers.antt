use Rattle.cs_build.proofs.tables.put.Goals as goal

pub returns-in-Ok : goal.returns-in-Ok
returns-in-Ok g c = λ q. c.in-Ok.ensures.updates.0 (record c.args.name { now = q })
