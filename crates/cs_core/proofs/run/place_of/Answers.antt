use Rattle.std.proofs.Common.{◌≡◌, ◌∙◌, sym, false}
use Rattle.cs_model.specs.Due.{is_idle}
use Rattle.cs_core.proofs.Places.{process_named, process_idle, no_process_place, process_place, idle_place, active_there}
use Rattle.cs_core.proofs.run.place_of.Goals as goal

pub same-requires-clause-left : goal.same-requires-clause-left
same-requires-clause-left g c = process_named (g.W.World.stored c.args.w.now) (g.W.World.view c.args.w.now) c.args.process c.in-Some.process c.in-Some.is c.requires.process

pub returns-in_default-clause-place : goal.returns-in_default-clause-place
returns-in_default-clause-place g c = no_process_place (g.W.World.stored c.args.w.now) (g.W.World.view c.args.w.now) c.args.process c.in_default.is c.requires.process

pub returns-then-same-clause-place : goal.returns-then-same-clause-place
returns-then-same-clause-place g c =
    idle_place (g.W.World.view c.args.w.now) (sym (process_idle (g.W.World.stored c.args.w.now) (g.W.World.view c.args.w.now) c.args.process c.in-Some.process c.nil.result c.same.result c.in-Some.is c.requires.process c.nil.ensures c.same.ensures) ∙ c.if-same.true)

pub birth_of-requires-clause-named : goal.birth_of-requires-clause-named
birth_of-requires-clause-named g c = process_named (g.W.World.stored c.args.w.now) (g.W.World.view c.args.w.now) c.args.process c.in-Some.process c.in-Some.is c.requires.process

pub act_birth-requires-clause-stands : goal.act_birth-requires-clause-stands
act_birth-requires-clause-stands g c =
    let idle : is_idle (g.W.World.view c.args.w.now) ≡ false = sym (process_idle (g.W.World.stored c.args.w.now) (g.W.World.view c.args.w.now) c.args.process c.in-Some.process c.nil.result c.same.result c.in-Some.is c.requires.process c.nil.ensures c.same.ensures) ∙ c.if-same.false in
    active_there (g.W.World.view c.args.w.now) _ c.active-active.ensures.active (c.requires.running idle)

pub pc-requires : goal.pc-requires
pc-requires g c =
    let idle : is_idle (g.W.World.view c.args.w.now) ≡ false = sym (process_idle (g.W.World.stored c.args.w.now) (g.W.World.view c.args.w.now) c.args.process c.in-Some.process c.nil.result c.same.result c.in-Some.is c.requires.process c.nil.ensures c.same.ensures) ∙ c.if-same.false in
    record { sound = c.requires.sound; running = c.requires.running idle }

pub returns-clause-place : goal.returns-clause-place
returns-clause-place g c =
    let idle : is_idle (g.W.World.view c.args.w.now) ≡ false = sym (process_idle (g.W.World.stored c.args.w.now) (g.W.World.view c.args.w.now) c.args.process c.in-Some.process c.nil.result c.same.result c.in-Some.is c.requires.process c.nil.ensures c.same.ensures) ∙ c.if-same.false in
    process_place (g.W.World.stored c.args.w.now) (g.W.World.view c.args.w.now) c.args.process c.in-Some.process _ _ _ c.in-Some.is c.requires.process idle (c.requires.running idle) c.birth_of.ensures (sym c.active-active.ensures.active ∙ c.act_birth.ensures) c.pc.ensures
