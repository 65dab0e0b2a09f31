use Rattle.std.proofs.Common.{ap, ap₂, subst, sym, ◌∙◌, ◌+◌}
use Rattle.cs_model.specs.Obj.{lies_in}
use Rattle.cs_model.specs.Read.{method_of}
use Rattle.cs_acts.specs.Names.{name_of}
use Rattle.cs_acts.proofs.Held.{named_held}
use Rattle.cs_code.specs.Built.{built_exec}
use Rattle.cs_code.specs.Gives.{IsNamedEnd, Refuses, end_of, is_refused}
use Rattle.cs_send.specs.Sent.{message_of}
use Rattle.cs_core.proofs.Beginning.{Executed, births_beyond, births_left, executed, held_above, lies_behind, refused}
use Rattle.cs_core.proofs.Settling.{free_next}
use Rattle.cs_core.proofs.Stepping.{begun, births_back, births_few, births_past, done_gives, full_gives, return_gives, send_gives, stop_gives}
use Rattle.cs_core.proofs.Turning.{Begins, births_used, no_instruction}
use Rattle.cs_core.specs.declared.step.StepEnd.TheVariants.{Stopped}
use Rattle.cs_core.proofs.step.step.Goals as goal

pub returns-then-next_birth-gt-BIRTH_LIMIT-clause-gives : goal.returns-then-next_birth-gt-BIRTH_LIMIT-clause-gives
returns-then-next_birth-gt-BIRTH_LIMIT-clause-gives g c =
    births_used (g.W.World.view c.args.w.now) (g.W.World.layout c.args.w.now) (g.W.World.layout c.args.w.now) (g.W.World.stored c.args.w.now) (g.W.World.view c.args.w.now) _ (births_beyond (g.W.World.view c.args.w.now) c.next_birth.result c.next_birth.ensures c.if-next_birth-gt-BIRTH_LIMIT.true)

pub returns-in_default-clause-gives : goal.returns-in_default-clause-gives
returns-in_default-clause-gives g c =
    no_instruction (g.W.World.view c.args.w.now) (g.W.World.layout c.args.w.now) (g.W.World.layout c.args.w.now) (g.W.World.stored c.args.w.now) (g.W.World.view c.args.w.now) _ (births_left (g.W.World.view c.args.w.now) c.next_birth.result c.next_birth.ensures c.if-next_birth-gt-BIRTH_LIMIT.false)
    c.requires.active (sym c.instruction.ensures.value ∙ c.in_default.is)

pub set_pc-requires-clause-lies : goal.set_pc-requires-clause-lies
set_pc-requires-clause-lies g c =
    ap₂ (λ a b. lies_in (method_of (g.W.World.view c.args.w.now)) (a + b)) c.pc.ensures c.from.ensures
    ∙ lies_behind (g.W.World.view c.args.w.now) c.in-Some.instruction c.requires.ready.running (sym c.instruction.ensures.value ∙ c.in-Some.is)

pub exec-requires-clause-births : goal.exec-requires-clause-births
exec-requires-clause-births g c =
    births_past (g.W.World.view c.args.w.now) (g.W.World.view c.set_pc.new.self) c.next_birth.result _ c.set_pc.ensures.state c.requires.ready.sound.closed c.next_birth.ensures c.if-next_birth-gt-BIRTH_LIMIT.false

pub returns-in-Done-clause-gives : goal.returns-in-Done-clause-gives
returns-in-Done-clause-gives g c =
    let begins : Begins (g.W.World.view c.args.w.now) c.in-Some.instruction = record {
      births = births_left (g.W.World.view c.args.w.now) c.next_birth.result c.next_birth.ensures c.if-next_birth-gt-BIRTH_LIMIT.false;
      active = c.requires.active;
      instruction = sym c.instruction.ensures.value ∙ c.in-Some.is;
    } in
    let x = executed (g.W.World.view c.args.w.now) (g.W.World.view c.set_pc.new.self) (g.W.World.view c.exec.new.w) c.in-Some.instruction (c.pc.result + c.from.result) _ (ap₂ (λ a b. a + b) c.pc.ensures c.from.ensures) c.set_pc.ensures.state c.requires.ready.sound.closed
    (c.exec.ensures.gives (ap is_refused c.in-Done.is)).end (c.exec.ensures.gives (ap is_refused c.in-Done.is)).state in
    done_gives (g.W.World.view c.args.w.now) c.in-Some.instruction (g.W.World.layout c.args.w.now) (g.W.World.layout c.exec.new.w) (g.W.World.stored c.exec.new.w) (g.W.World.view c.exec.new.w) begins _ c.finish.result c.requires.ready.running (free_next (g.W.World.stored c.args.w.now) (g.W.World.view c.args.w.now) c.requires.ready.sound) (subst (Executed (g.W.World.view c.args.w.now) c.in-Some.instruction (g.W.World.view c.exec.new.w)) (ap (end_of (g.W.World.stored c.exec.new.w)) c.in-Done.is) x) (c.exec.ensures.gives (ap is_refused c.in-Done.is)).ready
    (c.exec.ensures.layout (ap is_refused c.in-Done.is) ∙ c.set_pc.ensures.layout) c.finish.ensures.by

pub send-requires-clause-births : goal.send-requires-clause-births
send-requires-clause-births g c =
    let x = executed (g.W.World.view c.args.w.now) (g.W.World.view c.set_pc.new.self) (g.W.World.view c.exec.new.w) c.in-Some.instruction (c.pc.result + c.from.result) _ (ap₂ (λ a b. a + b) c.pc.ensures c.from.ensures) c.set_pc.ensures.state c.requires.ready.sound.closed
    (c.exec.ensures.gives (ap is_refused c.in-Send.is)).end (c.exec.ensures.gives (ap is_refused c.in-Send.is)).state in
    births_few (g.W.World.stored c.args.w.now) (g.W.World.view c.args.w.now) (g.W.World.view c.exec.new.w) c.in-Some.instruction c.next_birth.result _ _ _ c.requires.ready c.next_birth.ensures c.if-next_birth-gt-BIRTH_LIMIT.false (subst (Executed (g.W.World.view c.args.w.now) c.in-Some.instruction (g.W.World.view c.exec.new.w)) (ap (end_of (g.W.World.stored c.exec.new.w)) c.in-Send.is) x)

pub returns-in-Send-clause-gives : goal.returns-in-Send-clause-gives
returns-in-Send-clause-gives g c =
    let begins : Begins (g.W.World.view c.args.w.now) c.in-Some.instruction = record {
      births = births_left (g.W.World.view c.args.w.now) c.next_birth.result c.next_birth.ensures c.if-next_birth-gt-BIRTH_LIMIT.false;
      active = c.requires.active;
      instruction = sym c.instruction.ensures.value ∙ c.in-Some.is;
    } in
    let x = executed (g.W.World.view c.args.w.now) (g.W.World.view c.set_pc.new.self) (g.W.World.view c.exec.new.w) c.in-Some.instruction (c.pc.result + c.from.result) _ (ap₂ (λ a b. a + b) c.pc.ensures c.from.ensures) c.set_pc.ensures.state c.requires.ready.sound.closed
    (c.exec.ensures.gives (ap is_refused c.in-Send.is)).end (c.exec.ensures.gives (ap is_refused c.in-Send.is)).state in
    let named = subst (IsNamedEnd (g.W.World.stored c.exec.new.w)) c.in-Send.is (c.exec.ensures.gives (ap is_refused c.in-Send.is)).named in
    send_gives (g.W.World.view c.args.w.now) c.in-Some.instruction (g.W.World.layout c.args.w.now) (g.W.World.layout c.send.new.w) (g.W.World.stored c.send.new.w) (g.W.World.view c.send.new.w) begins (g.W.World.view c.exec.new.w) (message_of (g.W.World.stored c.exec.new.w) c.in-Send.selector c.in-Send.args c.in-Send.above) (g.W.World.layout c.exec.new.w) _ _ c.send.result
    c.requires.ready.running (free_next (g.W.World.stored c.args.w.now) (g.W.World.view c.args.w.now) c.requires.ready.sound) (c.exec.ensures.gives (ap is_refused c.in-Send.is)).ready.running (subst (Executed (g.W.World.view c.args.w.now) c.in-Some.instruction (g.W.World.view c.exec.new.w)) (ap (end_of (g.W.World.stored c.exec.new.w)) c.in-Send.is) x)
    (named_held (g.W.World.stored c.exec.new.w) (g.W.World.view c.exec.new.w) c.in-Send.selector (c.exec.ensures.gives (ap is_refused c.in-Send.is)).ready.sound.holds named.0, held_above (g.W.World.stored c.exec.new.w) (g.W.World.view c.exec.new.w) c.in-Send.above (c.exec.ensures.gives (ap is_refused c.in-Send.is)).ready.sound.holds named.1)
    (c.exec.ensures.layout (ap is_refused c.in-Send.is) ∙ c.set_pc.ensures.layout) c.send.ensures.gives

pub give_back-requires-clause-births : goal.give_back-requires-clause-births
give_back-requires-clause-births g c =
    let x = executed (g.W.World.view c.args.w.now) (g.W.World.view c.set_pc.new.self) (g.W.World.view c.exec.new.w) c.in-Some.instruction (c.pc.result + c.from.result) _ (ap₂ (λ a b. a + b) c.pc.ensures c.from.ensures) c.set_pc.ensures.state c.requires.ready.sound.closed
    (c.exec.ensures.gives (ap is_refused c.in-Return.is)).end (c.exec.ensures.gives (ap is_refused c.in-Return.is)).state in
    births_back (g.W.World.stored c.args.w.now) (g.W.World.view c.args.w.now) (g.W.World.view c.exec.new.w) c.in-Some.instruction c.next_birth.result _ _ c.requires.ready c.next_birth.ensures c.if-next_birth-gt-BIRTH_LIMIT.false (subst (Executed (g.W.World.view c.args.w.now) c.in-Some.instruction (g.W.World.view c.exec.new.w)) (ap (end_of (g.W.World.stored c.exec.new.w)) c.in-Return.is) x)

pub returns-in-Return-clause-gives : goal.returns-in-Return-clause-gives
returns-in-Return-clause-gives g c =
    let begins : Begins (g.W.World.view c.args.w.now) c.in-Some.instruction = record {
      births = births_left (g.W.World.view c.args.w.now) c.next_birth.result c.next_birth.ensures c.if-next_birth-gt-BIRTH_LIMIT.false;
      active = c.requires.active;
      instruction = sym c.instruction.ensures.value ∙ c.in-Some.is;
    } in
    let x = executed (g.W.World.view c.args.w.now) (g.W.World.view c.set_pc.new.self) (g.W.World.view c.exec.new.w) c.in-Some.instruction (c.pc.result + c.from.result) _ (ap₂ (λ a b. a + b) c.pc.ensures c.from.ensures) c.set_pc.ensures.state c.requires.ready.sound.closed
    (c.exec.ensures.gives (ap is_refused c.in-Return.is)).end (c.exec.ensures.gives (ap is_refused c.in-Return.is)).state in
    let named = subst (IsNamedEnd (g.W.World.stored c.exec.new.w)) c.in-Return.is (c.exec.ensures.gives (ap is_refused c.in-Return.is)).named in
    return_gives (g.W.World.view c.args.w.now) c.in-Some.instruction (g.W.World.layout c.args.w.now) (g.W.World.layout c.give_back.new.w) (g.W.World.stored c.give_back.new.w) (g.W.World.view c.give_back.new.w) begins (g.W.World.view c.exec.new.w) (name_of (g.W.World.stored c.exec.new.w) c.in-Return.value) c.in-Return.local (g.W.World.layout c.exec.new.w) (g.K.Sink.taken c.args.out.now) (g.K.Sink.taken c.give_back.new.out) c.give_back.result
    c.requires.ready.running (free_next (g.W.World.stored c.args.w.now) (g.W.World.view c.args.w.now) c.requires.ready.sound) (c.exec.ensures.gives (ap is_refused c.in-Return.is)).ready.running (subst (Executed (g.W.World.view c.args.w.now) c.in-Some.instruction (g.W.World.view c.exec.new.w)) (ap (end_of (g.W.World.stored c.exec.new.w)) c.in-Return.is) x) (named_held (g.W.World.stored c.exec.new.w) (g.W.World.view c.exec.new.w) c.in-Return.value (c.exec.ensures.gives (ap is_refused c.in-Return.is)).ready.sound.holds named)
    (c.exec.ensures.layout (ap is_refused c.in-Return.is) ∙ c.set_pc.ensures.layout) c.give_back.ensures.gives

pub returns-in-Stop-clause-gives : goal.returns-in-Stop-clause-gives
returns-in-Stop-clause-gives g c =
    let begins : Begins (g.W.World.view c.args.w.now) c.in-Some.instruction = record {
      births = births_left (g.W.World.view c.args.w.now) c.next_birth.result c.next_birth.ensures c.if-next_birth-gt-BIRTH_LIMIT.false;
      active = c.requires.active;
      instruction = sym c.instruction.ensures.value ∙ c.in-Some.is;
    } in
    let x = executed (g.W.World.view c.args.w.now) (g.W.World.view c.set_pc.new.self) (g.W.World.view c.exec.new.w) c.in-Some.instruction (c.pc.result + c.from.result) _ (ap₂ (λ a b. a + b) c.pc.ensures c.from.ensures) c.set_pc.ensures.state c.requires.ready.sound.closed
    (c.exec.ensures.gives (ap is_refused c.in-Stop.is)).end (c.exec.ensures.gives (ap is_refused c.in-Stop.is)).state in
    stop_gives (g.W.World.view c.args.w.now) c.in-Some.instruction (g.W.World.layout c.args.w.now) (g.W.World.layout c.exec.new.w) (g.W.World.stored c.exec.new.w) (g.W.World.view c.exec.new.w) begins _ c.in-Stop.reason (subst (Executed (g.W.World.view c.args.w.now) c.in-Some.instruction (g.W.World.view c.exec.new.w)) (ap (end_of (g.W.World.stored c.exec.new.w)) c.in-Stop.is) x)

pub returns-in-Full-clause-gives : goal.returns-in-Full-clause-gives
returns-in-Full-clause-gives g c =
    let begins : Begins (g.W.World.view c.args.w.now) c.in-Some.instruction = record {
      births = births_left (g.W.World.view c.args.w.now) c.next_birth.result c.next_birth.ensures c.if-next_birth-gt-BIRTH_LIMIT.false;
      active = c.requires.active;
      instruction = sym c.instruction.ensures.value ∙ c.in-Some.is;
    } in
    let refusal = subst (λ l. Refuses (g.W.World.stored c.exec.new.w) l (g.W.World.view c.set_pc.new.self) (built_exec c.in-Some.instruction.op (g.W.World.view c.set_pc.new.self)) c.in-Full.why) c.set_pc.ensures.layout
    (c.exec.ensures.full c.in-Full.why c.in-Full.is) in
    full_gives (g.W.World.view c.args.w.now) c.in-Some.instruction (g.W.World.layout c.args.w.now) (g.W.World.layout c.exec.new.w) (g.W.World.stored c.exec.new.w) (g.W.World.view c.exec.new.w) begins (g.K.Sink.taken c.args.out.now) c.in-Full.why
    (refused (g.W.World.stored c.exec.new.w) (g.W.World.layout c.args.w.now) (g.W.World.view c.args.w.now) (g.W.World.view c.set_pc.new.self) c.in-Some.instruction (c.pc.result + c.from.result) c.in-Full.why
    (ap₂ (λ a b. a + b) c.pc.ensures c.from.ensures) c.set_pc.ensures.state c.requires.ready.sound.closed refusal)

pub returns-in-Done-clause-untouched : goal.returns-in-Done-clause-untouched
returns-in-Done-clause-untouched g c = begun (g.W.World.view c.args.w.now) c.next_birth.result c.in-Some.instruction c.finish.result _ c.next_birth.ensures c.if-next_birth-gt-BIRTH_LIMIT.false (sym c.instruction.ensures.value ∙ c.in-Some.is)

pub returns-in-Send-clause-untouched : goal.returns-in-Send-clause-untouched
returns-in-Send-clause-untouched g c = begun (g.W.World.view c.args.w.now) c.next_birth.result c.in-Some.instruction c.send.result _ c.next_birth.ensures c.if-next_birth-gt-BIRTH_LIMIT.false (sym c.instruction.ensures.value ∙ c.in-Some.is)

pub returns-in-Return-clause-untouched : goal.returns-in-Return-clause-untouched
returns-in-Return-clause-untouched g c = begun (g.W.World.view c.args.w.now) c.next_birth.result c.in-Some.instruction c.give_back.result _ c.next_birth.ensures c.if-next_birth-gt-BIRTH_LIMIT.false (sym c.instruction.ensures.value ∙ c.in-Some.is)

pub returns-in-Stop-clause-untouched : goal.returns-in-Stop-clause-untouched
returns-in-Stop-clause-untouched g c = begun (g.W.World.view c.args.w.now) c.next_birth.result c.in-Some.instruction (Stopped c.in-Stop.reason) _ c.next_birth.ensures c.if-next_birth-gt-BIRTH_LIMIT.false (sym c.instruction.ensures.value ∙ c.in-Some.is)

pub returns-in-Stop-clause-sound : goal.returns-in-Stop-clause-sound
returns-in-Stop-clause-sound g c = (c.exec.ensures.gives (ap is_refused c.in-Stop.is)).ready.sound
