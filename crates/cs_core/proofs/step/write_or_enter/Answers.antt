use Rattle.std.proofs.Common.{ap, arith, subst, sym, ◌∙◌}
use Rattle.cs_shelf.specs.Outside.{Appends, AppendsPart}
use Rattle.cs_model.specs.Obj.{context_in}
use Rattle.cs_acts.specs.Names.{name_of}
use Rattle.cs_core.specs.Stepped.{EndsBy, TurnGives, trying}
use Rattle.cs_core.specs.Pieces.{bytes_of_piece, is_piece}
use Rattle.cs_core.proofs.Lasting.{piece_lasts}
use Rattle.cs_core.proofs.Settling.{answer_stays}
use Rattle.cs_core.proofs.Stacking.{stays_lays}
use Rattle.cs_core.proofs.Trying.{no_cause, no_write_fails, write_answers, write_fails, write_fails_else, write_gives, write_lost}
use Rattle.cs_core.proofs.step.write_or_enter.Goals as goal

pub returns-then-args-ne1-clause-gives : goal.returns-then-args-ne1-clause-gives
returns-then-args-ne1-clause-gives g c = c.enter_behind.ensures.gives (g.K.Sink.taken c.args.out.now) 900 (write_fails_else (g.W.World.view c.args.w.now) (name_of (g.W.World.stored c.args.w.now) c.args.method) c.args.args c.requires.enters.count c.if-args-ne1.true)

pub returns-then-args-ne1-clause-cause : goal.returns-then-args-ne1-clause-cause
returns-then-args-ne1-clause-cause g c = c.enter_behind.ensures.cause (g.K.Sink.fault_count c.args.out.now)

pub receiver-receiver-requires-clause-there : goal.receiver-receiver-requires-clause-there
receiver-receiver-requires-clause-there g c = omega (arith, c.requires.enters.there, c.if-args-ne1.false)

pub argument-argument-requires-clause-there : goal.argument-argument-requires-clause-there
argument-argument-requires-clause-there g c = omega (arith, c.requires.enters.there, c.if-args-ne1.false)

pub returns-in_default-clause-gives : goal.returns-in_default-clause-gives
returns-in_default-clause-gives g c =
    let argument = sym c.argument-argument.ensures.is in
    c.enter_behind-in_default.ensures.gives (g.K.Sink.taken c.args.out.now) 900 (no_write_fails (g.W.World.view c.args.w.now) (name_of (g.W.World.stored c.args.w.now) c.args.method) c.args.args _ c.requires.enters.count c.if-args-ne1.false argument (sym c.in_default.ensures.bytes))

pub returns-in_default-clause-cause : goal.returns-in_default-clause-cause
returns-in_default-clause-cause g c = c.enter_behind-in_default.ensures.cause (g.K.Sink.fault_count c.args.out.now)

pub answer-requires-clause-there : goal.answer-requires-clause-there
answer-requires-clause-there g c = omega (arith, c.requires.enters.there, c.if-args-ne1.false)

pub returns-in-Stopped-clause-gives : goal.returns-in-Stopped-clause-gives
returns-in-Stopped-clause-gives g c =
    let receiver = sym c.receiver-receiver.ensures.is in
    let argument = sym c.argument-argument.ensures.is in
    let a = write_answers (g.W.World.view c.args.w.now) (name_of (g.W.World.stored c.args.w.now) c.args.method) c.args.args _ _ _ (g.W.World.view c.answer.new.w) c.requires.enters.count c.if-args-ne1.false receiver argument (sym c.in-Some.ensures.bytes) c.answer.ensures.state in
    subst (λ e. TurnGives (trying (g.W.World.view c.args.w.now) (name_of (g.W.World.stored c.args.w.now) c.args.method) 900) (g.W.World.view c.args.w.now) (g.W.World.layout c.args.w.now) (g.K.Sink.taken c.args.out.now) (g.K.Sink.taken c.args.out.now) (g.W.World.stored c.answer.new.w) (g.W.World.view c.answer.new.w) (g.W.World.layout c.answer.new.w) e) (sym c.in-Stopped.is)
    (write_lost (g.W.World.view c.args.w.now) (g.W.World.view c.answer.new.w) (name_of (g.W.World.stored c.args.w.now) c.args.method) (g.W.World.layout c.args.w.now) (g.W.World.layout c.answer.new.w) _ (g.K.Sink.taken c.args.out.now) (g.W.World.stored c.answer.new.w) a c.in-Stopped.field-0 (subst (EndsBy (g.W.World.view c.answer.new.w)) c.in-Stopped.is c.finish-end.ensures.by))

pub write-requires : goal.write-requires
write-requires g c =
    let l = piece_lasts (g.W.World.stored c.args.w.now) (g.W.World.stored c.answer.new.w) (g.W.World.view c.args.w.now) (g.W.World.view c.answer.new.w) _ c.argument-argument.result c.in-Some.piece c.requires.ready c.answer.ensures.ready.sound c.argument-argument.ensures.sound c.answer.ensures.names c.answer.ensures.state c.in-Some.ensures.piece c.in-Some.ensures.own in
    ap (λ m. is_piece m.objects c.in-Some.piece) c.heap.ensures ∙ l.piece

pub returns-in-Ok : goal.returns-in-Ok
returns-in-Ok g c =
    let receiver = sym c.receiver-receiver.ensures.is in
    let argument = sym c.argument-argument.ensures.is in
    let a = write_answers (g.W.World.view c.args.w.now) (name_of (g.W.World.stored c.args.w.now) c.args.method) c.args.args _ _ _ (g.W.World.view c.answer.new.w) c.requires.enters.count c.if-args-ne1.false receiver argument (sym c.in-Some.ensures.bytes) c.answer.ensures.state in
    let l = piece_lasts (g.W.World.stored c.args.w.now) (g.W.World.stored c.answer.new.w) (g.W.World.view c.args.w.now) (g.W.World.view c.answer.new.w) _ c.argument-argument.result c.in-Some.piece c.requires.ready c.answer.ensures.ready.sound c.argument-argument.ensures.sound c.answer.ensures.names c.answer.ensures.state c.in-Some.ensures.piece c.in-Some.ensures.own in
    let told = subst (λ b. Appends (g.K.Sink.taken c.args.out.now) (g.K.Sink.taken c.write.new.out) b) (ap (λ m. bytes_of_piece m.objects c.in-Some.piece) c.heap.ensures ∙ l.bytes) c.in-Ok.ensures.ok in
    record {
      gives = write_gives (g.W.World.view c.args.w.now) (g.W.World.view c.answer.new.w) (name_of (g.W.World.stored c.args.w.now) c.args.method) (g.W.World.layout c.args.w.now) (g.W.World.layout c.answer.new.w) _ (g.K.Sink.taken c.args.out.now) (g.W.World.stored c.answer.new.w) a _ c.finish-end.result c.answer.ensures.ready (stays_lays (g.W.World.view c.args.w.now) _ (g.W.World.view c.answer.new.w) (answer_stays (g.W.World.view c.args.w.now) 2 _ (ap context_in c.requires.ready.running.found)) c.answer.ensures.state c.answer.ensures.ready.running (g.W.World.layout c.args.w.now) (g.W.World.layout c.answer.new.w) c.answer.ensures.layout (g.W.World.stored c.answer.new.w)) c.finish-end.ensures.by c.in_default-end.not-Stopped told;
      process = c.finish-end.ensures.process;
      sound = c.finish-end.ensures.sound;
      limit = c.answer.ensures.limit;
      never_falls = c.write.ensures.never_falls;
      cause = no_cause (g.W.World.view c.answer.new.w) c.finish-end.result _ _ c.finish-end.ensures.by;
    }

pub returns-in-Err : goal.returns-in-Err
returns-in-Err g c =
    let receiver = sym c.receiver-receiver.ensures.is in
    let argument = sym c.argument-argument.ensures.is in
    let a = write_answers (g.W.World.view c.args.w.now) (name_of (g.W.World.stored c.args.w.now) c.args.method) c.args.args _ _ _ (g.W.World.view c.answer.new.w) c.requires.enters.count c.if-args-ne1.false receiver argument (sym c.in-Some.ensures.bytes) c.answer.ensures.state in
    let l = piece_lasts (g.W.World.stored c.args.w.now) (g.W.World.stored c.answer.new.w) (g.W.World.view c.args.w.now) (g.W.World.view c.answer.new.w) _ c.argument-argument.result c.in-Some.piece c.requires.ready c.answer.ensures.ready.sound c.argument-argument.ensures.sound c.answer.ensures.names c.answer.ensures.state c.in-Some.ensures.piece c.in-Some.ensures.own in
    let told = subst (λ b. AppendsPart (g.K.Sink.taken c.args.out.now) (g.K.Sink.taken c.write.new.out) b) (ap (λ m. bytes_of_piece m.objects c.in-Some.piece) c.heap.ensures ∙ l.bytes) c.in-Err.ensures.err in
    record {
      gives = write_fails (g.W.World.view c.args.w.now) (g.W.World.view c.answer.new.w) (name_of (g.W.World.stored c.args.w.now) c.args.method) (g.W.World.layout c.args.w.now) (g.W.World.layout c.answer.new.w) _ (g.K.Sink.taken c.args.out.now) (g.W.World.stored c.answer.new.w) a _ c.finish-end.result c.finish-end.ensures.by c.in_default-end.not-Stopped told;
      process = tt;
      sound = tt;
      limit = c.answer.ensures.limit;
      never_falls = c.write.ensures.never_falls;
      cause = c.in-Err.ensures.cause;
    }
