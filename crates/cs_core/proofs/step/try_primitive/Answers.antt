use Rattle.std.proofs.Common.{Some, ap, refl, subst, sym, ◌∙◌}
use Rattle.cs_model.specs.Built.{is_built_number}
use Rattle.cs_acts.specs.Names.{name_of}
use Rattle.cs_core.specs.Numbers.{HasBuiltNumber}
use Rattle.cs_core.specs.Stepped.{TurnGives, trying, unbuilt}
use Rattle.cs_core.proofs.Trying.{unlisted_number_fails}
use Rattle.cs_core.proofs.step.try_primitive.Goals as goal

pub returns-in-Number-clause-gives : goal.returns-in-Number-clause-gives
returns-in-Number-clause-gives g c = c.number_or_enter.ensures.gives (g.K.Sink.taken c.args.out.now)

pub returns-in-Number-clause-cause : goal.returns-in-Number-clause-cause
returns-in-Number-clause-cause g c = c.number_or_enter.ensures.cause (g.K.Sink.fault_count c.args.out.now)

pub returns-in-Write-clause-gives : goal.returns-in-Write-clause-gives
returns-in-Write-clause-gives g c =
    let k = g.W.World.view c.args.w.now in
    let x = name_of (g.W.World.stored c.args.w.now) c.args.method in
    subst (λ n. TurnGives (trying k x n) k (g.W.World.layout c.args.w.now) (g.K.Sink.taken c.args.out.now) (g.K.Sink.taken c.write_or_enter.new.out) (g.W.World.stored c.write_or_enter.new.w) (g.W.World.view c.write_or_enter.new.w) (g.W.World.layout c.write_or_enter.new.w) c.write_or_enter.result) (sym (subst (λ p. HasBuiltNumber (g.W.World.view c.args.w.now) c.args.args (Some p) c.args.number) c.in-Write.is c.in-Some.ensures)) c.write_or_enter.ensures.gives

pub returns-in-Unwind-clause-gives : goal.returns-in-Unwind-clause-gives
returns-in-Unwind-clause-gives g c = c.unwind_or_enter.ensures.gives (g.K.Sink.taken c.args.out.now)

pub returns-in-Unwind-clause-cause : goal.returns-in-Unwind-clause-cause
returns-in-Unwind-clause-cause g c = c.unwind_or_enter.ensures.cause (g.K.Sink.fault_count c.args.out.now)

pub returns-in-ReadContext-clause-gives : goal.returns-in-ReadContext-clause-gives
returns-in-ReadContext-clause-gives g c = c.read_or_enter.ensures.gives (g.K.Sink.taken c.args.out.now)

pub returns-in-ReadContext-clause-cause : goal.returns-in-ReadContext-clause-cause
returns-in-ReadContext-clause-cause g c = c.read_or_enter.ensures.cause (g.K.Sink.fault_count c.args.out.now)

pub returns-in-Unlisted-clause-gives : goal.returns-in-Unlisted-clause-gives
returns-in-Unlisted-clause-gives g c =
    let k = g.W.World.view c.args.w.now in
    let x = name_of (g.W.World.stored c.args.w.now) c.args.method in
    c.enter_behind.ensures.gives (g.K.Sink.taken c.args.out.now) c.args.number (unlisted_number_fails k x c.args.number c.args.args c.requires.enters.count (subst (λ p. HasBuiltNumber k c.args.args (Some p) c.args.number) c.in-Unlisted.is c.in-Some.ensures))

pub returns-in-Unlisted-clause-cause : goal.returns-in-Unlisted-clause-cause
returns-in-Unlisted-clause-cause g c = c.enter_behind.ensures.cause (g.K.Sink.fault_count c.args.out.now)

pub returns-in_default-clause-gives : goal.returns-in_default-clause-gives
returns-in_default-clause-gives g c =
    let k = g.W.World.view c.args.w.now in
    (refl, λ output steps. unbuilt (ap (λ n. is_built_number k n (Some c.args.number)) c.requires.enters.count ∙ c.in_default.ensures) refl)

pub unwind_or_enter-requires-clause-unwinds : goal.unwind_or_enter-requires-clause-unwinds
unwind_or_enter-requires-clause-unwinds g c = subst (λ p. HasBuiltNumber (g.W.World.view c.args.w.now) c.args.args (Some p) c.args.number) c.in-Unwind.is c.in-Some.ensures

pub read_or_enter-requires-clause-reads : goal.read_or_enter-requires-clause-reads
read_or_enter-requires-clause-reads g c = subst (λ p. HasBuiltNumber (g.W.World.view c.args.w.now) c.args.args (Some p) c.args.number) c.in-ReadContext.is c.in-Some.ensures

pub number_or_enter-requires-clause-number : goal.number_or_enter-requires-clause-number
number_or_enter-requires-clause-number g c = subst (λ p. HasBuiltNumber (g.W.World.view c.args.w.now) c.args.args (Some p) c.args.number) c.in-Number.is c.in-Some.ensures
