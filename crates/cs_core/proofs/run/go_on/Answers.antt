use Rattle.std.proofs.Common.{◌≡◌, ◌∙◌, ◌+◌, ◌≤◌, sym, refl, arith, false}
use Rattle.cs_model.specs.Due.{is_idle}
use Rattle.cs_acts.specs.declared.run.Phase.TheVariants as phase
use Rattle.cs_core.specs.VmParts.{Seen, seen_at}
use Rattle.cs_core.proofs.Deepening.{most_stays}
use Rattle.cs_core.proofs.Rolling.{begins, begins_idle, breaks_off, fills, finishes, goes_idle, goes_on, left_idle, rest_follows, rests_here, stops_here}
use Rattle.cs_core.proofs.run.go_on.Goals as goal

pub returns-then-is_idle-clause-gives : goal.returns-then-is_idle-clause-gives
returns-then-is_idle-clause-gives g c k j h =
    let w = c.args.w.now in
    let before : Seen = seen_at (g.W.World.stored w) (g.W.World.view w) (g.W.World.layout w) c.args.at.now.steps c.args.at.now.place phase.Ready in
    rests_here c.args.n before (g.W.World.stored w) (g.W.World.layout w) c.at_rest.new.at.place c.requires.within
    (begins_idle k j (g.K.Sink.taken c.args.out.now) before refl (sym c.is_idle.ensures ∙ c.if-is_idle.true) h) c.at_rest.ensures.place c.at_rest.new.at.steps c.at_rest.result c.at_rest.ensures.steps c.at_rest.ensures.ending

pub loop-steps-init : goal.loop-steps-init
loop-steps-init g c =
    let w = c.args.w.now in
    let before : Seen = seen_at (g.W.World.stored w) (g.W.World.view w) (g.W.World.layout w) c.args.at.now.steps c.args.at.now.place phase.Ready in
    let active : is_idle (g.W.World.view w) ≡ false = sym c.is_idle.ensures ∙ c.if-is_idle.false in
    record {
      stands = λ k j h. begins k j (g.K.Sink.taken c.args.out.now) before refl active h;
      ready = record { sound = c.requires.ready.0; running = c.requires.ready.1 active };
      active = active;
      process = c.active_process-process.ensures;
      never_falls = omega arith;
      most = refl;
      limit = refl;
    }

pub returns-in-Idle-clause-gives : goal.returns-in-Idle-clause-gives
returns-in-Idle-clause-gives g c k j h =
    let w = c.step.new.w in
    let within : c.loop-steps.steps + 1 ≤ c.args.n = omega (arith, c.loop-steps-test.true) in
    rests_here c.args.n _ (g.W.World.stored w) (g.W.World.layout w) c.at_rest-in-Idle.new.at.place within
    (goes_idle (c.loop-steps.invariant.stands k j h) (g.W.World.layout w) c.in-Idle.ensures.gives) c.at_rest-in-Idle.ensures.place c.at_rest-in-Idle.new.at.steps c.at_rest-in-Idle.result
    c.at_rest-in-Idle.ensures.steps c.at_rest-in-Idle.ensures.ending

pub returns-in-Idle-clause-follows : goal.returns-in-Idle-clause-follows
returns-in-Idle-clause-follows g c =
    rest_follows (g.W.World.stored c.step.new.w) (g.W.World.view c.step.new.w) (c.loop-steps.steps + 1) c.args.n c.at_rest-in-Idle.result c.in-Idle.ensures.gives.4
    (left_idle (g.W.World.view c.loop-steps.w) (g.W.World.view c.step.new.w) c.in-Idle.ensures.gives.3) c.at_rest-in-Idle.ensures.ending

pub returns-in-Stopped-clause-gives : goal.returns-in-Stopped-clause-gives
returns-in-Stopped-clause-gives g c k j h =
    let w = c.args.w.now in
    let before : Seen = seen_at (g.W.World.stored w) (g.W.World.view w) (g.W.World.layout w) c.args.at.now.steps c.args.at.now.place phase.Ready in
    stops_here (c.loop-steps.invariant.stands k j h) c.args.n before c.place_of-place.result c.in-Stopped.reason c.loop-steps-test.true c.in-Stopped.ensures.gives c.place_of-place.ensures.place c.in-Stopped.ensures.untouched

pub returns-in-Full-clause-gives : goal.returns-in-Full-clause-gives
returns-in-Full-clause-gives g c k j h =
    let inv = c.loop-steps.invariant in
    fills (g.W.World.layout c.step.new.w) c.args.n _ c.place_of-place.result c.in-Full.why (inv.stands k j h) inv.most c.loop-steps-test.true inv.ready c.place_of-place.ensures.laid c.in-Full.ensures.gives
    c.place_of-place.ensures.place (λ held. held)

pub returns-in-WriteFault-clause-gives : goal.returns-in-WriteFault-clause-gives
returns-in-WriteFault-clause-gives g c k j h =
    let w = c.args.w.now in
    let before : Seen = seen_at (g.W.World.stored w) (g.W.World.view w) (g.W.World.layout w) c.args.at.now.steps c.args.at.now.place phase.Ready in
    breaks_off (c.loop-steps.invariant.stands k j h) c.args.n before c.place_of-place.result c.loop-steps-test.true c.in-WriteFault.ensures.gives c.place_of-place.ensures.place

pub loop-steps-preserved : goal.loop-steps-preserved
loop-steps-preserved g c =
    let inv = c.loop-steps.invariant in
    record {
      stands = λ k j h. goes_on (inv.stands k j h) c.in-Active.active c.place_of-place.ensures.laid c.in-Active.ensures.gives;
      ready = c.in-Active.ensures.gives.4;
      active = c.in-Active.ensures.gives.5;
      process = c.in-Active.ensures.process;
      never_falls = omega (arith, inv.never_falls, c.step.ensures.never_falls);
      most = most_stays (g.W.World.layout c.loop-steps.w) (g.W.World.layout c.step.new.w) (g.W.World.view c.step.new.w) c.in-Active.ensures.gives.6.frames ∙ inv.most;
      limit = c.step.ensures.limit ∙ inv.limit;
    }

pub returns-clause-gives : goal.returns-clause-gives
returns-clause-gives g c k j h =
    let all : c.loop-steps.steps ≡ c.args.n = omega (arith, c.loop-steps-test.false, c.loop-steps.auto.steps-end) in
    finishes (c.loop-steps.invariant.stands k j h) c.args.n _ c.place_of.result all c.place_of.ensures.place (λ held. held)
