use Rattle.std.proofs.Common.{◌≡◌, ◌∙◌, None, ap, subst, sym}
use Rattle.cs_acts.specs.declared.run.Phase.{Phase}
use Rattle.cs_acts.specs.declared.run.Phase.TheVariants as phase
use Rattle.cs_core.specs.Running.{CanRun, end_again, phase_behind}
use Rattle.cs_core.specs.VmParts.{Seen, seen_at}
use Rattle.cs_core.proofs.Phases.{gives_same, is_ready, limit_same, phase_same, seen_same}
use Rattle.cs_core.proofs.vm.Vm.run.Goals as goal

pub returns : goal.returns
returns g c =
    let m = c.self.inside in
    let w = c.go_on-end.new.w in
    let end = c.go_on-end.result in
    let followed : c.phase_behind-self-inside.result ≡ phase_behind end = c.phase_behind-self-inside.ensures in
    let may : CanRun m.phase = subst CanRun (sym (phase_same _ _ c.self.view_is)) c.requires.phase in
    let ready : m.phase ≡ phase.Ready = is_ready m.phase (g.W.World.stored m.world) (g.W.World.view m.world) may c.self.invariant c.in_default.not-Idle in
    let none : end_again c.args.self.now.phase ≡ None = ap end_again (sym (phase_same _ _ c.self.view_is) ∙ ready) in
    let first : Phase → Seen = λ p. seen_at (g.W.World.stored m.world) (g.W.World.view m.world) (g.W.World.layout m.world) m.at.steps m.at.place p in
    let last : Phase → Seen = λ p. seen_at (g.W.World.stored w) (g.W.World.view w) (g.W.World.layout w) c.go_on-end.new.at.steps c.go_on-end.new.at.place p in
    record {
      phase = followed;
      again = rw none tt;
      gives = λ k j at h.
          gives_same k j c.args.n (g.K.Sink.taken c.args.out.now) (g.K.Sink.taken c.go_on-end.new.out) _ (first phase.Ready) _ (last (phase_behind end)) end
          (ap first (sym ready) ∙ seen_same _ _ c.self.view_is g.W.World.stored g.W.World.view g.W.World.layout) (ap last (sym followed)) h (c.go_on-end.ensures.gives k j);
      sound = c.go_on-end.ensures.sound;
      limit = c.go_on-end.ensures.limit ∙ limit_same _ _ c.self.view_is g.W.World.stored;
      never_falls = c.go_on-end.ensures.never_falls;
      cause = λ at. c.go_on-end.ensures.cause;
    }
