-- So many steps are done, and a process is active.
use Rattle.std.proofs.Common.{◌≡◌, ◌≤◌, ℕ, false}
use Rattle.cs_model.specs.State.{Kept, active_process}
use Rattle.cs_model.specs.Due.{is_idle}
use Rattle.cs_acts.specs.declared.run.Phase.TheVariants as phase
use Rattle.cs_acts.specs.Names.{NamesOption}
use Rattle.cs_acts.specs.Ready.{IsReady}
use Rattle.cs_core.specs.Deep.{most_of}
use Rattle.cs_core.specs.Running.{IsStackOf, StandsAt}
use Rattle.cs_core.specs.VmParts.{Seen, seen_at}
use Rattle.cs_core.proofs.Rolling.{Goes}
use Rattle.cs_core.proofs.run.go_on.Given as goal

abbrev pub invariant-loop-steps : goal.invariant-loop-steps
invariant-loop-steps g l =
    let before : Seen = seen_at (g.W.World.stored l.fn.w) (g.W.World.view l.fn.w) (g.W.World.layout l.fn.w) l.fn.at.steps l.fn.at.place phase.Ready in
    record {
      stands : (k : Kept) (j : ℕ) → StandsAt k j before → Goes k j (IsStackOf k j before) (g.K.Sink.taken l.fn.out) (g.K.Sink.taken l.out) l.steps (g.W.World.stored l.w) (g.W.World.view l.w) (g.W.World.layout l.w);
      ready : IsReady (g.W.World.stored l.w) (g.W.World.view l.w);
      active : is_idle (g.W.World.view l.w) ≡ false;
      process : NamesOption (g.W.World.stored l.w) l.process (active_process (g.W.World.view l.w));
      never_falls : g.K.Sink.fault_count l.fn.out ≤ g.K.Sink.fault_count l.out;
      most : most_of (g.W.World.layout l.w) ≡ most_of (g.W.World.layout l.fn.w);
      limit : (g.W.World.stored l.w).memory.limit ≡ (g.W.World.stored l.fn.w).memory.limit;
    }
