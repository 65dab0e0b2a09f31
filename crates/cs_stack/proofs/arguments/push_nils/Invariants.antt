use Rattle.std.proofs.Common.{◌≡◌, replicate}
use Rattle.cs_frame.specs.Frame.{nil}
use Rattle.cs_stack.proofs.Stacking.{longer}
use Rattle.cs_stack.proofs.arguments.push_nils.Given as goal

abbrev pub invariant-loop : goal.invariant-loop
invariant-loop l = record {
  frames : l.frames ≡ longer l.fn.frames l.f.page (replicate l.counter nil);
}
