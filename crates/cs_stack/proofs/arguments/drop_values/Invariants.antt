use Rattle.std.proofs.Common.{◌≡◌}
use Rattle.cs_stack.proofs.Stacking.{shorter}
use Rattle.cs_stack.proofs.arguments.drop_values.Given as goal

abbrev pub invariant-loop : goal.invariant-loop
invariant-loop l = record {
  frames : l.frames ≡ shorter l.fn.frames l.f.page l.counter;
}
