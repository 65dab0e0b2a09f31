use Rattle.std.proofs.Common.{◌≡◌, ◌++◌}
use Rattle.cs_inspect.proofs.order.in_order.Given as goal

abbrev pub invariant-loop-o : goal.invariant-loop-o
invariant-loop-o l = l.order.items ++ l.o-iterator ≡ l.initial.o-iterator
