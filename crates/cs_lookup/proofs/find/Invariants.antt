use Rattle.cs_lookup.proofs.Finding.{Searched}
use Rattle.cs_lookup.proofs.find.Given as goal

abbrev pub invariant-loop : goal.invariant-loop
invariant-loop l = Searched l.heap.objects l.fn.class.0 l.selector.0 l.counter l.class.0
