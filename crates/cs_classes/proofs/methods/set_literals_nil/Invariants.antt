use Rattle.std.proofs.Common.{◌≡◌}
use Rattle.cs_classes.specs.Methods.{nil_literals}
use Rattle.cs_classes.proofs.methods.set_literals_nil.Given as goal

abbrev pub invariant-loop-i : goal.invariant-loop-i
invariant-loop-i l = l.heap ≡ record l.fn.heap { objects = nil_literals l.fn.heap.objects l.method.0 l.i }
