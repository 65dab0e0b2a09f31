use Rattle.std.proofs.Common.{◌≡◌, true, IfSome, is_some}
use Rattle.std.specs.Prelude.{not}
use Rattle.cs_model.specs.Obj.{is_context_at}
use Rattle.cs_model.specs.State.{object_at}
use Rattle.cs_model.specs.PrimUnwind.{search_mark}
use Rattle.cs_model.specs.Return.{links}
use Rattle.cs_acts.specs.Targets.{is_gone}
use Rattle.cs_unwind.proofs.Searches.{IsRest}
use Rattle.cs_unwind.proofs.marks.search_mark.Given as goal

abbrev pub invariant-loop : goal.invariant-loop
invariant-loop g l = record {
  gone : is_gone l.here ≡ not (is_some (g.W.World.act l.fn.w l.here));
  context : IfSome (g.W.World.act l.fn.w l.here) (λ birth. is_context_at (object_at (g.W.World.view l.fn.w) birth) ≡ true);
  rest : IsRest (g.W.World.view l.fn.w) l.fn.number l.fn.goal l.counter (g.W.World.act l.fn.w l.here) (search_mark links (g.W.World.view l.fn.w) l.fn.number l.fn.goal (g.W.World.act l.fn.w l.fn.from));
}
