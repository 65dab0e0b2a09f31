use Rattle.std.proofs.Common.{IfSome}
use Rattle.cs_model.specs.Return.{sender_birth}
use Rattle.cs_plain.specs.View.{plain_view}
use Rattle.cs_plain.proofs.Cutting.{Cuts}
use Rattle.cs_plain.proofs.PlainWorld.bury_to.Given as goal

abbrev pub invariant-loop : goal.invariant-loop
invariant-loop l = IfSome (sender_birth (plain_view l.fn.self) l.fn.home) (λ target. Cuts l.fn.self l.self l.fn.home target l.context l.counter)
