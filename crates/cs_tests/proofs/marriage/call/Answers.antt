use Rattle.std.proofs.Common.{sym, subst, arith}
use Rattle.cs_frame.specs.declared.NewFrame.{NewFrame}
use Rattle.cs_marriage.specs.Agree.{Agree, header_at}
use Rattle.cs_marriage.proofs.Laws.{agree_called, method_value, size_least}
use Rattle.cs_tests.proofs.marriage.call.Goals as goal

pub build-requires-clause-values : goal.build-requires-clause-values
build-requires-clause-values g c = record {
  method = method_value c.args.heap.now.objects c.args.method.0 c.method_stands.ensures.stands;
  closure = λ e. omega (arith, e);
  receiver = λ e. omega (arith, e);
}

pub returns-clause-agree : goal.returns-clause-agree
returns-clause-agree g c =
    let os = c.args.heap.now.objects in
    let ps = c.args.frames.now in
    let new : NewFrame = record { method = c.args.method; closure = record { 0 = 65536 }; receiver = record { 0 = 65536 }; birth = c.args.birth; args = 0; fill = 2 } in
    subst (Agree os) (sym c.build.ensures.made)
    (agree_called os ps 0 new c.requires.agree c.requires.page c.has_room.ensures.stacked c.has_room.ensures.room c.can_call.ensures.there (record {
      method = c.method_stands.ensures.stands;
      stack = omega (arith, size_least (header_at os c.args.method.0));
    }))
