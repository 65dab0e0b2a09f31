use Rattle.std.proofs.Common.{◌≡◌, ◌≤◌, ◌*◌, drop}
use Rattle.cs_model.specs.BuilderFault.{has_misfit}
use Rattle.cs_build.specs.Lines.{forms_by}
use Rattle.cs_build.specs.Tabled.{body_by}
use Rattle.cs_build.proofs.judge.has_misfit.Given as goal

abbrev pub invariant-loop-line : goal.invariant-loop-line
invariant-loop-line l = record {
  few : l.place ≤ 4 * l.line-index;
  judged : has_misfit (body_by l.above) 0 (forms_by l.body) ≡ has_misfit (body_by l.above) l.place (forms_by (drop l.line-index l.body));
}
