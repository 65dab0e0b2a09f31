use Rattle.std.proofs.Common.{◌≡◌, drop}
use Rattle.std.specs.List.{list_any}
use Rattle.cs_model.specs.BuilderFault.{is_label_lost}
use Rattle.cs_build.specs.Lines.{forms_by}
use Rattle.cs_build.specs.Tabled.{body_by}
use Rattle.cs_build.proofs.judge.has_lost.Given as goal

abbrev pub invariant-loop-line : goal.invariant-loop-line
invariant-loop-line l = list_any (is_label_lost (body_by l.above)) (forms_by l.body)
    ≡ list_any (is_label_lost (body_by l.above)) (forms_by (drop l.line-index l.body))
