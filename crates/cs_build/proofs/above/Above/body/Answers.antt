use Rattle.std.proofs.Common.{◌-◌, length, drop, ap, ◌∙◌, arith, length-drop}
use Rattle.std.proofs.lemmas.List.{take_all}
use Rattle.cs_build.specs.Lines.{forms_by}
use Rattle.cs_build.proofs.Judging.{forms_by-drop}
use Rattle.cs_build.proofs.above.Above.body.Goals as goal

pub returns-clause-forms : goal.returns-clause-forms
returns-clause-forms c =
    let start = c.args.self.now.tables.now.body.start in
    let lines = c.args.self.now.lines.now in
    ap forms_by (take_all (length lines - start) (drop start lines) (omega (arith, length-drop start lines)))
    ∙ forms_by-drop start lines ∙ c.requires.tables.body.start
