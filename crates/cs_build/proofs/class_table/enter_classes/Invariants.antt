use Rattle.std.proofs.Common.{◌≡◌, map, drop, fold}
use Rattle.cs_build.specs.Meaning.{class_by}
use Rattle.cs_build.specs.Standing.{forms_in}
use Rattle.cs_build.specs.Wholes.{class_entered}
use Rattle.cs_build.proofs.class_table.enter_classes.Given as goal

abbrev pub invariant-loop-line : goal.invariant-loop-line
invariant-loop-line l = fold (class_entered (forms_in l.numbering)) l.table.items (map class_by (drop l.line-index l.lines))
    ≡ fold (class_entered (forms_in l.numbering)) l.fn.table.items (map class_by l.lines)
