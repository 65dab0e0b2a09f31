use Rattle.std.proofs.Common.{ℕ, ◌+◌, List, [], drop, map, ap, None}
use Rattle.std.specs.Prelude.{fold, pos}
use Rattle.cs_build.specs.declared.form.ClassLine.{ClassLine}
use Rattle.cs_build.specs.Meaning.{class_by}
use Rattle.cs_build.specs.Standing.{forms_in}
use Rattle.cs_build.specs.Wholes.{class_entered}
use Rattle.cs_build.proofs.Walking.{walk_at, walk_all}
use Rattle.cs_build.proofs.class_table.enter_classes.Goals as goal

no_line : ClassLine
no_line = record { name = record { ref_ptr = (0, 0); now = [] }; superclass = None; format = pos 0; fields = pos 0 }

pub loop-line-preserved : goal.loop-line-preserved
unfolding no_line
loop-line-preserved c = walk_at (λ (table : List ℕ) (lines : List ClassLine). fold (class_entered (forms_in c.args.numbering.now)) table (map class_by lines))
    c.loop-line.table.items c.enter_class.new.table.items c.args.lines.now c.loop-line.line-index no_line _ c.loop-line-test.true
    (ap (λ (table : List ℕ). fold (class_entered (forms_in c.args.numbering.now)) table (map class_by (drop (c.loop-line.line-index + 1) c.args.lines.now))) c.enter_class.ensures)
    c.loop-line.invariant

pub returns : goal.returns
returns c = walk_all (λ (lines : List ClassLine). fold (class_entered (forms_in c.args.numbering.now)) c.loop-line.table.items (map class_by lines))
    c.args.lines.now c.loop-line.line-index _ c.loop-line-test.false c.loop-line.invariant
