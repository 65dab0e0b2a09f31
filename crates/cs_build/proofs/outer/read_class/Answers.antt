use Rattle.std.proofs.Common.{arith, refl, ◌<◌, ◌≤◌, length}
use Rattle.std.proofs.lemmas.Bool.Decides.{nat_tests}
use Rattle.cs_build.proofs.OuterLemmas.{class_form-short, class_form-long}
use Rattle.cs_build.proofs.outer.read_class.Goals as goal
use Rattle.cs_build.proofs.outer.read_class.Goals.{in_default-via-then-words-lt4, in_default-via-else-words-lt4+else-words-lt5}

pub returns-in_default : goal.returns-in_default
returns-in_default c = elim c.in_default.branch [
  | in_default-via-then-words-lt4 w ↦
      let h : length c.args.words.now < 4 = grind (arith, nat_tests) in rw (class_form-short c.args.words.now h) refl
  | in_default-via-else-words-lt4+else-words-lt5 w ↦
      let h : 5 ≤ length c.args.words.now = grind (arith, nat_tests) in rw (class_form-long c.args.words.now h) refl
]
