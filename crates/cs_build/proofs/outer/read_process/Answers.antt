use Rattle.std.proofs.Common.{arith, refl, ◌<◌, ◌≤◌, length}
use Rattle.std.proofs.lemmas.Bool.Decides.{nat_tests}
use Rattle.cs_build.proofs.OuterLemmas.{process_form-short, process_form-long}
use Rattle.cs_build.proofs.outer.read_process.Goals as goal
use Rattle.cs_build.proofs.outer.read_process.Goals.{in_default-via-then-words-lt5, in_default-via-else-words-lt5+else-words-lt6}

pub returns-in_default : goal.returns-in_default
returns-in_default c = elim c.in_default.branch [
  | in_default-via-then-words-lt5 w ↦
      let h : length c.args.words.now < 5 = grind (arith, nat_tests) in rw (process_form-short c.args.words.now h) refl
  | in_default-via-else-words-lt5+else-words-lt6 w ↦
      let h : 6 ≤ length c.args.words.now = grind (arith, nat_tests) in rw (process_form-long c.args.words.now h) refl
]
