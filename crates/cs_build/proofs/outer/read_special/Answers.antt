use Rattle.std.proofs.Common.{arith, refl, ◌<◌, ◌≤◌, length}
use Rattle.std.proofs.lemmas.Bool.Decides.{nat_tests}
use Rattle.cs_build.proofs.OuterLemmas.{special_form-short, special_form-long}
use Rattle.cs_build.proofs.outer.read_special.Goals as goal
use Rattle.cs_build.proofs.outer.read_special.Goals.{in_default-via-then-words-lt2, in_default-via-else-words-lt2+else-words-lt3}

pub returns-in_default : goal.returns-in_default
returns-in_default c = elim c.in_default.branch [
  | in_default-via-then-words-lt2 w ↦
      let h : length c.args.words.now < 2 = grind (arith, nat_tests) in rw (special_form-short c.args.words.now h) refl
  | in_default-via-else-words-lt2+else-words-lt3 w ↦
      let h : 3 ≤ length c.args.words.now = grind (arith, nat_tests) in rw (special_form-long c.args.words.now h) refl
]
