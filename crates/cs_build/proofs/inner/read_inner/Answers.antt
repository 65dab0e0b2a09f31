use Rattle.std.proofs.Common.{arith, refl, ◌<◌, ◌≤◌, length}
use Rattle.std.proofs.lemmas.Bool.Decides.{nat_tests}
use Rattle.cs_build.proofs.InnerLemmas.{inner_form-none, inner_form-long}
use Rattle.cs_build.proofs.inner.read_inner.Goals as goal
use Rattle.cs_build.proofs.inner.read_inner.Goals.{in_default-via-then-words-lt1, in_default-via-else-words-lt1+else-words-lt2+else-words-lt3+else-words-lt4+else-words-lt5}

pub returns-in_default : goal.returns-in_default
returns-in_default c = elim c.in_default.branch [
  | in_default-via-then-words-lt1 w ↦
      let h : length c.args.words.now < 1 = grind (arith, nat_tests) in rw (inner_form-none c.args.words.now h) refl
  | in_default-via-else-words-lt1+else-words-lt2+else-words-lt3+else-words-lt4+else-words-lt5 w ↦
      let h : 5 ≤ length c.args.words.now = grind (arith, nat_tests) in rw (inner_form-long c.args.words.now h) refl
]
