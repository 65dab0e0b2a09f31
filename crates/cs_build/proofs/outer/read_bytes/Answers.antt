use Rattle.std.proofs.Common.{arith, refl, ◌<◌, ◌≤◌, length}
use Rattle.std.proofs.lemmas.Bool.Decides.{nat_tests}
use Rattle.cs_build.proofs.OuterLemmas.{bytes_form-short, bytes_form-long}
use Rattle.cs_build.proofs.outer.read_bytes.Goals as goal
use Rattle.cs_build.proofs.outer.read_bytes.Goals.{in_default-via-then-words-lt3, in_default-via-else-words-lt3+else-words-lt4}

pub returns-in_default : goal.returns-in_default
returns-in_default c = elim c.in_default.branch [
  | in_default-via-then-words-lt3 w ↦
      let h : length c.args.words.now < 3 = grind (arith, nat_tests) in rw (bytes_form-short c.args.words.now h) refl
  | in_default-via-else-words-lt3+else-words-lt4 w ↦
      let h : 4 ≤ length c.args.words.now = grind (arith, nat_tests) in rw (bytes_form-long c.args.words.now h) refl
]
