use Rattle.std.proofs.Common.{◌≡◌, ◌%◌, sym, arith}
use Rattle.cs_word.proofs.Words.{natural_of_word-even, natural_of_word-high, natural_of_word-low}
use Rattle.cs_word.proofs.Oop.natural.Goals.{else-self-eq1-via-then-self-eq1+else-self, else-self-eq1-via-else-self-eq1}
use Rattle.cs_word.proofs.Oop.natural.Goals as goal

pub returns-then-self-clause-value : goal.returns-then-self-clause-value
returns-then-self-clause-value c = sym (natural_of_word-low c.args.self.0 (omega (arith, c.if-self-eq1.true)) (omega (arith, c.if-self.true)))

pub returns-else-self-eq1-clause-value : goal.returns-else-self-eq1-clause-value
returns-else-self-eq1-clause-value c = elim c.else-self-eq1.branch [
  | else-self-eq1-via-then-self-eq1+else-self w ↦ sym (natural_of_word-high c.args.self.0 (omega (arith, w.if-self.false)) (omega arith))
  | else-self-eq1-via-else-self-eq1 w ↦ let even : c.args.self.0 % 2 ≡ 0 = omega (arith, w.if-self-eq1.false) in sym (natural_of_word-even c.args.self.0 even)
]
