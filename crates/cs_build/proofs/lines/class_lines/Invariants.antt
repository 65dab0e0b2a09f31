use Rattle.std.proofs.Common.{◌≡◌, ◌≤◌, ◌+◌, ◌==◌, List, ℕ, Bool, drop}
use Rattle.std.specs.Prelude.{codes, count_by}
use Rattle.std.specs.List.{before_first}
use Rattle.std.specs.Str.{bytes_eq}
use Rattle.cs_model.specs.Text.{space}
use Rattle.cs_build.specs.Narrow.{word_texts}
use Rattle.cs_build.proofs.lines.class_lines.Given as goal

abbrev begins : List ℕ → Bool
begins line = bytes_eq (before_first (λ b. b == space) line) (codes "class")

abbrev pub invariant-loop-line : goal.invariant-loop-line
invariant-loop-line l = record {
  few : l.count ≤ l.line-index;
  counted : count_by begins (word_texts l.lines) ≡ l.count + count_by begins (word_texts (drop l.line-index l.lines));
}
