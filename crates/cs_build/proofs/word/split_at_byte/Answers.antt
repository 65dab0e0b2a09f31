use Rattle.std.proofs.Common.{◌≡◌, ◌+◌, ◌-◌, ◌<◌, ◌≤◌, ◌==◌, ◌∙◌, ap, arith, length, take, drop}
use Rattle.std.specs.List.{position_or_len}
use Rattle.std.proofs.lemmas.List.{take_all}
use Rattle.std.proofs.lemmas.Grind.{common_steps}
use Rattle.cs_build.proofs.LineLemmas.{has_byte-place}
use Rattle.cs_build.proofs.word.split_at_byte.Goals as goal

pub returns-clause-some : goal.returns-clause-some
returns-clause-some c =
    let text = c.args.text.now in
    let at = c.in_ok-at.at in
    let found : (at ≡ position_or_len (λ b. b == c.args.separator) text) × (at < length text) = c.in_ok-at.ensures.some in
    let short : length (drop (at + 1) text) ≤ length text - (at + 1) = grind (arith, common_steps) in
    let below : position_or_len (λ b. b == c.args.separator) text < length text = omega (arith, found.0, found.1) in (
      ap (λ k. take k text) found.0,
      take_all (length text - (at + 1)) (drop (at + 1) text) short ∙ ap (λ k. drop (k + 1) text) found.0,
      has_byte-place c.args.separator text below,
    )
