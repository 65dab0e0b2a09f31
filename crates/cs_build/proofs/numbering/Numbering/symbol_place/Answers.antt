use Rattle.std.proofs.Common.{ℕ, Option, ap, ◌∙◌}
use Rattle.std.specs.Prelude.{position, unwrap_or}
use Rattle.std.specs.Str.{bytes_eq}
use Rattle.cs_build.proofs.Noting.{name_position}
use Rattle.cs_build.proofs.numbering.Numbering.symbol_place.Goals as goal

pub returns-in-Some-clause-value : goal.returns-in-Some-clause-value
returns-in-Some-clause-value c = ap (λ (o : Option ℕ). unwrap_or o 0) (c.in-Some.ensures.index ∙ name_position c.args.name.now c.args.self.now.symbols.keys
    ∙ ap (position (bytes_eq c.args.name.now)) c.requires.symbols)

pub returns-in-None-clause-value : goal.returns-in-None-clause-value
returns-in-None-clause-value c = ap (λ (o : Option ℕ). unwrap_or o 0) (c.in-None.ensures.index ∙ name_position c.args.name.now c.args.self.now.symbols.keys
    ∙ ap (position (bytes_eq c.args.name.now)) c.requires.symbols)
