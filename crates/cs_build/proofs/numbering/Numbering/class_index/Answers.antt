use Rattle.std.proofs.Common.{List, ap, ◌∙◌}
use Rattle.std.specs.Prelude.{position}
use Rattle.std.specs.Option.{option_map_or}
use Rattle.std.specs.Str.{bytes_eq}
use Rattle.cs_model.specs.BuilderText.{ClassLine}
use Rattle.cs_model.specs.Builder.{index_at}
use Rattle.cs_build.proofs.numbering.Numbering.class_index.Goals as goal

pub returns : goal.returns
returns c = c.index.ensures ∙ ap (λ (lines : List ClassLine). option_map_or index_at (position (λ (line : ClassLine). bytes_eq line.name c.args.name.now) lines) 0) c.requires.lines
