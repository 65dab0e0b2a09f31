use Rattle.std.proofs.Common.{◌∙◌, sym, ap}
use Rattle.std.specs.Prelude.{codes}
use Rattle.std.specs.Str.{bytes_eq}
use Rattle.cs_build.proofs.LineLemmas.{before_first-none}
use Rattle.cs_build.proofs.lines.begins_class.Goals as goal

pub returns-in-None : goal.returns-in-None
returns-in-None c =
    c.is_word-in-None.ensures ∙ ap (λ text. bytes_eq text (codes "class")) (sym (before_first-none 32 c.args.line.now c.in-None.ensures.none))
