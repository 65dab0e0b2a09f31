use Rattle.std.proofs.Common.{◌≡◌, map, drop}
use Rattle.cs_build.specs.Numbered.{plain_names, mentioned}
use Rattle.cs_build.proofs.symbols.mention_specials.Given as goal

abbrev pub invariant-loop-special : goal.invariant-loop-special
invariant-loop-special l = mentioned (plain_names l.symbols.keys) (map (λ e. e.1.now) (drop l.special-index l.special-items))
    ≡ mentioned (plain_names l.fn.symbols.keys) (map (λ e. e.1.now) l.special-items)
