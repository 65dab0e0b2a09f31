use Rattle.std.proofs.Common.{◌≡◌, map, drop}
use Rattle.cs_build.specs.Numbered.{plain_names, mentioned}
use Rattle.cs_build.proofs.symbols.mention_selectors.Given as goal

abbrev pub invariant-loop-selector : goal.invariant-loop-selector
invariant-loop-selector l = mentioned (plain_names l.symbols.keys) (map (λ e. e.0.now) (drop l.selector-index l.selector-items))
    ≡ mentioned (plain_names l.fn.symbols.keys) (map (λ e. e.0.now) l.selector-items)
