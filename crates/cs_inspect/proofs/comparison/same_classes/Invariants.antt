use Rattle.std.proofs.Common.{◌≡◌, ◌<◌, ℕ, option_map}
use Rattle.std.specs.FinMap.{get}
use Rattle.cs_inspect.specs.Comparing.{address_number}
use Rattle.cs_inspect.proofs.comparison.same_classes.Given as goal

abbrev pub invariant-loop-index : goal.invariant-loop-index
invariant-loop-index l =
    (q : ℕ) → q < l.index → option_map (address_number l.a.addresses.now.keys) (get l.a.image.now.classes q) ≡ option_map (address_number l.b.addresses.now.keys) (get l.b.image.now.classes q)
