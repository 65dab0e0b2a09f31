use Rattle.std.proofs.Common.{◌≡◌}
use Rattle.cs_model.specs.Lookup.{find_in_dictionary}
use Rattle.cs_model.specs.State.{Kept}
use Rattle.cs_classes.specs.Meaning.{ref_of}
use Rattle.cs_lookup.specs.Found.{HasObjects}
use Rattle.cs_lookup.proofs.Finding.{from_position}
use Rattle.cs_lookup.proofs.method_in.Given as goal

-- no selector before this position gave a method
abbrev pub invariant-loop-position : goal.invariant-loop-position
invariant-loop-position l = (k : Kept) → HasObjects l.heap.objects k
    → find_in_dictionary k (ref_of l.heap.objects l.selector.0) (ref_of l.heap.objects l.dictionary.0) ≡ from_position l.heap.objects k (ref_of l.heap.objects l.selector.0) l.dictionary.0 l.position
