use Rattle.std.proofs.Common.{◌≡◌, ◌-◌, drop, map, take}
use Rattle.cs_heap.specs.Object.{words_at}
use Rattle.cs_model.specs.Canon.{same_refs}
use Rattle.cs_inspect.specs.Comparing.{numbered_word}
use Rattle.cs_inspect.proofs.comparison.same_slots.Given as goal

abbrev pub invariant-loop-i : goal.invariant-loop-i
invariant-loop-i l =
    same_refs (map (numbered_word l.a.addresses.now.keys) (take (l.end - l.i) (drop l.i (words_at l.a.image.now.heap.objects l.o.0)))) (map (numbered_word l.b.addresses.now.keys) (take (l.end - l.i) (drop l.i (words_at l.b.image.now.heap.objects l.p.0))))
    ≡ same_refs (map (numbered_word l.a.addresses.now.keys) (take (l.end - l.from) (drop l.from (words_at l.a.image.now.heap.objects l.o.0)))) (map (numbered_word l.b.addresses.now.keys) (take (l.end - l.from) (drop l.from (words_at l.b.image.now.heap.objects l.p.0))))
