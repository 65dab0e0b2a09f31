use Rattle.std.proofs.Common.{◌≡◌, ◌-◌, drop, take}
use Rattle.cs_heap.specs.Object.{words_at}
use Rattle.cs_model.specs.Words.{bytes_of_words}
use Rattle.cs_model.specs.Canon.{same_numbers}
use Rattle.cs_inspect.proofs.comparison.same_bytes.Given as goal

abbrev pub invariant-loop-i : goal.invariant-loop-i
invariant-loop-i l =
    same_numbers (take (l.end - l.i) (drop l.i (bytes_of_words (words_at l.a.objects l.o.0)))) (take (l.end - l.i) (drop l.i (bytes_of_words (words_at l.b.objects l.p.0))))
    ≡ same_numbers (take (l.end - l.from) (drop l.from (bytes_of_words (words_at l.a.objects l.o.0)))) (take (l.end - l.from) (drop l.from (bytes_of_words (words_at l.b.objects l.p.0))))
