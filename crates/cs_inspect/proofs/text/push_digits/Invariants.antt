use Rattle.std.proofs.Common.{◌≡◌, ◌-◌, ◌++◌, drop, flat_map, take}
use Rattle.cs_heap.specs.Object.{words_at}
use Rattle.cs_model.specs.Words.{bytes_of_words}
use Rattle.cs_model.specs.Print.{byte_text}
use Rattle.cs_inspect.proofs.text.push_digits.Given as goal

abbrev pub invariant-loop-i : goal.invariant-loop-i
invariant-loop-i l = l.text.items ≡ l.fn.text.items ++ flat_map byte_text (take (l.i - l.from) (drop l.from (bytes_of_words (words_at l.heap.objects l.o.0))))
