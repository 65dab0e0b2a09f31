use Rattle.std.proofs.Common.{arith, drop}
use Rattle.cs_heap.specs.Object.{words_at}
use Rattle.cs_model.specs.Words.{bytes_of_words}
use Rattle.cs_inspect.proofs.Reading.{length-bytes_at}
use Rattle.cs_inspect.proofs.Texts.{ends, no_bytes, some_bytes}
use Rattle.cs_inspect.proofs.text.push_bytes.Goals as goal

pub returns-then-from-end : goal.returns-then-from-end
returns-then-from-end c = no_bytes c.args.from c.args.end (drop c.args.from (bytes_of_words (words_at c.args.heap.now.objects c.args.o.0))) c.args.text.now.items (omega arith)

pub returns : goal.returns
returns c = ends _ _ _ _ _ _ _ c.push_digits.ensures c.in_ok-push_text.ensures
    (some_bytes c.args.from c.args.end (bytes_of_words (words_at c.args.heap.now.objects c.args.o.0)) (omega arith) (omega (arith, c.requires.within, length-bytes_at c.args.heap.now.objects c.args.o.0)))
