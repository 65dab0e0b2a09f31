use Rattle.std.proofs.Common.{arith, drop}
use Rattle.cs_heap.specs.Object.{words_at}
use Rattle.cs_model.specs.Words.{bytes_of_words}
use Rattle.cs_inspect.proofs.Texts.{digits_begin, more_digits}
use Rattle.cs_inspect.proofs.text.push_digits.Goals as goal

pub loop-i-init : goal.loop-i-init
loop-i-init c = digits_begin c.args.from (drop c.args.from (bytes_of_words (words_at c.args.heap.now.objects c.args.o.0))) c.args.text.now.items

pub loop-i-preserved : goal.loop-i-preserved
loop-i-preserved c = more_digits c.args.heap.now.objects c.args.o.0 c.args.from c.loop-i.i _ _ _ c.byte.result (omega arith) (omega (arith, c.requires.within)) c.byte.ensures c.loop-i.invariant c.in_ok-push_byte.ensures
