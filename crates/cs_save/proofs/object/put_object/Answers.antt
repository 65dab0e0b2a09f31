use Rattle.cs_save.proofs.Headers.{saved_at_is, there}
use Rattle.cs_save.proofs.Written.{on_err, breaks_first, breaks_then, goes_then}
use Rattle.cs_save.proofs.object.put_object.Goals as goal

pub returns-in_err-put_head-clause-err : goal.returns-in_err-put_head-clause-err
returns-in_err-put_head-clause-err g c = on_err c.from_residual.result _ (breaks_first _ _ _ _ _ (saved_at_is c.args.heap.now.objects c.args.o.0 c.slot_count.result c.header_bits.result (there c.args.heap.now.objects c.args.o.0 c.requires.object) c.slot_count.ensures.value c.header_bits.ensures) c.in_err-put_head.ensures.err)

pub returns-in_err-put_body-clause-err : goal.returns-in_err-put_body-clause-err
returns-in_err-put_body-clause-err g c = on_err c.from_residual-in_err-put_body.result _ (breaks_then _ _ _ _ _ _ (saved_at_is c.args.heap.now.objects c.args.o.0 c.slot_count.result c.header_bits.result (there c.args.heap.now.objects c.args.o.0 c.requires.object) c.slot_count.ensures.value c.header_bits.ensures) c.in_ok-put_head.ensures.ok c.in_err-put_body.ensures.err)

pub returns-clause-ok : goal.returns-clause-ok
returns-clause-ok g c = goes_then _ _ _ _ _ _ (saved_at_is c.args.heap.now.objects c.args.o.0 c.slot_count.result c.header_bits.result (there c.args.heap.now.objects c.args.o.0 c.requires.object) c.slot_count.ensures.value c.header_bits.ensures) c.in_ok-put_head.ensures.ok c.in_ok-put_body.ensures.ok
