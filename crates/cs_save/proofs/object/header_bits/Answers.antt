use Rattle.cs_save.proofs.Headers.{header_filed, there}
use Rattle.std.proofs.Common.{cond, ap, ◌∙◌}
use Rattle.cs_save.proofs.object.header_bits.Goals as goal

pub returns : goal.returns
returns c = c.write.ensures.bits ∙ header_filed c.args.heap.now.objects c.args.o.0 c.header-seen.result c.fixed_flags-flags.result (there c.args.heap.now.objects c.args.o.0 c.requires)
    c.header-seen.ensures.value (c.fixed_flags-flags.ensures ∙ ap (λ b. cond b 1 0) c.is_fixed.ensures)
