use Rattle.std.proofs.Common.{arith, ap, true, ◌≡◌, ◌∙◌}
use Rattle.cs_model.specs.Words.{unused_bytes}
use Rattle.cs_heap.specs.Format.{is_raw}
use Rattle.cs_heap.specs.Object.{slot_count_of}
use Rattle.cs_inspect.proofs.Meanings.{raw_read, raw_unused, raw_whole}
use Rattle.cs_inspect.proofs.Texts.{ends}
use Rattle.cs_inspect.proofs.line.push_raw.Goals as goal

pub unused_bytes-requires : goal.unused_bytes-requires
unused_bytes-requires c = raw_read c.args.heap.now.objects c.args.o.0 c.format.result c.format.ensures.value c.format.ensures.shape c.requires.pointers c.requires.method

pub overflow_sub-end : goal.overflow_sub-end
overflow_sub-end c =
    let raw : is_raw c.format.result ≡ true = raw_read c.args.heap.now.objects c.args.o.0 c.format.result c.format.ensures.value c.format.ensures.shape c.requires.pointers c.requires.method in
    omega (arith, c.unused_bytes.ensures, c.slot_count.ensures.value, raw_unused c.format.result (slot_count_of c.args.heap.now.objects c.args.o.0) c.format.ensures.shape raw)

pub returns : goal.returns
returns c =
    ends _ _ _ _ _ _ _ c.push_bytes.ensures c.in_ok-push_head.ensures
    (raw_whole c.args.heap.now.objects c.args.o.0 c.slot_count.result c.unused_bytes.result c.slot_count.ensures.value (c.unused_bytes.ensures ∙ ap unused_bytes c.format.ensures.value))
