use Rattle.std.proofs.Common.{◌≡◌, ◌/◌, length, ap, ◌∙◌, arith}
use Rattle.cs_model.specs.ImageFile.{heap_size}
use Rattle.cs_image.proofs.Faults.{header_is, length-words_in}
use Rattle.cs_image.proofs.read_objects.Goals as goal

pub cut-requires-clause-size : goal.cut-requires-clause-size
cut-requires-clause-size c =
    let long : length c.in_ok-words.words.items ≡ heap_size c.args.bytes.now / 4 = ap length c.in_ok-words.ensures ∙ length-words_in c.args.bytes.now in
    let header = header_is c.args.bytes.now c.requires in
    omega (arith, long, header.heap, header.short)

pub cut-requires-clause-fits : goal.cut-requires-clause-fits
cut-requires-clause-fits c =
    let long : length c.in_ok-words.words.items ≡ heap_size c.args.bytes.now / 4 = ap length c.in_ok-words.ensures ∙ length-words_in c.args.bytes.now in
    let fits = (header_is c.args.bytes.now c.requires).fits in
    omega (arith, long, fits, c.u32_at.ensures)
