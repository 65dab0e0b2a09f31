use Rattle.std.proofs.Common.{ap, ◌∙◌, length}
use Rattle.cs_model.specs.Decode.{decode_at}
use Rattle.cs_decode.proofs.HasForm.{IsInstr-has_form}
use Rattle.cs_decode.proofs.Assembled.{assembles}
use Rattle.cs_decode.proofs.assembler.assemble.Goals as goal

pub bytes_of-requires : goal.bytes_of-requires
bytes_of-requires c = IsInstr-has_form c.args.i.now c.requires

pub returns-clause-len : goal.returns-clause-len
returns-clause-len c =
    let whole = assembles c.args.i.now.len c.args.i.now.op (IsInstr-has_form c.args.i.now c.requires) in
    c.bytes_of.ensures.len ∙ ap length c.bytes_of.ensures.bytes ∙ whole.length

pub returns-clause-decoded : goal.returns-clause-decoded
returns-clause-decoded c =
    let whole = assembles c.args.i.now.len c.args.i.now.op (IsInstr-has_form c.args.i.now c.requires) in
    ap (λ bytes. decode_at bytes 0) c.bytes_of.ensures.bytes ∙ whole.decoded
