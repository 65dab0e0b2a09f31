use Rattle.std.proofs.Common.{sym}
use Rattle.cs_decode.proofs.Places.{decode_at-none, decoded-IsInstr}
use Rattle.cs_decode.proofs.decoder.decode.Goals as goal

pub returns-in-Some-clause-is_instr : goal.returns-in-Some-clause-is_instr
returns-in-Some-clause-is_instr c =
    decoded-IsInstr c.byte_at-code.result c.byte_at.result c.byte_at-2.result c.byte_at-3.result c.len_of-len.result c.in-Some.op
    c.byte_at-code.type_inv c.byte_at.type_inv c.byte_at-2.type_inv c.byte_at-3.type_inv c.len_of-len.ensures (sym c.in-Some.ensures)

pub returns-in-None-clause-none : goal.returns-in-None-clause-none
returns-in-None-clause-none c =
    decode_at-none c.args.bytes.now c.args.at c.byte_at-code.result c.byte_at.result c.byte_at-2.result c.byte_at-3.result
    c.byte_at-code.ensures c.byte_at.ensures c.byte_at-2.ensures c.byte_at-3.ensures c.in-None.ensures
