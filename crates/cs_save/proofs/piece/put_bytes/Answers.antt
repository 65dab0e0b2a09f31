use Rattle.std.proofs.Common.{[]}
use Rattle.cs_save.proofs.Written.{on_err, broke_first}
use Rattle.cs_save.proofs.piece.put_bytes.Goals as goal

pub returns-in_err-make_room-clause-err : goal.returns-in_err-make_room-clause-err
returns-in_err-make_room-clause-err g c = on_err c.from_residual.result _ (broke_first _ _ [] c.args.bytes.now c.in_err-make_room.ensures.err)
