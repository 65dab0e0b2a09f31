-- The bytes up to `i` are there.
use Rattle.std.proofs.Common.{◌≡◌, ◌≤◌, ◌-◌, ◌+◌, drop, take}
use Rattle.arrayvec.specs.ArrayVec.{array_vec_len}
use Rattle.cs_core.specs.Pieces.{all_bytes_at}
use Rattle.cs_core.proofs.primitive.bytes_from.Given as goal

abbrev pub invariant-loop-i : goal.invariant-loop-i
invariant-loop-i l =
    record {
      begun : l.at ≤ l.i;
      count : l.at + array_vec_len l.piece ≡ l.i;
      bytes : l.piece.items ≡ take (l.i - l.at) (drop l.at (all_bytes_at l.heap.objects l.object.0));
    }
