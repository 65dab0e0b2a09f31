use Rattle.std.proofs.Common.{arith, ap, sym, subst, ◌∙◌, drop, take}
use Rattle.cs_shelf.specs.Outside.{AppendsPart}
use Rattle.cs_core.specs.Pieces.{all_bytes_at}
use Rattle.cs_core.proofs.Portions.{on_err, taken_more, taken_part, used_first}
use Rattle.cs_core.proofs.primitive.write_bytes.Goals as goal

pub returns-in_err-write_whole-clause-err : goal.returns-in_err-write_whole-clause-err
returns-in_err-write_whole-clause-err g c =
    let all = all_bytes_at c.args.heap.now.objects c.args.object.0 in
    let part = taken_part _ _ _ all c.as_slice.result.now c.loop-at.at _ c.byte_count-end.result c.loop-at.invariant.taken
    (c.as_slice.ensures.value ∙ c.bytes_from-piece.ensures.items) c.bytes_from-piece.ensures.part c.in_err-write_whole.ensures.err in
    on_err c.from_residual.result _ (subst (AppendsPart _ _) (ap (λ n. take n all) c.byte_count-end.ensures.value ∙ sym (used_first c.args.heap.now.objects c.args.object.0)) part)

pub loop-at-preserved : goal.loop-at-preserved
loop-at-preserved g c =
    let all = all_bytes_at c.args.heap.now.objects c.args.object.0 in
    record {
      within = omega (arith, c.bytes_from-piece.ensures.part, c.len.ensures.value);
      taken = taken_more _ _ _ all c.as_slice.result.now c.loop-at.at c.len.result c.loop-at.invariant.taken
          (c.as_slice.ensures.value ∙ c.bytes_from-piece.ensures.items ∙ ap (λ n. take n (drop c.loop-at.at all)) (sym c.len.ensures.value)) c.in_ok-write_whole.ensures.ok;
      never_falls = omega (arith, c.loop-at.invariant.never_falls, c.write_whole.ensures.never_falls);
    }
