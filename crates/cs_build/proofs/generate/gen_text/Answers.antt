use Rattle.std.proofs.Common.{◌≡◌, refl, ap, arith, ◌∙◌}
use Rattle.std.specs.Prelude.{flat_map}
use Rattle.std.specs.List.{range_with_len}
use Rattle.cs_model.specs.Generator.{array_count, array_line, depth_for, down_text, generated, process_text, run_text}
use Rattle.cs_build.proofs.RangeLemmas.{joined-left}
use Rattle.cs_build.proofs.generate.gen_text.Goals as goal

pub returns : goal.returns
unfolding generated
returns c =
    let arrays : c.loop-i.text.items ≡ flat_map array_line (range_with_len 1 (array_count c.args.k)) =
    c.loop-i.invariant ∙ ap (λ n. flat_map array_line (range_with_len 1 n)) (omega (arith, c.loop-i.auto.i-end, c.loop-i-test.false)) in
    joined-left c.loop-i.text.items (flat_map array_line (range_with_len 1 (array_count c.args.k))) down_text (run_text (depth_for c.args.k)) process_text
    _ _ _ _ _ _ arrays c.as_bytes.ensures.value refl refl c.in_ok-append.ensures c.in_ok-write_run.ensures c.in_ok-append-2.ensures
