use Rattle.std.specs.List.{range_with_len}
use Rattle.cs_model.specs.Words.{bytes_of_words}
use Rattle.cs_save.specs.Filed.{entry_word}
use Rattle.std.proofs.Common.{◌≡◌, ℕ, ◌*◌, ◌-◌, map, ap, arith}
use Rattle.cs_save.proofs.Written.{on_err, went_same, loop_begun, loop_more, loop_broke}
use Rattle.cs_save.proofs.table.put_entries.Goals as goal

pub loop-index-init : goal.loop-index-init
loop-index-init g c = record {
  from = omega arith;
  written =
      let none : 0 ≡ 1024 * c.args.page - 1024 * c.args.page = omega arith in
      went_same _ _ _ _ (ap (λ (n : ℕ). bytes_of_words (map (entry_word c.args.classes.now) (range_with_len (1024 * c.args.page) n))) none) (loop_begun _);
}

pub loop-index-preserved : goal.loop-index-preserved
loop-index-preserved g c = record {
  from = omega (arith, c.loop-index.invariant.from);
  written = loop_more _ _ _ _ (1024 * c.args.page) (c.loop-index.index - 1024 * c.args.page) _ c.loop-index.index _ c.loop-index.invariant.written c.in_ok-put_word.ensures.ok c.entry_word.ensures
      (omega (arith, c.loop-index.invariant.from)) (omega (arith, c.loop-index.invariant.from));
}

pub returns-in_err-put_word-clause-err : goal.returns-in_err-put_word-clause-err
returns-in_err-put_word-clause-err g c =
    on_err c.from_residual.result _ (loop_broke _ _ _ _ (1024 * c.args.page) (c.loop-index.index - 1024 * c.args.page) 1024 c.loop-index.index _ c.loop-index.invariant.written c.in_err-put_word.ensures.err
    c.entry_word.ensures (omega (arith, c.loop-index.invariant.from, c.loop-index-test.true)) (omega (arith, c.loop-index.invariant.from)))

pub returns-clause-ok : goal.returns-clause-ok
returns-clause-ok g c =
    let all : c.loop-index.index - 1024 * c.args.page ≡ 1024 = omega (arith, c.loop-index.invariant.from, c.loop-index-test.false) in
    went_same _ _ _ _ (ap (λ (n : ℕ). bytes_of_words (map (entry_word c.args.classes.now) (range_with_len (1024 * c.args.page) n))) all) c.loop-index.invariant.written
