use Rattle.std.proofs.Common.{◌≡◌, ◌<◌, ◌≤◌, ◌+◌, length, take, rules, arith, vec_len, ◌∙◌, ap}
use Rattle.std.proofs.lemmas.List.{length-take}
use Rattle.cs_shelf.proofs.Reading.{asks_more, begins_more, begins_all}
use Rattle.cs_shelf.proofs.whole.read_whole.Goals as goal

pub returns-then-n-eq0-clause-whole : goal.returns-then-n-eq0-clause-whole
returns-then-n-eq0-clause-whole g c =
    let asked : 0 < length (take c.min-wanted.result c.loop-piece.piece) = simp length-take (omega (arith, c.min-wanted.ensures, c.saturating_add.ensures)) in
    begins_all _ _ c.loop-piece.whole.items (vec_len c.loop-piece.whole) c.in_ok-n.n _ c.loop-piece.invariant.read
    (c.loop-piece.invariant.contents c.args.name.now) (rw c.len-in-loop-piece-2.ensures at c.in_ok-n.ensures.end) asked c.if-n-eq0.true

pub loop-piece-preserved : goal.loop-piece-preserved
loop-piece-preserved g c =
    let len : length (take c.in_ok-n.n c.read.new.buffer) ≡ c.in_ok-n.n = simp length-take (omega (arith, c.in_ok-n.ensures.part, c.read.auto.buffer)) in
    let within : c.len-in-loop-piece-2.result + length (take c.min-wanted.result c.loop-piece.piece) ≤ c.args.most + 1 =
    simp length-take (omega (arith, c.min-wanted.ensures, c.saturating_add.ensures, c.len-in-loop-piece.ensures, c.len-in-loop-piece-2.ensures)) in
    record {
      read =
          begins_more _ _ c.loop-piece.whole.items _ c.extend_from_slice.new.self.items (vec_len c.loop-piece.whole) c.in_ok-n.n _ c.loop-piece.invariant.read
          (c.loop-piece.invariant.contents c.args.name.now) (rw c.len-in-loop-piece-2.ensures at c.in_ok-n.ensures.bytes)
          c.in_ok-extend_from_slice.ensures.items (c.in_ok-extend_from_slice.ensures.len ∙ ap (λ n. vec_len c.loop-piece.whole + n) len);
      asked = asks_more _ _ _ (c.args.most + 1) _ c.loop-piece.invariant.asked c.read.ensures.asked within;
      begun_stays = search rules;
      taken_stays = search rules;
      contents = search rules;
      never_falls = omega arith;
      last_stays = search rules;
    }
