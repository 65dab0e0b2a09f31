use Rattle.std.proofs.Common.{◌∙◌, arith, rules, length-drop}
use Rattle.cs_shelf.proofs.Appending.{appends_more}
use Rattle.cs_shelf.proofs.whole.append_whole.Goals as goal

pub loop-at-preserved : goal.loop-at-preserved
loop-at-preserved g c =
    record {
      within = omega (arith, c.in_ok-n.ensures.part, length-drop c.loop-at.at c.args.bytes.now);
      taken = appends_more _ _ _ c.args.bytes.now c.loop-at.at c.in_ok-n.n c.loop-at.invariant.taken c.in_ok-n.ensures.ok;
      begun_stays = search rules;
      contents = λ other differs. c.append.ensures.contents other (rw c.loop-at.invariant.begun_stays differs) ∙ c.loop-at.invariant.contents other differs;
      asked_stays = search rules;
      never_falls = omega (arith, c.loop-at.invariant.never_falls, c.append.ensures.never_falls);
      last_stays = search rules;
    }
