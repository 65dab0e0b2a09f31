use Rattle.std.proofs.Common.{false, [], length, ap, arith}
use Rattle.cs_heap.specs.declared.Heap.TheInside.{Inside}
use Rattle.cs_heap.specs.Object.{base}
use Rattle.cs_heap.specs.Layout.{headers_in, watched_in}
use Rattle.cs_heap.proofs.Standing.{laid_now, objects_are}
use Rattle.cs_heap.proofs.Heap.new.Goals as goal

pub invariant_of-result : goal.invariant_of-result
invariant_of-result c =
    let new : Inside = record { words = c.in_ok-words.words; births = c.in_ok-births.births; marks = c.in_ok-marks.marks; limit = c.args.limit_words; dirty = false } in
    record {
      laid = laid_now new [] (record { words = c.in_ok-words.ensures.items; births = c.in_ok-births.ensures.items; marks = ap headers_in c.in_ok-marks.ensures.items; storable = tt });
      within = omega (arith, ap length c.in_ok-words.ensures.items);
      least = omega arith;
      most = omega arith;
      word_room = omega (arith, c.in_ok-words.ensures.exact);
      birth_room = omega (arith, c.in_ok-births.ensures.exact);
      mark_room = omega (arith, c.in_ok-marks.ensures.exact);
    }

pub returns-clause-empty : goal.returns-clause-empty
returns-clause-empty c =
    let new : Inside = record { words = c.in_ok-words.words; births = c.in_ok-births.births; marks = c.in_ok-marks.marks; limit = c.args.limit_words; dirty = false } in
    objects_are new [] (record { words = c.in_ok-words.ensures.items; births = c.in_ok-births.ensures.items; marks = ap headers_in c.in_ok-marks.ensures.items; storable = tt })

pub returns-clause-unwatched : goal.returns-clause-unwatched
unfolding watched_in
returns-clause-unwatched c = ap (watched_in base) c.in_ok-marks.ensures.items
