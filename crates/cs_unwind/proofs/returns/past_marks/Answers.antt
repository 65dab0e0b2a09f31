use Rattle.std.proofs.Common.{ap, subst}
use Rattle.cs_model.specs.declared.stop.Stop.TheVariants as why
use Rattle.cs_model.specs.End.{Out}
use Rattle.cs_model.specs.Read.{active_birth}
use Rattle.cs_acts.specs.Names.{name_of}
use Rattle.cs_unwind.specs.Walked.{ActStands}
use Rattle.cs_unwind.proofs.Arriving.{dies_is, mark_at, nonlocal_ended, nonlocal_far, nonlocal_marked, returns_as, unmarked}
use Rattle.cs_unwind.proofs.Pushing.{stopped}
use Rattle.cs_unwind.proofs.Walking.{told}
use Rattle.cs_unwind.proofs.returns.past_marks.Goals as goal

pub past_home-requires-clause-free : goal.past_home-requires-clause-free
past_home-requires-clause-free g c =
    let k = g.W.World.view c.args.w.now in
    let h = c.requires.home in
    let m = c.in-Met.ensures h.birth h.stands in
    let leads = told _ c.sender-target.ensures h.stands in
    record {
      home = h;
      births = m.births;
      met = m.is;
      unmarked = unmarked _ _ _ c.in-None.is m.sees.mark;
      leads = leads;
      doomed = λ i e.
          let s = subst (ActStands (g.W.World.act c.args.w.now) c.sender-target.result) e leads in
          dies_is _ c.sender-target.result (active_birth k) h.birth m.births c.in-Met.passed.target c.dies-dies.result i s m.sees.meets (c.dies-dies.ensures i h.birth s h.stands);
    }

pub returns-in-Some : goal.returns-in-Some
returns-in-Some g c =
    let k = g.W.World.view c.args.w.now in
    let x = name_of (g.W.World.stored c.args.w.now) c.args.value in
    let h = c.requires.home in
    let m = c.in-Met.ensures h.birth h.stands in
    let mark = mark_at _ _ c.in-Some.mark _ c.in-Some.is m.sees.mark in
    returns_as _ _ _ _ _ _ _ _ _ _ (nonlocal_marked _ k c.args.home h x m.births mark.birth m.is mark.is) (c.about_to_return.ensures _ mark.birth mark.stands)

pub returns-in-Ended : goal.returns-in-Ended
returns-in-Ended g c =
    let k = g.W.World.view c.args.w.now in
    let x = name_of (g.W.World.stored c.args.w.now) c.args.value in
    let h = c.requires.home in
    returns_as _ _ _ _ _ _ _ _ _ _ (nonlocal_ended _ k c.args.home h x (c.in-Ended.ensures h.birth h.stands)) (c.cannot_return.ensures _)

pub returns-in-TooLong : goal.returns-in-TooLong
returns-in-TooLong g c =
    let k = g.W.World.view c.args.w.now in
    let x = name_of (g.W.World.stored c.args.w.now) c.args.value in
    let h = c.requires.home in
    stopped (g.W.World.stored c.args.w.now) (g.W.World.layout c.args.w.now) k _ why.ChainTooLong _ c.requires.ready
    (ap (λ (o : Out). o.end) (nonlocal_far _ k c.args.home h x (c.in-TooLong.ensures h.birth h.stands)))
