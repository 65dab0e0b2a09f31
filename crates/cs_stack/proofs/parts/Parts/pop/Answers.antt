use Rattle.cs_stack.proofs.Tops.{opened}
use Rattle.cs_stack.proofs.Edits.{depth_read, page_top, pop_edited, pop_names}
use Rattle.std.specs.Prelude.{◌<◌}
use Rattle.std.proofs.Common.{ap, arith, length, subst, sym}
use Rattle.cs_frame.specs.Page.{top}
use Rattle.cs_model.specs.Operation.{drop_of}
use Rattle.cs_stack.proofs.parts.Parts.pop.Goals as goal

pub pop-requires-clause-value : goal.pop-requires-clause-value
pop-requires-clause-value c =
    let o = opened _ c.requires.good c.requires.ready in
    subst (λ p. 0 < length (top p).stack) (sym (page_top c.requires.good o _ c.top-top.ensures.is)) (omega (arith, depth_read c.requires.good o, c.requires.there))

pub returns-clause-good : goal.returns-clause-good
returns-clause-good c = (pop_edited c.requires.good (opened _ c.requires.good c.requires.ready) _ _ c.top-top.ensures.is c.pop.ensures.popped).good

pub returns-clause-view : goal.returns-clause-view
unfolding drop_of
returns-clause-view c = (pop_edited c.requires.good (opened _ c.requires.good c.requires.ready) _ _ c.top-top.ensures.is c.pop.ensures.popped).view

pub returns-clause-layout : goal.returns-clause-layout
returns-clause-layout c = (pop_edited c.requires.good (opened _ c.requires.good c.requires.ready) _ _ c.top-top.ensures.is c.pop.ensures.popped).layout

pub returns-clause-value : goal.returns-clause-value
returns-clause-value c =
    let o = opened _ c.requires.good c.requires.ready in
    pop_names c.requires.good o c.pop.result _ _ c.requires.there (ap (λ p. (top p).stack) (page_top c.requires.good o _ c.top-top.ensures.is)) c.pop.ensures.value
