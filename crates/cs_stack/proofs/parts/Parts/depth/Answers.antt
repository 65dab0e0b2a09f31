use Rattle.cs_stack.proofs.Tops.{opened}
use Rattle.cs_stack.proofs.Edits.{depth_read, size_read, top_frame}
use Rattle.std.proofs.Common.{ap, arith, length, sym, ◌∙◌}
use Rattle.cs_stack.proofs.parts.Parts.depth.Goals as goal

pub returns-clause-value : goal.returns-clause-value
returns-clause-value c =
    let o = opened _ c.requires.good c.requires.ready in
    c.depth.ensures.depth ∙ ap (λ f. length f.stack) (top_frame c.requires.good o _ c.top.ensures.is) ∙ sym (depth_read c.requires.good o)

pub returns-clause-fits : goal.returns-clause-fits
returns-clause-fits c =
    let o = opened _ c.requires.good c.requires.ready in
    omega (arith, returns-clause-value c, depth_read c.requires.good o, size_read c.requires.good o, o.fits.fits)
