use Rattle.cs_stack.proofs.Tops.{opened}
use Rattle.cs_stack.proofs.Edits.{names_word, receiver_name, top_frame}
use Rattle.std.proofs.Common.{ap, ◌∙◌}
use Rattle.cs_stack.proofs.parts.Parts.receiver.Goals as goal

pub returns : goal.returns
returns c =
    let o = opened _ c.requires.good c.requires.ready in
    names_word c.requires.good o c.receiver.result _ _ (c.receiver.ensures.receiver ∙ ap (λ f. f.receiver) (top_frame c.requires.good o _ c.top.ensures.is)) o.fits.names.receiver (receiver_name c.requires.good o)
