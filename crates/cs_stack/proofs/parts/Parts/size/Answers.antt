use Rattle.cs_stack.proofs.Tops.{opened}
use Rattle.cs_stack.proofs.Edits.{size_read, top_frame}
use Rattle.std.proofs.Common.{ap, sym, ◌∙◌}
use Rattle.cs_marriage.specs.Agree.{frame_size}
use Rattle.cs_stack.proofs.parts.Parts.size.Goals as goal

pub returns : goal.returns
returns c =
    let o = opened _ c.requires.good c.requires.ready in
    c.frame_size.ensures ∙ ap (frame_size c.args.self.now.heap.objects) (top_frame c.requires.good o _ c.top.ensures.is) ∙ sym (size_read c.requires.good o)
