use Rattle.cs_stack.proofs.Tops.{opened}
use Rattle.cs_stack.proofs.Edits.{pc_read, top_frame}
use Rattle.std.proofs.Common.{ap, unwrap_or, ◌∙◌}
use Rattle.cs_word.specs.Word.{natural_of_word}
use Rattle.cs_stack.proofs.parts.Parts.pc.Goals as goal

pub returns : goal.returns
returns c =
    let o = opened _ c.requires.good c.requires.ready in
    (c.unwrap_or.ensures ∙ ap (λ o. unwrap_or o 0) (c.natural.ensures.value)) ∙ ap (λ n. unwrap_or (natural_of_word n) 0) (c.saved_pc.ensures.saved_pc ∙ ap (λ f. f.saved_pc) (top_frame c.requires.good o _ c.top.ensures.is)) ∙ pc_read c.requires.good o
