use Rattle.cs_stack.proofs.Tops.{opened}
use Rattle.cs_stack.proofs.Edits.{method_name, method_named, names_word, top_frame}
use Rattle.std.proofs.Common.{ap, ◌∙◌}
use Rattle.cs_stack.proofs.parts.Parts.method.Goals as goal

pub returns : goal.returns
returns c =
    let o = opened _ c.requires.good c.requires.ready in
    names_word c.requires.good o c.method.result _ _ (c.method.ensures.method ∙ ap (λ f. f.method) (top_frame c.requires.good o _ c.top.ensures.is)) (method_named c.requires.good o) (method_name c.requires.good o)
