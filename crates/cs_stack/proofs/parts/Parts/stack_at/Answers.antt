use Rattle.cs_stack.proofs.Tops.{opened}
use Rattle.cs_stack.proofs.Edits.{depth_read, names_word, top_frame, value_name, value_named}
use Rattle.std.specs.Prelude.{slice_index, ◌<◌}
use Rattle.std.proofs.Common.{ap, arith, length, subst, sym, ◌∙◌}
use Rattle.cs_stack.proofs.parts.Parts.stack_at.Goals as goal

pub slot-requires-clause-index : goal.slot-requires-clause-index
slot-requires-clause-index c =
    let o = opened _ c.requires.good c.requires.ready in
    subst (λ f. c.args.i < length f.stack) (sym (top_frame c.requires.good o _ c.top.ensures.is)) (omega (arith, depth_read c.requires.good o, c.requires.there))

pub returns : goal.returns
returns c =
    let o = opened _ c.requires.good c.requires.ready in
    let there : c.args.i < length o.f.stack = omega (arith, depth_read c.requires.good o, c.requires.there) in
    names_word c.requires.good o c.slot.result _ _ (c.slot.ensures.value ∙ ap (λ f. slice_index f.stack c.args.i) (top_frame c.requires.good o _ c.top.ensures.is))
    (value_named c.requires.good o c.args.i there) (value_name c.requires.good o c.args.i _ there)
