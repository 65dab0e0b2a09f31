use Rattle.std.proofs.Common.{◌&&◌, not, option_map, ap, sym, ◌∙◌, arith, refl}
use Rattle.cs_model.specs.ImageFile.{FileObject, visible}
use Rattle.cs_model.specs.ImageFault.{bad_context, is_file_context, is_sound_context}
use Rattle.cs_image.specs.Heap.{seen}
use Rattle.cs_image.proofs.Scanning.{first_here, first_later, first_none}
use Rattle.cs_image.proofs.context.bad_context_place.Goals as goal

pub loop-number-init : goal.loop-number-init
unfolding bad_context visible
loop-number-init c = refl

pub loop-number-preserved : goal.loop-number-preserved
loop-number-preserved c =
    ap (option_map (λ (o : FileObject). o.place)) (sym (first_later (λ o. is_file_context o && not (is_sound_context c.args.file.now o)) c.args.file.now.objects
    c.loop-number.number (seen c.object-o.result) c.object-o.ensures.value (sym c.is_bad.ensures ∙ c.if-is_bad.false)))
    ∙ c.loop-number.invariant

pub returns-then-is_bad-clause-value : goal.returns-then-is_bad-clause-value
returns-then-is_bad-clause-value c =
    sym (ap (option_map (λ (o : FileObject). o.place)) (first_here (λ o. is_file_context o && not (is_sound_context c.args.file.now o)) c.args.file.now.objects
    c.loop-number.number (seen c.object-o.result) c.object-o.ensures.value (sym c.is_bad.ensures ∙ c.if-is_bad.true)))
    ∙ c.loop-number.invariant

pub returns-clause-value : goal.returns-clause-value
returns-clause-value c =
    sym (ap (option_map (λ (o : FileObject). o.place)) (first_none (λ o. is_file_context o && not (is_sound_context c.args.file.now o)) c.args.file.now.objects
    c.loop-number.number (omega arith)))
    ∙ c.loop-number.invariant
