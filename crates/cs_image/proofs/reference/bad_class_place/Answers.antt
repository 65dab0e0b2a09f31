use Rattle.std.proofs.Common.{◌||◌, not, nat_lt, option_map, ap, sym, ◌∙◌, arith, refl}
use Rattle.cs_model.specs.ImageFile.{FileObject, visible}
use Rattle.cs_model.specs.ImageFault.{bad_class, has_entry}
use Rattle.cs_image.specs.Heap.{seen}
use Rattle.cs_image.proofs.Scanning.{first_here, first_later, first_none}
use Rattle.cs_image.proofs.reference.bad_class_place.Goals as goal

pub loop-number-init : goal.loop-number-init
unfolding bad_class visible
loop-number-init c = refl

pub loop-number-preserved : goal.loop-number-preserved
loop-number-preserved c =
    ap (option_map (λ (o : FileObject). o.place)) (sym (first_later (λ o. nat_lt o.class 4 || not (has_entry c.args.file.now o.class)) c.args.file.now.objects
    c.loop-number.number (seen c.object-o.result) c.object-o.ensures.value (sym c.has_bad_class.ensures ∙ c.if-has_bad_class.false)))
    ∙ c.loop-number.invariant

pub returns-then-has_bad_class-clause-value : goal.returns-then-has_bad_class-clause-value
returns-then-has_bad_class-clause-value c =
    sym (ap (option_map (λ (o : FileObject). o.place)) (first_here (λ o. nat_lt o.class 4 || not (has_entry c.args.file.now o.class)) c.args.file.now.objects
    c.loop-number.number (seen c.object-o.result) c.object-o.ensures.value (sym c.has_bad_class.ensures ∙ c.if-has_bad_class.true)))
    ∙ c.loop-number.invariant

pub returns-clause-value : goal.returns-clause-value
returns-clause-value c =
    sym (ap (option_map (λ (o : FileObject). o.place)) (first_none (λ o. nat_lt o.class 4 || not (has_entry c.args.file.now o.class)) c.args.file.now.objects
    c.loop-number.number (omega arith)))
    ∙ c.loop-number.invariant
