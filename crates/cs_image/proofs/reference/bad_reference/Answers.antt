use Rattle.std.proofs.Common.{sym, ◌∙◌, arith, refl}
use Rattle.cs_model.specs.ImageFile.{visible}
use Rattle.cs_model.specs.ImageFault.{bad_ref}
use Rattle.cs_image.specs.Heap.{seen}
use Rattle.cs_image.proofs.Scanning.{lost_here, lost_later, lost_none}
use Rattle.cs_image.proofs.reference.bad_reference.Goals as goal

pub loop-number-init : goal.loop-number-init
unfolding bad_ref visible
loop-number-init c = refl

pub loop-number-preserved : goal.loop-number-preserved
loop-number-preserved c = sym (lost_later c.args.file.now c.args.file.now.objects c.loop-number.number (seen c.object-o.result) c.object-o.ensures.value (sym c.lost_in_visible.ensures.value ∙ c.in_default.is)) ∙ c.loop-number.invariant

pub returns-in-Some-clause-value : goal.returns-in-Some-clause-value
returns-in-Some-clause-value c = sym (lost_here c.args.file.now c.args.file.now.objects c.loop-number.number (seen c.object-o.result) c.in-Some.place c.object-o.ensures.value (sym c.lost_in_visible.ensures.value ∙ c.in-Some.is)) ∙ c.loop-number.invariant

pub returns-clause-value : goal.returns-clause-value
returns-clause-value c = sym (lost_none c.args.file.now c.args.file.now.objects c.loop-number.number (omega arith)) ∙ c.loop-number.invariant
