use Rattle.std.proofs.Common.{ap, subst, sym, true, Some, ◌≡◌, ◌∙◌}
use Rattle.cs_classes.specs.Meaning.{ref_of}
use Rattle.cs_classes.specs.Sound.{is_reference}
use Rattle.cs_inspect.proofs.Finding.{field_found, field_missing}
use Rattle.cs_inspect.proofs.field.Goals as goal

pub returns-then-has_field-clause-value : goal.returns-then-has_field-clause-value
returns-then-has_field-clause-value c =
    let f = field_found c.args.heap.now.objects c.args.word.0 c.args.i c.requires (sym c.has_field.ensures ∙ c.if-has_field.true) in
    ap (λ w. Some (ref_of c.args.heap.now.objects w)) c.slot.ensures ∙ sym f.value

pub returns-then-has_field-clause-reference : goal.returns-then-has_field-clause-reference
returns-then-has_field-clause-reference c =
    let f = field_found c.args.heap.now.objects c.args.word.0 c.args.i c.requires (sym c.has_field.ensures ∙ c.if-has_field.true) in
    subst (λ w. is_reference c.args.heap.now.objects w ≡ true) (sym c.slot.ensures) f.reference

pub returns-else-has_field-clause-value : goal.returns-else-has_field-clause-value
returns-else-has_field-clause-value c = sym (field_missing c.args.heap.now.objects c.args.word.0 c.args.i c.requires (sym c.has_field.ensures ∙ c.if-has_field.false))
