use Rattle.std.proofs.Common.{ap, ◌∙◌, rules, w32, FitsSigned}
use Rattle.std.specs.Fmt.{signed_decimal}
use Rattle.std.proofs.lemmas.Int.{to_z-of_z}
use Rattle.cs_model.specs.Print.{ref_text}
use Rattle.cs_classes.specs.Meaning.{ref_of, ref_of_kind}
use Rattle.cs_inspect.proofs.Texts.{birth_text, named_object, then_is}
use Rattle.cs_inspect.proofs.text.push_reference.Goals as goal

pub birth-requires : goal.birth-requires
birth-requires c = named_object c.args.heap.now.objects c.args.word.0 c.in-Object.field-0 c.requires c.in-Object.ensures.kind c.in-Object.ensures.word

pub returns-in-Small : goal.returns-in-Small
unfolding ref_of
returns-in-Small c =
    let fits : FitsSigned w32 c.in-Small.value = search rules in
    then_is _ _ _ _ _ (ap signed_decimal (to_z-of_z w32 c.in-Small.value fits) ∙ ap (λ k. ref_text (ref_of_kind c.args.heap.now.objects k)) c.in-Small.ensures.kind) c.push_number.ensures

pub returns-in-Character : goal.returns-in-Character
unfolding ref_of
returns-in-Character c = then_is _ _ _ _ _ (ap (λ k. ref_text (ref_of_kind c.args.heap.now.objects k)) c.in-Character.ensures.kind) c.push_field.ensures

pub returns-in-Object : goal.returns-in-Object
unfolding ref_of
returns-in-Object c = then_is _ _ _ _ _ (birth_text c.args.heap.now.objects c.args.word.0 c.in-Object.field-0 c.birth.result c.birth.ensures c.in-Object.ensures.kind c.in-Object.ensures.word) c.push_field-in-Object.ensures

pub returns-in-Link : goal.returns-in-Link
unfolding ref_of
returns-in-Link c = then_is _ _ _ _ _ (ap (λ k. ref_text (ref_of_kind c.args.heap.now.objects k)) c.in-Link.ensures.kind) c.push_number-in-Link.ensures
