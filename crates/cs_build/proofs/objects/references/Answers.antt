use Rattle.std.proofs.Common.{◌+◌, ◌++◌, List, map, drop, ap, sym, ◌∙◌, append-nil}
use Rattle.std.specs.Prelude.{pos}
use Rattle.cs_model.specs.Builder.{mention_ref}
use Rattle.cs_build.specs.declared.form.Mention.{Mention}
use Rattle.cs_build.specs.declared.form.Mention.TheVariants.{Number}
use Rattle.cs_build.specs.declared.object.Reference.{Reference}
use Rattle.cs_build.specs.Laid.{reference_by}
use Rattle.cs_build.specs.Meaning.{mention_by}
use Rattle.cs_build.specs.Standing.{forms_in}
use Rattle.cs_build.proofs.Walking.{walk_at, walk_all, pushed}
use Rattle.cs_build.proofs.objects.references.Goals as goal

pub loop-value-preserved : goal.loop-value-preserved
loop-value-preserved c =
    walk_at (λ (slots : List Reference) (values : List Mention). map reference_by slots ++ map (mention_ref (forms_in c.args.numbering.now)) (map mention_by values))
    c.loop-value.slots.items c.push.new.self.items c.args.values.now c.loop-value.value-index (Number (pos 0)) _ c.loop-value-test.true
    (pushed reference_by c.loop-value.slots.items c.push.new.self.items c.reference.result _
    (map (mention_ref (forms_in c.args.numbering.now)) (map mention_by (drop (c.loop-value.value-index + 1) c.args.values.now))) c.in_ok-push.ensures.items c.reference.ensures)
    c.loop-value.invariant

pub returns : goal.returns
returns c = sym (append-nil (map reference_by c.loop-value.slots.items))
    ∙ walk_all (λ (values : List Mention). map reference_by c.loop-value.slots.items ++ map (mention_ref (forms_in c.args.numbering.now)) (map mention_by values))
    c.args.values.now c.loop-value.value-index _ c.loop-value-test.false c.loop-value.invariant
    ∙ ap (λ (slots : List Reference). map reference_by slots ++ map (mention_ref (forms_in c.args.numbering.now)) (map mention_by c.args.values.now)) c.new-slots.ensures.items
