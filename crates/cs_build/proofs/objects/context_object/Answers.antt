use Rattle.std.proofs.Common.{◌≡◌, ℕ, ◌∷◌, ◌++◌, List, [], length, map, replicate, ap, ◌∙◌, arith}
use Rattle.std.specs.Prelude.{pos}
use Rattle.cs_model.specs.Ref.{Ref, Small}
use Rattle.cs_model.specs.Obj.{Ptr, new_head, context_size}
use Rattle.cs_model.specs.BuilderText as text
use Rattle.cs_model.specs.BuilderFault.{most_temporaries}
use Rattle.cs_model.specs.Builder.{built_header, mention_ref, method_birth, natural, nil_ref, obj_or_nil}
use Rattle.cs_build.specs.declared.object.Reference.{Reference}
use Rattle.cs_build.specs.Laid.{laid, reference_by}
use Rattle.cs_build.specs.Making.{begin_at, method_literals}
use Rattle.cs_build.specs.Meaning.{form_by, mention_by, method_line_by}
use Rattle.cs_build.specs.Standing.{forms_in}
use Rattle.cs_build.proofs.Literals.{count_is, count_few}
use Rattle.cs_build.proofs.Contexts.{refs_of_context, size_is, temporaries_fit}
use Rattle.cs_build.proofs.objects.context_object.Goals as goal

pub returns : goal.returns
returns c =
    let forms : List text.Form = forms_in c.args.numbering.now in
    let line : text.MethodLine = method_line_by c.args.method.now.line in
    let most : ℕ = most_temporaries line in
    let pc : Ref = Small (pos (begin_at (length (method_literals forms (map form_by c.args.method.now.body.now))) line)) in
    let method : Ref = obj_or_nil (method_birth forms line.class line.selector) in
    let receiver : Ref = mention_ref forms (mention_by c.args.receiver.now) in
    let p1 : reference_by c.first_pc.result ≡ pc = c.first_pc.ensures ∙ ap (λ (n : ℕ). Small (pos (begin_at n line))) (c.requires.made.counted ∙ count_is forms c.args.method.now.body.now) in
    let p2 : reference_by c.small.result ≡ Small (pos (natural line.temporaries)) = c.small.ensures ∙ ap (λ (n : ℕ). Small (pos n)) c.temporaries_in.ensures in
    let p3 : reference_by c.object_or_nil.result ≡ method = c.object_or_nil.ensures ∙ ap obj_or_nil c.method_number.ensures in
    let p4 : reference_by c.reference.result ≡ receiver = c.reference.ensures in
    c.in_ok-object.ensures ∙ ap (λ (s : List Reference). laid (Ptr (new_head 36 3) (map reference_by s))) c.deref.ensures.value
    ∙ ap (λ (r : List Ref). laid (Ptr (new_head 36 3) r))
    (c.in_ok-put_nils.ensures ∙ ap (λ (s : List Reference). map reference_by s ++ replicate c.context_slots.result nil_ref) c.in_ok-slots.ensures.items
    ∙ ap (λ (k : ℕ). (nil_ref ∷ reference_by c.first_pc.result ∷ reference_by c.small.result ∷ reference_by c.object_or_nil.result ∷ nil_ref ∷ reference_by c.reference.result ∷ []) ++ replicate k nil_ref) c.context_slots.ensures
    ∙ (λ i. (nil_ref ∷ p1 i ∷ p2 i ∷ p3 i ∷ nil_ref ∷ p4 i ∷ []) ++ replicate most nil_ref)
    ∙ refs_of_context pc method receiver (natural line.temporaries) most (context_size (built_header line 0)) (temporaries_fit line c.requires.made.fits) (size_is line))

pub first_pc-requires : goal.first_pc-requires
first_pc-requires c = omega (arith, c.requires.made.counted, c.requires.made.few, count_few c.args.method.now.body.now)
