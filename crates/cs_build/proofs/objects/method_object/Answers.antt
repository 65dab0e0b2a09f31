use Rattle.std.proofs.Common.{◌≡◌, ℕ, ◌+◌, ◌∷◌, ◌++◌, List, length, map, ap, ◌∙◌, arith}
use Rattle.std.specs.Prelude.{pos}
use Rattle.cs_model.specs.Ref.{Ref, Small}
use Rattle.cs_model.specs.Obj.{new_head}
use Rattle.cs_model.specs.BuilderText as text
use Rattle.cs_model.specs.BuilderFault.{code_from}
use Rattle.cs_model.specs.Builder.{built_header, primitive_bytes, spare}
use Rattle.cs_build.specs.Laid.{laid_head, reference_by}
use Rattle.cs_build.specs.Making.{method_literals}
use Rattle.cs_build.specs.Meaning.{form_by, method_line_by}
use Rattle.cs_build.specs.Standing.{forms_in}
use Rattle.cs_build.proofs.Literals.{count_is}
use Rattle.cs_build.proofs.objects.method_object.Goals as goal

pub returns : goal.returns
returns c =
    let forms : List text.Form = forms_in c.args.numbering.now in
    let line : text.MethodLine = method_line_by c.args.line.now in
    let body : List text.Form = map form_by c.args.method.now.body.now in
    let code : List ℕ = primitive_bytes c.args.line.now.primitive ++ code_from body 0 body in
    let count : c.len.result ≡ length c.in_ok-bytes.bytes.items = omega (arith, c.len.ensures, c.in_ok-bytes.bytes.ok.0) in
    ap (λ (k : ℕ). laid_head (new_head 43 (24 + k)) (map reference_by c.in_ok-slots.slots.items) c.in_ok-bytes.bytes.items) (c.spare.ensures ∙ ap spare count)
    ∙ ap (λ (b : List ℕ). laid_head (new_head 43 (24 + spare (length b))) (map reference_by c.in_ok-slots.slots.items) b) c.in_ok-bytes.ensures
    ∙ ap (λ (r : List Ref). laid_head (new_head 43 (24 + spare (length code))) r code)
    (c.in_ok-slots.ensures ∙ ap (λ (n : ℕ). Small (pos (built_header line n)) ∷ method_literals forms body) (c.requires.made.counted ∙ count_is forms c.args.method.now.body.now))
