use Rattle.std.proofs.Common.{◌≡◌, ℕ, ◌∷◌, ◌++◌, List, [], Option, map, ap, ap₂, sym, ◌∙◌, append-nil}
use Rattle.cs_model.specs.Obj.{Ctx}
use Rattle.cs_model.specs.BuilderText as text
use Rattle.cs_model.specs.Builder.{body_behind, body_of, first_context}
use Rattle.std.specs.Option.{option_map_or}
use Rattle.cs_build.specs.Laid.{laid, laid_by}
use Rattle.cs_build.specs.Making.{context_made}
use Rattle.cs_build.specs.Meaning.{form_by, mention_by, method_line_by}
use Rattle.cs_build.specs.Standing.{forms_in}
use Rattle.cs_build.proofs.Walking.{pushed_one}
use Rattle.cs_build.proofs.MethodsFound.{IsFound, found, not_found}
use Rattle.cs_build.proofs.objects.put_context.Goals as goal

pub returns-in_ok-push-in-Some : goal.returns-in_ok-push-in-Some
returns-in_ok-push-in-Some c =
    let forms : List text.Form = forms_in c.args.numbering.now in
    let m : text.MethodLine = method_line_by c.in-Some.method.line in
    let body : List text.Form = map form_by c.in-Some.method.body.now in
    let is : IsFound c.args.line.now.class.now c.args.line.now.selector.now (forms_in c.args.numbering.now) (method_line_by c.in-Some.method.line) (map form_by c.in-Some.method.body.now) =
    found c.args.line.now.class.now c.args.line.now.selector.now forms m body (sym c.in-Some.ensures.body) in
    let own : body ≡ body_of forms m = sym is.behind ∙ ap₂ (λ (d s : List ℕ). body_behind d s forms) (sym is.class) (sym is.selector) in
    let r : text.Mention = mention_by c.args.line.now.receiver in
    pushed_one laid_by c.args.objects.now.items c.push.new.self.items c.in_ok-object-in-Some.object _ c.in_ok-push-in-Some.ensures.items
    (c.in_ok-object-in-Some.ensures ∙ ap (λ (b : List text.Form). laid (Ctx (context_made forms m b r))) own)
    ∙ ap (λ (o : Option text.MethodLine). map laid_by c.args.objects.now.items ++ map laid (option_map_or (λ (n : text.MethodLine). Ctx (first_context forms n r) ∷ []) o [])) (sym is.first)

pub returns-in-None : goal.returns-in-None
returns-in-None c =
    let forms : List text.Form = forms_in c.args.numbering.now in
    let r : text.Mention = mention_by c.args.line.now.receiver in
    sym (append-nil (map laid_by c.args.objects.now.items))
    ∙ ap (λ (o : Option text.MethodLine). map laid_by c.args.objects.now.items ++ map laid (option_map_or (λ (n : text.MethodLine). Ctx (first_context forms n r) ∷ []) o []))
    (sym (not_found c.args.line.now.class.now c.args.line.now.selector.now forms (sym c.in-None.ensures.body)))
