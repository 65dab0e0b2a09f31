use Rattle.std.proofs.Common.{List, map, ap, sym, ◌∙◌}
use Rattle.cs_model.specs.BuilderText as text
use Rattle.cs_build.specs.Laid.{laid, laid_by}
use Rattle.cs_build.specs.Making.{method_made}
use Rattle.cs_build.specs.Meaning.{form_by, method_line_by}
use Rattle.cs_build.specs.Standing.{forms_in}
use Rattle.cs_build.proofs.Walking.{pushed_one}
use Rattle.cs_build.proofs.MethodsFound.{IsFound, found}
use Rattle.cs_build.proofs.objects.put_method.Goals as goal

pub returns : goal.returns
returns c =
    let forms : List text.Form = forms_in c.args.numbering.now in
    let line : text.MethodLine = method_line_by c.args.line.now in
    let body : List text.Form = map form_by c.in-Some.method.body.now in
    let is : IsFound c.args.line.now.class.now c.args.line.now.selector.now (forms_in c.args.numbering.now) (method_line_by c.in-Some.method.line) (map form_by c.in-Some.method.body.now) =
    found c.args.line.now.class.now c.args.line.now.selector.now forms (method_line_by c.in-Some.method.line) body (sym c.in-Some.ensures.body) in
    pushed_one laid_by c.args.objects.now.items c.push.new.self.items c.in_ok-object.object _ c.in_ok-push.ensures.items
    (c.in_ok-object.ensures ∙ ap (λ (b : List text.Form). laid (method_made forms line b)) (sym is.behind))
