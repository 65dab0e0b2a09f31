use Rattle.std.proofs.Common.{◌∷◌, ◌++◌, List, [], map, ap, sym, ◌∙◌, append_assoc}
use Rattle.std.proofs.lemmas.List.{map-append}
use Rattle.cs_model.specs.BuilderText as text
use Rattle.cs_build.specs.Laid.{Laid, laid, laid_by}
use Rattle.cs_build.specs.Making.{contexts_made, process_made}
use Rattle.cs_build.specs.Meaning.{process_by}
use Rattle.cs_build.specs.Standing.{forms_in}
use Rattle.cs_build.proofs.Walking.{pushed_one}
use Rattle.cs_build.proofs.objects.put_process.Goals as goal

pub returns : goal.returns
returns c =
    let forms : List text.Form = forms_in c.args.numbering.now in
    let p : text.ProcessLine = process_by c.args.line.now in
    pushed_one laid_by c.put_context.new.objects.items c.push.new.self.items c.in_ok-object.object _ c.in_ok-push.ensures.items c.in_ok-object.ensures
    ∙ ap (λ (l : List Laid). l ++ laid (process_made forms p) ∷ []) c.in_ok-put_context.ensures
    ∙ append_assoc (map laid_by c.args.objects.now.items) (map laid (contexts_made forms p)) (laid (process_made forms p) ∷ [])
    ∙ ap (λ (l : List Laid). map laid_by c.args.objects.now.items ++ l) (sym (map-append laid (contexts_made forms p) (process_made forms p ∷ [])))
