use Rattle.std.proofs.Common.{◌∷◌, ◌++◌, List, [], map, ap, ◌∙◌, append_assoc}
use Rattle.cs_model.specs.BuilderText as text
use Rattle.cs_model.specs.Builder.{dictionary_object, values_object}
use Rattle.cs_build.specs.Laid.{Laid, laid, laid_by}
use Rattle.cs_build.specs.Meaning.{method_line_by}
use Rattle.cs_build.specs.Standing.{forms_in}
use Rattle.cs_build.proofs.Walking.{pushed_one}
use Rattle.cs_build.proofs.groups.put_dictionary.Goals as goal

pub returns : goal.returns
returns c =
    let forms : List text.Form = forms_in c.args.numbering.now in
    let methods : List text.MethodLine = map method_line_by c.args.methods.now in
    let first : Laid = laid (dictionary_object forms c.args.place methods) in
    let second : Laid = laid (values_object forms methods) in
    pushed_one laid_by c.push.new.self.items c.push-2.new.self.items c.in_ok-values.values second c.in_ok-push-2.ensures.items c.in_ok-values.ensures
    ∙ ap (λ (l : List Laid). l ++ second ∷ []) (pushed_one laid_by c.args.objects.now.items c.push.new.self.items c.in_ok-dictionary.dictionary first c.in_ok-push.ensures.items c.in_ok-dictionary.ensures)
    ∙ append_assoc (map laid_by c.args.objects.now.items) (first ∷ []) (second ∷ [])
