use Rattle.std.proofs.Common.{◌≡◌, ◌++◌, List, [], ℕ, Option, Vec, Global, length, map, ap, ◌∙◌, arith}
use Rattle.std.specs.Option.{option_map_or}
use Rattle.std.proofs.lemmas.List.{length-map}
use Rattle.cs_model.specs.BuilderText as text
use Rattle.cs_model.specs.Builder.{methods_of}
use Rattle.cs_build.specs.declared.form.MethodLine.{MethodLine}
use Rattle.cs_build.specs.Grouped.{dictionary_pair}
use Rattle.cs_build.specs.Laid.{laid, laid_by}
use Rattle.cs_build.specs.Meaning.{form_by, method_line_by}
use Rattle.cs_build.specs.Standing.{forms_in}
use Rattle.cs_build.proofs.Putting.{on_ok}
use Rattle.cs_build.proofs.Grouping.{methods_few}
use Rattle.cs_build.proofs.MethodsFound.{own_few}
use Rattle.cs_build.proofs.groups.put_class_dictionary.Goals as goal

pub put_dictionary-requires-clause-few : goal.put_dictionary-requires-clause-few
put_dictionary-requires-clause-few c =
    let forms : List text.Form = forms_in c.args.numbering.now in
    let name : List ℕ = c.args.line.now.name.now in
    let is : map method_line_by c.deref.result.now ≡ methods_of forms name =
    ap (map method_line_by) c.deref.ensures.value
    ∙ ap (λ (o : Option (Vec MethodLine Global)). option_map_or (λ (v : Vec MethodLine Global). map method_line_by v.items) o []) c.in-Some.ensures.value ∙ c.requires.groups.at name in
    omega (
      arith,
      ap length is,
      length-map c.deref.result.now method_line_by,
      methods_few (forms_in c.args.numbering.now) c.args.line.now.name.now,
      own_few (forms_in c.args.numbering.now),
      ap length c.requires.stands.whole,
      length-map c.args.numbering.now.forms.now form_by,
      c.requires.stands.lines_few,
    )

pub returns-in-Some : goal.returns-in-Some
returns-in-Some c =
    let forms : List text.Form = forms_in c.args.numbering.now in
    let name : List ℕ = c.args.line.now.name.now in
    let is : map method_line_by c.deref.result.now ≡ methods_of forms name =
    ap (map method_line_by) c.deref.ensures.value
    ∙ ap (λ (o : Option (Vec MethodLine Global)). option_map_or (λ (v : Vec MethodLine Global). map method_line_by v.items) o []) c.in-Some.ensures.value ∙ c.requires.groups.at name in
    on_ok c.put_dictionary.result _ _ (λ h. h ∙ ap (λ (ms : List text.MethodLine). map laid_by c.args.objects.now.items ++ map laid (dictionary_pair forms c.args.place ms)) is)
    c.put_dictionary.ensures

pub returns-in-None : goal.returns-in-None
returns-in-None c =
    let forms : List text.Form = forms_in c.args.numbering.now in
    let name : List ℕ = c.args.line.now.name.now in
    let none : List text.MethodLine = [] in
    let is : none ≡ methods_of forms name =
    ap (λ (o : Option (Vec MethodLine Global)). option_map_or (λ (v : Vec MethodLine Global). map method_line_by v.items) o []) c.in-None.ensures.value ∙ c.requires.groups.at name in
    on_ok c.put_dictionary-in-None.result _ _ (λ h. h ∙ ap (λ (ms : List text.MethodLine). map laid_by c.args.objects.now.items ++ map laid (dictionary_pair forms c.args.place ms)) is)
    c.put_dictionary-in-None.ensures
