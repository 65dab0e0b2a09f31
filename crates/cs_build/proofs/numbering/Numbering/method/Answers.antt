use Rattle.std.proofs.Common.{true, length, List, arith}
use Rattle.std.specs.List.{list_all}
use Rattle.std.proofs.lemmas.List.{length-map}
use Rattle.cs_model.specs.BuilderText as text
use Rattle.cs_build.specs.Sound.{is_sound}
use Rattle.cs_build.specs.Standing.{forms_in}
use Rattle.cs_build.proofs.MethodsFound.{made_from, own_sound, own_few}
use Rattle.std.proofs.Common.{◌≡◌, Option, ap, sym, subst, ◌∙◌}
use Rattle.std.specs.Prelude.{option_map, IfSome, count_by}
use Rattle.cs_model.specs.BuilderFault.{is_literal}
use Rattle.cs_build.specs.declared.form.Form.{Form}
use Rattle.cs_build.specs.declared.numbering.Numbered.{Numbered}
use Rattle.cs_build.specs.Meaning.{form_by}
use Rattle.cs_build.specs.Numbered.{method_entry}
use Rattle.cs_build.specs.Counted.{own_number, body_in}
use Rattle.cs_build.proofs.numbering.Numbering.method.Goals as goal

pub returns-clause-number : goal.returns-clause-number
returns-clause-number c =
    let got : c.copied.result ≡ method_entry c.args.self.now.births.methods c.args.class.now c.args.selector.now = c.copied.ensures ∙ c.get.ensures.value in
    ap (option_map own_number) got ∙ c.requires.numbers c.args.class.now c.args.selector.now

pub returns-clause-body : goal.returns-clause-body
returns-clause-body c =
    let got : c.copied.result ≡ method_entry c.args.self.now.births.methods c.args.class.now c.args.selector.now = c.copied.ensures ∙ c.get.ensures.value in
    ap (option_map body_in) got ∙ c.requires.bodies c.args.class.now c.args.selector.now

pub returns-clause-made : goal.returns-clause-made
returns-clause-made c =
    let got : c.copied.result ≡ method_entry c.args.self.now.births.methods c.args.class.now c.args.selector.now = c.copied.ensures ∙ c.get.ensures.value in
    made_from c.args.class.now c.args.selector.now (forms_in c.args.self.now) c.copied.result
    (ap (option_map body_in) got ∙ c.requires.bodies c.args.class.now c.args.selector.now)
    (own_sound (forms_in c.args.self.now) (subst (λ (fs : List text.Form). list_all is_sound fs ≡ true) c.requires.whole c.requires.sound))
    (omega (arith, own_few (forms_in c.args.self.now), ap length c.requires.whole, length-map c.args.self.now.forms.now form_by, c.requires.lines_few))
    (subst (λ (o : Option Numbered). IfSome o (λ (n : Numbered). n.literals ≡ count_by (λ (form : Form). is_literal (form_by form)) n.body.now)) (sym got)
    (c.requires.counted c.args.class.now c.args.selector.now))
