use Rattle.std.proofs.Common.{◌≡◌, ◌+◌, ◌-◌, List, ◌∷◌, length, map, take, drop, sym, subst, arith}
use Rattle.std.proofs.lemmas.List.{take_rest, drop_all, length-map}
use Rattle.cs_model.specs.BuilderText as text
use Rattle.cs_build.specs.declared.form.Form.{Form}
use Rattle.cs_build.specs.Meaning.{form_by}
use Rattle.cs_build.specs.Counted.{Counts}
use Rattle.cs_build.proofs.Walking.{drop_read}
use Rattle.cs_build.proofs.Numbers.{few_objects}
use Rattle.cs_build.proofs.numbering.births_of.Goals as goal

pub note_form-requires : goal.note_form-requires
note_form-requires c = omega (arith, c.requires, c.loop-i.invariant.next, few_objects (map form_by c.args.forms.now), length-map c.args.forms.now form_by)

pub loop-i-init : goal.loop-i-init
loop-i-init c = c.new-births.ensures (map form_by c.args.forms.now)

pub loop-i-preserved : goal.loop-i-preserved
loop-i-preserved c =
    let all : List text.Form = map form_by c.args.forms.now in
    let rest : take (length c.args.forms.now - (c.loop-i.i + 1)) (drop (c.loop-i.i + 1) c.args.forms.now) ≡ drop (c.loop-i.i + 1) c.args.forms.now =
    take_rest c.args.forms.now (c.loop-i.i + 1) in
    let was : Counts c.loop-i.births all (form_by c.index-forms-i.result ∷ map form_by (drop (c.loop-i.i + 1) c.args.forms.now)) =
    subst (λ (r : List Form). Counts c.loop-i.births all (map form_by r)) (drop_read c.args.forms.now c.loop-i.i c.index-forms-i.result c.index-forms-i.is c.loop-i-test.true) c.loop-i.invariant in
    subst (λ (r : List Form). Counts c.note_form.new.self all (map form_by r)) rest
    (c.in_ok-note_form.ensures all (subst (λ (r : List Form). Counts c.loop-i.births all (form_by c.index-forms-i.result ∷ map form_by r)) (sym rest) was))

pub returns : goal.returns
returns c = subst (λ (rest : List Form). Counts c.loop-i.births (map form_by c.args.forms.now) (map form_by rest))
    (drop_all c.loop-i.i c.args.forms.now c.loop-i-test.false) c.loop-i.invariant
