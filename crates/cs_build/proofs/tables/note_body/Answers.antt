use Rattle.std.proofs.Common.{◌+◌, ◌++◌, ◌∷◌, [], ap, sym, subst, refl, rules, arith, ◌∙◌}
use Rattle.cs_model.specs.BuilderText as text
use Rattle.cs_model.specs.BuilderFault.{is_twice}
use Rattle.cs_build.specs.Meaning.{form_by, mention_by}
use Rattle.cs_build.specs.Tabled.{IsBody}
use Rattle.cs_build.proofs.TableLemmas.{body-label, body-other}
use Rattle.cs_build.proofs.tables.note_body.Goals as goal

pub returns-in_ok-put-in-Label : goal.returns-in_ok-put-in-Label
returns-in_ok-put-in-Label c = λ lines count were fresh.
    subst (λ f. IsBody (record c.args.body.now { labels = c.put.new.table }) (lines ++ form_by f ∷ [])) (sym c.in-Label.is)
    (body-label c.args.body.now (record c.args.body.now { labels = c.put.new.table }) lines c.in-Label.name.now were
    (ap (λ f. is_twice lines (form_by f)) (sym c.in-Label.is) ∙ fresh) c.in_ok-put-in-Label.ensures refl refl refl)

pub returns-in-Literal : goal.returns-in-Literal
returns-in-Literal c = λ lines count were fresh.
    let new = record c.args.body.now { literals = c.args.body.now.literals + 1 } in
    subst (λ f. IsBody new (lines ++ form_by f ∷ [])) (sym c.in-Literal.is)
    (body-other c.args.body.now new lines (text.Literal (mention_by c.in-Literal.field-0)) were refl (λ q. refl) refl (omega arith) (omega arith) refl refl)

pub returns-in_default : goal.returns-in_default
returns-in_default c = λ lines count were fresh.
    body-other c.args.body.now _ lines (form_by c.args.form.now) were (search rules) (λ q. search rules) refl
    (ap (λ n. c.args.body.now.place + n) c.byte_count.ensures.count) (omega (arith, c.byte_count.ensures.few, c.byte_count.ensures.count)) (search rules) refl
