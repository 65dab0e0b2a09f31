use Rattle.std.proofs.Common.{◌||◌, ◌∙◌, ap, sym, arith}
use Rattle.std.specs.Prelude.{Some}
use Rattle.cs_model.specs.BuilderText.{is_inside}
use Rattle.cs_model.specs.BuilderFault.{is_active_line}
use Rattle.cs_build.specs.Lines.{forms_by}
use Rattle.cs_build.specs.Meaning.{form_by}
use Rattle.cs_build.proofs.Judging.{length-forms}
use Rattle.cs_build.proofs.TableLemmas.{active-more, open-more}
use Rattle.cs_build.proofs.tables.note.Goals as goal

pub note_body-requires-clause-few : goal.note_body-requires-clause-few
note_body-requires-clause-few c = (
  omega (arith, c.requires.tables.body.small, length-forms c.args.above.now, c.requires.few),
  omega (arith, c.requires.tables.body.few, length-forms c.args.above.now, c.requires.few),
)

pub returns : goal.returns
returns c =
    let above = forms_by c.args.above.now in
    let form = form_by c.args.form.now in
    record {
      names = c.in_ok-note_name.ensures above c.requires.tables.names c.requires.fresh;
      methods = c.in_ok-note_method.ensures above c.requires.tables.methods c.requires.fresh;
      active = c.has_active-tables.ensures ∙ ap (λ b. b || is_active_line form) c.requires.tables.active ∙ sym (active-more above form);
      open_end = c.is_inside-tables.ensures ∙ ap (λ b. is_inside b (Some form)) c.requires.tables.open_end ∙ sym (open-more above form);
      body = c.in_ok-note_body.ensures above (length-forms c.args.above.now) c.requires.tables.body c.requires.fresh;
    }
