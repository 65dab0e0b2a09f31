use Rattle.std.proofs.Common.{◌++◌, ◌∷◌, [], ap, sym, subst, ◌∙◌}
use Rattle.cs_model.specs.BuilderFault.{is_twice}
use Rattle.cs_build.specs.Meaning.{form_by, method_line_by}
use Rattle.cs_build.specs.Tabled.{AreMethods}
use Rattle.std.proofs.lemmas.Result.{on_ok_weaker}
use Rattle.cs_build.proofs.TableLemmas.{methods-put}
use Rattle.cs_build.proofs.tables.note_method.Goals as goal

pub returns-in-Method : goal.returns-in-Method
returns-in-Method c = on_ok_weaker c.put_method.result (λ put above were fresh.
    subst (λ f. AreMethods c.put_method.new.methods (above ++ form_by f ∷ [])) (sym c.in-Method.is)
    (methods-put c.args.methods.now c.put_method.new.methods above (method_line_by c.in-Method.line) were
    (ap (λ f. is_twice above (form_by f)) (sym c.in-Method.is) ∙ fresh) put)) c.put_method.ensures
