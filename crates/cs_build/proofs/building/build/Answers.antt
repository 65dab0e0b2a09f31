use Rattle.std.proofs.Common.{ℕ, suc, List, [], ◌∷◌, length, get_or, Fits, w8, ap, sym, subst, ◌∙◌, arith}
use Rattle.std.specs.List.{AllByRecursion}
use Rattle.cs_model.specs.BuilderText as text
use Rattle.cs_model.specs.BuilderFault.{forms_of}
use Rattle.cs_build.specs.Judged.{IsJudged}
use Rattle.cs_build.specs.Stored.{IsByte}
use Rattle.cs_build.specs.Wholes.{IsImageOf, objects_made}
use Rattle.cs_build.proofs.Built.{made_is_text}
use Rattle.cs_build.proofs.Faultless.{text_judged}
use Rattle.cs_build.proofs.building.build.Goals as goal

each_byte : (bytes : List ℕ) → ((i : ℕ) → Fits w8 (get_or bytes i 0)) → AllByRecursion IsByte bytes
each_byte [] h = tt
each_byte (b ∷ bytes) h = (omega (arith, (h 0).fits), each_byte bytes (λ i. h (suc i)))

pub image_of_lines-requires : goal.image_of_lines-requires
image_of_lines-requires c = subst IsJudged (sym c.in_ok-lines.ensures.forms) (text_judged c.args.text.now (each_byte c.args.text.now c.type_inv.text) c.in_ok-lines.ensures.none)

pub returns-clause-image : goal.returns-clause-image
returns-clause-image c = subst (IsImageOf c.in_ok-built.built.bytes.items) c.in_ok-lines.ensures.forms c.in_ok-built.ensures.image

pub returns-clause-objects : goal.returns-clause-objects
returns-clause-objects c = c.in_ok-built.ensures.objects ∙ ap (λ (forms : List text.Form). length (objects_made forms)) c.in_ok-lines.ensures.forms ∙ ap length (made_is_text (forms_of c.args.text.now))
