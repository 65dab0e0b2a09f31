use Rattle.std.proofs.Common.{ℕ, List, map, replicate, ap, ◌∙◌}
use Rattle.std.specs.Prelude.{flat_map, fold}
use Rattle.cs_model.specs.Ref.{Ref}
use Rattle.cs_model.specs.Obj.{Ptr, new_head}
use Rattle.cs_model.specs.BuilderText as text
use Rattle.cs_model.specs.Builder.{nil_ref, special_given, with_special}
use Rattle.cs_build.specs.Firsts.{known_specials, special_array_of, symbol_specials}
use Rattle.cs_build.specs.Laid.{laid}
use Rattle.cs_build.specs.Meaning.{form_by}
use Rattle.cs_build.specs.Standing.{forms_in}
use Rattle.cs_build.proofs.Firsting.{three_folds}
use Rattle.cs_build.proofs.first.special_array.Goals as goal

pub returns : goal.returns
unfolding special_array_of symbol_specials
returns c =
    let forms : List text.Form = forms_in c.args.numbering.now in
    let given : List (ℕ × Ref) = flat_map (special_given forms) (map form_by c.args.numbering.now.forms.now) in
    c.in_ok-object.ensures ∙ ap (λ (refs : List Ref). laid (Ptr (new_head 39 2) refs))
    (c.set_all_given.ensures ∙ ap (λ (s : List Ref). fold with_special s given) (c.set_symbols.ensures ∙ ap (λ (s : List Ref). fold with_special s (symbol_specials forms)) c.set_known.ensures)
    ∙ ap (λ (fs : List text.Form). fold with_special (fold with_special (fold with_special (replicate 51 nil_ref) (known_specials forms)) (symbol_specials forms)) (flat_map (special_given forms) fs)) c.requires.whole
    ∙ three_folds with_special (replicate 51 nil_ref) (known_specials forms) (symbol_specials forms) (flat_map (special_given forms) forms))
