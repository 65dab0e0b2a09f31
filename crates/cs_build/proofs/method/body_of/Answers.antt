use Rattle.std.proofs.Common.{◌≡◌, ℕ, suc, ◌+◌, ◌<◌, Bool, false, List, [], ◌∷◌, ◌++◌, length, map, take, drop, get_or, ap, sym, ◌∙◌, arith, rules, append_assoc}
use Rattle.std.proofs.lemmas.List.{drop_more}
use Rattle.std.specs.List.{before_first, position_or_len}
use Rattle.cs_model.specs.BuilderText as text
use Rattle.cs_model.specs.BuilderFault.{is_end_line}
use Rattle.cs_build.specs.declared.form.Form.{Form}
use Rattle.cs_build.specs.Meaning.{form_by}
use Rattle.cs_build.proofs.Putting.{map_last}
use Rattle.cs_build.proofs.method.body_of.Goals as goal

before_step : {B : Type 0} (p : B → Bool) (y : B) (ys : List B) → p y ≡ false → before_first p (y ∷ ys) ≡ y ∷ before_first p ys
before_step p y ys h = let on : 1 + position_or_len p ys ≡ suc (position_or_len p ys) = omega arith in rw h (ap (λ (n : ℕ). take n (y ∷ ys)) on)

before_more : (forms : List Form) (i : ℕ) (x : Form) → x ≡ get_or forms i x → i < length forms → is_end_line (form_by x) ≡ false
    → before_first is_end_line (map form_by forms) ≡ map form_by (take i forms) ++ before_first is_end_line (map form_by (drop i forms))
    → before_first is_end_line (map form_by forms) ≡ map form_by (take (i + 1) forms) ++ before_first is_end_line (map form_by (drop (i + 1) forms))
before_more forms i x e h goes was =
    was
    ∙ ap (λ (zs : List Form). map form_by (take i forms) ++ before_first is_end_line (map form_by zs)) (drop_more forms i x h)
    ∙ ap (λ (z : Form). map form_by (take i forms) ++ before_first is_end_line (form_by z ∷ map form_by (drop (i + 1) forms))) (sym e)
    ∙ ap (λ (zs : List text.Form). map form_by (take i forms) ++ zs) (before_step is_end_line (form_by x) (map form_by (drop (i + 1) forms)) goes)
    ∙ sym (append_assoc (map form_by (take i forms)) (form_by x ∷ []) (before_first is_end_line (map form_by (drop (i + 1) forms))))
    ∙ ap (λ (zs : List text.Form). zs ++ before_first is_end_line (map form_by (drop (i + 1) forms))) (sym (map_last form_by forms i x e h))

pub loop-end-preserved : goal.loop-end-preserved
loop-end-preserved c =
    let goes : is_end_line (form_by c.index-forms-end.result) ≡ false = search (rules, c.is_end.ensures, c.if-not-is_end.true, c.if-not-is_end.ensures) in
    (omega arith, before_more c.args.forms.now c.loop-end.end c.index-forms-end.result c.index-forms-end.is c.loop-end-test.true goes c.loop-end.invariant.1)
