-- The literals of a method.
use Rattle.std.proofs.Common.{◌≡◌, ℕ, ◌+◌, ◌≤◌, Bool, true, false, cond, List, [], ◌∷◌, ◌++◌, length, map, ap, ap₂, sym, ◌∙◌, refl, arith}
use Rattle.std.specs.Prelude.{count_by}
use Rattle.std.proofs.lemmas.List.{length-append}
use Rattle.std.proofs.lemmas.List.Sums.{sum_by-cons}
use Rattle.cs_model.specs.BuilderText as text
use Rattle.cs_model.specs.BuilderFault.{is_literal}
use Rattle.cs_build.specs.declared.form.Form.{Form}
use Rattle.cs_build.specs.Meaning.{form_by}
use Rattle.cs_build.specs.Making.{method_literals}

pub literals_cons : (forms : List text.Form) (form : text.Form) (body : List text.Form)
    → method_literals forms (form ∷ body) ≡ method_literals forms (form ∷ []) ++ method_literals forms body
literals_cons forms (text.Literal value) body = refl
literals_cons forms form body = refl

one_literal : (forms : List text.Form) (form : text.Form) → length (method_literals forms (form ∷ [])) ≡ cond (is_literal form) 1 0
one_literal forms (text.Literal value) = refl
one_literal forms form = refl

pub count_is : (forms : List text.Form) (body : List Form) → count_by (λ form. is_literal (form_by form)) body ≡ length (method_literals forms (map form_by body))
count_is forms [] = refl
count_is forms (form ∷ body) = sum_by-cons (λ f. cond (is_literal (form_by f)) 1 0) form body
    ∙ ap₂ (λ (a b : ℕ). a + b) (sym (one_literal forms (form_by form))) (count_is forms body)
    ∙ sym (ap length (literals_cons forms (form_by form) (map form_by body)) ∙ length-append (method_literals forms (form_by form ∷ [])) (method_literals forms (map form_by body)))

pub count_few : (body : List Form) → count_by (λ form. is_literal (form_by form)) body ≤ length body
count_few [] = omega arith
count_few (form ∷ body) = omega (arith, sum_by-cons (λ f. cond (is_literal (form_by f)) 1 0) form body, one_few (is_literal (form_by form)), count_few body)
  where
    one_few : (b : Bool) → cond b 1 0 ≤ 1
    one_few true = omega arith
    one_few false = omega arith
