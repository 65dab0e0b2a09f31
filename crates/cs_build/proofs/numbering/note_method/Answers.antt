use Rattle.std.proofs.Common.{◌≡◌, ℕ, cond, List, map, Some, None, Option, ap, ap₂, sym, subst, ◌∙◌, if◌then◌else◌}
use Rattle.std.specs.Prelude.{option_map, ◌&&◌, IfSome, is_some, count_by}
use Rattle.std.specs.Option.{option_or}
use Rattle.std.specs.Str.{bytes_eq}
use Rattle.std.specs.List.{before_first}
use Rattle.cs_model.specs.BuilderText as text
use Rattle.cs_model.specs.BuilderFault.{is_end_line, is_literal}
use Rattle.cs_model.specs.Builder.{is_method_of}
use Rattle.cs_build.specs.declared.form.Form.{Form}
use Rattle.cs_build.specs.declared.numbering.Numbered.{Numbered}
use Rattle.cs_build.specs.Meaning.{form_by, method_line_by}
use Rattle.cs_build.specs.Numbered.{method_entry, method_begun}
use Rattle.cs_build.specs.Counted.{own_number, body_in}
use Rattle.cs_build.proofs.Numbers.{none_from, some_from, noted_new, noted_part, method_old, counted_or}
use Rattle.cs_build.proofs.numbering.note_method.Goals as goal

pub returns-in_ok-insert : goal.returns-in_ok-insert
returns-in_ok-insert c =
    let class : List ℕ = c.in-Method.line.class.now in
    let selector : List ℕ = c.in-Method.line.selector.now in
    let m : Numbered = c.number_method-method.result in
    let behind : List text.Form = map form_by c.args.behind.now in
    let body : text.MethodLine × List text.Form = (method_line_by c.in-Method.line, before_first is_end_line behind) in
    let old : List ℕ → List ℕ → Option Numbered = method_entry c.args.methods.now in
    let new : List ℕ → List ℕ → Option Numbered = method_entry c.insert.new.self in
    let has : c.contains_key.result ≡ is_some (old class selector) = c.contains_key.ensures in
    let update : (d s : List ℕ) → new d s ≡ cond (bytes_eq class d && bytes_eq selector s) (Some m) (old d s) =
    λ d s. c.in_ok-insert.ensures.updates.0 (record { ref_ptr = (0, 0); now = d }, record { ref_ptr = (0, 0); now = s }) in
    let noted : (d s : List ℕ) → new d s ≡ option_or (old d s) (if bytes_eq class d && bytes_eq selector s then Some m else None) =
    noted_new old new class selector m (none_from (old class selector) (sym has ∙ c.if-not-contains_key.true)) update in
    let same : body_in m ≡ body =
    ap₂ (λ (a : text.MethodLine) (b : List text.Form). let p : text.MethodLine × List text.Form = (a, b) in p) (ap method_line_by c.number_method-method.ensures.line) c.number_method-method.ensures.body in
    record {
      numbers = λ d s. noted_part own_number (old d s) (new d s) (bytes_eq class d && bytes_eq selector s) m c.args.number c.number_method-method.ensures.number (noted d s)
          ∙ ap (λ (f : Form). option_or (option_map own_number (old d s)) (if is_method_of d s (form_by f) then Some c.args.number else None)) (sym c.in-Method.is);
      bodies = λ d s. noted_part body_in (old d s) (new d s) (bytes_eq class d && bytes_eq selector s) m body same (noted d s)
          ∙ ap (λ (f : Form). option_or (option_map body_in (old d s)) (method_begun d s (form_by f) behind)) (sym c.in-Method.is);
      counted = λ h d s. subst (λ (o : Option Numbered). IfSome o (λ (n : Numbered). n.literals ≡ count_by (λ (form : Form). is_literal (form_by form)) n.body.now)) (sym (noted d s))
          (counted_or (λ (n : Numbered). n.literals ≡ count_by (λ (form : Form). is_literal (form_by form)) n.body.now) (old d s) (bytes_eq class d && bytes_eq selector s) m (h d s)
          c.number_method-method.ensures.literals);
    }

pub returns-else-not-contains_key : goal.returns-else-not-contains_key
returns-else-not-contains_key c =
    let class : List ℕ = c.in-Method.line.class.now in
    let selector : List ℕ = c.in-Method.line.selector.now in
    let behind : List text.Form = map form_by c.args.behind.now in
    let body : text.MethodLine × List text.Form = (method_line_by c.in-Method.line, before_first is_end_line behind) in
    let old : List ℕ → List ℕ → Option Numbered = method_entry c.args.methods.now in
    let has : c.contains_key.result ≡ is_some (old class selector) = c.contains_key.ensures in
    let some : (v : Numbered) × (old class selector ≡ Some v) = some_from (old class selector) (sym has ∙ c.if-not-contains_key.false) in
    record {
      numbers = λ d s. method_old old class selector c.args.number own_number some.0 d s some.1
          ∙ ap (λ (f : Form). option_or (option_map own_number (old d s)) (if is_method_of d s (form_by f) then Some c.args.number else None)) (sym c.in-Method.is);
      bodies = λ d s. method_old old class selector body body_in some.0 d s some.1
          ∙ ap (λ (f : Form). option_or (option_map body_in (old d s)) (method_begun d s (form_by f) behind)) (sym c.in-Method.is);
      counted = λ h. h;
    }
