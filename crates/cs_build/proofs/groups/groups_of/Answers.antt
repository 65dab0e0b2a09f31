use Rattle.std.proofs.Common.{ℕ, ◌+◌, ◌∷◌, ◌++◌, List, [], Bor, Vec, Global, map, drop, ap, sym, ◌∙◌, append-nil}
use Rattle.cs_model.specs.BuilderText as text
use Rattle.cs_model.specs.Builder.{methods_of}
use Rattle.cs_build.specs.declared.form.Form.{Form}
use Rattle.std.specs.Map.{lookup}
use Rattle.std.specs.Str.{bytes_eq}
use Rattle.std.specs.Option.{option_map_or}
use Rattle.cs_build.specs.declared.form.MethodLine.{MethodLine}
use Rattle.cs_build.specs.Meaning.{method_line_by}
use Rattle.cs_build.specs.Grouped.{group_at}
use Rattle.cs_build.specs.Meaning.{form_by}
use Rattle.cs_build.proofs.Walking.{walk_more, walk_all, put_more}
use Rattle.cs_build.proofs.Grouping.{methods_cons}
use Rattle.cs_build.proofs.groups.groups_of.Goals as goal

pub loop-form-init : goal.loop-form-init
loop-form-init c = λ q.
    ap (λ (es : List (Bor (List ℕ) × Vec MethodLine Global)). option_map_or (λ (v : Vec MethodLine Global). map method_line_by v.items) (lookup (λ k. bytes_eq q k.now) es) [] ++ methods_of (map form_by c.args.forms.now) q) c.new-groups.ensures.empty

pub loop-form-preserved : goal.loop-form-preserved
loop-form-preserved c = λ q.
    walk_more (λ (lines : List text.MethodLine) (forms : List Form). lines ++ methods_of (map form_by forms) q)
    (group_at c.loop-form.groups q) (group_at c.note_method.new.groups q) c.args.forms.now c.loop-form.form-index c.form-item.result _ c.form-item.is c.loop-form-test.true
    (put_more (group_at c.loop-form.groups q) (group_at c.note_method.new.groups q) (methods_of (form_by c.form-item.result ∷ []) q)
    (methods_of (map form_by (drop (c.loop-form.form-index + 1) c.args.forms.now)) q) (c.in_ok-note_method.ensures q)
    ∙ ap (λ (lines : List text.MethodLine). group_at c.loop-form.groups q ++ lines) (sym (methods_cons (form_by c.form-item.result) (map form_by (drop (c.loop-form.form-index + 1) c.args.forms.now)) q)))
    (c.loop-form.invariant q)

pub returns : goal.returns
returns c = record {
  at = λ q. sym (append-nil (group_at c.loop-form.groups q))
      ∙ walk_all (λ (forms : List Form). group_at c.loop-form.groups q ++ methods_of (map form_by forms) q) c.args.forms.now c.loop-form.form-index _ c.loop-form-test.false (c.loop-form.invariant q);
}
