use Rattle.std.proofs.Common.{◌+◌, ◌++◌, ℕ, List, length, map, drop, Option, Bor, ap, sym, ◌∙◌, arith, append_assoc, append-nil}
use Rattle.std.specs.Prelude.{flat_map}
use Rattle.std.specs.Str.{bytes_eq}
use Rattle.std.specs.Map.{lookup}
use Rattle.std.specs.Option.{option_or}
use Rattle.cs_model.specs.BuilderText.{ClassLine}
use Rattle.cs_model.specs.BuilderFault.{class_lines_in}
use Rattle.cs_build.specs.Meaning.{form_by, class_by}
use Rattle.cs_build.specs.Numbered.{name_number, placed, first_at}
use Rattle.cs_build.proofs.Walking.{walk_more, walk_all}
use Rattle.cs_build.proofs.Noting.{position_is, or_none}
use Rattle.cs_build.proofs.classes.classes_of.Goals as goal

pub loop-form-init : goal.loop-form-init
loop-form-init c = record {
  few = omega (arith, ap length c.new-lines.ensures.items);
  lines = ap (λ xs. map class_by xs ++ flat_map class_lines_in (map form_by c.args.forms.now)) c.new-lines.ensures.items;
  places = λ q. ap (λ n. placed (name_number c.new-places.result q) n q (flat_map class_lines_in (map form_by c.args.forms.now))) (ap length c.new-lines.ensures.items);
}

pub loop-form-preserved : goal.loop-form-preserved
loop-form-preserved c = record {
  few = omega (arith, c.in_ok-note_class.ensures.few, c.loop-form.invariant.few);
  lines = walk_more (λ lines forms. lines ++ flat_map class_lines_in (map form_by forms)) (map class_by c.loop-form.lines.items) (map class_by c.note_class.new.lines.items)
      c.args.forms.now c.loop-form.form-index c.form-item.result _ c.form-item.is c.loop-form-test.true
      (ap (λ (lines : List ClassLine). lines ++ flat_map class_lines_in (map form_by (drop (c.loop-form.form-index + 1) c.args.forms.now))) c.in_ok-note_class.ensures.lines
      ∙ append_assoc (map class_by c.loop-form.lines.items) (class_lines_in (form_by c.form-item.result)) (flat_map class_lines_in (map form_by (drop (c.loop-form.form-index + 1) c.args.forms.now))))
      c.loop-form.invariant.lines;
  places = λ q. walk_more (λ (s : Option ℕ × ℕ) forms. placed s.0 s.1 q (flat_map class_lines_in (map form_by forms)))
      (name_number c.loop-form.places q, length c.loop-form.lines.items) (name_number c.note_class.new.places q, length c.note_class.new.lines.items)
      c.args.forms.now c.loop-form.form-index c.form-item.result _ c.form-item.is c.loop-form-test.true
      (c.in_ok-note_class.ensures.places q (flat_map class_lines_in (map form_by (drop (c.loop-form.form-index + 1) c.args.forms.now))))
      (c.loop-form.invariant.places q);
}

pub returns-clause-lines : goal.returns-clause-lines
returns-clause-lines c = sym (append-nil (map class_by c.loop-form.lines.items))
    ∙ walk_all (λ forms. map class_by c.loop-form.lines.items ++ flat_map class_lines_in (map form_by forms)) c.args.forms.now c.loop-form.form-index _
    c.loop-form-test.false c.loop-form.invariant.lines

pub returns-clause-places : goal.returns-clause-places
returns-clause-places c = λ name.
    sym (or_none (name_number c.loop-form.places name))
    ∙ walk_all (λ forms. placed (name_number c.loop-form.places name) (length c.loop-form.lines.items) name (flat_map class_lines_in (map form_by forms))) c.args.forms.now c.loop-form.form-index _
    c.loop-form-test.false (c.loop-form.invariant.places name)
    ∙ ap (λ (es : List (Bor (List ℕ) × ℕ)). option_or (lookup (λ k. bytes_eq name k.now) es) (first_at (λ (line : ClassLine). bytes_eq line.name name) 0 (flat_map class_lines_in (map form_by c.args.forms.now)))) c.new-places.ensures.empty
    ∙ position_is (λ (line : ClassLine). bytes_eq line.name name) (flat_map class_lines_in (map form_by c.args.forms.now))
