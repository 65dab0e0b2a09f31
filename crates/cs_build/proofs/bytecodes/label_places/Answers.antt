use Rattle.std.proofs.Common.{◌≡◌, ℕ, ◌+◌, ◌≤◌, ◌^◌, List, Bor, Option, map, drop, ap, sym, subst, ◌∙◌, arith}
use Rattle.std.specs.Prelude.{IfSome}
use Rattle.std.specs.Option.{option_or}
use Rattle.std.specs.Map.{lookup}
use Rattle.std.specs.Str.{bytes_eq}
use Rattle.cs_model.specs.BuilderFault.{byte_count, is_label, label_place, place_where}
use Rattle.cs_build.specs.declared.form.Form.{Form}
use Rattle.cs_build.specs.Meaning.{form_by}
use Rattle.cs_build.specs.Numbered.{name_number}
use Rattle.cs_build.proofs.Walking.{walk_more, walk_all}
use Rattle.cs_build.proofs.Noting.{or_none}
use Rattle.cs_build.proofs.Coding.{label_more, within_more, within_most}
use Rattle.cs_build.proofs.bytecodes.label_places.Goals as goal

pub loop-form-init : goal.loop-form-init
loop-form-init c = record {
  few = omega arith;
  within = λ q. subst (λ (es : List (Bor (List ℕ) × ℕ)). IfSome (lookup (λ k. bytes_eq q k.now) es) (λ k. k ≤ 0)) (sym c.new-places.ensures.empty) tt;
  places = λ q. ap (λ (es : List (Bor (List ℕ) × ℕ)). option_or (lookup (λ k. bytes_eq q k.now) es) (label_place (map form_by c.args.body.now) q)) c.new-places.ensures.empty;
}

pub loop-form-preserved : goal.loop-form-preserved
loop-form-preserved c = record {
  few = omega (arith, c.loop-form.invariant.few, c.byte_count-place.ensures.few);
  within = λ q. subst (λ (o : Option ℕ). IfSome o (λ k. k ≤ c.loop-form.place + c.byte_count-place.result)) (sym (c.in_ok-note_label.ensures q))
      (within_more (name_number c.loop-form.places q) (is_label q (form_by c.form-item.result)) c.loop-form.place (c.loop-form.place + c.byte_count-place.result) (c.loop-form.invariant.within q) (omega arith));
  places = λ q. walk_more (λ (s : Option ℕ × ℕ) (forms : List Form). option_or s.0 (place_where byte_count (is_label q) s.1 (map form_by forms)))
      (name_number c.loop-form.places q, c.loop-form.place) (name_number c.note_label.new.places q, c.loop-form.place + c.byte_count-place.result)
      c.args.body.now c.loop-form.form-index c.form-item.result _ c.form-item.is c.loop-form-test.true
      (ap (λ (k : ℕ). option_or (name_number c.note_label.new.places q) (place_where byte_count (is_label q) (c.loop-form.place + k) (map form_by (drop (c.loop-form.form-index + 1) c.args.body.now)))) c.byte_count-place.ensures.count
      ∙ label_more (is_label q) (name_number c.note_label.new.places q) (name_number c.loop-form.places q) c.loop-form.place (form_by c.form-item.result)
      (map form_by (drop (c.loop-form.form-index + 1) c.args.body.now)) (c.in_ok-note_label.ensures q))
      (c.loop-form.invariant.places q);
}

pub returns : goal.returns
returns c =
    let at : (q : List ℕ) → name_number c.loop-form.places q ≡ label_place (map form_by c.args.body.now) q = λ q.
    sym (or_none (name_number c.loop-form.places q))
    ∙ walk_all (λ (forms : List Form). option_or (name_number c.loop-form.places q) (place_where byte_count (is_label q) c.loop-form.place (map form_by forms)))
    c.args.body.now c.loop-form.form-index _ c.loop-form-test.false (c.loop-form.invariant.places q) in
    record {
      at = at;
      few = λ q. within_most (name_number c.loop-form.places q) c.loop-form.place (2 ^ 28) (c.loop-form.invariant.within q)
          (omega (arith, c.loop-form.invariant.few, c.requires));
    }
