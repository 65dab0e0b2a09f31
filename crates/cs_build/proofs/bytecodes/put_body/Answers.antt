use Rattle.std.proofs.Common.{◌≡◌, ℕ, ◌+◌, ◌++◌, true, List, [], map, drop, ap, sym, subst, refl, ◌∙◌, arith, append_assoc, append-nil}
use Rattle.std.specs.Prelude.{unwrap_or}
use Rattle.std.specs.List.{list_all}
use Rattle.cs_model.specs.BuilderText as text
use Rattle.cs_model.specs.BuilderFault.{byte_count, code_from, line_bytes}
use Rattle.cs_build.specs.declared.form.Form.{Form}
use Rattle.cs_build.specs.Meaning.{form_by}
use Rattle.cs_build.specs.Sound.{is_sound}
use Rattle.cs_build.proofs.Walking.{walk_more, walk_all, drop_read}
use Rattle.cs_build.proofs.Coding.{both_sound}
use Rattle.cs_build.proofs.bytecodes.put_body.Goals as goal

pub loop-form-init : goal.loop-form-init
loop-form-init c = record { few = omega arith; sound = c.requires.sound; code = refl }

pub put_line-requires : goal.put_line-requires
put_line-requires c =
    let sound : (is_sound (form_by c.form-item.result) ≡ true) × (list_all is_sound (map form_by (drop (c.loop-form.form-index + 1) c.args.body.now)) ≡ true) =
    both_sound (form_by c.form-item.result) (map form_by (drop (c.loop-form.form-index + 1) c.args.body.now))
    (subst (λ (fs : List Form). list_all is_sound (map form_by fs) ≡ true) (drop_read c.args.body.now c.loop-form.form-index c.form-item.result c.form-item.is c.loop-form-test.true) c.loop-form.invariant.sound) in
    record {
      place = omega (arith, c.loop-form.invariant.few, c.requires.few, c.loop-form-test.true);
      places = λ q. c.in_ok-places.ensures.few q;
      sound = sound.0;
    }

pub loop-form-preserved : goal.loop-form-preserved
loop-form-preserved c =
    let body : List text.Form = map form_by c.args.body.now in
    let rest : List text.Form = map form_by (drop (c.loop-form.form-index + 1) c.args.body.now) in
    let form : text.Form = form_by c.form-item.result in
    let old : List ℕ = c.loop-form.code.items in
    let new : List ℕ = c.put_line.new.code.items in
    let place : ℕ = c.loop-form.place in
    let sound : (is_sound (form_by c.form-item.result) ≡ true) × (list_all is_sound (map form_by (drop (c.loop-form.form-index + 1) c.args.body.now)) ≡ true) =
    both_sound (form_by c.form-item.result) (map form_by (drop (c.loop-form.form-index + 1) c.args.body.now))
    (subst (λ (fs : List Form). list_all is_sound (map form_by fs) ≡ true) (drop_read c.args.body.now c.loop-form.form-index c.form-item.result c.form-item.is c.loop-form-test.true) c.loop-form.invariant.sound) in
    record {
      few = omega (arith, c.loop-form.invariant.few, c.byte_count-place.ensures.few);
      sound = sound.1;
      code = walk_more (λ (s : List ℕ × ℕ) (forms : List Form). s.0 ++ code_from (map form_by c.args.body.now) s.1 (map form_by forms)) (old, place) (new, place + c.byte_count-place.result)
          c.args.body.now c.loop-form.form-index c.form-item.result _ c.form-item.is c.loop-form-test.true
          (ap (λ (k : ℕ). new ++ code_from body (place + k) rest) c.byte_count-place.ensures.count
          ∙ ap (λ (bytes : List ℕ). bytes ++ code_from body (place + byte_count form) rest) (c.in_ok-put_line.ensures body c.in_ok-places.ensures)
          ∙ append_assoc old (unwrap_or (line_bytes body place form) []) (code_from body (place + byte_count form) rest))
          c.loop-form.invariant.code;
    }

pub returns : goal.returns
returns c = sym (append-nil c.loop-form.code.items)
    ∙ walk_all (λ (forms : List Form). c.loop-form.code.items ++ code_from (map form_by c.args.body.now) c.loop-form.place (map form_by forms)) c.args.body.now c.loop-form.form-index _
    c.loop-form-test.false c.loop-form.invariant.code
