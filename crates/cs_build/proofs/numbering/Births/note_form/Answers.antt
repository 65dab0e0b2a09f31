use Rattle.std.proofs.Common.{ℕ, ◌+◌, List, map, ap, ◌∙◌}
use Rattle.std.specs.Prelude.{option_map, sum_by}
use Rattle.std.specs.Option.{option_or}
use Rattle.cs_model.specs.BuilderText as text
use Rattle.cs_model.specs.BuilderFault.{is_named, place_where}
use Rattle.cs_model.specs.Builder.{object_count, first_class, is_process_named, is_method_of}
use Rattle.cs_build.specs.Meaning.{form_by}
use Rattle.cs_build.specs.Numbered.{name_number, method_entry}
use Rattle.cs_build.specs.Counted.{own_number, body_in}
use Rattle.cs_build.proofs.Numbers.{place_more, body_more, count_more}
use Rattle.cs_build.proofs.numbering.Births.note_form.Goals as goal

pub returns : goal.returns
returns c = λ forms counts.
    let n : ℕ = c.args.self.now.next in
    let form : text.Form = form_by c.args.form.now in
    let rest : List text.Form = map form_by c.args.behind.now in
    record {
      next = count_more form rest n (n + c.object_count.result) (first_class + sum_by object_count forms) (ap (λ (k : ℕ). n + k) c.object_count.ensures) counts.next;
      things = λ q. ap (λ (k : ℕ). option_or (name_number c.note_thing.new.things q) (place_where object_count (is_named q) (n + k) rest)) c.object_count.ensures
          ∙ place_more (is_named q) (name_number c.note_thing.new.things q) (name_number c.args.self.now.things q) n form rest (c.in_ok-note_thing.ensures q) ∙ counts.things q;
      contexts = λ q. ap (λ (k : ℕ). option_or (name_number c.note_context.new.contexts q) (place_where object_count (is_process_named q) (n + k) rest)) c.object_count.ensures
          ∙ place_more (is_process_named q) (name_number c.note_context.new.contexts q) (name_number c.args.self.now.contexts q) n form rest (c.in_ok-note_context.ensures q) ∙ counts.contexts q;
      numbers = λ d s. ap (λ (k : ℕ). option_or (option_map own_number (method_entry c.note_method.new.methods d s)) (place_where object_count (is_method_of d s) (n + k) rest)) c.object_count.ensures
          ∙ place_more (is_method_of d s) (option_map own_number (method_entry c.note_method.new.methods d s)) (option_map own_number (method_entry c.args.self.now.methods d s)) n form rest
          (c.in_ok-note_method.ensures.numbers d s) ∙ counts.numbers d s;
      bodies = λ d s. body_more d s (option_map body_in (method_entry c.note_method.new.methods d s)) (option_map body_in (method_entry c.args.self.now.methods d s)) form rest
          (c.in_ok-note_method.ensures.bodies d s) ∙ counts.bodies d s;
      counted = c.in_ok-note_method.ensures.counted counts.counted;
    }
