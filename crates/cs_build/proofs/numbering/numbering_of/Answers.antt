use Rattle.std.proofs.Common.{◌≡◌, ◌+◌, List, [], map, ap, sym, ◌∙◌, arith, refl}
use Rattle.std.specs.Prelude.{flat_map, sum_by, position, option_map}
use Rattle.std.specs.Str.{bytes_eq}
use Rattle.std.proofs.lemmas.List.{length-map}
use Rattle.cs_model.specs.BuilderText as text
use Rattle.cs_model.specs.BuilderFault.{class_lines_in, is_named, place_where}
use Rattle.cs_model.specs.Builder.{all_forms, object_count, first_class, is_process_named, is_method_of, symbols_in}
use Rattle.cs_build.specs.Meaning.{form_by}
use Rattle.cs_build.specs.Numbered.{name_number, method_entry, method_found, mentioned, selector_words, special_names_of}
use Rattle.cs_build.specs.Counted.{Counts, own_number, body_in}
use Rattle.cs_build.specs.Standing.{forms_in, own_forms}
use Rattle.cs_build.proofs.Noting.{or_none}
use Rattle.cs_build.proofs.Numbers.{few_objects}
use Rattle.cs_build.proofs.Standing.{classes_are, methods_are, symbols_are}
use Rattle.cs_build.proofs.numbering.numbering_of.Goals as goal

pub returns : goal.returns
unfolding forms_in
returns c =
    let all : List text.Form = map form_by c.args.forms.now in
    let forms : List text.Form = own_forms (map form_by c.args.forms.now) in
    let whole : map form_by c.args.forms.now ≡ all_forms (own_forms (map form_by c.args.forms.now)) = c.requires.whole in
    let counts : Counts c.in_ok-births.births (map form_by c.args.forms.now) [] = c.in_ok-births.ensures in
    let total : c.in_ok-births.births.next ≡ first_class + sum_by object_count (map form_by c.args.forms.now) = omega (arith, counts.next) in
    record {
      stands = record {
        whole = whole;
        sound = c.requires.sound;
        lines_few = c.requires.few;
        few = omega (arith, total, few_objects (map form_by c.args.forms.now), length-map c.args.forms.now form_by, c.requires.few);
        few_symbols = omega (arith, c.len.ensures.len);
        classes = record {
          few = omega (arith, c.in_ok-classes.ensures.few, c.requires.few);
          places = λ q. c.in_ok-classes.ensures.places q ∙ ap (position (λ (line : text.ClassLine). bytes_eq line.name q)) (sym c.in_ok-classes.ensures.lines);
        };
        lines = c.in_ok-classes.ensures.lines ∙ ap (flat_map class_lines_in) whole ∙ classes_are forms;
        symbols = c.in_ok-symbols.ensures ∙ ap (λ (fs : List text.Form). mentioned (mentioned (mentioned [] selector_words) special_names_of) (flat_map symbols_in fs)) whole ∙ symbols_are forms;
        next = total ∙ ap (λ (fs : List text.Form). first_class + sum_by object_count fs) whole;
        things = λ q. sym (or_none (name_number c.in_ok-births.births.things q)) ∙ counts.things q ∙ ap (place_where object_count (is_named q) first_class) whole;
        contexts = λ q. sym (or_none (name_number c.in_ok-births.births.contexts q)) ∙ counts.contexts q ∙ ap (place_where object_count (is_process_named q) first_class) whole;
        numbers = λ d s. sym (or_none (option_map own_number (method_entry c.in_ok-births.births.methods d s))) ∙ counts.numbers d s ∙ ap (place_where object_count (is_method_of d s) first_class) whole;
        bodies = λ d s. sym (or_none (option_map body_in (method_entry c.in_ok-births.births.methods d s))) ∙ counts.bodies d s ∙ ap (method_found d s) whole ∙ methods_are d s forms;
        counted = counts.counted;
      };
      forms = refl;
    }
