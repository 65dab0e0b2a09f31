use Rattle.std.proofs.Common.{◌≡◌, ℕ, ◌+◌, ◌++◌, length, map, refl, ap, sym, ◌∙◌, arith}
use Rattle.std.specs.Option.{option_or}
use Rattle.std.proofs.lemmas.List.{map_push, length_push}
use Rattle.cs_model.specs.BuilderFault.{class_lines_in}
use Rattle.cs_build.specs.Meaning.{form_by, class_by}
use Rattle.cs_build.specs.Numbered.{name_number, noted, placed}
use Rattle.cs_build.proofs.Noting.{placed_more}
use Rattle.cs_build.proofs.classes.note_class.Goals as goal

pub returns-in_ok-push-clause-places : goal.returns-in_ok-push-clause-places
returns-in_ok-push-clause-places c = λ q rest.
    let place : c.len.result ≡ length c.args.lines.now.items = omega (arith, c.len.ensures, c.args.lines.now.ok.0) in
    let long : length c.push.new.self.items ≡ length c.args.lines.now.items + 1 = ap length c.in_ok-push.ensures.items ∙ length_push c.args.lines.now.items c.in-Class.line in
    ap (λ (n : ℕ). placed (name_number c.note.new.numbers q) n q rest) long
    ∙ placed_more (name_number c.args.places.now q) (name_number c.note.new.numbers q) (length c.args.lines.now.items) c.in-Class.line.name.now q (class_by c.in-Class.line) rest refl
    (c.in_ok-note.ensures q ∙ ap (λ (n : ℕ). option_or (name_number c.args.places.now q) (noted c.in-Class.line.name.now n q)) place)
    ∙ ap (λ f. placed (name_number c.args.places.now q) (length c.args.lines.now.items) q (class_lines_in (form_by f) ++ rest)) (sym c.in-Class.is)

pub returns-in_ok-push-clause-lines : goal.returns-in_ok-push-clause-lines
returns-in_ok-push-clause-lines c = ap (map class_by) c.in_ok-push.ensures.items ∙ map_push class_by c.args.lines.now.items c.in-Class.line
    ∙ ap (λ f. map class_by c.args.lines.now.items ++ class_lines_in (form_by f)) (sym c.in-Class.is)
