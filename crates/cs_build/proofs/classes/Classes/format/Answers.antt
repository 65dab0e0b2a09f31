use Rattle.std.proofs.Common.{ℕ, Bool, ◌<◌, Some, Option, length, ap, sym, subst, ◌∙◌, arith}
use Rattle.std.specs.Prelude.{IfSome}
use Rattle.std.specs.Option.{option_map_or}
use Rattle.std.specs.Str.{bytes_eq}
use Rattle.std.proofs.lemmas.List.{length-map, get_or-map}
use Rattle.cs_model.specs.BuilderText as text
use Rattle.cs_model.specs.Builder.{natural}
use Rattle.cs_build.specs.Meaning.{class_by}
use Rattle.cs_build.specs.Standing.{listed_classes}
use Rattle.cs_build.proofs.Standing.{position_within, find_position, find_none}
use Rattle.cs_build.proofs.classes.Classes.format.Goals as goal

pub index-requires : goal.index-requires
index-requires c =
    let within : c.in-Some.place < length (listed_classes c.args.self.now) =
    subst (λ (o : Option ℕ). IfSome o (λ k. k < length (listed_classes c.args.self.now))) (sym c.in-Some.ensures)
    (position_within (λ (line : text.ClassLine). bytes_eq line.name c.args.name.now) (listed_classes c.args.self.now)) in
    omega (arith, within, length-map c.args.self.now.lines.items class_by, c.args.self.now.lines.ok.0)

pub returns-in-Some : goal.returns-in-Some
returns-in-Some c =
    let within : c.in-Some.place < length (listed_classes c.args.self.now) =
    subst (λ (o : Option ℕ). IfSome o (λ k. k < length (listed_classes c.args.self.now))) (sym c.in-Some.ensures)
    (position_within (λ (line : text.ClassLine). bytes_eq line.name c.args.name.now) (listed_classes c.args.self.now)) in
    let inside : c.in-Some.place < length c.args.self.now.lines.items = omega (arith, within, length-map c.args.self.now.lines.items class_by) in
    let p : text.ClassLine → Bool = λ line. bytes_eq line.name c.args.name.now in
    c.format_in.ensures ∙ sym (ap (λ (o : Option text.ClassLine). option_map_or (λ (line : text.ClassLine). natural line.format) o 0)
    (find_position p c.in-Some.place (listed_classes c.args.self.now) (class_by c.index.result.now) (sym c.in-Some.ensures)
    ∙ ap Some (get_or-map class_by c.args.self.now.lines.items c.in-Some.place c.index.result.now (class_by c.index.result.now) inside ∙ ap class_by (sym c.index.ensures))))

pub returns-in-None : goal.returns-in-None
returns-in-None c = sym (ap (λ (o : Option text.ClassLine). option_map_or (λ (line : text.ClassLine). natural line.format) o 0)
    (find_none (λ (line : text.ClassLine). bytes_eq line.name c.args.name.now) (listed_classes c.args.self.now) (sym c.in-None.ensures)))
