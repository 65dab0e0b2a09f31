use Rattle.std.proofs.Common.{ℕ, ◌^◌, ◌<◌, Option, length, ap, sym, subst, ◌∙◌, arith}
use Rattle.std.specs.Prelude.{IfSome, position}
use Rattle.std.specs.Str.{bytes_eq}
use Rattle.std.proofs.lemmas.List.{length-map}
use Rattle.cs_model.specs.BuilderText.{ClassLine}
use Rattle.cs_build.specs.Meaning.{class_by}
use Rattle.cs_build.specs.Standing.{listed_classes}
use Rattle.cs_build.proofs.Standing.{position_within, below_length}
use Rattle.cs_build.proofs.numbering.Numbering.class_place.Goals as goal

pub returns-clause-value : goal.returns-clause-value
returns-clause-value c = c.place.ensures ∙ ap (position (λ (line : ClassLine). bytes_eq line.name c.args.class.now)) c.requires.lines

pub returns-clause-few : goal.returns-clause-few
returns-clause-few c = subst (λ (o : Option ℕ). IfSome o (λ k. k < 2 ^ 28)) (sym c.place.ensures)
    (below_length _ (length (listed_classes c.args.self.now.classes)) (2 ^ 28) (position_within (λ (line : ClassLine). bytes_eq line.name c.args.class.now) (listed_classes c.args.self.now.classes))
    (omega (arith, length-map c.args.self.now.classes.lines.items class_by, c.requires.classes.few)))
