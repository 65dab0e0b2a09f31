use Rattle.std.proofs.Common.{◌≡◌, length, ap, ◌∙◌, arith}
use Rattle.std.proofs.lemmas.List.{length-map}
use Rattle.cs_model.specs.BuilderFault.{all_classes}
use Rattle.cs_model.specs.Builder.{dictionary_birth}
use Rattle.cs_build.specs.Meaning.{class_by}
use Rattle.cs_build.specs.Standing.{forms_in}
use Rattle.cs_build.proofs.Standing.{symbol_ref_is}
use Rattle.cs_build.proofs.numbering.Numbering.symbol.Goals as goal

pub returns : goal.returns
returns c =
    let count : c.len.result ≡ length (all_classes (forms_in c.args.self.now)) =
    omega (arith, c.len.ensures, c.args.self.now.classes.lines.ok.0, length-map c.args.self.now.classes.lines.items class_by, ap length c.requires.lines) in
    symbol_ref_is (forms_in c.args.self.now) c.args.name.now c.dictionary-first.result c.symbol_place.result
    (c.dictionary-first.ensures ∙ ap (dictionary_birth (forms_in c.args.self.now)) count) c.symbol_place.ensures.value
