use Rattle.std.proofs.Common.{ap, sym, ◌∙◌, option_map, None, arith}
use Rattle.std.proofs.lemmas.List.{get_or_default}
use Rattle.std.specs.FinMap.{get}
use Rattle.cs_word.specs.declared.Oop.{Oop}
use Rattle.cs_classes.proofs.Tables.{get-filled}
use Rattle.cs_classes.proofs.Classes.entry.Goals as goal

pub returns : goal.returns
returns c =
    let at = get_or_default c.self.inside.entries.items c.args.index c.index.result.now None (omega (arith, c.self.invariant)) in
    ap (option_map (λ (o : Oop). o.0)) (c.index.ensures ∙ at) ∙ sym (get-filled _ c.args.index) ∙ ap (λ m. get m c.args.index) c.self.view_is
