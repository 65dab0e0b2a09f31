use Rattle.std.proofs.Common.{ap, sym, ◌∙◌, option_map, None, arith}
use Rattle.std.proofs.lemmas.List.{get_or_past}
use Rattle.std.specs.FinMap.{get}
use Rattle.cs_word.specs.declared.Oop.{Oop}
use Rattle.cs_classes.proofs.Tables.{get-filled}
use Rattle.cs_classes.proofs.Classes.len.Goals as goal

pub returns-clause-beyond : goal.returns-clause-beyond
returns-clause-beyond c = λ index far.
    ap (λ m. get m index) (sym c.self.view_is) ∙ get-filled c.self.inside.entries.items index
    ∙ ap (option_map (λ (o : Oop). o.0)) (get_or_past c.self.inside.entries.items index None (omega (arith, far, c.self.invariant)))
