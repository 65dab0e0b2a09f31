use Rattle.std.proofs.Common.{◌≡◌, ◌∙◌, ℕ, List, option_map, subst}
use Rattle.cs_cli.specs.Answer as answer
use Rattle.cs_cli.specs.Answer.{Printed, Writing, answering}
use Rattle.cs_cli.proofs.Writings.{writing}
use Rattle.cs_cli.proofs.building.save_image.Goals as goal

pub returns-in-Ok-clause-saved : goal.returns-in-Ok-clause-saved
returns-in-Ok-clause-saved g c =
    let out : Writing = writing (g.K.Sink.taken c.args.out.now) (g.K.Sink.taken c.print.new.out) (g.K.Sink.fault_count c.args.out.now) (g.K.Sink.fault_count c.print.new.out) in
    let P : List ℕ → Type 0 = λ bytes. g.S.Shelf.content c.save_whole.new.shelf c.args.name.now ≡ option_map (λ (taken : List ℕ). bytes) (g.S.Shelf.taken c.args.shelf.now) in
    let Q : List ℕ → Type 0 = λ text. Printed (answering 0 text) out c.print.result in
    answer.held (subst P c.as_slice.ensures.value c.in-Ok.ensures.saved) (subst Q (c.as_str.ensures.value ∙ c.built_line-text.ensures) c.print.ensures.printed)
