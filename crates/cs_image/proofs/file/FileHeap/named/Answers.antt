use Rattle.std.proofs.Common.{◌==◌, ap, sym, ◌∙◌, slice_get, option_and_then}
use Rattle.cs_model.specs.ImageFile.{address_in, named}
use Rattle.cs_image.proofs.Finding.{find-number}
use Rattle.cs_image.proofs.file.FileHeap.named.Goals as goal

pub returns-in-Some-clause-value : goal.returns-in-Some-clause-value
unfolding named
returns-in-Some-clause-value c =
    c.get.ensures.value
    ∙ ap (option_and_then (slice_get c.args.self.now.objects)) (sym c.in-Some.is ∙ c.number_named.ensures)
    ∙ sym (find-number (λ o. address_in c.args.self.now o == c.args.word) c.args.self.now.objects)

pub returns-in-None-clause-value : goal.returns-in-None-clause-value
unfolding named
returns-in-None-clause-value c =
    ap (option_and_then (slice_get c.args.self.now.objects)) (sym c.in-None.is ∙ c.number_named.ensures)
    ∙ sym (find-number (λ o. address_in c.args.self.now o == c.args.word) c.args.self.now.objects)
