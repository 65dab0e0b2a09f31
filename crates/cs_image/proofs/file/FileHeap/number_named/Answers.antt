use Rattle.std.proofs.Common.{◌≡◌, ℕ, ◌+◌, ◌-◌, ◌/◌, ◌==◌, List, ap, sym, ◌∙◌, arith, slice_index}
use Rattle.cs_model.specs.ImageFile.{File, address_in}
use Rattle.cs_image.specs.Loading.{number_that}
use Rattle.cs_image.proofs.Finding.{named_none, named_some}
use Rattle.cs_image.proofs.file.FileHeap.number_named.Goals as goal

pub returns-then-word-self : goal.returns-then-word-self
returns-then-word-self c =
    sym (ap (λ (f : File). number_that (λ o. address_in f o == c.args.word) f.objects) (sym c.self.view_is)
    ∙ named_none c.self.inside c.self.invariant c.args.word (λ place e. absurd (grind arith)))

pub returns-then-number-eq0 : goal.returns-then-number-eq0
returns-then-number-eq0 c =
    sym (ap (λ (f : File). number_that (λ o. address_in f o == c.args.word) f.objects) (sym c.self.view_is)
    ∙ named_none c.self.inside c.self.invariant c.args.word (λ place e.
    let at : place ≡ (c.args.word - c.self.inside.base) / 4 = omega (arith, e) in
    ap (slice_index c.self.inside.starts.items) at ∙ ap (λ (xs : List ℕ). slice_index xs ((c.args.word - c.self.inside.base) / 4)) (sym c.deref.ensures.value) ∙ sym c.word_at-number.ensures ∙ c.if-number-eq0.true))

pub returns-else-number-eq0 : goal.returns-else-number-eq0
returns-else-number-eq0 c =
    let number : slice_index c.self.inside.starts.items ((c.args.word - c.self.inside.base) / 4) ≡ c.word_at-number.result =
    ap (λ (xs : List ℕ). slice_index xs ((c.args.word - c.self.inside.base) / 4)) (sym c.deref.ensures.value) ∙ sym c.word_at-number.ensures in
    let more : slice_index c.self.inside.starts.items ((c.args.word - c.self.inside.base) / 4) ≡ c.word_at-number.result - 1 + 1 = omega (arith, number, c.if-number-eq0.false) in
    sym (ap (λ (f : File). number_that (λ o. address_in f o == c.args.word) f.objects) (sym c.self.view_is)
    ∙ named_some c.self.inside c.self.invariant c.args.word ((c.args.word - c.self.inside.base) / 4) (c.word_at-number.result - 1) (omega arith) more)
