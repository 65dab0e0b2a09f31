use Rattle.std.proofs.Common.{ℕ, ◌+◌, ◌*◌, get_or, sym, ◌∙◌, ap, subst, arith}
use Rattle.cs_frame.specs.Layout.{part_of, CanHold}
use Rattle.cs_frame.proofs.Pages.{found}
use Rattle.cs_frame.proofs.Calls.{offset_bounds, part_word, part_held}
use Rattle.cs_frame.proofs.Frames.part.Goals as goal

pub place-requires-clause-page : goal.place-requires-clause-page
place-requires-clause-page c =
    let f = found c.self.invariant c.self.view_is c.args.f c.requires.frame in
    omega (arith, f.few)

pub place-requires-clause-word : goal.place-requires-clause-word
place-requires-clause-word c =
    let f = found c.self.invariant c.self.view_is c.args.f c.requires.frame in
    let b = offset_bounds c.args.part in
    omega (arith, f.overhead, f.high, b.1, c.offset.ensures.offset)

pub get-requires : goal.get-requires
get-requires c =
    let f = found c.self.invariant c.self.view_is c.args.f c.requires.frame in
    let b = offset_bounds c.args.part in
    let at = c.place.ensures.place ∙ ap (λ (k : ℕ). c.args.f.page * 4096 + c.args.f.at + k) c.offset.ensures.offset in
    omega (arith, f.overhead, f.high, f.fits, b.1, at)

pub returns-clause-part : goal.returns-clause-part
returns-clause-part c =
    let f = found c.self.invariant c.self.view_is c.args.f c.requires.frame in
    let at = c.place.ensures.place ∙ ap (λ (k : ℕ). c.args.f.page * 4096 + c.args.f.at + k) c.offset.ensures.offset in
    let word = c.get.ensures.word ∙ ap (λ (k : ℕ). get_or c.self.inside.zone k 0) at in
    word ∙ (sym (part_word c.args.part c.self.inside.zone _ _ f.end) ∙ ap (part_of c.args.part) (sym f.is))

pub returns-clause-held : goal.returns-clause-held
returns-clause-held c =
    let f = found c.self.invariant c.self.view_is c.args.f c.requires.frame in
    let at = c.place.ensures.place ∙ ap (λ (k : ℕ). c.args.f.page * 4096 + c.args.f.at + k) c.offset.ensures.offset in
    let word = c.get.ensures.word ∙ ap (λ (k : ℕ). get_or c.self.inside.zone k 0) at in
    subst (λ (n : ℕ). CanHold c.args.part n) (sym word) (part_held c.args.part c.self.inside.zone _ f.end f.whole)
