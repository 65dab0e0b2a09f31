use Rattle.std.proofs.Common.{ℕ, ◌+◌, ◌*◌, set, ◌∙◌, ap, arith}
use Rattle.cs_frame.proofs.Pages.{found}
use Rattle.cs_frame.proofs.Calls.{offset_bounds, set_part_done}
use Rattle.cs_frame.proofs.Frames.set_part.Goals as goal

pub place-requires-clause-page : goal.place-requires-clause-page
place-requires-clause-page c =
    let f = found c.self.invariant c.self.view_is c.args.f c.requires.frame in
    omega (arith, f.few)

pub place-requires-clause-word : goal.place-requires-clause-word
place-requires-clause-word c =
    let f = found c.self.invariant c.self.view_is c.args.f c.requires.frame in
    let b = offset_bounds c.args.part in
    omega (arith, f.overhead, f.high, b.1, c.offset.ensures.offset)

pub set-requires : goal.set-requires
set-requires c =
    let f = found c.self.invariant c.self.view_is c.args.f c.requires.frame in
    let b = offset_bounds c.args.part in
    let at = c.place.ensures.place ∙ ap (λ (k : ℕ). c.args.f.page * 4096 + c.args.f.at + k) c.offset.ensures.offset in
    omega (arith, f.overhead, f.high, f.fits, b.1, at)

pub invariant_of-self : goal.invariant_of-self
invariant_of-self c =
    let at = c.place.ensures.place ∙ ap (λ (k : ℕ). c.args.f.page * 4096 + c.args.f.at + k) c.offset.ensures.offset in
    let e = c.set.ensures.words ∙ ap (λ (k : ℕ). set c.self.inside.zone k c.args.v.0) at in
    (set_part_done c.self.invariant c.self.view_is c.args.f c.args.part c.args.v.0 c.requires.frame c.requires.held e).0

pub returns : goal.returns
returns c =
    let at = c.place.ensures.place ∙ ap (λ (k : ℕ). c.args.f.page * 4096 + c.args.f.at + k) c.offset.ensures.offset in
    let e = c.set.ensures.words ∙ ap (λ (k : ℕ). set c.self.inside.zone k c.args.v.0) at in
    record { part = (set_part_done c.self.invariant c.self.view_is c.args.f c.args.part c.args.v.0 c.requires.frame c.requires.held e).1 }
