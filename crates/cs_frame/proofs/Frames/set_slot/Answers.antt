use Rattle.std.proofs.Common.{ℕ, set, ◌∙◌, ap, arith}
use Rattle.cs_frame.proofs.Pages.{found}
use Rattle.cs_frame.proofs.Calls.{depth_is, set_slot_done}
use Rattle.cs_frame.proofs.Frames.set_slot.Goals as goal

pub overflow_add-i : goal.overflow_add-i
overflow_add-i c =
    let f = found c.self.invariant c.self.view_is c.args.f c.requires.frame in
    let d = depth_is f in
    let i = c.requires.index in
    record { fits = omega (arith, f.high, f.few) }

pub place-requires-clause-page : goal.place-requires-clause-page
place-requires-clause-page c =
    let f = found c.self.invariant c.self.view_is c.args.f c.requires.frame in
    omega (arith, f.few)

pub place-requires-clause-word : goal.place-requires-clause-word
place-requires-clause-word c =
    let f = found c.self.invariant c.self.view_is c.args.f c.requires.frame in
    let d = depth_is f in
    let i = c.requires.index in
    omega (arith, f.high)

pub set-requires : goal.set-requires
set-requires c =
    let f = found c.self.invariant c.self.view_is c.args.f c.requires.frame in
    let d = depth_is f in
    let i = c.requires.index in
    omega (arith, f.high, f.fits, c.place.ensures.place)

pub invariant_of-self : goal.invariant_of-self
invariant_of-self c =
    let e = c.set.ensures.words ∙ ap (λ (k : ℕ). set c.self.inside.zone k c.args.v.0) c.place.ensures.place in
    (set_slot_done c.self.invariant c.self.view_is c.args.f c.args.i c.args.v.0 c.requires.frame c.requires.index c.requires.value e).0

pub returns : goal.returns
returns c =
    let e = c.set.ensures.words ∙ ap (λ (k : ℕ). set c.self.inside.zone k c.args.v.0) c.place.ensures.place in
    record { slot = (set_slot_done c.self.invariant c.self.view_is c.args.f c.args.i c.args.v.0 c.requires.frame c.requires.index c.requires.value e).1 }
