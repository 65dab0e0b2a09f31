use Rattle.std.proofs.Common.{ℕ, get_or, ◌∙◌, ap, arith}
use Rattle.cs_frame.proofs.Pages.{found}
use Rattle.cs_frame.proofs.Calls.{slot_is, depth_is}
use Rattle.cs_frame.proofs.Frames.slot.Goals as goal

pub overflow_add-i : goal.overflow_add-i
overflow_add-i c =
    let f = found c.self.invariant c.self.view_is c.args.f c.requires.frame in
    let d = depth_is f in
    let i = c.requires.index in
    record { fits = omega (arith, f.high, f.few) }

pub place-requires-clause-page : goal.place-requires-clause-page
place-requires-clause-page c =
    let f = found c.self.invariant c.self.view_is c.args.f c.requires.frame in
    omega (arith, f.few)

pub place-requires-clause-word : goal.place-requires-clause-word
place-requires-clause-word c =
    let f = found c.self.invariant c.self.view_is c.args.f c.requires.frame in
    let d = depth_is f in
    let i = c.requires.index in
    omega (arith, f.high)

pub get-requires : goal.get-requires
get-requires c =
    let f = found c.self.invariant c.self.view_is c.args.f c.requires.frame in
    let d = depth_is f in
    let i = c.requires.index in
    omega (arith, f.high, f.fits, c.place.ensures.place)

pub returns : goal.returns
returns c =
    let f = found c.self.invariant c.self.view_is c.args.f c.requires.frame in
    let e = c.get.ensures.word ∙ ap (λ (k : ℕ). get_or c.self.inside.zone k 0) c.place.ensures.place in
    record { value = (e ∙ slot_is f c.args.i 0 c.requires.index) }
