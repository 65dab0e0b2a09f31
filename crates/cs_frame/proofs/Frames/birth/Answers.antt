use Rattle.std.proofs.Common.{ℕ, get_or, sym, ◌∙◌, ap, arith}
use Rattle.cs_frame.specs.Frame.{Frame}
use Rattle.cs_frame.specs.Layout.{joined}
use Rattle.cs_frame.proofs.Pages.{found}
use Rattle.cs_frame.proofs.Frames.birth.Goals as goal

pub place-requires-clause-page : goal.place-requires-clause-page
place-requires-clause-page c =
    let f = found c.self.invariant c.self.view_is c.args.f c.requires.frame in
    omega (arith, f.few)

pub place-requires-clause-word : goal.place-requires-clause-word
place-requires-clause-word c =
    let f = found c.self.invariant c.self.view_is c.args.f c.requires.frame in
    omega (arith, f.overhead, f.high)

pub get-low-requires : goal.get-low-requires
get-low-requires c =
    let f = found c.self.invariant c.self.view_is c.args.f c.requires.frame in
    omega (arith, f.overhead, f.high, f.fits, c.place.ensures.place)

pub place-requires-2-clause-page : goal.place-requires-2-clause-page
place-requires-2-clause-page c =
    let f = found c.self.invariant c.self.view_is c.args.f c.requires.frame in
    omega (arith, f.few)

pub place-requires-2-clause-word : goal.place-requires-2-clause-word
place-requires-2-clause-word c =
    let f = found c.self.invariant c.self.view_is c.args.f c.requires.frame in
    omega (arith, f.overhead, f.high)

pub get-high-requires : goal.get-high-requires
get-high-requires c =
    let f = found c.self.invariant c.self.view_is c.args.f c.requires.frame in
    omega (arith, f.overhead, f.high, f.fits, c.place-2.ensures.place)

pub returns : goal.returns
returns c =
    let f = found c.self.invariant c.self.view_is c.args.f c.requires.frame in
    let low = c.get-low.ensures.word ∙ ap (λ (k : ℕ). get_or c.self.inside.zone k 0) c.place.ensures.place in
    let high = c.get-high.ensures.word ∙ ap (λ (k : ℕ). get_or c.self.inside.zone k 0) c.place-2.ensures.place in
    record { birth = (ap (λ (x : ℕ). joined x c.get-high.result) low ∙ (ap (joined _) high ∙ ap (λ (g : Frame). g.birth) (sym f.is))) }
