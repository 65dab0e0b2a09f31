use Rattle.std.proofs.Common.{◌≡◌, ℕ, ◌+◌, ◌*◌, ◌-◌, ◌/◌, get_or, sym, refl, ◌∙◌, ap, arith}
use Rattle.cs_frame.proofs.Pages.{found}
use Rattle.cs_frame.proofs.Calls.{base_zero, zero_base, caller_place}
use Rattle.cs_frame.proofs.Frames.caller.Goals as goal

pub place-requires-clause-page : goal.place-requires-clause-page
place-requires-clause-page c =
    let f = found c.self.invariant c.self.view_is c.args.f c.requires.frame in
    omega (arith, f.few)

pub place-requires-clause-word : goal.place-requires-clause-word
place-requires-clause-word c =
    let f = found c.self.invariant c.self.view_is c.args.f c.requires.frame in
    omega (arith, f.overhead, f.high)

pub get-link-requires : goal.get-link-requires
get-link-requires c =
    let f = found c.self.invariant c.self.view_is c.args.f c.requires.frame in
    omega (arith, f.overhead, f.high, f.fits, c.place.ensures.place)

pub overflow_sub-result : goal.overflow_sub-result
overflow_sub-result c =
    let f = found c.self.invariant c.self.view_is c.args.f c.requires.frame in
    let q = caller_place f c.if-f-eq0.false in
    let first : c.args.f.page * 4096 + c.args.f.at + 0 ≡ c.args.f.page * 4096 + c.args.f.at = omega arith in
    let link = c.get-link.ensures.word ∙ ap (λ (k : ℕ). get_or c.self.inside.zone k 0) (c.place.ensures.place ∙ first) in
    omega (arith, q.0)

pub returns-then-f-eq0-clause-none : goal.returns-then-f-eq0-clause-none
returns-then-f-eq0-clause-none c =
    let f = found c.self.invariant c.self.view_is c.args.f c.requires.frame in
    ((λ z. zero_base f c.if-f-eq0.true), (λ z. refl))

pub returns-else-f-eq0-clause-none : goal.returns-else-f-eq0-clause-none
returns-else-f-eq0-clause-none c =
    let f = found c.self.invariant c.self.view_is c.args.f c.requires.frame in
    ((λ z. cc), (λ z. absurd (c.if-f-eq0.false (base_zero f z))))

pub returns-else-f-eq0-clause-caller : goal.returns-else-f-eq0-clause-caller
returns-else-f-eq0-clause-caller c =
    let f = found c.self.invariant c.self.view_is c.args.f c.requires.frame in
    let q = caller_place f c.if-f-eq0.false in
    let first : c.args.f.page * 4096 + c.args.f.at + 0 ≡ c.args.f.page * 4096 + c.args.f.at = omega arith in
    let link = c.get-link.ensures.word ∙ ap (λ (k : ℕ). get_or c.self.inside.zone k 0) (c.place.ensures.place ∙ first) in
    let at = ap (λ (n : ℕ). n / 8 - c.args.f.page * 4096) link ∙ sym q.1 in
    ap (λ (n : ℕ). record { page = c.args.f.page; at = n }) at
