use Rattle.std.proofs.Common.{◌≡◌, rules, arith, ap, sym, ◌∙◌, to_z, of_z, w32}
use Rattle.std.proofs.lemmas.Int.{ints}
use Rattle.cs_build.specs.Meaning.{form_by, jump_by}
use Rattle.cs_build.specs.Tabled.{body_by, is_misfit}
use Rattle.cs_build.proofs.CodeLemmas.{misfit-jump, misfit-closure}
use Rattle.cs_build.proofs.judge.is_misfit.Goals as goal

pub returns-in-Some : goal.returns-in-Some
returns-in-Some c =
    misfit-jump (body_by c.args.above.now) c.args.place _ (jump_by c.in-JumpTo.jump) c.in-JumpTo.label.now _ _ c.in-Some.ensures c.jump_fits.ensures (omega (arith, ints))
    ∙ ap (λ f. is_misfit (body_by c.args.above.now) c.args.place (form_by f)) (sym c.in-JumpTo.is)

pub returns-in-Some-place_of : goal.returns-in-Some-place_of
returns-in-Some-place_of c =
    let copied : to_z w32 (of_z w32 c.in-ClosureTo.copied) ≡ c.in-ClosureTo.copied = search rules in
    let args : to_z w32 (of_z w32 c.in-ClosureTo.args) ≡ c.in-ClosureTo.args = search rules in
    misfit-closure (body_by c.args.above.now) c.args.place _ c.in-ClosureTo.copied c.in-ClosureTo.args _ _ c.in-ClosureTo.label.now _ _
    c.in-Some-place_of.ensures c.closure_fits.ensures copied args (omega (arith, ints))
    ∙ ap (λ f. is_misfit (body_by c.args.above.now) c.args.place (form_by f)) (sym c.in-ClosureTo.is)
