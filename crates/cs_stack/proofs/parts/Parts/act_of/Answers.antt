use Rattle.std.proofs.Common.{ap, refl, sym, ◌∙◌, inl, inr}
use Rattle.cs_frame.specs.declared.FrameRef.{FrameRef}
use Rattle.cs_marriage.specs.Agree.{HasContext}
use Rattle.cs_stack.specs.View.{act_of}
use Rattle.cs_stack.proofs.Spouses.{context_known, context_stands, names_free, names_married, no_body}
use Rattle.cs_stack.proofs.parts.Parts.act_of.Goals as goal

pub spouse-requires-clause-context : goal.spouse-requires-clause-context
spouse-requires-clause-context c = context_stands c.args.self.now c.requires.good c.args.context c.requires.named (sym (context_known c.args.self.now c.requires.good c.args.context c.requires.named) ∙ c.requires.context)

pub returns-in-Married-clause-value : goal.returns-in-Married-clause-value
returns-in-Married-clause-value c =
    let w = c.args.self.now in
    let is = sym (context_known w c.requires.good c.args.context c.requires.named) ∙ c.requires.context in
    ap (act_of w) c.act.ensures ∙ names_married w c.requires.good c.args.context c.requires.named c.in-Married.f is ((c.spouse.ensures.exact.married c.in-Married.f).0 c.in-Married.is)

pub returns-in-Single : goal.returns-in-Single
returns-in-Single c =
    let w = c.args.self.now in
    let is = sym (context_known w c.requires.good c.args.context c.requires.named) ∙ c.requires.context in
    let none : (r : FrameRef) → HasContext w.frames c.args.context.0 r → ⊥ = λ r h.
    let other = (c.spouse.ensures.exact.married r).1 h in
    elim c.in-Single.is [ inl e ↦ absurd (cc) | inr e ↦ absurd (cc) ] in
    record {
      value = names_free w c.requires.good c.args.context c.requires.named is (no_body w c.requires.good c.args.context c.requires.named none);
      gone = refl;
    }
