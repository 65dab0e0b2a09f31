use Rattle.std.proofs.Common.{ap, is_some, not, sym, ◌∙◌}
use Rattle.cs_stack.proofs.Spouses.{context_known, names_none, names_some}
use Rattle.cs_stack.proofs.parts.Parts.act_at.Goals as goal

pub returns-then-not-is_context-clause-value : goal.returns-then-not-is_context-clause-value
returns-then-not-is_context-clause-value c = names_none c.args.self.now c.requires.good c.args.word c.requires.named (sym c.is_context.ensures ∙ c.if-not-is_context.true)

pub act_of-requires-clause-context : goal.act_of-requires-clause-context
act_of-requires-clause-context c = context_known c.args.self.now c.requires.good c.args.word c.requires.named ∙ sym c.is_context.ensures ∙ c.if-not-is_context.false

pub returns-clause-gone : goal.returns-clause-gone
returns-clause-gone c =
    let some = names_some c.args.self.now c.requires.good c.args.word c.requires.named (sym c.is_context.ensures ∙ c.if-not-is_context.false) in
    c.act_of.ensures.gone ∙ ap not (sym (ap is_some c.act_of.ensures.value ∙ some))
