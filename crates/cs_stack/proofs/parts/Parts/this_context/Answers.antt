use Rattle.cs_stack.proofs.Fields.{ok_map, some_if}
use Rattle.cs_stack.proofs.Spouses.{ready_active, top_act}
use Rattle.cs_stack.proofs.parts.Parts.this_context.Goals as goal

pub top-top-requires-clause-ready : goal.top-top-requires-clause-ready
top-top-requires-clause-ready c = ready_active c.args.self.now c.requires.good c.requires.active

pub returns-clause-value : goal.returns-clause-value
returns-clause-value c =
    let w = c.args.self.now in
    ok_map _ _ c.context_of.result
    (λ o n. some_if _ _ _ (top_act w c.requires.good c.requires.active c.top-top.result c.top-top.ensures.is) n) c.context_of.ensures.value
