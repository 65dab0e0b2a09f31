use Rattle.cs_stack.proofs.Tops.{opened}
use Rattle.cs_stack.proofs.Leaving.{target}
use Rattle.cs_stack.proofs.Freeing.{drops}
use Rattle.cs_stack.proofs.parts.Parts.unwind.Goals as goal

pub returns-in-Some-clause-unwound : goal.returns-in-Some-clause-unwound
returns-in-Some-clause-unwound c =
    let o = opened c.args.self.now c.requires.good c.requires.ready in
    let g = target c.args.self.now c.requires.ready c.requires.target in
    drops o c.top-top.result c.top-top.ensures.is c.requires.good c.requires.ready g c.drop_top.new.self (λ b. let no = c.in-Some.ensures.none.1 b in absurd (cc)) c.drop_top.ensures.rest
