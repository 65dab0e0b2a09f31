use Rattle.std.proofs.Common.{IfSome, IsSome, subst, sym}
use Rattle.cs_model.specs.Ref as ref
use Rattle.cs_acts.specs.Names.{Names}
use Rattle.cs_plain.specs.View.{plain_act, plain_stored}
use Rattle.cs_plain.proofs.Asking.{names_act}
use Rattle.cs_plain.proofs.PlainWorldWorld.act_context.Goals as goal

pub returns-clause-value : goal.returns-clause-value
returns-clause-value c =
    let w = c.args.self.now in
    subst (λ a. IfSome (plain_act w a) (λ birth. Names (plain_stored w) c.in-Context.context (ref.Obj birth))) (sym c.in-Context.is)
    (names_act w c.in-Context.context c.requires.sound (subst (λ a. IsSome (plain_act w a)) c.in-Context.is c.requires.stands))
