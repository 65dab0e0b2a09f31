use Rattle.std.proofs.Common.{IfSome, IsSome, arith, subst, sym}
use Rattle.cs_model.specs.Return.{closure_at}
use Rattle.cs_acts.specs.Names.{Names}
use Rattle.cs_plain.specs.View.{plain_act, plain_stored, plain_view}
use Rattle.cs_plain.proofs.Acts.{context_at, field_within, of_birth, closure_read}
use Rattle.cs_plain.proofs.PlainWorldWorld.act_closure.Goals as goal

pub slot-requires : goal.slot-requires
slot-requires c = field_within c.args.self.now c.in-Context.context 4 c.requires.sound (subst (λ a. IsSome (plain_act c.args.self.now a)) c.in-Context.is c.requires.stands) (omega arith)

pub returns : goal.returns
returns c =
    let a = context_at c.args.self.now c.in-Context.context c.requires.sound (subst (λ a. IsSome (plain_act c.args.self.now a)) c.in-Context.is c.requires.stands) in
    subst (λ a. IfSome (plain_act c.args.self.now a) (λ birth. Names (plain_stored c.args.self.now) c.slot.result (closure_at (plain_view c.args.self.now) birth))) (sym c.in-Context.is)
    (of_birth c.requires.sound a.1 (λ birth. Names (plain_stored c.args.self.now) c.slot.result (closure_at (plain_view c.args.self.now) birth)) (closure_read c.requires.sound a.1 c.slot.result c.slot.ensures))
