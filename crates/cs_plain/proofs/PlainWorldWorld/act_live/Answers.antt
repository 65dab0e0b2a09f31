use Rattle.std.proofs.Common.{◌≡◌, IfSome, IsSome, ap, arith, is_some, subst, sym, ◌∙◌}
use Rattle.cs_word.specs.Word.{natural_of_word}
use Rattle.cs_model.specs.Return.{is_live}
use Rattle.cs_plain.specs.View.{plain_act, plain_view}
use Rattle.cs_plain.proofs.Acts.{context_at, field_within, of_birth, live_read}
use Rattle.cs_plain.proofs.PlainWorldWorld.act_live.Goals as goal

pub slot-requires : goal.slot-requires
slot-requires c = field_within c.args.self.now c.in-Context.context 1 c.requires.sound (subst (λ a. IsSome (plain_act c.args.self.now a)) c.in-Context.is c.requires.stands) (omega arith)

pub returns : goal.returns
returns c =
    let a = context_at c.args.self.now c.in-Context.context c.requires.sound (subst (λ a. IsSome (plain_act c.args.self.now a)) c.in-Context.is c.requires.stands) in
    subst (λ a. IfSome (plain_act c.args.self.now a) (λ birth. c.is_some.result ≡ is_live (plain_view c.args.self.now) birth)) (sym c.in-Context.is)
    (of_birth c.requires.sound a.1 (λ birth. c.is_some.result ≡ is_live (plain_view c.args.self.now) birth) ((c.is_some.ensures ∙ ap is_some (c.natural.ensures.value)) ∙ ap (λ n. is_some (natural_of_word n)) c.slot.ensures ∙ live_read c.requires.sound a.1))
