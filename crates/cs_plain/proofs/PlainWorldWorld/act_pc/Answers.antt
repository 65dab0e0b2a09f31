use Rattle.std.proofs.Common.{◌≡◌, ◌-◌, ◌+◌, ◌<◌, IfSome, IsSome, ap, arith, subst, sym, ◌∙◌, slice_get, unwrap_or}
use Rattle.cs_word.specs.Word.{natural_of_word}
use Rattle.cs_model.specs.Obj.{context_in}
use Rattle.cs_model.specs.Operation.{nil_of}
use Rattle.cs_model.specs.State.{object_at}
use Rattle.cs_acts.specs.Layout.{depth_if}
use Rattle.cs_acts.specs.Names.{Names}
use Rattle.cs_acts.specs.Targets.{pc_in, stack_in}
use Rattle.cs_plain.specs.View.{plain_act, plain_stored, plain_view}
use Rattle.cs_plain.proofs.Acts.{context_at, field_within, of_birth, pc_read}
use Rattle.cs_plain.proofs.PlainWorldWorld.act_pc.Goals as goal

pub slot-requires : goal.slot-requires
slot-requires c = field_within c.args.self.now c.in-Context.context 1 c.requires.sound (subst (λ a. IsSome (plain_act c.args.self.now a)) c.in-Context.is c.requires.stands) (omega arith)

pub returns : goal.returns
returns c =
    let a = context_at c.args.self.now c.in-Context.context c.requires.sound (subst (λ a. IsSome (plain_act c.args.self.now a)) c.in-Context.is c.requires.stands) in
    subst (λ a. IfSome (plain_act c.args.self.now a) (λ birth. c.natural.result ≡ pc_in (context_in (object_at (plain_view c.args.self.now) birth)))) (sym c.in-Context.is)
    (of_birth c.requires.sound a.1 (λ birth. c.natural.result ≡ pc_in (context_in (object_at (plain_view c.args.self.now) birth))) (c.natural.ensures.value ∙ ap natural_of_word c.slot.ensures ∙ pc_read c.requires.sound a.1))
