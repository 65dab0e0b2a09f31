use Rattle.std.proofs.Common.{◌≡◌, ◌-◌, IfSome, IsSome, ap, arith, subst, sym, ◌∙◌, unwrap_or}
use Rattle.std.specs.Prelude.{nat_le, not}
use Rattle.cs_word.specs.Word.{natural_of_word}
use Rattle.cs_model.specs.Obj.{context_in}
use Rattle.cs_model.specs.Return.{has_room}
use Rattle.cs_model.specs.State.{object_at}
use Rattle.cs_plain.specs.View.{plain_act, plain_view}
use Rattle.cs_plain.proofs.Acts.{context_at, field_within, full_read, of_birth}
use Rattle.cs_plain.proofs.PlainWorldWorld.act_full.Goals as goal

pub slot-requires : goal.slot-requires
slot-requires c = field_within c.args.self.now c.in-Context.context 2 c.requires.sound (subst (λ a. IsSome (plain_act c.args.self.now a)) c.in-Context.is c.requires.stands) (omega arith)

pub overflow_sub-result : goal.overflow_sub-result
overflow_sub-result c =
    omega (
      arith,
      c.slot_count.ensures.value,
      field_within c.args.self.now c.in-Context.context 5 c.requires.sound (subst (λ a. IsSome (plain_act c.args.self.now a)) c.in-Context.is c.requires.stands) (omega arith),
    )

pub returns : goal.returns
returns c =
    let a = context_at c.args.self.now c.in-Context.context c.requires.sound (subst (λ a. IsSome (plain_act c.args.self.now a)) c.in-Context.is c.requires.stands) in
    subst (λ a. IfSome (plain_act c.args.self.now a) (λ birth. not (nat_le (c.slot_count.result - 6) c.unwrap_or-depth.result) ≡ has_room (context_in (object_at (plain_view c.args.self.now) birth)))) (sym c.in-Context.is)
    (of_birth c.requires.sound a.1 (λ birth. not (nat_le (c.slot_count.result - 6) c.unwrap_or-depth.result) ≡ has_room (context_in (object_at (plain_view c.args.self.now) birth)))
    (full_read c.requires.sound a.1 c.unwrap_or-depth.result c.slot_count.result ((c.unwrap_or-depth.ensures ∙ ap (λ o. unwrap_or o 0) (c.natural.ensures.value)) ∙ ap (λ n. unwrap_or (natural_of_word n) 0) c.slot.ensures) c.slot_count.ensures.value))
