use Rattle.std.proofs.Common.{◌≡◌, ℕ, IfSome, IsSome, None, Option, ap, arith, refl, subst, sym, ◌∙◌}
use Rattle.std.specs.Prelude.{not}
use Rattle.cs_model.specs.Return.{sender_birth}
use Rattle.cs_plain.specs.View.{plain_act, oop_birth, plain_view}
use Rattle.cs_plain.proofs.Acts.{context_asked, context_at, field_within, none_asked, of_birth, sender_read}
use Rattle.cs_plain.proofs.PlainWorldWorld.sender_act.Goals as goal

pub slot-sender-requires : goal.slot-sender-requires
slot-sender-requires c = field_within c.args.self.now c.in-Context.context 0 c.requires.sound (subst (λ a. IsSome (plain_act c.args.self.now a)) c.in-Context.is c.requires.stands) (omega arith)

pub returns-then-is_context : goal.returns-then-is_context
returns-then-is_context c =
    let a = context_at c.args.self.now c.in-Context.context c.requires.sound (subst (λ a. IsSome (plain_act c.args.self.now a)) c.in-Context.is c.requires.stands) in
    record {
      value = subst (λ a. IfSome (plain_act c.args.self.now a) (λ birth. oop_birth c.args.self.now.heap.objects c.slot-sender.result ≡ sender_birth (plain_view c.args.self.now) birth)) (sym c.in-Context.is)
          (of_birth c.requires.sound a.1 (λ birth. oop_birth c.args.self.now.heap.objects c.slot-sender.result ≡ sender_birth (plain_view c.args.self.now) birth)
          (sender_read c.requires.sound a.1 c.slot-sender.result c.slot-sender.ensures));
      gone = sym (ap not (sym (context_asked c.args.self.now.heap.objects c.slot-sender.result) ∙ sym c.is_context.ensures ∙ c.if-is_context.true));
    }

pub returns-else-is_context : goal.returns-else-is_context
returns-else-is_context c =
    let a = context_at c.args.self.now c.in-Context.context c.requires.sound (subst (λ a. IsSome (plain_act c.args.self.now a)) c.in-Context.is c.requires.stands) in
    let none = none_asked (oop_birth c.args.self.now.heap.objects c.slot-sender.result) (sym (context_asked c.args.self.now.heap.objects c.slot-sender.result) ∙ sym c.is_context.ensures ∙ c.if-is_context.false) in
    record {
      value = subst (λ a. IfSome (plain_act c.args.self.now a) (λ birth. ◌≡◌ {A = Option ℕ} None (sender_birth (plain_view c.args.self.now) birth))) (sym c.in-Context.is)
          (of_birth c.requires.sound a.1 (λ birth. ◌≡◌ {A = Option ℕ} None (sender_birth (plain_view c.args.self.now) birth))
          (none ∙ sender_read c.requires.sound a.1 c.slot-sender.result c.slot-sender.ensures));
      gone = refl;
    }
