use Rattle.std.proofs.Common.{◌≡◌, ℕ, ◌-◌, ◌+◌, ◌<◌, IfSome, IsSome, ap, arith, subst, sym, ◌∙◌, slice_get, unwrap_or}
use Rattle.cs_word.specs.Word.{natural_of_word}
use Rattle.cs_model.specs.Obj.{context_in}
use Rattle.cs_model.specs.Operation.{nil_of}
use Rattle.cs_model.specs.State.{object_at}
use Rattle.cs_acts.specs.Layout.{depth_if}
use Rattle.cs_acts.specs.Names.{Names}
use Rattle.cs_acts.specs.Targets.{pc_in, stack_in}
use Rattle.cs_plain.specs.View.{plain_act, plain_stored, plain_view}
use Rattle.cs_plain.specs.View.{oop_birth}
use Rattle.cs_plain.specs.declared.PlainWorld.{PlainWorld}
use Rattle.cs_heap.specs.Object.{Object}
use Rattle.cs_word.specs.declared.Oop.{Oop}
use Rattle.cs_plain.proofs.Acts.{at_birth, context_at, few_words, of_birth, stack_read, stack_within}
use Rattle.cs_plain.proofs.PlainWorldWorld.act_stack.Goals as goal

pub overflow_add-i : goal.overflow_add-i
overflow_add-i c = let a = context_at c.args.self.now c.in-Context.context c.requires.sound (subst (λ a. IsSome (plain_act c.args.self.now a)) c.in-Context.is c.requires.stands) in omega (arith, stack_within c.requires.sound a.1 c.args.i (at_birth c.requires.sound a.1 (λ birth. c.args.i < depth_if (context_in (object_at (plain_view c.args.self.now) birth))) (subst (λ b. IfSome (plain_act c.args.self.now b) (λ birth. c.args.i < depth_if (context_in (object_at (plain_view c.args.self.now) birth)))) c.in-Context.is c.requires.there)), few_words c.requires.sound a.1)

pub slot-requires : goal.slot-requires
slot-requires c = let a = context_at c.args.self.now c.in-Context.context c.requires.sound (subst (λ a. IsSome (plain_act c.args.self.now a)) c.in-Context.is c.requires.stands) in omega (arith, stack_within c.requires.sound a.1 c.args.i (at_birth c.requires.sound a.1 (λ birth. c.args.i < depth_if (context_in (object_at (plain_view c.args.self.now) birth))) (subst (λ b. IfSome (plain_act c.args.self.now b) (λ birth. c.args.i < depth_if (context_in (object_at (plain_view c.args.self.now) birth)))) c.in-Context.is c.requires.there)), a.1.count)

pub returns : goal.returns
returns c =
    let a = context_at c.args.self.now c.in-Context.context c.requires.sound (subst (λ a. IsSome (plain_act c.args.self.now a)) c.in-Context.is c.requires.stands) in
    let P : ℕ → Type 0 = λ birth. Names (plain_stored c.args.self.now) c.slot.result (unwrap_or (slice_get (stack_in (context_in (object_at (plain_view c.args.self.now) birth))) c.args.i) (nil_of (plain_view c.args.self.now))) in
    subst (λ a. IfSome (plain_act c.args.self.now a) P) (sym c.in-Context.is)
    (of_birth c.requires.sound a.1 P (stack_read c.requires.sound a.1 c.slot.result c.args.i _ (at_birth c.requires.sound a.1 (λ birth. c.args.i < depth_if (context_in (object_at (plain_view c.args.self.now) birth))) (subst (λ b. IfSome (plain_act c.args.self.now b) (λ birth. c.args.i < depth_if (context_in (object_at (plain_view c.args.self.now) birth)))) c.in-Context.is c.requires.there)) c.slot.ensures))
