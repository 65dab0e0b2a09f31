use Rattle.std.proofs.Common.{ap, refl, sym, ◌∙◌}
use Rattle.std.specs.Prelude.{not}
use Rattle.cs_plain.specs.View.{plain_active, oop_birth}
use Rattle.cs_plain.proofs.Acts.{context_asked, none_asked}
use Rattle.cs_plain.proofs.Words.{is_plain}
use Rattle.cs_plain.proofs.PlainWorldWorld.active.Goals as goal

pub returns-then-is_context : goal.returns-then-is_context
returns-then-is_context c =
    let objects = c.args.self.now.heap.objects in
    record {
      active = ap (plain_active objects) (sym c.in-Some.is);
      gone = sym (ap not (sym (context_asked objects c.in-Some.context) ∙ sym c.is_context.ensures ∙ c.if-is_context.true));
      laid = is_plain c.args.self.now c.requires.holds.whole;
    }

pub returns-else-is_context : goal.returns-else-is_context
returns-else-is_context c =
    let objects = c.args.self.now.heap.objects in
    let none = none_asked (oop_birth objects c.in-Some.context) (sym (context_asked objects c.in-Some.context) ∙ sym c.is_context.ensures ∙ c.if-is_context.false) in
    record {
      active = none ∙ ap (plain_active objects) (sym c.in-Some.is);
      gone = refl;
      laid = is_plain c.args.self.now c.requires.holds.whole;
    }

pub returns-in-None-clause-laid : goal.returns-in-None-clause-laid
returns-in-None-clause-laid c = is_plain c.args.self.now c.requires.holds.whole
