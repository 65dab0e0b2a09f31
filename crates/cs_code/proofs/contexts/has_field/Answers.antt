use Rattle.std.proofs.Common.{◌≡◌, ◌∙◌, sym, true, false, nat_lt, arith}
use Rattle.std.proofs.lemmas.Bool.Decides.{nat_tests}
use Rattle.cs_acts.specs.Names.{name_of}
use Rattle.cs_code.proofs.Looking.{high-field, low-field}
use Rattle.cs_code.proofs.contexts.has_field.Goals as goal

pub returns-then-i-lt-FIRST_STACK-clause-value : goal.returns-then-i-lt-FIRST_STACK-clause-value
returns-then-i-lt-FIRST_STACK-clause-value g c =
    let below : nat_lt c.args.i 6 ≡ true = grind (arith, nat_tests) in
    below ∙ sym (low-field (g.W.World.view c.args.w.now) (name_of (g.W.World.stored c.args.w.now) c.args.context) c.args.i c.requires.context below)

pub returns-else-i-lt-FIRST_STACK-clause-value : goal.returns-else-i-lt-FIRST_STACK-clause-value
returns-else-i-lt-FIRST_STACK-clause-value g c =
    let above : nat_lt c.args.i 6 ≡ false = grind (arith, nat_tests) in
    high-field (g.W.World.view c.args.w.now) (name_of (g.W.World.stored c.args.w.now) c.args.context) c.args.i c.stack_depth.result c.requires.context c.stack_depth.ensures.value above
