use Rattle.std.proofs.Common.{arith}
use Rattle.std.proofs.lemmas.Bool.Decides.{nat_tests}
use Rattle.cs_acts.specs.Names.{name_of}
use Rattle.cs_prim_ctx.proofs.Fields.{field_below, value_below}
use Rattle.cs_prim_ctx.proofs.has_field.Goals as goal

pub returns-then-i-lt-FIRST_STACK-clause-value : goal.returns-then-i-lt-FIRST_STACK-clause-value
returns-then-i-lt-FIRST_STACK-clause-value g c = field_below _ _ c.args.i c.requires.context (grind (arith, nat_tests, c.if-i-lt-FIRST_STACK.true))

pub returns-else-i-lt-FIRST_STACK-clause-value : goal.returns-else-i-lt-FIRST_STACK-clause-value
returns-else-i-lt-FIRST_STACK-clause-value g c =
    value_below (g.W.World.view c.args.w.now) (name_of (g.W.World.stored c.args.w.now) c.args.ctx) c.args.i c.stack_depth.result c.stack_depth.ensures.value (grind (arith, nat_tests, c.if-i-lt-FIRST_STACK.false))
