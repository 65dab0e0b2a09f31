use Rattle.std.proofs.Common.{arith}
use Rattle.cs_stack.proofs.Hashes.{fixed, fixed_object, fixed_some, fixed_view}
use Rattle.cs_stack.proofs.parts.Parts.set_fixed.Goals as goal

pub set_fixed-requires : goal.set_fixed-requires
set_fixed-requires c = fixed_object c.args.self.now c.requires.good c.args.o c.requires.named (fixed_some _ c.requires.object)

pub returns-clause-good : goal.returns-clause-good
returns-clause-good c = (fixed c.args.self.now c.requires.good c.args.o c.args.on _ c.requires.named c.requires.object c.set_fixed.ensures).good

pub returns-clause-view : goal.returns-clause-view
returns-clause-view c =
    fixed_view c.args.self.now _ c.args.o c.args.on (fixed c.args.self.now c.requires.good c.args.o c.args.on _ c.requires.named c.requires.object c.set_fixed.ensures)

pub returns-clause-names : goal.returns-clause-names
returns-clause-names c = (fixed c.args.self.now c.requires.good c.args.o c.args.on _ c.requires.named c.requires.object c.set_fixed.ensures).names

pub returns-clause-contexts : goal.returns-clause-contexts
returns-clause-contexts c = omega (arith, (fixed c.args.self.now c.requires.good c.args.o c.args.on _ c.requires.named c.requires.object c.set_fixed.ensures).contexts)
