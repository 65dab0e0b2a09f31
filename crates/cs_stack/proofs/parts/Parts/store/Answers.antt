use Rattle.std.proofs.Common.{arith}
use Rattle.cs_stack.proofs.Stores.{store_fits, stored_by}
use Rattle.cs_stack.proofs.parts.Parts.store.Goals as goal

pub set_slot-requires : goal.set_slot-requires
set_slot-requires c = store_fits c.args.self.now c.requires.good c.args.o c.args.v.0 c.args.i c.requires.object c.requires.there

pub returns-clause-good : goal.returns-clause-good
returns-clause-good c = (stored_by c.args.self.now c.requires.good c.args.o c.args.v c.args.i _ c.requires.object c.requires.named c.requires.there c.set_slot.ensures).good

pub returns-clause-view : goal.returns-clause-view
returns-clause-view c = (stored_by c.args.self.now c.requires.good c.args.o c.args.v c.args.i _ c.requires.object c.requires.named c.requires.there c.set_slot.ensures).view

pub returns-clause-names : goal.returns-clause-names
returns-clause-names c = (stored_by c.args.self.now c.requires.good c.args.o c.args.v c.args.i _ c.requires.object c.requires.named c.requires.there c.set_slot.ensures).names

pub returns-clause-contexts : goal.returns-clause-contexts
returns-clause-contexts c = omega (arith, (stored_by c.args.self.now c.requires.good c.args.o c.args.v c.args.i _ c.requires.object c.requires.named c.requires.there c.set_slot.ensures).contexts)
