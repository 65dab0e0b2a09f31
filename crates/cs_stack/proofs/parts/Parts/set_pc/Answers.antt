use Rattle.cs_stack.proofs.Tops.{opened}
use Rattle.cs_stack.proofs.Edits.{pc_edited, pc_fits, top_is_frame}
use Rattle.std.proofs.Common.{arith}
use Rattle.cs_model.specs.Operation.{set_pc_of}
use Rattle.cs_stack.proofs.parts.Parts.set_pc.Goals as goal

pub from_natural-requires : goal.from_natural-requires
from_natural-requires c = omega (arith, pc_fits c.requires.good (opened _ c.requires.good c.requires.ready) c.args.pc c.requires.lies)

pub set_saved_pc-requires-clause-frame : goal.set_saved_pc-requires-clause-frame
set_saved_pc-requires-clause-frame c = top_is_frame c.requires.good (opened _ c.requires.good c.requires.ready) _ c.top-top.ensures.is

pub returns-clause-good : goal.returns-clause-good
returns-clause-good c = (pc_edited c.requires.good (opened _ c.requires.good c.requires.ready) c.args.pc _ _ _ c.requires.lies c.from_natural.ensures c.top-top.ensures.is c.set_saved_pc.ensures.saved_pc).good

pub returns-clause-view : goal.returns-clause-view
unfolding set_pc_of
returns-clause-view c = (pc_edited c.requires.good (opened _ c.requires.good c.requires.ready) c.args.pc _ _ _ c.requires.lies c.from_natural.ensures c.top-top.ensures.is c.set_saved_pc.ensures.saved_pc).view

pub returns-clause-layout : goal.returns-clause-layout
returns-clause-layout c = (pc_edited c.requires.good (opened _ c.requires.good c.requires.ready) c.args.pc _ _ _ c.requires.lies c.from_natural.ensures c.top-top.ensures.is c.set_saved_pc.ensures.saved_pc).layout
