use Rattle.cs_stack.proofs.Tops.{opened}
use Rattle.cs_stack.proofs.Edits.{push_edited, push_room}
use Rattle.cs_stack.proofs.Changes.{reference_value}
use Rattle.cs_model.specs.Operation.{push_of}
use Rattle.cs_stack.proofs.parts.Parts.push.Goals as goal

pub push-requires-clause-room : goal.push-requires-clause-room
push-requires-clause-room c = push_room c.requires.good (opened _ c.requires.good c.requires.ready) _ c.top-top.ensures.is c.requires.fits

pub push-requires-clause-value : goal.push-requires-clause-value
push-requires-clause-value c = reference_value c.args.self.now.heap.objects c.args.v.0 c.requires.named

pub returns-clause-good : goal.returns-clause-good
returns-clause-good c = (push_edited c.requires.good (opened _ c.requires.good c.requires.ready) c.args.v _ _ c.requires.named c.requires.fits c.top-top.ensures.is c.push.ensures.pushed).good

pub returns-clause-view : goal.returns-clause-view
unfolding push_of
returns-clause-view c = (push_edited c.requires.good (opened _ c.requires.good c.requires.ready) c.args.v _ _ c.requires.named c.requires.fits c.top-top.ensures.is c.push.ensures.pushed).view

pub returns-clause-layout : goal.returns-clause-layout
returns-clause-layout c = (push_edited c.requires.good (opened _ c.requires.good c.requires.ready) c.args.v _ _ c.requires.named c.requires.fits c.top-top.ensures.is c.push.ensures.pushed).layout
