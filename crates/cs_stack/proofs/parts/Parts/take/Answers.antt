use Rattle.cs_stack.specs.View.{view_of}
use Rattle.cs_stack.proofs.Taking.{can_take, process_stores, taken_good, taken_view}
use Rattle.cs_stack.proofs.parts.Parts.take.Goals as goal

pub store-requires-clause-there : goal.store-requires-clause-there
store-requires-clause-there c = process_stores (view_of c.args.self.now) _ _ c.requires.kept.is

pub rebase-requires-clause-context : goal.rebase-requires-clause-context
rebase-requires-clause-context c =
    can_take c.args.self.now c.store.new.self c.requires.closed c.args.process c.args.nil c.args.context c.requires.nil c.requires.kept c.requires.running
    c.store.ensures.good c.store.ensures.view c.store.ensures.names c.store.ensures.rest

pub returns-clause-good : goal.returns-clause-good
returns-clause-good c =
    taken_good c.args.self.now c.store.new.self c.requires.closed c.args.process c.args.nil c.args.context c.requires.nil c.requires.kept c.requires.running
    c.store.ensures.good c.store.ensures.view c.store.ensures.names c.store.ensures.rest c.rebase.new.self c.rebase.ensures.made

pub returns-clause-view : goal.returns-clause-view
returns-clause-view c =
    taken_view c.args.self.now c.store.new.self c.requires.closed c.args.process c.args.nil c.args.context c.requires.nil c.requires.kept c.requires.running
    c.store.ensures.good c.store.ensures.view c.store.ensures.names c.store.ensures.rest c.rebase.new.self c.rebase.ensures.made
