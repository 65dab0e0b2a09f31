use Rattle.std.proofs.Common.{◌≡◌, subst}
use Rattle.std.specs.Prelude.{OnOk, Result, Ok, Err}
use Rattle.cs_model.specs.Enter.{enter_block_of}
use Rattle.cs_acts.specs.Names.{name_of}
use Rattle.cs_stack.specs.declared.parts.Parts.{Parts}
use Rattle.cs_stack.specs.View.{stored_of, view_of}
use Rattle.cs_stack.proofs.Overflowing.{block_keeps, block_ready}
use Rattle.cs_stack.proofs.StackWorldWorld.enter_block.Goals as goal

along : {T E A B : Type 0} (r : Result T E) → (A → B) → OnOk r A → OnOk r B
along (Ok x) f a = f a
along (Err e) f a = tt

pub returns-clause-state : goal.returns-clause-state
returns-clause-state c = along c.enter_block.result
    (λ view. block_keeps c.args.self.now c.enter_block.new.self c.args.closure c.args.args c.requires.ready c.requires.named
    (subst (λ (w : Parts). view_of c.enter_block.new.self ≡ enter_block_of (view_of w) (name_of (stored_of w) c.args.closure) c.args.args) c.self.view_is view)) c.enter_block.ensures.view

pub returns-clause-ready : goal.returns-clause-ready
returns-clause-ready c = along c.enter_block.result
    (λ view. block_ready c.args.self.now c.enter_block.new.self c.args.closure c.args.args c.enter_block.ensures.good
    (subst (λ (w : Parts). view_of c.enter_block.new.self ≡ enter_block_of (view_of w) (name_of (stored_of w) c.args.closure) c.args.args) c.self.view_is view)) c.enter_block.ensures.view
