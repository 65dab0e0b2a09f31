use Rattle.std.proofs.Common.{◌≡◌, subst}
use Rattle.std.specs.Prelude.{OnOk, Result, Ok, Err}
use Rattle.cs_model.specs.Operation.{enter_of}
use Rattle.cs_acts.specs.Names.{name_of}
use Rattle.cs_stack.specs.declared.parts.Parts.{Parts}
use Rattle.cs_stack.specs.View.{stored_of, view_of}
use Rattle.cs_stack.proofs.Overflowing.{entered_keeps, entered_ready}
use Rattle.cs_stack.proofs.StackWorldWorld.enter.Goals as goal

along : {T E A B : Type 0} (r : Result T E) → (A → B) → OnOk r A → OnOk r B
along (Ok x) f a = f a
along (Err e) f a = tt

pub returns-clause-state : goal.returns-clause-state
returns-clause-state c = along c.enter.result
    (λ view. entered_keeps c.args.self.now c.enter.new.self c.args.method c.args.args c.args.skip c.requires.ready c.requires.named
    (subst (λ (w : Parts). view_of c.enter.new.self ≡ enter_of (view_of w) (name_of (stored_of w) c.args.method) c.args.args c.args.skip) c.self.view_is view)) c.enter.ensures.view

pub returns-clause-ready : goal.returns-clause-ready
returns-clause-ready c = along c.enter.result
    (λ view. entered_ready c.args.self.now c.enter.new.self c.args.method c.args.args c.args.skip c.enter.ensures.good
    (subst (λ (w : Parts). view_of c.enter.new.self ≡ enter_of (view_of w) (name_of (stored_of w) c.args.method) c.args.args c.args.skip) c.self.view_is view)) c.enter.ensures.view
