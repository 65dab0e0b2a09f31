use Rattle.std.proofs.Common.{◌∙◌, ap}
use Rattle.std.proofs.lemmas.Result.{on_err_weaker, on_ok_weaker}
use Rattle.cs_stack.specs.View.{stored_of, view_of}
use Rattle.cs_stack.proofs.NewMethods.{call-method}
use Rattle.cs_stack.proofs.StackWorldWorld.new_method.Goals as goal

pub returns-clause-state : goal.returns-clause-state
returns-clause-state c =
    on_ok_weaker c.new_method.result (λ e. (call-method _ _ _ c.args.class c.args.header.0 c.args.count c.self.view_is c.new_method.ensures.good e).state) c.new_method.ensures.view

pub returns-clause-sound : goal.returns-clause-sound
returns-clause-sound c =
    on_ok_weaker c.new_method.result (λ e. (call-method _ _ _ c.args.class c.args.header.0 c.args.count c.self.view_is c.new_method.ensures.good e).sound) c.new_method.ensures.view

pub returns-clause-ready : goal.returns-clause-ready
returns-clause-ready c =
    on_ok_weaker c.new_method.result (λ e. (call-method _ _ _ c.args.class c.args.header.0 c.args.count c.self.view_is c.new_method.ensures.good e).ready) c.new_method.ensures.view

pub returns-clause-refused_view : goal.returns-clause-refused_view
returns-clause-refused_view c = on_err_weaker c.new_method.result (λ e. ap view_of (e ∙ c.self.view_is)) c.new_method.ensures.refused

pub returns-clause-refused_stored : goal.returns-clause-refused_stored
returns-clause-refused_stored c = on_err_weaker c.new_method.result (λ e. ap stored_of (e ∙ c.self.view_is)) c.new_method.ensures.refused
