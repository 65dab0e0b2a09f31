use Rattle.std.proofs.Common.{◌∙◌, sym, ap, arith, Some, None, option_map}
use Rattle.cs_acts.specs.Names.{name_of}
use Rattle.cs_send.specs.Resolved.{resolve_found}
use Rattle.cs_send.proofs.Resolving.{looked_up, too_few}
use Rattle.cs_send.proofs.Sender.resolve.Goals as goal

pub returns-then-depth-args-clause-found : goal.returns-then-depth-args-clause-found
returns-then-depth-args-clause-found g c =
    let s = g.W.World.stored c.args.w.now in
    sym (too_few (g.W.World.view c.args.w.now) (name_of s c.args.selector) c.args.args (option_map (λ o. name_of s o) c.args.above) (omega (arith, c.if-depth-args.true, c.depth.ensures)))

pub returns-in_default-clause-found : goal.returns-in_default-clause-found
returns-in_default-clause-found g c =
    let s = g.W.World.stored c.args.w.now in
    looked_up (g.W.World.view c.args.w.now) (name_of s c.args.selector) c.args.args (option_map (λ o. name_of s o) c.args.above) None (omega (arith, c.if-depth-args.false, c.depth.ensures)) c.in_default.ensures.is

pub returns-in-Method-clause-found : goal.returns-in-Method-clause-found
returns-in-Method-clause-found g c =
    let s = g.W.World.stored c.args.w.now in
    let k = g.W.World.view c.args.w.now in
    c.resolve_method.ensures.found ∙ ap (resolve_found k c.args.args) c.in-Method.ensures.lookup
    ∙ looked_up k (name_of s c.args.selector) c.args.args (option_map (λ o. name_of s o) c.args.above) (Some (name_of s c.in-Some.class)) (omega (arith, c.if-depth-args.false, c.depth.ensures)) c.in-Some.ensures.is

pub returns-in-Missing-clause-found : goal.returns-in-Missing-clause-found
returns-in-Missing-clause-found g c =
    let s = g.W.World.stored c.args.w.now in
    let k = g.W.World.view c.args.w.now in
    ap (resolve_found k c.args.args) c.in-Missing.ensures.lookup
    ∙ looked_up k (name_of s c.args.selector) c.args.args (option_map (λ o. name_of s o) c.args.above) (Some (name_of s c.in-Some.class)) (omega (arith, c.if-depth-args.false, c.depth.ensures)) c.in-Some.ensures.is

pub returns-in-Loop-clause-found : goal.returns-in-Loop-clause-found
returns-in-Loop-clause-found g c =
    let s = g.W.World.stored c.args.w.now in
    let k = g.W.World.view c.args.w.now in
    ap (resolve_found k c.args.args) c.in-Loop.ensures.lookup
    ∙ looked_up k (name_of s c.args.selector) c.args.args (option_map (λ o. name_of s o) c.args.above) (Some (name_of s c.in-Some.class)) (omega (arith, c.if-depth-args.false, c.depth.ensures)) c.in-Some.ensures.is
