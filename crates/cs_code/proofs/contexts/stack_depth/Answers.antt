use Rattle.std.proofs.Common.{refl, sym, ◌∙◌}
use Rattle.cs_acts.specs.Names.{name_of}
use Rattle.cs_acts.proofs.Naturals.{natural_name}
use Rattle.cs_code.proofs.Looking.{low-field, stackp-is, stackp-there}
use Rattle.cs_code.proofs.contexts.stack_depth.Goals as goal

pub context_get-requires-clause-there : goal.context_get-requires-clause-there
context_get-requires-clause-there g c = low-field (g.W.World.view c.args.w.now) (name_of (g.W.World.stored c.args.w.now) c.args.context) 2 c.requires.context refl

pub unreachable-requires-in_default-natural : goal.unreachable-requires-in_default-natural
unreachable-requires-in_default-natural g c =
    let s = g.W.World.stored c.context_get.new.self in
    stackp-there (g.W.World.view c.args.w.now) (name_of (g.W.World.stored c.args.w.now) c.args.context) (name_of s c.in-Ok.stackp) c.natural.result c.requires.context c.in-Ok.ensures.value.is
    (c.natural.ensures.value ∙ sym (natural_name s c.in-Ok.stackp c.in-Ok.ensures.value.sound)) c.in_default-natural.is

pub returns-clause-value : goal.returns-clause-value
returns-clause-value g c =
    let s = g.W.World.stored c.context_get.new.self in
    stackp-is (g.W.World.view c.args.w.now) (name_of (g.W.World.stored c.args.w.now) c.args.context) (name_of s c.in-Ok.stackp) c.natural.result c.in-Some.depth c.requires.context c.in-Ok.ensures.value.is
    (c.natural.ensures.value ∙ sym (natural_name s c.in-Ok.stackp c.in-Ok.ensures.value.sound)) c.in-Some.is
