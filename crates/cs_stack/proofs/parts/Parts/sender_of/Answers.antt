use Rattle.std.proofs.Common.{refl}
use Rattle.std.proofs.lemmas.Bool.{true≢false}
use Rattle.cs_stack.proofs.Acts.{frame_at, frame_below}
use Rattle.cs_stack.proofs.Fields.{frame_get_base, frame_get_below, ok_map, some_if}
use Rattle.cs_stack.proofs.parts.Parts.sender_of.Goals as goal

pub context_of-requires-clause-frame : goal.context_of-requires-clause-frame
context_of-requires-clause-frame c =
    let a = frame_at c.args.self.now c.args.f c.requires.good c.requires.frame in
    (frame_below c.requires.good a (λ base. true≢false (c.in-Some.ensures.none.1 base)) c.in-Some.caller c.in-Some.ensures.caller).there

pub returns-in-Some-clause-value : goal.returns-in-Some-clause-value
returns-in-Some-clause-value c =
    let a = frame_at c.args.self.now c.args.f c.requires.good c.requires.frame in
    let b = frame_below c.requires.good a (λ base. true≢false (c.in-Some.ensures.none.1 base)) c.in-Some.caller c.in-Some.ensures.caller in
    ok_map _ _ c.context_of.result (λ o n. frame_get_below c.requires.good a c.context_of.new.self o b (some_if _ _ _ b.stands n)) c.context_of.ensures.value

pub returns-in-None-clause-value : goal.returns-in-None-clause-value
returns-in-None-clause-value c =
    frame_get_base c.requires.good (frame_at c.args.self.now c.args.f c.requires.good c.requires.frame) (c.in-None.ensures.none.0 refl) c.sender.result c.sender.ensures.sender
