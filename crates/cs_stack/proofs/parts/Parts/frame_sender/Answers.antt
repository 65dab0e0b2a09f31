use Rattle.std.proofs.lemmas.Bool.{true≢false}
use Rattle.std.proofs.Common.{ap, is_some, not, refl, subst, sym, ◌≡◌, ◌∙◌}
use Rattle.cs_acts.specs.Targets.{is_gone}
use Rattle.cs_stack.proofs.Spouses.{here_frame}
use Rattle.cs_stack.specs.View.{act_of}
use Rattle.cs_stack.proofs.Acts.{base_act, caller_act, frame_act, if_some}
use Rattle.cs_stack.proofs.parts.Parts.frame_sender.Goals as goal

pub caller-requires : goal.caller-requires
caller-requires c = record { frame = (frame_act c.args.self.now c.args.f.page c.args.f.at c.requires.good c.requires.stands).there }

pub act_at-requires-clause-named : goal.act_at-requires-clause-named
act_at-requires-clause-named c = (base_act c.requires.good (frame_act c.args.self.now c.args.f.page c.args.f.at c.requires.good c.requires.stands) (c.in-None.ensures.none.0 refl) c.sender.result c.sender.ensures.sender).0

pub returns-in-Some : goal.returns-in-Some
returns-in-Some c =
    let w = c.args.self.now in
    let a = frame_act w c.args.f.page c.args.f.at c.requires.good c.requires.stands in
    let caller = caller_act c.requires.good a (λ base. true≢false (c.in-Some.ensures.none.1 base)) c.in-Some.caller c.in-Some.ensures.caller in
    record {
      value = if_some _ _ _ a.answers (ap (act_of w) c.act.ensures ∙ caller.0);
      gone = subst (λ b. is_gone b ≡ not (is_some (act_of w b))) (sym c.act.ensures) (here_frame w c.in-Some.caller.page c.in-Some.caller.at _ refl caller.1);
    }

pub returns-in-None : goal.returns-in-None
returns-in-None c =
    let a = frame_act c.args.self.now c.args.f.page c.args.f.at c.requires.good c.requires.stands in
    record {
      value = if_some _ _ _ a.answers (c.act_at.ensures.value ∙ sym (base_act c.requires.good a (c.in-None.ensures.none.0 refl) c.sender.result c.sender.ensures.sender).1);
      gone = c.act_at.ensures.gone;
    }
