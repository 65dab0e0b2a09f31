use Rattle.std.proofs.Common.{Some, ap, arith, is_some, refl, subst, sym, ◌∙◌, ◌≡◌}
use Rattle.cs_acts.specs.Names.{NamesOption, name_of}
use Rattle.cs_acts.specs.declared.act.Act.TheVariants as act
use Rattle.cs_model.specs.Return.{context_birth}
use Rattle.cs_stack.specs.Moved.{field_at}
use Rattle.cs_stack.specs.View.{act_of, stored_of, view_of}
use Rattle.cs_stack.proofs.Acts.{frame_act}
use Rattle.cs_stack.proofs.Fields.{field_by_birth, field_context}
use Rattle.cs_stack.proofs.Spouses.{context_known, context_stands_for, names_some}
use Rattle.cs_stack.proofs.parts.Parts.context_get.Goals as goal

pub frame_get-requires-clause-frame : goal.frame_get-requires-clause-frame
frame_get-requires-clause-frame c =
    let w = c.args.self.now in
    let known = field_context (view_of w) (name_of (stored_of w) c.args.ctx) c.args.i c.requires.there in
    let some = names_some w c.requires.good c.args.ctx c.requires.named (sym (context_known w c.requires.good c.args.ctx c.requires.named) ∙ known) in
    (frame_act w c.in-Frame.page c.in-Frame.at c.requires.good (ap is_some c.in-Frame.ensures.value ∙ some)).there

-- it stands for itself
itself : (c : goal.In_default) → act_of c.args.self.now (act.Context c.args.ctx) ≡ context_birth (view_of c.args.self.now) (name_of (stored_of c.args.self.now) c.args.ctx)
itself c =
    let w = c.args.self.now in
    let known = field_context (view_of w) (name_of (stored_of w) c.args.ctx) c.args.i c.requires.there in
    context_stands_for w c.requires.good c.args.ctx c.requires.named known c.act_of.result c.act_of.ensures.value c.act_of.ensures.gone c.in_default.not-Frame

pub word_get-requires : goal.word_get-requires
word_get-requires c =
    let w = c.args.self.now in
    let is = itself c in
    let known = field_context (view_of w) (name_of (stored_of w) c.args.ctx) c.args.i c.requires.there in
    record {
      good = c.requires.good;
      stands = ap is_some is ∙ names_some w c.requires.good c.args.ctx c.requires.named (sym (context_known w c.requires.good c.args.ctx c.requires.named) ∙ known);
      there = ap (λ o. is_some (field_at (view_of w) o c.args.i)) is ∙ sym (ap is_some (field_by_birth (view_of w) (name_of (stored_of w) c.args.ctx) c.args.i)) ∙ c.requires.there;
    }

pub returns-in_default : goal.returns-in_default
returns-in_default c =
    let w = c.args.self.now in
    let known = field_context (view_of w) (name_of (stored_of w) c.args.ctx) c.args.i c.requires.there in
    let is = context_stands_for w c.requires.good c.args.ctx c.requires.named known c.act_of.result c.act_of.ensures.value c.act_of.ensures.gone c.in_default.not-Frame in
    record {
      good = c.requires.good;
      view = refl;
      value = subst (NamesOption (stored_of w) (Some c.word_get.result)) (ap (λ o. field_at (view_of w) o c.args.i) is ∙ sym (field_by_birth (view_of w) (name_of (stored_of w) c.args.ctx) c.args.i)) c.word_get.ensures;
      layout = refl;
      limit = refl;
      contexts = omega arith;
      names = λ o h. record { sound = h; is = refl };
      full = tt;
    }
