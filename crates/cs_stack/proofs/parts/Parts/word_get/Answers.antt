use Rattle.std.proofs.Common.{unwrap_or, Some, ap, arith, refl, subst, sym, ◌∙◌, ℕ}
use Rattle.std.specs.Prelude.{pos}
use Rattle.cs_word.specs.Word.{small_word}
use Rattle.cs_heap.specs.Object.{slot_of}
use Rattle.cs_acts.specs.declared.act.Act.TheVariants as act
use Rattle.cs_acts.specs.Names.{NamesOption}
use Rattle.cs_stack.specs.Moved.{field_at}
use Rattle.cs_stack.specs.View.{act_of, stored_of, view_of}
use Rattle.cs_stack.proofs.Acts.{context_act, slots_are}
use Rattle.cs_stack.proofs.Fields.{depth_few, word_get_depth, word_get_other, word_get_place, word_get_sender, word_within}
use Rattle.cs_stack.proofs.parts.Parts.word_get.Goals as goal

pub slot-word-requires : goal.slot-word-requires
slot-word-requires c =
    let x = context_act c.args.self.now c.args.ctx c.requires.good c.requires.stands in
    omega (arith, slots_are x, word_within c.requires.good x c.args.ctx refl c.args.i c.requires.there)

pub from_natural-requires : goal.from_natural-requires
from_natural-requires c =
    let w = c.args.self.now in
    let x = context_act w c.args.ctx c.requires.good c.requires.stands in
    omega (arith, (c.unwrap_or.ensures ∙ ap (λ o. unwrap_or o 0) (c.natural.ensures.value)), depth_few c.requires.good x c.args.ctx refl c.slot-word.result.0 (c.slot-word.ensures ∙ ap (λ (i : ℕ). slot_of w.heap.objects c.args.ctx.0 i) c.in-2.is))

pub returns-in-0 : goal.returns-in-0
returns-in-0 c =
    let w = c.args.self.now in
    let x = context_act w c.args.ctx c.requires.good c.requires.stands in
    subst (λ i. NamesOption (stored_of w) (Some (record { 0 = 65536 })) (field_at (view_of w) (act_of w (act.Context c.args.ctx)) i)) (sym c.in-0.is)
    (word_get_place c.requires.good x c.args.ctx refl (record { 0 = 65536 }) c.slot-word.result.0 refl (c.slot-word.ensures ∙ ap (λ (i : ℕ). slot_of w.heap.objects c.args.ctx.0 i) c.in-0.is) (sym c.names_place.ensures ∙ c.if-names_place.true))

pub returns-in-2 : goal.returns-in-2
returns-in-2 c =
    let w = c.args.self.now in
    let x = context_act w c.args.ctx c.requires.good c.requires.stands in
    subst (λ i. NamesOption (stored_of w) (Some c.from_natural.result) (field_at (view_of w) (act_of w (act.Context c.args.ctx)) i)) (sym c.in-2.is)
    (word_get_depth c.requires.good x c.args.ctx refl c.from_natural.result c.slot-word.result.0 (c.slot-word.ensures ∙ ap (λ (i : ℕ). slot_of w.heap.objects c.args.ctx.0 i) c.in-2.is)
    (c.from_natural.ensures ∙ ap (λ (n : ℕ). small_word (pos n)) (c.unwrap_or.ensures ∙ ap (λ o. unwrap_or o 0) (c.natural.ensures.value))))

pub returns-in_default : goal.returns-in_default
returns-in_default c =
    let w = c.args.self.now in
    let x = context_act w c.args.ctx c.requires.good c.requires.stands in
    subst (λ i. NamesOption (stored_of w) (Some c.slot-word.result) (field_at (view_of w) (act_of w (act.Context c.args.ctx)) i)) (sym c.in-0.is)
    (word_get_sender c.requires.good x c.args.ctx refl c.slot-word.result (c.slot-word.ensures ∙ ap (λ (i : ℕ). slot_of w.heap.objects c.args.ctx.0 i) c.in-0.is) (sym c.names_place.ensures ∙ c.if-names_place.false))

pub returns-in_default-2 : goal.returns-in_default-2
returns-in_default-2 c =
    let w = c.args.self.now in
    let x = context_act w c.args.ctx c.requires.good c.requires.stands in
    word_get_other c.requires.good x c.args.ctx refl c.slot-word.result c.args.i (λ e. omega (arith, e)) (λ e. omega (arith, e)) c.requires.there c.slot-word.ensures
