use Rattle.std.proofs.Common.{◌≡◌, ap, arith, subst, sym, ◌∙◌, Some, unwrap_or}
use Rattle.std.proofs.lemmas.Bool.Decides.{nat_tests}
use Rattle.cs_word.specs.Word.{natural_of_word}
use Rattle.cs_heap.specs.Object.{slot_of}
use Rattle.cs_acts.specs.Names.{NamesOption, name_of}
use Rattle.cs_acts.specs.Targets.{field_of}
use Rattle.cs_plain.specs.View.{plain_stored, plain_view}
use Rattle.cs_plain.proofs.Asking.{asked, asked_within, depth_few, depth_names, field_names}
use Rattle.cs_plain.proofs.PlainWorldWorld.context_get.Goals as goal

pub slot-value-requires : goal.slot-value-requires
slot-value-requires c =
    asked_within c.requires.sound (asked c.args.self.now c.args.ctx c.args.i c.requires.sound c.requires.named c.requires.there).1 c.args.i c.requires.there

pub from_natural-requires : goal.from_natural-requires
from_natural-requires c =
    let at = asked c.args.self.now c.args.ctx c.args.i c.requires.sound c.requires.named c.requires.there in
    let is : c.args.i ≡ 2 = grind (arith, nat_tests, c.if-i-eq-STACK_POINTER.true) in
    depth_few c.requires.sound at.1 c.unwrap_or.result
    ((c.unwrap_or.ensures ∙ ap (λ o. unwrap_or o 0) (c.natural.ensures.value)) ∙ ap (λ v. unwrap_or (natural_of_word v) 0) (c.slot-value.ensures ∙ ap (slot_of c.args.self.now.heap.objects c.args.ctx.0) is))

pub returns-then-i-eq-STACK_POINTER-clause-value : goal.returns-then-i-eq-STACK_POINTER-clause-value
returns-then-i-eq-STACK_POINTER-clause-value c =
    let w = c.args.self.now in
    let at = asked w c.args.ctx c.args.i c.requires.sound c.requires.named c.requires.there in
    let is : c.args.i ≡ 2 = grind (arith, nat_tests, c.if-i-eq-STACK_POINTER.true) in
    subst (λ n. NamesOption (plain_stored w) (Some c.from_natural.result) (field_of (plain_view w) (name_of (plain_stored w) c.args.ctx) n)) (sym is)
    (depth_names c.requires.sound at.1 c.from_natural.result c.unwrap_or.result
    ((c.unwrap_or.ensures ∙ ap (λ o. unwrap_or o 0) (c.natural.ensures.value)) ∙ ap (λ v. unwrap_or (natural_of_word v) 0) (c.slot-value.ensures ∙ ap (slot_of w.heap.objects c.args.ctx.0) is)) c.from_natural.ensures)

pub returns-else-i-eq-STACK_POINTER-clause-value : goal.returns-else-i-eq-STACK_POINTER-clause-value
returns-else-i-eq-STACK_POINTER-clause-value c =
    field_names c.requires.sound (asked c.args.self.now c.args.ctx c.args.i c.requires.sound c.requires.named c.requires.there).1 c.slot-value.result c.args.i
    (λ e. grind (arith, nat_tests, c.if-i-eq-STACK_POINTER.false, e)) c.slot-value.ensures c.requires.there
