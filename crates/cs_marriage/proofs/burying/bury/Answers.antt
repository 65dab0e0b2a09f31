use Rattle.std.proofs.Common.{◌≡◌, ◌∙◌, ap, sym, subst, List}
use Rattle.cs_heap.specs.Object.{Memory, Object, set_word, with_object, slot_set}
use Rattle.cs_heap.specs.Writes.{slot_stored, slots_stored}
use Rattle.cs_heap.proofs.Writes.{slots_stored-twice}
use Rattle.cs_heap.proofs.Laws.{set_word_keeps}
use Rattle.cs_marriage.specs.Agree.{Agree}
use Rattle.cs_marriage.proofs.Based.{agree_changed}
use Rattle.cs_marriage.proofs.Objects.{with_object_twice}
use Rattle.cs_marriage.proofs.burying.bury.Goals as goal

pub returns-clause-heap : goal.returns-clause-heap
returns-clause-heap c =
    let m : Memory = c.args.heap.now in
    let a = c.args.ctx.0 in
    let one : List Object = slot_set m.objects a 0 65536 in
    let two : List Object = slot_set one a 1 65536 in
    let three : List Object = slot_set two a 2 1 in
    c.set_slot-3.ensures
    ∙ ap (λ v. slot_stored c.set_slot-2.new.self a 2 v) c.from_natural.ensures
    ∙ ap (λ (h : Memory). slot_stored h a 2 1) (c.set_slot-2.ensures ∙ ap (λ (h : Memory). slot_stored h a 1 65536) c.set_slot.ensures)
    ∙ slots_stored-twice (slots_stored m a one) a two three ∙ slots_stored-twice m a one three

pub returns-clause-agree : goal.returns-clause-agree
returns-clause-agree c =
    let m : Memory = c.args.heap.now in
    let os = m.objects in
    let a = c.args.ctx.0 in
    let one : Object → Object = set_word 0 65536 in
    let two : Object → Object = λ x. set_word 1 65536 (one x) in
    let three : Object → Object = λ x. set_word 2 1 (two x) in
    let written : c.set_slot-3.new.self.objects ≡ slot_set (slot_set (slot_set os a 0 65536) a 1 65536) a 2 1 =
    ap (λ (h : Memory). h.objects) (c.set_slot-3.ensures
    ∙ ap (λ v. slot_stored c.set_slot-2.new.self a 2 v) c.from_natural.ensures
    ∙ ap (λ (h : Memory). slot_stored h a 2 1) (c.set_slot-2.ensures
    ∙ ap (λ (h : Memory). slot_stored h a 1 65536) c.set_slot.ensures)) in
    let whole : c.set_slot-3.new.self.objects ≡ with_object os a three =
    written
    ∙ (ap (λ (xs : List Object). slot_set xs a 2 1) (with_object_twice os a one (set_word 1 65536) (set_word_keeps 0 65536))
    ∙ with_object_twice os a two (set_word 2 1) (λ x. set_word_keeps 1 65536 (one x) ∙ set_word_keeps 0 65536 x)) in
    subst (λ (xs : List Object). Agree xs c.args.frames.now) (sym whole)
    (agree_changed os a three (λ x. set_word_keeps 2 1 (two x) ∙ (set_word_keeps 1 65536 (one x) ∙ set_word_keeps 0 65536 x)) c.args.frames.now c.requires.agree c.requires.context c.requires.widowed.alone)
