use Rattle.std.proofs.Common.{List, ap, ◌∙◌}
use Rattle.cs_heap.specs.Object.{Memory, Object, set_word, with_object, slot_set}
use Rattle.cs_heap.specs.Writes.{slot_stored, slots_stored}
use Rattle.cs_heap.proofs.Writes.{slots_stored-twice}
use Rattle.cs_heap.proofs.Laws.{set_word_keeps}
use Rattle.cs_marriage.specs.Marriage.{cleared_from}
use Rattle.cs_marriage.specs.Place.{link_word}
use Rattle.cs_marriage.proofs.Objects.{with_object_twice}
use Rattle.cs_marriage.proofs.basing.vacate.Goals as goal

pub returns : goal.returns
returns c =
    let m : Memory = c.args.heap.now in
    let os = m.objects in
    let a = c.args.ctx.0 in
    let l = link_word c.args.f in
    let first : List Object = slot_set os a 0 l in
    let second : List Object = slot_set first a 1 65536 in
    let third : List Object = slot_set second a 2 65536 in
    let cleared : List Object = with_object third a (cleared_from 6) in
    let one : Object → Object = set_word 0 l in
    let two : Object → Object = λ x. set_word 1 65536 (one x) in
    let three : Object → Object = λ x. set_word 2 65536 (two x) in
    record {
      heap =
          c.clear_stack.ensures.heap
          ∙ ap (λ (h : Memory). record h { objects = with_object h.objects a (cleared_from 6) }) (c.set_slot-3.ensures
          ∙ ap (λ (h : Memory). slot_stored h a 2 65536) (c.set_slot-2.ensures
          ∙ ap (λ (h : Memory). slot_stored h a 1 65536) (c.set_slot.ensures
          ∙ ap (λ n. slot_stored m a 0 n) c.link_word.ensures)))
          ∙ ap (λ (h : Memory). record h { objects = cleared }) (slots_stored-twice (slots_stored m a first) a second third ∙ slots_stored-twice m a first third)
          ∙ ap (λ (xs : List Object). slots_stored m a xs)
          (ap (λ (xs : List Object). with_object (slot_set xs a 2 65536) a (cleared_from 6)) (with_object_twice os a one (set_word 1 65536) (set_word_keeps 0 l))
          ∙ (ap (λ (xs : List Object). with_object xs a (cleared_from 6)) (with_object_twice os a two (set_word 2 65536) (λ x. set_word_keeps 1 65536 (one x) ∙ set_word_keeps 0 l x))
          ∙ with_object_twice os a three (cleared_from 6) (λ x. set_word_keeps 2 65536 (two x) ∙ (set_word_keeps 1 65536 (one x) ∙ set_word_keeps 0 l x))));
    }
