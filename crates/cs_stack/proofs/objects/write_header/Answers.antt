use Rattle.std.proofs.Common.{◌≡◌, ◌<◌, ℕ, ◌+◌, List, ◌∷◌, ◌++◌, length, replicate, drop, set, ap, sym, ◌∙◌, arith, Option}
use Rattle.std.specs.Option.{option_map_or}
use Rattle.cs_heap.specs.Object.{Memory, Object, set_word, slot_count_of, with_object, slot_set}
use Rattle.cs_heap.specs.Writes.{slot_stored}
use Rattle.cs_heap.proofs.Writes.{slot_stored-unwatched}
use Rattle.cs_heap.proofs.Laws.{field_of-with_object_kept}
use Rattle.cs_model.specs.Obj.{literal_count}
use Rattle.cs_marriage.proofs.Clearing.{filled, filled-more, filled-none, filled_from, filled_keeps}
use Rattle.cs_marriage.proofs.Objects.{with_object_alike, with_object_none, with_object_twice}
use Rattle.cs_stack.specs.Moved.{headed}
use Rattle.cs_stack.proofs.NewMethods.{headed_is}
use Rattle.cs_stack.proofs.objects.write_header.Goals as goal

pub loop-i-init : goal.loop-i-init
loop-i-init c =
    let m : Memory = c.args.heap.now in
    record {
      heap = sym (ap (λ (xs : List Object). record m { objects = xs }) (with_object_none m.objects c.args.method.0 (filled_from 1 0) (λ x. ap (λ (ws : List ℕ). record x { words = ws }) (filled-none 1 x.words))));
    }

pub set_slot-requires : goal.set_slot-requires
set_slot-requires c =
    let os = c.args.heap.now.objects in
    let a = c.args.method.0 in
    let n = c.loop-i.i in
    let now = ap (λ (h : Memory). slot_count_of h.objects a) c.loop-i.invariant.heap in
    let kept = field_of-with_object_kept (λ x. length x.words) os a a (filled_from 1 n) (filled_keeps 1 n) (filled_keeps 1 n) in
    omega (arith, now, kept, c.loop-i-test.true, c.literals-i-end.ensures.value, c.requires.slots)

pub loop-i-preserved : goal.loop-i-preserved
loop-i-preserved c =
    let m : Memory = c.args.heap.now in
    let os = m.objects in
    let a = c.args.method.0 in
    let i = c.loop-i.i in
    let here : i + 1 ≡ 1 + i = omega arith in
    record {
      heap =
          c.set_slot.ensures
          ∙ ap (λ (h : Memory). slot_stored h a (i + 1) 65536) c.loop-i.invariant.heap
          ∙ slot_stored-unwatched (record m { objects = with_object os a (filled_from 1 i) }) a (i + 1) 65536 c.requires.unwatched
          ∙ ap (λ (xs : List Object). record m { objects = xs }) (with_object_twice os a (filled_from 1 i) (set_word (i + 1) 65536) (filled_keeps 1 i)
          ∙ with_object_alike os a (λ x. set_word (i + 1) 65536 (filled_from 1 i x)) (filled_from 1 (i + 1)) (λ x e. ap (λ (ws : List ℕ). record x { words = ws })
          (ap (λ j. set (filled 1 i x.words) j 65536) here ∙ filled-more 1 i x.words)));
    }

pub set_slot-requires-2 : goal.set_slot-requires-2
set_slot-requires-2 c =
    let os = c.args.heap.now.objects in
    let a = c.args.method.0 in
    let n = c.loop-i.i in
    let now = ap (λ (h : Memory). slot_count_of h.objects a) c.loop-i.invariant.heap in
    let kept = field_of-with_object_kept (λ x. length x.words) os a a (filled_from 1 n) (filled_keeps 1 n) (filled_keeps 1 n) in
    omega (arith, now, kept, c.requires.slots)

pub returns : goal.returns
returns c =
    let m : Memory = c.args.heap.now in
    let os = m.objects in
    let a = c.args.method.0 in
    let i = c.loop-i.i in
    let v = c.from_natural.result.0 in
    let n = literal_count c.args.header.0 in
    let end : i ≡ n = omega (arith, c.loop-i.auto.i-end, c.loop-i-test.false, c.literals-i-end.ensures.value) in
    record {
      heap =
          c.set_slot-2.ensures
          ∙ ap (λ (h : Memory). slot_stored h a 0 v) c.loop-i.invariant.heap
          ∙ slot_stored-unwatched (record m { objects = with_object os a (filled_from 1 i) }) a 0 v c.requires.unwatched
          ∙ ap (λ (xs : List Object). record m { objects = xs }) (with_object_twice os a (filled_from 1 i) (set_word 0 v) (filled_keeps 1 i)
          ∙ with_object_alike os a (λ x. set_word 0 v (filled_from 1 i x)) (headed c.args.header.0) (λ x e. ap (λ (ws : List ℕ). record x { words = ws })
          (ap (λ k. set (filled 1 k x.words) 0 v) end
          ∙ headed_is n v x.words (omega (arith, c.requires.slots, ap (λ (o : Option Object). option_map_or (λ (y : Object). length y.words) o 0) e))
          ∙ ap (λ u. u ∷ (replicate n 65536 ++ drop (1 + n) x.words)) c.from_natural.ensures)));
    }
