use Rattle.std.proofs.Common.{◌≡◌, ℕ, ◌+◌, ◌-◌, List, length, set, ap, sym, ◌∙◌, arith, Option}
use Rattle.std.specs.Option.{option_map_or}
use Rattle.cs_heap.specs.Object.{Memory, Object, set_word, slot_count_of, with_object, slot_set}
use Rattle.cs_heap.specs.Writes.{slot_stored}
use Rattle.cs_heap.proofs.Writes.{slots_stored-counted}
use Rattle.cs_heap.proofs.Laws.{field_of-with_object_kept}
use Rattle.cs_marriage.specs.Marriage.{cleared_from}
use Rattle.cs_marriage.proofs.Clearing.{filled, filled-all, filled-more, filled-none, filled_from, filled_keeps}
use Rattle.cs_marriage.proofs.Objects.{with_object_alike, with_object_none, with_object_twice}
use Rattle.cs_marriage.proofs.basing.clear_stack.Goals as goal

pub loop-i-init : goal.loop-i-init
loop-i-init c =
    let m : Memory = c.args.heap.now in
    record {
      heap = sym (ap (λ (xs : List Object). record m { objects = xs }) (with_object_none m.objects c.args.ctx.0 (filled_from 6 0) (λ x. ap (λ (ws : List ℕ). record x { words = ws }) (filled-none 6 x.words))));
    }

pub set_slot-requires : goal.set_slot-requires
set_slot-requires c =
    let os = c.args.heap.now.objects in
    let a = c.args.ctx.0 in
    let n = c.loop-i.i - 6 in
    let now = ap (λ (h : Memory). slot_count_of h.objects a) c.loop-i.invariant.heap in
    let kept = field_of-with_object_kept (λ x. length x.words) os a a (filled_from 6 n) (filled_keeps 6 n) (filled_keeps 6 n) in
    omega (arith, now, kept, c.loop-i-test.true, c.slot_count-i-end.ensures.value)

pub loop-i-preserved : goal.loop-i-preserved
loop-i-preserved c =
    let m : Memory = c.args.heap.now in
    let os = m.objects in
    let a = c.args.ctx.0 in
    let i = c.loop-i.i in
    let n = i - 6 in
    let here : i ≡ 6 + n = omega (arith, c.loop-i.auto.i) in
    let next : n + 1 ≡ i + 1 - 6 = omega (arith, c.loop-i.auto.i) in
    record {
      heap =
          c.set_slot.ensures
          ∙ ap (λ (h : Memory). slot_stored h a i 65536) c.loop-i.invariant.heap
          ∙ slots_stored-counted (record m { objects = with_object os a (filled_from 6 n) }) a (slot_set (with_object os a (filled_from 6 n)) a i 65536) c.requires.counted
          ∙ ap (λ (xs : List Object). record m { objects = xs }) (with_object_twice os a (filled_from 6 n) (set_word i 65536) (filled_keeps 6 n)
          ∙ with_object_alike os a (λ x. set_word i 65536 (filled_from 6 n x)) (filled_from 6 (i + 1 - 6)) (λ x e. ap (λ (ws : List ℕ). record x { words = ws })
          (ap (λ j. set (filled 6 n x.words) j 65536) here ∙ (filled-more 6 n x.words ∙ ap (λ k. filled 6 k x.words) next))));
    }

pub returns : goal.returns
returns c =
    let m : Memory = c.args.heap.now in
    let os = m.objects in
    let a = c.args.ctx.0 in
    let i = c.loop-i.i in
    let end : i ≡ slot_count_of os a = omega (arith, c.loop-i.auto.i-end, c.loop-i-test.false, c.slot_count-i-end.ensures.value, c.requires.fields) in
    record {
      heap =
          c.loop-i.invariant.heap
          ∙ ap (λ (xs : List Object). record m { objects = xs }) (with_object_alike os a (filled_from 6 (i - 6)) (cleared_from 6) (λ x e. ap (λ (ws : List ℕ). record x { words = ws })
          (ap (λ n. filled 6 (n - 6) x.words) (end ∙ ap (λ (o : Option Object). option_map_or (λ (y : Object). length y.words) o 0) e) ∙ filled-all 6 x.words)));
    }
