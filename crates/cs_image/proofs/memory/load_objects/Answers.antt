use Rattle.std.proofs.Common.{◌≡◌, ℕ, ◌+◌, ◌≤◌, true, false, [], ◌∷◌, ◌++◌, length, ap, sym, subst, ◌∙◌, arith, slice_index}
use Rattle.std.proofs.lemmas.Bool.Decides.{nat_tests}
use Rattle.cs_model.specs.ImageFile.{is_visible}
use Rattle.cs_heap.specs.Object.{Memory, size, used}
use Rattle.cs_image.specs.Heap.{seen}
use Rattle.cs_image.specs.Loading.{loaded}
use Rattle.cs_image.proofs.Loadings.{none_loaded, loaded_hidden, loaded_visible, room_left, all_loaded, birth_left}
use Rattle.cs_image.proofs.memory.load_objects.Goals as goal
use Rattle.cs_image.proofs.memory.load_objects.Goals.{then-o-ne16, else-o-ne16}

pub loop-number-init : goal.loop-number-init
loop-number-init c = record {
  limit = c.in_ok-heap.ensures.limit;
  watched = c.in_ok-heap.ensures.unwatched;
  dirty = c.in_ok-heap.ensures.clean;
  objects = rw c.in_ok-heap.ensures.empty (none_loaded c.args.births.now c.args.file.now);
}

pub load_object-requires-clause-room : goal.load_object-requires-clause-room
load_object-requires-clause-room c =
    let visible_one : is_visible (seen c.object-o.result) ≡ true = grind (arith, nat_tests, c.if-o-ne16.true) in
    let P : ℕ → Type 0 = λ n. used c.loop-number.heap.objects + size (length c.object-o.result.words.now) ≤ n in
    subst P (sym c.loop-number.invariant.limit) (room_left c.args.births.now c.args.file.now c.loop-number.heap.objects c.loop-number.count c.loop-number.number c.args.limit_words
    (seen c.object-o.result) c.loop-number.invariant.objects c.object-o.ensures.value visible_one c.requires.room)

pub loop-number-preserved : goal.loop-number-preserved
loop-number-preserved c = elim c.if-o-ne16.branch [
  | then-o-ne16 w ↦
      let visible_one : is_visible (seen c.object-o.result) ≡ true = grind (arith, nat_tests, w.if-o-ne16.true) in
      let after : c.if-o-ne16.heap.objects ≡ c.loop-number.heap.objects ++ loaded c.args.file.now (slice_index c.args.births.now c.loop-number.count) (seen c.object-o.result) ∷ [] =
      ap (λ (m : Memory). m.objects) w.heap-is ∙ w.load_object.ensures.objects in
      record {
        limit = ap (λ (m : Memory). m.limit) w.heap-is ∙ w.load_object.ensures.limit ∙ c.loop-number.invariant.limit;
        watched = ap (λ (m : Memory). m.watched) w.heap-is ∙ w.load_object.ensures.watched;
        dirty = ap (λ (m : Memory). m.dirty) w.heap-is ∙ w.load_object.ensures.dirty ∙ c.loop-number.invariant.dirty;
        objects = rw (after, w.count-is) (loaded_visible c.args.births.now c.args.file.now c.loop-number.heap.objects c.loop-number.count c.loop-number.number
            (seen c.object-o.result) c.loop-number.invariant.objects c.object-o.ensures.value visible_one);
      }
  | else-o-ne16 w ↦
      let hidden : is_visible (seen c.object-o.result) ≡ false = grind (arith, nat_tests, w.if-o-ne16.false) in
      record {
        limit = ap (λ (m : Memory). m.limit) w.heap-is ∙ c.loop-number.invariant.limit;
        watched = ap (λ (m : Memory). m.watched) w.heap-is ∙ c.loop-number.invariant.watched;
        dirty = ap (λ (m : Memory). m.dirty) w.heap-is ∙ c.loop-number.invariant.dirty;
        objects = rw (w.heap-is, w.count-is) (loaded_hidden c.args.births.now c.args.file.now c.loop-number.heap.objects c.loop-number.count c.loop-number.number
            (seen c.object-o.result) c.loop-number.invariant.objects c.object-o.ensures.value hidden);
      }
]

pub returns-clause-objects : goal.returns-clause-objects
returns-clause-objects c =
    all_loaded c.args.births.now c.args.file.now c.loop-number.heap.objects c.loop-number.count c.loop-number.number c.loop-number.invariant.objects (omega arith)

pub bounds-births-count : goal.bounds-births-count
bounds-births-count c =
    let visible_one : is_visible (seen c.object-o.result) ≡ true = grind (arith, nat_tests, c.if-o-ne16.true) in
    omega (
      arith,
      c.requires.births,
      birth_left c.args.births.now c.args.file.now c.loop-number.heap.objects c.loop-number.count c.loop-number.number
          (seen c.object-o.result) c.loop-number.invariant.objects c.object-o.ensures.value visible_one,
    )
