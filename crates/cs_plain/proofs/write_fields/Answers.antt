use Rattle.std.proofs.Common.{◌≡◌, ◌||◌, Bool, true, false, List, refl, ap, ◌∙◌}
use Rattle.cs_heap.specs.Object.{Memory, Object, is_watched}
use Rattle.cs_heap.specs.Writes.{slot_stored}
use Rattle.cs_plain.specs.Storing.{with_fields}
use Rattle.cs_plain.proofs.write_fields.Goals as goal

-- six stores into an object that isn't watched leave the memory as dirty as it was
stays : (d w : Bool) → w ≡ false → ((((((d || w) || w) || w) || w) || w) || w) ≡ d
stays d w h = ap (λ v. (((((d || v) || v) || v) || v) || v) || v) h ∙ at d
  where
    at : (d : Bool) → ((((((d || false) || false) || false) || false) || false) || false) ≡ d
    at true = refl
    at false = refl

pub returns : goal.returns
returns c =
    let m : Memory = c.args.heap.now in
    let a = c.args.context.0 in
    let f = c.args.fields in
    let all : List Object = with_fields m.objects a f in
    c.set_slot-6.ensures
    ∙ ap (λ (h : Memory). slot_stored h a 5 f.receiver.0) (c.set_slot-5.ensures
    ∙ ap (λ (h : Memory). slot_stored h a 4 f.closure.0) (c.set_slot-4.ensures
    ∙ ap (λ (h : Memory). slot_stored h a 3 f.method.0) (c.set_slot-3.ensures
    ∙ ap (λ (h : Memory). slot_stored h a 2 f.stackp.0) (c.set_slot-2.ensures
    ∙ ap (λ (h : Memory). slot_stored h a 1 f.pc.0) c.set_slot.ensures))))
    ∙ ap (λ d. let stored : Memory = record m { objects = all; dirty = d } in stored) (stays m.dirty (is_watched m a) c.requires.unwatched)
