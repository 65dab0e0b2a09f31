use Rattle.std.proofs.Common.{◌≡◌, ℕ, ◌+◌, ◌||◌, Bool, true, false, List, [], ◌∷◌, ◌++◌, refl, ap, sym, ◌∙◌, arith}
use Rattle.cs_heap.specs.Object.{Memory, Object, is_watched, new_object, slot_count_of, slot_set}
use Rattle.cs_heap.specs.Writes.{slot_stored}
use Rattle.cs_heap.proofs.Laws.{pushed, slot_count_of-with_slot}
use Rattle.cs_model.specs.Obj.{context_size}
use Rattle.cs_frame.specs.Page.{frame}
use Rattle.cs_marriage.specs.Agree.{header_at}
use Rattle.cs_marriage.specs.Marriage.{new_size}
use Rattle.cs_marriage.proofs.Making.{new_count, spouse_written, written}
use Rattle.cs_marriage.proofs.marrying.new_context.Goals as goal

-- four stores into an object that isn't watched leave the memory as dirty as it was
unwatched_stays : (d w : Bool) → w ≡ false → ((((d || w) || w) || w) || w) ≡ d
unwatched_stays d w h = ap (λ v. (((d || v) || v) || v) || v) h ∙ at d
  where
    at : (d : Bool) → ((((d || false) || false) || false) || false) ≡ d
    at true = refl
    at false = refl

pub set_slot-requires : goal.set_slot-requires
set_slot-requires c =
    let a = c.in_ok-made.made.0 in
    let n = ap (λ (h : Memory). slot_count_of h.objects a) c.in_ok-made.ensures.added ∙ new_count c.args.heap.now.objects c.context_size-size.result _ a c.in_ok-made.ensures.address in
    omega (arith, n)

pub set_slot-requires-2 : goal.set_slot-requires-2
set_slot-requires-2 c =
    let a = c.in_ok-made.made.0 in
    let n = ap (λ (h : Memory). slot_count_of h.objects a) c.in_ok-made.ensures.added ∙ new_count c.args.heap.now.objects c.context_size-size.result _ a c.in_ok-made.ensures.address in
    let one = ap (λ (h : Memory). slot_count_of h.objects a) c.set_slot.ensures in
    let first = slot_count_of-with_slot c.allocate.new.self.objects a 0 c.link_word.result.0 a in
    omega (arith, n, one, first)

pub set_slot-requires-3 : goal.set_slot-requires-3
set_slot-requires-3 c =
    let a = c.in_ok-made.made.0 in
    let n = ap (λ (h : Memory). slot_count_of h.objects a) c.in_ok-made.ensures.added ∙ new_count c.args.heap.now.objects c.context_size-size.result _ a c.in_ok-made.ensures.address in
    let one = ap (λ (h : Memory). slot_count_of h.objects a) c.set_slot.ensures in
    let first = slot_count_of-with_slot c.allocate.new.self.objects a 0 c.link_word.result.0 a in
    let two = ap (λ (h : Memory). slot_count_of h.objects a) c.set_slot-2.ensures in
    let second = slot_count_of-with_slot c.set_slot.new.self.objects a 3 c.method-method.result.0 a in
    omega (arith, n, one, first, two, second)

pub set_slot-requires-4 : goal.set_slot-requires-4
set_slot-requires-4 c =
    let a = c.in_ok-made.made.0 in
    let n = ap (λ (h : Memory). slot_count_of h.objects a) c.in_ok-made.ensures.added ∙ new_count c.args.heap.now.objects c.context_size-size.result _ a c.in_ok-made.ensures.address in
    let one = ap (λ (h : Memory). slot_count_of h.objects a) c.set_slot.ensures in
    let first = slot_count_of-with_slot c.allocate.new.self.objects a 0 c.link_word.result.0 a in
    let two = ap (λ (h : Memory). slot_count_of h.objects a) c.set_slot-2.ensures in
    let second = slot_count_of-with_slot c.set_slot.new.self.objects a 3 c.method-method.result.0 a in
    let three = ap (λ (h : Memory). slot_count_of h.objects a) c.set_slot-3.ensures in
    let third = slot_count_of-with_slot c.set_slot-2.new.self.objects a 4 c.closure.result.0 a in
    omega (arith, n, one, first, two, second, three, third)

pub returns-clause-added : goal.returns-clause-added
returns-clause-added c =
    let a = c.in_ok-made.made.0 in
    let m : Memory = c.args.heap.now in
    let os = m.objects in
    let size = c.context_size-size.result in
    let f = frame c.args.frames.now c.args.f in
    let unwatched : is_watched m a ≡ false = ap (λ (h : Memory). is_watched h a) (sym c.in_ok-made.ensures.added) ∙ c.in_ok-made.ensures.unwatched in
    let made : List Object = os ++ new_object 36 3 (6 + size) c.birth-birth.result ∷ [] in
    let all : List Object = slot_set (slot_set (slot_set (slot_set made a 0 c.link_word.result.0) a 3 c.method-method.result.0) a 4 c.closure.result.0) a 5 c.receiver.result.0 in
    let sized : size ≡ new_size os f = (c.context_size-size.ensures.value ∙ ap context_size c.method_header.ensures) ∙ ap (λ (n : ℕ). context_size (header_at os n)) c.method-method.ensures.method in
    c.set_slot-4.ensures
    ∙ ap (λ (h : Memory). slot_stored h a 5 c.receiver.result.0) (c.set_slot-3.ensures
    ∙ ap (λ (h : Memory). slot_stored h a 4 c.closure.result.0) (c.set_slot-2.ensures
    ∙ ap (λ (h : Memory). slot_stored h a 3 c.method-method.result.0) (c.set_slot.ensures
    ∙ ap (λ (h : Memory). slot_stored h a 0 c.link_word.result.0) c.in_ok-made.ensures.added)))
    ∙ ap (λ d. let stored : Memory = record m { objects = all; dirty = d } in stored) (unwatched_stays m.dirty (is_watched m a) unwatched)
    ∙ ap (λ (xs : List Object). record m { objects = xs }) (written os size c.birth-birth.result a c.in_ok-made.ensures.address c.link_word.result.0 c.method-method.result.0 c.closure.result.0 c.receiver.result.0)
    ∙ ap (λ (y : Object). record m { objects = pushed os y }) (spouse_written os c.args.f f size c.birth-birth.result c.link_word.result.0 c.method-method.result.0 c.closure.result.0 c.receiver.result.0
    sized c.birth-birth.ensures.birth c.link_word.ensures c.method-method.ensures.method c.closure.ensures.closure c.receiver.ensures.receiver)
