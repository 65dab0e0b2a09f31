use Rattle.std.proofs.Common.{◌≡◌, ℕ, ◌<◌, ◌==◌, ◌&&◌, not, List, [], ◌∷◌, ◌++◌, length, ap, sym, subst, ◌∙◌, arith}
use Rattle.cs_model.specs.Obj.{context_class}
use Rattle.cs_heap.specs.Object.{Memory, Object, is_object, new_object, slot_count_of, fixed_set, hash_set, slot_set}
use Rattle.cs_image.specs.Heap.{seen}
use Rattle.cs_image.specs.Loading.{loaded_word}
use Rattle.cs_image.proofs.Storing.{still_clean, begun, begun_all, begun_more, begun_slots, fresh, fresh_begun, fresh_there, hashed_there}
use Rattle.cs_image.proofs.memory.load_object.Goals as goal

pub set_hash-requires-clause-object : goal.set_hash-requires-clause-object
set_hash-requires-clause-object c =
    let added : c.allocate.new.self.objects ≡ c.args.heap.now.objects ++ fresh c.args.birth (seen c.args.o.now) ∷ [] =
    ap (λ (m : Memory). m.objects) c.in-Ok.ensures.added
    ∙ ap (λ p. c.args.heap.now.objects ++ new_object c.args.o.now.class p (length c.args.o.now.words.now) c.args.birth ∷ []) c.plain_format.ensures in
    ap (λ (xs : List Object). is_object xs c.in-Ok.at.0) added ∙ fresh_there c.args.heap.now.objects c.args.birth (seen c.args.o.now) c.in-Ok.at.0 c.in-Ok.ensures.address

pub set_fixed-requires : goal.set_fixed-requires
set_fixed-requires c =
    let added : c.allocate.new.self.objects ≡ c.args.heap.now.objects ++ fresh c.args.birth (seen c.args.o.now) ∷ [] =
    ap (λ (m : Memory). m.objects) c.in-Ok.ensures.added
    ∙ ap (λ p. c.args.heap.now.objects ++ new_object c.args.o.now.class p (length c.args.o.now.words.now) c.args.birth ∷ []) c.plain_format.ensures in
    let hashed : c.set_hash.new.self.objects ≡ hash_set (c.args.heap.now.objects ++ fresh c.args.birth (seen c.args.o.now) ∷ []) c.in-Ok.at.0 c.args.o.now.hash =
    ap (λ (m : Memory). m.objects) c.set_hash.ensures ∙ ap (λ (xs : List Object). hash_set xs c.in-Ok.at.0 c.args.o.now.hash) added in
    ap (λ (xs : List Object). is_object xs c.in-Ok.at.0) hashed ∙ hashed_there c.args.heap.now.objects c.args.birth (seen c.args.o.now) c.in-Ok.at.0 c.in-Ok.ensures.address

pub loop-i-init : goal.loop-i-init
loop-i-init c =
    let added : c.allocate.new.self.objects ≡ c.args.heap.now.objects ++ fresh c.args.birth (seen c.args.o.now) ∷ [] =
    ap (λ (m : Memory). m.objects) c.in-Ok.ensures.added
    ∙ ap (λ p. c.args.heap.now.objects ++ new_object c.args.o.now.class p (length c.args.o.now.words.now) c.args.birth ∷ []) c.plain_format.ensures in
    let hashed : c.set_hash.new.self.objects ≡ hash_set (c.args.heap.now.objects ++ fresh c.args.birth (seen c.args.o.now) ∷ []) c.in-Ok.at.0 c.args.o.now.hash =
    ap (λ (m : Memory). m.objects) c.set_hash.ensures ∙ ap (λ (xs : List Object). hash_set xs c.in-Ok.at.0 c.args.o.now.hash) added in
    record {
      limit = ap (λ (m : Memory). m.limit) c.set_fixed.ensures ∙ ap (λ (m : Memory). m.limit) c.set_hash.ensures ∙ ap (λ (m : Memory). m.limit) c.in-Ok.ensures.added;
      watched = ap (λ (m : Memory). m.watched) c.set_fixed.ensures ∙ ap (λ (m : Memory). m.watched) c.set_hash.ensures ∙ ap (λ (m : Memory). m.watched) c.in-Ok.ensures.added
          ∙ c.requires.unwatched;
      dirty = ap (λ (m : Memory). m.dirty) c.set_fixed.ensures ∙ ap (λ (m : Memory). m.dirty) c.set_hash.ensures ∙ ap (λ (m : Memory). m.dirty) c.in-Ok.ensures.added;
      objects = ap (λ (m : Memory). m.objects) c.set_fixed.ensures
          ∙ ap (λ on. fixed_set c.set_hash.new.self.objects c.in-Ok.at.0 on) c.is_fixed.ensures
          ∙ ap (λ (xs : List Object). fixed_set xs c.in-Ok.at.0 (c.args.o.now.fixed && not (c.args.o.now.class == context_class))) hashed
          ∙ fresh_begun c.args.file.now c.args.heap.now.objects c.args.birth (seen c.args.o.now) c.in-Ok.at.0 c.in-Ok.ensures.address;
    }

pub set_slot-requires : goal.set_slot-requires
set_slot-requires c =
    let P : ℕ → Type 0 = λ n. c.loop-i.i < n in
    subst P (sym (ap (λ (xs : List Object). slot_count_of xs c.in-Ok.at.0) c.loop-i.invariant.objects
    ∙ begun_slots c.args.file.now c.args.heap.now.objects c.args.birth (seen c.args.o.now) c.loop-i.i c.in-Ok.at.0 c.in-Ok.ensures.address)) c.loop-i-test.true

pub loop-i-preserved : goal.loop-i-preserved
loop-i-preserved c = record {
  limit = ap (λ (m : Memory). m.limit) c.set_slot.ensures ∙ c.loop-i.invariant.limit;
  watched = ap (λ (m : Memory). m.watched) c.set_slot.ensures ∙ c.loop-i.invariant.watched;
  dirty = ap (λ (m : Memory). m.dirty) c.set_slot.ensures ∙ still_clean c.loop-i.heap c.in-Ok.at.0 c.loop-i.invariant.watched ∙ c.loop-i.invariant.dirty;
  objects = ap (λ (m : Memory). m.objects) c.set_slot.ensures
      ∙ ap (λ v. slot_set c.loop-i.heap.objects c.in-Ok.at.0 c.loop-i.i v) c.loaded_word.ensures
      ∙ ap (λ (xs : List Object). slot_set xs c.in-Ok.at.0 c.loop-i.i (loaded_word c.args.file.now c.args.o.now.format c.args.o.now.words.now c.loop-i.i)) c.loop-i.invariant.objects
      ∙ begun_more c.args.file.now c.args.heap.now.objects c.args.birth (seen c.args.o.now) c.loop-i.i c.in-Ok.at.0 c.in-Ok.ensures.address;
}

pub returns-clause-watched : goal.returns-clause-watched
returns-clause-watched c = c.loop-i.invariant.watched

pub returns-clause-dirty : goal.returns-clause-dirty
returns-clause-dirty c = c.loop-i.invariant.dirty

pub returns-clause-limit : goal.returns-clause-limit
returns-clause-limit c = c.loop-i.invariant.limit

pub returns-clause-objects : goal.returns-clause-objects
returns-clause-objects c =
    let all : c.loop-i.i ≡ length c.args.o.now.words.now = omega arith in
    c.loop-i.invariant.objects
    ∙ ap (λ n. c.args.heap.now.objects ++ begun c.args.file.now c.args.birth (seen c.args.o.now) n ∷ []) all
    ∙ ap (λ (x : Object). c.args.heap.now.objects ++ x ∷ []) (begun_all c.args.file.now c.args.birth (seen c.args.o.now))
