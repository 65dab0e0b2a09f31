-- What stays in a heap of which one object is edited: births, words, and what words refer to.
use Rattle.std.proofs.Common.{◌≡◌, ℕ, sym, ap, ◌∙◌, Some, None, List, inl, inr}
use Rattle.std.specs.Prelude.{option_map, ◌==◌, if◌then◌else◌}
use Rattle.std.proofs.lemmas.Bool.Decides.{eqb_tells}
use Rattle.cs_word.specs.declared.Oop.{Oop}
use Rattle.cs_heap.specs.Object.{Object, heap_object, used, with_object}
use Rattle.cs_heap.proofs.Laws.{object_at-with_object_other, object_at-with_object_same, used-with_object}
use Rattle.cs_classes.specs.Meaning.{ref_of}
use Rattle.cs_classes.specs.Sound.{is_reference}
use Rattle.cs_classes.proofs.Heaps.{IsEdit}
use Rattle.cs_classes.proofs.Refs.{is_reference-with_object, ref_of-with_object}
use Rattle.cs_plain.specs.View.{oop_birth, plain_birth}

pub record Edited (os us : List Object) : Type 0 where
  pub births : (b : Oop) → oop_birth us b ≡ oop_birth os b
  pub words : used us ≡ used os
  pub refers : ref_of us ≡ ref_of os
  pub sound : is_reference us ≡ is_reference os

pub edited : (os : List Object) (a : ℕ) (x : Object) (f : Object → Object) → IsEdit f → heap_object os a ≡ Some x → Edited os (with_object os a f)
edited os a x f edit there = record {
  births = births;
  words = used-with_object os a f edit.slots;
  refers = ref_of-with_object os a f edit;
  sound = is_reference-with_object os a f edit;
}
  where
    same : plain_birth (Some (f x)) ≡ plain_birth (Some x)
    same = λ i. if (edit.class x i == 36) then Some (edit.birth x i) else None

    births : (b : Oop) → oop_birth (with_object os a f) b ≡ oop_birth os b
    births b = elim (eqb_tells b.0 a) [
      | inl e ↦ ap (λ n. plain_birth (heap_object (with_object os a f) n)) e.1 ∙ ap plain_birth (object_at-with_object_same os a f edit.slots ∙ ap (option_map f) there) ∙ same
          ∙ ap plain_birth (sym there) ∙ ap (λ n. plain_birth (heap_object os n)) (sym e.1)
      | inr e ↦ ap plain_birth (object_at-with_object_other os a b.0 f edit.slots (λ s. e.1 (sym s)))
    ]
