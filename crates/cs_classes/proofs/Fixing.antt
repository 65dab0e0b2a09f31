-- What an object means when it is made read-only, or is so no longer.
use Rattle.std.proofs.Common.{List, map, ◌≡◌, ℕ, ◌+◌, ◌*◌, ◌/◌, ◌%◌, ◌<◌, Bool, true, false, refl, ap, sym, subst, ◌∙◌, arith}
use Rattle.std.specs.Prelude.{◌==◌, if◌then◌else◌}
use Rattle.std.specs.Ordering.{nat_cmp}
use Rattle.std.specs.FinMap.{FinMap}
use Rattle.std.proofs.lemmas.Bool.{eq-eqb, false≢true}
use Rattle.cs_word.specs.Header.{flag_bits, is_immutable, with_immutable}
use Rattle.cs_word.specs.declared.header.Flags.{Flags}
use Rattle.cs_heap.specs.Object.{Object, fixed_set}
use Rattle.cs_heap.proofs.Laws.{give_fixed}
use Rattle.cs_model.specs.Ref.{Ref}
use Rattle.cs_model.specs.Obj.{Method, Ptr, Raw}
use Rattle.cs_model.specs.Operation.{edit_object, with_fixed}
use Rattle.cs_classes.specs.declared.Roots.{Roots}
use Rattle.cs_classes.specs.Meaning.{code_in, head_of, is_heap_context, literal_words, method_header, method_meaning, obj_of, ref_of, used_bytes}
use Rattle.cs_classes.specs.Sound.{IsSoundObject}
use Rattle.cs_classes.proofs.Heaps.{IsEdit}
use Rattle.cs_classes.proofs.Sorts.{AContext, AMethod, Bytes, Pointers, Sort, obj_of-bytes, obj_of-method, obj_of-pointers, sort_of}
use Rattle.cs_classes.proofs.Writes.{Does, Holds, does-edit, sound_object}

-- the flag is what it was made
immutable_is : (on : Bool) (flags : Flags) → is_immutable (with_immutable on flags) ≡ on
immutable_is true flags = eq-eqb _ 1 (omega arith)
immutable_is false flags = even (flag_bits flags / 2)
  where
    even : (n : ℕ) → ((n * 2 + 0) % 2 == 1) ≡ false
    even n = ap (λ m. m == 1) (zero_left n)
      where
        zero_left : (n : ℕ) → (n * 2 + 0) % 2 ≡ 0
        zero_left n = omega arith

-- it stays the only flag
flags_few : (on : Bool) (flags : Flags) → flag_bits flags < 2 → flag_bits (with_immutable on flags) < 2
flags_few true flags h = omega (arith, h)
flags_few false flags h = omega (arith, h)

pub obj_of-fixed : (refer : ℕ → Ref) (x : Object) (on : Bool) → is_heap_context x ≡ false → obj_of refer (give_fixed on x) ≡ with_fixed on (obj_of refer x)
unfolding obj_of method_meaning
obj_of-fixed refer x on other = go (sort_of x)
  where
    y : Object
    y = give_fixed on x

    head : head_of y ≡ record (head_of x) { fixed = on }
    head = ap (λ b. record (head_of x) { fixed = b }) (immutable_is on x.flags)

    go : Sort x → obj_of refer y ≡ with_fixed on (obj_of refer x)
    go (AContext c) = absurd (false≢true (sym other ∙ c))
    go (Pointers o p) = obj_of-pointers refer y o p ∙ ap (λ h. Ptr h (map refer x.words)) head ∙ sym (ap (with_fixed on) (obj_of-pointers refer x o p))
    go (AMethod o p m) =
        obj_of-method refer y o p m ∙ ap (λ h. Method h (method_header x.words) (map refer (literal_words x.words)) (used_bytes x.format (code_in x.words))) head
        ∙ sym (ap (with_fixed on) (obj_of-method refer x o p m))
    go (Bytes o p m) = obj_of-bytes refer y o p m ∙ ap (λ h. Raw h (used_bytes x.format x.words)) head ∙ sym (ap (with_fixed on) (obj_of-bytes refer x o p m))

pub sound-fixed : (os : List Object) (x : Object) (on : Bool) → is_heap_context x ≡ false → IsSoundObject os x → IsSoundObject os (give_fixed on x)
sound-fixed os x on other s = record {
  kind = s.kind;
  flags = flags_few on x.flags s.flags;
  plain = s.plain;
  shape = s.shape;
  references = s.references;
  context = λ c. absurd (false≢true (sym other ∙ c));
  method = λ m. let old = s.method m in record { header = old.header; valid = old.valid; literals = old.literals };
}

pub give_fixed-IsEdit : (on : Bool) → IsEdit (give_fixed on)
give_fixed-IsEdit on = record { slots = λ (x : Object). refl; birth = λ (x : Object). refl; class = λ (x : Object). refl; format = λ (x : Object). refl }

-- an object that is no context is made read-only, or is so no longer
pub does-fixed : {os : List Object} {table : FinMap nat_cmp ℕ} {roots : Roots} {a : ℕ} {x : Object} (h : Holds os table roots a x) (on : Bool) → is_heap_context x ≡ false
    → Does os (fixed_set os a on) table roots (λ k. edit_object k (ref_of os a) (with_fixed on))
does-fixed {os} {table} {roots} {a} {x} h on other =
    does-edit h (give_fixed on) (with_fixed on) (give_fixed-IsEdit on) refl (sound-fixed os x on other (sound_object h)) (obj_of-fixed (ref_of os) x on other)
