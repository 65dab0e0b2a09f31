-- A method that a word names, as it lies in the heap.
use Rattle.std.proofs.Common.{◌≡◌, ℕ, ◌+◌, ◌-◌, ◌*◌, ◌<◌, ◌≤◌, true, false, refl, sym, ap, subst, ◌∙◌, arith, Option, Some, None, List, [], ◌∷◌, length, get_or, nat_le}
use Rattle.std.specs.Prelude.{unwrap_or, ◌==◌, ◌&&◌, if◌then◌else◌}
use Rattle.std.proofs.lemmas.Bool.{false≢true}
use Rattle.std.proofs.lemmas.Bool.Decides.{nat_tests}
use Rattle.cs_word.specs.Word.{natural_of_word}
use Rattle.cs_model.specs.Words.{unused_bytes}
use Rattle.cs_word.specs.declared.Oop.{Oop}
use Rattle.cs_heap.specs.Format.{is_code}
use Rattle.cs_heap.specs.Object.{Memory, Object, byte_of, format_at, is_object, heap_object, slot_count_of, slot_of}
use Rattle.cs_classes.proofs.Refs.{both_true}
use Rattle.cs_classes.specs.Meaning.{code_in, method_header, ref_of, used_bytes}
use Rattle.cs_classes.proofs.Sorts.{not_pointers, obj_of-method}
use Rattle.cs_classes.proofs.Sounds.{method_other, sound_at}
use Rattle.cs_model.specs.Obj as obj
use Rattle.cs_model.specs.Obj.{Obj, literal_count, number_in}
use Rattle.cs_model.specs.State.{Kept, object_of}
use Rattle.cs_acts.specs.Names.{Store, name_of}
use Rattle.cs_acts.specs.Ready.{Holds}
use Rattle.cs_classes.specs.Sound.{is_method_address}
use Rattle.cs_acts.specs.Reading.{IsMethodNamed, bounded_number, object_named}
use Rattle.cs_acts.proofs.Held.{Says, says}
use Rattle.cs_acts.proofs.Methods.{IsMethodAt, code_byte, end_is, header_is}
use Rattle.cs_acts.proofs.Named.{Place, There, Nowhere, field_at, method_read, place}

method_here : (s : Store) (k : Kept) (o : Oop) → Holds s k → IsMethodNamed s k o → IsMethodAt s.memory.objects (object_of k (name_of s o)) o.0
method_here s k o holds m = go (place s.memory.objects o.0)
  where
    said : (p : Option Object) → object_named s.memory.objects o.0 ≡ p → Says (ref_of s.memory.objects) p (object_of k (name_of s o))
    said p f = subst (λ q. Says (ref_of s.memory.objects) q (object_of k (name_of s o))) f (says s k o holds m.named)

    in_heap : is_method_address s.memory.objects o.0 ≡ true
    in_heap = method_read s k s.memory o refl holds m.named ∙ m.method

    there : (x : Object) → object_named s.memory.objects o.0 ≡ Some x → heap_object s.memory.objects o.0 ≡ Some x → is_code x.format ≡ true → IsMethodAt s.memory.objects (object_of k (name_of s o)) o.0
    there x f at format =
        let sound = sound_at s.memory.objects o.0 x holds.whole.heap at in
        let other = method_other s.memory.objects x sound format in
        let is = said (Some x) f in
        record {
          object = x;
          there = at;
          sound = sound;
          format = format;
          means = is.0 other ∙ ap Some (obj_of-method (ref_of s.memory.objects) x other (not_pointers x.format format) format);
        }

    go : Place s.memory.objects o.0 → IsMethodAt s.memory.objects (object_of k (name_of s o)) o.0
    go (There x f at is) =
        there x f at (ap is_code (sym (field_at (λ y. y.format) s.memory.objects o.0 x at)) ∙ (both_true (is_object s.memory.objects o.0) (is_code (format_at s.memory.objects o.0)) in_heap).1)
    go (Nowhere f is) = absurd (false≢true (sym (ap obj.is_method (said None f)) ∙ m.method))

-- the same of the heap that the code reads
pub method_in : (s : Store) (k : Kept) (h : Memory) (o : Oop) → h ≡ s.memory → Holds s k → IsMethodNamed s k o → IsMethodAt h.objects (object_of k (name_of s o)) o.0
method_in s k h o e holds m = subst (λ (h : Memory). IsMethodAt h.objects (object_of k (name_of s o)) o.0) (sym e) (method_here s k o holds m)

-- ---- its header

module _ (os : List Object) (o : Option Obj) (w : ℕ) (m : IsMethodAt os o w) where
  pub header_read : (n : ℕ) → n ≡ unwrap_or (natural_of_word (slot_of os w 0)) 0 → n ≡ obj.header_in o
  header_read n e = e ∙ header_is os o w m ∙ sym (ap obj.header_in m.means)

-- ---- its primitive

-- the number that a list begins with, by its bytes where they lie
number_listed : (byte : ℕ → ℕ) (first end : ℕ) (bs : List ℕ) → first + length bs ≡ end → ((j : ℕ) → j < length bs → get_or bs j 0 ≡ byte (first + j))
    → (if nat_le (first + 3) end && byte first == 139 then Some (byte (first + 1) + 256 * byte (first + 2)) else None) ≡ number_in bs
number_listed byte first end bs long at = go bs long at
  where
    short : (n : ℕ) → first + n ≡ end → n < 3 → nat_le (first + 3) end ≡ false
    short n e less = grind (arith, nat_tests)

    enough : (n : ℕ) → first + n ≡ end → 3 ≤ n → nat_le (first + 3) end ≡ true
    enough n e more = grind (arith, nat_tests)

    go : (bs : List ℕ) → first + length bs ≡ end → ((j : ℕ) → j < length bs → get_or bs j 0 ≡ byte (first + j))
        → (if nat_le (first + 3) end && byte first == 139 then Some (byte (first + 1) + 256 * byte (first + 2)) else None) ≡ number_in bs
    go [] e at = rw (short 0 e (omega arith)) refl
    go (a ∷ []) e at = rw (short 1 e (omega arith)) refl
    go (a ∷ b ∷ []) e at = rw (short 2 e (omega arith)) refl
    go (a ∷ b ∷ c ∷ bs) e at =
        let here : byte first ≡ a = sym (at 0 (omega arith) ∙ ap byte (omega arith)) in
        let second : byte (first + 1) ≡ b = sym (at 1 (omega arith)) in
        let third : byte (first + 2) ≡ c = sym (at 2 (omega arith)) in
        let fits : nat_le (first + 3) end ≡ true = enough (length (a ∷ b ∷ c ∷ bs)) e (omega arith) in
        rw (fits, here, second, third) refl

pub number_read : (os : List Object) (o : Option Obj) (w first end : ℕ) (number : Option ℕ) → IsMethodAt os o w → first ≡ 4 * (literal_count (obj.header_in o) + 1) → end ≡ 4 * slot_count_of os w - unused_bytes (format_at os w)
    → number ≡ bounded_number os w first end → number ≡ number_in (obj.bytecodes_in o)
number_read os o w first end number m begins ends is =
    let header : obj.header_in o ≡ method_header m.object.words = ap obj.header_in m.means in
    let from : first ≡ 4 * (literal_count (method_header m.object.words) + 1) = begins ∙ ap (λ n. 4 * (literal_count n + 1)) header in
    let codes : List ℕ = used_bytes m.object.format (code_in m.object.words) in
    is ∙ number_listed (byte_of os w) first end codes (omega (arith, from, ends, end_is os o w m))
    (λ j less. code_byte os o w m j less ∙ ap (λ n. byte_of os w (n + j)) (sym from))
    ∙ sym (ap (λ p. number_in (obj.bytecodes_in p)) m.means)
