-- The bytes of an object in the heap are those that the state has.
use Rattle.std.proofs.Common.{◌≡◌, ℕ, Bool, true, false, refl, sym, ap, ap₂, ◌∙◌, arith, Option, Some, None, List, []}
use Rattle.std.specs.Prelude.{nat_le, ◌&&◌, if◌then◌else◌}
use Rattle.std.specs.Option.{option_map_or}
use Rattle.std.proofs.lemmas.Bool.{false≢true}
use Rattle.std.proofs.lemmas.Bool.Decides.{nat_tests}
use Rattle.cs_word.specs.Word.{natural_of_word}
use Rattle.cs_word.specs.declared.Oop.{Oop}
use Rattle.cs_heap.specs.Format.{format_allows, is_code, is_pointers}
use Rattle.cs_heap.specs.Object.{Memory, Object, format_at}
use Rattle.cs_classes.specs.Meaning.{ref_of, used_bytes}
use Rattle.cs_classes.specs.Sound.{IsSoundObject}
use Rattle.cs_classes.proofs.Refs.{index_of-ref_of}
use Rattle.cs_classes.proofs.Sorts.{AContext, AMethod, Bytes, Pointers, Sort, sort_of, obj_of-pointers, obj_of-method, obj_of-bytes}
use Rattle.cs_classes.proofs.Sounds.{sound_at}
use Rattle.cs_model.specs.Obj.{Obj, Ptr, Raw, Method, Ctx, is_context_at}
use Rattle.cs_model.specs.State.{Kept, object_of}
use Rattle.cs_model.specs.PrimObject.{byte_string}
use Rattle.cs_model.specs.PrimRun.{bytes_to_write, or_bytes, small_byte}
use Rattle.cs_acts.specs.Names.{IsNamed, Store, name_of}
use Rattle.cs_acts.specs.Ready.{Holds}
use Rattle.cs_acts.specs.Reading.{object_named}
use Rattle.cs_acts.proofs.Held.{Says, says}
use Rattle.cs_acts.proofs.Methods.{at_word}
use Rattle.cs_acts.proofs.Named.{Place, There, Nowhere, field_at, place}
use Rattle.cs_core.specs.Pieces.{bytes_at, is_byte_format, is_bytes_at}

-- ---- the used bytes of a byte object

abbrev pub bytes_in : Option Object → Option (List ℕ)
bytes_in None = None
bytes_in (Some x) = if is_byte_format x.format then Some (used_bytes x.format x.words) else None

context_bytes : (o : Option Obj) → is_context_at o ≡ true → byte_string o ≡ None
context_bytes None h = refl
context_bytes (Some (Ptr head slots)) h = absurd (cc)
context_bytes (Some (Raw head bytes)) h = absurd (cc)
context_bytes (Some (Method head header literals bytecodes)) h = absurd (cc)
context_bytes (Some (Ctx c)) h = refl

no_bytes : (x : Object) → is_byte_format x.format ≡ false → bytes_in (Some x) ≡ None
no_bytes x e = ap (λ b. if b then Some (used_bytes x.format x.words) else None) e

of_pointers : (f : ℕ) → is_pointers f ≡ true → is_byte_format f ≡ false
of_pointers f h = grind (arith, nat_tests)

of_method : (f : ℕ) → is_code f ≡ true → is_byte_format f ≡ false
of_method f h = grind (arith, nat_tests)

of_raw : (f n : ℕ) → is_pointers f ≡ false → is_code f ≡ false → format_allows f n ≡ true → nat_le 16 f ≡ is_byte_format f
of_raw f n p m h = grind (arith, nat_tests)

bytes_said : (os : List Object) (x : Object) (o : Option Obj) → IsSoundObject os x → Says (ref_of os) (Some x) o → byte_string o ≡ bytes_in (Some x)
bytes_said os x o sound said = go (sort_of x)
  where
    go : Sort x → byte_string o ≡ bytes_in (Some x)
    go (AContext c) = context_bytes o (said.1 c) ∙ sym (no_bytes x (ap is_byte_format (sound.context c).format))
    go (Pointers other p) = ap byte_string (said.0 other ∙ ap Some (obj_of-pointers (ref_of os) x other p)) ∙ sym (no_bytes x (of_pointers x.format p))
    go (AMethod other b m) = ap byte_string (said.0 other ∙ ap Some (obj_of-method (ref_of os) x other b m)) ∙ sym (no_bytes x (of_method x.format m))
    go (Bytes other b m) = ap byte_string (said.0 other ∙ ap Some (obj_of-bytes (ref_of os) x other b m))
        ∙ ap (λ c. if c then Some (used_bytes x.format x.words) else None) (of_raw x.format _ b m sound.shape)

bytes_named : (s : Store) (k : Kept) (o : Oop) → Holds s k → IsNamed s o → byte_string (object_of k (name_of s o)) ≡ bytes_in (object_named s.memory.objects o.0)
bytes_named s k o h named = go (object_named s.memory.objects o.0) refl (says s k o h named)
  where
    go : (p : Option Object) → object_named s.memory.objects o.0 ≡ p → Says (ref_of s.memory.objects) p (object_of k (name_of s o)) → byte_string (object_of k (name_of s o)) ≡ bytes_in p
    go None e said = ap byte_string said
    go (Some x) e said = bytes_said s.memory.objects x _ (sound_at s.memory.objects o.0 x h.whole.heap (at_word s.memory.objects o.0 (Some x) x e refl)) said

-- ---- what is to be written

-- an object named by a word, and the number that a word is
pub to_write : (s : Store) (k : Kept) (o : Oop) → Holds s k → IsNamed s o → bytes_to_write k (name_of s o) ≡ or_bytes (bytes_in (object_named s.memory.objects o.0)) (small_byte (natural_of_word o.0))
unfolding bytes_to_write
to_write s k o h named = ap₂ (λ x n. or_bytes x (small_byte n)) (bytes_named s k o h named) (index_of-ref_of s.memory.objects o.0 named)

bytes_in-there : (os : List Object) (w : ℕ) → is_bytes_at os w ≡ true → bytes_in (object_named os w) ≡ Some (bytes_at os w)
bytes_in-there os w h = go (place os w)
  where
    go : Place os w → bytes_in (object_named os w) ≡ Some (bytes_at os w)
    go (There x named at is) =
        let format : is_byte_format x.format ≡ true = sym (ap is_byte_format (field_at (λ y. y.format) os w x at)) ∙ sym (ap (λ b. b && is_byte_format (format_at os w)) is) ∙ h in
        ap bytes_in named ∙ ap (λ b. if b then Some (used_bytes x.format x.words) else None) format ∙ sym (ap (λ p. Some (option_map_or (λ (y : Object). used_bytes y.format y.words) p [])) at)
    go (Nowhere named is) = absurd (false≢true (sym (ap (λ b. b && is_byte_format (format_at os w)) is) ∙ h))

bytes_in-else : (os : List Object) (w : ℕ) → is_bytes_at os w ≡ false → bytes_in (object_named os w) ≡ None
bytes_in-else os w h = go (place os w)
  where
    go : Place os w → bytes_in (object_named os w) ≡ None
    go (There x named at is) =
        let format : is_byte_format x.format ≡ false = sym (ap is_byte_format (field_at (λ y. y.format) os w x at)) ∙ sym (ap (λ b. b && is_byte_format (format_at os w)) is) ∙ h in
        ap bytes_in named ∙ no_bytes x format
    go (Nowhere named is) = ap bytes_in named

-- the bytes of a byte object, and else the number as a byte
pub bytes_there : (s : Store) (k : Kept) (o : Oop) → Holds s k → IsNamed s o → is_bytes_at s.memory.objects o.0 ≡ true → Some (bytes_at s.memory.objects o.0) ≡ bytes_to_write k (name_of s o)
bytes_there s k o h named is = sym (to_write s k o h named ∙ ap (λ x. or_bytes x (small_byte (natural_of_word o.0))) (bytes_in-there s.memory.objects o.0 is))

pub byte_else : (s : Store) (k : Kept) (o : Oop) → Holds s k → IsNamed s o → is_bytes_at s.memory.objects o.0 ≡ false → small_byte (natural_of_word o.0) ≡ bytes_to_write k (name_of s o)
byte_else s k o h named is = sym (to_write s k o h named ∙ ap (λ x. or_bytes x (small_byte (natural_of_word o.0))) (bytes_in-else s.memory.objects o.0 is))

-- as the code reads the heap
pub is_bytes_read : (s : Store) (m : Memory) (o : Oop) (b : Bool) → m ≡ s.memory → is_bytes_at m.objects o.0 ≡ b → is_bytes_at s.memory.objects o.0 ≡ b
is_bytes_read s m o b e h = ap (λ (n : Memory). is_bytes_at n.objects o.0) (sym e) ∙ h
