-- What an object holds, as the heap and as the state tell it.
use Rattle.std.proofs.Common.{◌≡◌, ◌≢◌, ◌∙◌, ℕ, ◌+◌, ◌-◌, ◌*◌, ◌<◌, ◌≤◌, Bool, true, false, refl, sym, ap, ap₂, subst, arith, Option, Some, None, List, length, map, drop, length-drop, length-take}
use Rattle.std.specs.Prelude.{◌==◌, if◌then◌else◌, nat_lt, slice_index, unwrap_or}
use Rattle.std.proofs.lemmas.Bool.Decides.{nat_tests}
use Rattle.std.proofs.lemmas.List.{length-map}
use Rattle.cs_word.specs.declared.Oop.{Oop}
use Rattle.cs_word.specs.Word.{natural_of_word}
use Rattle.cs_heap.specs.Format.{format_allows, is_code, is_pointers}
use Rattle.cs_heap.specs.Object.{Memory, Object, class_at, format_at, is_object, slot_count_of, slot_of}
use Rattle.cs_classes.specs.Meaning.{code_in, literal_words, method_header, ref_of, used_bytes}
use Rattle.cs_classes.specs.Sound.{IsSoundObject}
use Rattle.cs_classes.proofs.Heaps.{object_there}
use Rattle.cs_classes.proofs.Counting.{length-bytes_of}
use Rattle.cs_classes.proofs.Sorts.{AContext, AMethod, Bytes as RawBytes, Pointers, Sort, sort_of, obj_of-bytes, obj_of-method, obj_of-pointers}
use Rattle.cs_classes.proofs.Sounds.{sound_at}
use Rattle.cs_model.specs.Words.{bytes_of_words, unused_bytes}
use Rattle.cs_model.specs.Obj.{Obj, Ptr, Raw, Method, Ctx, context_class, is_context_at, literal_count}
use Rattle.cs_model.specs.State.{Kept, object_of}
use Rattle.cs_acts.specs.Names.{IsNamed, Store, name_of}
use Rattle.cs_acts.specs.Reading.{object_named}
use Rattle.cs_acts.specs.Ready.{Holds}
use Rattle.cs_acts.proofs.Held.{Says, says}
use Rattle.cs_acts.proofs.Named.{Place, There, Nowhere, field_at, place}
use Rattle.cs_prim_obj.specs.declared.contents.Contents.{Contents}
use Rattle.cs_prim_obj.specs.declared.contents.Contents.TheVariants.{Immediate, Slots, Bytes, Code, Context}
use Rattle.cs_prim_obj.specs.Contents.{contents_at, contents_of, literals_at}

-- by what the heap tells, part by part
abbrev of_bits : ℕ → ℕ → ℕ → Contents
of_bits format slots literals =
    if is_code format then Code literals (4 * (slots - (1 + literals)) - unused_bytes format) else
    Bytes format (4 * slots - unused_bytes format)

abbrev of_format : ℕ → ℕ → ℕ → Contents
of_format format slots literals = if is_pointers format then Slots format slots else of_bits format slots literals

abbrev of_parts : Bool → ℕ → ℕ → ℕ → ℕ → Contents
of_parts there class format slots literals =
    if there then (if class == context_class then Context else of_format format slots literals) else Immediate

context_holds : (o : Option Obj) → is_context_at o ≡ true → contents_of o ≡ Context
context_holds None e = absurd (cc)
context_holds (Some (Ptr head slots)) e = absurd (cc)
context_holds (Some (Raw head bytes)) e = absurd (cc)
context_holds (Some (Method head header literals bytecodes)) e = absurd (cc)
context_holds (Some (Ctx c)) e = refl

object_holds : (os : List Object) (x : Object) (o : Option Obj) → IsSoundObject os x → Says (ref_of os) (Some x) o
    → of_parts true x.class x.format (length x.words) (literal_count (method_header x.words)) ≡ contents_of o
object_holds os x o sound said = go (sort_of x)
  where
    go : Sort x → of_parts true x.class x.format (length x.words) (literal_count (method_header x.words)) ≡ contents_of o
    go (AContext c) = rw c (sym (context_holds o (said.1 c)))
    go (Pointers a p) =
        let means = ap contents_of (said.0 a ∙ ap Some (obj_of-pointers (ref_of os) x a p)) in
        let mine : of_parts true x.class x.format (length x.words) (literal_count (method_header x.words)) ≡ Slots x.format (length x.words) = rw (a, p) refl in
        mine ∙ ap (Slots x.format) (sym (length-map x.words (ref_of os))) ∙ sym means
    go (AMethod a p m) =
        let s = sound.method m in
        let count : ℕ = literal_count (method_header x.words) in
        let means = ap contents_of (said.0 a ∙ ap Some (obj_of-method (ref_of os) x a p m)) in
        let mine : of_parts true x.class x.format (length x.words) count ≡ Code count (4 * (length x.words - (1 + count)) - unused_bytes x.format) = rw (a, p, m) refl in
        let literals = length-take count (drop 1 x.words) in
        let behind = length-drop 1 x.words in
        let mapped = length-map (literal_words x.words) (ref_of os) in
        let code = length-drop (1 + count) x.words in
        let bytes = length-take (4 * length (code_in x.words) - unused_bytes x.format) (bytes_of_words (code_in x.words)) in
        let all = length-bytes_of (code_in x.words) in
        let first : count ≡ length (map (ref_of os) (literal_words x.words)) = omega (arith, mapped, literals, behind, s.literals) in
        let second : 4 * (length x.words - (1 + count)) - unused_bytes x.format ≡ length (used_bytes x.format (code_in x.words)) = omega (arith, code, bytes, all) in
        mine ∙ ap₂ Code first second ∙ sym means
    go (RawBytes a p m) =
        let means = ap contents_of (said.0 a ∙ ap Some (obj_of-bytes (ref_of os) x a p m)) in
        let mine : of_parts true x.class x.format (length x.words) (literal_count (method_header x.words)) ≡ Bytes x.format (4 * length x.words - unused_bytes x.format) = rw (a, p, m) refl in
        let bytes = length-take (4 * length x.words - unused_bytes x.format) (bytes_of_words x.words) in
        let all = length-bytes_of x.words in
        let second : 4 * length x.words - unused_bytes x.format ≡ length (used_bytes x.format x.words) = omega (arith, bytes, all) in
        mine ∙ ap (Bytes x.format) second ∙ sym means

pub contents_read : (s : Store) (k : Kept) (m : Memory) (o : Oop) → m ≡ s.memory → Holds s k → IsNamed s o → contents_at m.objects o.0 ≡ contents_of (object_of k (name_of s o))
contents_read s k m o e holds named = ap (λ (n : Memory). contents_at n.objects o.0) e ∙ go (place s.memory.objects o.0)
  where
    said : (p : Option Object) → object_named s.memory.objects o.0 ≡ p → Says (ref_of s.memory.objects) p (object_of k (name_of s o))
    said p f = subst (λ q. Says (ref_of s.memory.objects) q (object_of k (name_of s o))) f (says s k o holds named)

    go : Place s.memory.objects o.0 → contents_at s.memory.objects o.0 ≡ contents_of (object_of k (name_of s o))
    go (There x f at is) =
        let class : class_at s.memory.objects o.0 ≡ x.class = field_at (λ y. y.class) s.memory.objects o.0 x at in
        let format : format_at s.memory.objects o.0 ≡ x.format = field_at (λ y. y.format) s.memory.objects o.0 x at in
        let slots : slot_count_of s.memory.objects o.0 ≡ length x.words = field_at (λ y. length y.words) s.memory.objects o.0 x at in
        let first : slot_of s.memory.objects o.0 0 ≡ slice_index x.words 0 = field_at (λ y. slice_index y.words 0) s.memory.objects o.0 x at in
        let literals : literals_at s.memory.objects o.0 ≡ literal_count (method_header x.words) = ap (λ n. literal_count (unwrap_or (natural_of_word n) 0)) first in
        ap₂ (λ b c. of_parts b c (format_at s.memory.objects o.0) (slot_count_of s.memory.objects o.0) (literals_at s.memory.objects o.0)) is class
        ∙ ap₂ (λ f n. of_parts true x.class f n (literals_at s.memory.objects o.0)) format slots
        ∙ ap (λ l. of_parts true x.class x.format (length x.words) l) literals
        ∙ object_holds s.memory.objects x (object_of k (name_of s o)) (sound_at s.memory.objects o.0 x holds.whole.heap at) (said (Some x) f)
    go (Nowhere f is) =
        ap (λ b. of_parts b (class_at s.memory.objects o.0) (format_at s.memory.objects o.0) (slot_count_of s.memory.objects o.0) (literals_at s.memory.objects o.0)) is ∙ sym (ap contents_of (said None f))

-- ---- as the code reads it

module _ (os : List Object) (w : ℕ) where
  pub at_none : is_object os w ≡ false → Immediate ≡ contents_at os w
  at_none is = sym (ap (λ b. of_parts b (class_at os w) (format_at os w) (slot_count_of os w) (literals_at os w)) is)

  other_class : (c : ℕ) → c ≢ 36 → (c == context_class) ≡ false
  other_class c h = grind (arith, nat_tests, h)

  pub at_context : is_object os w ≡ true → class_at os w ≡ 36 → Context ≡ contents_at os w
  at_context is class = sym (ap₂ (λ b c. of_parts b c (format_at os w) (slot_count_of os w) (literals_at os w)) is class)

  behind_class : is_object os w ≡ true → class_at os w ≢ 36 → contents_at os w ≡ of_format (format_at os w) (slot_count_of os w) (literals_at os w)
  behind_class is other =
      ap (λ b. of_parts b (class_at os w) (format_at os w) (slot_count_of os w) (literals_at os w)) is
      ∙ ap (λ (b : Bool). if b then Context else of_format (format_at os w) (slot_count_of os w) (literals_at os w)) (other_class (class_at os w) other)

  pub at_slots : is_object os w ≡ true → class_at os w ≢ 36 → format_at os w < 6 → Slots (format_at os w) (slot_count_of os w) ≡ contents_at os w
  at_slots is other few = sym (behind_class is other ∙ ap (λ (b : Bool). if b then Slots (format_at os w) (slot_count_of os w) else of_bits (format_at os w) (slot_count_of os w) (literals_at os w)) (pointers (format_at os w) few))
    where
      pointers : (f : ℕ) → f < 6 → is_pointers f ≡ true
      pointers f l = grind (arith, nat_tests)

  behind_format : is_object os w ≡ true → class_at os w ≢ 36 → 6 ≤ format_at os w → contents_at os w ≡ of_bits (format_at os w) (slot_count_of os w) (literals_at os w)
  behind_format is other many =
      behind_class is other ∙ ap (λ (b : Bool). if b then Slots (format_at os w) (slot_count_of os w) else of_bits (format_at os w) (slot_count_of os w) (literals_at os w)) (no_pointers (format_at os w) many)
    where
      no_pointers : (f : ℕ) → 6 ≤ f → is_pointers f ≡ false
      no_pointers f l = grind (arith, nat_tests)

  pub at_bytes : is_object os w ≡ true → class_at os w ≢ 36 → 6 ≤ format_at os w → format_at os w < 24 → Bytes (format_at os w) (4 * slot_count_of os w - unused_bytes (format_at os w)) ≡ contents_at os w
  at_bytes is other many few =
      sym (behind_format is other many ∙ ap (λ (b : Bool). if b then Code (literals_at os w) (4 * (slot_count_of os w - (1 + literals_at os w)) - unused_bytes (format_at os w))
      else Bytes (format_at os w) (4 * slot_count_of os w - unused_bytes (format_at os w))) (no_code (format_at os w) few))
    where
      no_code : (f : ℕ) → f < 24 → is_code f ≡ false
      no_code f l = grind (arith, nat_tests)

  pub at_code : is_object os w ≡ true → class_at os w ≢ 36 → is_code (format_at os w) ≡ true → 24 ≤ format_at os w
      → Code (literals_at os w) (4 * (slot_count_of os w - (1 + literals_at os w)) - unused_bytes (format_at os w)) ≡ contents_at os w
  at_code is other code many =
      sym (behind_format is other (omega (arith, many)) ∙ ap (λ (b : Bool). if b then Code (literals_at os w) (4 * (slot_count_of os w - (1 + literals_at os w)) - unused_bytes (format_at os w))
      else Bytes (format_at os w) (4 * slot_count_of os w - unused_bytes (format_at os w))) code)

pub code_format : (format slots : ℕ) → format_allows format slots ≡ true → 24 ≤ format → is_code format ≡ true
code_format format slots h l = grind (arith, nat_tests, h)

-- the header and the literals of a method have slots, and so have its unused bytes
pub record CodeFits (os : List Object) (w : ℕ) : Type 0 where
  pub literals : 1 + literals_at os w ≤ slot_count_of os w
  pub unused : unused_bytes (format_at os w) ≤ 4 * (slot_count_of os w - (1 + literals_at os w))

pub code_fits : (s : Store) (k : Kept) (m : Memory) (w : ℕ) → m ≡ s.memory → Holds s k → is_object m.objects w ≡ true → is_code (format_at m.objects w) ≡ true → CodeFits m.objects w
code_fits s k m w e holds there code =
    subst (λ (n : Memory). CodeFits n.objects w) (sym e) (here (subst (λ (n : Memory). is_object n.objects w ≡ true) e there) (subst (λ (n : Memory). is_code (format_at n.objects w) ≡ true) e code))
  where
    few : (f : ℕ) → is_code f ≡ true → unused_bytes f < 4
    few f h = grind (arith, nat_tests)

    none : (u : ℕ) → nat_lt 0 u ≡ false → u ≡ 0
    none u e = grind (arith, nat_tests)

    needed : (u count long : ℕ) (b : Bool) → nat_lt 0 u ≡ b → u < 4 → count + (if b then 1 else 0) < long → u ≤ 4 * (long - (1 + count))
    needed u count long true e l h = omega (arith, l, h)
    needed u count long false e l h = omega (arith, none u e)

    here : is_object s.memory.objects w ≡ true → is_code (format_at s.memory.objects w) ≡ true → CodeFits s.memory.objects w
    here there code =
        let x = object_there s.memory.objects w there in
        let format : format_at s.memory.objects w ≡ x.0.format = field_at (λ y. y.format) s.memory.objects w x.0 x.1 in
        let slots : slot_count_of s.memory.objects w ≡ length x.0.words = field_at (λ y. length y.words) s.memory.objects w x.0 x.1 in
        let first : slot_of s.memory.objects w 0 ≡ slice_index x.0.words 0 = field_at (λ y. slice_index y.words 0) s.memory.objects w x.0 x.1 in
        let literals : literals_at s.memory.objects w ≡ literal_count (method_header x.0.words) = ap (λ n. literal_count (unwrap_or (natural_of_word n) 0)) first in
        let code' : is_code x.0.format ≡ true = sym (ap is_code format) ∙ code in
        let unused : unused_bytes (format_at s.memory.objects w) ≡ unused_bytes x.0.format = ap unused_bytes format in
        let sound = (sound_at s.memory.objects w x.0 holds.whole.heap x.1).method code' in
        let fits = needed (unused_bytes x.0.format) (literal_count (method_header x.0.words)) (length x.0.words) (nat_lt 0 (unused_bytes x.0.format)) refl (few x.0.format code') sound.literals in
        record { literals = omega (arith, literals, slots, sound.literals); unused = omega (arith, unused, literals, slots, fits) }
