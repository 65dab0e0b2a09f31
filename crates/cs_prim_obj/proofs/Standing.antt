-- The bytes of an object as they stand in the heap.
use Rattle.std.proofs.Common.{◌≡◌, ◌∙◌, ℕ, ◌+◌, ◌-◌, ◌*◌, ◌/◌, ◌%◌, ◌<◌, ◌≤◌, true, refl, sym, ap, subst, arith, Option, Some, None, List, [], length, length-take, length-drop, drop}
use Rattle.std.specs.Prelude.{slice_index}
use Rattle.std.proofs.lemmas.List.{get_or-take, length-map}
use Rattle.cs_word.specs.declared.Oop.{Oop}
use Rattle.cs_heap.specs.Object.{Memory, Object, byte_of, slot_count_of, slot_of}
use Rattle.cs_classes.specs.Meaning.{code_in, literal_words, method_header, ref_of}
use Rattle.cs_classes.specs.Sound.{IsSoundObject}
use Rattle.cs_classes.proofs.Sorts.{AContext, AMethod, Bytes as RawBytes, Pointers, Sort, sort_of, obj_of-bytes, obj_of-method, obj_of-pointers}
use Rattle.cs_classes.proofs.Sounds.{sound_at}
use Rattle.cs_model.specs.Words.{byte_in, bytes_of_words, unused_bytes}
use Rattle.cs_model.specs.Obj as obj
use Rattle.cs_model.specs.Obj.{Obj, Ptr, Raw, Method, Ctx, is_context_at, literal_count}
use Rattle.cs_model.specs.State.{Kept, object_of}
use Rattle.cs_acts.specs.Names.{IsNamed, Store, name_of}
use Rattle.cs_acts.specs.Reading.{object_named}
use Rattle.cs_acts.specs.Ready.{Holds, writable_bytes}
use Rattle.cs_acts.proofs.Headers.{method_in}
use Rattle.cs_acts.proofs.Held.{Says, says}
use Rattle.cs_acts.proofs.Methods.{code_byte, get_or-bytes_of, length-literals}
use Rattle.cs_acts.proofs.Named.{Place, There, Nowhere, field_at, place}
use Rattle.cs_prim_obj.specs.declared.contents.Contents.{Contents}
use Rattle.cs_prim_obj.specs.Contents.{amount_in, contents_of}
use Rattle.cs_prim_obj.proofs.Indexing.{StandFrom, bytes_in, front_in}

no_bytes : (o : Option Obj) → is_context_at o ≡ true → length (bytes_in o) ≡ 0
no_bytes None e = refl
no_bytes (Some (Ptr head slots)) e = refl
no_bytes (Some (Raw head bytes)) e = absurd (cc)
no_bytes (Some (Method head header literals bytecodes)) e = absurd (cc)
no_bytes (Some (Ctx c)) e = refl

none_stand : (os : List Object) (w from : ℕ) (bytes : List ℕ) → length bytes ≡ 0 → StandFrom os w from bytes
none_stand os w from bytes e = λ i l. absurd (omega (arith, e, l))

pub bytes_stand : (s : Store) (k : Kept) (m : Memory) (o : Oop) → m ≡ s.memory → Holds s k → IsNamed s o
    → StandFrom m.objects o.0 (front_in (contents_of (object_of k (name_of s o)))) (bytes_in (object_of k (name_of s o)))
bytes_stand s k m o e holds named = subst (λ (n : Memory). StandFrom n.objects o.0 (front_in (contents_of (object_of k (name_of s o)))) (bytes_in (object_of k (name_of s o)))) (sym e) (go (place s.memory.objects o.0))
  where
    said : (p : Option Object) → object_named s.memory.objects o.0 ≡ p → Says (ref_of s.memory.objects) p (object_of k (name_of s o))
    said p f = subst (λ q. Says (ref_of s.memory.objects) q (object_of k (name_of s o))) f (says s k o holds named)

    by : (p : Option Obj) → (object_of k (name_of s o)) ≡ p → StandFrom s.memory.objects o.0 (front_in (contents_of p)) (bytes_in p) → StandFrom s.memory.objects o.0 (front_in (contents_of (object_of k (name_of s o)))) (bytes_in (object_of k (name_of s o)))
    by p is stand = subst (λ q. StandFrom s.memory.objects o.0 (front_in (contents_of q)) (bytes_in q)) (sym is) stand

    sorted : (y : Object) → IsSoundObject s.memory.objects y → ((i : ℕ) → slot_of s.memory.objects o.0 i ≡ slice_index y.words i) → Says (ref_of s.memory.objects) (Some y) (object_of k (name_of s o)) → Sort y → StandFrom s.memory.objects o.0 (front_in (contents_of (object_of k (name_of s o)))) (bytes_in (object_of k (name_of s o)))
    sorted y sound slot told (AContext c) = none_stand s.memory.objects o.0 (front_in (contents_of (object_of k (name_of s o)))) (bytes_in (object_of k (name_of s o))) (no_bytes (object_of k (name_of s o)) (told.1 c))
    sorted y sound slot told (Pointers a p) = by _ (told.0 a ∙ ap Some (obj_of-pointers (ref_of s.memory.objects) y a p)) (none_stand s.memory.objects o.0 0 [] refl)
    sorted y sound slot told (AMethod a p f) =
        let is = told.0 a ∙ ap Some (obj_of-method (ref_of s.memory.objects) y a p f) in
        let at = method_in s k s.memory o refl holds (record { named = named; method = ap obj.is_method is }) in
        by _ at.means (λ i l. ap (λ n. byte_of s.memory.objects o.0 (4 * (n + 1) + i)) (omega (arith, length-map (literal_words at.object.words) (ref_of s.memory.objects), length-literals s.memory.objects (object_of k (name_of s o)) o.0 at)) ∙ sym (code_byte s.memory.objects (object_of k (name_of s o)) o.0 at i l))
    sorted y sound slot told (RawBytes a p f) =
        by _ (told.0 a ∙ ap Some (obj_of-bytes (ref_of s.memory.objects) y a p f)) (λ i l.
        let within : i < 4 * length y.words - unused_bytes y.format = omega (arith, l, length-take (4 * length y.words - unused_bytes y.format) (bytes_of_words y.words)) in
        let first : 0 + i ≡ i = omega arith in
        ap (byte_of s.memory.objects o.0) first ∙ ap (λ v. byte_in v (i % 4)) (slot (i / 4))
        ∙ sym (get_or-take (4 * length y.words - unused_bytes y.format) (bytes_of_words y.words) i 0 within ∙ get_or-bytes_of y.words i (omega (arith, within))))

    go : Place s.memory.objects o.0 → StandFrom s.memory.objects o.0 (front_in (contents_of (object_of k (name_of s o)))) (bytes_in (object_of k (name_of s o)))
    go (There y f at is) = sorted y (sound_at s.memory.objects o.0 y holds.whole.heap at) (λ i. field_at (λ z. slice_index z.words i) s.memory.objects o.0 y at) (said (Some y) f) (sort_of y)
    go (Nowhere f is) = by None (said None f) (none_stand s.memory.objects o.0 0 [] refl)

pub byte_small : (os : List Object) (w i : ℕ) → byte_of os w i < 256
byte_small os w i = omega (arith)

-- as many bytes as the object holds lie in its slots
pub amount_read : (s : Store) (k : Kept) (m : Memory) (o : Oop) → m ≡ s.memory → Holds s k → IsNamed s o → amount_in (contents_of (object_of k (name_of s o))) ≤ 4 * slot_count_of m.objects o.0
amount_read s k m o e holds named = subst (λ (n : Memory). amount_in (contents_of (object_of k (name_of s o))) ≤ 4 * slot_count_of n.objects o.0) (sym e) (go (place s.memory.objects o.0))
  where
    said : (p : Option Object) → object_named s.memory.objects o.0 ≡ p → Says (ref_of s.memory.objects) p (object_of k (name_of s o))
    said p f = subst (λ q. Says (ref_of s.memory.objects) q (object_of k (name_of s o))) f (says s k o holds named)

    context_none : (p : Option Obj) → is_context_at p ≡ true → amount_in (contents_of p) ≡ 0
    context_none None h = refl
    context_none (Some (Ptr head slots)) h = absurd (cc)
    context_none (Some (Raw head bytes)) h = absurd (cc)
    context_none (Some (Method head header literals bytecodes)) h = absurd (cc)
    context_none (Some (Ctx c)) h = refl

    sorted : (y : Object) → IsSoundObject s.memory.objects y → slot_count_of s.memory.objects o.0 ≡ length y.words → Says (ref_of s.memory.objects) (Some y) (object_of k (name_of s o)) → Sort y → amount_in (contents_of (object_of k (name_of s o))) ≤ 4 * slot_count_of s.memory.objects o.0
    sorted y sound count told (AContext c) = omega (arith, context_none (object_of k (name_of s o)) (told.1 c))
    sorted y sound count told (Pointers a p) =
        let is = ap (λ q. amount_in (contents_of q)) (told.0 a ∙ ap Some (obj_of-pointers (ref_of s.memory.objects) y a p)) in
        omega (arith, is, length-map y.words (ref_of s.memory.objects), count)
    sorted y sound count told (AMethod a p f) =
        let is = ap (λ q. amount_in (contents_of q)) (told.0 a ∙ ap Some (obj_of-method (ref_of s.memory.objects) y a p f)) in
        let n : ℕ = literal_count (method_header y.words) in
        let bytes = length-take (4 * length (code_in y.words) - unused_bytes y.format) (bytes_of_words (code_in y.words)) in
        omega (arith, is, length-map (literal_words y.words) (ref_of s.memory.objects), length-take n (drop 1 y.words), length-drop 1 y.words, (sound.method f).literals, bytes, length-drop (1 + n) y.words, count)
    sorted y sound count told (RawBytes a p f) =
        let is = ap (λ q. amount_in (contents_of q)) (told.0 a ∙ ap Some (obj_of-bytes (ref_of s.memory.objects) y a p f)) in
        let bytes = length-take (4 * length y.words - unused_bytes y.format) (bytes_of_words y.words) in
        omega (arith, is, bytes, count)

    go : Place s.memory.objects o.0 → amount_in (contents_of (object_of k (name_of s o))) ≤ 4 * slot_count_of s.memory.objects o.0
    go (There y f at is) = sorted y (sound_at s.memory.objects o.0 y holds.whole.heap at) (field_at (λ z. length z.words) s.memory.objects o.0 y at) (said (Some y) f) (sort_of y)
    go (Nowhere f is) = omega (arith, ap (λ q. amount_in (contents_of q)) (said None f))

-- however what it holds was read
pub stand_by : (s : Store) (k : Kept) (m : Memory) (o : Oop) → m ≡ s.memory → Holds s k → IsNamed s o → (c : Contents) → c ≡ contents_of (object_of k (name_of s o)) → StandFrom m.objects o.0 (front_in c) (bytes_in (object_of k (name_of s o)))
stand_by s k m o e holds named c is = subst (λ d. StandFrom m.objects o.0 (front_in d) (bytes_in (object_of k (name_of s o)))) (sym is) (bytes_stand s k m o e holds named)

-- the bytes of an object are among what it holds
pub bytes_within : (o : Option Obj) → writable_bytes o ≤ amount_in (contents_of o)
bytes_within None = omega arith
bytes_within (Some (Ptr head slots)) = omega arith
bytes_within (Some (Raw head bytes)) = omega arith
bytes_within (Some (Method head header literals bytecodes)) = omega arith
bytes_within (Some (Ctx c)) = omega arith
