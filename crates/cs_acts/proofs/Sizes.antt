-- How large slots and pcs can be in a heap of at most 2^26 words.
use Rattle.std.proofs.Common.{◌≡◌, ℕ, ◌+◌, ◌*◌, ◌-◌, ◌<◌, ◌≤◌, ◌^◌, Bool, true, false, refl, sym, ap, subst, ◌∙◌, suc, zero, Option, Some, None, List, [], ◌∷◌, length, map, drop, length-take, length-drop, arith}
use Rattle.std.specs.Prelude.{slice_get}
use Rattle.std.proofs.lemmas.List.{length-map}
use Rattle.std.proofs.lemmas.List.Sums.{sum_by-cons}
use Rattle.std.proofs.lemmas.Bool.Decides.{nat_tests}
use Rattle.cs_model.specs.Words.{bytes_of_words, unused_bytes}
use Rattle.cs_word.specs.declared.Oop.{Oop}
use Rattle.cs_word.specs.declared.Kind.{Kind}
use Rattle.cs_word.specs.declared.Kind.TheVariants as kind
use Rattle.cs_word.specs.Word.{kind_of}
use Rattle.cs_heap.specs.Object.{Object, size, slot_counts, used}
use Rattle.cs_classes.specs.Meaning.{code_in, method_header, is_heap_context, literal_words, method_meaning, obj_of, ref_of, used_bytes, head_of}
use Rattle.cs_classes.proofs.Counting.{length-bytes_of}
use Rattle.cs_classes.proofs.Heaps.{stands}
use Rattle.cs_classes.proofs.Sorts.{AContext, AMethod, Bytes, Pointers, Sort, obj_of-bytes, obj_of-method, obj_of-pointers, sort_of}
use Rattle.cs_model.specs.Ref.{Ref}
use Rattle.cs_model.specs.Obj.{Obj, Ctx, Method, Ptr, Raw, is_context_at, lies_in, literal_count}
use Rattle.cs_model.specs.State.{Kept, object_of}
use Rattle.cs_acts.specs.Names.{IsNamed, Store, name_of}
use Rattle.cs_acts.specs.Ready.{Holds}
use Rattle.cs_acts.specs.Reading.{object_named, object_of_kind}
use Rattle.cs_acts.proofs.Held.{Says, says}

slots-size : (n : ℕ) → n ≤ size n
slots-size n = grind (arith, nat_tests)

-- an object has no more slots than the heap has words
slots-used : (os : List Object) (k : ℕ) (x : Object) → slice_get os k ≡ Some x → length x.words ≤ used os
slots-used [] k x h = absurd (cc)
slots-used (y ∷ os) zero x h = let is : y ≡ x = cc in subst (λ z. length z.words ≤ used (y ∷ os)) is (omega (arith, sum_by-cons size (length y.words) (slot_counts os), slots-size (length y.words)))
slots-used (y ∷ os) (suc k) x h = omega (arith, sum_by-cons size (length y.words) (slot_counts os), slots-used os k x h)

-- a pc that lies in a method is at most 4 for each of its words and 5
method-pc : (refer : ℕ → Ref) (x : Object) (pc : ℕ) → lies_in (Some (method_meaning refer x)) pc ≡ true → pc ≤ 4 * length x.words + 5
unfolding method_meaning
method-pc refer x pc h =
    let lits : length (map refer (literal_words x.words)) ≡ length (literal_words x.words) = length-map (literal_words x.words) refer in
    let few = length-take (literal_count (method_header x.words)) (drop 1 x.words) in
    let behind = length-drop 1 x.words in
    let code = length-take (4 * length (code_in x.words) - unused_bytes x.format) (bytes_of_words (code_in x.words)) in
    let rest = length-drop (1 + literal_count (method_header x.words)) x.words in
    let bytes = length-bytes_of (code_in x.words) in
    grind (arith, nat_tests, h, lits, few, behind, code, rest, bytes)

-- where a pc lies, a method stands in the heap
lies-object : (refer : ℕ → Ref) (x : Object) (pc : ℕ) → Sort x → is_heap_context x ≡ false → lies_in (Some (obj_of refer x)) pc ≡ true → pc ≤ 4 * length x.words + 5
unfolding method_meaning
lies-object refer x pc (AContext c) other h = absurd (cc)
lies-object refer x pc (Pointers o p) other h = absurd (let e : lies_in (Some (Ptr (head_of x) (map refer x.words))) pc ≡ true = ap (λ y. lies_in (Some y) pc) (sym (obj_of-pointers refer x o p)) ∙ h in cc)
lies-object refer x pc (AMethod o p m) other h = method-pc refer x pc (ap (λ y. lies_in (Some y) pc) (sym (obj_of-method refer x o p m)) ∙ h)
lies-object refer x pc (Bytes o p m) other h = absurd (let e : lies_in (Some (Raw (head_of x) (used_bytes x.format x.words))) pc ≡ true = ap (λ y. lies_in (Some y) pc) (sym (obj_of-bytes refer x o p m)) ∙ h in cc)

no_pc : (o : Option Obj) (pc : ℕ) → is_context_at o ≡ true → lies_in o pc ≡ true → ⊥
no_pc None pc c h = absurd (cc)
no_pc (Some (Ptr head slots)) pc c h = absurd (cc)
no_pc (Some (Raw head bytes)) pc c h = absurd (cc)
no_pc (Some (Method head header literals bytecodes)) pc c h = absurd (cc)
no_pc (Some (Ctx d)) pc c h = absurd (cc)

said-pc : (os : List Object) (p : Option Object) (o : Option Obj) (pc : ℕ) → Says (ref_of os) p o → lies_in o pc ≡ true → ((x : Object) → p ≡ Some x → length x.words ≤ used os) → pc ≤ 4 * used os + 5
said-pc os None o pc says h few = absurd (let e : lies_in None pc ≡ true = ap (λ q. lies_in q pc) (sym says) ∙ h in cc)
said-pc os (Some x) o pc says h few = go (is_heap_context x) refl
  where
    go : (c : Bool) → is_heap_context x ≡ c → pc ≤ 4 * used os + 5
    go true e = absurd (no_pc o pc (says.1 e) h)
    go false e = omega (arith, few x refl, lies-object (ref_of os) x pc (sort_of x) e (ap (λ q. lies_in q pc) (sym (says.0 e)) ∙ h))

named-few : (os : List Object) (w : Kind) (x : Object) → object_of_kind os w ≡ Some x → length x.words ≤ used os
named-few os (kind.Small value) x h = absurd (cc)
named-few os (kind.Character code) x h = absurd (cc)
named-few os (kind.Object address) x h = let s = stands os address x h in slots-used os s.0 x s.1.element
named-few os (kind.Link word) x h = absurd (cc)

-- a pc that lies in the method that a word names is a SmallInteger
pub pc_small : (s : Store) (k : Kept) (o : Oop) (pc : ℕ) → Holds s k → IsNamed s o → lies_in (object_of k (name_of s o)) pc ≡ true → pc < 2 ^ 29
pc_small s k o pc h named lies =
    let few = said-pc s.memory.objects (object_named s.memory.objects o.0) (object_of k (name_of s o)) pc (says s k o h named) lies
    (λ x e. named-few s.memory.objects (kind_of o.0) x e) in
    omega (arith, few, h.within, h.most)
