-- The header and the literals of a method, as the heap tells them.
use Rattle.std.proofs.Common.{◌≡◌, ◌∙◌, ℕ, zero, suc, ◌+◌, ◌<◌, ◌≤◌, true, refl, sym, ap, subst, arith, Option, Some, None, List, ◌∷◌, length, map, pos, negsuc}
use Rattle.std.specs.Prelude.{slice_get, slice_index}
use Rattle.std.proofs.lemmas.List.{length-map}
use Rattle.std.proofs.lemmas.Option.{slice_get_past}
use Rattle.cs_word.specs.declared.Oop.{Oop}
use Rattle.cs_word.specs.declared.Kind.{Kind}
use Rattle.cs_word.specs.declared.Kind.TheVariants as kind
use Rattle.cs_word.specs.Word.{kind_of, natural_by_kind, natural_of_word}
use Rattle.cs_word.proofs.Words.{natural_of_word-kind}
use Rattle.cs_heap.specs.Object.{Memory, Object, slot_count_of, slot_of}
use Rattle.cs_classes.specs.Meaning.{literal_words, method_header, ref_of, ref_of_kind}
use Rattle.cs_classes.specs.Sound.{is_reference, is_reference_kind}
use Rattle.cs_model.specs.Obj as obj
use Rattle.cs_model.specs.Obj.{Obj, Ptr, Raw, Method, Ctx, literal_count}
use Rattle.cs_model.specs.PrimObject.{method_slot}
use Rattle.cs_model.specs.Ref.{Small}
use Rattle.cs_model.specs.State.{Kept, object_of}
use Rattle.cs_acts.specs.Names.{IsNamed, NamesOption, Store, name_of}
use Rattle.cs_acts.specs.Ready.{Holds}
use Rattle.cs_acts.proofs.Headers.{method_in}
use Rattle.cs_acts.proofs.Methods.{IsMethodAt, field_is, length-literals, literal_is, literal_named, literals_fit, parts}
use Rattle.cs_prim_obj.specs.Contents.{contents_of, literals_held}

-- a word that says a number
record IsNumberWord (os : List Object) (w n : ℕ) : Type 0 where
  pub named : is_reference os w ≡ true
  pub is : ref_of os w ≡ Small (pos n)

number_word : (os : List Object) (w n : ℕ) → natural_of_word w ≡ Some n → IsNumberWord os w n
unfolding ref_of is_reference
number_word os w n e = go (kind_of w) refl (sym (natural_of_word-kind w) ∙ e)
  where
    go : (p : Kind) → kind_of w ≡ p → natural_by_kind p ≡ Some n → IsNumberWord os w n
    go (kind.Small (pos m)) f h = record { named = ap (is_reference_kind os) f; is = ap (ref_of_kind os) f ∙ cc }
    go (kind.Small (negsuc m)) f h = absurd (cc)
    go (kind.Character code) f h = absurd (cc)
    go (kind.Object address) f h = absurd (cc)
    go (kind.Link word) f h = absurd (cc)

is_code_held : (o : Option Obj) (n : ℕ) → literals_held (contents_of o) ≡ Some n → obj.is_method o ≡ true
is_code_held None n e = absurd (cc)
is_code_held (Some (Ptr head slots)) n e = absurd (cc)
is_code_held (Some (Raw head bytes)) n e = absurd (cc)
is_code_held (Some (Method head header literals bytecodes)) n e = refl
is_code_held (Some (Ctx c)) n e = absurd (cc)

pub no_literal : (o : Option Obj) (i : ℕ) → literals_held (contents_of o) ≡ None → method_slot o i ≡ None
no_literal None i e = refl
no_literal (Some (Ptr head slots)) i e = refl
no_literal (Some (Raw head bytes)) i e = refl
no_literal (Some (Method head header literals bytecodes)) i e = absurd (cc)
no_literal (Some (Ctx c)) i e = refl

pub past_literals : (o : Option Obj) (i n : ℕ) → literals_held (contents_of o) ≡ Some n → n < i → method_slot o i ≡ None
past_literals None i n e l = refl
past_literals (Some (Ptr head slots)) i n e l = refl
past_literals (Some (Raw head bytes)) i n e l = refl
past_literals (Some (Method head header literals bytecodes)) i n e l =
    let count : length literals ≡ n = cc in slice_get_past (Small (pos header) ∷ literals) i (omega (arith, count, l))
past_literals (Some (Ctx c)) i n e l = refl

module _ (s : Store) (k : Kept) (m : Memory) (o : Oop) (e : m ≡ s.memory) (holds : Holds s k) (named : IsNamed s o) (n : ℕ) (held : literals_held (contents_of (object_of k (name_of s o))) ≡ Some n) where
  abbrev os : List Object
  os = s.memory.objects

  abbrev x : Option Obj
  x = object_of k (name_of s o)

  at : IsMethodAt os x o.0
  at = method_in s k s.memory o refl holds (record { named = named; method = is_code_held x n held })

  count_is : n ≡ literal_count (method_header at.object.words)
  count_is =
      let same : literals_held (contents_of x) ≡ Some (length (map (ref_of os) (literal_words at.object.words))) = ap (λ q. literals_held (contents_of q)) at.means in
      let is : n ≡ length (map (ref_of os) (literal_words at.object.words)) = let f = sym held ∙ same in cc in
      omega (arith, is, length-map (literal_words at.object.words) (ref_of os), length-literals os x o.0 at)

  pub literal_there : (i : ℕ) → i ≤ n → i < slot_count_of m.objects o.0
  literal_there i l = subst (λ (h : Memory). i < slot_count_of h.objects o.0) (sym e) (omega (arith, l, count_is, literals_fit os x o.0 at, field_is os x o.0 at (λ y. length y.words)))

  pub literal_named_by : (i : ℕ) (v : Oop) → i ≤ n → v.0 ≡ slot_of m.objects o.0 i → NamesOption s (Some v) (method_slot x i)
  literal_named_by i v l f = subst (λ q. NamesOption s (Some v) (method_slot q i)) (sym at.means) (go i l (f ∙ ap (λ (h : Memory). slot_of h.objects o.0 i) e))
    where
      go : (i : ℕ) → i ≤ n → v.0 ≡ slot_of os o.0 i
          → NamesOption s (Some v) (slice_get (Small (pos (method_header at.object.words)) ∷ map (ref_of os) (literal_words at.object.words)) i)
      go zero l f =
          let word = number_word os (slot_of os o.0 0) (method_header at.object.words) (ap natural_of_word (field_is os x o.0 at (λ y. slice_index y.words 0)) ∙ (parts os x o.0 at).header) in
          record { sound = subst (λ w. is_reference os w ≡ true) (sym f) word.named; is = ap (λ w. Some (ref_of os w)) f ∙ ap Some word.is }
      go (suc i) l f =
          let less : i < literal_count (method_header at.object.words) = omega (arith, l, count_is) in
          let f' : v.0 ≡ slot_of os o.0 (i + 1) = f ∙ ap (slot_of os o.0) (omega arith) in
          record { sound = subst (λ w. is_reference os w ≡ true) (sym f') (literal_named os x o.0 at i less); is = ap (λ w. Some (ref_of os w)) f' ∙ sym (literal_is os x o.0 at i less) }
