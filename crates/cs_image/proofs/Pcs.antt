-- The pcs of an image that loads: each context has none, or one that lies in its method. And its births are few.
use Rattle.std.proofs.Common.{◌≡◌, ℕ, ◌%◌, ◌≤◌, ◌==◌, Bool, true, false, List, [], ◌∷◌, length, map, slice_get, slice_index, Option, Some, None, refl, ap, sym, subst, ◌∙◌, arith}
use Rattle.std.specs.FinMap.{FinMap, get}
use Rattle.std.specs.Ordering.{nat_cmp}
use Rattle.std.specs.List.{sum_by}
use Rattle.std.proofs.lemmas.Bool.Decides.{nat_tests}
use Rattle.std.proofs.lemmas.List.Sums.{sum_by-cons}
use Rattle.cs_model.specs.Ref.{Ref}
use Rattle.cs_model.specs.Image.{head_in}
use Rattle.cs_model.specs.Obj.{Obj, Head, Context, Ptr, Raw, Method, Ctx, context_class, lies_in, words_of_slots}
use Rattle.cs_model.specs.State.{Kept, PcLies, object_at, object_of}
use Rattle.cs_model.specs.Words.{bytecodes_in_words, bytes_in_words, context_by, header_in_words, is_method_format, is_pointer_format, literals_in_words, natural_in_word, obj_by, plain, ref_by}
use Rattle.cs_model.specs.ImageFile.{FileObject, File, file_of, old_base, special_address, visible}
use Rattle.cs_model.specs.ImageFault.{is_lost, is_over}
use Rattle.cs_heap.specs.Object.{Object}
use Rattle.cs_classes.specs.Meaning.{kept_of, obj_of, ref_of}
use Rattle.cs_classes.specs.declared.Roots.{Roots}
use Rattle.cs_classes.proofs.Objects.{objects_of-comes}
use Rattle.cs_image.specs.Loading.{loaded_from}
use Rattle.cs_image.proofs.Wording.{memory_of, meant}
use Rattle.cs_image.proofs.Elements.{object_same}
use Rattle.cs_image.proofs.Soundness.{IsSoundFile, context_at, fine_at, seven}
use Rattle.cs_image.proofs.Describing.{IsBuilt, built_roots}
use Rattle.cs_image.proofs.Wholeness.{ground_of, loaded_at}
use Rattle.cs_image.proofs.Opening.{HasFile, equal, has_file, method_held, not_nil, or_second, slot}

pub record IsContextOf (named : ℕ → Ref) (head : Head) (words : List ℕ) (c : Context) : Type 0 where
  pub class_is : (head.class == context_class) ≡ true
  pub is : context_by named head.hash words ≡ c

pub context_of_words : (named : ℕ → Ref) (head : Head) (words : List ℕ) (c : Context) → obj_by named head words ≡ Ctx c → IsContextOf named head words c
unfolding obj_by
context_of_words named head words c h = go (head.class == context_class) (is_pointer_format head.format) (is_method_format head.format) refl refl refl
  where
    as_context : Ctx (context_by named head.hash words) ≡ Ctx c → context_by named head.hash words ≡ c
    as_context e = cc

    go : (a p m : Bool) → (head.class == context_class) ≡ a → is_pointer_format head.format ≡ p → is_method_format head.format ≡ m → IsContextOf named head words c
    go true p m ea ep em =
        let is : obj_by named head words ≡ Ctx (context_by named head.hash words) = rw ea refl in
        record { class_is = ea; is = as_context (sym is ∙ h) }
    go false true m ea ep em =
        let is : obj_by named head words ≡ Ptr (plain head) (map (ref_by named) words) = rw (ea, ep) refl in
        let no : Ptr (plain head) (map (ref_by named) words) ≡ Ctx c = sym is ∙ h in
        absurd (cc)
    go false false true ea ep em =
        let is : obj_by named head words ≡ Method head (header_in_words words) (map (ref_by named) (literals_in_words words)) (bytecodes_in_words head.format words) = rw (ea, ep, em) refl in
        let no : Method head (header_in_words words) (map (ref_by named) (literals_in_words words)) (bytecodes_in_words head.format words) ≡ Ctx c = sym is ∙ h in
        absurd (cc)
    go false false false ea ep em =
        let is : obj_by named head words ≡ Raw head (bytes_in_words head.format words) = rw (ea, ep, em) refl in
        let no : Raw head (bytes_in_words head.format words) ≡ Ctx c = sym is ∙ h in
        absurd (cc)

-- an object of the state is one of the file
pub record FromFile (births : List ℕ) (f : File) (o : Obj) : Type 0 where
  pub place : ℕ
  pub object : FileObject
  pub there : slice_get (visible f) place ≡ Some object
  pub means : obj_by (meant births f) (head_in object) object.words ≡ o

pub from_file : (births : List ℕ) (f : File) (special : ℕ) (k : Kept) → HasFile births f special k → (i : ℕ) (o : Obj) → object_at k i ≡ Some o → FromFile births f o
from_file births f special k h i o there =
    let from = objects_of-comes (memory_of births f) i o h.sound.apart (ap (λ (m : FinMap nat_cmp Obj). get m i) (sym h.objects) ∙ there) in
    let a = loaded_at births f from.place from.object from.element in
    record {
      place = from.place;
      object = a.o;
      there = a.there;
      means = sym (object_same births f (slice_index births from.place) a.o (fine_at f special from.place a.o h.ground_of.sound a.there)) ∙ ap (obj_of (ref_of (memory_of births f))) a.is ∙ from.meaning;
    }

-- a pc of a context of the file lies in its method
pub file_pcs : (births : List ℕ) (f : File) (special : ℕ) (k : Kept) → HasFile births f special k → (i : ℕ) (c : Context) → object_at k i ≡ Some (Ctx c) → PcLies k c
file_pcs births f special k h i c there pc live =
    let a = from_file births f special k h i (Ctx c) there in
    let o = a.object in
    let fine = fine_at f special a.place o h.ground_of.sound a.there in
    let s = context_of_words (meant births f) (head_in o) o.words c a.means in
    let parts = seven _ _ _ _ _ _ _ (context_at f special a.place o h.ground_of.sound a.there s.class_is) in
    let three : o.format ≡ 3 = equal o.format 3 parts.format in
    let long = (fine.context s.class_is).1 in
    let kept : is_lost f (slot o 3) ≡ false = fine.pointers (ap is_pointer_format three) 3 (omega (arith, long)) in
    let number : natural_in_word (slot o 1) ≡ Some pc = ap (λ (d : Context). d.pc) s.is ∙ live in
    let m = method_held births f special k h (slot o 3) (slot o 1) pc number kept
    (or_second _ _ parts.pc (not_nil f special h.ground_of (slot o 1) pc number)) in
    ap (λ (d : Context). lies_in (object_of k d.method) pc) (sym s.is)
    ∙ ap (λ (x : Ref). lies_in (object_of k x) pc) m.names
    ∙ ap (λ (o : Option Obj). lies_in o pc) m.at
    ∙ m.lies

-- what was built for a file without faults
pub built_pcs : (births : List ℕ) (bytes : List ℕ) (file : File) (objects : List Object) (table : FinMap nat_cmp ℕ) (roots : Roots) → file ≡ file_of bytes → IsBuilt births bytes file objects table roots
    → old_base bytes % 8 ≡ 0 → IsSoundFile (file_of bytes) (special_address bytes)
    → (i : ℕ) (c : Context) → object_at (kept_of objects table roots None) i ≡ Some (Ctx c) → PcLies (kept_of objects table roots None) c
built_pcs births bytes file objects table roots same b base_is s =
    let f : File = file_of bytes in
    let special = special_address bytes in
    let r = built_roots births bytes file objects table roots same b in
    let P : List Object → Type 0 = λ os. (i : ℕ) (c : Context) → object_at (kept_of os table roots None) i ≡ Some (Ctx c) → PcLies (kept_of os table roots None) c in
    subst P (sym (b.objects_are ∙ ap (λ (f : File). loaded_from f births 0 (visible f)) same))
    (file_pcs births f special (kept_of (memory_of births f) table roots None) (has_file births f special table roots (ground_of bytes base_is s) r.special r.known))

-- each object takes a word and more, so the births are at most the words of the limit
pub few_births : (file : File) (limit : ℕ) → is_over file limit ≡ false → length (visible file) ≤ limit
unfolding is_over
few_births file limit h = let least = objects_words (visible file) in grind (arith, nat_tests, h, least)
  where
    objects_words : (os : List FileObject) → length os ≤ sum_by (λ o. words_of_slots (length o.words)) os
    objects_words [] = omega arith
    objects_words (o ∷ os) = let rest = objects_words os in omega (arith, rest, sum_by-cons (λ (x : FileObject). words_of_slots (length x.words)) o os, some (length o.words))
      where
        some : (n : ℕ) → 1 ≤ words_of_slots n
        some n = grind (arith, nat_tests)
