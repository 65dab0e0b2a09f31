-- The first fault of several, and what is told of it.
use Rattle.std.proofs.Common.{◌≡◌, ℕ, ◌+◌, ◌*◌, ◌/◌, ◌%◌, ◌^◌, ◌≤◌, ◌==◌, ◌&&◌, ◌||◌, Bool, true, false, not, List, [], ◌∷◌, ◌++◌, length, Option, Some, None, Result, Err, refl, ap, sym, subst, ◌∙◌, arith, ltb}
use Rattle.std.proofs.lemmas.Bool.Decides.{nat_tests}
use Rattle.std.specs.Option.{option_or}
use Rattle.cs_model.specs.ImageFault.{ImageFault}
use Rattle.cs_model.specs.ImageFault as fault
use Rattle.cs_model.specs.ImageFault.{is_long_file, is_short, is_bad_format, is_bad_header_size, is_bad_profile, is_bad_length, bad_object, is_over, is_bad_table, bad_ref, bad_class, bad_context, is_bad_roots, is_bad_births}
use Rattle.cs_model.specs.ImageFile.{heap_size, old_base, has_births, birth_count, words_in, cut_of, file_of, special_address, visible}
use Rattle.cs_model.specs.Image.{at_word, when, first_of, image_fault}
use Rattle.cs_classes.specs.Sound.{IsImageHeader}
use Rattle.cs_image.specs.declared.error.ImageError.{ImageError}
use Rattle.cs_image.specs.declared.error.ImageError.TheVariants as error
use Rattle.cs_image.specs.Answer.{Tells, header_fault, objects_fault}
use Rattle.cs_image.proofs.Bytes.{length-u32s_at}

first_of-append : (xs ys : List (Option ImageFault)) → first_of (xs ++ ys) ≡ option_or (first_of xs) (first_of ys)
first_of-append [] ys = refl
first_of-append (None ∷ xs) ys = first_of-append xs ys
first_of-append (Some f ∷ xs) ys = refl

-- the faults of a file by the parts of the loader
pub fault_of-parts : (bytes : List ℕ) (limit : ℕ) → image_fault bytes limit ≡ option_or (header_fault bytes)
    (option_or (at_word fault.BadObject (bad_object (cut_of (words_in bytes))))
    (option_or (when (is_over (file_of bytes) limit) fault.OverLimit)
    (option_or (objects_fault (file_of bytes) (special_address bytes))
    (option_or (when (is_bad_births bytes (length (visible (file_of bytes)))) fault.BadBirths) None))))
unfolding image_fault
fault_of-parts bytes limit =
    first_of-append (when (is_long_file bytes) fault.TooLong ∷ when (is_short bytes) fault.Short ∷ when (is_bad_format bytes) fault.BadFormat
    ∷ when (is_bad_header_size bytes) fault.BadHeaderSize ∷ when (is_bad_profile bytes) fault.BadProfile ∷ when (is_bad_length bytes) fault.BadLength ∷ [])
    (at_word fault.BadObject (bad_object (cut_of (words_in bytes))) ∷ when (is_over (file_of bytes) limit) fault.OverLimit ∷ objects ++ births)
    ∙ ap (λ (r : Option ImageFault). option_or (header_fault bytes) (option_or (at_word fault.BadObject (bad_object (cut_of (words_in bytes))))
    (option_or (when (is_over (file_of bytes) limit) fault.OverLimit) r))) (first_of-append objects births)
  where
    objects : List (Option ImageFault)
    objects = when (is_bad_table (file_of bytes)) fault.BadTable ∷ at_word fault.BadRef (bad_ref (file_of bytes)) ∷ at_word fault.BadClass (bad_class (file_of bytes))
        ∷ at_word fault.BadContext (bad_context (file_of bytes)) ∷ when (is_bad_roots (file_of bytes) (special_address bytes)) fault.BadRoots ∷ []

    births : List (Option ImageFault)
    births = when (is_bad_births bytes (length (visible (file_of bytes)))) fault.BadBirths ∷ []

-- what one part tells is told of the whole
pub told_here : {X Y : Type 0} (P : X → Type 0) (Q : Y → Type 0) (first later : Option ImageFault) (e : ImageError)
    → Tells first P (Err e) → Tells (option_or first later) Q (Err e)
told_here P Q first later error.TooLong h = ap (λ (r : Option ImageFault). option_or r later) h
told_here P Q first later error.Short h = ap (λ (r : Option ImageFault). option_or r later) h
told_here P Q first later error.BadFormat h = ap (λ (r : Option ImageFault). option_or r later) h
told_here P Q first later error.BadHeaderSize h = ap (λ (r : Option ImageFault). option_or r later) h
told_here P Q first later error.BadProfile h = ap (λ (r : Option ImageFault). option_or r later) h
told_here P Q first later error.BadLength h = ap (λ (r : Option ImageFault). option_or r later) h
told_here P Q first later (error.BadObject at) h = ap (λ (r : Option ImageFault). option_or r later) h
told_here P Q first later error.OverLimit h = ap (λ (r : Option ImageFault). option_or r later) h
told_here P Q first later error.BadTable h = ap (λ (r : Option ImageFault). option_or r later) h
told_here P Q first later (error.BadRef at) h = ap (λ (r : Option ImageFault). option_or r later) h
told_here P Q first later (error.BadClass at) h = ap (λ (r : Option ImageFault). option_or r later) h
told_here P Q first later (error.BadContext at) h = ap (λ (r : Option ImageFault). option_or r later) h
told_here P Q first later error.BadRoots h = ap (λ (r : Option ImageFault). option_or r later) h
told_here P Q first later error.BadBirths h = ap (λ (r : Option ImageFault). option_or r later) h
told_here P Q first later error.NoMemory h = tt

-- ---- what a header without a fault says

or_none : (a b : Option ImageFault) → option_or a b ≡ None → (a ≡ None) × (b ≡ None)
or_none None b e = (refl, e)
or_none (Some f) b e = absurd (cc)

when_none : (b : Bool) (f : ImageFault) → when b f ≡ None → b ≡ false
when_none true f e = absurd (cc)
when_none false f e = refl

or_false : (a b : Bool) → (a || b) ≡ false → (a ≡ false) × (b ≡ false)
or_false true b e = absurd (cc)
or_false false b e = (refl, e)

pub record IsHeader (bytes : List ℕ) : Type 0 where
  pub image : IsImageHeader bytes
  pub long : 64 ≤ length bytes
  pub short : length bytes ≤ 536870912
  pub whole : heap_size bytes % 8 ≡ 0
  pub base : old_base bytes % 8 ≡ 0
  pub fits : old_base bytes + heap_size bytes ≤ 2 ^ 32
  pub heap : 64 + heap_size bytes ≤ length bytes
  pub section : has_births bytes ≡ true → length bytes ≡ 80 + heap_size bytes + 8 * birth_count bytes

pub header_is : (bytes : List ℕ) → header_fault bytes ≡ None → IsHeader bytes
header_is bytes e =
    let a = or_none (when (is_long_file bytes) fault.TooLong) _ e in
    let b = or_none (when (is_short bytes) fault.Short) _ a.1 in
    let c = or_none (when (is_bad_format bytes) fault.BadFormat) _ b.1 in
    let d = or_none (when (is_bad_header_size bytes) fault.BadHeaderSize) _ c.1 in
    let f = or_none (when (is_bad_profile bytes) fault.BadProfile) _ d.1 in
    let l = when_none (is_bad_length bytes) fault.BadLength (or_none (when (is_bad_length bytes) fault.BadLength) _ f.1).0 in
    let x = or_false _ (has_births bytes && not (length bytes == 80 + heap_size bytes + 8 * _)) l in
    let y = or_false _ (ltb (2 ^ 32) (old_base bytes + heap_size bytes)) x.0 in
    let z = or_false _ (not (old_base bytes % 8 == 0)) y.0 in
    let w = or_false (heap_size bytes == 0) (not (heap_size bytes % 8 == 0)) z.0 in
    record {
      image = record {
        format = when_none (is_bad_format bytes) fault.BadFormat c.0;
        size = when_none (is_bad_header_size bytes) fault.BadHeaderSize d.0;
        profile = when_none (is_bad_profile bytes) fault.BadProfile f.0;
      };
      long = let s = when_none (is_short bytes) fault.Short b.0 in grind (arith, nat_tests, s);
      short = let s = when_none (is_long_file bytes) fault.TooLong a.0 in grind (arith, nat_tests, s);
      base = let s = z.1 in grind (arith, nat_tests, s);
      whole = let s = w.1 in grind (arith, nat_tests, s);
      fits = let s = y.1 in grind (arith, nat_tests, s);
      heap = behind (has_births bytes) refl x.1;
      section = λ h. ends (has_births bytes) h x.1;
    }
  where
    here : not (length bytes == 80 + heap_size bytes + 8 * birth_count bytes) ≡ false → length bytes ≡ 80 + heap_size bytes + 8 * birth_count bytes
    here e = grind (arith, nat_tests, e)

    ends : (b : Bool) → b ≡ true → (b && not (length bytes == 80 + heap_size bytes + 8 * birth_count bytes)) ≡ false → length bytes ≡ 80 + heap_size bytes + 8 * birth_count bytes
    ends true h e = here e
    ends false h e = absurd (cc)

    behind : (b : Bool) → has_births bytes ≡ b → (b && not (length bytes == 80 + heap_size bytes + 8 * birth_count bytes)) ≡ false → 64 + heap_size bytes ≤ length bytes
    behind true h e = let long = here e in omega (arith, long)
    behind false h e = let long : length bytes ≡ 64 + heap_size bytes = grind (arith, nat_tests, h) in omega (arith, long)

pub length-words_in : (bytes : List ℕ) → length (words_in bytes) ≡ heap_size bytes / 4
unfolding words_in
length-words_in bytes = length-u32s_at (heap_size bytes / 4) bytes 64

-- ---- from part to part

pub told_as : {X Y : Type 0} (P : X → Type 0) (Q : Y → Type 0) (whole first later : Option ImageFault) (e x : ImageError) (r : Result Y ImageError)
    → whole ≡ option_or first later → Tells first P (Err e) → r ≡ Err x → x ≡ e → Tells whole Q r
told_as {X} {Y} P Q whole first later e x r parts told is same =
    let R : Option ImageFault → Type 0 = λ f. Tells f Q (Err e) in
    let S : Result Y ImageError → Type 0 = λ s. Tells whole Q s in
    subst S (ap Err (sym same) ∙ sym is) (subst R (sym parts) (told_here P Q first later e told))

pub after_header : (bytes : List ℕ) (limit : ℕ) → header_fault bytes ≡ None → image_fault bytes limit ≡
    option_or (at_word fault.BadObject (bad_object (cut_of (words_in bytes))))
    (option_or (when (is_over (file_of bytes) limit) fault.OverLimit)
    (option_or (objects_fault (file_of bytes) (special_address bytes))
    (option_or (when (is_bad_births bytes (length (visible (file_of bytes)))) fault.BadBirths) None)))
after_header bytes limit h = fault_of-parts bytes limit ∙ ap (λ (r : Option ImageFault). option_or r
    (option_or (at_word fault.BadObject (bad_object (cut_of (words_in bytes))))
    (option_or (when (is_over (file_of bytes) limit) fault.OverLimit)
    (option_or (objects_fault (file_of bytes) (special_address bytes))
    (option_or (when (is_bad_births bytes (length (visible (file_of bytes)))) fault.BadBirths) None))))) h

pub after_objects : (bytes : List ℕ) (limit : ℕ) → header_fault bytes ≡ None → at_word fault.BadObject (bad_object (cut_of (words_in bytes))) ≡ None → image_fault bytes limit ≡
    option_or (when (is_over (file_of bytes) limit) fault.OverLimit)
    (option_or (objects_fault (file_of bytes) (special_address bytes))
    (option_or (when (is_bad_births bytes (length (visible (file_of bytes)))) fault.BadBirths) None))
after_objects bytes limit h o = after_header bytes limit h ∙ ap (λ (r : Option ImageFault). option_or r
    (option_or (when (is_over (file_of bytes) limit) fault.OverLimit)
    (option_or (objects_fault (file_of bytes) (special_address bytes))
    (option_or (when (is_bad_births bytes (length (visible (file_of bytes)))) fault.BadBirths) None)))) o

pub after_room : (bytes : List ℕ) (limit : ℕ) → header_fault bytes ≡ None → at_word fault.BadObject (bad_object (cut_of (words_in bytes))) ≡ None
    → when (is_over (file_of bytes) limit) fault.OverLimit ≡ None → image_fault bytes limit ≡
    option_or (objects_fault (file_of bytes) (special_address bytes))
    (option_or (when (is_bad_births bytes (length (visible (file_of bytes)))) fault.BadBirths) None)
after_room bytes limit h o m = after_objects bytes limit h o ∙ ap (λ (r : Option ImageFault). option_or r
    (option_or (objects_fault (file_of bytes) (special_address bytes))
    (option_or (when (is_bad_births bytes (length (visible (file_of bytes)))) fault.BadBirths) None))) m

pub after_all : (bytes : List ℕ) (limit : ℕ) → header_fault bytes ≡ None → at_word fault.BadObject (bad_object (cut_of (words_in bytes))) ≡ None
    → when (is_over (file_of bytes) limit) fault.OverLimit ≡ None → objects_fault (file_of bytes) (special_address bytes) ≡ None
    → image_fault bytes limit ≡ option_or (when (is_bad_births bytes (length (visible (file_of bytes)))) fault.BadBirths) None
after_all bytes limit h o m w = after_room bytes limit h o m
    ∙ ap (λ (r : Option ImageFault). option_or r (option_or (when (is_bad_births bytes (length (visible (file_of bytes)))) fault.BadBirths) None)) w

pub no_fault : (bytes : List ℕ) (limit : ℕ) → header_fault bytes ≡ None → at_word fault.BadObject (bad_object (cut_of (words_in bytes))) ≡ None
    → when (is_over (file_of bytes) limit) fault.OverLimit ≡ None → objects_fault (file_of bytes) (special_address bytes) ≡ None
    → when (is_bad_births bytes (length (visible (file_of bytes)))) fault.BadBirths ≡ None → image_fault bytes limit ≡ None
no_fault bytes limit h o m w b = after_all bytes limit h o m w ∙ ap (λ (r : Option ImageFault). option_or r None) b

pub births_fine : (bytes : List ℕ) (n : ℕ) → when (is_bad_births bytes n) fault.BadBirths ≡ None → is_bad_births bytes n ≡ false
births_fine bytes n e = when_none (is_bad_births bytes n) fault.BadBirths e
