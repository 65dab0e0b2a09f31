-- What the lines of a text without faults give a builder: lines that fit what is made of them, and the image of its file.
use Rattle.std.proofs.Common.{◌≡◌, ℕ, ◌+◌, ◌*◌, ◌/◌, ◌-◌, ◌≤◌, Bool, true, false, if◌then◌else◌, List, [], ◌∷◌, length, map, refl, ap, ap₂, sym, subst, ◌∙◌, arith, length-append}
use Rattle.std.specs.Prelude.{◌&&◌, nat_le, max, replicate, sum_by}
use Rattle.std.specs.List.{AllByRecursion, list_all}
use Rattle.std.proofs.lemmas.List.{length-replicate}
use Rattle.std.proofs.lemmas.List.Folds.{list_all-append}
use Rattle.std.proofs.lemmas.List.Sums.{sum_by-cons}
use Rattle.cs_model.specs.Obj.{Obj, Ptr, Raw, Method, Ctx, slot_count, words_of, words_of_slots}
use Rattle.cs_model.specs.Builder.{all_forms, nil_ref, text_objects}
use Rattle.cs_model.specs.BuilderText as text
use Rattle.cs_model.specs.BuilderFault.{is_between, is_class_format, is_in_range, known_classes}
use Rattle.cs_model.specs.Image.{image_of}
use Rattle.cs_model.specs.SavedFile.{saved_bytes, saved_size}
use Rattle.cs_build.specs.declared.form.Form.{Form}
use Rattle.cs_build.specs.declared.numbering.Numbering.{Numbering}
use Rattle.cs_build.specs.Formed.{HasRoom, IsFormedImage}
use Rattle.cs_build.specs.Judged.{IsJudged}
use Rattle.cs_build.specs.Laid.{FitsLayout, Laid, file_for, laid, laid_size, laid_slots}
use Rattle.cs_build.specs.Meaning.{form_by}
use Rattle.cs_build.specs.Sound.{is_sound}
use Rattle.cs_build.specs.Standing.{forms_in, own_forms}
use Rattle.cs_build.specs.Stored.{IsStored}
use Rattle.cs_build.specs.Wholes.{IsImageOf, file_bytes, file_size, objects_made, table_made}
use Rattle.cs_build.proofs.Filing.{size_of_file}
use Rattle.cs_build.proofs.LineShapes.{format_between}
use Rattle.cs_build.proofs.Putting.{size_cons}
use Rattle.cs_build.proofs.Sounding.{and_true}
use Rattle.cs_build.proofs.TextFormed.{judged_formed, judged_image}
use Rattle.cs_build.proofs.Totalling.{all_by_place}

-- ---- the lines, with those of the known classes in front

own_is : (forms : List text.Form) → own_forms (all_forms forms) ≡ forms
unfolding own_forms
own_is forms = refl

pub whole_lines : (all forms : List text.Form) → all ≡ all_forms forms → all ≡ all_forms (own_forms all)
whole_lines all forms e = e ∙ ap all_forms (sym (own_is forms) ∙ ap own_forms (sym e))

pub lines_again : (n : Numbering) (lines : List Form) (forms : List text.Form) → n.forms.now ≡ lines → map form_by lines ≡ all_forms forms → forms_in n ≡ forms
unfolding forms_in
lines_again n lines forms e h = ap (λ (fs : List Form). own_forms (map form_by fs)) e ∙ ap own_forms h ∙ own_is forms

line_sound : (above : List text.Form) (form : text.Form) → is_in_range above form ≡ true → is_sound form ≡ true
line_sound above (text.Class line) e =
    let both : (is_class_format line.format ≡ true) × (is_between 0 65535 line.fields ≡ true) = and_true _ _ e in
    ap₂ (λ a b. a && b) (format_between line.format both.0) both.1
line_sound above (text.Method line) e = e
line_sound above (text.Process line) e = (and_true _ _ e).0
line_sound above (text.Byte value) e = e
line_sound above form e = refl

all_pass : {A : Type 0} (p : A → Bool) (xs : List A) → AllByRecursion (λ x. p x ≡ true) xs → list_all p xs ≡ true
all_pass p [] all = refl
all_pass p (x ∷ xs) all = ap₂ (λ a b. a && b) all.0 (all_pass p xs all.1)

known_sound : list_all is_sound (map (λ c. text.Class c) known_classes) ≡ true
known_sound = refl

pub sound_lines : (forms : List text.Form) → IsJudged forms → list_all is_sound (all_forms forms) ≡ true
sound_lines forms judged = list_all-append is_sound (map (λ c. text.Class c) known_classes) forms
    ∙ ap₂ (λ a b. a && b) known_sound
    (all_pass is_sound forms (all_by_place (λ form. is_sound form ≡ true) forms (λ above form below e. line_sound above form (judged.lines above form below e).fits)))

-- ---- how many objects, and of how many words

pub count_within : (ls : List Laid) → length ls ≤ laid_size ls
count_within [] = omega arith
count_within (l ∷ ls) = omega (arith, size_cons l ls, count_within ls)

sizes_are : (n : ℕ) → saved_size n ≡ words_of_slots n
sizes_are n = go (nat_le 255 n) (max 1 ((n + 1) / 2))
  where
    go : (b : Bool) (m : ℕ) → (if b then 2 else 0) + 2 + 2 * m ≡ 2 * ((if b then 1 else 0) + 1 + m)
    go true m = omega arith
    go false m = omega arith

slots_are : (n : ℕ) (o : Obj) → IsStored n o → laid_slots (laid o) ≡ slot_count o
slots_are n (Ptr head slots) h = omega arith
slots_are n (Raw head bytes) h = omega arith
slots_are n (Method head header literals bytecodes) h = omega arith
slots_are n (Ctx c) h = omega (arith, h.depth, length-append c.stack (replicate (c.size - length c.stack) nil_ref), length-replicate (c.size - length c.stack) nil_ref)

words_are : (n : ℕ) (os : List Obj) → AllByRecursion (IsStored n) os → laid_size (map laid os) ≡ sum_by words_of os
words_are n [] all = refl
words_are n (o ∷ os) all = omega (
  arith,
  size_cons (laid o) (map laid os),
  sum_by-cons words_of o os,
  words_are n os all.1,
  sizes_are (laid_slots (laid o)) ∙ ap words_of_slots (slots_are n o all.0),
)

-- ---- the image

file_is : (forms : List text.Form) → saved_bytes (file_for (map laid (objects_made forms)) (table_made forms)) ≡ file_bytes forms
unfolding file_bytes
file_is forms = refl

pub bytes_made : (forms : List text.Form) (bytes : List ℕ) (ls : List Laid) (table : List ℕ) → bytes ≡ saved_bytes (file_for ls table)
    → ls ≡ map laid (objects_made forms) → table ≡ table_made forms → bytes ≡ file_bytes forms
bytes_made forms bytes ls table e objects entries = e ∙ ap₂ (λ (l : List Laid) (t : List ℕ). saved_bytes (file_for l t)) objects entries ∙ file_is forms

pub made_is_text : (forms : List text.Form) → objects_made forms ≡ text_objects forms
unfolding objects_made
made_is_text forms = refl

pub room_made : (ls ms : List Laid) (table entries : List ℕ) → ls ≡ ms → table ≡ entries → file_size ls (length table / 1024) ≤ 536870912 → file_size ms (length entries / 1024) ≤ 536870912
room_made ls ms table entries e f h = omega (arith, h, ap laid_size e, ap (λ (t : List ℕ). length t / 1024) f)

pub layout_made : (forms : List text.Form) (ls : List Laid) (table : List ℕ) → IsJudged forms → ls ≡ map laid (objects_made forms) → table ≡ table_made forms
    → file_size ls (length table / 1024) ≤ 536870912 → FitsLayout ls table
layout_made forms ls table judged e f room =
    let formed : IsFormedImage (objects_made forms) (table_made forms) = judged_formed forms judged (room_made ls (map laid (objects_made forms)) table (table_made forms) e f room) in
    subst (λ (l : List Laid). FitsLayout l table) (sym e) (subst (FitsLayout (map laid (objects_made forms))) (sym f) formed.layout)

pub image_made : (forms : List text.Form) (bytes : List ℕ) → IsJudged forms → bytes ≡ file_bytes forms
    → file_size (map laid (objects_made forms)) (length (table_made forms) / 1024) ≤ 536870912 → IsImageOf bytes forms
image_made forms bytes judged e file limit h =
    let formed : IsFormedImage (objects_made forms) (table_made forms) = judged_formed forms judged file in
    let size = size_of_file (map laid (objects_made forms)) (table_made forms) in
    let words : laid_size (map laid (objects_made forms)) ≡ sum_by words_of (text_objects forms) =
    words_are (length (objects_made forms)) (objects_made forms) formed.stored ∙ ap (sum_by words_of) (made_is_text forms) in
    let room : HasRoom (objects_made forms) (table_made forms) limit = record { file = omega (arith, file, size); heap = omega (arith, h, words, size) } in
    ap (λ b. image_of b limit) (e ∙ sym (file_is forms)) ∙ judged_image forms limit judged room
