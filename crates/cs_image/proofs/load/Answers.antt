use Rattle.std.proofs.Common.{◌≡◌, ℕ, Bool, true, false, Option, None, List, [], Vec, Global, length, ap, subst, sym, ◌∙◌, refl, arith}
use Rattle.std.specs.Prelude.{⊤}
use Rattle.std.specs.Option.{option_or}
use Rattle.cs_image.specs.Loading.{addresses_of}
use Rattle.std.proofs.lemmas.Result.{err_from_is_err_and}
use Rattle.cs_model.specs.ImageFile.{File, births_in, next_birth_in, cut_of, file_of, special_address, visible, words_in}
use Rattle.cs_model.specs.ImageFault.{ImageFault, bad_object, is_over, is_bad_births}
use Rattle.cs_model.specs.ImageFault as fault
use Rattle.cs_model.specs.Image.{at_word, image_fault, when}
use Rattle.cs_image.specs.Answer.{header_fault, objects_fault}
use Rattle.cs_image.proofs.Faults.{fault_of-parts, told_as, after_header, after_objects, after_room, after_all, births_fine, header_is, no_fault}
use Rattle.cs_image.proofs.Soundness.{sound_file}
use Rattle.cs_image.specs.declared.births.Births.{Births}
use Rattle.cs_image.proofs.Numbering.{AreBirths, births_read, next_small}
use Rattle.cs_image.proofs.Describing.{IsBuilt, built_births, built_is}
use Rattle.cs_image.proofs.Wholeness.{built_whole}
use Rattle.cs_image.proofs.Opening.{built_opens}
use Rattle.cs_image.proofs.Pcs.{built_pcs, few_births}
use Rattle.cs_image.proofs.Entries.{known_kinds}
use Rattle.cs_classes.specs.Meaning.{kept_of}
use Rattle.cs_image.proofs.Nil.{nil_is_plain}
use Rattle.cs_image.proofs.Senders.{built_senders}
use Rattle.cs_image.proofs.Validity.{built_valid}
use Rattle.cs_image.proofs.load.Goals as goal

pub returns-in_err-check_header-clause-fault : goal.returns-in_err-check_header-clause-fault
returns-in_err-check_header-clause-fault c =
    let p = err_from_is_err_and c.from_residual.result c.from_residual.ensures.1 in
    told_as {X = Unit {0}} (λ _. ⊤) (λ _. ⊤) (image_fault c.args.bytes.now c.args.limit_words) (header_fault c.args.bytes.now) _
    c.in_err-check_header.field-0.0 p.0 c.from_residual.result (fault_of-parts c.args.bytes.now c.args.limit_words) c.in_err-check_header.ensures p.1 p.2

pub returns-in_err-file-clause-fault : goal.returns-in_err-file-clause-fault
returns-in_err-file-clause-fault c =
    let p = err_from_is_err_and c.from_residual-in_err-file.result c.from_residual-in_err-file.ensures.1 in
    told_as (λ file. file ≡ file_of c.args.bytes.now) (λ _. ⊤) (image_fault c.args.bytes.now c.args.limit_words)
    (at_word fault.BadObject (bad_object (cut_of (words_in c.args.bytes.now)))) _
    c.in_err-file.field-0.0 p.0 c.from_residual-in_err-file.result (after_header c.args.bytes.now c.args.limit_words c.in_ok-check_header.ensures.0) c.in_err-file.ensures p.1 p.2

pub returns-in_err-addresses-clause-fault : goal.returns-in_err-addresses-clause-fault
returns-in_err-addresses-clause-fault c =
    let p = err_from_is_err_and c.from_residual-in_err-addresses.result c.from_residual-in_err-addresses.ensures.1 in
    let same : c.in_ok-file.file ≡ file_of c.args.bytes.now = c.in_ok-file.ensures.1 in
    told_as {X = Vec ℕ Global} (λ v. v.items ≡ addresses_of c.in_ok-file.file.objects 0) (λ _. ⊤) (image_fault c.args.bytes.now c.args.limit_words)
    (when (is_over c.in_ok-file.file c.args.limit_words) fault.OverLimit) _
    c.in_err-addresses.field-0.0 p.0 c.from_residual-in_err-addresses.result
    (after_objects c.args.bytes.now c.args.limit_words c.in_ok-check_header.ensures.0 c.in_ok-file.ensures.0
    ∙ ap (λ (f : File). option_or (when (is_over f c.args.limit_words) fault.OverLimit)
    (option_or (objects_fault (file_of c.args.bytes.now) (special_address c.args.bytes.now))
    (option_or (when (is_bad_births c.args.bytes.now (length (visible (file_of c.args.bytes.now)))) fault.BadBirths) None))) (sym same))
    c.in_err-addresses.ensures p.1 p.2

room : (f g : File) (limit : ℕ) → f ≡ g → when (is_over f limit) fault.OverLimit ≡ None → when (is_over g limit) fault.OverLimit ≡ None
room f g limit same h = ap (λ (x : File). when (is_over x limit) fault.OverLimit) (sym same) ∙ h

pub returns-in_err-check_objects-clause-fault : goal.returns-in_err-check_objects-clause-fault
returns-in_err-check_objects-clause-fault c =
    let p = err_from_is_err_and c.from_residual-in_err-check_objects.result c.from_residual-in_err-check_objects.ensures.1 in
    let same : c.in_ok-file.file ≡ file_of c.args.bytes.now = c.in_ok-file.ensures.1 in
    told_as {X = Unit {0}} (λ _. ⊤) (λ _. ⊤) (image_fault c.args.bytes.now c.args.limit_words)
    (objects_fault c.in_ok-file.file c.u32_at.result) _
    c.in_err-check_objects.field-0.0 p.0 c.from_residual-in_err-check_objects.result
    (after_room c.args.bytes.now c.args.limit_words c.in_ok-check_header.ensures.0 c.in_ok-file.ensures.0
    (room c.in_ok-file.file (file_of c.args.bytes.now) c.args.limit_words same c.in_ok-addresses.ensures.0)
    ∙ ap (λ (f : File). option_or (objects_fault f (special_address c.args.bytes.now))
    (option_or (when (is_bad_births c.args.bytes.now (length (visible (file_of c.args.bytes.now)))) fault.BadBirths) None)) (sym same)
    ∙ ap (λ (special : ℕ). option_or (objects_fault c.in_ok-file.file special)
    (option_or (when (is_bad_births c.args.bytes.now (length (visible (file_of c.args.bytes.now)))) fault.BadBirths) None)) (sym c.u32_at.ensures))
    c.in_err-check_objects.ensures p.1 p.2

count_is : (bytes : List ℕ) (count : ℕ) (f : File) → f ≡ file_of bytes → count ≡ length (visible f)
    → when (is_bad_births bytes (length (visible (file_of bytes)))) fault.BadBirths ≡ when (is_bad_births bytes count) fault.BadBirths
count_is bytes count f same e = ap (λ (n : ℕ). when (is_bad_births bytes n) fault.BadBirths) (ap (λ (g : File). length (visible g)) (sym same) ∙ sym e)

pub returns-in_err-births-clause-fault : goal.returns-in_err-births-clause-fault
returns-in_err-births-clause-fault c =
    let p = err_from_is_err_and c.from_residual-in_err-births.result c.from_residual-in_err-births.ensures.1 in
    let same : c.in_ok-file.file ≡ file_of c.args.bytes.now = c.in_ok-file.ensures.1 in
    let fine : objects_fault (file_of c.args.bytes.now) (special_address c.args.bytes.now) ≡ None =
    ap (λ (f : File). objects_fault f (special_address c.args.bytes.now)) (sym same)
    ∙ ap (λ (special : ℕ). objects_fault c.in_ok-file.file special) (sym c.u32_at.ensures) ∙ c.in_ok-check_objects.ensures.0 in
    told_as {X = Births} (λ b. (b.births.items ≡ births_in c.args.bytes.now c.visible_count.result) × (b.next ≡ next_birth_in c.args.bytes.now c.visible_count.result)) (λ _. ⊤)
    (image_fault c.args.bytes.now c.args.limit_words) (when (is_bad_births c.args.bytes.now c.visible_count.result) fault.BadBirths) _
    c.in_err-births.field-0.0 p.0 c.from_residual-in_err-births.result
    (after_all c.args.bytes.now c.args.limit_words c.in_ok-check_header.ensures.0 c.in_ok-file.ensures.0
    (room c.in_ok-file.file (file_of c.args.bytes.now) c.args.limit_words same c.in_ok-addresses.ensures.0) fine
    ∙ ap (λ (r : Option ImageFault). option_or r None) (count_is c.args.bytes.now c.visible_count.result c.in_ok-file.file same c.visible_count.ensures))
    c.in_err-births.ensures p.1 p.2

pub build-requires-clause-births : goal.build-requires-clause-births
build-requires-clause-births c =
    let known : AreBirths c.in_ok-births.births.births.items (length (visible c.in_ok-file.file)) c.in_ok-births.births.next =
    births_read c.args.bytes.now c.in_ok-births.births.births.items c.in_ok-births.births.next c.visible_count.result (length (visible c.in_ok-file.file))
    (births_fine c.args.bytes.now c.visible_count.result c.in_ok-births.ensures.0) c.in_ok-births.ensures.1.0 c.in_ok-births.ensures.1.1 c.visible_count.ensures in
    known.long

pub returns-clause-fault : goal.returns-clause-fault
returns-clause-fault c =
    let same : c.in_ok-file.file ≡ file_of c.args.bytes.now = c.in_ok-file.ensures.1 in
    let fine : objects_fault (file_of c.args.bytes.now) (special_address c.args.bytes.now) ≡ None =
    ap (λ (f : File). objects_fault f (special_address c.args.bytes.now)) (sym same)
    ∙ ap (λ (special : ℕ). objects_fault c.in_ok-file.file special) (sym c.u32_at.ensures) ∙ c.in_ok-check_objects.ensures.0 in (
      no_fault c.args.bytes.now c.args.limit_words c.in_ok-check_header.ensures.0 c.in_ok-file.ensures.0
          (room c.in_ok-file.file (file_of c.args.bytes.now) c.args.limit_words same c.in_ok-addresses.ensures.0) fine
          (count_is c.args.bytes.now c.visible_count.result c.in_ok-file.file same c.visible_count.ensures ∙ c.in_ok-births.ensures.0),
      tt,
    )

pub returns-clause-state : goal.returns-clause-state
returns-clause-state c =
    let same : c.in_ok-file.file ≡ file_of c.args.bytes.now = c.in_ok-file.ensures.1 in
    let fine : objects_fault (file_of c.args.bytes.now) (special_address c.args.bytes.now) ≡ None =
    ap (λ (f : File). objects_fault f (special_address c.args.bytes.now)) (sym same)
    ∙ ap (λ (special : ℕ). objects_fault c.in_ok-file.file special) (sym c.u32_at.ensures) ∙ c.in_ok-check_objects.ensures.0 in
    let known : AreBirths c.in_ok-births.births.births.items (length (visible c.in_ok-file.file)) c.in_ok-births.births.next =
    births_read c.args.bytes.now c.in_ok-births.births.births.items c.in_ok-births.births.next c.visible_count.result (length (visible c.in_ok-file.file))
    (births_fine c.args.bytes.now c.visible_count.result c.in_ok-births.ensures.0) c.in_ok-births.ensures.1.0 c.in_ok-births.ensures.1.1 c.visible_count.ensures in
    let built : IsBuilt c.in_ok-births.births.births.items c.args.bytes.now c.in_ok-file.file c.in_ok-loaded.loaded.heap.objects c.in_ok-loaded.loaded.classes c.in_ok-loaded.loaded.roots =
    record {
      objects_are = c.in_ok-loaded.ensures.objects;
      table_is = c.in_ok-loaded.ensures.classes;
      special = c.in_ok-loaded.ensures.special;
      hash = c.in_ok-loaded.ensures.hash;
      births_are = c.in_ok-births.ensures.1.0 ∙ ap (births_in c.args.bytes.now) c.visible_count.ensures;
      next = c.in_ok-loaded.ensures.next ∙ c.in_ok-births.ensures.1.1 ∙ ap (next_birth_in c.args.bytes.now) c.visible_count.ensures;
      known = let P : ℕ → Type 0 = AreBirths c.in_ok-births.births.births.items (length (visible c.in_ok-file.file)) in subst P (sym c.in_ok-loaded.ensures.next) known;
      header = c.in_ok-loaded.ensures.header;
      checked = (header_is c.args.bytes.now c.in_ok-check_header.ensures.0).image;
    } in
    let whole = no_fault c.args.bytes.now c.args.limit_words c.in_ok-check_header.ensures.0 c.in_ok-file.ensures.0
    (room c.in_ok-file.file (file_of c.args.bytes.now) c.args.limit_words same c.in_ok-addresses.ensures.0) fine
    (count_is c.args.bytes.now c.visible_count.result c.in_ok-file.file same c.visible_count.ensures ∙ c.in_ok-births.ensures.0) in
    built_is c.in_ok-births.births.births.items c.args.bytes.now c.args.limit_words c.in_ok-file.file c.in_ok-loaded.loaded.heap.objects c.in_ok-loaded.loaded.classes c.in_ok-loaded.loaded.roots same
    built whole (sound_file c.args.bytes.now c.in_ok-file.ensures.0 fine)

pub returns-clause-sound : goal.returns-clause-sound
returns-clause-sound c =
    let same : c.in_ok-file.file ≡ file_of c.args.bytes.now = c.in_ok-file.ensures.1 in
    let fine : objects_fault (file_of c.args.bytes.now) (special_address c.args.bytes.now) ≡ None =
    ap (λ (f : File). objects_fault f (special_address c.args.bytes.now)) (sym same)
    ∙ ap (λ (special : ℕ). objects_fault c.in_ok-file.file special) (sym c.u32_at.ensures) ∙ c.in_ok-check_objects.ensures.0 in
    let known : AreBirths c.in_ok-births.births.births.items (length (visible c.in_ok-file.file)) c.in_ok-births.births.next =
    births_read c.args.bytes.now c.in_ok-births.births.births.items c.in_ok-births.births.next c.visible_count.result (length (visible c.in_ok-file.file))
    (births_fine c.args.bytes.now c.visible_count.result c.in_ok-births.ensures.0) c.in_ok-births.ensures.1.0 c.in_ok-births.ensures.1.1 c.visible_count.ensures in
    let built : IsBuilt c.in_ok-births.births.births.items c.args.bytes.now c.in_ok-file.file c.in_ok-loaded.loaded.heap.objects c.in_ok-loaded.loaded.classes c.in_ok-loaded.loaded.roots =
    record {
      objects_are = c.in_ok-loaded.ensures.objects;
      table_is = c.in_ok-loaded.ensures.classes;
      special = c.in_ok-loaded.ensures.special;
      hash = c.in_ok-loaded.ensures.hash;
      births_are = c.in_ok-births.ensures.1.0 ∙ ap (births_in c.args.bytes.now) c.visible_count.ensures;
      next = c.in_ok-loaded.ensures.next ∙ c.in_ok-births.ensures.1.1 ∙ ap (next_birth_in c.args.bytes.now) c.visible_count.ensures;
      known = let P : ℕ → Type 0 = AreBirths c.in_ok-births.births.births.items (length (visible c.in_ok-file.file)) in subst P (sym c.in_ok-loaded.ensures.next) known;
      header = c.in_ok-loaded.ensures.header;
      checked = (header_is c.args.bytes.now c.in_ok-check_header.ensures.0).image;
    } in
    built_whole c.in_ok-births.births.births.items c.args.bytes.now c.in_ok-file.file c.in_ok-loaded.loaded.heap.objects c.in_ok-loaded.loaded.classes c.in_ok-loaded.loaded.roots same
    built (header_is c.args.bytes.now c.in_ok-check_header.ensures.0).base (sound_file c.args.bytes.now c.in_ok-file.ensures.0 fine)

pub returns-clause-opens : goal.returns-clause-opens
returns-clause-opens c =
    let same : c.in_ok-file.file ≡ file_of c.args.bytes.now = c.in_ok-file.ensures.1 in
    let fine : objects_fault (file_of c.args.bytes.now) (special_address c.args.bytes.now) ≡ None =
    ap (λ (f : File). objects_fault f (special_address c.args.bytes.now)) (sym same)
    ∙ ap (λ (special : ℕ). objects_fault c.in_ok-file.file special) (sym c.u32_at.ensures) ∙ c.in_ok-check_objects.ensures.0 in
    let known : AreBirths c.in_ok-births.births.births.items (length (visible c.in_ok-file.file)) c.in_ok-births.births.next =
    births_read c.args.bytes.now c.in_ok-births.births.births.items c.in_ok-births.births.next c.visible_count.result (length (visible c.in_ok-file.file))
    (births_fine c.args.bytes.now c.visible_count.result c.in_ok-births.ensures.0) c.in_ok-births.ensures.1.0 c.in_ok-births.ensures.1.1 c.visible_count.ensures in
    let built : IsBuilt c.in_ok-births.births.births.items c.args.bytes.now c.in_ok-file.file c.in_ok-loaded.loaded.heap.objects c.in_ok-loaded.loaded.classes c.in_ok-loaded.loaded.roots =
    record {
      objects_are = c.in_ok-loaded.ensures.objects;
      table_is = c.in_ok-loaded.ensures.classes;
      special = c.in_ok-loaded.ensures.special;
      hash = c.in_ok-loaded.ensures.hash;
      births_are = c.in_ok-births.ensures.1.0 ∙ ap (births_in c.args.bytes.now) c.visible_count.ensures;
      next = c.in_ok-loaded.ensures.next ∙ c.in_ok-births.ensures.1.1 ∙ ap (next_birth_in c.args.bytes.now) c.visible_count.ensures;
      known = let P : ℕ → Type 0 = AreBirths c.in_ok-births.births.births.items (length (visible c.in_ok-file.file)) in subst P (sym c.in_ok-loaded.ensures.next) known;
      header = c.in_ok-loaded.ensures.header;
      checked = (header_is c.args.bytes.now c.in_ok-check_header.ensures.0).image;
    } in
    built_opens c.in_ok-births.births.births.items c.args.bytes.now c.in_ok-file.file c.in_ok-loaded.loaded.heap.objects c.in_ok-loaded.loaded.classes c.in_ok-loaded.loaded.roots same
    built (header_is c.args.bytes.now c.in_ok-check_header.ensures.0).base (sound_file c.args.bytes.now c.in_ok-file.ensures.0 fine)

pub returns-clause-pcs : goal.returns-clause-pcs
returns-clause-pcs c =
    let same : c.in_ok-file.file ≡ file_of c.args.bytes.now = c.in_ok-file.ensures.1 in
    let fine : objects_fault (file_of c.args.bytes.now) (special_address c.args.bytes.now) ≡ None =
    ap (λ (f : File). objects_fault f (special_address c.args.bytes.now)) (sym same)
    ∙ ap (λ (special : ℕ). objects_fault c.in_ok-file.file special) (sym c.u32_at.ensures) ∙ c.in_ok-check_objects.ensures.0 in
    let known : AreBirths c.in_ok-births.births.births.items (length (visible c.in_ok-file.file)) c.in_ok-births.births.next =
    births_read c.args.bytes.now c.in_ok-births.births.births.items c.in_ok-births.births.next c.visible_count.result (length (visible c.in_ok-file.file))
    (births_fine c.args.bytes.now c.visible_count.result c.in_ok-births.ensures.0) c.in_ok-births.ensures.1.0 c.in_ok-births.ensures.1.1 c.visible_count.ensures in
    let built : IsBuilt c.in_ok-births.births.births.items c.args.bytes.now c.in_ok-file.file c.in_ok-loaded.loaded.heap.objects c.in_ok-loaded.loaded.classes c.in_ok-loaded.loaded.roots =
    record {
      objects_are = c.in_ok-loaded.ensures.objects;
      table_is = c.in_ok-loaded.ensures.classes;
      special = c.in_ok-loaded.ensures.special;
      hash = c.in_ok-loaded.ensures.hash;
      births_are = c.in_ok-births.ensures.1.0 ∙ ap (births_in c.args.bytes.now) c.visible_count.ensures;
      next = c.in_ok-loaded.ensures.next ∙ c.in_ok-births.ensures.1.1 ∙ ap (next_birth_in c.args.bytes.now) c.visible_count.ensures;
      known = let P : ℕ → Type 0 = AreBirths c.in_ok-births.births.births.items (length (visible c.in_ok-file.file)) in subst P (sym c.in_ok-loaded.ensures.next) known;
      header = c.in_ok-loaded.ensures.header;
      checked = (header_is c.args.bytes.now c.in_ok-check_header.ensures.0).image;
    } in
    built_pcs c.in_ok-births.births.births.items c.args.bytes.now c.in_ok-file.file c.in_ok-loaded.loaded.heap.objects c.in_ok-loaded.loaded.classes c.in_ok-loaded.loaded.roots same
    built (header_is c.args.bytes.now c.in_ok-check_header.ensures.0).base (sound_file c.args.bytes.now c.in_ok-file.ensures.0 fine)

pub returns-clause-senders : goal.returns-clause-senders
returns-clause-senders c =
    let same : c.in_ok-file.file ≡ file_of c.args.bytes.now = c.in_ok-file.ensures.1 in
    let fine : objects_fault (file_of c.args.bytes.now) (special_address c.args.bytes.now) ≡ None =
    ap (λ (f : File). objects_fault f (special_address c.args.bytes.now)) (sym same)
    ∙ ap (λ (special : ℕ). objects_fault c.in_ok-file.file special) (sym c.u32_at.ensures) ∙ c.in_ok-check_objects.ensures.0 in
    let known : AreBirths c.in_ok-births.births.births.items (length (visible c.in_ok-file.file)) c.in_ok-births.births.next =
    births_read c.args.bytes.now c.in_ok-births.births.births.items c.in_ok-births.births.next c.visible_count.result (length (visible c.in_ok-file.file))
    (births_fine c.args.bytes.now c.visible_count.result c.in_ok-births.ensures.0) c.in_ok-births.ensures.1.0 c.in_ok-births.ensures.1.1 c.visible_count.ensures in
    let built : IsBuilt c.in_ok-births.births.births.items c.args.bytes.now c.in_ok-file.file c.in_ok-loaded.loaded.heap.objects c.in_ok-loaded.loaded.classes c.in_ok-loaded.loaded.roots =
    record {
      objects_are = c.in_ok-loaded.ensures.objects;
      table_is = c.in_ok-loaded.ensures.classes;
      special = c.in_ok-loaded.ensures.special;
      hash = c.in_ok-loaded.ensures.hash;
      births_are = c.in_ok-births.ensures.1.0 ∙ ap (births_in c.args.bytes.now) c.visible_count.ensures;
      next = c.in_ok-loaded.ensures.next ∙ c.in_ok-births.ensures.1.1 ∙ ap (next_birth_in c.args.bytes.now) c.visible_count.ensures;
      known = let P : ℕ → Type 0 = AreBirths c.in_ok-births.births.births.items (length (visible c.in_ok-file.file)) in subst P (sym c.in_ok-loaded.ensures.next) known;
      header = c.in_ok-loaded.ensures.header;
      checked = (header_is c.args.bytes.now c.in_ok-check_header.ensures.0).image;
    } in
    built_senders c.in_ok-births.births.births.items c.args.bytes.now c.in_ok-file.file c.in_ok-loaded.loaded.heap.objects c.in_ok-loaded.loaded.classes c.in_ok-loaded.loaded.roots same
    built (header_is c.args.bytes.now c.in_ok-check_header.ensures.0).base (sound_file c.args.bytes.now c.in_ok-file.ensures.0 fine)

pub returns-clause-valid : goal.returns-clause-valid
returns-clause-valid c =
    let same : c.in_ok-file.file ≡ file_of c.args.bytes.now = c.in_ok-file.ensures.1 in
    let fine : objects_fault (file_of c.args.bytes.now) (special_address c.args.bytes.now) ≡ None =
    ap (λ (f : File). objects_fault f (special_address c.args.bytes.now)) (sym same)
    ∙ ap (λ (special : ℕ). objects_fault c.in_ok-file.file special) (sym c.u32_at.ensures) ∙ c.in_ok-check_objects.ensures.0 in
    let known : AreBirths c.in_ok-births.births.births.items (length (visible c.in_ok-file.file)) c.in_ok-births.births.next =
    births_read c.args.bytes.now c.in_ok-births.births.births.items c.in_ok-births.births.next c.visible_count.result (length (visible c.in_ok-file.file))
    (births_fine c.args.bytes.now c.visible_count.result c.in_ok-births.ensures.0) c.in_ok-births.ensures.1.0 c.in_ok-births.ensures.1.1 c.visible_count.ensures in
    let built : IsBuilt c.in_ok-births.births.births.items c.args.bytes.now c.in_ok-file.file c.in_ok-loaded.loaded.heap.objects c.in_ok-loaded.loaded.classes c.in_ok-loaded.loaded.roots =
    record {
      objects_are = c.in_ok-loaded.ensures.objects;
      table_is = c.in_ok-loaded.ensures.classes;
      special = c.in_ok-loaded.ensures.special;
      hash = c.in_ok-loaded.ensures.hash;
      births_are = c.in_ok-births.ensures.1.0 ∙ ap (births_in c.args.bytes.now) c.visible_count.ensures;
      next = c.in_ok-loaded.ensures.next ∙ c.in_ok-births.ensures.1.1 ∙ ap (next_birth_in c.args.bytes.now) c.visible_count.ensures;
      known = let P : ℕ → Type 0 = AreBirths c.in_ok-births.births.births.items (length (visible c.in_ok-file.file)) in subst P (sym c.in_ok-loaded.ensures.next) known;
      header = c.in_ok-loaded.ensures.header;
      checked = (header_is c.args.bytes.now c.in_ok-check_header.ensures.0).image;
    } in
    built_valid c.in_ok-births.births.births.items c.args.bytes.now c.in_ok-file.file c.in_ok-loaded.loaded.heap.objects c.in_ok-loaded.loaded.classes c.in_ok-loaded.loaded.roots same
    built (header_is c.args.bytes.now c.in_ok-check_header.ensures.0).base (sound_file c.args.bytes.now c.in_ok-file.ensures.0 fine)

pub returns-clause-kinds : goal.returns-clause-kinds
returns-clause-kinds c =
    let same : c.in_ok-file.file ≡ file_of c.args.bytes.now = c.in_ok-file.ensures.1 in
    let fine : objects_fault (file_of c.args.bytes.now) (special_address c.args.bytes.now) ≡ None =
    ap (λ (f : File). objects_fault f (special_address c.args.bytes.now)) (sym same)
    ∙ ap (λ (special : ℕ). objects_fault c.in_ok-file.file special) (sym c.u32_at.ensures) ∙ c.in_ok-check_objects.ensures.0 in
    known_kinds c.args.bytes.now c.in_ok-file.file c.in_ok-loaded.loaded.classes same c.in_ok-loaded.ensures.classes (sound_file c.args.bytes.now c.in_ok-file.ensures.0 fine)

not_over : (f : File) (limit : ℕ) → when (is_over f limit) fault.OverLimit ≡ None → is_over f limit ≡ false
not_over f limit h = go (is_over f limit) h
  where
    go : (b : Bool) → when b fault.OverLimit ≡ None → b ≡ false
    go true e = absurd (cc)
    go false e = refl

pub returns-clause-next : goal.returns-clause-next
returns-clause-next c =
    let few = few_births c.in_ok-file.file c.args.limit_words (not_over c.in_ok-file.file c.args.limit_words c.in_ok-addresses.ensures.0) in
    let small = next_small c.args.bytes.now c.visible_count.result (births_fine c.args.bytes.now c.visible_count.result c.in_ok-births.ensures.0)
    (omega (arith, few, c.visible_count.ensures, c.requires.most)) in
    omega (arith, small, c.in_ok-loaded.ensures.next, c.in_ok-births.ensures.1.1)

pub returns-clause-nil : goal.returns-clause-nil
returns-clause-nil c =
    let l = c.in_ok-loaded.loaded in
    nil_is_plain (kept_of l.heap.objects l.classes l.roots None) [] false (returns-clause-valid c [] false)

pub returns-clause-births : goal.returns-clause-births
returns-clause-births c =
    let known : AreBirths c.in_ok-births.births.births.items (length (visible c.in_ok-file.file)) c.in_ok-births.births.next =
    births_read c.args.bytes.now c.in_ok-births.births.births.items c.in_ok-births.births.next c.visible_count.result (length (visible c.in_ok-file.file))
    (births_fine c.args.bytes.now c.visible_count.result c.in_ok-births.ensures.0) c.in_ok-births.ensures.1.0 c.in_ok-births.ensures.1.1 c.visible_count.ensures in
    let built : IsBuilt c.in_ok-births.births.births.items c.args.bytes.now c.in_ok-file.file c.in_ok-loaded.loaded.heap.objects c.in_ok-loaded.loaded.classes c.in_ok-loaded.loaded.roots =
    record {
      objects_are = c.in_ok-loaded.ensures.objects;
      table_is = c.in_ok-loaded.ensures.classes;
      special = c.in_ok-loaded.ensures.special;
      hash = c.in_ok-loaded.ensures.hash;
      births_are = c.in_ok-births.ensures.1.0 ∙ ap (births_in c.args.bytes.now) c.visible_count.ensures;
      next = c.in_ok-loaded.ensures.next ∙ c.in_ok-births.ensures.1.1 ∙ ap (next_birth_in c.args.bytes.now) c.visible_count.ensures;
      known = let P : ℕ → Type 0 = AreBirths c.in_ok-births.births.births.items (length (visible c.in_ok-file.file)) in subst P (sym c.in_ok-loaded.ensures.next) known;
      header = c.in_ok-loaded.ensures.header;
      checked = (header_is c.args.bytes.now c.in_ok-check_header.ensures.0).image;
    } in
    built_births c.in_ok-births.births.births.items c.args.bytes.now c.in_ok-file.file c.in_ok-loaded.loaded.heap.objects c.in_ok-loaded.loaded.classes c.in_ok-loaded.loaded.roots built
