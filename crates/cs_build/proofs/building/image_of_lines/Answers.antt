use Rattle.std.proofs.Common.{◌≡◌, ℕ, ◌/◌, ◌≤◌, true, List, length, map, ap, sym, ◌∙◌, arith}
use Rattle.std.specs.Prelude.{nat_le}
use Rattle.std.specs.List.{list_all}
use Rattle.std.proofs.lemmas.List.{length-map}
use Rattle.std.proofs.lemmas.Bool.Decides.{nat_tests}
use Rattle.cs_model.specs.BuilderText as text
use Rattle.cs_model.specs.Builder.{all_forms}
use Rattle.cs_build.specs.declared.form.Form.{Form}
use Rattle.cs_build.specs.declared.numbering.Numbering.{Numbering}
use Rattle.cs_build.specs.declared.object.Object.{Object}
use Rattle.cs_build.specs.Laid.{laid, laid_by, laid_size}
use Rattle.cs_build.specs.Meaning.{form_by}
use Rattle.cs_build.specs.Sound.{is_sound}
use Rattle.cs_build.specs.Standing.{forms_in}
use Rattle.cs_build.specs.Wholes.{file_size, objects_made, table_made}
use Rattle.cs_build.proofs.Built.{bytes_made, count_within, image_made, layout_made, lines_again, room_made, sound_lines, whole_lines}
use Rattle.cs_build.proofs.building.image_of_lines.Goals as goal

lines_are : (lent lines : List Form) (forms : List text.Form) → lent ≡ lines → map form_by lines ≡ all_forms forms → map form_by lent ≡ all_forms forms
lines_are lent lines forms e h = ap (map form_by) e ∙ h

objects_are : (n : Numbering) (lent : List Form) (forms : List text.Form) (borrowed os : List Object) → n.forms.now ≡ lent → map form_by lent ≡ all_forms forms → borrowed ≡ os
    → map laid_by os ≡ map laid (objects_made (forms_in n)) → map laid_by borrowed ≡ map laid (objects_made forms)
objects_are n lent forms borrowed os e h b made = ap (map laid_by) b ∙ made ∙ ap (λ (fs : List text.Form). map laid (objects_made fs)) (lines_again n lent forms e h)

table_is : (n : Numbering) (lent : List Form) (forms : List text.Form) (borrowed table : List ℕ) → n.forms.now ≡ lent → map form_by lent ≡ all_forms forms → borrowed ≡ table
    → table ≡ table_made (forms_in n) → borrowed ≡ table_made forms
table_is n lent forms borrowed table e h b made = b ∙ made ∙ ap table_made (lines_again n lent forms e h)

room_is : (tested lent os : List Object) (entries table : List ℕ) (count : ℕ) → tested ≡ os → lent ≡ os → entries ≡ table → count ≡ length table
    → true ≡ nat_le (file_size (map laid_by tested) (count / 1024)) 536870912 → file_size (map laid_by lent) (length entries / 1024) ≤ 536870912
room_is tested lent os entries table count t l e n h =
    let within : file_size (map laid_by tested) (count / 1024) ≤ 536870912 = grind (arith, nat_tests, h) in
    omega (arith, within, ap (λ (xs : List Object). laid_size (map laid_by xs)) (t ∙ sym l), ap (λ k. k / 1024) (n ∙ ap length (sym e)))

pub numbering_of-requires-clause-whole : goal.numbering_of-requires-clause-whole
numbering_of-requires-clause-whole c = whole_lines (map form_by c.deref.result.now) (map form_by c.args.lines.items) (lines_are c.deref.result.now c.in_ok-lines.lines.items (map form_by c.args.lines.items) c.deref.ensures.value c.in_ok-lines.ensures)

pub numbering_of-requires-clause-sound : goal.numbering_of-requires-clause-sound
numbering_of-requires-clause-sound c = ap (list_all is_sound) (lines_are c.deref.result.now c.in_ok-lines.lines.items (map form_by c.args.lines.items) c.deref.ensures.value c.in_ok-lines.ensures)
    ∙ sound_lines (map form_by c.args.lines.items) c.requires

pub image_of-requires : goal.image_of-requires
image_of-requires c =
    let forms : List text.Form = map form_by c.args.lines.items in
    let lines : map form_by c.deref.result.now ≡ all_forms (map form_by c.args.lines.items) = lines_are c.deref.result.now c.in_ok-lines.lines.items forms c.deref.ensures.value c.in_ok-lines.ensures in
    let objects : map laid_by c.deref-3.result.now ≡ map laid (objects_made (map form_by c.args.lines.items)) =
    objects_are c.in_ok-numbering.numbering c.deref.result.now forms c.deref-3.result.now c.in_ok-objects.objects.items c.in_ok-numbering.ensures.forms lines c.deref-3.ensures.value c.in_ok-objects.ensures in
    let table : c.deref-4.result.now ≡ table_made (map form_by c.args.lines.items) =
    table_is c.in_ok-numbering.numbering c.deref.result.now forms c.deref-4.result.now c.in_ok-table.table.items c.in_ok-numbering.ensures.forms lines c.deref-4.ensures.value c.in_ok-table.ensures in
    let room : file_size (map laid_by c.deref-3.result.now) (length c.deref-4.result.now / 1024) ≤ 536870912 =
    room_is c.deref-2.result.now c.deref-3.result.now c.in_ok-objects.objects.items c.deref-4.result.now c.in_ok-table.table.items c.len.result
    c.deref-2.ensures.value c.deref-3.ensures.value c.deref-4.ensures.value (c.len.ensures ∙ c.in_ok-table.table.ok.0) c.if-not-has_room.ensures in
    layout_made forms (map laid_by c.deref-3.result.now) c.deref-4.result.now c.requires objects table room

pub overflow_cast-result : goal.overflow_cast-result
overflow_cast-result c =
    let room : file_size (map laid_by c.deref-3.result.now) (length c.deref-4.result.now / 1024) ≤ 536870912 =
    room_is c.deref-2.result.now c.deref-3.result.now c.in_ok-objects.objects.items c.deref-4.result.now c.in_ok-table.table.items c.len.result
    c.deref-2.ensures.value c.deref-3.ensures.value c.deref-4.ensures.value (c.len.ensures ∙ c.in_ok-table.table.ok.0) c.if-not-has_room.ensures in
    omega (
      arith,
      room,
      c.len-2.ensures,
      c.in_ok-objects.objects.ok.0,
      ap length c.deref-3.ensures.value,
      length-map c.deref-3.result.now laid_by,
      count_within (map laid_by c.deref-3.result.now),
    )

pub returns-clause-bytes : goal.returns-clause-bytes
returns-clause-bytes c =
    let forms : List text.Form = map form_by c.args.lines.items in
    let lines : map form_by c.deref.result.now ≡ all_forms (map form_by c.args.lines.items) = lines_are c.deref.result.now c.in_ok-lines.lines.items forms c.deref.ensures.value c.in_ok-lines.ensures in
    let objects : map laid_by c.deref-3.result.now ≡ map laid (objects_made (map form_by c.args.lines.items)) =
    objects_are c.in_ok-numbering.numbering c.deref.result.now forms c.deref-3.result.now c.in_ok-objects.objects.items c.in_ok-numbering.ensures.forms lines c.deref-3.ensures.value c.in_ok-objects.ensures in
    let table : c.deref-4.result.now ≡ table_made (map form_by c.args.lines.items) =
    table_is c.in_ok-numbering.numbering c.deref.result.now forms c.deref-4.result.now c.in_ok-table.table.items c.in_ok-numbering.ensures.forms lines c.deref-4.ensures.value c.in_ok-table.ensures in
    bytes_made forms c.in_ok-bytes.bytes.items (map laid_by c.deref-3.result.now) c.deref-4.result.now c.in_ok-bytes.ensures objects table

pub returns-clause-image : goal.returns-clause-image
returns-clause-image c =
    let forms : List text.Form = map form_by c.args.lines.items in
    let lines : map form_by c.deref.result.now ≡ all_forms (map form_by c.args.lines.items) = lines_are c.deref.result.now c.in_ok-lines.lines.items forms c.deref.ensures.value c.in_ok-lines.ensures in
    let objects : map laid_by c.deref-3.result.now ≡ map laid (objects_made (map form_by c.args.lines.items)) =
    objects_are c.in_ok-numbering.numbering c.deref.result.now forms c.deref-3.result.now c.in_ok-objects.objects.items c.in_ok-numbering.ensures.forms lines c.deref-3.ensures.value c.in_ok-objects.ensures in
    let table : c.deref-4.result.now ≡ table_made (map form_by c.args.lines.items) =
    table_is c.in_ok-numbering.numbering c.deref.result.now forms c.deref-4.result.now c.in_ok-table.table.items c.in_ok-numbering.ensures.forms lines c.deref-4.ensures.value c.in_ok-table.ensures in
    let room : file_size (map laid_by c.deref-3.result.now) (length c.deref-4.result.now / 1024) ≤ 536870912 =
    room_is c.deref-2.result.now c.deref-3.result.now c.in_ok-objects.objects.items c.deref-4.result.now c.in_ok-table.table.items c.len.result
    c.deref-2.ensures.value c.deref-3.ensures.value c.deref-4.ensures.value (c.len.ensures ∙ c.in_ok-table.table.ok.0) c.if-not-has_room.ensures in
    image_made forms c.in_ok-bytes.bytes.items c.requires
    (bytes_made forms c.in_ok-bytes.bytes.items (map laid_by c.deref-3.result.now) c.deref-4.result.now c.in_ok-bytes.ensures objects table)
    (room_made (map laid_by c.deref-3.result.now) (map laid (objects_made forms)) c.deref-4.result.now (table_made forms) objects table room)

pub returns-clause-objects : goal.returns-clause-objects
returns-clause-objects c =
    let forms : List text.Form = map form_by c.args.lines.items in
    let lines : map form_by c.deref.result.now ≡ all_forms (map form_by c.args.lines.items) = lines_are c.deref.result.now c.in_ok-lines.lines.items forms c.deref.ensures.value c.in_ok-lines.ensures in
    let objects : map laid_by c.deref-3.result.now ≡ map laid (objects_made (map form_by c.args.lines.items)) =
    objects_are c.in_ok-numbering.numbering c.deref.result.now forms c.deref-3.result.now c.in_ok-objects.objects.items c.in_ok-numbering.ensures.forms lines c.deref-3.ensures.value c.in_ok-objects.ensures in
    c.len-2.ensures ∙ c.in_ok-objects.objects.ok.0 ∙ ap length (sym c.deref-3.ensures.value)
    ∙ sym (length-map c.deref-3.result.now laid_by) ∙ ap length objects ∙ length-map (objects_made (map form_by c.args.lines.items)) laid
