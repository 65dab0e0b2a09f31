use Rattle.std.proofs.Common.{ℕ, List, ap, refl}
use Rattle.cs_cli.specs.Answer as answer
use Rattle.cs_cli.specs.Answer.{Reading, Saved, Saving, Writing, built_answer}
use Rattle.cs_cli.specs.Meaning.{options_by}
use Rattle.cs_cli.proofs.Comparing.{named, reading}
use Rattle.cs_cli.proofs.Texts.{saved_from, text_refused_by}
use Rattle.cs_cli.proofs.Writings.{writing}
use Rattle.cs_model.specs.Builder.{text_objects}
use Rattle.cs_model.specs.BuilderFault.{forms_of}
use Rattle.std.proofs.Common.{length}
use Rattle.cs_cli.proofs.building.build_file.Goals as goal

pub returns-in-Ok-clause-answered : goal.returns-in-Ok-clause-answered
returns-in-Ok-clause-answered g c =
    let out : Writing = writing (g.K.Sink.taken c.args.out.now) (g.K.Sink.taken c.save_image.new.out)
    (g.K.Sink.fault_count c.args.out.now) (g.K.Sink.fault_count c.save_image.new.out) in
    let behind = g.S.Shelf.fault_count c.save_image.new.shelf in
    let last = g.S.Shelf.last_fault c.save_image.new.shelf in
    let shelf : Reading = reading (g.S.Shelf.content c.args.shelf.now) (g.S.Shelf.fault_count c.args.shelf.now) behind last in
    let then : Reading = reading (g.S.Shelf.content c.image_of_file.new.shelf) (g.S.Shelf.fault_count c.image_of_file.new.shelf) behind last in
    let saving : Saving = record { old = g.S.Shelf.taken c.args.shelf.now; new = g.S.Shelf.taken c.save_image.new.shelf; held = g.S.Shelf.content c.save_image.new.shelf } in
    let saving₂ : Saving = record { old = g.S.Shelf.taken c.image_of_file.new.shelf; new = g.S.Shelf.taken c.save_image.new.shelf; held = g.S.Shelf.content c.save_image.new.shelf } in
    let image = c.in-Ok.image in
    let built = c.in-Ok.ensures.builds in
    let objects = length (text_objects (forms_of built.text)) in
    let P : List ℕ → Type 0 = λ name. Saved name image.bytes.items (built_answer objects) shelf saving out c.save_image.result in
    let saved : P c.in-Some.name.now = saved_from c.in-Some.name.now image.bytes.items (built_answer image.objects) (built_answer objects) shelf then saving saving₂ out c.save_image.result
    (ap built_answer built.count) c.in-Ok.ensures.never_falls refl refl c.in-Ok.ensures.taken refl refl c.save_image.ensures.saved in
    answer.image_built built.text image.bytes.items built.read built.built (named c.args.line.now.options.save c.in-Some.name P c.in-Some.is saved)

pub returns-in-Err-clause-answered : goal.returns-in-Err-clause-answered
returns-in-Err-clause-answered g c =
    let out : Writing = writing (g.K.Sink.taken c.args.out.now) (g.K.Sink.taken c.refuse_text.new.out)
    (g.K.Sink.fault_count c.args.out.now) (g.K.Sink.fault_count c.refuse_text.new.out) in
    let shelf : Reading = reading (g.S.Shelf.content c.args.shelf.now) (g.S.Shelf.fault_count c.args.shelf.now)
    (g.S.Shelf.fault_count c.image_of_file.new.shelf) (g.S.Shelf.last_fault c.image_of_file.new.shelf) in
    let saving : Saving = record { old = g.S.Shelf.taken c.args.shelf.now; new = g.S.Shelf.taken c.image_of_file.new.shelf; held = g.S.Shelf.content c.image_of_file.new.shelf } in
    text_refused_by c.args.line.now.file.now (options_by c.args.line.now.options) shelf saving out c.refuse_text.result c.in-Err.why c.in-Err.ensures.builds c.refuse_text.ensures
