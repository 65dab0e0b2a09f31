use Rattle.cs_save.specs.Filed.{saved_of}
use Rattle.std.proofs.Common.{refl, ◌∙◌, arith}
use Rattle.cs_save.proofs.Written.{on_err, all_taken, known_name, none_taken, other_name, part_taken, rose_later, went_taken}
use Rattle.cs_save.proofs.Saved.{content_told, filed_of, image_same}
use Rattle.cs_save.proofs.save.Goals as goal

pub returns-in_err-start-clause-part : goal.returns-in_err-start-clause-part
returns-in_err-start-clause-part g c = on_err c.from_residual.result _ (none_taken _ _ (saved_of c.args.heap.now.objects c.args.classes.now c.args.roots.now) c.in_err-start.ensures.none_taken)

pub returns-in_err-put_file-clause-part : goal.returns-in_err-put_file-clause-part
returns-in_err-put_file-clause-part g c = on_err c.from_residual-in_err-put_file.result _ (part_taken _ _ _ (saved_of c.args.heap.now.objects c.args.classes.now c.args.roots.now) c.in_ok-start.ensures.none_taken refl c.in_err-put_file.ensures.err)

pub returns-in_err-put_file-clause-none_begun : goal.returns-in_err-put_file-clause-none_begun
returns-in_err-put_file-clause-none_begun g c = c.in_err-put_file.ensures.err.begun

pub returns-in_err-put_file-clause-contents : goal.returns-in_err-put_file-clause-contents
returns-in_err-put_file-clause-contents g c = λ other differs. c.in_err-put_file.ensures.err.others other (other_name _ c.args.name.now other c.in_ok-start.ensures.begins differs) ∙ c.in_ok-start.ensures.contents other differs

pub returns-in_err-put_file-clause-asked_stays : goal.returns-in_err-put_file-clause-asked_stays
returns-in_err-put_file-clause-asked_stays g c = c.in_err-put_file.ensures.err.asked ∙ c.in_ok-start.ensures.asked_stays

pub returns-in_err-put_file-clause-never_falls : goal.returns-in_err-put_file-clause-never_falls
returns-in_err-put_file-clause-never_falls g c = omega (arith, c.in_ok-start.ensures.never_falls, c.in_err-put_file.ensures.err.never_falls)

pub returns-in_err-put_file-clause-cause : goal.returns-in_err-put_file-clause-cause
returns-in_err-put_file-clause-cause g c = on_err c.from_residual-in_err-put_file.result _ (rose_later _ _ _ c.in_ok-start.ensures.never_falls c.in_err-put_file.ensures.err.rose)

pub returns-in_err-put_file-clause-last : goal.returns-in_err-put_file-clause-last
returns-in_err-put_file-clause-last g c = on_err c.from_residual-in_err-put_file.result _ (known_name _ c.args.name.now _ c.in_ok-start.ensures.begins c.in_err-put_file.ensures.err.last)

pub returns-in_err-finish-clause-part : goal.returns-in_err-finish-clause-part
returns-in_err-finish-clause-part g c = on_err c.from_residual-in_err-finish.result _ (all_taken _ _ (saved_of c.args.heap.now.objects c.args.classes.now c.args.roots.now) (c.in_err-finish.ensures.taken_stays ∙ went_taken _ _ _ (saved_of c.args.heap.now.objects c.args.classes.now c.args.roots.now) c.in_ok-start.ensures.none_taken refl c.in_ok-put_file.ensures.ok refl))

pub returns-in_err-finish-clause-none_begun : goal.returns-in_err-finish-clause-none_begun
returns-in_err-finish-clause-none_begun g c = c.in_err-finish.ensures.none_begun

pub returns-in_err-finish-clause-contents : goal.returns-in_err-finish-clause-contents
returns-in_err-finish-clause-contents g c = λ other differs. c.in_err-finish.ensures.contents other (other_name _ c.args.name.now other (c.in_ok-put_file.ensures.ok.begun ∙ c.in_ok-start.ensures.begins) differs) ∙ c.in_ok-put_file.ensures.ok.others other (other_name _ c.args.name.now other c.in_ok-start.ensures.begins differs) ∙ c.in_ok-start.ensures.contents other differs

pub returns-in_err-finish-clause-asked_stays : goal.returns-in_err-finish-clause-asked_stays
returns-in_err-finish-clause-asked_stays g c = c.in_err-finish.ensures.asked_stays ∙ c.in_ok-put_file.ensures.ok.asked ∙ c.in_ok-start.ensures.asked_stays

pub returns-in_err-finish-clause-never_falls : goal.returns-in_err-finish-clause-never_falls
returns-in_err-finish-clause-never_falls g c = omega (arith, c.in_ok-start.ensures.never_falls, c.in_ok-put_file.ensures.ok.never_falls, c.in_err-finish.ensures.never_falls)

pub returns-in_err-finish-clause-cause : goal.returns-in_err-finish-clause-cause
returns-in_err-finish-clause-cause g c = on_err c.from_residual-in_err-finish.result _ (rose_later _ _ _ c.in_ok-start.ensures.never_falls (rose_later _ _ _ c.in_ok-put_file.ensures.ok.never_falls c.in_err-finish.ensures.cause))

pub returns-in_err-finish-clause-last : goal.returns-in_err-finish-clause-last
returns-in_err-finish-clause-last g c = on_err c.from_residual-in_err-finish.result _ (known_name _ c.args.name.now _ (c.in_ok-put_file.ensures.ok.begun ∙ c.in_ok-start.ensures.begins) c.in_err-finish.ensures.last)

pub returns-clause-saved : goal.returns-clause-saved
returns-clause-saved g c = known_name _ c.args.name.now _ (c.in_ok-put_file.ensures.ok.begun ∙ c.in_ok-start.ensures.begins) c.in_ok-finish.ensures.holds ∙ went_taken _ _ _ (saved_of c.args.heap.now.objects c.args.classes.now c.args.roots.now) c.in_ok-start.ensures.none_taken refl c.in_ok-put_file.ensures.ok refl

pub returns-clause-none_begun : goal.returns-clause-none_begun
returns-clause-none_begun g c = c.in_ok-finish.ensures.none_begun

pub returns-clause-contents : goal.returns-clause-contents
returns-clause-contents g c = λ other differs. c.in_ok-finish.ensures.contents other (other_name _ c.args.name.now other (c.in_ok-put_file.ensures.ok.begun ∙ c.in_ok-start.ensures.begins) differs) ∙ c.in_ok-put_file.ensures.ok.others other (other_name _ c.args.name.now other c.in_ok-start.ensures.begins differs) ∙ c.in_ok-start.ensures.contents other differs

pub returns-clause-asked_stays : goal.returns-clause-asked_stays
returns-clause-asked_stays g c = c.in_ok-finish.ensures.asked_stays ∙ c.in_ok-put_file.ensures.ok.asked ∙ c.in_ok-start.ensures.asked_stays

pub returns-clause-never_falls : goal.returns-clause-never_falls
returns-clause-never_falls g c = omega (arith, c.in_ok-start.ensures.never_falls, c.in_ok-put_file.ensures.ok.never_falls, c.in_ok-finish.ensures.never_falls)

pub returns-clause-last_stays : goal.returns-clause-last_stays
returns-clause-last_stays g c = c.in_ok-finish.ensures.last_stays ∙ c.in_ok-put_file.ensures.ok.last ∙ c.in_ok-start.ensures.last_stays

pub put_file-requires-clause-fits : goal.put_file-requires-clause-fits
put_file-requires-clause-fits g c =
    let value = c.used-used.ensures.value in
    let most = c.used-used.ensures.most in
    (filed_of c.args.heap.now.objects c.args.classes.now c.args.roots.now c.args.heap.now.limit c.requires.storable (omega (arith, value, most))).fits

pub returns-clause-image : goal.returns-clause-image
returns-clause-image g c =
    let value = c.used-used.ensures.value in
    let most = c.used-used.ensures.most in
    content_told _ _ (saved_of c.args.heap.now.objects c.args.classes.now c.args.roots.now) _
    (image_same c.args.heap.now.objects c.args.classes.now c.args.roots.now c.args.heap.now.limit c.requires.storable (omega (arith, value, most)))
    (returns-clause-saved g c)
