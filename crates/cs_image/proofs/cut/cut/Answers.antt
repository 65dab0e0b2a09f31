use Rattle.std.proofs.Common.{◌≡◌, ℕ, ◌+◌, true, List, [], ◌∷◌, ◌++◌, length, replicate, set, ap, sym, ◌∙◌, subst, arith, rules}
use Rattle.cs_model.specs.ImageFault as fault
use Rattle.cs_model.specs.ImageFault.{bad_object}
use Rattle.cs_model.specs.ImageFile.{end_at, object_from}
use Rattle.cs_model.specs.Image.{at_word}
use Rattle.cs_image.specs.Heap.{is_faulty}
use Rattle.cs_image.specs.declared.file.Placed.{Placed}
use Rattle.cs_image.proofs.Cutting.{none_cut, next_kept, next_skipped, next_is, faulty_here, all_cut}
use Rattle.cs_image.proofs.cut.cut.Goals as goal
use Rattle.cs_image.proofs.cut.cut.Goals.{then-o-ne0+in_ok-push, else-o-ne0}

pub loop-at-init : goal.loop-at-init
loop-at-init c =
    let zeros : c.in_ok-starts.starts.items ≡ replicate (length c.args.words.items) 0 = search rules in
    let objects : c.new-objects.result.items ≡ [] = search rules in
    rw (zeros, objects) (none_cut c.args.words.items)

pub returns-in_default : goal.returns-in_default
returns-in_default c =
    let P : List ℕ → Type 0 = λ ws. is_faulty (object_from ws c.loop-at.at) ≡ true in
    let bad : is_faulty (object_from c.args.words.items c.loop-at.at) ≡ true = subst P c.deref.ensures.value (sym c.in_default.ensures.fault) in
    ap (at_word (λ x. fault.BadObject x)) (sym c.loop-at.invariant.fault ∙ faulty_here c.args.words.items c.loop-at.at (omega arith) bad)

pub loop-at-preserved : goal.loop-at-preserved
loop-at-preserved c =
    let o : Placed = c.in-Some.o in
    let next = next_is c.args.words.items c.deref.result.now c.deref.ensures.value c.loop-at.at o (omega arith)
    c.in-Some.ensures.value c.in-Some.ensures.fault c.in-Some.ensures.within c.in-Some.ensures.behind c.in-Some.ensures.class c.in-Some.ensures.hash in
    let end : c.end_at-at.result ≡ end_at o.place o.slots = c.end_at-at.ensures ∙ ap (end_at o.place) c.from.ensures in
    elim c.if-o-ne0.branch [
      | then-o-ne0+in_ok-push w ↦
          let objects : c.if-o-ne0.objects.items ≡ c.loop-at.objects.items ++ o ∷ [] = search rules in
          let starts : c.if-o-ne0.starts.items ≡ set c.loop-at.starts.items o.place (length c.loop-at.objects.items + 1) = search rules in
          rw (objects, starts, end) (next_kept c.args.words.items c.loop-at.objects.items c.loop-at.starts.items c.loop-at.at o c.loop-at.invariant next w.if-o-ne0.true)
      | else-o-ne0 w ↦
          let objects : c.if-o-ne0.objects.items ≡ c.loop-at.objects.items = search rules in
          let starts : c.if-o-ne0.starts.items ≡ c.loop-at.starts.items = search rules in
          rw (objects, starts, end) (next_skipped c.args.words.items c.loop-at.objects.items c.loop-at.starts.items c.loop-at.at o c.loop-at.invariant next w.if-o-ne0.false)
    ]

pub returns : goal.returns
returns c =
    let done = all_cut c.args.words.items c.loop-at.objects.items c.loop-at.starts.items c.loop-at.at c.loop-at.invariant (omega arith) in
    (ap (at_word (λ x. fault.BadObject x)) done.0, ap (λ xs. record { base = c.args.base; objects = xs }) done.1)
