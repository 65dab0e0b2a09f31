use Rattle.cs_model.specs.Words.{bytes_of_words}
use Rattle.cs_model.specs.SavedFile.{halves}
use Rattle.cs_save.specs.Filed.{places_of, saved_births, saved_heap_of}
use Rattle.cs_save.proofs.Files.{saved_is}
use Rattle.std.proofs.Common.{ℕ, ◌++◌, take, drop, ap₂, sym, ◌∙◌, append_assoc}
use Rattle.cs_save.proofs.Written.{on_err, broke_same, broke_first, broke_then, went_same, went_then}
use Rattle.cs_save.proofs.put_all.Goals as goal

pub returns-in_err-put_header-clause-err : goal.returns-in_err-put_header-clause-err
returns-in_err-put_header-clause-err g c = on_err c.from_residual.result _ (broke_same _ _ _ _ (sym ((saved_is c.args.heap.now.objects c.args.classes.now c.args.roots.now c.requires.fits ∙ ap₂ (λ (u n : ℕ). ((take 8 c.args.roots.now.header ++ bytes_of_words (places_of u c.args.roots.now) ++ drop 24 c.args.roots.now.header) ++ bytes_of_words (saved_heap_of c.args.heap.now.objects c.args.classes.now)) ++ bytes_of_words (halves c.args.roots.now.next_birth ++ (halves n ++ saved_births c.args.heap.now.objects n))) (sym c.used.ensures.value) (sym c.object_count-count.ensures)) ∙ append_assoc (take 8 c.args.roots.now.header ++ bytes_of_words (places_of c.used.result c.args.roots.now) ++ drop 24 c.args.roots.now.header) (bytes_of_words (saved_heap_of c.args.heap.now.objects c.args.classes.now)) (bytes_of_words (halves c.args.roots.now.next_birth ++ (halves c.object_count-count.result ++ saved_births c.args.heap.now.objects c.object_count-count.result))))) (broke_first _ _ (take 8 c.args.roots.now.header ++ bytes_of_words (places_of c.used.result c.args.roots.now) ++ drop 24 c.args.roots.now.header) ((bytes_of_words (saved_heap_of c.args.heap.now.objects c.args.classes.now)) ++ (bytes_of_words (halves c.args.roots.now.next_birth ++ (halves c.object_count-count.result ++ saved_births c.args.heap.now.objects c.object_count-count.result)))) c.in_err-put_header.ensures.err))

pub returns-in_err-put_heap-clause-err : goal.returns-in_err-put_heap-clause-err
returns-in_err-put_heap-clause-err g c = on_err c.from_residual-in_err-put_heap.result _ (broke_same _ _ _ _ (sym (saved_is c.args.heap.now.objects c.args.classes.now c.args.roots.now c.requires.fits ∙ ap₂ (λ (u n : ℕ). ((take 8 c.args.roots.now.header ++ bytes_of_words (places_of u c.args.roots.now) ++ drop 24 c.args.roots.now.header) ++ bytes_of_words (saved_heap_of c.args.heap.now.objects c.args.classes.now)) ++ bytes_of_words (halves c.args.roots.now.next_birth ++ (halves n ++ saved_births c.args.heap.now.objects n))) (sym c.used.ensures.value) (sym c.object_count-count.ensures))) (broke_first _ _ ((take 8 c.args.roots.now.header ++ bytes_of_words (places_of c.used.result c.args.roots.now) ++ drop 24 c.args.roots.now.header) ++ (bytes_of_words (saved_heap_of c.args.heap.now.objects c.args.classes.now))) (bytes_of_words (halves c.args.roots.now.next_birth ++ (halves c.object_count-count.result ++ saved_births c.args.heap.now.objects c.object_count-count.result))) (broke_then _ _ _ (take 8 c.args.roots.now.header ++ bytes_of_words (places_of c.used.result c.args.roots.now) ++ drop 24 c.args.roots.now.header) (bytes_of_words (saved_heap_of c.args.heap.now.objects c.args.classes.now)) c.in_ok-put_header.ensures.ok c.in_err-put_heap.ensures.err)))

pub returns-in_err-put_births-clause-err : goal.returns-in_err-put_births-clause-err
returns-in_err-put_births-clause-err g c = on_err c.from_residual-in_err-put_births.result _ (broke_same _ _ _ _ (sym (saved_is c.args.heap.now.objects c.args.classes.now c.args.roots.now c.requires.fits ∙ ap₂ (λ (u n : ℕ). ((take 8 c.args.roots.now.header ++ bytes_of_words (places_of u c.args.roots.now) ++ drop 24 c.args.roots.now.header) ++ bytes_of_words (saved_heap_of c.args.heap.now.objects c.args.classes.now)) ++ bytes_of_words (halves c.args.roots.now.next_birth ++ (halves n ++ saved_births c.args.heap.now.objects n))) (sym c.used.ensures.value) (sym c.object_count-count.ensures))) (broke_then _ _ _ ((take 8 c.args.roots.now.header ++ bytes_of_words (places_of c.used.result c.args.roots.now) ++ drop 24 c.args.roots.now.header) ++ (bytes_of_words (saved_heap_of c.args.heap.now.objects c.args.classes.now))) (bytes_of_words (halves c.args.roots.now.next_birth ++ (halves c.object_count-count.result ++ saved_births c.args.heap.now.objects c.object_count-count.result))) (went_then _ _ _ (take 8 c.args.roots.now.header ++ bytes_of_words (places_of c.used.result c.args.roots.now) ++ drop 24 c.args.roots.now.header) (bytes_of_words (saved_heap_of c.args.heap.now.objects c.args.classes.now)) c.in_ok-put_header.ensures.ok c.in_ok-put_heap.ensures.ok) c.in_err-put_births.ensures.err))

pub returns-clause-ok : goal.returns-clause-ok
returns-clause-ok g c = went_same _ _ _ _ (sym (saved_is c.args.heap.now.objects c.args.classes.now c.args.roots.now c.requires.fits ∙ ap₂ (λ (u n : ℕ). ((take 8 c.args.roots.now.header ++ bytes_of_words (places_of u c.args.roots.now) ++ drop 24 c.args.roots.now.header) ++ bytes_of_words (saved_heap_of c.args.heap.now.objects c.args.classes.now)) ++ bytes_of_words (halves c.args.roots.now.next_birth ++ (halves n ++ saved_births c.args.heap.now.objects n))) (sym c.used.ensures.value) (sym c.object_count-count.ensures))) (went_then _ _ _ ((take 8 c.args.roots.now.header ++ bytes_of_words (places_of c.used.result c.args.roots.now) ++ drop 24 c.args.roots.now.header) ++ (bytes_of_words (saved_heap_of c.args.heap.now.objects c.args.classes.now))) (bytes_of_words (halves c.args.roots.now.next_birth ++ (halves c.object_count-count.result ++ saved_births c.args.heap.now.objects c.object_count-count.result))) (went_then _ _ _ (take 8 c.args.roots.now.header ++ bytes_of_words (places_of c.used.result c.args.roots.now) ++ drop 24 c.args.roots.now.header) (bytes_of_words (saved_heap_of c.args.heap.now.objects c.args.classes.now)) c.in_ok-put_header.ensures.ok c.in_ok-put_heap.ensures.ok) c.in_ok-put_births.ensures.ok)

pub put_header-requires-clause-header : goal.put_header-requires-clause-header
put_header-requires-clause-header g c = c.requires.fits.header
