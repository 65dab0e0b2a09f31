use Rattle.std.specs.Prelude.{flat_map}
use Rattle.std.specs.List.{range_with_len}
use Rattle.cs_heap.specs.Object.{used}
use Rattle.cs_model.specs.SavedFile.{free_lists, saved_words}
use Rattle.cs_save.specs.Filed.{saved_between, saved_root, saved_page}
use Rattle.std.proofs.Common.{ℕ, ◌++◌, length, refl, ap₂, sym, ◌∙◌, append_assoc}
use Rattle.cs_save.proofs.Written.{on_err, breaks_first, breaks_in, breaks_then, goes_then}
use Rattle.cs_save.proofs.put_heap.Goals as goal

pub returns-in_err-fourth-clause-err : goal.returns-in_err-fourth-clause-err
returns-in_err-fourth-clause-err g c = on_err c.from_residual.result _ (breaks_first _ _ (saved_between c.args.heap.now.objects 0 3) ((saved_words free_lists ++ saved_root (used c.args.heap.now.objects)) ++ (saved_between c.args.heap.now.objects 3 (length c.args.heap.now.objects) ++ (flat_map (saved_page c.args.classes.now) (range_with_len 0 16)))) _ refl c.in_err-fourth.ensures.err)

pub returns-in_err-put_table_head-clause-err : goal.returns-in_err-put_table_head-clause-err
returns-in_err-put_table_head-clause-err g c = on_err c.from_residual-in_err-put_table_head.result _ (breaks_in _ _ _ (saved_between c.args.heap.now.objects 0 3) (saved_words free_lists ++ saved_root c.used.result) ((saved_between c.args.heap.now.objects 3 c.args.count) ++ (flat_map (saved_page c.args.classes.now) (range_with_len 0 16))) _ (ap₂ (λ (u n : ℕ). saved_between c.args.heap.now.objects 0 3 ++ ((saved_words free_lists ++ saved_root u) ++ (saved_between c.args.heap.now.objects 3 n ++ flat_map (saved_page c.args.classes.now) (range_with_len 0 16)))) (sym c.used.ensures.value) (sym c.requires.count)) c.in_ok-fourth.ensures.ok c.in_err-put_table_head.ensures.err)

pub returns-in_err-put_objects-clause-err : goal.returns-in_err-put_objects-clause-err
returns-in_err-put_objects-clause-err g c = on_err c.from_residual-in_err-put_objects.result _ (breaks_in _ _ _ ((saved_between c.args.heap.now.objects 0 3) ++ (saved_words free_lists ++ saved_root c.used.result)) (saved_between c.args.heap.now.objects 3 c.args.count) (flat_map (saved_page c.args.classes.now) (range_with_len 0 16)) _ ((ap₂ (λ (u n : ℕ). saved_between c.args.heap.now.objects 0 3 ++ ((saved_words free_lists ++ saved_root u) ++ (saved_between c.args.heap.now.objects 3 n ++ flat_map (saved_page c.args.classes.now) (range_with_len 0 16)))) (sym c.used.ensures.value) (sym c.requires.count)) ∙ sym (append_assoc (saved_between c.args.heap.now.objects 0 3) (saved_words free_lists ++ saved_root c.used.result) ((saved_between c.args.heap.now.objects 3 c.args.count) ++ (flat_map (saved_page c.args.classes.now) (range_with_len 0 16))))) (goes_then _ _ _ (saved_between c.args.heap.now.objects 0 3) (saved_words free_lists ++ saved_root c.used.result) _ refl c.in_ok-fourth.ensures.ok c.in_ok-put_table_head.ensures.ok) c.in_err-put_objects.ensures.err)

pub returns-in_err-put_pages-clause-err : goal.returns-in_err-put_pages-clause-err
returns-in_err-put_pages-clause-err g c = on_err c.from_residual-in_err-put_pages.result _ (breaks_then _ _ _ (((saved_between c.args.heap.now.objects 0 3) ++ (saved_words free_lists ++ saved_root c.used.result)) ++ (saved_between c.args.heap.now.objects 3 c.args.count)) (flat_map (saved_page c.args.classes.now) (range_with_len 0 16)) _ (((ap₂ (λ (u n : ℕ). saved_between c.args.heap.now.objects 0 3 ++ ((saved_words free_lists ++ saved_root u) ++ (saved_between c.args.heap.now.objects 3 n ++ flat_map (saved_page c.args.classes.now) (range_with_len 0 16)))) (sym c.used.ensures.value) (sym c.requires.count)) ∙ sym (append_assoc (saved_between c.args.heap.now.objects 0 3) (saved_words free_lists ++ saved_root c.used.result) ((saved_between c.args.heap.now.objects 3 c.args.count) ++ (flat_map (saved_page c.args.classes.now) (range_with_len 0 16))))) ∙ sym (append_assoc ((saved_between c.args.heap.now.objects 0 3) ++ (saved_words free_lists ++ saved_root c.used.result)) (saved_between c.args.heap.now.objects 3 c.args.count) (flat_map (saved_page c.args.classes.now) (range_with_len 0 16)))) (goes_then _ _ _ ((saved_between c.args.heap.now.objects 0 3) ++ (saved_words free_lists ++ saved_root c.used.result)) (saved_between c.args.heap.now.objects 3 c.args.count) _ refl (goes_then _ _ _ (saved_between c.args.heap.now.objects 0 3) (saved_words free_lists ++ saved_root c.used.result) _ refl c.in_ok-fourth.ensures.ok c.in_ok-put_table_head.ensures.ok) c.in_ok-put_objects.ensures.ok) c.in_err-put_pages.ensures.err)

pub returns-clause-ok : goal.returns-clause-ok
returns-clause-ok g c = goes_then _ _ _ (((saved_between c.args.heap.now.objects 0 3) ++ (saved_words free_lists ++ saved_root c.used.result)) ++ (saved_between c.args.heap.now.objects 3 c.args.count)) (flat_map (saved_page c.args.classes.now) (range_with_len 0 16)) _ (((ap₂ (λ (u n : ℕ). saved_between c.args.heap.now.objects 0 3 ++ ((saved_words free_lists ++ saved_root u) ++ (saved_between c.args.heap.now.objects 3 n ++ flat_map (saved_page c.args.classes.now) (range_with_len 0 16)))) (sym c.used.ensures.value) (sym c.requires.count)) ∙ sym (append_assoc (saved_between c.args.heap.now.objects 0 3) (saved_words free_lists ++ saved_root c.used.result) ((saved_between c.args.heap.now.objects 3 c.args.count) ++ (flat_map (saved_page c.args.classes.now) (range_with_len 0 16))))) ∙ sym (append_assoc ((saved_between c.args.heap.now.objects 0 3) ++ (saved_words free_lists ++ saved_root c.used.result)) (saved_between c.args.heap.now.objects 3 c.args.count) (flat_map (saved_page c.args.classes.now) (range_with_len 0 16)))) (goes_then _ _ _ ((saved_between c.args.heap.now.objects 0 3) ++ (saved_words free_lists ++ saved_root c.used.result)) (saved_between c.args.heap.now.objects 3 c.args.count) _ refl (goes_then _ _ _ (saved_between c.args.heap.now.objects 0 3) (saved_words free_lists ++ saved_root c.used.result) _ refl c.in_ok-fourth.ensures.ok c.in_ok-put_table_head.ensures.ok) c.in_ok-put_objects.ensures.ok) c.in_ok-put_pages.ensures.ok
