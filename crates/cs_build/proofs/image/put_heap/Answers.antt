use Rattle.std.proofs.Common.{◌≡◌, ℕ, ◌-◌, ◌/◌, ◌<◌, List, ◌++◌, length, map, take, drop, refl, ap, sym, subst, ◌∙◌, arith, length-drop}
use Rattle.std.proofs.lemmas.List.{take_all}
use Rattle.std.specs.Prelude.{flat_map}
use Rattle.std.specs.List.{AllByRecursion}
use Rattle.cs_model.specs.SavedFile.{saved_words, saved_heap, free_lists, hidden_object, table_page}
use Rattle.cs_build.specs.Laid.{Laid, FitsLaid, laid_by, saved_by, put_words, root_words, table_pages, file_for}
use Rattle.cs_build.proofs.Putting.{map_take, map_drop, all_take, all_drop, put_next, on_ok}
use Rattle.cs_build.proofs.Filing.{length-addresses, size_of_file, heap_for}
use Rattle.cs_build.proofs.image.put_heap.Goals as goal

slice_to_end : {A : Type 0} (xs : List A) (i : ℕ) → take (length xs - i) (drop i xs) ≡ drop i xs
slice_to_end xs i = take_all (length xs - i) (drop i xs) (simp length-drop (omega arith))

pub put_objects-requires : goal.put_objects-requires
put_objects-requires c =
    let ls : List Laid = map laid_by c.args.objects.now in
    let len : length c.args.addresses.now ≡ length ls = ap length c.requires.addresses ∙ length-addresses ls in
    subst (λ (n : ℕ). AllByRecursion (FitsLaid n) (map laid_by (take 3 c.args.objects.now))) (sym len)
    (subst (λ (xs : List Laid). AllByRecursion (FitsLaid (length ls)) xs) (sym (map_take laid_by 3 c.args.objects.now)) (all_take (FitsLaid (length ls)) 3 ls c.requires.fits.objects))

pub put_root-requires : goal.put_root-requires
put_root-requires c = omega (arith, c.requires.fits.size, c.requires.words, size_of_file (map laid_by c.args.objects.now) c.args.table.now)

pub put_objects-requires-2 : goal.put_objects-requires-2
put_objects-requires-2 c =
    let ls : List Laid = map laid_by c.args.objects.now in
    let len : length c.args.addresses.now ≡ length ls = ap length c.requires.addresses ∙ length-addresses ls in
    let part : map laid_by (take (length c.args.objects.now - 3) (drop 3 c.args.objects.now)) ≡ drop 3 ls =
    ap (map laid_by) (slice_to_end c.args.objects.now 3) ∙ map_drop laid_by 3 c.args.objects.now in
    subst (λ (n : ℕ). AllByRecursion (FitsLaid n) (map laid_by (take (length c.args.objects.now - 3) (drop 3 c.args.objects.now)))) (sym len)
    (subst (λ (xs : List Laid). AllByRecursion (FitsLaid (length ls)) xs) (sym part) (all_drop (FitsLaid (length ls)) 3 ls c.requires.fits.objects))

pub put_pages-requires : goal.put_pages-requires
put_pages-requires c =
    let ls : List Laid = map laid_by c.args.objects.now in
    let len : length c.args.addresses.now ≡ length ls = ap length c.requires.addresses ∙ length-addresses ls in
    record { held = subst (λ (n : ℕ). AllByRecursion (λ (number : ℕ). number < n) c.args.table.now) (sym len) c.requires.fits.entries }

pub returns : goal.returns
returns c =
    let ls : List Laid = map laid_by c.args.objects.now in
    let a : List ℕ = c.args.addresses.now in
    let first : List ℕ = flat_map saved_words (map (saved_by a) (take 3 ls)) in
    let free : List ℕ = saved_words free_lists in
    let root : List ℕ = saved_words (hidden_object 2 (root_words c.args.words (length c.args.table.now / 1024))) in
    let rest : List ℕ = flat_map saved_words (map (saved_by a) (drop 3 ls)) in
    let pages : List ℕ = flat_map saved_words (map table_page (table_pages a c.args.table.now)) in
    let one : c.put_objects.new.out.items ≡ put_words c.args.out.now.items first =
    c.in_ok-put_objects.ensures ∙ ap (λ (xs : List Laid). put_words c.args.out.now.items (flat_map saved_words (map (saved_by c.args.addresses.now) xs))) (map_take laid_by 3 c.args.objects.now) in
    let two : c.put_free_lists.new.out.items ≡ put_words c.args.out.now.items (first ++ free) =
    put_next c.args.out.now.items c.put_objects.new.out.items c.put_free_lists.new.out.items first free (first ++ free) one c.in_ok-put_free_lists.ensures refl in
    let three : c.put_root.new.out.items ≡ put_words c.args.out.now.items ((first ++ free) ++ root) =
    put_next c.args.out.now.items c.put_free_lists.new.out.items c.put_root.new.out.items (first ++ free) root ((first ++ free) ++ root) two c.in_ok-put_root.ensures refl in
    let part : map laid_by (take (length c.args.objects.now - 3) (drop 3 c.args.objects.now)) ≡ drop 3 ls =
    ap (map laid_by) (slice_to_end c.args.objects.now 3) ∙ map_drop laid_by 3 c.args.objects.now in
    let more : c.put_objects-2.new.out.items ≡ put_words c.put_root.new.out.items rest =
    c.in_ok-put_objects-2.ensures ∙ ap (λ (xs : List Laid). put_words c.put_root.new.out.items (flat_map saved_words (map (saved_by c.args.addresses.now) xs))) part in
    let four : c.put_objects-2.new.out.items ≡ put_words c.args.out.now.items (((first ++ free) ++ root) ++ rest) =
    put_next c.args.out.now.items c.put_root.new.out.items c.put_objects-2.new.out.items ((first ++ free) ++ root) rest (((first ++ free) ++ root) ++ rest) three more refl in
    on_ok c.put_pages.result (c.put_pages.new.out.items ≡ put_words c.put_objects-2.new.out.items pages)
    (c.put_pages.new.out.items ≡ put_words c.args.out.now.items (saved_heap (file_for (map laid_by c.args.objects.now) c.args.table.now)))
    (λ h. put_next c.args.out.now.items c.put_objects-2.new.out.items c.put_pages.new.out.items (((first ++ free) ++ root) ++ rest) pages (saved_heap (file_for ls c.args.table.now)) four h
    (heap_for ls c.args.table.now a c.args.words c.requires.addresses c.requires.words c.requires.fits.few)) c.put_pages.ensures
