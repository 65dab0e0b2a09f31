use Rattle.std.proofs.Common.{◌≡◌, ℕ, ◌-◌, List, ◌++◌, map, replicate, refl, ap, sym, ◌∙◌}
use Rattle.cs_model.specs.SavedFile.{saved_words, body_size}
use Rattle.cs_build.specs.Laid.{put_words, reference_by, ref_word, laid_by, saved_by, laid_slots, head_words, byte_words}
use Rattle.cs_build.proofs.Putting.{put_next, on_ok, saved_as}
use Rattle.cs_build.specs.declared.object.Reference.{Reference}
use Rattle.cs_build.proofs.image.put_object.Goals as goal

pub returns : goal.returns
returns c =
    let n : ℕ = c.slot_count-slots.result in
    let a : List ℕ = c.args.addresses.now in
    let refs : List ℕ = map (ref_word a) (map reference_by c.args.object.now.slots.items) in
    let words : List ℕ = byte_words c.args.object.now.bytes.items in
    let head : List ℕ = head_words c.args.object.now.class c.args.object.now.format c.args.object.now.hash n in
    let size : laid_slots (laid_by c.args.object.now) ≡ n = sym c.slot_count-slots.ensures in
    let zeros : c.body_size.result - n ≡ body_size n - n = ap (λ (k : ℕ). k - n) c.body_size.ensures in
    let put_refs : c.put_slots.new.out.items ≡ put_words c.put_head.new.out.items refs =
    c.in_ok-put_slots.ensures ∙ ap (λ (xs : List Reference). put_words c.put_head.new.out.items (map (ref_word a) (map reference_by xs))) c.deref.ensures.value in
    let put_rest : c.put_bytes.new.out.items ≡ put_words c.put_slots.new.out.items words =
    c.in_ok-put_bytes.ensures ∙ ap (λ (xs : List ℕ). put_words c.put_slots.new.out.items (byte_words xs)) c.deref-2.ensures.value in
    on_ok c.put_zeros.result (c.put_zeros.new.out.items ≡ put_words c.put_bytes.new.out.items (replicate (c.body_size.result - n) 0))
    (c.put_zeros.new.out.items ≡ put_words c.args.out.now.items (saved_words (saved_by a (laid_by c.args.object.now))))
    (λ h. put_next c.args.out.now.items c.put_bytes.new.out.items c.put_zeros.new.out.items
    ((head ++ refs) ++ words) (replicate (c.body_size.result - n) 0) (saved_words (saved_by a (laid_by c.args.object.now)))
    (put_next c.args.out.now.items c.put_slots.new.out.items c.put_bytes.new.out.items (head ++ refs) words ((head ++ refs) ++ words)
    (put_next c.args.out.now.items c.put_head.new.out.items c.put_slots.new.out.items head refs (head ++ refs) c.in_ok-put_head.ensures put_refs refl)
    put_rest refl)
    h (saved_as a (laid_by c.args.object.now)
    ∙ ap (λ (k : ℕ). ((head_words c.args.object.now.class c.args.object.now.format c.args.object.now.hash k ++ refs) ++ words) ++ replicate (body_size k - k) 0) size
    ∙ ap (λ (k : ℕ). ((head ++ refs) ++ words) ++ replicate k 0) (sym zeros)))
    c.put_zeros.ensures
