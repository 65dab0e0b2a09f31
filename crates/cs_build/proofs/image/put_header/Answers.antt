use Rattle.std.proofs.Common.{◌≡◌, [], ◌∷◌, replicate, refl}
use Rattle.cs_build.specs.Laid.{put_words, all_header_words}
use Rattle.cs_build.proofs.Putting.{put_next, on_ok}
use Rattle.cs_build.proofs.image.put_header.Goals as goal

pub returns : goal.returns
returns c =
    let two = put_next c.args.out.now.items c.put_word.new.out.items c.put_word-2.new.out.items (6521 ∷ []) (64 ∷ []) (6521 ∷ 64 ∷ []) c.in_ok-put_word.ensures c.in_ok-put_word-2.ensures refl in
    let three = put_next c.args.out.now.items c.put_word-2.new.out.items c.put_word-3.new.out.items (6521 ∷ 64 ∷ []) (c.args.heap_bytes ∷ []) (6521 ∷ 64 ∷ c.args.heap_bytes ∷ []) two c.in_ok-put_word-3.ensures refl in
    let four = put_next c.args.out.now.items c.put_word-3.new.out.items c.put_word-4.new.out.items (6521 ∷ 64 ∷ c.args.heap_bytes ∷ []) (65536 ∷ []) (6521 ∷ 64 ∷ c.args.heap_bytes ∷ 65536 ∷ []) three c.in_ok-put_word-4.ensures refl in
    let five = put_next c.args.out.now.items c.put_word-4.new.out.items c.put_word-5.new.out.items (6521 ∷ 64 ∷ c.args.heap_bytes ∷ 65536 ∷ []) (c.args.special ∷ []) (6521 ∷ 64 ∷ c.args.heap_bytes ∷ 65536 ∷ c.args.special ∷ []) four c.in_ok-put_word-5.ensures refl in
    on_ok c.put_zeros.result (c.put_zeros.new.out.items ≡ put_words c.put_word-5.new.out.items (replicate 11 0))
    (c.put_zeros.new.out.items ≡ put_words c.args.out.now.items (all_header_words c.args.heap_bytes c.args.special))
    (λ h. put_next c.args.out.now.items c.put_word-5.new.out.items c.put_zeros.new.out.items (6521 ∷ 64 ∷ c.args.heap_bytes ∷ 65536 ∷ c.args.special ∷ []) (replicate 11 0)
    (all_header_words c.args.heap_bytes c.args.special) five h refl) c.put_zeros.ensures
