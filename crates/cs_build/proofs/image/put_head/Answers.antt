use Rattle.std.proofs.Common.{◌≡◌, ℕ, ◌/◌, ◌%◌, ◌^◌, [], ◌∷◌, ◌++◌, refl, ap, sym}
use Rattle.cs_model.specs.SavedFile.{overflow_words}
use Rattle.cs_build.specs.Laid.{put_words, head_words, head_bits_of}
use Rattle.cs_build.proofs.Putting.{put_next, on_ok}
use Rattle.cs_build.proofs.image.put_head.Goals as goal

pub returns : goal.returns
returns c =
    let n = c.args.slots in
    let bits : c.head_bits-bits.result ≡ head_bits_of c.args.class c.args.format c.args.hash n = c.head_bits-bits.ensures in
    let low : ℕ = c.head_bits-bits.result % 2 ^ 32 in
    let high : ℕ = c.head_bits-bits.result / 2 ^ 32 in
    on_ok c.put_word-2.result (c.put_word-2.new.out.items ≡ put_words c.put_word.new.out.items (high ∷ []))
    (c.put_word-2.new.out.items ≡ put_words c.args.out.now.items (head_words c.args.class c.args.format c.args.hash n))
    (λ h. put_next c.args.out.now.items c.put_overflow.new.out.items c.put_word-2.new.out.items (overflow_words n) (low ∷ high ∷ []) (head_words c.args.class c.args.format c.args.hash n)
    c.in_ok-put_overflow.ensures
    (put_next c.put_overflow.new.out.items c.put_word.new.out.items c.put_word-2.new.out.items (low ∷ []) (high ∷ []) (low ∷ high ∷ []) c.in_ok-put_word.ensures h refl)
    (ap (λ (b : ℕ). overflow_words n ++ b % 2 ^ 32 ∷ b / 2 ^ 32 ∷ []) (sym bits))) c.put_word-2.ensures
