use Rattle.std.proofs.Common.{◌≡◌, ◌*◌, ◌^◌, [], ◌∷◌, ap, sym, ◌∙◌}
use Rattle.cs_model.specs.SavedFile.{overflow_words}
use Rattle.cs_build.specs.Laid.{put_words}
use Rattle.cs_build.proofs.Putting.{put_nothing, put_next, on_ok, short_overflow, long_overflow}
use Rattle.cs_build.proofs.image.put_overflow.Goals as goal

pub returns-then-slots-lt255 : goal.returns-then-slots-lt255
returns-then-slots-lt255 c = put_nothing c.args.out.now.items ∙ ap (put_words c.args.out.now.items) (sym (short_overflow c.args.slots c.if-slots-lt255.true))

pub returns : goal.returns
returns c = on_ok c.put_word-2.result (c.put_word-2.new.out.items ≡ put_words c.put_word.new.out.items (255 * 2 ^ 24 ∷ []))
    (c.put_word-2.new.out.items ≡ put_words c.args.out.now.items (overflow_words c.args.slots))
    (λ h. put_next c.args.out.now.items c.put_word.new.out.items c.put_word-2.new.out.items (c.args.slots ∷ []) (255 * 2 ^ 24 ∷ []) (overflow_words c.args.slots)
    c.in_ok-put_word.ensures h (long_overflow c.args.slots c.if-slots-lt255.false)) c.put_word-2.ensures
