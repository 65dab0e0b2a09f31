use Rattle.std.proofs.Common.{◌≡◌, ◌<◌, ap, sym, ◌∙◌, arith}
use Rattle.cs_model.specs.ImageFault.{all_below, is_sound_entry, table_size}
use Rattle.cs_image.proofs.Below.{table_size_is, all_below_more, all_below_fails}
use Rattle.cs_image.proofs.table.are_sound.Goals as goal

pub loop-index-preserved : goal.loop-index-preserved
loop-index-preserved c =
    all_below_more c.loop-index.index (is_sound_entry c.args.file.now) c.loop-index.invariant (sym c.is_sound.ensures ∙ c.if-not-is_sound.false)

pub returns-then-not-is_sound : goal.returns-then-not-is_sound
returns-then-not-is_sound c =
    let below : c.loop-index.index < table_size = omega (arith, table_size_is, c.loop-index-test.true) in
    sym (all_below_fails table_size c.loop-index.index (is_sound_entry c.args.file.now) below (sym c.is_sound.ensures ∙ c.if-not-is_sound.true))

pub returns : goal.returns
returns c =
    let all : c.loop-index.index ≡ table_size = omega (arith, table_size_is) in
    sym c.loop-index.invariant ∙ ap (λ n. all_below n (is_sound_entry c.args.file.now)) all
