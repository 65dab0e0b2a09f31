use Rattle.std.proofs.Common.{ℕ, ◌+◌, [], ◌∷◌, ◌++◌, length, map, take, ap, sym, ◌∙◌}
use Rattle.cs_build.specs.Laid.{reference_by, ref_word, FitsRef}
use Rattle.cs_build.proofs.Putting.{put_nothing, put_next, two_more, all_mapped}
use Rattle.cs_build.proofs.image.put_slots.Goals as goal
use Rattle.cs_build.specs.declared.object.Reference.TheVariants.{Small}
use Rattle.std.specs.Prelude.{pos}

pub loop-slot-init : goal.loop-slot-init
loop-slot-init c = put_nothing c.args.out.now.items

pub word_of-requires : goal.word_of-requires
word_of-requires c = all_mapped (FitsRef (length c.args.addresses.now)) reference_by c.args.slots.now c.loop-slot.slot-index (Small (pos 0)) c.requires c.loop-slot-test.true

pub loop-slot-preserved : goal.loop-slot-preserved
loop-slot-preserved c =
    put_next c.args.out.now.items c.loop-slot.out.items c.put_word.new.out.items (map (ref_word c.args.addresses.now) (map reference_by (take c.loop-slot.slot-index c.args.slots.now))) (c.word_of.result ∷ [])
    (map (ref_word c.args.addresses.now) (map reference_by (take (c.loop-slot.slot-index + 1) c.args.slots.now)))
    c.loop-slot.invariant c.in_ok-put_word.ensures
    (two_more (ref_word c.args.addresses.now) reference_by c.args.slots.now c.loop-slot.slot-index (Small (pos 0)) c.loop-slot-test.true
    ∙ ap (λ (w : ℕ). map (ref_word c.args.addresses.now) (map reference_by (take c.loop-slot.slot-index c.args.slots.now)) ++ w ∷ []) (sym c.word_of.ensures))
