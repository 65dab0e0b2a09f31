use Rattle.std.proofs.Common.{ℕ, List, [], length, refl, ap, ◌∙◌, arith}
use Rattle.cs_heap.specs.Layout.{address_from}
use Rattle.cs_heap.proofs.Marks.{walk}
use Rattle.cs_heap.proofs.Standing.{laid_seen, length-marks, length-all_words}
use Rattle.cs_heap.proofs.Heap.first.Goals as goal

pub object_from-requires : goal.object_from-requires
object_from-requires c =
    let laid = laid_seen c.self.inside c.args.self.now c.self.invariant c.self.view_is in
    omega (arith, ap length c.deref.ensures.value, length-marks c.self.inside c.args.self.now.objects laid, ap length laid.words, length-all_words c.args.self.now.objects, c.self.invariant.within, c.self.invariant.most)

pub returns : goal.returns
returns c =
    let laid = laid_seen c.self.inside c.args.self.now c.self.invariant c.self.view_is in
    c.object_from.ensures ∙ ap (λ (marks : List ℕ). address_from marks 0) c.deref.ensures.value
    ∙ walk c.self.inside [] c.args.self.now.objects laid 0 refl
