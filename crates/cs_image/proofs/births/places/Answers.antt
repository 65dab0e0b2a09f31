use Rattle.std.proofs.Common.{◌≡◌, ℕ, [], ◌∷◌, ◌++◌, List, ap, sym, ◌∙◌, arith, rules}
use Rattle.std.specs.List.{range_with_len}
use Rattle.cs_image.proofs.Numbering.{range_more}
use Rattle.cs_image.proofs.births.places.Goals as goal

pub loop-place-preserved : goal.loop-place-preserved
loop-place-preserved c =
    let pushed : c.push.new.self.items ≡ c.loop-place.births.items ++ c.loop-place.place ∷ [] = search rules in
    pushed ∙ ap (λ (xs : List ℕ). xs ++ c.loop-place.place ∷ []) c.loop-place.invariant
    ∙ ap (λ n. range_with_len 0 c.loop-place.place ++ n ∷ []) (omega arith) ∙ sym (range_more 0 c.loop-place.place)
