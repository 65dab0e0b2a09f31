use Rattle.std.proofs.Common.{ℕ, ap, sym, subst, ◌∙◌}
use Rattle.std.specs.List.Sorted.{IsNonDecreasing}
use Rattle.std.proofs.lemmas.List.Sorted.{IsNonDecreasingBy-from_sort}
use Rattle.cs_model.specs.ImageFault.{has_repeats}
use Rattle.cs_image.proofs.Numbering.{repeats_alike}
use Rattle.cs_image.proofs.births.has_repeats.Goals as goal

pub repeats_in_order-repeats-requires : goal.repeats_in_order-repeats-requires
repeats_in_order-repeats-requires c =
    let up = IsNonDecreasingBy-from_sort (λ (x : ℕ). x) c.sort_unstable.new.self.items c.sort_unstable.ensures.sorted in
    subst IsNonDecreasing (sym c.deref.ensures.value) up

pub returns : goal.returns
returns c =
    c.repeats_in_order-repeats.ensures ∙ ap has_repeats c.deref.ensures.value
    ∙ repeats_alike c.in_ok-sorted.sorted.items c.sort_unstable.new.self.items c.sort_unstable.ensures.permutation
    ∙ ap has_repeats (c.in_ok-sorted.ensures.items_if_clones_equal (λ x y e. e))
