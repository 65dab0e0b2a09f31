-- The words of a state are the words of the heap in which all of it stands.
use Rattle.std.proofs.Common.{◌≡◌, ℕ, ◌-◌, ◌∙◌, Option, List}
use Rattle.cs_heap.specs.Object.{Object, used}
use Rattle.cs_classes.specs.declared.Roots.{Roots}
use Rattle.cs_classes.specs.Meaning.{kept_of}
use Rattle.cs_classes.specs.Sound.{IsWhole}
use Rattle.cs_acts.specs.Layout.{IsPlain}
use Rattle.cs_model.specs.Demand.{words_held}
use Rattle.cs_plain.specs.declared.PlainWorld.{PlainWorld}
use Rattle.cs_plain.specs.View.{plain_active, plain_stored, plain_view}
use Rattle.cs_classes.proofs.Counting.{heap_words, words_by-state}

pub words_of-kept : (os : List Object) (w : PlainWorld) (roots : Roots) (active : Option ℕ) → IsWhole os w.classes roots → words_held (kept_of os w.classes roots active) ≡ used os
words_of-kept os w roots active whole =
    words_by-state roots.next_birth (kept_of os w.classes roots active) ∙ heap_words os roots.next_birth whole.heap.apart whole.births whole.heap.each

-- so the world needs no layout
pub is_plain : (w : PlainWorld) → IsWhole w.heap.objects w.classes w.roots → IsPlain (plain_stored w) (plain_view w)
is_plain w whole = record { objects = λ i o h. h; words = words_of-kept w.heap.objects w w.roots (plain_active w.heap.objects w.active) whole }
