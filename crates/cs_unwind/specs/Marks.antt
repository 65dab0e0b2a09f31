-- What a search for a mark finds.
use Rattle.std.specs.Prelude.{◌≡◌, ℕ, Option, Some, IsSome, option_map}
use Rattle.cs_model.specs.PrimUnwind.{Marked, MarkAt, NoMark, MarkTooFar}
use Rattle.cs_acts.specs.declared.act.Act.{Act}
use Rattle.cs_unwind.specs.declared.marks.Mark.{Mark}
use Rattle.cs_unwind.specs.declared.marks.Mark.TheVariants.{At, Nowhere, TooFar}

-- this is what the model finds
abbrev pub FindsMark : (Act → Option ℕ) → Mark → Marked → Type 0
FindsMark act (At a) m = option_map (λ i. MarkAt i) (act a) ≡ Some m
FindsMark act Nowhere m = m ≡ NoMark
FindsMark act TooFar m = m ≡ MarkTooFar

-- a mark that was found stands for a context
abbrev pub MarkStands : (Act → Option ℕ) → Mark → Type 0
MarkStands act (At a) = IsSome (act a)
MarkStands act Nowhere = Unit {0}
MarkStands act TooFar = Unit {0}
