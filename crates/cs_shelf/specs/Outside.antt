-- What the outside of the machine promises: counts of faults, bytes that are taken, bytes that are read.
use Rattle.std.specs.Prelude.{◌≡◌, ℕ, ◌+◌, ◌-◌, ◌^◌, ◌<◌, ◌≤◌, Bool, true, false, List, [], ◌++◌, Option, IfSome, length, take, option_map, min, max}

-- the last value of a count, at which it stands
abbrev pub greatest_count : ℕ
greatest_count = 2 ^ 64 - 1

-- a count after one more
abbrev pub next_count : ℕ → ℕ
next_count n = min (n + 1) greatest_count

-- a count rose, or it stands at its last value
abbrev pub Rose : ℕ → ℕ → Type 0
Rose before now = next_count before ≤ now

-- the call of a shelf that failed last: the name that it was about, and whether it was a read
pub record Fault : Type 0 where
  pub name : List ℕ
  pub was_read : Bool

abbrev pub read_fault : List ℕ → Fault
read_fault name = record { name = name; was_read = true }

abbrev pub save_fault : List ℕ → Fault
save_fault name = record { name = name; was_read = false }

-- where bytes are told, none are taken any more
abbrev pub Empties : Option (List ℕ) → Option (List ℕ) → Type 0
Empties old new = new ≡ option_map (λ (taken : List ℕ). []) old

-- where it is told how far was read, that went no further than `end`
abbrev pub AsksTo : Option ℕ → Option ℕ → ℕ → Type 0
AsksTo old new end = IfSome old (λ far. IfSome new (λ now. now ≤ max far end))

-- where bytes are told, these stand behind those that were there before
abbrev pub Appends : Option (List ℕ) → Option (List ℕ) → List ℕ → Type 0
Appends old new bytes = new ≡ option_map (λ (taken : List ℕ). taken ++ bytes) old

-- the same of the first bytes of a piece: maybe none of them, and not all
abbrev pub AppendsPart : Option (List ℕ) → Option (List ℕ) → List ℕ → Type 0
AppendsPart old new piece = (n : ℕ) × (n < length piece) × Appends old new (take n piece)
