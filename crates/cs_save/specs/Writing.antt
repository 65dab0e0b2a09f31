-- Bytes that are written to a shelf's begun content through a piece that gathers them.
use Rattle.std.specs.Prelude.{◌≡◌, ◌≢◌, ℕ, ◌≤◌, List, ◌++◌, take, Option, Some, None, option_map, IfSome}
use Rattle.cs_shelf.specs.Outside.{Fault, Rose, save_fault}
use Rattle.cs_model.specs.Words.{bytes_of_words}

-- a shelf, and the piece that it hasn't been given yet
pub record Gathering : Type 0 where
  pub begun : Option (List ℕ)
  pub content : List ℕ → Option (List ℕ)
  pub asked : Option ℕ
  pub faults : ℕ
  pub last : Fault
  pub taken : Option (List ℕ)
  pub piece : List ℕ

abbrev pub writing : Option (List ℕ) → (List ℕ → Option (List ℕ)) → Option ℕ → ℕ → Fault → Option (List ℕ) → List ℕ → Gathering
writing begun content asked faults last taken piece =
    record { begun = begun; content = content; asked = asked; faults = faults; last = last; taken = taken; piece = piece }

-- what was taken, and the piece behind it
abbrev pub gathered : Gathering → Option (List ℕ)
gathered a = option_map (λ (bytes : List ℕ). bytes ++ a.piece) a.taken

-- no name but that of the begun content changes what it holds
abbrev pub OthersStay : Gathering → Gathering → Type 0
OthersStay a b = (other : List ℕ) → a.begun ≢ Some other → b.content other ≡ a.content other

-- these bytes were written behind those that were written before
pub record WentOn (a b : Gathering) (bytes : List ℕ) : Type 0 where
  pub begun : b.begun ≡ a.begun
  pub others : OthersStay a b
  pub asked : b.asked ≡ a.asked
  pub never_falls : a.faults ≤ b.faults
  pub last : b.last ≡ a.last
  pub taken : gathered b ≡ option_map (λ (before : List ℕ). before ++ bytes) (gathered a)

-- a call failed: only the first of all those bytes were taken
pub record BrokeOff (a b : Gathering) (bytes : List ℕ) : Type 0 where
  pub begun : b.begun ≡ None
  pub others : OthersStay a b
  pub asked : b.asked ≡ a.asked
  pub never_falls : a.faults ≤ b.faults
  pub rose : Rose a.faults b.faults
  pub last : IfSome a.begun (λ name. b.last ≡ save_fault name)
  pub taken : (n : ℕ) × (b.taken ≡ option_map (λ (before : List ℕ). take n (before ++ bytes)) (gathered a))

-- the same of words, each with its lowest byte first
abbrev pub WroteWords : Gathering → Gathering → List ℕ → Type 0
WroteWords a b words = WentOn a b (bytes_of_words words)

abbrev pub BrokeWords : Gathering → Gathering → List ℕ → Type 0
BrokeWords a b words = BrokeOff a b (bytes_of_words words)
