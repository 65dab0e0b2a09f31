-- The outside in memory, as its callers see it.
use Rattle.std.specs.Prelude.{◌≡◌, ◌≢◌, ℕ, ◌-◌, ◌<◌, ◌≤◌, List, [], ◌∷◌, ◌++◌, Option, Some, None, All, AllPairs, Contains, find, length, map, option_and_then, position, slice_get, suc, zero}
use Rattle.std.specs.Str.{bytes_eq}
use Rattle.cs_shelf.specs.Outside.{Fault, next_count}

-- the calls that were made, counted from 0: which are to fail, how many there were, how many failed
pub record CallsView : Type 0 where
  pub listed : List ℕ
  pub made : ℕ
  pub faults : ℕ

abbrev pub new_calls : List ℕ → CallsView
new_calls listed = record { listed = listed; made = 0; faults = 0 }

-- the call that comes next is to fail
abbrev pub IsListed : CallsView → Type 0
IsListed calls = Contains calls.listed calls.made

-- after a call that went well, and after one that failed
abbrev pub passed : CallsView → CallsView
passed calls = record calls { made = next_count calls.made }

abbrev pub failed : CallsView → CallsView
failed calls = record calls { made = next_count calls.made; faults = next_count calls.faults }

-- bytes that were taken one behind another, and how many there is room for in all
pub record TakenView : Type 0 where
  pub bytes : List ℕ
  pub room : ℕ

abbrev pub none_taken : ℕ → TakenView
none_taken room = record { bytes = []; room = room }

abbrev pub room_left : TakenView → ℕ
room_left taken = taken.room - length taken.bytes

-- a piece isn't empty, and there is no room for any of it
abbrev pub IsFullFor : TakenView → List ℕ → Type 0
IsFullFor taken piece = (0 < length piece) × (room_left taken ≡ 0)

-- after a piece was taken
abbrev pub grown : TakenView → List ℕ → TakenView
grown taken piece = record taken { bytes = taken.bytes ++ piece }

-- a sink in memory
pub record SinkView : Type 0 where
  pub taken : TakenView
  pub calls : CallsView

abbrev pub new_sink : ℕ → List ℕ → SinkView
new_sink room listed = record { taken = none_taken room; calls = new_calls listed }

-- a name of a shelf, its content where it has one, and how many bytes that may have
pub record EntryView : Type 0 where
  pub name : List ℕ
  pub content : Option (List ℕ)
  pub room : ℕ

abbrev pub new_entry : ℕ → List ℕ → EntryView
new_entry room name = record { name = name; content = None; room = room }

-- a shelf: its names, the place of the one whose content is begun, what was taken since the last start, the call
-- that failed last, and how far was read
pub record ShelfView : Type 0 where
  pub entries : List EntryView
  pub begun : Option ℕ
  pub taken : TakenView
  pub calls : CallsView
  pub last : Fault
  pub asked : ℕ

abbrev pub names_of : List EntryView → List (List ℕ)
names_of entries = map (λ e. e.name) entries

-- no two names are the same
abbrev pub NamesDiffer : List (List ℕ) → Type 0
NamesDiffer names = AllPairs (λ a b. a ≢ b) names

-- what a name holds
abbrev pub content_of : List EntryView → List ℕ → Option (List ℕ)
content_of entries name = option_and_then (λ e. e.content) (find (λ e. bytes_eq e.name name) entries)

-- the place of a name
abbrev pub entry_place : List EntryView → List ℕ → Option ℕ
entry_place entries name = position (λ e. bytes_eq e.name name) entries

-- the name at a place
abbrev pub name_at : List EntryView → Option ℕ → Option (List ℕ)
name_at entries place = option_and_then (λ k. slice_get (names_of entries) k) place

-- names that differ and are short enough, each with room for what is taken
pub record AreKept (room : ℕ) (entries : List EntryView) : Type 0 where
  pub differ : NamesDiffer (names_of entries)
  pub short : All (λ name. length name ≤ 4096) (names_of entries)
  pub roomy : All (λ held. room ≤ held) (map (λ e. e.room) entries)

-- the entries after the one at k was given a content
abbrev pub put_at : List EntryView → ℕ → List ℕ → List EntryView
put_at [] k bytes = []
put_at (e ∷ es) zero bytes = record e { content = Some bytes } ∷ es
put_at (e ∷ es) (suc k) bytes = e ∷ put_at es k bytes
