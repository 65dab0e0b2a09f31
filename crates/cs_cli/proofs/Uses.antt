-- What a use of an argument makes of the rows, and when it is refused.
use Rattle.std.proofs.Common.{◌≡◌, ℕ, Bool, true, false, List, [], ◌∷◌, ◌++◌, ◌&&◌, ◌||◌, not, Option, Some, None, codes, refl, ap, ◌∙◌, append-nil}
use Rattle.std.specs.Str.{bytes_eq}
use Rattle.clap.specs.Walk.{Row, Text, at_row, has_row, more_values, used, without}
use Rattle.clap.specs.Faults.{use_fault}
use Rattle.clap.specs.Kinds.{Kinds, or_else}
use Rattle.clap.specs.declared.parser.matches.ValueSource.TheVariants.{CommandLine}
use Rattle.clap.specs.declared.builder.value_parser.Reading.TheVariants.{AsWritten}
use Rattle.cs_cli.proofs.Rules.{flag, valued, no}

-- no kind of error
abbrev pub clean : Kinds → Bool
clean [] = true
clean (k ∷ ks) = false

pub clean-or : (a b : Kinds) → clean (or_else a b) ≡ clean a && clean b
clean-or [] b = refl
clean-or (k ∷ ks) b = refl

abbrev pub row : Text → Text → Row
row id v = record { id = id; values = v ∷ []; count = None; source = Some CommandLine; reading = AsWritten }

abbrev pub Uses : Type 0
Uses = List (Text × Text)

abbrev pub rows_by : Uses → List Row
rows_by [] = []
rows_by (u ∷ us) = row u.0 u.1 ∷ rows_by us

abbrev pub has : Text → Uses → Bool
has id [] = false
has id (u ∷ us) = bytes_eq u.0 id || has id us

pub rows_by-append : (us vs : Uses) → rows_by (us ++ vs) ≡ rows_by us ++ rows_by vs
rows_by-append [] vs = refl
rows_by-append (u ∷ us) vs = ap (λ r. row u.0 u.1 ∷ r) (rows_by-append us vs)

pub has_row-by : (id : Text) (us : Uses) → has_row id (rows_by us) ≡ has id us
has_row-by id [] = refl
has_row-by id (u ∷ us) = ap (λ t. bytes_eq u.0 id || t) (has_row-by id us)

right_false : (a b : Bool) → (a || b) ≡ false → b ≡ false
right_false false b h = h
right_false true b h = absurd (no h)

left_false : (a b : Bool) → (a || b) ≡ false → a ≡ false
left_false false b h = refl
left_false true b h = absurd (no h)

-- a row that isn't there comes at the end
pub at_row-new : (id : Text) (change : Row → List Row) (missing rows : List Row) → has_row id rows ≡ false → at_row id change missing rows ≡ rows ++ missing
at_row-new id change missing [] h = refl
at_row-new id change missing (r ∷ rs) h =
    rw (left_false (bytes_eq r.id id) (has_row id rs) h) (ap (λ x. r ∷ x) (at_row-new id change missing rs (right_false (bytes_eq r.id id) (has_row id rs) h)))

pub without-new : (id : Text) (rows : List Row) → has_row id rows ≡ false → without id rows ≡ rows
without-new id rows h = at_row-new id (λ _. []) [] rows h ∙ append-nil rows

pub used_valued : (id : Text) (long : Option Text) (required : Bool) (index : Option ℕ) (v : Text) (rows : List Row) → has_row id rows ≡ false
    → used (valued id long required index) (v ∷ []) rows ≡ rows ++ row id v ∷ []
used_valued id long required index v rows h = rw (without-new id rows h) (at_row-new id (more_values CommandLine (v ∷ [])) _ rows h)

pub used_flag : (rows : List Row) → has_row (codes "--stats") rows ≡ false → used flag [] rows ≡ rows ++ row (codes "--stats") (codes "true") ∷ []
used_flag rows h = rw (without-new (codes "--stats") rows h) (at_row-new (codes "--stats") (more_values CommandLine (codes "true" ∷ [])) _ rows h)

pub fault_valued : (id : Text) (long : Option Text) (required : Bool) (index : Option ℕ) (v : Text) (rows : List Row)
    → clean (use_fault false (valued id long required index) (v ∷ []) rows) ≡ not (has_row id rows)
fault_valued id long required index v rows = go (has_row id rows) refl where
  go : (t : Bool) → has_row id rows ≡ t → clean (use_fault false (valued id long required index) (v ∷ []) rows) ≡ not t
  go true e = rw e refl
  go false e = rw e refl

pub fault_empty : (id : Text) (long : Option Text) (required : Bool) (index : Option ℕ) (rows : List Row)
    → clean (use_fault false (valued id long required index) [] rows) ≡ false
fault_empty id long required index rows = refl

pub fault_flag : (rows : List Row) → clean (use_fault false flag [] rows) ≡ not (has_row (codes "--stats") rows)
fault_flag rows = go (has_row (codes "--stats") rows) refl where
  go : (t : Bool) → has_row (codes "--stats") rows ≡ t → clean (use_fault false flag [] rows) ≡ not t
  go true e = rw e refl
  go false e = rw e refl
