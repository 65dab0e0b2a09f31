-- The walk over the words, beside the parts of the line.
use Rattle.std.proofs.Common.{◌≡◌, ℕ, Bool, true, false, List, [], ◌∷◌, ◌++◌, ◌&&◌, ◌||◌, not, fold, if◌then◌else◌, Option, Some, None, option_map, codes, refl, sym, ap, ◌∙◌, append-nil}
use Rattle.std.specs.Str.{bytes_eq}
use Rattle.clap.specs.Walk.{Held, Row, Text, Walk, arg_by_id, idle, option, settled, walked}
use Rattle.clap.specs.Faults.{settle_fault, turn_fault, walk_fault}
use Rattle.clap.specs.Kinds.{Kinds, or_else}
use Rattle.cs_model.specs.CommandLine.{Part, Positional, Given, stats_word}
use Rattle.cs_cli.proofs.Rules.{no, rules, shape, valued}
use Rattle.cs_cli.proofs.Uses.{Uses, clean, clean-or, fault_valued, has, has_row-by, rows_by, rows_by-append, used_valued}

-- ---- the parts as uses

-- how many of the two places are taken
pub data Seen : Type 0 where
  none : Seen
  one : Seen
  both : Seen

abbrev pub position_of : Seen → ℕ
position_of none = 1
position_of one = 2
position_of both = 3

-- there are places enough
abbrev pub fits : Seen → List Part → Bool
fits s [] = true
fits s (Given name value ∷ parts) = fits s parts
fits none (Positional word ∷ parts) = fits one parts
fits one (Positional word ∷ parts) = fits both parts
fits both (Positional word ∷ parts) = false

abbrev pub value_used : Text → Text → Text
value_used name value = if bytes_eq name stats_word then codes "true" else value

abbrev pub uses : Seen → List Part → Uses
uses s [] = []
uses s (Given name value ∷ parts) = (name, value_used name value) ∷ uses s parts
uses none (Positional word ∷ parts) = (codes "COMMAND", word) ∷ uses one parts
uses one (Positional word ∷ parts) = (codes "FILE", word) ∷ uses both parts
uses both (Positional word ∷ parts) = []

-- a use repeats an earlier one
abbrev pub clashes : Uses → Uses → Bool
clashes seen [] = false
clashes seen (u ∷ us) = has u.0 seen || clashes (seen ++ u ∷ []) us

or_assoc : (a b c : Bool) → ((a || b) || c) ≡ (a || (b || c))
or_assoc true b c = refl
or_assoc false b c = refl

pub append_assoc : (a b c : Uses) → (a ++ b) ++ c ≡ a ++ (b ++ c)
append_assoc [] b c = refl
append_assoc (x ∷ a) b c = ap (λ xs. x ∷ xs) (append_assoc a b c)

pub clashes-append : (seen a b : Uses) → clashes seen (a ++ b) ≡ (clashes seen a || clashes (seen ++ a) b)
clashes-append seen [] b = ap (λ s. clashes s b) (sym (append-nil seen))
clashes-append seen (u ∷ a) b =
    ap (λ t. has u.0 seen || t) (clashes-append (seen ++ u ∷ []) a b)
    ∙ ap (λ s. has u.0 seen || (clashes (seen ++ u ∷ []) a || clashes s b)) (append_assoc seen (u ∷ []) a)
    ∙ sym (or_assoc (has u.0 seen) (clashes (seen ++ u ∷ []) a) (clashes (seen ++ u ∷ a) b))

abbrev pub passes : Uses → Uses → Seen → Option (List Part) → Bool
passes us p n None = false
passes us p n (Some parts) = fits n parts && not (clashes us (p ++ uses n parts))

-- ---- where a walk stands

abbrev pub pending : Uses → Option (Text × List Text)
pending [] = None
pending (u ∷ us) = Some (u.0, u.1 ∷ [])

abbrev pub held_at : Uses → Uses → Held
held_at us p = record { rows = rows_by us; pending = pending p; skip = 0 }

abbrev pub at : Uses → Uses → Seen → Bool → Walk
at us p n trailing = record {
  held = held_at us p;
  waiting = idle;
  position = position_of n;
  is_trailing = trailing;
  stopped = None;
}

-- an option that waits for its value
abbrev pub waits : Uses → Text → Seen → Bool → Walk
waits us id n trailing = record {
  held = record { rows = rows_by us; pending = Some (id, []); skip = 0 };
  waiting = option id;
  position = position_of n;
  is_trailing = trailing;
  stopped = None;
}

-- at most one use is pending, of an argument with one value
abbrev pub IsOne : Uses → Type 0
IsOne [] = Unit {0}
IsOne (u ∷ []) = (long : Option Text) × (required : Bool) × (index : Option ℕ) × (arg_by_id rules u.0 ≡ Some (valued u.0 long required index))
IsOne (u ∷ v ∷ us) = ⊥

or_false : (a : Bool) → (a || false) ≡ a
or_false true = refl
or_false false = refl

pub settle_clean : (us p : Uses) → IsOne p → clean (settle_fault rules false (held_at us p)) ≡ not (clashes us p)
settle_clean us [] h = refl
settle_clean us (u ∷ []) (long, required, index, h) =
    rw h (fault_valued u.0 long required index u.1 (rows_by us) ∙ ap not (has_row-by u.0 us ∙ sym (or_false (has u.0 us))))
settle_clean us (u ∷ v ∷ vs) h = absurd h

pub settled_at : (us p : Uses) → IsOne p → clashes us p ≡ false → settled rules (held_at us p) ≡ held_at (us ++ p) []
settled_at us [] h calm = ap (λ x. held_at x []) (sym (append-nil us))
settled_at us (u ∷ []) (long, required, index, h) calm =
    let new = has_row-by u.0 us ∙ sym (or_false (has u.0 us)) ∙ calm in
    let held : List Row → Held = λ rows. record { rows = rows; pending = None; skip = 0 } in
    rw h (ap held (used_valued u.0 long required index u.1 (rows_by us) new ∙ sym (rows_by-append us (u ∷ []))))
settled_at us (u ∷ v ∷ vs) h calm = absurd h

-- ---- what is still to come

abbrev pub end_of : Walk → List Text → Walk
end_of w words = fold (walked rules []) w words

abbrev pub rest : Walk → List Text → Kinds
rest w words = or_else (walk_fault shape [] w words) (settle_fault rules false (end_of w words).held)

and_assoc : (a b c : Bool) → ((a && b) && c) ≡ (a && (b && c))
and_assoc true b c = refl
and_assoc false b c = refl

pub rest-step : (w : Walk) (word : Text) (words : List Text)
    → clean (rest w (word ∷ words)) ≡ (clean (turn_fault shape [] w word) && clean (rest (walked rules [] w word) words))
unfolding walk_fault
rest-step w word words =
    let turn = turn_fault shape [] w word in
    let next = walk_fault shape [] (walked rules [] w word) words in
    let end = settle_fault rules false (end_of (walked rules [] w word) words).held in
    clean-or (or_else turn next) end ∙ ap (λ t. t && clean end) (clean-or turn next)
    ∙ and_assoc (clean turn) (clean next) (clean end) ∙ ap (λ t. clean turn && t) (sym (clean-or next end))

-- the walk is clean where the parts pass, and has their rows at its end
pub record Told (w : Walk) (words : List Text) (us p : Uses) (n : Seen) (o : Option (List Part)) : Type 0 where
  pub clean : clean (rest w words) ≡ passes us p n o
  pub rows : (parts : List Part) → o ≡ Some parts → passes us p n o ≡ true
      → (settled rules (end_of w words).held).rows ≡ rows_by (us ++ (p ++ uses n parts))

-- a turn that is refused, as the line is
pub dead : (w : Walk) (word : Text) (words : List Text) (us p : Uses) (n : Seen) (o : Option (List Part))
    → clean (turn_fault shape [] w word) ≡ false → passes us p n o ≡ false → Told w (word ∷ words) us p n o
dead w word words us p n o turn refused = record {
  clean = rest-step w word words ∙ ap (λ t. t && clean (rest (walked rules [] w word) words)) turn ∙ sym refused;
  rows = λ parts is passed. absurd (no (sym passed ∙ refused));
}

and_false : (a : Bool) → (a && false) ≡ false
and_false true = refl
and_false false = refl

-- a turn that settles what is pending and what is done at once, and leaves something pending
pub step : (w after : Walk) (word : Text) (words : List Text) (us p now q : Uses) (n m : Seen) (first : List Part) (o : Option (List Part))
    → clean (turn_fault shape [] w word) ≡ not (clashes us (p ++ now))
    → (clashes us (p ++ now) ≡ false → walked rules [] w word ≡ after)
    → ((others : List Part) → uses n (first ++ others) ≡ now ++ (q ++ uses m others))
    → ((others : List Part) → fits n (first ++ others) ≡ fits m others)
    → Told after words (us ++ (p ++ now)) q m o
    → Told w (word ∷ words) us p n (option_map (λ others. first ++ others) o)
step w after word words us p now q n m first o turn next used fit told = go (clashes us (p ++ now)) refl where
  split : (others : List Part) → clashes us (p ++ uses n (first ++ others)) ≡ (clashes us (p ++ now) || clashes (us ++ (p ++ now)) (q ++ uses m others))
  split others = ap (λ x. clashes us (p ++ x)) (used others) ∙ ap (clashes us) (sym (append_assoc p now (q ++ uses m others)))
      ∙ clashes-append us (p ++ now) (q ++ uses m others)

  refused : (x : Option (List Part)) → clashes us (p ++ now) ≡ true → passes us p n (option_map (λ others. first ++ others) x) ≡ false
  refused None e = refl
  refused (Some others) e =
      ap (λ t. fits n (first ++ others) && not t) (split others ∙ ap (λ t. t || clashes (us ++ (p ++ now)) (q ++ uses m others)) e) ∙ and_false (fits n (first ++ others))

  passed : (x : Option (List Part)) → clashes us (p ++ now) ≡ false → passes us p n (option_map (λ others. first ++ others) x) ≡ passes (us ++ (p ++ now)) q m x
  passed None e = refl
  passed (Some others) e =
      ap (λ t. t && not (clashes us (p ++ uses n (first ++ others)))) (fit others)
      ∙ ap (λ t. fits m others && not t) (split others ∙ ap (λ t. t || clashes (us ++ (p ++ now)) (q ++ uses m others)) e)

  rows : (x : Option (List Part)) (parts : List Part) → Told after words (us ++ (p ++ now)) q m x → clashes us (p ++ now) ≡ false → walked rules [] w word ≡ after
      → option_map (λ others. first ++ others) x ≡ Some parts → passes us p n (option_map (λ others. first ++ others) x) ≡ true
      → (settled rules (end_of (walked rules [] w word) words).held).rows ≡ rows_by (us ++ (p ++ uses n parts))
  rows None parts t e is some pass = absurd (no (sym pass))
  rows (Some others) parts t e is some pass =
      let whole : first ++ others ≡ parts = some_same _ _ some in
      ap (λ x. (settled rules (end_of x words).held).rows) is ∙ t.rows others refl (sym (passed (Some others) e) ∙ pass)
      ∙ ap rows_by (append_assoc us (p ++ now) (q ++ uses m others) ∙ ap (λ x. us ++ x) (append_assoc p now (q ++ uses m others) ∙ ap (λ x. p ++ x) (sym (used others))))
      ∙ ap (λ x. rows_by (us ++ (p ++ uses n x))) whole
    where
      some_same : (a b : List Part) → Some a ≡ Some b → a ≡ b
      some_same a b h = ap (λ x. or_none x) h where
        or_none : Option (List Part) → List Part
        or_none None = []
        or_none (Some y) = y

  go : (t : Bool) → clashes us (p ++ now) ≡ t → Told w (word ∷ words) us p n (option_map (λ others. first ++ others) o)
  go true e = dead w word words us p n (option_map (λ others. first ++ others) o) (turn ∙ ap not e) (refused o e)
  go false e = record {
    clean = rest-step w word words ∙ ap (λ t. t && clean (rest (walked rules [] w word) words)) (turn ∙ ap not e)
        ∙ ap (λ x. clean (rest x words)) (next e) ∙ told.clean ∙ sym (passed o e);
    rows = λ parts some pass. rows o parts told e (next e) some pass;
  }
