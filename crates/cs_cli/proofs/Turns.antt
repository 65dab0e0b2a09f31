-- What each word does, in the walk as in the line.
use Rattle.std.proofs.Common.{◌≡◌, ℕ, ◌+◌, min, Bool, true, false, List, [], ◌∷◌, ◌++◌, ◌&&◌, ◌||◌, ◌==◌, not, Option, Some, None, option_map, codes, refl, sym, ap, subst, ◌∙◌, append-nil, slice_get, arith}
use Rattle.std.proofs.lemmas.Bool.Decides.{nat_tests}
use Rattle.std.specs.List.{All, list_any, before_first, after_first}
use Rattle.std.specs.Str.{IsUtf8, bytes_eq, chars, is_utf8}
use Rattle.std.specs.Char.{encode_utf8}
use Rattle.std.proofs.lemmas.Str.{is_utf8-from_IsUtf8}
use Rattle.clap.specs.Lexer.{long_of, short_of, usize_max}
use Rattle.clap.specs.Walk.{Step, has_row, next_position, value, word_met, Held, Row, Rule, Text, Waiting, Walk, arg_by_id, arg_by_index, arg_by_long, idle, option, positional_held, settled, used, walked}
use Rattle.clap.specs.Faults.{word_fault, bundle_fault, flags_fault, settle_fault, turn_fault, use_fault, walk_fault}
use Rattle.clap.specs.Kinds.{Kinds, or_else}
use Rattle.cs_model.specs.CommandLine.{Part, Positional, stats_word, is_option, is_plain}
use Rattle.cs_cli.proofs.Rules.{Names, by_place_1, by_place_2, by_place_3, by_short, flag, first_place, id_1, id_2, long_flag, names, no, option_of, other, rules, second_place, shape, stats, valued}
use Rattle.cs_cli.proofs.Rules as named
use Rattle.cs_cli.proofs.Uses.{Uses, clean, clean-or, has, has_row-by, row, rows_by, rows_by-append}
use Rattle.cs_cli.proofs.Walking.{IsOne, Seen, Told, append_assoc, at, both, clashes, clashes-append, fits, held_at, none, one, position_of, rest, rest-step, settle_clean, settled_at, step, uses, waits}

-- ---- words by place

-- a positional settles what is pending, and is pending itself
place_fault : (us p : Uses) (id : Text) (long : Option Text) (required : Bool) (index : Option ℕ) → IsOne p
    → clean (Rattle.clap.specs.Faults.positional_fault rules false (valued id long required index) (held_at us p)) ≡ not (clashes us p)
place_fault us [] id long required index h = refl
place_fault us (u ∷ []) id long required index h = go (bytes_eq u.0 id) refl where
  go : (t : Bool) → bytes_eq u.0 id ≡ t → clean (Rattle.clap.specs.Faults.positional_fault rules false (valued id long required index) (held_at us (u ∷ []))) ≡ not (clashes us (u ∷ []))
  go true e = rw e (settle_clean us (u ∷ []) h)
  go false e = rw e (settle_clean us (u ∷ []) h)
place_fault us (u ∷ v ∷ vs) id long required index h = absurd h

place_held : (us p : Uses) (id : Text) (long : Option Text) (required : Bool) (index : Option ℕ) (word : Text) → IsOne p → clashes us p ≡ false
    → positional_held rules (valued id long required index) word (held_at us p) ≡ held_at (us ++ p) ((id, word) ∷ [])
place_held us [] id long required index word h calm = ap (λ x. held_at x ((id, word) ∷ [])) (sym (append-nil us))
place_held us (u ∷ []) id long required index word h calm = go (bytes_eq u.0 id) refl where
  pushed : Held → Held
  pushed x = Rattle.clap.specs.Walk.pushed id word x

  go : (t : Bool) → bytes_eq u.0 id ≡ t → positional_held rules (valued id long required index) word (held_at us (u ∷ [])) ≡ held_at (us ++ u ∷ []) ((id, word) ∷ [])
  go true e = rw e (ap (λ x. Rattle.clap.specs.Walk.pushed id word x) (settled_at us (u ∷ []) h calm))
  go false e = rw e (ap (λ x. Rattle.clap.specs.Walk.pushed id word x) (settled_at us (u ∷ []) h calm))
place_held us (u ∷ v ∷ vs) id long required index word h calm = absurd h

or_false : (a : Bool) → (a || false) ≡ a
or_false true = refl
or_false false = refl

pub placed : (us p : Uses) (n m : Seen) (trailing : Bool) (word : Text) (words : List Text) (id : Text) (long : Option Text) (required : Bool) (index : Option ℕ) (o : Option (List Part))
    → IsOne p
    → word_met rules [] trailing idle (position_of n) word (held_at us p) ≡ (held_at us p, value)
    → word_fault shape [] trailing idle word (held_at us p) ≡ []
    → arg_by_index rules (position_of n) ≡ Some (valued id long required index)
    → min (position_of n + 1) usize_max ≡ position_of m
    → ((others : List Part) → uses n (Positional word ∷ others) ≡ (id, word) ∷ uses m others)
    → ((others : List Part) → fits n (Positional word ∷ others) ≡ fits m others)
    → Told (at (us ++ (p ++ [])) ((id, word) ∷ []) m trailing) words (us ++ (p ++ [])) ((id, word) ∷ []) m o
    → Told (at us p n trailing) (word ∷ words) us p n (option_map (λ others. (Positional word ∷ []) ++ others) o)
unfolding walked
placed us p n m trailing word words id long required index o h met fault found place used fit told =
    step (at us p n trailing) (at (us ++ (p ++ [])) ((id, word) ∷ []) m trailing) word words us p [] ((id, word) ∷ []) n m (Positional word ∷ []) o
    (rw (met, fault, found) (place_fault us p id long required index h ∙ ap (λ x. not (clashes us x)) (sym (append-nil p))))
    (λ calm. rw (met, found, place_held us p id long required index word h (ap (clashes us) (sym (append-nil p)) ∙ calm), append-nil p, or_false trailing, place) refl)
    used fit told

-- ---- what a word looks like

pub data Looks (word : Text) : Type 0 where
  plain_word : is_plain word ≡ true → bytes_eq word (45 ∷ 45 ∷ []) ≡ false → is_option word ≡ false → long_of word ≡ None → short_of word ≡ None → Looks word
  dashes : word ≡ 45 ∷ 45 ∷ [] → Looks word
  long_word : (c : ℕ) (r : Text) → word ≡ 45 ∷ 45 ∷ c ∷ r → Looks word
  short_word : (c : ℕ) (r : Text) → word ≡ 45 ∷ c ∷ r → (c == 45) ≡ false
      → bytes_eq word (45 ∷ 45 ∷ []) ≡ false → long_of word ≡ None → short_of word ≡ Some (c ∷ r) → Looks word

is_45 : (b : ℕ) → (b == 45) ≡ true → b ≡ 45
is_45 b h = grind (arith, nat_tests, h)

pub looks : (word : Text) → Looks word
looks [] = plain_word refl refl refl refl refl
looks (b ∷ r) = first (b == 45) refl where
  parted : (c : ℕ) (s : Text) → r ≡ c ∷ s → b ≡ 45 → (45 ∷ c ∷ s) ≡ (b ∷ r)
  parted c s is first = rw (first, is) refl

  second : (x : Text) → x ≡ r → (c : ℕ) (s : Text) → r ≡ c ∷ s → (t : Bool) → (c == 45) ≡ t → b ≡ 45 → Looks (b ∷ r)
  second x same c s is false e first = subst Looks (parted c s is first) (short_word c s refl e (rw e refl) (rw e refl) (rw e refl))
  second x same c [] is true e first = dashes (rw (first, is, is_45 c e) refl)
  second x same c (d ∷ s) is true e first = long_word d s (rw (first, is, is_45 c e) refl)

  alone : r ≡ [] → b ≡ 45 → (45 ∷ []) ≡ (b ∷ r)
  alone is e = rw (e, is) refl

  begun : (x : Text) → r ≡ x → b ≡ 45 → Looks (b ∷ r)
  begun [] is e = subst Looks (alone is e) (plain_word refl refl refl refl refl)
  begun (c ∷ s) is e = second r refl c s is (c == 45) refl e

  first : (t : Bool) → (b == 45) ≡ t → Looks (b ∷ r)
  first true e = begun r refl (is_45 b e)
  first false e = plain_word (rw e refl) (rw e refl) (rw e refl) (rw e refl) (rw e refl)

-- ---- short words

-- a character begins a text that isn't empty
pub has_char : (c : ℕ) (r : Text) → IsUtf8 (45 ∷ c ∷ r) → (x : ℕ) × (slice_get (chars (c ∷ r)) 0 ≡ Some x)
unfolding is_utf8 chars encode_utf8
has_char c r h = go (chars (c ∷ r)) refl where
  go : (cs : List ℕ) → chars (c ∷ r) ≡ cs → (x : ℕ) × (slice_get (chars (c ∷ r)) 0 ≡ Some x)
  go (x ∷ cs) e = (x, ap (λ ys. slice_get ys 0) e)
  go [] e =
      let whole : chars (45 ∷ c ∷ r) ≡ 45 ∷ [] = ap (λ ys. 45 ∷ ys) e in
      let P : List ℕ → Bool = λ ys. Rattle.std.specs.Str.all_scalars ys && bytes_eq (Rattle.std.specs.Str.encode_utf8_all ys) (45 ∷ c ∷ r) in
      absurd (no (sym (is_utf8-from_IsUtf8 (45 ∷ c ∷ r) h) ∙ ap P whole))

-- no short name is known
pub short_fault : (c : ℕ) (r : Text) (h : Held) → IsUtf8 (45 ∷ c ∷ r) → h.skip ≡ 0 → clean (bundle_fault rules false (c ∷ r) h) ≡ false
unfolding flags_fault
short_fault c r h utf8 skip = let (x, is) = has_char c r utf8 in rw (skip, is, by_short x) refl

-- ---- what waits for its value, and gets none

abbrev pub stuck : Uses → Text → Held
stuck us id = record { rows = rows_by us; pending = Some (id, []); skip = 0 }

abbrev pub IsOption : Text → Type 0
IsOption name = (arg_by_id rules (45 ∷ 45 ∷ name) ≡ Some (option_of name)) × (bytes_eq (45 ∷ 45 ∷ name) stats_word ≡ false)

pub stuck_settle : (us : Uses) (name : Text) → IsOption name → clean (settle_fault rules false (stuck us (45 ∷ 45 ∷ name))) ≡ false
stuck_settle us name h = rw (h.0) refl

stuck_place : (us : Uses) (name : Text) (id : Text) (long : Option Text) (required : Bool) (index : Option ℕ) → IsOption name
    → clean (Rattle.clap.specs.Faults.positional_fault rules false (valued id long required index) (stuck us (45 ∷ 45 ∷ name))) ≡ false
stuck_place us name id long required index h = go (bytes_eq (45 ∷ 45 ∷ name) id) refl where
  go : (t : Bool) → bytes_eq (45 ∷ 45 ∷ name) id ≡ t → clean (Rattle.clap.specs.Faults.positional_fault rules false (valued id long required index) (stuck us (45 ∷ 45 ∷ name))) ≡ false
  go true e = rw e (stuck_settle us name h)
  go false e = rw e (stuck_settle us name h)

pub stuck_behind : (us : Uses) (name : Text) (n : Seen) (words : List Text) → IsOption name → clean (rest (waits us (45 ∷ 45 ∷ name) n true) words) ≡ false
unfolding walk_fault
stuck_behind us name n [] h = stuck_settle us name h
stuck_behind us name n (word ∷ words) h =
    rest-step (waits us (45 ∷ 45 ∷ name) n true) word words ∙ ap (λ t. t && clean (rest (walked rules [] (waits us (45 ∷ 45 ∷ name) n true) word) words)) (turn n)
  where
    turn : (m : Seen) → clean (turn_fault shape [] (waits us (45 ∷ 45 ∷ name) m true) word) ≡ false
    turn none = rw by_place_1 (stuck_place us name (codes "COMMAND") None true (Some 1) h)
    turn one = rw by_place_2 (stuck_place us name (codes "FILE") None true (Some 2) h)
    turn both = rw by_place_3 refl

pub left_only : (a b : Kinds) → clean a ≡ false → clean (or_else a b) ≡ false
left_only a b h = clean-or a b ∙ ap (λ t. t && clean b) h

pub stuck_long : (us : Uses) (name found : Text) (v : Option Text) → IsOption name
    → clean (Rattle.clap.specs.Faults.long_fault rules false (arg_by_long rules found) v (stuck us (45 ∷ 45 ∷ name))) ≡ false
stuck_long us name found v h = go (names found) v where
  go : Names found → (x : Option Text) → clean (Rattle.clap.specs.Faults.long_fault rules false (arg_by_long rules found) x (stuck us (45 ∷ 45 ∷ name))) ≡ false
  go (named.option is id a b c) None = rw is (stuck_settle us name h)
  go (named.option is id a b c) (Some x) = rw is (left_only _ _ (stuck_settle us name h))
  go (named.stats is) None = rw (is, long_flag) (left_only _ _ (stuck_settle us name h))
  go (named.stats is) (Some x) = rw (is, long_flag) refl
  go (named.other is a b) x = rw is refl

-- ---- a use that is done at once

left_of : (a b : Bool) → (a || b) ≡ false → a ≡ false
left_of false b h = refl
left_of true b h = absurd (no h)

right_of : (a b : Bool) → (a || b) ≡ false → b ≡ false
right_of false b h = h
right_of true b h = absurd (no h)

pub react_clean : (us p : Uses) (a : Rule) (given : List Text) (id v : Text) → IsOne p
    → ((rows : List Row) → clean (use_fault false a given rows) ≡ not (has_row id rows))
    → clean (Rattle.clap.specs.Faults.react_fault rules false a given (held_at us p)) ≡ not (clashes us (p ++ (id, v) ∷ []))
react_clean us p a given id v h fault = go (clashes us p) refl where
  settle : Kinds
  settle = settle_fault rules false (held_at us p)

  go : (t : Bool) → clashes us p ≡ t → clean (Rattle.clap.specs.Faults.react_fault rules false a given (held_at us p)) ≡ not (clashes us (p ++ (id, v) ∷ []))
  go true e = left_only _ _ (settle_clean us p h ∙ ap not e) ∙ sym (ap not (clashes-append us p ((id, v) ∷ []) ∙ ap (λ t. t || clashes (us ++ p) ((id, v) ∷ [])) e))
  go false e =
      clean-or _ _ ∙ ap (λ t. t && clean (use_fault false a given (settled rules (held_at us p)).rows)) (settle_clean us p h ∙ ap not e)
      ∙ ap (λ x. clean (use_fault false a given x.rows)) (settled_at us p h e) ∙ fault (rows_by (us ++ p)) ∙ ap not (has_row-by id (us ++ p) ∙ sym (or_false (has id (us ++ p))))
      ∙ sym (ap not (clashes-append us p ((id, v) ∷ []) ∙ ap (λ t. t || clashes (us ++ p) ((id, v) ∷ [])) e))

pub reacted_at : (us p : Uses) (a : Rule) (given : List Text) (id v : Text) → IsOne p
    → ((rows : List Row) → has_row id rows ≡ false → used a given rows ≡ rows ++ row id v ∷ [])
    → clashes us (p ++ (id, v) ∷ []) ≡ false
    → Rattle.clap.specs.Walk.reacted rules a given (held_at us p) ≡ held_at (us ++ (p ++ (id, v) ∷ [])) []
reacted_at us p a given id v h uses_row calm =
    let each : (clashes us p || (has id (us ++ p) || false)) ≡ false = sym (clashes-append us p ((id, v) ∷ [])) ∙ calm in
    let first = left_of (clashes us p) (has id (us ++ p) || false) each in
    let new : has_row id (rows_by (us ++ p)) ≡ false = has_row-by id (us ++ p) ∙ left_of (has id (us ++ p)) false (right_of (clashes us p) (has id (us ++ p) || false) each) in
    let held : List Row → Held = λ rows. record { rows = rows; pending = None; skip = 0 } in
    ap (λ x. held (used a given x.rows)) (settled_at us p h first)
    ∙ ap held (uses_row (rows_by (us ++ p)) new ∙ sym (rows_by-append (us ++ p) ((id, v) ∷ [])) ∙ ap rows_by (append_assoc us p ((id, v) ∷ [])))
