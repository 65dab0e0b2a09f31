-- What the parts of an accepted line say.
use Rattle.std.proofs.Common.{◌≡◌, Bool, true, false, List, [], ◌∷◌, ◌++◌, ◌&&◌, ◌||◌, ◌==◌, not, if◌then◌else◌, filter_map, Option, Some, None, is_some, option_map, option_and_then, codes, refl, sym, ap, ◌∙◌, slice_get}
use Rattle.std.proofs.lemmas.Slice.Eq.{bytes_eq-Decides}
use Rattle.std.specs.List.{list_any, before_first, after_first}
use Rattle.std.specs.Str.{bytes_eq}
use Rattle.clap.specs.Walk.{Text, first_of}
use Rattle.cs_model.specs.CommandLine.{Part, Positional, Given, Mode, Free, Waiting, Behind, stats_word, given_value, has_repeated_names, is_option, is_plain, equals, at_end, mode_after, parts_in, name_in, parts_from, positional_in}
use Rattle.cs_cli.proofs.Rules.{no}
use Rattle.cs_cli.proofs.Uses.{Uses, has, rows_by}
use Rattle.cs_cli.proofs.Walking.{Seen, both, clashes, fits, none, one, uses}

-- ---- names are those of options

abbrev pub is_known : Text → Bool
is_known name = is_option name || bytes_eq name stats_word

abbrev pub Known : List Part → Type 0
Known [] = Unit {0}
Known (Positional word ∷ parts) = Known parts
Known (Given name value ∷ parts) = (is_known name ≡ true) × Known parts

-- a name isn't the id of a place
pub not_place : (id name : Text) → is_known id ≡ false → is_known name ≡ true → bytes_eq name id ≡ false
not_place id name unknown known = go (bytes_eq name id) refl where
  go : (t : Bool) → bytes_eq name id ≡ t → t ≡ false
  go false e = refl
  go true e = sym known ∙ ap is_known ((bytes_eq-Decides name id).0 e) ∙ unknown ∙ refl

pub place_not : (id name : Text) → is_known id ≡ false → is_known name ≡ true → bytes_eq id name ≡ false
place_not id name unknown known = go (bytes_eq id name) refl where
  go : (t : Bool) → bytes_eq id name ≡ t → t ≡ false
  go false e = refl
  go true e = sym known ∙ ap is_known (sym ((bytes_eq-Decides id name).0 e)) ∙ unknown ∙ refl

-- ---- repeated ids

abbrev pub ids : Uses → List Text
ids [] = []
ids (u ∷ us) = u.0 ∷ ids us

meets : Uses → Uses → Bool
meets [] us = false
meets (x ∷ seen) us = list_any (bytes_eq x.0) (ids us) || meets seen us

or_last : (a b : Bool) → (a || (b || false)) ≡ (b || a)
or_last true true = refl
or_last true false = refl
or_last false true = refl
or_last false false = refl

or_swap : (a b c : Bool) → (a || (b || c)) ≡ (b || (a || c))
or_swap true true c = refl
or_swap true false c = refl
or_swap false b c = refl

or_assoc : (a b c : Bool) → ((a || b) || c) ≡ (a || (b || c))
or_assoc true b c = refl
or_assoc false b c = refl

meets_none : (seen : Uses) → meets seen [] ≡ false
unfolding meets
meets_none [] = refl
meets_none (x ∷ seen) = meets_none seen

meets_more : (seen : Uses) (u : Text × Text) (us : Uses) → meets (seen ++ u ∷ []) us ≡ (list_any (bytes_eq u.0) (ids us) || meets seen us)
unfolding meets
meets_more [] u us = refl
meets_more (x ∷ seen) u us = ap (λ t. list_any (bytes_eq x.0) (ids us) || t) (meets_more seen u us)
    ∙ or_swap (list_any (bytes_eq x.0) (ids us)) (list_any (bytes_eq u.0) (ids us)) (meets seen us)

meets_first : (seen : Uses) (u : Text × Text) (us : Uses) → meets seen (u ∷ us) ≡ (has u.0 seen || meets seen us)
unfolding meets
meets_first [] u us = refl
meets_first (x ∷ seen) u us = ap (λ t. (bytes_eq x.0 u.0 || list_any (bytes_eq x.0) (ids us)) || t) (meets_first seen u us)
    ∙ or_assoc (bytes_eq x.0 u.0) (list_any (bytes_eq x.0) (ids us)) (has u.0 seen || meets seen us)
    ∙ ap (λ t. bytes_eq x.0 u.0 || t) (or_swap (list_any (bytes_eq x.0) (ids us)) (has u.0 seen) (meets seen us))
    ∙ sym (or_assoc (bytes_eq x.0 u.0) (has u.0 seen) (list_any (bytes_eq x.0) (ids us) || meets seen us))

clashes_by : (us seen : Uses) → clashes seen us ≡ (meets seen us || has_repeated_names (ids us))
clashes_by [] seen = sym (ap (λ t. t || false) (meets_none seen))
clashes_by (u ∷ us) seen =
    let later = list_any (bytes_eq u.0) (ids us) in
    ap (λ t. has u.0 seen || t) (clashes_by us (seen ++ u ∷ []) ∙ ap (λ t. t || has_repeated_names (ids us)) (meets_more seen u us)
    ∙ or_assoc later (meets seen us) (has_repeated_names (ids us)) ∙ or_swap later (meets seen us) (has_repeated_names (ids us)))
    ∙ sym (or_assoc (has u.0 seen) (meets seen us) (later || has_repeated_names (ids us)))
    ∙ sym (ap (λ t. t || (later || has_repeated_names (ids us))) (meets_first seen u us))

pub clashes_are : (us : Uses) → clashes [] us ≡ has_repeated_names (ids us)
unfolding meets
clashes_are us = clashes_by us []

-- ---- the ids of the parts, and their names

any_names : (s : Seen) (name : Text) (parts : List Part) → is_known name ≡ true → fits s parts ≡ true
    → list_any (bytes_eq name) (ids (uses s parts)) ≡ list_any (bytes_eq name) (filter_map name_in parts)
any_names s name [] k fit = refl
any_names s name (Given other value ∷ parts) k fit = ap (λ t. bytes_eq name other || t) (any_names s name parts k fit)
any_names none name (Positional word ∷ parts) k fit = ap (λ t. t || list_any (bytes_eq name) (ids (uses one parts))) (not_place (codes "COMMAND") name refl k) ∙ any_names one name parts k fit
any_names one name (Positional word ∷ parts) k fit = ap (λ t. t || list_any (bytes_eq name) (ids (uses both parts))) (not_place (codes "FILE") name refl k) ∙ any_names both name parts k fit
any_names both name (Positional word ∷ parts) k fit = absurd (no (sym fit))

any_place : (s : Seen) (id : Text) (parts : List Part) → is_known id ≡ false → Known parts → list_any (bytes_eq id) (filter_map name_in parts) ≡ false
any_place s id [] unknown k = refl
any_place s id (Given name value ∷ parts) unknown k = ap (λ t. t || list_any (bytes_eq id) (filter_map name_in parts)) (place_not id name unknown (k.0)) ∙ any_place s id parts unknown (k.1)
any_place s id (Positional word ∷ parts) unknown k = any_place s id parts unknown k

-- FILE isn't COMMAND
second_alone : (parts : List Part) → Known parts → list_any (bytes_eq (codes "FILE")) (ids (uses both parts)) ≡ false
second_alone [] k = refl
second_alone (Given name value ∷ parts) k = ap (λ t. t || list_any (bytes_eq (codes "FILE")) (ids (uses both parts))) (place_not (codes "FILE") name refl (k.0)) ∙ second_alone parts (k.1)
second_alone (Positional word ∷ parts) k = refl

late_alone : (parts : List Part) → Known parts → list_any (bytes_eq (codes "COMMAND")) (ids (uses both parts)) ≡ false
late_alone [] k = refl
late_alone (Given name value ∷ parts) k = ap (λ t. t || list_any (bytes_eq (codes "COMMAND")) (ids (uses both parts))) (place_not (codes "COMMAND") name refl (k.0)) ∙ late_alone parts (k.1)
late_alone (Positional word ∷ parts) k = refl

first_alone : (parts : List Part) → Known parts → list_any (bytes_eq (codes "COMMAND")) (ids (uses one parts)) ≡ false
first_alone [] k = refl
first_alone (Given name value ∷ parts) k = ap (λ t. t || list_any (bytes_eq (codes "COMMAND")) (ids (uses one parts))) (place_not (codes "COMMAND") name refl (k.0)) ∙ first_alone parts (k.1)
first_alone (Positional word ∷ parts) k = late_alone parts k

repeats_names : (s : Seen) (parts : List Part) → Known parts → fits s parts ≡ true → has_repeated_names (ids (uses s parts)) ≡ has_repeated_names (filter_map name_in parts)
repeats_names s [] k fit = refl
repeats_names s (Given name value ∷ parts) k fit =
    ap (λ t. t || has_repeated_names (ids (uses s parts))) (any_names s name parts (k.0) fit) ∙ ap (λ t. list_any (bytes_eq name) (filter_map name_in parts) || t) (repeats_names s parts (k.1) fit)
repeats_names none (Positional word ∷ parts) k fit = ap (λ t. t || has_repeated_names (ids (uses one parts))) (first_alone parts k) ∙ repeats_names one parts k fit
repeats_names one (Positional word ∷ parts) k fit = ap (λ t. t || has_repeated_names (ids (uses both parts))) (second_alone parts k) ∙ repeats_names both parts k fit
repeats_names both (Positional word ∷ parts) k fit = absurd (no (sym fit))

-- ---- two words by place

abbrev pub is_pair : List Text → Bool
is_pair [] = false
is_pair (a ∷ []) = false
is_pair (a ∷ b ∷ []) = true
is_pair (a ∷ b ∷ c ∷ xs) = false

abbrev is_one : List Text → Bool
is_one [] = false
is_one (a ∷ []) = true
is_one (a ∷ b ∷ xs) = false

abbrev is_none : List Text → Bool
is_none [] = true
is_none (a ∷ xs) = false

one_more : (xs : List Text) (x : Text) → is_none xs ≡ is_one (x ∷ xs)
one_more [] x = refl
one_more (y ∷ xs) x = refl

two_more : (xs : List Text) (x : Text) → is_one xs ≡ is_pair (x ∷ xs)
two_more [] x = refl
two_more (y ∷ []) x = refl
two_more (y ∷ z ∷ xs) x = refl

none_placed : (parts : List Part) → fits both parts ≡ is_none (filter_map positional_in parts)
none_placed [] = refl
none_placed (Given name value ∷ parts) = none_placed parts
none_placed (Positional word ∷ parts) = refl

and_true : (a : Bool) → (a && true) ≡ a
and_true true = refl
and_true false = refl

one_placed : (parts : List Part) → Known parts → (fits one parts && has (codes "FILE") (uses one parts)) ≡ is_one (filter_map positional_in parts)
one_placed [] k = refl
one_placed (Given name value ∷ parts) k = ap (λ t. fits one parts && (t || has (codes "FILE") (uses one parts))) (not_place (codes "FILE") name refl (k.0)) ∙ one_placed parts (k.1)
one_placed (Positional word ∷ parts) k = and_true (fits both parts) ∙ none_placed parts ∙ one_more (filter_map positional_in parts) word

both_placed : (parts : List Part) → Known parts → (fits none parts && (has (codes "COMMAND") (uses none parts) && has (codes "FILE") (uses none parts))) ≡ is_pair (filter_map positional_in parts)
both_placed [] k = refl
both_placed (Given name value ∷ parts) k =
    ap (λ t. fits none parts && ((t || has (codes "COMMAND") (uses none parts)) && (bytes_eq name (codes "FILE") || has (codes "FILE") (uses none parts)))) (not_place (codes "COMMAND") name refl (k.0))
    ∙ ap (λ t. fits none parts && (has (codes "COMMAND") (uses none parts) && (t || has (codes "FILE") (uses none parts)))) (not_place (codes "FILE") name refl (k.0)) ∙ both_placed parts (k.1)
both_placed (Positional word ∷ parts) k = one_placed parts k ∙ two_more (filter_map positional_in parts) word

-- the specification of the command accepts what the line has: no name twice, and two words
pub accepts_is : (parts : List Part) → Known parts
    → ((fits none parts && not (clashes [] (uses none parts))) && (has (codes "COMMAND") (uses none parts) && has (codes "FILE") (uses none parts)))
    ≡ (not (has_repeated_names (filter_map name_in parts)) && is_pair (filter_map positional_in parts))
accepts_is parts k = go (fits none parts) refl (both_placed parts k) where
  shuffle : (a b c : Bool) → ((true && a) && (b && c)) ≡ (a && (true && (b && c)))
  shuffle a b c = refl

  go : (t : Bool) → fits none parts ≡ t
      → (fits none parts && (has (codes "COMMAND") (uses none parts) && has (codes "FILE") (uses none parts))) ≡ is_pair (filter_map positional_in parts)
      → ((fits none parts && not (clashes [] (uses none parts))) && (has (codes "COMMAND") (uses none parts) && has (codes "FILE") (uses none parts)))
      ≡ (not (has_repeated_names (filter_map name_in parts)) && is_pair (filter_map positional_in parts))
  go false e pair =
      let not_pair : is_pair (filter_map positional_in parts) ≡ false = sym pair ∙ ap (λ t. t && (has (codes "COMMAND") (uses none parts) && has (codes "FILE") (uses none parts))) e in
      rw (e, not_pair) (sym (and_no (not (has_repeated_names (filter_map name_in parts)))))
    where
      and_no : (a : Bool) → (a && false) ≡ false
      and_no true = refl
      and_no false = refl
  go true e pair =
      let names = clashes_are (uses none parts) ∙ repeats_names none parts k e in
      ap (λ t. (t && not (clashes [] (uses none parts))) && (has (codes "COMMAND") (uses none parts) && has (codes "FILE") (uses none parts))) e
      ∙ ap (λ t. not t && (has (codes "COMMAND") (uses none parts) && has (codes "FILE") (uses none parts))) names
      ∙ ap (λ t. not (has_repeated_names (filter_map name_in parts)) && t) (sym (ap (λ t. t && (has (codes "COMMAND") (uses none parts) && has (codes "FILE") (uses none parts))) e) ∙ pair)

-- ---- what stands for an id

pub value_of : (id : Text) (s : Seen) (parts : List Part) → bytes_eq (codes "COMMAND") id ≡ false → bytes_eq (codes "FILE") id ≡ false → bytes_eq id stats_word ≡ false → fits s parts ≡ true
    → first_of id (rows_by (uses s parts)) ≡ given_value parts id
value_of id s [] a b c fit = refl
value_of id s (Given name value ∷ parts) a b c fit = go (bytes_eq name id) refl (value_of id s parts a b c fit) where
  go : (t : Bool) → bytes_eq name id ≡ t → first_of id (rows_by (uses s parts)) ≡ given_value parts id → first_of id (rows_by (uses s (Given name value ∷ parts))) ≡ given_value (Given name value ∷ parts) id
  go true e k =
      let other : bytes_eq name stats_word ≡ false = ap (λ x. bytes_eq x stats_word) ((bytes_eq-Decides name id).0 e) ∙ c in
      rw (e, other) refl
  go false e k = rw e k
value_of id none (Positional word ∷ parts) a b c fit = rw a (value_of id one parts a b c fit)
value_of id one (Positional word ∷ parts) a b c fit = rw b (value_of id both parts a b c fit)
value_of id both (Positional word ∷ parts) a b c fit = absurd (no (sym fit))

pub flag_of : (s : Seen) (parts : List Part) → fits s parts ≡ true → first_of stats_word (rows_by (uses s parts)) ≡ option_map (λ v. codes "true") (given_value parts stats_word)
flag_of s [] fit = refl
flag_of s (Given name value ∷ parts) fit = go (bytes_eq name stats_word) refl (flag_of s parts fit) where
  go : (t : Bool) → bytes_eq name stats_word ≡ t → first_of stats_word (rows_by (uses s parts)) ≡ option_map (λ v. codes "true") (given_value parts stats_word)
      → first_of stats_word (rows_by (uses s (Given name value ∷ parts))) ≡ option_map (λ v. codes "true") (given_value (Given name value ∷ parts) stats_word)
  go true e k = rw e refl
  go false e k = rw e k
flag_of none (Positional word ∷ parts) fit = flag_of one parts fit
flag_of one (Positional word ∷ parts) fit = flag_of both parts fit
flag_of both (Positional word ∷ parts) fit = absurd (no (sym fit))

pub flag_has : (s : Seen) (parts : List Part) → fits s parts ≡ true → has stats_word (uses s parts) ≡ is_some (given_value parts stats_word)
flag_has s [] fit = refl
flag_has s (Given name value ∷ parts) fit = go (bytes_eq name stats_word) refl (flag_has s parts fit) where
  go : (t : Bool) → bytes_eq name stats_word ≡ t → has stats_word (uses s parts) ≡ is_some (given_value parts stats_word)
      → has stats_word (uses s (Given name value ∷ parts)) ≡ is_some (given_value (Given name value ∷ parts) stats_word)
  go true e k = rw e refl
  go false e k = rw e k
flag_has none (Positional word ∷ parts) fit = flag_has one parts fit
flag_has one (Positional word ∷ parts) fit = flag_has both parts fit
flag_has both (Positional word ∷ parts) fit = absurd (no (sym fit))

none_second : (parts : List Part) → Known parts → fits both parts ≡ true → first_of (codes "FILE") (rows_by (uses both parts)) ≡ None
none_second [] k fit = refl
none_second (Given name value ∷ parts) k fit = rw (not_place (codes "FILE") name refl (k.0)) (none_second parts (k.1) fit)
none_second (Positional word ∷ parts) k fit = refl

file_word : (parts : List Part) → Known parts → first_of (codes "FILE") (rows_by (uses one parts)) ≡ slice_get (filter_map positional_in parts) 0
file_word [] k = refl
file_word (Given name value ∷ parts) k = rw (not_place (codes "FILE") name refl (k.0)) (file_word parts (k.1))
file_word (Positional word ∷ parts) k = refl

pub command_word : (parts : List Part) → Known parts → first_of (codes "COMMAND") (rows_by (uses none parts)) ≡ slice_get (filter_map positional_in parts) 0
command_word [] k = refl
command_word (Given name value ∷ parts) k = rw (not_place (codes "COMMAND") name refl (k.0)) (command_word parts (k.1))
command_word (Positional word ∷ parts) k = refl

pub second_word : (parts : List Part) → Known parts → first_of (codes "FILE") (rows_by (uses none parts)) ≡ slice_get (filter_map positional_in parts) 1
second_word [] k = refl
second_word (Given name value ∷ parts) k = rw (not_place (codes "FILE") name refl (k.0)) (second_word parts (k.1))
second_word (Positional word ∷ parts) k = file_word parts k

-- ---- the names of the parts of a line

or_right : (a b : Bool) → b ≡ true → (a || b) ≡ true
or_right true b h = refl
or_right false b h = h

abbrev pub KnownIn : Option (List Part) → Type 0
KnownIn None = Unit {0}
KnownIn (Some parts) = Known parts

abbrev ModeKnown : Mode → Type 0
ModeKnown (Waiting name) = is_known name ≡ true
ModeKnown Free = Unit {0}
ModeKnown Behind = Unit {0}

either : (b : Bool) (x y : Option (List Part)) → KnownIn x → KnownIn y → KnownIn (if b then x else y)
either true x y h k = h
either false x y h k = k

option_known : (name : Text) → is_option name ≡ true → is_known name ≡ true
option_known name e = ap (λ t. t || bytes_eq name stats_word) e

given_known : (a : Bool) (name value : Text) → KnownIn (if a && is_option name then Some (Given name value ∷ []) else None)
given_known false name value = tt
given_known true name value = go (is_option name) refl where
  go : (t : Bool) → is_option name ≡ t → KnownIn (if t then Some (Given name value ∷ []) else None)
  go true e = (option_known name e, tt)
  go false e = tt

known_in : (mode : Mode) (word : Text) → ModeKnown mode → KnownIn (parts_in mode word)
known_in Free word h =
    either (is_plain word) _ _ tt (either (bytes_eq word (codes "--") || is_option word) _ _ tt (either (bytes_eq word stats_word) _ _ (refl, tt)
    (given_known (list_any (λ b. b == equals) word) (before_first (λ b. b == equals) word) (after_first (λ b. b == equals) word))))
known_in (Waiting name) word h = either (is_plain word) _ _ (h, tt) tt
known_in Behind word h = tt

known_after : (mode : Mode) (word : Text) → ModeKnown (mode_after mode word)
known_after Free word = go (bytes_eq word (codes "--")) (is_option word) refl where
  go : (a b : Bool) → is_option word ≡ b → ModeKnown (if a then Behind else (if b then Waiting word else Free))
  go true b e = tt
  go false true e = option_known word e
  go false false e = tt
known_after (Waiting name) word = tt
known_after Behind word = tt

known_append : (a b : List Part) → Known a → Known b → Known (a ++ b)
known_append [] b h k = k
known_append (Positional word ∷ a) b h k = known_append a b h k
known_append (Given name value ∷ a) b h k = (h.0, known_append a b (h.1) k)

known_end : (mode : Mode) → KnownIn (at_end mode)
known_end Free = tt
known_end (Waiting name) = tt
known_end Behind = tt

joined : (x y : Option (List Part)) → KnownIn x → KnownIn y → KnownIn (option_and_then (λ first. option_map (λ others. first ++ others) y) x)
joined None y h k = tt
joined (Some a) None h k = tt
joined (Some a) (Some b) h k = known_append a b h k

pub known_from : (words : List Text) (mode : Mode) → ModeKnown mode → KnownIn (parts_from mode words)
known_from [] mode h = known_end mode
known_from (word ∷ words) mode h = joined (parts_in mode word) (parts_from (mode_after mode word) words) (known_in mode word h) (known_from words (mode_after mode word) (known_after mode word))
