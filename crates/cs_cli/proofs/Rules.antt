-- The rules of the command, as they are built, and which of them a word names.
use Rattle.std.proofs.Common.{◌≡◌, ℕ, Bool, true, false, List, [], ◌∷◌, ◌==◌, Option, Some, None, codes, refl, sym, subst, ◌∙◌}
use Rattle.std.specs.List.{list_any}
use Rattle.std.specs.Str.{bytes_eq}
use Rattle.std.proofs.lemmas.Slice.Eq.{bytes_eq-Decides}
use Rattle.clap.specs.Walk.{Rule, Text, arg_by_id, arg_by_index, arg_by_long, arg_by_short}
use Rattle.clap.specs.Simple.{Shape, built, is_simple, names_of, new_shape}
use Rattle.clap.specs.Faults.{is_simple_and_free}
use Rattle.clap.specs.declared.builder.action.ArgAction.TheVariants.{Set, SetTrue}
use Rattle.clap.specs.declared.builder.value_parser.ValueParser.TheVariants as vp
use Rattle.cs_model.specs.CommandLine.{is_option, stats_word}
use Rattle.cs_cli.specs.LineApp.{line_app}

-- an argument with one value
abbrev pub valued : Text → Option Text → Bool → Option ℕ → Rule
valued id long required index = record {
  id = id;
  long = long;
  aliases = [];
  short = None;
  short_aliases = [];
  index = index;
  action = Some Set;
  range = Some (record { start_inclusive = 1; end_inclusive = 1 });
  value_names = 0;
  defaults = [];
  missing = [];
  trailing_var_arg = false;
  parser = Some vp.String;
  ignore_case = false;
  required = required;
  is_simple = true;
  is_free = true;
}

abbrev pub first_place : Rule
first_place = valued (codes "COMMAND") None true (Some 1)

abbrev pub second_place : Rule
second_place = valued (codes "FILE") None true (Some 2)

abbrev pub option_of : Text → Rule
option_of name = valued (45 ∷ 45 ∷ name) (Some name) false None

abbrev pub flag : Rule
flag = record {
  id = codes "--stats";
  long = Some (codes "stats");
  aliases = [];
  short = None;
  short_aliases = [];
  index = None;
  action = Some SetTrue;
  range = Some (record { start_inclusive = 0; end_inclusive = 0 });
  value_names = 0;
  defaults = codes "false" ∷ [];
  missing = codes "true" ∷ [];
  trailing_var_arg = false;
  parser = Some vp.Bool;
  ignore_case = false;
  required = false;
  is_simple = true;
  is_free = true;
}

abbrev pub plain_rules : List Rule
plain_rules = first_place ∷ second_place ∷ option_of (codes "events") ∷ option_of (codes "pages") ∷ option_of (codes "steps")
    ∷ option_of (codes "heap") ∷ option_of (codes "save") ∷ option_of (codes "snapshot") ∷ option_of (codes "other") ∷ []

unfoldable pub rules : List Rule
rules = first_place ∷ second_place ∷ option_of (codes "events") ∷ option_of (codes "pages") ∷ option_of (codes "steps")
    ∷ option_of (codes "heap") ∷ option_of (codes "save") ∷ option_of (codes "snapshot") ∷ option_of (codes "other") ∷ flag ∷ []

abbrev pub shape : Shape
shape = record (new_shape (codes "cogstack")) {
  rules = rules;
  no_binary_name = true;
  disable_help_flag = true;
  disable_help_subcommand = true;
  disable_version_flag = true;
  is_built = true;
}

pub is_shape : (built line_app).top ≡ shape
unfolding rules line_app
is_shape = refl

pub names_none : names_of (built line_app) ≡ []
unfolding line_app
names_none = refl

pub free : is_simple_and_free line_app ≡ true
unfolding line_app
free = refl

pub simple : is_simple line_app ≡ true
unfolding line_app
simple = refl

pub by_place_1 : arg_by_index rules 1 ≡ Some first_place
unfolding rules
by_place_1 = refl

pub by_place_2 : arg_by_index rules 2 ≡ Some second_place
unfolding rules
by_place_2 = refl

pub by_place_3 : arg_by_index rules 3 ≡ None
unfolding rules
by_place_3 = refl

pub by_short : (c : ℕ) → arg_by_short rules c ≡ None
unfolding rules
by_short c = refl

pub id_1 : arg_by_id rules (codes "COMMAND") ≡ Some first_place
unfolding rules
id_1 = refl

pub id_2 : arg_by_id rules (codes "FILE") ≡ Some second_place
unfolding rules
id_2 = refl

pub long_flag : arg_by_long rules (codes "stats") ≡ Some flag
unfolding rules
long_flag = refl

-- what a long name names
pub data Names (name : Text) : Type 0 where
  option : arg_by_long rules name ≡ Some (option_of name) → arg_by_id rules (45 ∷ 45 ∷ name) ≡ Some (option_of name)
      → is_option (45 ∷ 45 ∷ name) ≡ true → bytes_eq (45 ∷ 45 ∷ name) stats_word ≡ false
      → list_any (λ b. b == 61) name ≡ false → Names name
  stats : name ≡ codes "stats" → Names name
  other : arg_by_long rules name ≡ None → is_option (45 ∷ 45 ∷ name) ≡ false → bytes_eq (45 ∷ 45 ∷ name) stats_word ≡ false → Names name

Yes : Bool → Type 0
Yes true = Unit {0}
Yes false = ⊥

pub no : true ≡ false → ⊥
unfolding Yes
no e = subst Yes e tt

flip : (a b : Text) → bytes_eq a b ≡ false → bytes_eq b a ≡ false
flip a b h = go (bytes_eq b a) refl where
  go : (t : Bool) → bytes_eq b a ≡ t → t ≡ false
  go false e = refl
  go true e = absurd (no (sym ((bytes_eq-Decides a b).1 (sym ((bytes_eq-Decides b a).0 e))) ∙ h))

pub names : (name : Text) → Names name
unfolding rules
names name = go1 (bytes_eq name (codes "events")) refl where
  go9 : bytes_eq name (codes "events") ≡ false → bytes_eq name (codes "pages") ≡ false → bytes_eq name (codes "steps") ≡ false → bytes_eq name (codes "heap") ≡ false
      → bytes_eq name (codes "save") ≡ false → bytes_eq name (codes "snapshot") ≡ false → bytes_eq name (codes "other") ≡ false → bytes_eq name (codes "stats") ≡ false → Names name
  go9 a b c d e f g h =
      other (rw (flip _ _ a, flip _ _ b, flip _ _ c, flip _ _ d, flip _ _ e, flip _ _ f, flip _ _ g, flip _ _ h) refl)
      (rw (a, b, c, d, e, f, g) refl) (rw h refl)

  known : (t : Text) → bytes_eq name t ≡ true → Names t → Names name
  known t e n = subst Names (sym ((bytes_eq-Decides name t).0 e)) n

  go8 : bytes_eq name (codes "events") ≡ false → bytes_eq name (codes "pages") ≡ false → bytes_eq name (codes "steps") ≡ false → bytes_eq name (codes "heap") ≡ false
      → bytes_eq name (codes "save") ≡ false → bytes_eq name (codes "snapshot") ≡ false → bytes_eq name (codes "other") ≡ false → (t : Bool) → bytes_eq name (codes "stats") ≡ t → Names name
  go8 a b c d e f g false h = go9 a b c d e f g h
  go8 a b c d e f g true h = known (codes "stats") h (stats refl)

  go7 : bytes_eq name (codes "events") ≡ false → bytes_eq name (codes "pages") ≡ false → bytes_eq name (codes "steps") ≡ false → bytes_eq name (codes "heap") ≡ false
      → bytes_eq name (codes "save") ≡ false → bytes_eq name (codes "snapshot") ≡ false → (t : Bool) → bytes_eq name (codes "other") ≡ t → Names name
  go7 a b c d e f false g = go8 a b c d e f g (bytes_eq name (codes "stats")) refl
  go7 a b c d e f true g = known (codes "other") g (option refl refl refl refl refl)

  go6 : bytes_eq name (codes "events") ≡ false → bytes_eq name (codes "pages") ≡ false → bytes_eq name (codes "steps") ≡ false → bytes_eq name (codes "heap") ≡ false
      → bytes_eq name (codes "save") ≡ false → (t : Bool) → bytes_eq name (codes "snapshot") ≡ t → Names name
  go6 a b c d e false f = go7 a b c d e f (bytes_eq name (codes "other")) refl
  go6 a b c d e true f = known (codes "snapshot") f (option refl refl refl refl refl)

  go5 : bytes_eq name (codes "events") ≡ false → bytes_eq name (codes "pages") ≡ false → bytes_eq name (codes "steps") ≡ false → bytes_eq name (codes "heap") ≡ false
      → (t : Bool) → bytes_eq name (codes "save") ≡ t → Names name
  go5 a b c d false e = go6 a b c d e (bytes_eq name (codes "snapshot")) refl
  go5 a b c d true e = known (codes "save") e (option refl refl refl refl refl)

  go4 : bytes_eq name (codes "events") ≡ false → bytes_eq name (codes "pages") ≡ false → bytes_eq name (codes "steps") ≡ false
      → (t : Bool) → bytes_eq name (codes "heap") ≡ t → Names name
  go4 a b c false d = go5 a b c d (bytes_eq name (codes "save")) refl
  go4 a b c true d = known (codes "heap") d (option refl refl refl refl refl)

  go3 : bytes_eq name (codes "events") ≡ false → bytes_eq name (codes "pages") ≡ false → (t : Bool) → bytes_eq name (codes "steps") ≡ t → Names name
  go3 a b false c = go4 a b c (bytes_eq name (codes "heap")) refl
  go3 a b true c = known (codes "steps") c (option refl refl refl refl refl)

  go2 : bytes_eq name (codes "events") ≡ false → (t : Bool) → bytes_eq name (codes "pages") ≡ t → Names name
  go2 a false b = go3 a b (bytes_eq name (codes "steps")) refl
  go2 a true b = known (codes "pages") b (option refl refl refl refl refl)

  go1 : (t : Bool) → bytes_eq name (codes "events") ≡ t → Names name
  go1 false a = go2 a (bytes_eq name (codes "pages")) refl
  go1 true a = known (codes "events") a (option refl refl refl refl refl)
