-- The numbers that things of a text have, as the code keeps them.
use Rattle.std.specs.Prelude.{ℕ, ℤ, pos, fold, ◌+◌, ◌&&◌, Bool, List, [], ◌∷◌, map, Option, Some, None, if◌then◌else◌}
use Rattle.std.specs.Option.{option_or}
use Rattle.std.specs.List.{before_first}
use Rattle.cs_model.specs.BuilderText.{ClassLine, MethodLine, Form, Method}
use Rattle.cs_model.specs.BuilderFault.{is_end_line}
use Rattle.cs_model.specs.Builder.{with_new, selector_names, special_symbols}
use Rattle.std.specs.Str.{bytes_eq}
use Rattle.indexmap.specs.IndexMap.{IndexMap, get_by}
use Rattle.std.specs.Borrow.{Bor}

-- the bytes of names
abbrev pub plain_names : List (Bor (List ℕ)) → List (List ℕ)
plain_names names = map (λ name. name.now) names

-- the number that a name has
abbrev pub name_number : {V S : Type 0} → IndexMap (Bor (List ℕ)) V S → List ℕ → Option V
name_number numbers q = get_by (λ k. bytes_eq q k.now) numbers

-- what one name adds
abbrev pub noted : List ℕ → ℕ → List ℕ → Option ℕ
noted name number q = if bytes_eq q name then Some number else None

-- the first place that passes, from a number on
abbrev pub first_at : {X : Type 0} → (X → Bool) → ℕ → List X → Option ℕ
first_at p n [] = None
first_at p n (x ∷ xs) = if p x then Some n else first_at p (n + 1) xs

-- the place of a class, which is known already or stands among the rest, of which the first has that place
abbrev pub placed : Option ℕ → ℕ → List ℕ → List ClassLine → Option ℕ
placed known place name rest = option_or known (first_at (λ line. bytes_eq line.name name) place rest)

-- ---- symbols

-- names, each once, and those of more that are new behind them
unfoldable pub mentioned : List (List ℕ) → List (List ℕ) → List (List ℕ)
mentioned names more = fold with_new names more

-- the special selectors, and the numbers of their arguments
unfoldable pub selector_words : List (List ℕ)
selector_words = map (λ e. e.0) selector_names

unfoldable pub selector_arguments : List ℤ
selector_arguments = map (λ e. pos e.1) selector_names

-- the special objects that are symbols, and their places
unfoldable pub special_names_of : List (List ℕ)
special_names_of = map (λ e. e.1) special_symbols

unfoldable pub special_places : List ℕ
special_places = map (λ e. e.0) special_symbols

-- ---- methods

-- the method that a class and a selector have
abbrev pub method_entry : {V S : Type 0} → IndexMap (Bor (List ℕ) × Bor (List ℕ)) V S → List ℕ → List ℕ → Option V
method_entry methods c s = get_by (λ k. bytes_eq c k.0.now && bytes_eq s k.1.now) methods

-- a method that a line begins, with the lines behind it up to its end
abbrev pub method_begun : List ℕ → List ℕ → Form → List Form → Option (MethodLine × List Form)
method_begun c s (Method line) behind =
    if bytes_eq line.class c && bytes_eq line.selector s then Some (line, before_first is_end_line behind) else None
method_begun c s form behind = None

-- the first one of a class and a selector
abbrev pub method_found : List ℕ → List ℕ → List Form → Option (MethodLine × List Form)
method_found c s [] = None
method_found c s (form ∷ forms) = option_or (method_begun c s form forms) (method_found c s forms)
