-- The symbols of a text: those that each text has, and those that its lines mention.
use Rattle.std.proofs.Common.{◌≡◌, ℕ, ◌<◌, Bool, true, false, List, [], ◌∷◌, ◌++◌, length, map, sym, subst, ◌∙◌, refl, arith, if◌then◌else◌, length-append}
use Rattle.std.specs.Prelude.{flat_map, fold}
use Rattle.std.specs.List.{AllByRecursion, list_any}
use Rattle.std.specs.Str.{bytes_eq}
use Rattle.std.proofs.lemmas.List.Sums.{fold-append}
use Rattle.cs_model.specs.BuilderText.{Form}
use Rattle.cs_model.specs.BuilderFault.{known_classes}
use Rattle.cs_model.specs.Builder.{selector_names, special_symbols, symbols_in, symbols_of, with_new}
use Rattle.cs_model.proofs.Same.{all-append}
use Rattle.cs_build.proofs.Gathering.{names_of_bytes}
use Rattle.cs_build.proofs.Shaping.{OfBytes}

new_bytes : (names : List (List ℕ)) (name : List ℕ) → AllByRecursion OfBytes names → OfBytes name → AllByRecursion OfBytes (with_new names name)
new_bytes names name all units = go (list_any (bytes_eq name) names)
  where
    go : (b : Bool) → AllByRecursion OfBytes (if b then names else names ++ name ∷ [])
    go true = all
    go false = all-append OfBytes names (name ∷ []) all (units, tt)

fold_bytes : (names more : List (List ℕ)) → AllByRecursion OfBytes names → AllByRecursion OfBytes more → AllByRecursion OfBytes (fold with_new names more)
fold_bytes names [] all rest = all
fold_bytes names (name ∷ more) all rest = fold_bytes (with_new names name) more (new_bytes names name all rest.0) rest.1

-- the names that each text has
known_names : List (List ℕ)
known_names = map (λ e. e.0) selector_names ++ map (λ e. e.1) special_symbols ++ map (λ c. c.name) known_classes

symbols_are : (forms : List Form) → symbols_of forms ≡ fold with_new [] (known_names ++ flat_map symbols_in forms)
unfolding known_names
symbols_are forms = refl

known_bytes : AllByRecursion OfBytes known_names
unfolding known_names
known_bytes = names_of_bytes (map (λ e. e.0) selector_names ++ map (λ e. e.1) special_symbols ++ map (λ c. c.name) known_classes) refl

pub symbols_bytes : (forms : List Form) → AllByRecursion OfBytes (flat_map symbols_in forms) → AllByRecursion OfBytes (symbols_of forms)
symbols_bytes forms all = subst (AllByRecursion OfBytes) (sym (symbols_are forms))
    (fold_bytes [] (known_names ++ flat_map symbols_in forms) tt (all-append OfBytes known_names (flat_map symbols_in forms) known_bytes all))

-- ---- there are some

new_some : (names : List (List ℕ)) (name : List ℕ) → 0 < length names → 0 < length (with_new names name)
new_some names name some = go (list_any (bytes_eq name) names)
  where
    go : (b : Bool) → 0 < length (if b then names else names ++ name ∷ [])
    go true = some
    go false = omega (arith, length-append names (name ∷ []))

fold_some : (names more : List (List ℕ)) → 0 < length names → 0 < length (fold with_new names more)
fold_some names [] some = some
fold_some names (name ∷ more) some = fold_some (with_new names name) more (new_some names name some)

known_some : 0 < length (fold with_new [] known_names)
unfolding known_names
known_some = omega arith

pub symbols_some : (forms : List Form) → 0 < length (symbols_of forms)
symbols_some forms = subst (λ (names : List (List ℕ)). 0 < length names)
    (sym (symbols_are forms ∙ fold-append with_new [] known_names (flat_map symbols_in forms)))
    (fold_some (fold with_new [] known_names) (flat_map symbols_in forms) known_some)
