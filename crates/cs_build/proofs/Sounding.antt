-- Numbers of lines that fit.
use Rattle.std.proofs.Common.{◌≡◌, ℕ, ◌+◌, ◌≤◌, ◌<◌, Bool, true, false, List, [], ◌∷◌, Some, Option, ap, sym, ◌∙◌, refl, arith, if◌then◌else◌}
use Rattle.std.specs.Prelude.{ℤ, pos, negsuc, find, flat_map, ◌&&◌, not, int_lt}
use Rattle.std.specs.Option.{option_map_or}
use Rattle.std.specs.List.{list_all}
use Rattle.std.specs.Str.{bytes_eq}
use Rattle.std.proofs.lemmas.Bool.{false≢true}
use Rattle.std.proofs.lemmas.Bool.Decides.{nat_tests}
use Rattle.std.proofs.lemmas.Int.{ints}
use Rattle.cs_model.specs.BuilderText as text
use Rattle.cs_model.specs.BuilderFault.{all_classes, class_lines_in, is_between}
use Rattle.cs_model.specs.Builder.{all_forms, class_format, natural}
use Rattle.cs_build.specs.Sound.{is_sound}
use Rattle.cs_build.proofs.Standing.{classes_are}

pub and_true : (a b : Bool) → a && b ≡ true → (a ≡ true) × (b ≡ true)
and_true true true h = (refl, refl)
and_true true false h = absurd (cc)
and_true false b h = absurd (cc)

-- a number between two isn't above the higher one
pub natural_between : (low high : ℕ) (z : ℤ) → is_between low high z ≡ true → natural z ≤ high
natural_between low high (pos n) e =
    let below : int_lt (pos n) (pos (high + 1)) ≡ true = (and_true (not (int_lt (pos n) (pos low))) (int_lt (pos n) (pos (high + 1))) e).1 in
    first_of (grind (arith, nat_tests, below), omega (arith, ints, below))
natural_between low high (negsuc n) e = omega arith

-- nor below the lower one
pub natural_least : (low high : ℕ) (z : ℤ) → is_between low high z ≡ true → low ≤ natural z
natural_least low high (pos n) e =
    let least : not (int_lt (pos n) (pos low)) ≡ true = (and_true (not (int_lt (pos n) (pos low))) (int_lt (pos n) (pos (high + 1))) e).0 in
    first_of (grind (arith, nat_tests, least), omega (arith, ints, least))
natural_least low high (negsuc n) e =
    let least : not (int_lt (negsuc n) (pos low)) ≡ true = (and_true (not (int_lt (negsuc n) (pos low))) (int_lt (negsuc n) (pos (high + 1))) e).0 in
    absurd (false≢true least)

formats_sound : (forms : List text.Form) → list_all is_sound forms ≡ true → list_all (λ c. is_between 0 31 c.format) (flat_map class_lines_in forms) ≡ true
formats_sound [] e = refl
formats_sound (text.Class line ∷ forms) e =
    let both : (is_between 0 31 line.format && is_between 0 65535 line.fields ≡ true) × (list_all is_sound forms ≡ true) = and_true _ _ e in
    ap (λ b. b && list_all (λ c. is_between 0 31 c.format) (flat_map class_lines_in forms)) (and_true _ _ both.0).0 ∙ formats_sound forms both.1
formats_sound (form ∷ forms) e = formats_sound forms (and_true (is_sound form) (list_all is_sound forms) e).1

found_sound : (p : text.ClassLine → Bool) (lines : List text.ClassLine) → list_all (λ c. is_between 0 31 c.format) lines ≡ true
    → option_map_or (λ c. natural c.format) (find p lines) 0 < 32
found_sound p [] e = omega arith
found_sound p (c ∷ lines) e = go (p c) (find p lines) (found_sound p lines (and_true _ _ e).1)
  where
    go : (b : Bool) (f : Option text.ClassLine) → option_map_or (λ c. natural c.format) f 0 < 32
        → option_map_or (λ c. natural c.format) (if b then Some c else f) 0 < 32
    go true f h = omega (arith, natural_between 0 31 c.format (and_true _ _ e).0)
    go false f h = h

pub format_few : (forms : List text.Form) (name : List ℕ) → list_all is_sound (all_forms forms) ≡ true → class_format forms name < 32
format_few forms name e = found_sound (λ c. bytes_eq c.name name) (all_classes forms)
    (sym (ap (list_all (λ c. is_between 0 31 c.format)) (classes_are forms)) ∙ formats_sound (all_forms forms) e)
