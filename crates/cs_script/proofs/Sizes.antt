-- Scripts that are too large, and others.
use Rattle.std.proofs.Common.{◌≡◌, ◌∙◌, ℕ, true, false, suc, ◌<◌, ◌≤◌, List, [], ◌∷◌, length, Err, nat_lt, refl, sym, ap, arith}
use Rattle.std.proofs.lemmas.Bool.Decides.{nat_tests}
use Rattle.std.specs.Borrow.{Bor}
use Rattle.cs_model.specs.Script as script
use Rattle.cs_model.specs.Script.{script_of}
use Rattle.cs_model.specs.Text.{lines_of}
use Rattle.cs_script.specs.Reading.{script_in, texts}

length-texts : (lines : List (Bor (List ℕ))) → length (texts lines) ≡ length lines
length-texts [] = refl
length-texts (line ∷ lines) = ap (λ n. suc n) (length-texts lines)

above : (most n : ℕ) → most < n → nat_lt most n ≡ true
above most n h = grind (arith, nat_tests, h)

within : (most n : ℕ) → n ≤ most → nat_lt most n ≡ false
within most n h = grind (arith, nat_tests, h)

-- too many bytes
pub script_of-long : (text : List ℕ) → 16777216 < length text → script_of text ≡ Err script.TooMany
unfolding script_of
script_of-long text h = rw (above 16777216 (length text) h) refl

counted : (text : List ℕ) (lines : List (Bor (List ℕ))) → texts lines ≡ lines_of text → length (lines_of text) ≡ length lines
counted text lines are = ap length (sym are) ∙ length-texts lines

-- too many lines
pub script_of-many : (text : List ℕ) (lines : List (Bor (List ℕ))) → length text ≤ 16777216 → texts lines ≡ lines_of text
    → 262144 < length lines → script_of text ≡ Err script.TooMany
unfolding script_of
script_of-many text lines short are h =
    rw (within 16777216 (length text) short, counted text lines are, above 262144 (length lines) h) refl

-- neither: the lines decide
pub script_of-lines : (text : List ℕ) (lines : List (Bor (List ℕ))) → length text ≤ 16777216 → texts lines ≡ lines_of text
    → length lines ≤ 262144 → script_of text ≡ script_in (texts lines)
unfolding script_of
script_of-lines text lines short are h =
    rw (within 16777216 (length text) short, counted text lines are, within 262144 (length lines) h, are) refl

pub ruleset sizes = (script_of-long, script_of-many, script_of-lines)
