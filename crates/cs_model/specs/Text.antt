-- Texts as lists of bytes: the lines of a text, the words of a line, and the numbers and names that a word may be.
use Rattle.std.specs.Prelude.{ℕ, ℤ, ◌==◌, ◌&&◌, ◌||◌, not, Bool, false, nat_lt, neg_ℤ, pos, if◌then◌else◌, List, [], ◌∷◌, length, filter, Option, Some, None, option_map, option_and_then}
use Rattle.std.specs.Char.{is_ascii_alphabetic, is_ascii_alphanumeric}
use Rattle.std.specs.List.{list_all, slice_split}
use Rattle.cs_model.specs.Line.{decimal_number, at_most}

abbrev pub line_feed : ℕ
line_feed = 10

abbrev pub space : ℕ
space = 32

abbrev pub is_empty : List ℕ → Bool
is_empty text = length text == 0

abbrev pub first_that : List (List ℕ) → Option (List ℕ)
first_that [] = None
first_that (word ∷ words) = Some word

-- the parts between line feeds are lines, but for an empty one at the end
abbrev pub lines_in : List (List ℕ) → List (List ℕ)
lines_in [] = []
lines_in (part ∷ []) = if is_empty part then [] else part ∷ []
lines_in (part ∷ next ∷ parts) = part ∷ lines_in (next ∷ parts)

-- lines end with a line feed, which the last may lack
abbrev pub lines_of : List ℕ → List (List ℕ)
lines_of text = lines_in (slice_split (λ b. b == line_feed) text)

-- a text has at most so many bytes and lines
abbrev pub is_too_long : List ℕ → Bool
is_too_long text = nat_lt 16777216 (length text) || nat_lt 262144 (length (lines_of text))

-- what stands between single spaces
abbrev pub parts_of : List ℕ → List (List ℕ)
parts_of line = slice_split (λ b. b == space) line

-- words are separated by one space or more
abbrev pub line_words : List ℕ → List (List ℕ)
line_words line = filter (λ word. not (is_empty word)) (parts_of line)

-- a number in decimal digits without leading zeros, from the lowest to the highest
abbrev pub number_between : ℕ → ℕ → List ℕ → Option ℕ
number_between lowest highest word =
    option_and_then (λ n. if nat_lt n lowest then None else at_most highest n) (decimal_number word)

-- the same with a minus sign in front, where it isn't 0
abbrev pub negative_in : List ℕ → Option ℤ
negative_in word = option_and_then (λ n. if n == 0 then None else Some (neg_ℤ (pos n))) (decimal_number word)

abbrev pub integer_in : List ℕ → Option ℤ
integer_in [] = None
integer_in (b ∷ bytes) = if b == 45 then negative_in bytes else option_map (λ n. pos n) (decimal_number (b ∷ bytes))

-- a name is letters and digits and begins with a letter
abbrev pub is_name : List ℕ → Bool
is_name [] = false
is_name (b ∷ bytes) = is_ascii_alphabetic b && list_all is_ascii_alphanumeric bytes
