-- Laws of words, for the crates above.
use Rattle.std.proofs.Common.{◌≡◌, ℕ, ℤ, pos, negsuc, ◌+◌, ◌*◌, ◌<◌, ◌≤◌, ◌^◌, ◌/◌, ◌%◌, Bool, true, false, cond, Some, None, arith, eqb, refl, sym, ap, ◌∙◌}
use Rattle.std.proofs.lemmas.Bool.Decides.{nat_tests}
use Rattle.std.proofs.lemmas.Int.{ints}
use Rattle.std.proofs.lemmas.Grind.{common_steps}
use Rattle.cs_model.specs.Ref.{natural_of}
use Rattle.cs_model.specs.Words.{natural_in_word, small_value}
use Rattle.cs_word.specs.declared.Kind.TheVariants.{Small, Character, Object, Link}
use Rattle.cs_word.specs.Word.{IsSmall, kind_of, natural_by_kind, natural_of_word, word_of, small_word, character_word}

-- what a word says gives the word back
pub word_of-kind_of : (word : ℕ) → word < 2 ^ 32 → word_of (kind_of word) ≡ word
word_of-kind_of word fits = grind (arith, common_steps)

-- two words that say the same are the same word
pub kind_of-injective : (v w : ℕ) → v < 2 ^ 32 → w < 2 ^ 32 → kind_of v ≡ kind_of w → v ≡ w
kind_of-injective v w v_fits w_fits same =
    sym (word_of-kind_of v v_fits) ∙ ap word_of same ∙ word_of-kind_of w w_fits

-- the word of a SmallInteger says that number
pub kind_of-small_word : (z : ℤ) → IsSmall z → kind_of (small_word z) ≡ Small z
kind_of-small_word (pos n) small = grind (arith, ints)
kind_of-small_word (negsuc n) small = grind (arith, ints)

-- the word of a Character says its code
pub kind_of-character_word : (code : ℕ) → kind_of (character_word code) ≡ Character code
kind_of-character_word code = grind arith

-- an address is a multiple of 8
pub kind_of-object : (address : ℕ) → address % 8 ≡ 0 → kind_of address ≡ Object address
kind_of-object address aligned = grind arith

-- a link is four behind one
pub kind_of-link : (word : ℕ) → word % 8 ≡ 4 → kind_of word ≡ Link word
kind_of-link word aligned = grind arith

-- ---- the number that a word is

-- by what its low bits say
pub natural_of_word-kind : (word : ℕ) → natural_of_word word ≡ natural_by_kind (kind_of word)
unfolding natural_of_word
natural_of_word-kind word = refl

-- it is the number that the words of a file are
pub natural_of_word-in_word : (word : ℕ) → natural_of_word word ≡ natural_in_word word
unfolding natural_of_word
natural_of_word-in_word word =
    at (eqb (word % 2) 1) (eqb (word % 4) 2) (eqb (word % 8) 0)
  where
    at : (a b c : Bool) → natural_by_kind (cond a (Small (small_value word)) (cond b (Character (word / 4)) (cond c (Object word) (Link word))))
        ≡ cond a (natural_of (small_value word)) None
    at true b c = refl
    at false true c = refl
    at false false true = refl
    at false false false = refl

-- a word whose lowest bit is 1 and highest 0 is the number of the bits between
pub natural_of_word-low : (word : ℕ) → word % 2 ≡ 1 → word < 2 ^ 31 → natural_of_word word ≡ Some (word / 2)
natural_of_word-low word odd low = natural_of_word-in_word word ∙ grind (arith, nat_tests, odd, low)

-- all other words are none
pub natural_of_word-even : (word : ℕ) → word % 2 ≡ 0 → natural_of_word word ≡ None
natural_of_word-even word even = natural_of_word-in_word word ∙ grind (arith, nat_tests, even)

pub natural_of_word-high : (word : ℕ) → 2 ^ 31 ≤ word → word < 2 ^ 32 → natural_of_word word ≡ None
natural_of_word-high word high fits = natural_of_word-in_word word ∙ grind (arith, nat_tests, high, fits)

-- the word of a number is that number
pub natural_of_word-small_word : (n : ℕ) → n < 2 ^ 30 → natural_of_word (small_word (pos n)) ≡ Some n
natural_of_word-small_word n small = natural_of_word-low (2 * n + 1) (omega arith) (omega (arith, small)) ∙ ap Some (omega arith)
