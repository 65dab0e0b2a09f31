-- Object words of 32-bit Spur: the low bits say what a word is.
use Rattle.std.specs.Prelude.{ℕ, ℤ, pos, negsuc, neg_ℤ, ◌-ℤ◌, ◌≤ℤ◌, ◌<ℤ◌, ◌+◌, ◌-◌, ◌*◌, ◌/◌, ◌%◌, ◌^◌, ◌==◌, nat_lt, if◌then◌else◌, Option, None}
use Rattle.cs_model.specs.Ref.{natural_of}
use Rattle.cs_word.specs.declared.Kind.{Kind}
use Rattle.cs_word.specs.declared.Kind.TheVariants.{Small, Character, Object, Link}
use Rattle.cs_model.specs.Words.{small_value}

-- a SmallInteger has 31 bits: -2^30 to 2^30 - 1
abbrev pub IsSmall : ℤ → Type 0
IsSmall z = (neg_ℤ (pos (2 ^ 30)) ≤ℤ z) × (z <ℤ pos (2 ^ 30))

-- what the low bits of a word say
abbrev pub kind_of : ℕ → Kind
kind_of word = if word % 2 == 1 then Small (small_value word)
    else (if word % 4 == 2 then Character (word / 4)
    else (if word % 8 == 0 then Object word else Link word))

-- the word of a SmallInteger: 2 * z + 1, modulo 2^32
abbrev pub small_word : ℤ → ℕ
small_word (pos n) = 2 * n + 1
small_word (negsuc n) = 2 ^ 32 - 2 * n - 1

-- the word of a Character
abbrev pub character_word : ℕ → ℕ
character_word code = 4 * code + 2

-- the word that says this
abbrev pub word_of : Kind → ℕ
word_of (Small z) = small_word z
word_of (Character code) = character_word code
word_of (Object word) = word
word_of (Link word) = word

-- the number that such a word is, where it is a SmallInteger that isn't negative
abbrev pub natural_by_kind : Kind → Option ℕ
natural_by_kind (Small z) = natural_of z
natural_by_kind (Character code) = None
natural_by_kind (Object word) = None
natural_by_kind (Link word) = None

-- the number that a word is, where it is a SmallInteger that isn't negative
unfoldable pub natural_of_word : ℕ → Option ℕ
natural_of_word word = natural_by_kind (kind_of word)
