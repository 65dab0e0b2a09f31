-- The number that a word of a file is.
use Rattle.std.proofs.Common.{◌≡◌, ℕ, ◌%◌, ◌/◌, Bool, true, false, refl, None}
use Rattle.std.specs.Prelude.{◌==◌, if◌then◌else◌}
use Rattle.cs_word.specs.declared.Kind.TheVariants as kind
use Rattle.cs_word.specs.Word.{natural_by_kind, natural_of_word}
use Rattle.cs_model.specs.Ref.{natural_of}
use Rattle.cs_model.specs.Words.{natural_in_word, small_value}

pub word_natural : (word : ℕ) → natural_of_word word ≡ natural_in_word word
unfolding natural_of_word
word_natural word = small (word % 2 == 1)
  where
    other : (b c : Bool) → natural_by_kind (if b then kind.Character (word / 4) else (if c then kind.Object word else kind.Link word)) ≡ None
    other true c = refl
    other false true = refl
    other false false = refl

    small : (b : Bool) → natural_by_kind (if b then kind.Small (small_value word) else (if word % 4 == 2 then kind.Character (word / 4) else (if word % 8 == 0 then kind.Object word else kind.Link word)))
        ≡ (if b then natural_of (small_value word) else None)
    small true = refl
    small false = other (word % 4 == 2) (word % 8 == 0)
