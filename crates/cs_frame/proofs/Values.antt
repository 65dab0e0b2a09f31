-- Links by what cs_word says of a word, for the crates above: what is an immediate or an object may stand in a frame.
use Rattle.std.proofs.Common.{◌≡◌, ℕ, ◌%◌, false, eqb, arith}
use Rattle.std.proofs.lemmas.Bool.{ne_eqb}
use Rattle.cs_word.specs.declared.Kind.{Kind}
use Rattle.cs_word.specs.declared.Kind.TheVariants as kind
use Rattle.cs_word.specs.Word.{kind_of}
use Rattle.cs_frame.specs.Frame.{IsLink}

pub kind_of-link : (word : ℕ) → IsLink word → kind_of word ≡ kind.Link word
kind_of-link word is =
    let odd : eqb (word % 2) 1 ≡ false = ne_eqb (word % 2) 1 (omega arith) in
    let character : eqb (word % 4) 2 ≡ false = ne_eqb (word % 4) 2 (omega arith) in
    let address : eqb (word % 8) 0 ≡ false = ne_eqb (word % 8) 0 (omega arith) in
    rw (odd, character, address)
