-- An image is compared with that of another file.
use Rattle.std.proofs.Common.{◌≡◌, ℕ, ◌≤◌, List, Option, Some, sym, subst}
use Rattle.std.specs.Borrow.{Bor}
use Rattle.cs_model.specs.State.{Kept}
use Rattle.cs_shelf.specs.Outside.{Fault}
use Rattle.cs_cli.specs.Answer as answer
use Rattle.cs_cli.specs.Answer.{HasFault, IsImage, OtherAnswered, Reading, Refused, Writing}
use Rattle.cs_cli.specs.Meaning.{name_by}
use Rattle.std.specs.Prelude.{IsSomeAnd}
use Rattle.cs_cli.proofs.Writings.{rose_from}

abbrev pub reading : (List ℕ → Option (List ℕ)) → ℕ → ℕ → Fault → Reading
reading content before behind last = record { content = content; before = before; behind = behind; last = last }

-- a refusal behind a first reading, which changes no content
refused_from : (c d : List ℕ → Option (List ℕ)) (i j n : ℕ) (f : Fault) (other : List ℕ) (limit : ℕ) (out : Writing) (status : ℕ)
    → d other ≡ c other → i ≤ j → Refused other limit (reading d j n f) out status → Refused other limit (reading c i n f) out status
refused_from c d i j n f other limit out status same le (answer.read h printed) =
    answer.read (record { rose = rose_from i j n le h.rose; last = h.last }) printed
refused_from c d i j n f other limit out status same le (answer.image fault h printed) =
    answer.image fault (subst (λ content. HasFault content limit fault) same h) printed
refused_from c d i j n f other limit out status same le (answer.memory printed) = answer.memory printed

-- the same of what is answered then
pub answered_from : (k : Kept) (c d : List ℕ → Option (List ℕ)) (i j n : ℕ) (f : Fault) (other : List ℕ) (limit : ℕ) (out : Writing) (status : ℕ)
    → d other ≡ c other → i ≤ j → OtherAnswered k other limit (reading d j n f) out status → OtherAnswered k other limit (reading c i n f) out status
answered_from k c d i j n f other limit out status same le (answer.other_refused h) =
    answer.other_refused (refused_from c d i j n f other limit out status same le h)
answered_from k c d i j n f other limit out status same le (answer.compared l h printed) =
    answer.compared l (subst (λ content. IsImage content limit l) same h) printed

-- the other name that a line has
pub named : (o : Option (Bor (List ℕ))) (b : Bor (List ℕ)) (P : List ℕ → Type 0) → o ≡ Some b → P b.now → IsSomeAnd (name_by o) P
named o b P e h = subst (λ x. IsSomeAnd (name_by x) P) (sym e) h
