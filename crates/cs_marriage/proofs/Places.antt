-- Words that name places.
use Rattle.std.proofs.Common.{◌≡◌, ◌≢◌, ℕ, ◌%◌, ◌<◌, true, false, not, eqb, inl, inr, arith, ap, refl, ◌∙◌}
use Rattle.std.proofs.lemmas.Bool.{cases_Bool, eq-eqb, eqb-true}
use Rattle.cs_model.specs.Words.{small_value}
use Rattle.cs_word.specs.declared.Kind.TheVariants as kind
use Rattle.cs_word.specs.Word.{kind_of}
use Rattle.cs_frame.specs.declared.FrameRef.{FrameRef}
use Rattle.cs_marriage.specs.Place.{link_word, names_place, page_named}

pub link_names : (r : FrameRef) → names_place (link_word r) ≡ true
link_names r = eq-eqb (link_word r % 2) 1 (omega arith)

-- and is a SmallInteger
pub place_small : (word : ℕ) → names_place word ≡ true → kind_of word ≡ kind.Small (small_value word)
place_small word h = rw h refl

pub link_page : (r : FrameRef) → r.at < 4096 → page_named (link_word r) ≡ r.page
link_page r lt = omega (arith, lt)

-- a word names one place
pub link_once : (r q : FrameRef) → r.at < 4096 → q.at < 4096 → link_word r ≡ link_word q → r ≡ q
link_once r q lt lu e =
    let p : r.page ≡ q.page = omega (arith, lt, lu, e) in
    let a : r.at ≡ q.at = omega (arith, lt, lu, e) in
    ap (λ (n : ℕ). record { page = n; at = r.at }) p ∙ ap (λ (n : ℕ). record { page = q.page; at = n }) a

-- what a test for a difference tells
pub not_apart : (n m : ℕ) → false ≡ not (eqb n m) → n ≡ m
not_apart n m h = elim (cases_Bool (eqb n m)) [
  | inl t ↦ eqb-true n m t
  | inr f ↦ absurd (let e : false ≡ not false = h ∙ ap not f in cc)
]

pub apart : (n m : ℕ) → false ≡ eqb n m → n ≢ m
apart n m h e = absurd (let same : eqb n m ≡ true = eq-eqb n m e in cc)
