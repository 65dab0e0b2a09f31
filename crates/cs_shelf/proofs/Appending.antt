-- Pieces that are taken one behind another.
use Rattle.std.proofs.Common.{◌≡◌, ℕ, ◌+◌, ◌-◌, Result, Ok, Err, List, ◌++◌, take, drop, Option, Some, None, option_map, ap, sym, ◌∙◌, length, length-drop, arith, append_assoc}
use Rattle.std.specs.Prelude.{OnErr}
use Rattle.std.proofs.lemmas.List.{take_all}
use Rattle.std.proofs.Math.Seq.{take-add}
use Rattle.cs_shelf.specs.Outside.{Appends, Empties}

-- bytes behind bytes
pub appends_then : (a b c : Option (List ℕ)) (xs ys : List ℕ) → Appends a b xs → Appends b c ys → Appends a c (xs ++ ys)
appends_then None b c xs ys h k = k ∙ ap (option_map (λ (zs : List ℕ). zs ++ ys)) h
appends_then (Some z) b c xs ys h k = k ∙ ap (option_map (λ (zs : List ℕ). zs ++ ys)) h ∙ ap Some (append_assoc z xs ys)

-- the first i bytes of a piece, and then the first n of the rest, which the code writes as a slice to the end
pub appends_more : (a b c : Option (List ℕ)) (bytes : List ℕ) (i n : ℕ) → Appends a b (take i bytes)
    → Appends b c (take n (take (length bytes - i) (drop i bytes))) → Appends a c (take (i + n) bytes)
appends_more a b c bytes i n h k =
    let rest : take (length bytes - i) (drop i bytes) ≡ drop i bytes = take_all (length bytes - i) (drop i bytes) (simp length-drop (omega arith)) in
    rw take-add (appends_then a b c (take i bytes) (take n (drop i bytes)) h (rw rest at k))

-- all bytes behind none are the first so many of them
pub all_taken : (a b c d : Option (List ℕ)) (bytes : List ℕ) → Empties a b → Appends b c bytes → d ≡ c
    → (n : ℕ) × (d ≡ option_map (λ (taken : List ℕ). take n bytes) a)
all_taken None b c d bytes e h k = (0, k ∙ h ∙ ap (option_map (λ (zs : List ℕ). zs ++ bytes)) e)
all_taken (Some t) b c d bytes e h k =
    (length bytes, k ∙ h ∙ ap (option_map (λ (zs : List ℕ). zs ++ bytes)) e ∙ ap Some (sym (take_all (length bytes) bytes (omega arith))))

-- what holds anyway holds of an error
pub on_err : {T E : Type 0} (r : Result T E) (P : Type 0) → P → OnErr r P
on_err (Ok x) P p = tt
on_err (Err e) P p = p
