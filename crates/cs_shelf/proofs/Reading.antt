-- Reads that go on where the last one ended.
use Rattle.std.proofs.Common.{◌≡◌, ℕ, ◌+◌, ◌<◌, ◌≤◌, List, ◌++◌, take, drop, Option, Some, None, arith, max, option_map, ap, sym, ◌∙◌, length, append_assoc, subst}
use Rattle.std.specs.Prelude.{IfSome, ◌↔◌}
use Rattle.cs_shelf.specs.Outside.{AsksTo}
use Rattle.std.proofs.lemmas.List.{take-append-drop, drop-drop, drop_all, append-nil}

-- what was read begins the content, and the rest stands behind the first `at` bytes
abbrev pub Begins : Option (List ℕ) → List ℕ → ℕ → Type 0
Begins told read at = IfSome told (λ bytes. bytes ≡ read ++ drop at bytes)

-- one read more, of a shelf that still tells the same
pub begins_more : (told now : Option (List ℕ)) (read piece after : List ℕ) (at n end : ℕ) → Begins told read at
    → now ≡ told → IfSome now (λ bytes. piece ≡ take n (drop at bytes)) → after ≡ read ++ piece → end ≡ at + n
    → Begins told after end
begins_more None now read piece after at n end begins same gives e f = tt
begins_more (Some bytes) now read piece after at n end begins same gives e f =
    let P : Option (List ℕ) → Type 0 = λ o. IfSome o (λ c. piece ≡ take n (drop at c)) in
    let first : piece ≡ take n (drop at bytes) = subst P same gives in
    let split : drop at bytes ≡ piece ++ drop (at + n) bytes =
    sym (take-append-drop n (drop at bytes)) ∙ ap (λ (xs : List ℕ). xs ++ drop n (drop at bytes)) (sym first)
    ∙ ap (λ (xs : List ℕ). piece ++ xs) (drop-drop n at bytes) in
    rw (e, f) (begins ∙ ap (λ (xs : List ℕ). read ++ xs) split ∙ sym (append_assoc read piece (drop (at + n) bytes)))

-- a read gave nothing
pub begins_all : (told now : Option (List ℕ)) (read : List ℕ) (at n room : ℕ) → Begins told read at
    → now ≡ told → IfSome now (λ bytes. 0 < room → ((n ≡ 0) ↔ (length bytes ≤ at))) → 0 < room → n ≡ 0
    → IfSome told (λ bytes. read ≡ bytes)
begins_all None now read at n room begins same ends some none = tt
begins_all (Some bytes) now read at n room begins same ends some none =
    let P : Option (List ℕ) → Type 0 = λ o. IfSome o (λ c. 0 < room → ((n ≡ 0) ↔ (length c ≤ at))) in
    let past : length bytes ≤ at = (subst P same ends some).0 none in
    sym (begins ∙ ap (λ (xs : List ℕ). read ++ xs) (drop_all at bytes past) ∙ append-nil read)

-- one read more, that asks for no byte behind `end`
pub asks_more : (told now after : Option ℕ) (end far : ℕ) → AsksTo told now end → after ≡ option_map (λ far'. max far' far) now
    → far ≤ end → AsksTo told after end
asks_more None now after end far asks is within = tt
asks_more (Some f) None after end far asks is within = let P : Option ℕ → Type 0 = λ o. AsksTo (Some f) o end in subst P (sym is) tt
asks_more (Some f) (Some n) after end far asks is within =
    let P : Option ℕ → Type 0 = λ o. AsksTo (Some f) o end in
    let most : max n far ≤ max f end = omega arith in
    subst P (sym is) most

-- no read yet
pub asks_none : (told : Option ℕ) (end : ℕ) → AsksTo told told end
asks_none None end = tt
asks_none (Some f) end = omega arith
