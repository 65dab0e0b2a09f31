-- The bytes of instructions, and the labels of a method.
use Rattle.std.proofs.Common.{◌≡◌, ℕ, ◌+◌, ◌≤◌, ◌<◌, Bool, true, false, List, [], ◌∷◌, Some, None, Option, ap, sym, ◌∙◌, refl, arith, if◌then◌else◌}
use Rattle.std.specs.Prelude.{find, option_map, option_and_then, ◌&&◌, IfSome}
use Rattle.std.specs.Option.{option_or}
use Rattle.cs_model.specs.declared.instruction.Op.{Op}
use Rattle.cs_model.specs.declared.instruction.Instr.{Instr}
use Rattle.cs_model.specs.Assemble.{IsInstr, assembled, bytes_of, has_form}
use Rattle.cs_model.specs.BuilderText as text
use Rattle.cs_model.specs.BuilderFault.{first_bytes, form_bytes, place_where, byte_count}
use Rattle.std.specs.List.{list_all}
use Rattle.cs_build.specs.Sound.{is_sound}
use Rattle.cs_decode.proofs.HasForm.{IsInstr-has_form}
use Rattle.cs_build.proofs.Noting.{or_noted}

-- the first form of an instruction
pub first_code : (r : Option Instr) (o : Op) → option_map (λ i. i.len) r ≡ find (λ len. has_form len o) (1 ∷ 2 ∷ 3 ∷ 4 ∷ [])
    → IfSome r (λ i. i.op ≡ o) → IfSome r IsInstr → option_map assembled r ≡ first_bytes o
first_code None o found is form = ap (λ len. option_and_then (λ n. form_bytes n o) len) found
first_code (Some i) o found is form =
    let formed : has_form i.len o ≡ true = ap (has_form i.len) (sym is) ∙ IsInstr-has_form i form in
    ap (λ p. Some (bytes_of i.len p)) is
    ∙ ap (λ b. if b then Some (bytes_of i.len o) else None) (sym formed)
    ∙ ap (λ len. option_and_then (λ n. form_bytes n o) len) found

-- a form of so many bytes
pub form_code : (r : Option Instr) (len : ℕ) (o : Op) → option_map (λ i. i.len) r ≡ (if has_form len o then Some len else None)
    → IfSome r (λ i. i.op ≡ o) → option_map assembled r ≡ form_bytes len o
form_code r len o found is = go r (has_form len o) found is
  where
    go : (r : Option Instr) (b : Bool) → option_map (λ i. i.len) r ≡ (if b then Some len else None) → IfSome r (λ i. i.op ≡ o)
        → option_map assembled r ≡ (if b then Some (bytes_of len o) else None)
    go None true e h = absurd (cc)
    go None false e h = refl
    go (Some i) true e h = let same : i.len ≡ len = cc in ap (λ n. Some (bytes_of n i.op)) same ∙ ap (λ p. Some (bytes_of len p)) h
    go (Some i) false e h = absurd (cc)

-- a line more has its place
pub label_more : (passes : text.Form → Bool) (new old : Option ℕ) (n : ℕ) (form : text.Form) (rest : List text.Form)
    → new ≡ option_or old (if passes form then Some n else None)
    → option_or new (place_where byte_count passes (n + byte_count form) rest) ≡ option_or old (place_where byte_count passes n (form ∷ rest))
label_more passes new old n form rest e = ap (λ o. option_or o (place_where byte_count passes (n + byte_count form) rest)) e
    ∙ or_noted old (passes form) n (place_where byte_count passes (n + byte_count form) rest)

-- a place that was noted is no later one
pub within_more : (o : Option ℕ) (b : Bool) (n m : ℕ) → IfSome o (λ k. k ≤ n) → n ≤ m → IfSome (option_or o (if b then Some n else None)) (λ k. k ≤ m)
within_more (Some k) b n m h l = omega (arith, h, l)
within_more None true n m h l = l
within_more None false n m h l = tt

pub within_most : (o : Option ℕ) (n m : ℕ) → IfSome o (λ k. k ≤ n) → n < m → IfSome o (λ k. k < m)
within_most None n m h l = tt
within_most (Some k) n m h l = omega (arith, h, l)

pub both_sound : (form : text.Form) (forms : List text.Form) → list_all is_sound (form ∷ forms) ≡ true → (is_sound form ≡ true) × (list_all is_sound forms ≡ true)
both_sound form forms e = go (is_sound form) (list_all is_sound forms) e
  where
    go : (a b : Bool) → a && b ≡ true → (a ≡ true) × (b ≡ true)
    go true true h = (refl, refl)
    go true false h = absurd (cc)
    go false b h = absurd (cc)
