-- Hex digits as the crate hex reads them, and as the model does.
use Rattle.std.proofs.Common.{◌≡◌, ◌≢◌, ◌⊎◌, inl, inr, ℕ, Bool, true, false, ◌+◌, ◌*◌, ◌%◌, ◌==◌, ◌&&◌, List, [], ◌∷◌, Some, None, option_map, length, refl, arith, ap, ◌∙◌, if◌then◌else◌}
use Rattle.std.specs.Prelude.{codes, Option, Result, Ok, Err}
use Rattle.std.specs.Char.{is_ascii_hexdigit, digit_value}
use Rattle.std.proofs.lemmas.Bool.Decides.{nat_tests}
use Rattle.hex.specs.declared.error.FromHexError.{FromHexError}
use Rattle.hex.specs.declared.error.FromHexError.TheVariants.{OddLength, OutOfMemory}
use Rattle.hex.specs.Hex.{decode_of, decode_pairs, digit_or_error, hex_digit_value, ◌>>=◌}
use Rattle.cs_model.specs.BuilderText.{bytes_in, hex_bytes}
use Rattle.std.specs.Str.{bytes_eq}

abbrev ok_of : Result (List ℕ) FromHexError → Option (List ℕ)
ok_of (Ok bytes) = Some bytes
ok_of (Err e) = None

digit : (c : ℕ) → hex_digit_value c ≡ (if is_ascii_hexdigit c then Some (digit_value c) else None)
digit c = grind (arith, nat_tests)

pair : (a b i x y : ℕ) (p q : Bool) (r : Result (List ℕ) FromHexError)
    → (if p && q then option_map (λ bytes. (16 * x + y) ∷ bytes) (ok_of r) else None)
    ≡ ok_of ((digit_or_error a i (if p then Some x else None) >>= (λ h. digit_or_error b (i + 1) (if q then Some y else None) >>= (λ l. Ok (h * 16 + l))))
    >>= (λ byte. r >>= (λ bytes. Ok (byte ∷ bytes))))
pair a b i x y true true (Ok bytes) = ap (λ n. Some (n ∷ bytes)) (omega arith)
pair a b i x y true true (Err e) = refl
pair a b i x y true false r = refl
pair a b i x y false q r = refl

pairs : (i : ℕ) (s : List ℕ) → hex_bytes s ≡ ok_of (decode_pairs i s)
unfolding decode_pairs
pairs i [] = refl
pairs i (a ∷ []) = refl
pairs i (a ∷ b ∷ s) = rw (digit a, digit b, pairs (i + 2) s) (pair a b i (digit_value a) (digit_value b) (is_ascii_hexdigit a) (is_ascii_hexdigit b) (decode_pairs (i + 2) s))

odd : (s : List ℕ) → length s % 2 ≡ 1 → hex_bytes s ≡ None
odd [] h = absurd (omega (arith, h))
odd (a ∷ []) h = refl
odd (a ∷ b ∷ s) h = rw (odd s (omega (arith, h))) (go (is_ascii_hexdigit a && is_ascii_hexdigit b))
  where
    go : (both : Bool) → (if both then option_map (λ bytes. (16 * digit_value a + digit_value b) ∷ bytes) None else None) ≡ None
    go true = refl
    go false = refl

decoded : (s : List ℕ) → hex_bytes s ≡ ok_of (decode_of s)
decoded s = go (length s % 2 == 1) refl
  where
    go : (b : Bool) → (length s % 2 == 1) ≡ b → hex_bytes s ≡ ok_of (if b then Err OddLength else decode_pairs 0 s)
    go true e = odd s (grind (arith, nat_tests))
    go false e = pairs 0 s

pub hex_bytes-ok : (s bytes : List ℕ) → decode_of s ≡ Ok bytes → hex_bytes s ≡ Some bytes
hex_bytes-ok s bytes e = decoded s ∙ ap ok_of e

pub hex_bytes-err : (s : List ℕ) (e : FromHexError) → decode_of s ≡ Err e → hex_bytes s ≡ None
hex_bytes-err s e h = decoded s ∙ ap ok_of h

pub hex_bytes-none : (s : List ℕ) (e : FromHexError) → (e ≡ OutOfMemory) ⊎ (decode_of s ≡ Err e) → (e ≢ OutOfMemory) → hex_bytes s ≡ None
hex_bytes-none s e (inl h) other = absurd (other h)
hex_bytes-none s e (inr h) other = hex_bytes-err s e h

pub bytes_in-none : (word : List ℕ) (e : FromHexError) → bytes_eq word (codes "-") ≡ false → (e ≡ OutOfMemory) ⊎ (decode_of word ≡ Err e)
    → (e ≢ OutOfMemory) → None ≡ bytes_in word
bytes_in-none word e dash h other = rw (dash, hex_bytes-none word e h other) refl

pub ruleset hexes = (hex_bytes-ok)
