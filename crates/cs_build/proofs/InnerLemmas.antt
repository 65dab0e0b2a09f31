-- Instructions with numbers, and the forms of lines in methods.
use Rattle.std.proofs.Common.{◌≡◌, ℕ, ◌<◌, ◌≤◌, Bool, true, false, List, [], ◌∷◌, Some, None, option_map, length, refl, arith, ap, sym, ◌∙◌, nat_lt}
use Rattle.std.specs.Prelude.{ℤ, pos, negsuc, Option, option_and_then}
use Rattle.std.specs.Borrow.{Bor}
use Rattle.std.proofs.lemmas.Bool.Decides.{nat_tests}
use Rattle.cs_model.specs.declared.instruction.Op.{Op}
use Rattle.cs_model.specs.Ref.{natural_of}
use Rattle.cs_model.specs.Assemble.{op_name}
use Rattle.cs_model.specs.BuilderText.{Plain, inner_form, op_named, ops_of_one, ops_of_two}
use Rattle.std.specs.Str.{bytes_eq}
use Rattle.cs_build.specs.Narrow.{narrow, narrow_byte, narrow_form, narrow_op, two_numbered, word_texts}
use Rattle.cs_build.proofs.OpLemmas.{formless, formless-find}

-- the instruction of a word and a number
abbrev pub op_by : List ℕ → ℤ → Option Op
op_by word z = option_and_then (λ n. op_named word (ops_of_one n)) (natural_of z)

byte-wide : (n : ℕ) → None ≡ narrow_byte (narrow (pos n)) → 255 < n
byte-wide n e = by (nat_lt 255 n) refl
  where
    by : (b : Bool) → nat_lt 255 n ≡ b → 255 < n
    by true wide = grind (arith, nat_tests)
    by false small = absurd (grind (arith, nat_tests))

byte-natural : (z : ℤ) (n : ℕ) → Some n ≡ narrow_byte (narrow z) → natural_of z ≡ Some n
byte-natural (negsuc k) n e = cc
byte-natural (pos k) n e = grind (arith, nat_tests)

pub one-none : (word : List ℕ) (z number m : ℤ) → number ≡ narrow z → None ≡ narrow_byte m → m ≡ number → narrow_op (op_by word z) ≡ None
one-none word (negsuc k) number m is e same = refl
one-none word (pos k) number m is e same =
    formless-find (λ o. bytes_eq (op_name o) word) (ops_of_one k) (formless k (byte-wide k (e ∙ ap narrow_byte (same ∙ is))))

pub one-some : (word : List ℕ) (z number m : ℤ) (n : ℕ) (o : Op) → number ≡ narrow z → Some n ≡ narrow_byte m → Some o ≡ op_named word (ops_of_one n)
    → m ≡ number → narrow_op (Some o) ≡ narrow_op (op_by word z)
one-some word z number m n o is e named same =
    ap narrow_op (named ∙ sym (ap (option_and_then (λ n. op_named word (ops_of_one n))) (byte-natural z n (e ∙ ap narrow_byte (same ∙ is)))))

-- the instruction of a word and two numbers
abbrev pub op_by_two : List ℕ → ℤ → ℤ → Option Op
op_by_two word y z = option_and_then (λ i. option_and_then (λ j. op_named word (ops_of_two i j)) (natural_of z)) (natural_of y)

pub two-some : (word : List ℕ) (y z a b c d : ℤ) (m n : ℕ) (o : Op) → a ≡ narrow y → b ≡ narrow z → Some m ≡ narrow_byte c → Some n ≡ narrow_byte d
    → Some o ≡ op_named word (ops_of_two m n) → c ≡ a → d ≡ b → narrow_op (Some o) ≡ narrow_op (op_by_two word y z)
two-some word y z a b c d m n o is are e f named first_same second_same =
    let first : natural_of y ≡ Some m = byte-natural y m (e ∙ ap narrow_byte (first_same ∙ is)) in
    let second : natural_of z ≡ Some n = byte-natural z n (f ∙ ap narrow_byte (second_same ∙ are)) in
    rw (first, second, ← named) refl

pub two-known : (word : List ℕ) (i j : Option ℤ) (a b c d : ℤ) (known : Op) (r : Option Op) → Some a ≡ option_map narrow i → Some b ≡ option_map narrow j
    → Some known ≡ op_named word (ops_of_two 0 0) → ((y z : ℤ) → c ≡ narrow y → d ≡ narrow z → r ≡ narrow_op (op_by_two word y z))
    → c ≡ a → d ≡ b
    → Some (Plain r) ≡ option_map narrow_form (two_numbered word i j)
two-known word None j a b c d known r e f named are same also = cc
two-known word (Some y) None a b c d known r e f named are same also = cc
two-known word (Some y) (Some z) a b c d known r e f named are same also =
    let first : c ≡ narrow y = cc in
    let second : d ≡ narrow z = cc in
    rw (← named) (ap (λ o. Some (Plain o)) (are y z first second))

-- ---- the forms of lines in methods

pub inner_form-none : (words : List (Bor (List ℕ))) → length words < 1 → inner_form (word_texts words) ≡ None
inner_form-none [] h = refl
inner_form-none (a ∷ words) h = absurd (omega (arith, h))

pub inner_form-long : (words : List (Bor (List ℕ))) → 5 ≤ length words → inner_form (word_texts words) ≡ None
inner_form-long [] h = absurd (omega (arith, h))
inner_form-long (a ∷ []) h = absurd (omega (arith, h))
inner_form-long (a ∷ b ∷ []) h = absurd (omega (arith, h))
inner_form-long (a ∷ b ∷ c ∷ []) h = absurd (omega (arith, h))
inner_form-long (a ∷ b ∷ c ∷ d ∷ []) h = absurd (omega (arith, h))
inner_form-long (a ∷ b ∷ c ∷ d ∷ e ∷ words) h = refl
