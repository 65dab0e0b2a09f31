-- The slots of the context in which a process begins.
use Rattle.std.proofs.Common.{◌≡◌, ℕ, ◌+◌, ◌-◌, ◌*◌, ◌/◌, ◌%◌, ◌^◌, ◌==◌, ◌≤◌, Bool, true, false, [], ◌∷◌, ◌++◌, length, replicate, ap, sym, ◌∙◌, refl, arith, if◌then◌else◌}
use Rattle.std.specs.Prelude.{pos, is_some}
use Rattle.std.proofs.lemmas.List.{length-replicate, replicate-append-replicate}
use Rattle.cs_model.specs.Ref.{Ref, Small}
use Rattle.cs_model.specs.Obj.{context_size}
use Rattle.cs_model.specs.BuilderText as text
use Rattle.cs_model.specs.BuilderFault.{method_fits, most_temporaries}
use Rattle.cs_model.specs.Builder.{bit_of, built_header, natural, nil_ref}
use Rattle.cs_build.proofs.Sounding.{and_true, natural_between}

large_bit : (p l : Bool) (t a : ℕ) → (0 + bit_of p * 2 ^ 16 + bit_of l * 2 ^ 17 + t * 2 ^ 18 + a * 2 ^ 24) / 2 ^ 17 % 2 ≡ bit_of l
large_bit true true t a = omega arith
large_bit true false t a = omega arith
large_bit false true t a = omega arith
large_bit false false t a = omega arith

abbrev size_by : ℕ → ℕ
size_by k = if k == 1 then 56 else 16

abbrev most_by : Bool → ℕ
most_by l = if l then 56 else 16

size_of_bit : (l : Bool) → size_by (bit_of l) ≡ most_by l
size_of_bit true = refl
size_of_bit false = refl

pub size_is : (line : text.MethodLine) → context_size (built_header line 0) ≡ most_temporaries line
size_is line = ap size_by (large_bit (is_some line.primitive) line.large (natural line.temporaries) (natural line.arguments)) ∙ size_of_bit line.large

pub temporaries_fit : (line : text.MethodLine) → method_fits line ≡ true → natural line.temporaries ≤ most_temporaries line
temporaries_fit line e = natural_between 0 (most_temporaries line) line.temporaries (and_true _ _ (and_true _ _ (and_true _ _ e).0).0).1

pub refs_of_context : (pc m r : Ref) (t most size : ℕ) → t ≤ most → size ≡ most
    → (nil_ref ∷ pc ∷ Small (pos t) ∷ m ∷ nil_ref ∷ r ∷ []) ++ replicate most nil_ref
    ≡ (nil_ref ∷ pc ∷ Small (pos (length (replicate t nil_ref))) ∷ m ∷ nil_ref ∷ r ∷ replicate t nil_ref) ++ replicate (size - length (replicate t nil_ref)) nil_ref
refs_of_context pc m r t most size h e =
    let n : length (replicate t nil_ref) ≡ t = length-replicate t nil_ref in
    let all : t + (size - t) ≡ most = omega (arith, h, e) in
    ap (λ l. nil_ref ∷ pc ∷ Small (pos t) ∷ m ∷ nil_ref ∷ r ∷ l) (sym (replicate-append-replicate t (size - t) nil_ref ∙ ap (λ k. replicate k nil_ref) all))
    ∙ ap (λ k. (nil_ref ∷ pc ∷ Small (pos k) ∷ m ∷ nil_ref ∷ r ∷ replicate t nil_ref) ++ replicate (size - k) nil_ref) (sym n)

pub four : {A : Type 0} {a b c d k l m n : A} → a ≡ k → b ≡ l → c ≡ m → d ≡ n → (a ∷ b ∷ c ∷ d ∷ []) ≡ (k ∷ l ∷ m ∷ n ∷ [])
four p q r s = λ i. p i ∷ q i ∷ r i ∷ s i ∷ []
