-- Decoding at a place by the bytes that stand there.
use Rattle.std.proofs.Common.{◌≡◌, ℕ, ◌+◌, ◌<◌, Bool, true, false, List, Option, Some, None, refl, ap, ◌∙◌, sym, subst, slice_index, length, nat_le, if◌then◌else◌, option_map}
use Rattle.cs_model.specs.declared.instruction.Instr.{Instr}
use Rattle.cs_model.specs.declared.instruction.Op.{Op}
use Rattle.cs_model.specs.Decode.{len_of, op_of, decode_at}
use Rattle.cs_model.specs.Assemble.{IsInstr, has_form}
use Rattle.cs_decode.proofs.HasForm.{all_have_form, op_of-has_form}
use Rattle.cs_decode.proofs.Assembled.{has_form-IsInstr}

none_either_way :
    (enough : Bool) (o : Option Op) (len : ℕ) → o ≡ None
    → ◌≡◌ {A = Option Instr} (if enough then option_map (λ op. record { op = op; len = len }) o else None) None
none_either_way true o len none = ap (option_map (λ op. record { op = op; len = len })) none
none_either_way false o len none = refl

-- bytes that are no instruction
pub decode_at-none :
    (bytes : List ℕ) (at a b c d : ℕ) → a ≡ slice_index bytes at → b ≡ slice_index bytes (at + 1) → c ≡ slice_index bytes (at + 2)
    → d ≡ slice_index bytes (at + 3) → None ≡ op_of a b c d → decode_at bytes at ≡ None
unfolding decode_at
decode_at-none bytes at a b c d first second third fourth none =
    let code = slice_index bytes at in
    let here : op_of (slice_index bytes at) (slice_index bytes (at + 1)) (slice_index bytes (at + 2)) (slice_index bytes (at + 3)) ≡ None =
    subst (λ n. op_of n (slice_index bytes (at + 1)) (slice_index bytes (at + 2)) (slice_index bytes (at + 3)) ≡ None) first
    (subst (λ n. op_of a n (slice_index bytes (at + 2)) (slice_index bytes (at + 3)) ≡ None) second
    (subst (λ n. op_of a b n (slice_index bytes (at + 3)) ≡ None) third
    (subst (λ n. op_of a b c n ≡ None) fourth (sym none)))) in
    none_either_way (nat_le (at + len_of code) (length bytes)) _ (len_of code) here

-- bytes that are an instruction
pub decoded-IsInstr :
    (a b c d len : ℕ) (op : Op) → a < 256 → b < 256 → c < 256 → d < 256 → len ≡ len_of a → op_of a b c d ≡ Some op
    → IsInstr (record { op = op; len = len })
decoded-IsInstr a b c d len op a_below b_below c_below d_below same row =
    has_form-IsInstr (record { op = op; len = len })
    (ap (λ n. has_form n op) same ∙ ap (all_have_form (len_of a)) (sym row) ∙ op_of-has_form a b c d a_below b_below c_below d_below)
