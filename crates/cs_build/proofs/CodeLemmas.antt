-- How many bytes of code an instruction makes, and which jumps and blocks don't fit.
use Rattle.std.proofs.Common.{◌≡◌, ℕ, ◌+◌, ◌&&◌, Bool, true, List, [], ◌∷◌, Some, None, length, ap, sym, ◌∙◌, if◌then◌else◌}
use Rattle.std.specs.Prelude.{ℤ, pos, ◌-ℤ◌, Option, find, is_none, is_some, not, option_and_then}
use Rattle.std.specs.Option.{option_map_or}
use Rattle.cs_model.specs.declared.instruction.Op.{Op}
use Rattle.cs_model.specs.declared.instruction.Instr.{Instr}
use Rattle.cs_model.specs.Assemble.{IsInstr, assembled, bytes_of, has_form}
use Rattle.cs_model.specs.BuilderText as text
use Rattle.cs_model.specs.BuilderText.{Form}
use Rattle.cs_model.specs.BuilderFault.{closure_bytes, first_bytes, form_bytes, jump_code, label_place}
use Rattle.cs_decode.proofs.HasForm.{IsInstr-has_form}
use Rattle.cs_build.specs.Tabled.{is_misfit}

pub plain-counted : (i : Instr) (o : Op) (n : ℕ) (bytes : List ℕ) → Some i.len ≡ find (λ len. has_form len o) (1 ∷ 2 ∷ 3 ∷ 4 ∷ [])
    → i.op ≡ o → IsInstr i → n ≡ length bytes → bytes ≡ assembled i → n ≡ option_map_or length (first_bytes o) 0
plain-counted i o n bytes found is form count are =
    let formed : has_form i.len o ≡ true = ap (has_form i.len) (sym is) ∙ IsInstr-has_form i form in
    count ∙ ap length (are ∙ ap (bytes_of i.len) is)
    ∙ sym (ap (λ len. option_map_or length (option_and_then (λ len. form_bytes len o) len) 0) (sym found)
    ∙ ap (λ b. option_map_or length (if b then Some (bytes_of i.len o) else None) 0) formed)

not-some : {A : Type 0} (fit : Bool) (o : Option A) → fit ≡ is_some o → not fit ≡ is_none o
not-some fit None e = ap not e
not-some fit (Some x) e = ap not e

pub misfit-jump : (body : List Form) (place to : ℕ) (word label : List ℕ) (fit : Bool) (offset : ℤ) → Some to ≡ label_place body label
    → fit ≡ is_some (jump_code word offset) → offset ≡ pos to -ℤ pos (place + 2) → not fit ≡ is_misfit body place (text.JumpTo word label)
misfit-jump body place to word label fit offset found e is =
    not-some fit (jump_code word (pos to -ℤ pos (place + 2))) (e ∙ ap (λ z. is_some (jump_code word z)) is)
    ∙ ap (λ o. not (is_none o) && is_none (option_and_then (λ to. jump_code word (pos to -ℤ pos (place + 2))) o)) found

pub misfit-closure : (body : List Form) (place to : ℕ) (copied args c a : ℤ) (label : List ℕ) (fit : Bool) (size : ℤ) → Some to ≡ label_place body label
    → fit ≡ is_some (closure_bytes c a size) → c ≡ copied → a ≡ args → size ≡ pos to -ℤ pos (place + 4)
    → not fit ≡ is_misfit body place (text.ClosureTo copied args label)
misfit-closure body place to copied args c a label fit size found e first second is =
    not-some fit (closure_bytes copied args (pos to -ℤ pos (place + 4))) (e ∙ (λ i. is_some (closure_bytes (first i) (second i) (is i))))
    ∙ ap (λ o. not (is_none o) && is_none (option_and_then (λ to. closure_bytes copied args (pos to -ℤ pos (place + 4))) o)) found
