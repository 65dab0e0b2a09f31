-- The bytes of code of a text without fault are bytes.
use Rattle.std.proofs.Common.{◌≡◌, ℕ, ◌+◌, ◌/◌, ◌%◌, ◌<◌, ◌≤◌, Bool, true, false, List, [], ◌∷◌, Some, None, Option, refl, arith, if◌then◌else◌}
use Rattle.std.specs.Prelude.{ℤ, pos, negsuc, ◌-ℤ◌, find, option_and_then, unwrap_or, IfSome, ⊤}
use Rattle.std.specs.Option.{option_map_or}
use Rattle.std.specs.List.{AllByRecursion, before_first, position_or_len}
use Rattle.std.proofs.lemmas.List.Elements.{recursion_from_All}
use Rattle.cs_model.specs.declared.instruction.Op.{Op}
use Rattle.cs_model.specs.declared.instruction.Op.TheVariants as op
use Rattle.cs_model.specs.Assemble.{bytes_of, has_form}
use Rattle.cs_model.specs.Ref.{natural_of}
use Rattle.cs_model.specs.BuilderText as text
use Rattle.cs_model.specs.BuilderText.{Form, MethodLine}
use Rattle.cs_model.specs.BuilderFault.{byte_count, closure_bytes, code_from, first_bytes, form_bytes, is_between, is_end_line, is_in_range, jump_code, jump_op, label_place, line_bytes, method_fits, plain_bytes}
use Rattle.cs_model.specs.Builder.{body_behind, body_of, built_bytecodes, is_method_of, natural, primitive_bytes}
use Rattle.cs_model.proofs.Same.{all-append, all-take}
use Rattle.cs_decode.proofs.Assembled.{assembles}
use Rattle.cs_build.specs.Stored.{IsByte}
use Rattle.cs_build.specs.Judged.{IsJudged}
use Rattle.cs_build.proofs.Gathering.{all_if_some}
use Rattle.cs_build.proofs.Shaping.{OfBytes, then_any}
use Rattle.cs_build.proofs.Sounding.{and_true, natural_between}
use Rattle.cs_build.proofs.Totalling.{all_by_place}

-- ---- instructions

form_units : (len : ℕ) (o : Op) → IfSome (form_bytes len o) OfBytes
form_units len o = go (has_form len o) refl
  where
    go : (b : Bool) → has_form len o ≡ b → IfSome (if b then Some (bytes_of len o) else None) OfBytes
    go true e = recursion_from_All IsByte (bytes_of len o) (assembles len o e).are_bytes
    go false e = tt

plain_units : (instruction : Option Op) → IfSome (plain_bytes instruction) OfBytes
plain_units instruction = then_any OfBytes first_bytes instruction (λ o. then_any OfBytes (λ len. form_bytes len o) (find (λ len. has_form len o) (1 ∷ 2 ∷ 3 ∷ 4 ∷ [])) (λ len. form_units len o))

jump_units : (word : List ℕ) (offset : ℤ) → IfSome (jump_code word offset) OfBytes
jump_units word offset = then_any OfBytes (form_bytes 2) (jump_op word offset) (form_units 2)

closure_units : (copied args size : ℤ) → IfSome (closure_bytes copied args size) OfBytes
closure_units copied args size =
    then_any OfBytes (λ c. option_and_then (λ a. option_and_then (λ n. form_bytes 4 (op.Closure c a n)) (natural_of size)) (natural_of args)) (natural_of copied)
    (λ c. then_any OfBytes (λ a. option_and_then (λ n. form_bytes 4 (op.Closure c a n)) (natural_of size)) (natural_of args)
    (λ a. then_any OfBytes (λ n. form_bytes 4 (op.Closure c a n)) (natural_of size) (λ n. form_units 4 (op.Closure c a n))))

-- ---- lines

-- a byte of code that a line gives fits one
abbrev pub HasByte : Form → Type 0
HasByte (text.Byte value) = is_between 0 255 value ≡ true
HasByte form = ⊤

line_units : (body : List Form) (place : ℕ) (form : Form) → HasByte form → IfSome (line_bytes body place form) OfBytes
line_units body place (text.Byte (pos n)) h = let few : n ≤ 255 = natural_between 0 255 (pos n) h in (omega arith, tt)
line_units body place (text.Byte (negsuc n)) h = tt
line_units body place (text.Plain instruction) h = plain_units instruction
line_units body place (text.JumpTo word label) h = then_any OfBytes (λ to. jump_code word (pos to -ℤ pos (place + 2))) (label_place body label) (λ to. jump_units word (pos to -ℤ pos (place + 2)))
line_units body place (text.ClosureTo copied args label) h =
    then_any OfBytes (λ to. closure_bytes copied args (pos to -ℤ pos (place + 4))) (label_place body label) (λ to. closure_units copied args (pos to -ℤ pos (place + 4)))
line_units body place form h = tt

code_units : (body : List Form) (place : ℕ) (forms : List Form) → AllByRecursion HasByte forms → OfBytes (code_from body place forms)
code_units body place [] all = tt
code_units body place (form ∷ forms) all =
    all-append IsByte (unwrap_or (line_bytes body place form) []) (code_from body (place + byte_count form) forms)
    (all_if_some IsByte (line_bytes body place form) (line_units body place form all.0)) (code_units body (place + byte_count form) forms all.1)

-- ---- methods

-- what holds of each line of a text holds of those of a method
pub body_all : (P : Form → Type 0) (class selector : List ℕ) (forms : List Form) → AllByRecursion P forms → AllByRecursion P (body_behind class selector forms)
body_all P class selector [] all = tt
body_all P class selector (form ∷ forms) all = go (is_method_of class selector form) (body_all P class selector forms all.1)
  where
    go : (b : Bool) → AllByRecursion P (body_behind class selector forms) → AllByRecursion P (if b then before_first is_end_line forms else body_behind class selector forms)
    go true rest = all-take P (position_or_len is_end_line forms) forms all.1
    go false rest = rest

line_byte : (above : List Form) (form : Form) → is_in_range above form ≡ true → HasByte form
line_byte above (text.Byte value) e = e
line_byte above form e = tt

primitive_units : (primitive : Option ℤ) → option_map_or (is_between 0 65535) primitive true ≡ true → OfBytes (primitive_bytes primitive)
primitive_units None e = tt
primitive_units (Some number) e =
    let few : natural number ≤ 65535 = natural_between 0 65535 number e in
    let high : natural number / 256 < 256 = omega (arith, few) in
    let low : natural number % 256 < 256 = omega arith in
    (omega arith, (low, (high, tt)))

pub bytecodes_fit : (forms : List Form) (line : MethodLine) → IsJudged forms → method_fits line ≡ true → AllByRecursion IsByte (built_bytecodes forms line)
bytecodes_fit forms line judged fits =
    let lines : AllByRecursion HasByte forms = all_by_place HasByte forms (λ above form below e. line_byte above form (judged.lines above form below e).fits) in
    all-append IsByte (primitive_bytes line.primitive) (code_from (body_of forms line) 0 (body_of forms line))
    (primitive_units line.primitive (and_true _ (option_map_or (is_between 0 65535) line.primitive true) fits).1)
    (code_units (body_of forms line) 0 (body_of forms line) (body_all HasByte line.class line.selector forms lines))
