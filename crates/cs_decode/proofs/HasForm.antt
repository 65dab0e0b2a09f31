-- What is decoded comes in a form of its length.
use Rattle.std.proofs.Common.{◌≡◌, ℕ, ◌+◌, ◌*◌, ◌/◌, ◌%◌, ◌<◌, ◌≤◌, Bool, true, false, List, Option, Some, None, refl, arith, subst, inl, inr, ap, ◌∙◌, if◌then◌else◌, nat_lt, slice_index, All, option_map, length, nat_le}
use Rattle.std.proofs.lemmas.Grind.{common_steps}
use Rattle.std.proofs.lemmas.Int.{ints}
use Rattle.std.proofs.lemmas.List.{get_or_past}
use Rattle.std.proofs.lemmas.Bool.{cases_lt}
use Rattle.cs_model.specs.declared.instruction.Instr.{Instr}
use Rattle.cs_model.specs.declared.instruction.Op.{Op}
use Rattle.cs_model.specs.declared.instruction.Op.TheVariants.{Send, SendSuper, Prim, Closure}
use Rattle.cs_model.specs.Decode.{len_of, variable, constant, return_of, extended_push, extended_store, extended_pop, double_extended, array, extended, jump, send_op, op_of, decode_at}
use Rattle.cs_model.specs.Assemble.{has_form, IsInstr}
use Rattle.cs_decode.proofs.Table.{len_of-one, len_of-short_jump, len_of-long_jump, len_of-send}

-- an instruction of so many bytes, where there is one, comes in a form of that length
abbrev pub all_have_form : ℕ → Option Op → Bool
all_have_form len None = true
all_have_form len (Some op) = has_form len op

variable-has_form : (code : ℕ) → code < 112 → has_form 1 (variable code) ≡ true
variable-has_form code below = grind (arith, common_steps)

constant-has_form : (code : ℕ) → 112 ≤ code → code < 120 → has_form 1 (constant code) ≡ true
constant-has_form code above below = grind (arith, ints)

return_of-has_form : (code : ℕ) → has_form 1 (return_of code) ≡ true
return_of-has_form code = grind (arith, common_steps)

extended_push-has_form : (kind index : ℕ) → index < 64 → has_form 2 (extended_push kind index) ≡ true
extended_push-has_form kind index below = grind (arith, common_steps)

extended_store-has_form : (kind index : ℕ) → index < 64 → all_have_form 2 (extended_store kind index) ≡ true
extended_store-has_form kind index below = grind (arith, common_steps)

extended_pop-has_form : (kind index : ℕ) → index < 64 → all_have_form 2 (extended_pop kind index) ≡ true
extended_pop-has_form kind index below = grind (arith, common_steps)

double_extended-has_form : (operation args index : ℕ) → args < 32 → index < 256 → has_form 3 (double_extended operation args index) ≡ true
double_extended-has_form operation args index args_below index_below = grind (arith, common_steps)

array-has_form : (b : ℕ) → b < 256 → has_form 2 (array b) ≡ true
array-has_form b below = grind (arith, common_steps)

short_jump-has_form : (code b : ℕ) → 144 ≤ code → code < 160 → has_form 1 (jump code b) ≡ true
short_jump-has_form code b above below = grind (arith, ints)

long_jump-has_form : (code b : ℕ) → 160 ≤ code → code < 176 → b < 256 → has_form 2 (jump code b) ≡ true
long_jump-has_form code b above below b_below = grind (arith, ints)

send-has_form : (code : ℕ) → 176 ≤ code → code < 256 → has_form 1 (send_op code) ≡ true
send-has_form code above below = grind (arith, common_steps)

-- a number from k on is k, or from k + 1 on
at_or_above : (P : ℕ → Type 0) (k n : ℕ) → P k → (k + 1 ≤ n → P n) → k ≤ n → P n
at_or_above P k n here above from_k = elim (cases_lt k n) [
  | inl more ↦ above (omega arith)
  | inr same ↦ let equal : k ≡ n = omega arith in subst P equal here
]

send_extended-has_form : (b : ℕ) → b < 256 → has_form 2 (Send (b % 32) (b / 32)) ≡ true
send_extended-has_form b below = grind arith

super_extended-has_form : (b : ℕ) → b < 256 → has_form 2 (SendSuper (b % 32) (b / 32)) ≡ true
super_extended-has_form b below = grind arith

second_extended-has_form : (b : ℕ) → b < 256 → has_form 2 (Send (b % 64) (b / 64)) ≡ true
second_extended-has_form b below = grind arith

prim-has_form : (b c : ℕ) → b < 256 → c < 256 → has_form 3 (Prim b c) ≡ true
prim-has_form b c b_below c_below = grind arith

closure-has_form : (b c d : ℕ) → b < 256 → c < 256 → d < 256 → has_form 4 (Closure (b / 16) (b % 16) (256 * c + d)) ≡ true
closure-has_form b c d b_below c_below d_below = grind arith

extended-has_form :
    (code b c d : ℕ) → 128 ≤ code → code < 144 → b < 256 → c < 256 → d < 256 → all_have_form (len_of code) (extended code b c d) ≡ true
extended-has_form code b c d above below b_below c_below d_below =
    let P : ℕ → Type 0 = λ n. all_have_form (len_of n) (extended n b c d) ≡ true in
    let index : b % 64 < 64 = omega arith in
    let bits : b % 32 < 32 = omega arith in
    let two_bytes = prim-has_form b c b_below c_below in
    at_or_above P 128 code (extended_push-has_form (b / 64) (b % 64) index)
    (at_or_above P 129 code (extended_store-has_form (b / 64) (b % 64) index)
    (at_or_above P 130 code (extended_pop-has_form (b / 64) (b % 64) index)
    (at_or_above P 131 code (send_extended-has_form b b_below)
    (at_or_above P 132 code (double_extended-has_form (b / 32) (b % 32) c bits c_below)
    (at_or_above P 133 code (super_extended-has_form b b_below)
    (at_or_above P 134 code (second_extended-has_form b b_below)
    (at_or_above P 135 code refl
    (at_or_above P 136 code refl
    (at_or_above P 137 code refl
    (at_or_above P 138 code (array-has_form b b_below)
    (at_or_above P 139 code two_bytes
    (at_or_above P 140 code two_bytes
    (at_or_above P 141 code two_bytes
    (at_or_above P 142 code two_bytes
    (at_or_above P 143 code (closure-has_form b c d b_below c_below d_below)
    (λ past. absurd (omega arith))))))))))))))))) above

-- a form of one length is a form of an equal one
same-has_form : (n len : ℕ) (op : Op) → len ≡ n → has_form n op ≡ true → has_form len op ≡ true
same-has_form n len op same form = ap (λ k. has_form k op) same ∙ form

jump_row : (code b : ℕ) → 144 ≤ code → code < 176 → b < 256 → has_form (len_of code) (jump code b) ≡ true
jump_row code b above below b_below = elim (cases_lt code 160) [
  | inl low ↦ same-has_form 1 (len_of code) (jump code b) (len_of-short_jump code above low) (short_jump-has_form code b above low)
  | inr high ↦
      same-has_form 2 (len_of code) (jump code b) (len_of-long_jump code high below) (long_jump-has_form code b high below b_below)
]

-- a test splits a table in two
below-has_form :
    (len code k : ℕ) (x y : Option Op) → (code < k → all_have_form len x ≡ true) → (k ≤ code → all_have_form len y ≡ true)
    → all_have_form len (if nat_lt code k then x else y) ≡ true
below-has_form len code k x y low high = elim (cases_lt code k) [
  | inl below ↦ let test : nat_lt code k ≡ true = grind arith in rw test (low below)
  | inr above ↦ let test : nat_lt code k ≡ false = grind arith in rw test (high above)
]

pub op_of-has_form : (code b c d : ℕ) → code < 256 → b < 256 → c < 256 → d < 256 → all_have_form (len_of code) (op_of code b c d) ≡ true
op_of-has_form code b c d below b_below c_below d_below =
    let len = len_of code in
    below-has_form len code 112 _ _
    (λ low. same-has_form 1 len (variable code) (len_of-one code (omega arith)) (variable-has_form code low))
    (λ from_112. below-has_form len code 120 _ _
    (λ low. same-has_form 1 len (constant code) (len_of-one code (omega arith)) (constant-has_form code from_112 low))
    (λ from_120. below-has_form len code 126 _ _
    (λ low. same-has_form 1 len (return_of code) (len_of-one code (omega arith)) (return_of-has_form code))
    (λ from_126. below-has_form len code 128 _ _
    (λ low. refl)
    (λ from_128. below-has_form len code 144 _ _
    (λ low. extended-has_form code b c d from_128 low b_below c_below d_below)
    (λ from_144. below-has_form len code 176 _ _
    (λ low. jump_row code b from_144 low b_below)
    (λ from_176. same-has_form 1 len (send_op code) (len_of-send code from_176) (send-has_form code from_176 below)))))))

-- bytes are below 256, and behind the end there is 0
slice_index-byte : (bytes : List ℕ) (i : ℕ) → All (λ b. b < 256) bytes → slice_index bytes i < 256
slice_index-byte bytes i are_bytes = elim (cases_lt i (length bytes)) [
  | inl within ↦ are_bytes i 0 within
  | inr past ↦ rw get_or_past (omega arith)
]

-- what decodes comes in a form of its length
decoded-has_form :
    (len : ℕ) (enough : Bool) (o : Option Op) (i : Instr) → all_have_form len o ≡ true
    → (if enough then option_map (λ op. record { op = op; len = len }) o else None) ≡ Some i → has_form i.len i.op ≡ true
decoded-has_form len true (Some op) i form decoded =
    let same : record { op = op; len = len } ≡ i = cc in subst (λ (j : Instr). has_form j.len j.op ≡ true) same form
decoded-has_form len true None i form decoded = absurd (cc)
decoded-has_form len false o i form decoded = absurd (cc)

pub IsInstr-has_form : (i : Instr) → IsInstr i → has_form i.len i.op ≡ true
unfolding decode_at
IsInstr-has_form i instr =
    let bytes = instr.bytes in
    let at = instr.at in
    let byte = λ (k : ℕ). slice_index-byte bytes k instr.are_bytes in
    let code = slice_index bytes at in
    decoded-has_form (len_of code) (nat_le (at + len_of code) (length bytes)) _ i
    (op_of-has_form code _ _ _ (byte at) (byte (at + 1)) (byte (at + 2)) (byte (at + 3))) instr.decoded
