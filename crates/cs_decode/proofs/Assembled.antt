-- What is assembled decodes to the instruction that it was.
use Rattle.std.proofs.Common.{◌≡◌, ℕ, ◌+◌, ◌*◌, ◌/◌, ◌%◌, ◌<◌, ◌≤◌, ℤ, pos, negsuc, ◌+ℤ◌, Bool, true, false, List, [], ◌∷◌, Some, refl, arith, inl, inr, ap, ap₂, ◌∙◌, nat_lt, subst, sym, All, length, zero, suc, if◌then◌else◌, nat_eq}
use Rattle.std.specs.Prelude.{◌==◌, ◌&&◌, ◌||◌, ◌-ℤ◌, ◌*ℤ◌}
use Rattle.std.specs.Int.RustNames.{unsigned_abs}
use Rattle.std.proofs.lemmas.Int.{ints}
use Rattle.std.proofs.lemmas.Bool.{cases_eq}
use Rattle.cs_model.specs.declared.instruction.Instr.{Instr}
use Rattle.cs_model.specs.declared.instruction.Op.{Op}
use Rattle.cs_model.specs.declared.instruction.Op.TheVariants.{PushRcvr, PushTemp, PushLit, PushLitVar, PopRcvr, PopTemp, PopLitVar, StoreRcvr, StoreTemp, StoreLitVar, PushSelf, PushTrue, PushFalse, PushNil, PushInt, ReturnSelf, ReturnTrue, ReturnFalse, ReturnNil, ReturnTop, BlockReturn, Send, SendSuper, Pop, Dup, ThisContext, NewArray, PopArray, Prim, PushVec, StoreVec, PopVec, Closure, Jump, JumpTrue, JumpFalse, Special, Common}
use Rattle.cs_model.specs.Decode.{len_of, variable, extended_push, extended_store, extended_pop, double_extended, array, jump, send_op, op_of, decode_at}
use Rattle.cs_model.specs.Assemble.{has_form, fits_within, is_within, variable_bytes, send_bytes, super_bytes, with_number, jump_bytes, jump_false_bytes, plain_code, bytes_of, assembled, IsInstr}
use Rattle.cs_decode.proofs.Table.{len_of-one, len_of-short_jump, len_of-long_jump, len_of-send, op_of-variable, op_of-jump, op_of-send}

-- ---- decoding by one row

-- these bytes are the instruction, all of it
pub record Assembles (bytes : List ℕ) (op : Op) (len : ℕ) : Type 0 where
  pub decoded : decode_at bytes 0 ≡ Some (record { op = op; len = len })
  pub length : length bytes ≡ len
  pub are_bytes : All (λ b. b < 256) bytes

no_bytes : All (λ b. b < 256) []
no_bytes k d within = absurd (omega (arith, within))

and_byte : (b : ℕ) (rest : List ℕ) → b < 256 → All (λ b. b < 256) rest → All (λ b. b < 256) (b ∷ rest)
and_byte b rest below bytes zero d within = below
and_byte b rest below bytes (suc k) d within = bytes k d (omega (arith, within))

one_byte : (a : ℕ) (op : Op) → a < 256 → len_of a ≡ 1 → op_of a 0 0 0 ≡ Some op → Assembles (a ∷ []) op 1
unfolding decode_at
one_byte a op a_below len row = record { decoded = rw (len, row); length = refl; are_bytes = and_byte a [] a_below no_bytes }

two_bytes : (a b : ℕ) (op : Op) → a < 256 → b < 256 → len_of a ≡ 2 → op_of a b 0 0 ≡ Some op → Assembles (a ∷ b ∷ []) op 2
unfolding decode_at
two_bytes a b op a_below b_below len row = record {
  decoded = rw (len, row);
  length = refl;
  are_bytes = and_byte a (b ∷ []) a_below (and_byte b [] b_below no_bytes);
}

three_bytes :
    (a b c : ℕ) (op : Op) → a < 256 → b < 256 → c < 256 → len_of a ≡ 3 → op_of a b c 0 ≡ Some op → Assembles (a ∷ b ∷ c ∷ []) op 3
unfolding decode_at
three_bytes a b c op a_below b_below c_below len row = record {
  decoded = rw (len, row);
  length = refl;
  are_bytes = and_byte a (b ∷ c ∷ []) a_below (and_byte b (c ∷ []) b_below (and_byte c [] c_below no_bytes));
}

four_bytes :
    (a b c d : ℕ) (op : Op) → a < 256 → b < 256 → c < 256 → d < 256 → len_of a ≡ 4 → op_of a b c d ≡ Some op
    → Assembles (a ∷ b ∷ c ∷ d ∷ []) op 4
unfolding decode_at
four_bytes a b c d op a_below b_below c_below d_below len row = record {
  decoded = rw (len, row);
  length = refl;
  are_bytes = and_byte a (b ∷ c ∷ d ∷ []) a_below (and_byte b (c ∷ d ∷ []) b_below (and_byte c (d ∷ []) c_below (and_byte d [] d_below no_bytes)));
}

-- ---- a byte of two numbers

parts_16 : {A : Type 0} (f : ℕ → ℕ → A) (high low : ℕ) → low < 16 → f ((16 * high + low) / 16) ((16 * high + low) % 16) ≡ f high low
parts_16 f high low below =
    let first : (16 * high + low) / 16 ≡ high = omega arith in
    let second : (16 * high + low) % 16 ≡ low = omega arith in
    ap₂ f first second

parts_32 : {A : Type 0} (f : ℕ → ℕ → A) (high low : ℕ) → low < 32 → f ((32 * high + low) / 32) ((32 * high + low) % 32) ≡ f high low
parts_32 f high low below =
    let first : (32 * high + low) / 32 ≡ high = omega arith in
    let second : (32 * high + low) % 32 ≡ low = omega arith in
    ap₂ f first second

parts_64 : {A : Type 0} (f : ℕ → ℕ → A) (high low : ℕ) → low < 64 → f ((64 * high + low) / 64) ((64 * high + low) % 64) ≡ f high low
parts_64 f high low below =
    let first : (64 * high + low) / 64 ≡ high = omega arith in
    let second : (64 * high + low) % 64 ≡ low = omega arith in
    ap₂ f first second

parts_256 : {A : Type 0} (f : ℕ → ℕ → A) (high low : ℕ) → low < 256 → f ((256 * high + low) / 256) ((256 * high + low) % 256) ≡ f high low
parts_256 f high low below =
    let first : (256 * high + low) / 256 ≡ high = omega arith in
    let second : (256 * high + low) % 256 ≡ low = omega arith in
    ap₂ f first second

-- ---- variables

fits_within-cases :
    (one two three len index : ℕ) (P : ℕ → Type 0) → (index < one → P 1) → (index < two → P 2) → (index < three → P 3)
    → fits_within one two three len index ≡ true → P len
fits_within-cases one two three len index P at_one at_two at_three fits = elim (cases_eq len 1) [
  | inl is_one ↦ subst P (sym is_one) (at_one (grind arith))
  | inr not_one ↦ elim (cases_eq len 2) [
    | inl is_two ↦ subst P (sym is_two) (at_two (grind arith))
    | inr not_two ↦ let is_three : len ≡ 3 = grind arith in subst P (sym is_three) (at_three (grind arith))
  ]
]

variable_byte : (code : ℕ) (op : Op) → code < 112 → variable code ≡ op → Assembles (code ∷ []) op 1
variable_byte code op below row =
    one_byte code op (omega arith) (len_of-one code (omega arith)) (op_of-variable code 0 0 0 below ∙ ap Some row)

PushRcvr-assembles : (len n : ℕ) → has_form len (PushRcvr n) ≡ true → Assembles (bytes_of len (PushRcvr n)) (PushRcvr n) len
PushRcvr-assembles len n form =
    fits_within-cases 16 64 256 len n (λ k. Assembles (variable_bytes 0 128 0 2 k n) (PushRcvr n) k)
    (λ h. variable_byte (0 + n) (PushRcvr n) (omega arith) (grind arith))
    (λ h. two_bytes 128 (64 * 0 + n) (PushRcvr n) (omega arith) (omega arith) refl (ap Some (parts_64 extended_push 0 n h)))
    (λ h. three_bytes 132 64 n (PushRcvr n) (omega arith) (omega arith) (omega arith) refl refl)
    form

PushTemp-assembles : (len n : ℕ) → has_form len (PushTemp n) ≡ true → Assembles (bytes_of len (PushTemp n)) (PushTemp n) len
PushTemp-assembles len n form =
    fits_within-cases 16 64 0 len n (λ k. Assembles (variable_bytes 16 128 1 0 k n) (PushTemp n) k)
    (λ h. variable_byte (16 + n) (PushTemp n) (omega arith) (grind arith))
    (λ h. two_bytes 128 (64 * 1 + n) (PushTemp n) (omega arith) (omega arith) refl (ap Some (parts_64 extended_push 1 n h)))
    (λ h. absurd (omega arith))
    form

PushLit-assembles : (len n : ℕ) → has_form len (PushLit n) ≡ true → Assembles (bytes_of len (PushLit n)) (PushLit n) len
PushLit-assembles len n form =
    fits_within-cases 32 64 256 len n (λ k. Assembles (variable_bytes 32 128 2 3 k n) (PushLit n) k)
    (λ h. variable_byte (32 + n) (PushLit n) (omega arith) (grind arith))
    (λ h. two_bytes 128 (64 * 2 + n) (PushLit n) (omega arith) (omega arith) refl (ap Some (parts_64 extended_push 2 n h)))
    (λ h. three_bytes 132 96 n (PushLit n) (omega arith) (omega arith) (omega arith) refl refl)
    form

PushLitVar-assembles : (len n : ℕ) → has_form len (PushLitVar n) ≡ true → Assembles (bytes_of len (PushLitVar n)) (PushLitVar n) len
PushLitVar-assembles len n form =
    fits_within-cases 32 64 256 len n (λ k. Assembles (variable_bytes 64 128 3 4 k n) (PushLitVar n) k)
    (λ h. variable_byte (64 + n) (PushLitVar n) (omega arith) (grind arith))
    (λ h. two_bytes 128 (64 * 3 + n) (PushLitVar n) (omega arith) (omega arith) refl (ap Some (parts_64 extended_push 3 n h)))
    (λ h. three_bytes 132 128 n (PushLitVar n) (omega arith) (omega arith) (omega arith) refl refl)
    form

PopRcvr-assembles : (len n : ℕ) → has_form len (PopRcvr n) ≡ true → Assembles (bytes_of len (PopRcvr n)) (PopRcvr n) len
PopRcvr-assembles len n form =
    fits_within-cases 8 64 256 len n (λ k. Assembles (variable_bytes 96 130 0 6 k n) (PopRcvr n) k)
    (λ h. variable_byte (96 + n) (PopRcvr n) (omega arith) (grind arith))
    (λ h. two_bytes 130 (64 * 0 + n) (PopRcvr n) (omega arith) (omega arith) refl (parts_64 extended_pop 0 n h))
    (λ h. three_bytes 132 192 n (PopRcvr n) (omega arith) (omega arith) (omega arith) refl refl)
    form

PopTemp-assembles : (len n : ℕ) → has_form len (PopTemp n) ≡ true → Assembles (bytes_of len (PopTemp n)) (PopTemp n) len
PopTemp-assembles len n form =
    fits_within-cases 8 64 0 len n (λ k. Assembles (variable_bytes 104 130 1 0 k n) (PopTemp n) k)
    (λ h. variable_byte (104 + n) (PopTemp n) (omega arith) (grind arith))
    (λ h. two_bytes 130 (64 * 1 + n) (PopTemp n) (omega arith) (omega arith) refl (parts_64 extended_pop 1 n h))
    (λ h. absurd (omega arith))
    form

PopLitVar-assembles : (len n : ℕ) → has_form len (PopLitVar n) ≡ true → Assembles (bytes_of len (PopLitVar n)) (PopLitVar n) len
PopLitVar-assembles len n form =
    fits_within-cases 0 64 0 len n (λ k. Assembles (variable_bytes 0 130 3 0 k n) (PopLitVar n) k)
    (λ h. absurd (omega arith))
    (λ h. two_bytes 130 (64 * 3 + n) (PopLitVar n) (omega arith) (omega arith) refl (parts_64 extended_pop 3 n h))
    (λ h. absurd (omega arith))
    form

StoreRcvr-assembles : (len n : ℕ) → has_form len (StoreRcvr n) ≡ true → Assembles (bytes_of len (StoreRcvr n)) (StoreRcvr n) len
StoreRcvr-assembles len n form =
    fits_within-cases 0 64 256 len n (λ k. Assembles (variable_bytes 0 129 0 5 k n) (StoreRcvr n) k)
    (λ h. absurd (omega arith))
    (λ h. two_bytes 129 (64 * 0 + n) (StoreRcvr n) (omega arith) (omega arith) refl (parts_64 extended_store 0 n h))
    (λ h. three_bytes 132 160 n (StoreRcvr n) (omega arith) (omega arith) (omega arith) refl refl)
    form

StoreTemp-assembles : (len n : ℕ) → has_form len (StoreTemp n) ≡ true → Assembles (bytes_of len (StoreTemp n)) (StoreTemp n) len
StoreTemp-assembles len n form =
    fits_within-cases 0 64 0 len n (λ k. Assembles (variable_bytes 0 129 1 0 k n) (StoreTemp n) k)
    (λ h. absurd (omega arith))
    (λ h. two_bytes 129 (64 * 1 + n) (StoreTemp n) (omega arith) (omega arith) refl (parts_64 extended_store 1 n h))
    (λ h. absurd (omega arith))
    form

StoreLitVar-assembles : (len n : ℕ) → has_form len (StoreLitVar n) ≡ true → Assembles (bytes_of len (StoreLitVar n)) (StoreLitVar n) len
StoreLitVar-assembles len n form =
    fits_within-cases 0 64 256 len n (λ k. Assembles (variable_bytes 0 129 3 7 k n) (StoreLitVar n) k)
    (λ h. absurd (omega arith))
    (λ h. two_bytes 129 (64 * 3 + n) (StoreLitVar n) (omega arith) (omega arith) refl (parts_64 extended_store 3 n h))
    (λ h. three_bytes 132 224 n (StoreLitVar n) (omega arith) (omega arith) (omega arith) refl refl)
    form

-- ---- sends

send_byte : (lit args : ℕ) → lit < 16 → args < 3 → Assembles (send_bytes 1 lit args) (Send lit args) 1
send_byte lit args lit_below args_below =
    let code = 208 + 16 * args + lit in
    let row : send_op code ≡ Send lit args = grind arith in
    one_byte code (Send lit args) (omega arith) (len_of-send code (omega arith)) (op_of-send code 0 0 0 (omega arith) ∙ ap Some row)

send_two_bytes : (lit args : ℕ) → lit < 32 → args < 8 → Assembles (131 ∷ (32 * args + lit) ∷ []) (Send lit args) 2
send_two_bytes lit args lit_below args_below =
    two_bytes 131 (32 * args + lit) (Send lit args) (omega arith) (omega arith) refl (parts_32 (λ a l. Some (Send l a)) args lit lit_below)

second_send_two_bytes : (lit args : ℕ) → lit < 64 → args < 4 → Assembles (134 ∷ (64 * args + lit) ∷ []) (Send lit args) 2
second_send_two_bytes lit args lit_below args_below =
    two_bytes 134 (64 * args + lit) (Send lit args) (omega arith) (omega arith) refl (parts_64 (λ a l. Some (Send l a)) args lit lit_below)

send_three_bytes : (lit args : ℕ) → lit < 256 → args < 32 → Assembles (132 ∷ args ∷ lit ∷ []) (Send lit args) 3
send_three_bytes lit args lit_below args_below =
    three_bytes 132 args lit (Send lit args) (omega arith) (omega arith) lit_below refl
    (let operation : args / 32 ≡ 0 = omega arith in
    let rest : args % 32 ≡ args = omega arith in
    ap₂ (λ o a. Some (double_extended o a lit)) operation rest)

super_two_bytes : (lit args : ℕ) → lit < 32 → args < 8 → Assembles (133 ∷ (32 * args + lit) ∷ []) (SendSuper lit args) 2
super_two_bytes lit args lit_below args_below =
    two_bytes 133 (32 * args + lit) (SendSuper lit args) (omega arith) (omega arith) refl
    (parts_32 (λ a l. Some (SendSuper l a)) args lit lit_below)

super_three_bytes : (lit args : ℕ) → lit < 256 → args < 32 → Assembles (132 ∷ (32 + args) ∷ lit ∷ []) (SendSuper lit args) 3
super_three_bytes lit args lit_below args_below =
    three_bytes 132 (32 + args) lit (SendSuper lit args) (omega arith) (omega arith) lit_below refl
    (parts_32 (λ o a. Some (double_extended o a lit)) 1 args args_below)

-- ---- tests taken apart

both_below : (m k n l : ℕ) → (nat_lt m k && nat_lt n l) ≡ true → (m < k) × (n < l)
both_below m k n l test = (grind arith, grind arith)

-- an instruction that has one length alone
at_length : (k : ℕ) (rest : Bool) (P : ℕ → Type 0) (len : ℕ) → (rest ≡ true → P k) → (len == k && rest) ≡ true → P len
at_length k rest P len here form = elim (cases_eq len k) [
  | inl same ↦ let left : rest ≡ true = grind arith in subst P (sym same) (here left)
  | inr other ↦ let no : nat_eq len k ≡ false = grind arith in absurd (grind arith)
]

either :
    (t u : Bool) (x y : List ℕ) (op : Op) (len : ℕ) → (t ≡ true → Assembles x op len) → (u ≡ true → Assembles y op len)
    → (t || u) ≡ true → Assembles (if t then x else y) op len
either true u x y op len first second test = first refl
either false true x y op len first second test = second refl
either false false x y op len first second test = absurd (cc)

-- what has a form of one byte, a form of another length, or none
by_length :
    (k : ℕ) (one other : Bool) (P : ℕ → Type 0) (len : ℕ) → (one ≡ true → P k) → (other ≡ true → P len)
    → (if len == k then one else other) ≡ true → P len
by_length k one other P len at_k elsewhere form = elim (cases_eq len k) [
  | inl same ↦ let left : one ≡ true = grind arith in subst P (sym same) (at_k left)
  | inr apart ↦ let left : other ≡ true = grind arith in elsewhere left
]

Send-assembles : (len lit args : ℕ) → has_form len (Send lit args) ≡ true → Assembles (bytes_of len (Send lit args)) (Send lit args) len
Send-assembles len lit args form =
    let P : ℕ → Type 0 = λ k. Assembles (send_bytes k lit args) (Send lit args) k in
    by_length 1 _ _ P len
    (λ one. let below = both_below lit 16 args 3 one in send_byte lit args below.0 below.1)
    (λ longer. by_length 2 _ _ P len
    (λ two. either (nat_lt lit 32 && nat_lt args 8) (nat_lt lit 64 && nat_lt args 4) _ _ (Send lit args) 2
    (λ first. let below = both_below lit 32 args 8 first in send_two_bytes lit args below.0 below.1)
    (λ second. let below = both_below lit 64 args 4 second in second_send_two_bytes lit args below.0 below.1) two)
    (λ three. at_length 3 (nat_lt lit 256 && nat_lt args 32) P len
    (λ both. let below = both_below lit 256 args 32 both in send_three_bytes lit args below.0 below.1) three)
    longer) form

SendSuper-assembles :
    (len lit args : ℕ) → has_form len (SendSuper lit args) ≡ true → Assembles (bytes_of len (SendSuper lit args)) (SendSuper lit args) len
SendSuper-assembles len lit args form =
    let P : ℕ → Type 0 = λ k. Assembles (super_bytes k lit args) (SendSuper lit args) k in
    by_length 2 _ _ P len
    (λ two. let below = both_below lit 32 args 8 two in super_two_bytes lit args below.0 below.1)
    (λ three. at_length 3 (nat_lt lit 256 && nat_lt args 32) P len
    (λ both. let below = both_below lit 256 args 32 both in super_three_bytes lit args below.0 below.1) three) form

-- ---- jumps

short_jump_byte : (z : ℤ) → is_within (pos 1) (pos 9) z ≡ true → Assembles ((143 + unsigned_abs z) ∷ []) (Jump z) 1
short_jump_byte (pos n) within =
    let above : 0 < n = grind (arith, ints) in
    let below : n < 9 = grind (arith, ints) in
    let row : jump (143 + n) 0 ≡ Jump (pos n) = grind arith in
    one_byte (143 + n) (Jump (pos n)) (omega arith) (len_of-short_jump (143 + n) (omega arith) (omega arith))
    (op_of-jump (143 + n) 0 0 0 (omega arith) (omega arith) ∙ ap Some row)
short_jump_byte (negsuc n) within = absurd (grind (arith, ints))

numbered : (code n : ℕ) (op : Op) → 160 ≤ code → code + n / 256 < 176 → jump (code + n / 256) (n % 256) ≡ op → Assembles (with_number code n) op 2
numbered code n op above below row =
    two_bytes (code + n / 256) (n % 256) op (omega arith) (omega arith) (len_of-long_jump (code + n / 256) (omega arith) below)
    (op_of-jump (code + n / 256) (n % 256) 0 0 (omega arith) below ∙ ap Some row)

jump-number : (m : ℕ) → m < 2048 → jump (160 + m / 256) (m % 256) ≡ Jump (pos m -ℤ pos 1024)
jump-number m below =
    let code = 160 + m / 256 in
    let to_152 : nat_lt (160 + m / 256) 152 ≡ false = grind arith in
    let to_160 : nat_lt (160 + m / 256) 160 ≡ false = grind arith in
    let to_168 : nat_lt (160 + m / 256) 168 ≡ true = grind arith in
    let value : (pos (160 + m / 256) -ℤ pos 164) *ℤ pos 256 +ℤ pos (m % 256) ≡ pos m -ℤ pos 1024 = omega (arith, ints) in
    rw (to_152, to_160, to_168) (ap Jump value)

above_low : (z : ℤ) → is_within (negsuc 1023) (pos 1024) z ≡ true → unsigned_abs (z +ℤ pos 1024) < 2048
above_low z within = grind (arith, ints)

above_low-value : (z : ℤ) → is_within (negsuc 1023) (pos 1024) z ≡ true → pos (unsigned_abs (z +ℤ pos 1024)) -ℤ pos 1024 ≡ z
above_low-value z within = grind (arith, ints)

long_jump_bytes : (z : ℤ) → is_within (negsuc 1023) (pos 1024) z ≡ true → Assembles (with_number 160 (unsigned_abs (z +ℤ pos 1024))) (Jump z) 2
long_jump_bytes z within =
    let m = unsigned_abs (z +ℤ pos 1024) in
    let below : unsigned_abs (z +ℤ pos 1024) < 2048 = above_low z within in
    numbered 160 m (Jump z) (omega arith) (omega arith) (jump-number m below ∙ ap Jump (above_low-value z within))

jump_true_bytes : (n : ℕ) → n < 1024 → Assembles (with_number 168 n) (JumpTrue n) 2
jump_true_bytes n below =
    let row : jump (168 + n / 256) (n % 256) ≡ JumpTrue n = grind arith in numbered 168 n (JumpTrue n) (omega arith) (omega arith) row

jump_false_number : (n : ℕ) → n < 1024 → Assembles (with_number 172 n) (JumpFalse n) 2
jump_false_number n below =
    let row : jump (172 + n / 256) (n % 256) ≡ JumpFalse n = grind arith in numbered 172 n (JumpFalse n) (omega arith) (omega arith) row

jump_false_byte : (n : ℕ) → 0 < n → n < 9 → Assembles ((151 + n) ∷ []) (JumpFalse n) 1
jump_false_byte n above below =
    let row : jump (151 + n) 0 ≡ JumpFalse n = grind arith in
    one_byte (151 + n) (JumpFalse n) (omega arith) (len_of-short_jump (151 + n) (omega arith) (omega arith))
    (op_of-jump (151 + n) 0 0 0 (omega arith) (omega arith) ∙ ap Some row)

Jump-assembles : (len : ℕ) (z : ℤ) → has_form len (Jump z) ≡ true → Assembles (bytes_of len (Jump z)) (Jump z) len
Jump-assembles len z form =
    let P : ℕ → Type 0 = λ k. Assembles (jump_bytes k z) (Jump z) k in
    by_length 1 (is_within (pos 1) (pos 9) z) _ P len (short_jump_byte z)
    (λ two. at_length 2 (is_within (negsuc 1023) (pos 1024) z) P len (long_jump_bytes z) two) form

JumpFalse-assembles : (len n : ℕ) → has_form len (JumpFalse n) ≡ true → Assembles (bytes_of len (JumpFalse n)) (JumpFalse n) len
JumpFalse-assembles len n form =
    let P : ℕ → Type 0 = λ k. Assembles (jump_false_bytes k n) (JumpFalse n) k in
    by_length 1 (nat_lt 0 n && nat_lt n 9) _ P len
    (λ one. let below = both_below 0 n n 9 one in jump_false_byte n below.0 below.1)
    (λ two. at_length 2 (nat_lt n 1024) P len (λ below. jump_false_number n (grind arith)) two) form

-- ---- the others

push_int_byte : (z : ℤ) → is_within (negsuc 0) (pos 3) z ≡ true → Assembles (unsigned_abs (z +ℤ pos 117) ∷ []) (PushInt z) 1
push_int_byte (pos zero) within = one_byte 117 (PushInt (pos 0)) (omega arith) refl refl
push_int_byte (pos (suc zero)) within = one_byte 118 (PushInt (pos 1)) (omega arith) refl refl
push_int_byte (pos (suc (suc zero))) within = one_byte 119 (PushInt (pos 2)) (omega arith) refl refl
push_int_byte (pos (suc (suc (suc n)))) within = absurd (grind (arith, ints))
push_int_byte (negsuc zero) within = one_byte 116 (PushInt (negsuc 0)) (omega arith) refl refl
push_int_byte (negsuc (suc n)) within = absurd (grind (arith, ints))

new_array_bytes : (n : ℕ) → n < 128 → Assembles (138 ∷ n ∷ []) (NewArray n) 2
new_array_bytes n below =
    let row : array n ≡ NewArray n = grind arith in two_bytes 138 n (NewArray n) (omega arith) (omega arith) refl (ap Some row)

pop_array_bytes : (n : ℕ) → n < 128 → Assembles (138 ∷ (128 + n) ∷ []) (PopArray n) 2
pop_array_bytes n below =
    let row : array (128 + n) ≡ PopArray n = grind arith in
    two_bytes 138 (128 + n) (PopArray n) (omega arith) (omega arith) refl (ap Some row)

closure_bytes :
    (copied args size : ℕ) → copied < 16 → args < 16 → size < 65536
    → Assembles (143 ∷ (16 * copied + args) ∷ (size / 256) ∷ (size % 256) ∷ []) (Closure copied args size) 4
closure_bytes copied args size copied_below args_below size_below =
    let whole : 256 * (size / 256) + size % 256 ≡ size = omega arith in
    four_bytes 143 (16 * copied + args) (size / 256) (size % 256) (Closure copied args size) (omega arith) (omega arith) (omega arith) (omega arith)
    refl (parts_16 (λ c a. Some (Closure c a (256 * (size / 256) + size % 256))) copied args args_below ∙ ap (λ s. Some (Closure copied args s)) whole)

special_byte : (i : ℕ) → i < 16 → Assembles ((176 + i) ∷ []) (Special i) 1
special_byte i below =
    let row : send_op (176 + i) ≡ Special i = grind arith in
    one_byte (176 + i) (Special i) (omega arith) (len_of-send (176 + i) (omega arith)) (op_of-send (176 + i) 0 0 0 (omega arith) ∙ ap Some row)

common_byte : (i : ℕ) → i < 16 → Assembles ((192 + i) ∷ []) (Common i) 1
common_byte i below =
    let row : send_op (192 + i) ≡ Common i = grind arith in
    one_byte (192 + i) (Common i) (omega arith) (len_of-send (192 + i) (omega arith)) (op_of-send (192 + i) 0 0 0 (omega arith) ∙ ap Some row)

three_below : (a b c i j k : ℕ) → (nat_lt a i && (nat_lt b j && nat_lt c k)) ≡ true → (a < i) × (b < j) × (c < k)
three_below a b c i j k test = (grind arith, grind arith, grind arith)

Closure-assembles :
    (len copied args size : ℕ) → has_form len (Closure copied args size) ≡ true
    → Assembles (bytes_of len (Closure copied args size)) (Closure copied args size) len
Closure-assembles len copied args size form =
    at_length 4 (nat_lt copied 16 && (nat_lt args 16 && nat_lt size 65536))
    (Assembles (bytes_of len (Closure copied args size)) (Closure copied args size)) len
    (λ all. let below = three_below copied args size 16 16 65536 all in closure_bytes copied args size below.0 below.1 below.2) form

is_one : (len : ℕ) → (len == 1) ≡ true → 1 ≡ len
is_one len test = grind arith

-- an instruction without numbers
plain : (op : Op) (len : ℕ) → len_of (plain_code op) ≡ 1 → op_of (plain_code op) 0 0 0 ≡ Some op → plain_code op < 256 → (len == 1) ≡ true → Assembles (plain_code op ∷ []) op len
plain op len one row below test =
    let same : 1 ≡ len = is_one len test in subst (λ k. Assembles (plain_code op ∷ []) op k) same (one_byte (plain_code op) op below one row)

-- each instruction that comes in a form of its length assembles to bytes that are it
pub assembles : (len : ℕ) (op : Op) → has_form len op ≡ true → Assembles (bytes_of len op) op len
assembles len (PushRcvr n) form = PushRcvr-assembles len n form
assembles len (PushTemp n) form = PushTemp-assembles len n form
assembles len (PushLit n) form = PushLit-assembles len n form
assembles len (PushLitVar n) form = PushLitVar-assembles len n form
assembles len (PopRcvr n) form = PopRcvr-assembles len n form
assembles len (PopTemp n) form = PopTemp-assembles len n form
assembles len (PopLitVar n) form = PopLitVar-assembles len n form
assembles len (StoreRcvr n) form = StoreRcvr-assembles len n form
assembles len (StoreTemp n) form = StoreTemp-assembles len n form
assembles len (StoreLitVar n) form = StoreLitVar-assembles len n form
assembles len (PushInt z) form = at_length 1 (is_within (negsuc 0) (pos 3) z) (Assembles (bytes_of len (PushInt z)) (PushInt z)) len (push_int_byte z) form
assembles len (Send lit args) form = Send-assembles len lit args form
assembles len (SendSuper lit args) form = SendSuper-assembles len lit args form
assembles len (NewArray n) form = at_length 2 (nat_lt n 128) (Assembles (bytes_of len (NewArray n)) (NewArray n)) len (λ below. new_array_bytes n (grind arith)) form
assembles len (PopArray n) form = at_length 2 (nat_lt n 128) (Assembles (bytes_of len (PopArray n)) (PopArray n)) len (λ below. pop_array_bytes n (grind arith)) form
assembles len (Prim i j) form = at_length 3 (nat_lt i 256 && nat_lt j 256) (Assembles (bytes_of len (Prim i j)) (Prim i j)) len
    (λ both. let below = both_below i 256 j 256 both in three_bytes 139 i j (Prim i j) (omega arith) below.0 below.1 refl refl) form
assembles len (PushVec k j) form = at_length 3 (nat_lt k 256 && nat_lt j 256) (Assembles (bytes_of len (PushVec k j)) (PushVec k j)) len
    (λ both. let below = both_below k 256 j 256 both in three_bytes 140 k j (PushVec k j) (omega arith) below.0 below.1 refl refl) form
assembles len (StoreVec k j) form = at_length 3 (nat_lt k 256 && nat_lt j 256) (Assembles (bytes_of len (StoreVec k j)) (StoreVec k j)) len
    (λ both. let below = both_below k 256 j 256 both in three_bytes 141 k j (StoreVec k j) (omega arith) below.0 below.1 refl refl) form
assembles len (PopVec k j) form = at_length 3 (nat_lt k 256 && nat_lt j 256) (Assembles (bytes_of len (PopVec k j)) (PopVec k j)) len
    (λ both. let below = both_below k 256 j 256 both in three_bytes 142 k j (PopVec k j) (omega arith) below.0 below.1 refl refl) form
assembles len (Closure copied args size) form = Closure-assembles len copied args size form
assembles len (Jump z) form = Jump-assembles len z form
assembles len (JumpTrue n) form = at_length 2 (nat_lt n 1024) (Assembles (bytes_of len (JumpTrue n)) (JumpTrue n)) len (λ below. jump_true_bytes n (grind arith)) form
assembles len (JumpFalse n) form = JumpFalse-assembles len n form
assembles len (Special i) form = at_length 1 (nat_lt i 16) (Assembles (bytes_of len (Special i)) (Special i)) len (λ below. special_byte i (grind arith)) form
assembles len (Common i) form = at_length 1 (nat_lt i 16) (Assembles (bytes_of len (Common i)) (Common i)) len (λ below. common_byte i (grind arith)) form
assembles len PushSelf form = plain PushSelf len refl refl (omega arith) form
assembles len PushTrue form = plain PushTrue len refl refl (omega arith) form
assembles len PushFalse form = plain PushFalse len refl refl (omega arith) form
assembles len PushNil form = plain PushNil len refl refl (omega arith) form
assembles len ReturnSelf form = plain ReturnSelf len refl refl (omega arith) form
assembles len ReturnTrue form = plain ReturnTrue len refl refl (omega arith) form
assembles len ReturnFalse form = plain ReturnFalse len refl refl (omega arith) form
assembles len ReturnNil form = plain ReturnNil len refl refl (omega arith) form
assembles len ReturnTop form = plain ReturnTop len refl refl (omega arith) form
assembles len BlockReturn form = plain BlockReturn len refl refl (omega arith) form
assembles len Pop form = plain Pop len refl refl (omega arith) form
assembles len Dup form = plain Dup len refl refl (omega arith) form
assembles len ThisContext form = plain ThisContext len refl refl (omega arith) form

-- the test is the fact: what has a form is an instruction
pub has_form-IsInstr : (i : Instr) → has_form i.len i.op ≡ true → IsInstr i
has_form-IsInstr i form =
    let whole = assembles i.len i.op form in
    record { bytes = assembled i; at = 0; are_bytes = whole.are_bytes; decoded = whole.decoded }
