-- The V3PlusClosures bytecodes backwards: which instructions there are, their bytes, and the assembler's words.
use Rattle.std.specs.Prelude.{◌≡◌, ℕ, ◌+◌, ◌*◌, ◌/◌, ◌%◌, ◌<◌, ◌==◌, ◌&&◌, ◌||◌, ℤ, pos, negsuc, ◌+ℤ◌, Bool, nat_lt, int_lt, not, if◌then◌else◌, List, [], ◌∷◌, Some, All, codes}
use Rattle.std.specs.Int.RustNames.{unsigned_abs}
use Rattle.cs_model.specs.declared.instruction.Instr.{Instr}
use Rattle.cs_model.specs.declared.instruction.Op.{Op}
use Rattle.cs_model.specs.declared.instruction.Op.TheVariants.{PushRcvr, PushTemp, PushLit, PushLitVar, PopRcvr, PopTemp, PopLitVar, StoreRcvr, StoreTemp, StoreLitVar, PushSelf, PushTrue, PushFalse, PushNil, PushInt, ReturnSelf, ReturnTrue, ReturnFalse, ReturnNil, ReturnTop, BlockReturn, Send, SendSuper, Pop, Dup, NewArray, PopArray, Prim, PushVec, StoreVec, PopVec, Closure, Jump, JumpTrue, JumpFalse, Special, Common}
use Rattle.cs_model.specs.Decode.{decode_at}

-- some bytes decode to it
pub record IsInstr (i : Instr) : Type 0 where
  pub bytes : List ℕ
  pub at : ℕ
  pub are_bytes : All (λ b. b < 256) bytes
  pub decoded : decode_at bytes at ≡ Some i

-- ---- the lengths that an instruction comes in: the same as IsInstr, by a test

-- below these limits an index fits the forms of one, two and three bytes
abbrev pub fits_within : (one two three : ℕ) → (len index : ℕ) → Bool
fits_within one two three len index =
    if len == 1 then nat_lt index one else
    if len == 2 then nat_lt index two else
    len == 3 && nat_lt index three

abbrev pub send_has_form : ℕ → ℕ → ℕ → Bool
send_has_form len lit args =
    if len == 1 then nat_lt lit 16 && nat_lt args 3 else
    if len == 2 then (nat_lt lit 32 && nat_lt args 8) || (nat_lt lit 64 && nat_lt args 4) else
    len == 3 && (nat_lt lit 256 && nat_lt args 32)

abbrev pub super_has_form : ℕ → ℕ → ℕ → Bool
super_has_form len lit args =
    if len == 2 then nat_lt lit 32 && nat_lt args 8 else
    len == 3 && (nat_lt lit 256 && nat_lt args 32)

-- from the first number to below the second
abbrev pub is_within : ℤ → ℤ → ℤ → Bool
is_within low high z = not (int_lt z low) && int_lt z high

abbrev pub jump_has_form : ℕ → ℤ → Bool
jump_has_form len offset =
    if len == 1 then is_within (pos 1) (pos 9) offset else
    len == 2 && is_within (negsuc 1023) (pos 1024) offset

abbrev pub jump_false_has_form : ℕ → ℕ → Bool
jump_false_has_form len offset =
    if len == 1 then nat_lt 0 offset && nat_lt offset 9 else
    len == 2 && nat_lt offset 1024

-- whether an instruction comes in a form of so many bytes
abbrev pub has_form : ℕ → Op → Bool
has_form len (PushRcvr n) = fits_within 16 64 256 len n
has_form len (PushTemp n) = fits_within 16 64 0 len n
has_form len (PushLit n) = fits_within 32 64 256 len n
has_form len (PushLitVar n) = fits_within 32 64 256 len n
has_form len (PopRcvr n) = fits_within 8 64 256 len n
has_form len (PopTemp n) = fits_within 8 64 0 len n
has_form len (PopLitVar n) = fits_within 0 64 0 len n
has_form len (StoreRcvr n) = fits_within 0 64 256 len n
has_form len (StoreTemp n) = fits_within 0 64 0 len n
has_form len (StoreLitVar n) = fits_within 0 64 256 len n
has_form len (PushInt z) = len == 1 && is_within (negsuc 0) (pos 3) z
has_form len (Send lit args) = send_has_form len lit args
has_form len (SendSuper lit args) = super_has_form len lit args
has_form len (NewArray n) = len == 2 && nat_lt n 128
has_form len (PopArray n) = len == 2 && nat_lt n 128
has_form len (Prim i j) = len == 3 && (nat_lt i 256 && nat_lt j 256)
has_form len (PushVec k j) = len == 3 && (nat_lt k 256 && nat_lt j 256)
has_form len (StoreVec k j) = len == 3 && (nat_lt k 256 && nat_lt j 256)
has_form len (PopVec k j) = len == 3 && (nat_lt k 256 && nat_lt j 256)
has_form len (Closure copied args size) = len == 4 && (nat_lt copied 16 && (nat_lt args 16 && nat_lt size 65536))
has_form len (Jump offset) = jump_has_form len offset
has_form len (JumpTrue offset) = len == 2 && nat_lt offset 1024
has_form len (JumpFalse offset) = jump_false_has_form len offset
has_form len (Special i) = len == 1 && nat_lt i 16
has_form len (Common i) = len == 1 && nat_lt i 16
has_form len op = len == 1

-- ---- its bytes, in the first form of that length: for sends 208 to 255, 131, 134, 132, and for the others an index in
-- the code, 128 to 130, 132. What a form ignores is 0.

-- a variable's forms: by its first short code, its extended code and kind there, and its operation in 132
abbrev pub variable_bytes : (short code kind operation : ℕ) → (len index : ℕ) → List ℕ
variable_bytes short code kind operation len index =
    if len == 1 then (short + index) ∷ [] else
    if len == 2 then code ∷ (64 * kind + index) ∷ [] else
    132 ∷ (32 * operation) ∷ index ∷ []

abbrev pub send_bytes : ℕ → ℕ → ℕ → List ℕ
send_bytes len lit args =
    if len == 1 then (208 + 16 * args + lit) ∷ [] else
    if len == 3 then 132 ∷ args ∷ lit ∷ [] else
    if nat_lt lit 32 && nat_lt args 8 then 131 ∷ (32 * args + lit) ∷ [] else
    134 ∷ (64 * args + lit) ∷ []

abbrev pub super_bytes : ℕ → ℕ → ℕ → List ℕ
super_bytes len lit args =
    if len == 2 then 133 ∷ (32 * args + lit) ∷ [] else
    132 ∷ (32 + args) ∷ lit ∷ []

-- a code whose lowest bits are the high byte of a number, and the low byte
abbrev pub with_number : ℕ → ℕ → List ℕ
with_number code n = (code + n / 256) ∷ (n % 256) ∷ []

abbrev pub jump_bytes : ℕ → ℤ → List ℕ
jump_bytes len offset =
    if len == 1 then (143 + unsigned_abs offset) ∷ [] else
    with_number 160 (unsigned_abs (offset +ℤ pos 1024))

abbrev pub jump_false_bytes : ℕ → ℕ → List ℕ
jump_false_bytes len offset = if len == 1 then (151 + offset) ∷ [] else with_number 172 offset

-- the code of an instruction without numbers, the last of which is ThisContext
abbrev pub plain_code : Op → ℕ
plain_code PushSelf = 112
plain_code PushTrue = 113
plain_code PushFalse = 114
plain_code PushNil = 115
plain_code ReturnSelf = 120
plain_code ReturnTrue = 121
plain_code ReturnFalse = 122
plain_code ReturnNil = 123
plain_code ReturnTop = 124
plain_code BlockReturn = 125
plain_code Pop = 135
plain_code Dup = 136
plain_code op = 137

abbrev pub bytes_of : ℕ → Op → List ℕ
bytes_of len (PushRcvr n) = variable_bytes 0 128 0 2 len n
bytes_of len (PushTemp n) = variable_bytes 16 128 1 0 len n
bytes_of len (PushLit n) = variable_bytes 32 128 2 3 len n
bytes_of len (PushLitVar n) = variable_bytes 64 128 3 4 len n
bytes_of len (PopRcvr n) = variable_bytes 96 130 0 6 len n
bytes_of len (PopTemp n) = variable_bytes 104 130 1 0 len n
bytes_of len (PopLitVar n) = variable_bytes 0 130 3 0 len n
bytes_of len (StoreRcvr n) = variable_bytes 0 129 0 5 len n
bytes_of len (StoreTemp n) = variable_bytes 0 129 1 0 len n
bytes_of len (StoreLitVar n) = variable_bytes 0 129 3 7 len n
bytes_of len (PushInt z) = unsigned_abs (z +ℤ pos 117) ∷ []
bytes_of len (Send lit args) = send_bytes len lit args
bytes_of len (SendSuper lit args) = super_bytes len lit args
bytes_of len (NewArray n) = 138 ∷ n ∷ []
bytes_of len (PopArray n) = 138 ∷ (128 + n) ∷ []
bytes_of len (Prim i j) = 139 ∷ i ∷ j ∷ []
bytes_of len (PushVec k j) = 140 ∷ k ∷ j ∷ []
bytes_of len (StoreVec k j) = 141 ∷ k ∷ j ∷ []
bytes_of len (PopVec k j) = 142 ∷ k ∷ j ∷ []
bytes_of len (Closure copied args size) = 143 ∷ (16 * copied + args) ∷ (size / 256) ∷ (size % 256) ∷ []
bytes_of len (Jump offset) = jump_bytes len offset
bytes_of len (JumpTrue offset) = with_number 168 offset
bytes_of len (JumpFalse offset) = jump_false_bytes len offset
bytes_of len (Special i) = (176 + i) ∷ []
bytes_of len (Common i) = (192 + i) ∷ []
bytes_of len op = plain_code op ∷ []

abbrev pub assembled : Instr → List ℕ
assembled i = bytes_of i.len i.op

-- ---- the assembler's word

-- the word of an instruction without numbers, the last of which is ThisContext
abbrev pub plain_name : Op → List ℕ
plain_name PushSelf = codes "self"
plain_name PushTrue = codes "true"
plain_name PushFalse = codes "false"
plain_name PushNil = codes "nil"
plain_name ReturnSelf = codes "returnSelf"
plain_name ReturnTrue = codes "returnTrue"
plain_name ReturnFalse = codes "returnFalse"
plain_name ReturnNil = codes "returnNil"
plain_name ReturnTop = codes "returnTop"
plain_name BlockReturn = codes "blockReturn"
plain_name Pop = codes "pop"
plain_name Dup = codes "dup"
plain_name op = codes "thisContext"

abbrev pub op_name : Op → List ℕ
op_name (PushRcvr n) = codes "pushRcvr"
op_name (PushTemp n) = codes "pushTemp"
op_name (PushLit n) = codes "pushLit"
op_name (PushLitVar n) = codes "pushLitVar"
op_name (PopRcvr n) = codes "popRcvr"
op_name (PopTemp n) = codes "popTemp"
op_name (PopLitVar n) = codes "popLitVar"
op_name (StoreRcvr n) = codes "storeRcvr"
op_name (StoreTemp n) = codes "storeTemp"
op_name (StoreLitVar n) = codes "storeLitVar"
op_name (PushInt z) = codes "int"
op_name (Send lit args) = codes "send"
op_name (SendSuper lit args) = codes "super"
op_name (NewArray n) = codes "newArray"
op_name (PopArray n) = codes "popArray"
op_name (Prim i j) = codes "prim"
op_name (PushVec k j) = codes "pushVec"
op_name (StoreVec k j) = codes "storeVec"
op_name (PopVec k j) = codes "popVec"
op_name (Closure copied args size) = codes "closure"
op_name (Jump offset) = codes "jump"
op_name (JumpTrue offset) = codes "jumpTrue"
op_name (JumpFalse offset) = codes "jumpFalse"
op_name (Special i) = codes "op"
op_name (Common i) = codes "common"
op_name op = plain_name op
