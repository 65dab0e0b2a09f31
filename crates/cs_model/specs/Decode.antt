-- The V3PlusClosures bytecodes: which instruction stands at a place.
use Rattle.std.specs.Prelude.{ℕ, ◌+◌, ◌-◌, ◌*◌, ◌/◌, ◌%◌, ◌==◌, pos, ◌+ℤ◌, ◌-ℤ◌, ◌*ℤ◌, nat_lt, nat_le, if◌then◌else◌, List, length, Option, Some, None, option_map, slice_index}
use Rattle.cs_model.specs.declared.instruction.Instr.{Instr}
use Rattle.cs_model.specs.declared.instruction.Op.{Op}
use Rattle.cs_model.specs.declared.instruction.Op.TheVariants.{PushRcvr, PushTemp, PushLit, PushLitVar, PopRcvr, PopTemp, PopLitVar, StoreRcvr, StoreTemp, StoreLitVar, PushSelf, PushTrue, PushFalse, PushNil, PushInt, ReturnSelf, ReturnTrue, ReturnFalse, ReturnNil, ReturnTop, BlockReturn, Send, SendSuper, Pop, Dup, ThisContext, NewArray, PopArray, Prim, PushVec, StoreVec, PopVec, Closure, Jump, JumpTrue, JumpFalse, Special, Common}

-- how many bytes an instruction of this first byte has
abbrev pub len_of : ℕ → ℕ
len_of code =
    if nat_lt code 128 then 1 else
    if nat_lt code 132 then 2 else
    if code == 132 then 3 else
    if nat_lt code 135 then 2 else
    if nat_lt code 138 then 1 else
    if code == 138 then 2 else
    if nat_lt code 143 then 3 else
    if code == 143 then 4 else
    if nat_lt code 160 then 1 else
    if nat_lt code 176 then 2 else
    1

-- 0 to 111: variables by an index in the code
abbrev pub variable : ℕ → Op
variable code =
    if nat_lt code 16 then PushRcvr code else
    if nat_lt code 32 then PushTemp (code - 16) else
    if nat_lt code 64 then PushLit (code - 32) else
    if nat_lt code 96 then PushLitVar (code - 64) else
    if nat_lt code 104 then PopRcvr (code - 96) else
    PopTemp (code - 104)

-- 112 to 119: the receiver and constants
abbrev pub constant : ℕ → Op
constant code =
    if code == 112 then PushSelf else
    if code == 113 then PushTrue else
    if code == 114 then PushFalse else
    if code == 115 then PushNil else
    PushInt (pos code -ℤ pos 117)

-- 120 to 125: returns
abbrev pub return_of : ℕ → Op
return_of code =
    if code == 120 then ReturnSelf else
    if code == 121 then ReturnTrue else
    if code == 122 then ReturnFalse else
    if code == 123 then ReturnNil else
    if code == 124 then ReturnTop else
    BlockReturn

-- 128: a push of a variable of this kind and index
abbrev pub extended_push : ℕ → ℕ → Op
extended_push kind index =
    if kind == 0 then PushRcvr index else
    if kind == 1 then PushTemp index else
    if kind == 2 then PushLit index else
    PushLitVar index

-- 129: a store; a literal itself can't be stored into
abbrev pub extended_store : ℕ → ℕ → Option Op
extended_store kind index =
    if kind == 0 then Some (StoreRcvr index) else
    if kind == 1 then Some (StoreTemp index) else
    if kind == 2 then None else
    Some (StoreLitVar index)

-- 130: a pop into a variable
abbrev pub extended_pop : ℕ → ℕ → Option Op
extended_pop kind index =
    if kind == 0 then Some (PopRcvr index) else
    if kind == 1 then Some (PopTemp index) else
    if kind == 2 then None else
    Some (PopLitVar index)

-- 132: eight operations with an index of a whole byte; only the two sends have arguments
abbrev pub double_extended : ℕ → ℕ → ℕ → Op
double_extended operation args index =
    if operation == 0 then Send index args else
    if operation == 1 then SendSuper index args else
    if operation == 2 then PushRcvr index else
    if operation == 3 then PushLit index else
    if operation == 4 then PushLitVar index else
    if operation == 5 then StoreRcvr index else
    if operation == 6 then PopRcvr index else
    StoreLitVar index

-- 138: a new Array, of nil or of values that it pops
abbrev pub array : ℕ → Op
array b = if nat_lt b 128 then NewArray b else PopArray (b - 128)

-- 128 to 143: the codes that have their numbers in further bytes, and four that stand among them
abbrev pub extended : ℕ → ℕ → ℕ → ℕ → Option Op
extended code b c d =
    if code == 128 then Some (extended_push (b / 64) (b % 64)) else
    if code == 129 then extended_store (b / 64) (b % 64) else
    if code == 130 then extended_pop (b / 64) (b % 64) else
    if code == 131 then Some (Send (b % 32) (b / 32)) else
    if code == 132 then Some (double_extended (b / 32) (b % 32) c) else
    if code == 133 then Some (SendSuper (b % 32) (b / 32)) else
    if code == 134 then Some (Send (b % 64) (b / 64)) else
    if code == 135 then Some Pop else
    if code == 136 then Some Dup else
    if code == 137 then Some ThisContext else
    if code == 138 then Some (array b) else
    if code == 139 then Some (Prim b c) else
    if code == 140 then Some (PushVec b c) else
    if code == 141 then Some (StoreVec b c) else
    if code == 142 then Some (PopVec b c) else
    Some (Closure (b / 16) (b % 16) (256 * c + d))

-- 144 to 175: jumps, by an offset in the code or by one whose low byte follows
abbrev pub jump : ℕ → ℕ → Op
jump code b =
    if nat_lt code 152 then Jump (pos (code - 143)) else
    if nat_lt code 160 then JumpFalse (code - 151) else
    if nat_lt code 168 then Jump ((pos code -ℤ pos 164) *ℤ pos 256 +ℤ pos b) else
    if nat_lt code 172 then JumpTrue ((code - 168) * 256 + b) else
    JumpFalse ((code - 172) * 256 + b)

-- 176 to 255: the 32 special selectors, and sends of one of the first 16 literals with 0, 1 or 2 arguments
abbrev pub send_op : ℕ → Op
send_op code =
    if nat_lt code 192 then Special (code - 176) else
    if nat_lt code 208 then Common (code - 192) else
    Send (code % 16) (code / 16 - 13)

-- what an instruction of these bytes does; 126, 127 and two kinds of 129 and 130 are none
abbrev pub op_of : ℕ → ℕ → ℕ → ℕ → Option Op
op_of code b c d =
    if nat_lt code 112 then Some (variable code) else
    if nat_lt code 120 then Some (constant code) else
    if nat_lt code 126 then Some (return_of code) else
    if nat_lt code 128 then None else
    if nat_lt code 144 then extended code b c d else
    if nat_lt code 176 then Some (jump code b) else
    Some (send_op code)

-- the instruction at a place, where there is one and its bytes are all there
unfoldable pub decode_at : List ℕ → ℕ → Option Instr
decode_at bytes at =
    let code = slice_index bytes at in
    if nat_le (at + len_of code) (length bytes)
    then option_map (λ op. record { op = op; len = len_of code })
    (op_of code (slice_index bytes (at + 1)) (slice_index bytes (at + 2)) (slice_index bytes (at + 3)))
    else None
