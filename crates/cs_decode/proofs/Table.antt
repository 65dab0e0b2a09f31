-- The rows of the table of bytecodes, for a first byte that isn't a numeral.
use Rattle.std.proofs.Common.{◌≡◌, ℕ, ◌<◌, ◌≤◌, true, false, Some, nat_lt, arith}
use Rattle.cs_model.specs.Decode.{len_of, variable, jump, send_op, op_of}

pub len_of-one : (code : ℕ) → code < 128 → len_of code ≡ 1
len_of-one code below = grind arith

pub len_of-short_jump : (code : ℕ) → 144 ≤ code → code < 160 → len_of code ≡ 1
len_of-short_jump code above below = grind arith

pub len_of-long_jump : (code : ℕ) → 160 ≤ code → code < 176 → len_of code ≡ 2
len_of-long_jump code above below = grind arith

pub len_of-send : (code : ℕ) → 176 ≤ code → len_of code ≡ 1
len_of-send code above = grind arith

pub op_of-variable : (code b c d : ℕ) → code < 112 → op_of code b c d ≡ Some (variable code)
op_of-variable code b c d below = let test : nat_lt code 112 ≡ true = grind arith in rw test

pub op_of-jump : (code b c d : ℕ) → 144 ≤ code → code < 176 → op_of code b c d ≡ Some (jump code b)
op_of-jump code b c d above below =
    let to_112 : nat_lt code 112 ≡ false = grind arith in
    let to_120 : nat_lt code 120 ≡ false = grind arith in
    let to_126 : nat_lt code 126 ≡ false = grind arith in
    let to_128 : nat_lt code 128 ≡ false = grind arith in
    let to_144 : nat_lt code 144 ≡ false = grind arith in
    let to_176 : nat_lt code 176 ≡ true = grind arith in
    rw (to_112, to_120, to_126, to_128, to_144, to_176)

pub op_of-send : (code b c d : ℕ) → 176 ≤ code → op_of code b c d ≡ Some (send_op code)
op_of-send code b c d above =
    let to_112 : nat_lt code 112 ≡ false = grind arith in
    let to_120 : nat_lt code 120 ≡ false = grind arith in
    let to_126 : nat_lt code 126 ≡ false = grind arith in
    let to_128 : nat_lt code 128 ≡ false = grind arith in
    let to_144 : nat_lt code 144 ≡ false = grind arith in
    let to_176 : nat_lt code 176 ≡ false = grind arith in
    rw (to_112, to_120, to_126, to_128, to_144, to_176)
