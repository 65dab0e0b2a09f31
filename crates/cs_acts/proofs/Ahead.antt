-- An instruction has four bytes at most, so four bytes ahead tell it.
use Rattle.std.proofs.Common.{◌≡◌, ℕ, zero, suc, ◌+◌, ◌-◌, ◌*◌, ◌<◌, ◌≤◌, Bool, true, false, refl, sym, ap, ap₂, subst, ◌∙◌, arith, min, Option, None, List, [], ◌∷◌, length, take, get_or, option_map, nat_lt, nat_le}
use Rattle.std.specs.Prelude.{if◌then◌else◌, ◌==◌}
use Rattle.std.proofs.lemmas.Bool.{eqb-false, eqb-true, false≢true}
use Rattle.std.proofs.lemmas.Bool.Decides.{nat_tests}
use Rattle.std.proofs.lemmas.List.{get_or-take, get_or_past, length-take}
use Rattle.cs_model.specs.Words.{unused_bytes}
use Rattle.cs_model.specs.declared.instruction.Instr.{Instr}
use Rattle.cs_model.specs.declared.instruction.Op.{Op}
use Rattle.cs_heap.specs.Object.{Object, format_at, slot_count_of}
use Rattle.cs_model.specs.Obj.{first_pc}
use Rattle.cs_model.specs.State.{Kept}
use Rattle.cs_model.specs.Read.{bytecodes_of, literals_of, method_of, pc_of}
use Rattle.cs_model.specs.Step.{instruction_at}
use Rattle.cs_acts.specs.Reading.{byte_before}
use Rattle.cs_acts.proofs.Methods.{IsMethodAt, IsPlaceOf, byte_ahead, end_of}
use Rattle.cs_model.specs.Decode.{decode_at, len_of, op_of}

same_byte : (bs xs : List ℕ) (at count i : ℕ) → count ≡ min (length bs - at) 4 → length xs ≡ 4 → i < 4 → get_or xs i 0 ≡ get_or bs (at + i) 0 → get_or (take count xs) i 0 ≡ get_or bs (at + i) 0
same_byte bs xs at count i e four few h = go (nat_lt i count) refl
  where
    go : (b : Bool) → nat_lt i count ≡ b → get_or (take count xs) i 0 ≡ get_or bs (at + i) 0
    go true t = let less : i < count = grind (arith, nat_tests) in get_or-take count xs i 0 less ∙ h
    go false t =
        let past : count ≤ i = grind (arith, nat_tests) in
        get_or_past (take count xs) i 0 (omega (arith, past, length-take count xs)) ∙ sym (get_or_past bs (at + i) 0 (omega (arith, past, few, e)))

-- an instruction has at least one byte and at most four
record IsFew (n : ℕ) : Type 0 where
  pub one : 1 ≤ n
  pub four : n ≤ 4

few : (n : ℕ) → 1 ≤ n → n ≤ 4 → IsFew n
few n h i = record { one = h; four = i }

one_few : IsFew 1
one_few = few 1 (omega arith) (omega arith)

two_few : IsFew 2
two_few = few 2 (omega arith) (omega arith)

three_few : IsFew 3
three_few = few 3 (omega arith) (omega arith)

four_few : IsFew 4
four_few = few 4 (omega arith) (omega arith)

len_few : (code : ℕ) → IsFew (len_of code)
len_few code = go (nat_lt code 128) (nat_lt code 132) (code == 132) (nat_lt code 135) (nat_lt code 138) (code == 138) (nat_lt code 143) (code == 143) (nat_lt code 160) (nat_lt code 176)
  where
    go : (a b c d e f g h i j : Bool)
        → IsFew (if a then 1 else (if b then 2 else (if c then 3 else (if d then 2 else (if e then 1 else (if f then 2 else (if g then 3 else (if h then 4 else (if i then 1 else (if j then 2 else 1))))))))))
    go true b c d e f g h i j = one_few
    go false true c d e f g h i j = two_few
    go false false true d e f g h i j = three_few
    go false false false true e f g h i j = two_few
    go false false false false true f g h i j = one_few
    go false false false false false true g h i j = two_few
    go false false false false false false true h i j = three_few
    go false false false false false false false true i j = four_few
    go false false false false false false false false true j = one_few
    go false false false false false false false false false true = two_few
    go false false false false false false false false false false = one_few

fits : (at n count len : ℕ) → IsFew len → count ≡ min (n - at) 4 → nat_le len count ≡ nat_le (at + len) n
fits at n count len f e = go (nat_le len count) (nat_le (at + len) n) refl refl
  where
    go : (b c : Bool) → nat_le len count ≡ b → nat_le (at + len) n ≡ c → b ≡ c
    go true true p q = refl
    go false false p q = refl
    go true false p q =
        let less : len ≤ count = grind (arith, nat_tests) in
        let more : n < at + len = grind (arith, nat_tests) in
        absurd (omega (arith, f.one, e))
    go false true p q =
        let more : count < len = grind (arith, nat_tests) in
        let less : at + len ≤ n = grind (arith, nat_tests) in
        absurd (omega (arith, f.four, e))

abbrev decoded : Bool → ℕ → ℕ → ℕ → ℕ → Option Instr
decoded fit a b c d = if fit then option_map (λ (op : Op). let i : Instr = record { op = op; len = len_of a } in i) (op_of a b c d) else None

pub decode_ahead : (bs : List ℕ) (at count a b c d : ℕ) → count ≡ min (length bs - at) 4 → a ≡ get_or bs at 0 → b ≡ get_or bs (at + 1) 0 → c ≡ get_or bs (at + 2) 0 → d ≡ get_or bs (at + 3) 0
    → decode_at (take count (a ∷ b ∷ c ∷ d ∷ [])) 0 ≡ decode_at bs at
unfolding decode_at
decode_ahead bs at count a b c d e p q r s =
    let xs : List ℕ = a ∷ b ∷ c ∷ d ∷ [] in
    let zero_is : at + 0 ≡ at = omega arith in
    let first : get_or (take count xs) 0 0 ≡ get_or bs at 0 = same_byte bs xs at count 0 e refl (omega arith) (p ∙ ap (λ n. get_or bs n 0) (sym zero_is)) ∙ ap (λ n. get_or bs n 0) zero_is in
    let second : get_or (take count xs) 1 0 ≡ get_or bs (at + 1) 0 = same_byte bs xs at count 1 e refl (omega arith) q in
    let third : get_or (take count xs) 2 0 ≡ get_or bs (at + 2) 0 = same_byte bs xs at count 2 e refl (omega arith) r in
    let fourth : get_or (take count xs) 3 0 ≡ get_or bs (at + 3) 0 = same_byte bs xs at count 3 e refl (omega arith) s in
    let long : length (take count xs) ≡ count = omega (arith, length-take count xs, e) in
    let fit : nat_le (0 + len_of (get_or (take count xs) 0 0)) (length (take count xs)) ≡ nat_le (at + len_of (get_or bs at 0)) (length bs) =
    ap (λ n. nat_le n (length (take count xs))) (plain (len_of (get_or (take count xs) 0 0))) ∙ ap₂ (λ n m. nat_le (len_of n) m) first long ∙ fits at (length bs) count (len_of (get_or bs at 0)) (len_few (get_or bs at 0)) e in
    ap₂ (λ f n. decoded f n (get_or (take count xs) 1 0) (get_or (take count xs) 2 0) (get_or (take count xs) 3 0)) fit first
    ∙ ap₂ (λ n m. decoded (nat_le (at + len_of (get_or bs at 0)) (length bs)) (get_or bs at 0) n m (get_or (take count xs) 3 0)) second third
    ∙ ap (λ n. decoded (nat_le (at + len_of (get_or bs at 0)) (length bs)) (get_or bs at 0) (get_or bs (at + 1) 0) (get_or bs (at + 2) 0) n) fourth
  where
    plain : (n : ℕ) → 0 + n ≡ n
    plain n = omega arith

-- the instruction at the active pc, of the bytes that the code reads there
pub instruction_read : (os : List Object) (k : Kept) (w pc end count a b c d : ℕ) → IsMethodAt os (method_of k) w → IsPlaceOf os k w pc → pc ≡ pc_of k
    → end ≡ 4 * slot_count_of os w - unused_bytes (format_at os w) → count ≡ min (end - (pc - 1)) 4
    → a ≡ byte_before os w (pc - 1) end → b ≡ byte_before os w (pc - 1 + 1) end → c ≡ byte_before os w (pc - 1 + 2) end → d ≡ byte_before os w (pc - 1 + 3) end
    → decode_at (take count (a ∷ b ∷ c ∷ d ∷ [])) 0 ≡ instruction_at k
unfolding instruction_at
instruction_read os k w pc end count a b c d m place is end_is count_is p q r s =
    let at : ℕ = pc - first_pc (literals_of k) in
    decode_ahead (bytecodes_of k) at count a b c d (omega (arith, count_is, end_is, place.first, end_of os k w m))
    (p ∙ byte_ahead os k w m (pc - 1) end at end_is (omega (arith, place.first, place.above)))
    (q ∙ byte_ahead os k w m (pc - 1 + 1) end (at + 1) end_is (omega (arith, place.first, place.above)))
    (r ∙ byte_ahead os k w m (pc - 1 + 2) end (at + 2) end_is (omega (arith, place.first, place.above)))
    (s ∙ byte_ahead os k w m (pc - 1 + 3) end (at + 3) end_is (omega (arith, place.first, place.above)))
    ∙ ap (λ n. decode_at (bytecodes_of k) (n - first_pc (literals_of k))) is

-- ---- an instruction of one byte

-- how many bytes an instruction has, by what its first byte is below or equal to
abbrev len_by : (a b c d e f g h i j : Bool) → ℕ
len_by a b c d e f g h i j = if a then 1 else (if b then 2 else (if c then 3 else (if d then 2 else (if e then 1 else (if f then 2 else (if g then 3 else (if h then 4 else (if i then 1 else (if j then 2 else 1)))))))))

-- of the codes that may have numbers in further bytes, three have none
in_the_middle : (code : ℕ) → nat_lt code 128 ≡ false → nat_lt code 144 ≡ true → (len_of code == 1) ≡ true → (135 ≤ code) × (code < 138)
in_the_middle code from to one =
    tests (nat_lt code 128) (nat_lt code 132) (code == 132) (nat_lt code 135) (nat_lt code 138) (code == 138) (nat_lt code 143) (code == 143) (nat_lt code 160) (nat_lt code 176) from refl refl refl refl one
  where
    tests : (a b c d e f g h i j : Bool) → a ≡ false → nat_lt code 135 ≡ d → nat_lt code 138 ≡ e → nat_lt code 143 ≡ g → (code == 143) ≡ h
        → (len_by a b c d e f g h i j == 1) ≡ true → (135 ≤ code) × (code < 138)
    tests true b c d e f g h i j z r s u v n = absurd (false≢true (sym z))
    tests false true c d e f g h i j z r s u v n = absurd (cc)
    tests false false true d e f g h i j z r s u v n = absurd (cc)
    tests false false false true e f g h i j z r s u v n = absurd (cc)
    tests false false false false true f g h i j z r s u v n = (grind (arith, nat_tests, r), grind (arith, nat_tests, s))
    tests false false false false false true g h i j z r s u v n = absurd (cc)
    tests false false false false false false true h i j z r s u v n = absurd (cc)
    tests false false false false false false false true i j z r s u v n = absurd (cc)
    tests false false false false false false false false i j z r s u v n =
        let past : 143 ≤ code = grind (arith, nat_tests, u) in
        let below : code < 144 = grind (arith, nat_tests, to) in
        absurd (eqb-false code 143 v (omega (arith, past, below)))

-- the longer jumps have their offsets in a further byte
is_longer : (code : ℕ) → nat_lt code 144 ≡ false → nat_lt code 160 ≡ false → nat_lt code 176 ≡ true → len_of code ≡ 2
is_longer code p q r =
    let least : 160 ≤ code = grind (arith, nat_tests, q) in
    longer (nat_lt code 128) (nat_lt code 132) (code == 132) (nat_lt code 135) (nat_lt code 138) (code == 138) (nat_lt code 143) (code == 143) (nat_lt code 160) (nat_lt code 176)
    (grind (arith, nat_tests, least)) (grind (arith, nat_tests, least)) (grind (arith, nat_tests, least)) (grind (arith, nat_tests, least)) (grind (arith, nat_tests, least)) (grind (arith, nat_tests, least)) (grind (arith, nat_tests, least)) (grind (arith, nat_tests, least)) q r
  where
    longer : (a b c d e f g h i j : Bool) → a ≡ false → b ≡ false → c ≡ false → d ≡ false → e ≡ false → f ≡ false → g ≡ false → h ≡ false → i ≡ false → j ≡ true
        → len_by a b c d e f g h i j ≡ 2
    longer a b c d e f g h i j o p q r s t u v w x = rw (o, p, q, r, s, t, u, v, w, x) refl

-- what it does is told by that byte
op_alone : (code b c d x y z : ℕ) → (len_of code == 1) ≡ true → op_of code b c d ≡ op_of code x y z
op_alone code b c d x y z one = go (nat_lt code 128) refl (nat_lt code 144) refl (nat_lt code 160) refl (nat_lt code 176) refl
  where
    three : (p : Bool) → (code == 135) ≡ p → (q : Bool) → (code == 136) ≡ q → (135 ≤ code) × (code < 138) → op_of code b c d ≡ op_of code x y z
    three true p q r h = subst (λ n. op_of n b c d ≡ op_of n x y z) (sym (eqb-true code 135 p)) refl
    three false p true r h = subst (λ n. op_of n b c d ≡ op_of n x y z) (sym (eqb-true code 136 r)) refl
    three false p false r h =
        let left = eqb-false code 135 p in
        let right = eqb-false code 136 r in
        let last : code ≡ 137 = omega (arith, h.0, h.1, left, right) in
        subst (λ n. op_of n b c d ≡ op_of n x y z) (sym last) refl

    go : (t : Bool) → nat_lt code 128 ≡ t → (u : Bool) → nat_lt code 144 ≡ u → (v : Bool) → nat_lt code 160 ≡ v → (w : Bool) → nat_lt code 176 ≡ w → op_of code b c d ≡ op_of code x y z
    go true e u f v g w h = rw e refl
    go false e true f v g w h = three (code == 135) refl (code == 136) refl (in_the_middle code e f one)
    go false e false f true g w h = rw (f, g) refl
    go false e false f false g true h = absurd (false≢true (sym (ap (λ n. n == 1) (is_longer code f g h)) ∙ one))
    go false e false f false g false h = rw (f, h) refl

pub decode_alone : (n code b c d x y z : ℕ) → (len_of code == 1) ≡ true → decode_at (take n (code ∷ b ∷ c ∷ d ∷ [])) 0 ≡ decode_at (take n (code ∷ x ∷ y ∷ z ∷ [])) 0
unfolding decode_at
decode_alone zero code b c d x y z one = refl
decode_alone (suc n) code b c d x y z one =
    ap (λ l. decoded (nat_le (0 + len_of code) (suc l)) code (get_or (take n (b ∷ c ∷ d ∷ [])) 0 0) (get_or (take n (b ∷ c ∷ d ∷ [])) 1 0) (get_or (take n (b ∷ c ∷ d ∷ [])) 2 0))
    (length-take n (b ∷ c ∷ d ∷ []) ∙ sym (length-take n (x ∷ y ∷ z ∷ [])))
    ∙ ap (λ (o : Option Op). if nat_le (0 + len_of code) (suc (length (take n (x ∷ y ∷ z ∷ [])))) then option_map (λ (op : Op). let i : Instr = record { op = op; len = len_of code } in i) o else None)
    (op_alone code (get_or (take n (b ∷ c ∷ d ∷ [])) 0 0) (get_or (take n (b ∷ c ∷ d ∷ [])) 1 0) (get_or (take n (b ∷ c ∷ d ∷ [])) 2 0)
    (get_or (take n (x ∷ y ∷ z ∷ [])) 0 0) (get_or (take n (x ∷ y ∷ z ∷ [])) 1 0) (get_or (take n (x ∷ y ∷ z ∷ [])) 2 0) one)
