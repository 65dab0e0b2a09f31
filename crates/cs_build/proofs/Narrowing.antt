-- A line whose numbers fit is the same with narrow numbers, and one whose numbers don't is refused with either.
use Rattle.std.proofs.Common.{◌≡◌, ℕ, suc, Bool, true, false, ◌<◌, ◌≤◌, ◌&&◌, ◌^◌, List, [], ◌∷◌, ◌++◌, Some, None, option_map, length, map, refl, arith, ap, sym, ◌∙◌, if◌then◌else◌, nat_lt}
use Rattle.std.specs.Prelude.{ℤ, pos, negsuc, ◌-ℤ◌, not, int_lt, Option, is_some, option_to_list}
use Rattle.std.specs.Option.{option_map_or, option_or}
use Rattle.std.specs.List.{list_all}
use Rattle.std.proofs.lemmas.Bool.Decides.{nat_tests}
use Rattle.std.proofs.lemmas.Bool.{false≢true}
use Rattle.std.proofs.lemmas.Int.{ints}
use Rattle.cs_model.specs.declared.instruction.Op.{Op}
use Rattle.cs_model.specs.Assemble.{is_within}
use Rattle.cs_model.specs.BuilderText as text
use Rattle.cs_model.specs.BuilderText.{Mention, Form, ClassLine, MethodLine, ProcessLine}
use Rattle.cs_model.specs.BuilderFault as fault
use Rattle.cs_model.specs.BuilderFault.{BuildFault, closure_bytes, fits, form_fault, has_literal_room, has_names, is_between, is_class_format, is_in_range, is_twice, line_fault, lines_fault, most_temporaries, plain_bytes, slots_fit}
use Rattle.cs_build.specs.Narrow.{narrow, narrow_class, narrow_form, narrow_mention, narrow_method, narrow_op, narrow_process}
use Rattle.cs_build.specs.Lines.{narrow_line}

-- ---- numbers

pub within-narrow : (low high : ℕ) (z : ℤ) → low < 2147483648 → high < 2147483648
    → is_within (pos 0 -ℤ pos low) (pos high) (narrow z) ≡ is_within (pos 0 -ℤ pos low) (pos high) z
within-narrow low high (pos n) l h = grind (arith, ints, nat_tests)
within-narrow low high (negsuc n) l h = grind (arith, ints, nat_tests)

narrow-within : (low high : ℕ) (z : ℤ) → low < 2147483648 → high < 2147483648
    → is_within (pos 0 -ℤ pos low) (pos high) z ≡ true → narrow z ≡ z
narrow-within low high (pos n) l h is = grind (arith, ints, nat_tests)
narrow-within low high (negsuc n) l h is = grind (arith, ints, nat_tests)

pub between-narrow : (low high : ℕ) (z : ℤ) → low < 2147483647 → high < 2147483647 → is_between low high (narrow z) ≡ is_between low high z
between-narrow low high (pos n) l h = grind (arith, ints, nat_tests)
between-narrow low high (negsuc n) l h = grind (arith, ints, nat_tests)

pub narrow-between : (low high : ℕ) (z : ℤ) → high < 2147483647 → is_between low high z ≡ true → narrow z ≡ z
narrow-between low high (pos n) h is = grind (arith, ints, nat_tests)
narrow-between low high (negsuc n) h is = grind (arith, ints, nat_tests)

narrow-wide : (n : ℕ) → 2147483647 ≤ n → narrow (pos n) ≡ pos 2147483647
narrow-wide n h = ap (λ k. pos k) (omega (arith, h))

narrow-small : (n : ℕ) → n ≤ 2147483647 → narrow (pos n) ≡ pos n
narrow-small n h = ap (λ k. pos k) (omega (arith, h))

-- ---- both halves of a test

left : (a b : Bool) → (a && b) ≡ true → a ≡ true
left true b h = refl
left false b h = h

right : (a b : Bool) → (a && b) ≡ true → b ≡ true
right true b h = h
right false b h = absurd (false≢true h)

-- a test of two parts, of which the second need only agree where the first passes
both : (a a' b b' : Bool) → a ≡ a' → (a' ≡ true → b ≡ b') → (a && b) ≡ (a' && b')
both a true b b' e f = rw e (f refl)
both a false b b' e f = rw e refl

-- ---- references

fits-narrow : (m : Mention) → fits (narrow_mention m) ≡ fits m
fits-narrow (text.Number value) = within-narrow (2 ^ 30) (2 ^ 30) value (omega arith) (omega arith)
fits-narrow (text.Code value) = within-narrow 0 (2 ^ 30) value (omega arith) (omega arith)
fits-narrow text.Nil = refl
fits-narrow text.True = refl
fits-narrow text.False = refl
fits-narrow (text.Symbol name) = refl
fits-narrow (text.Named name) = refl
fits-narrow (text.Dictionary class) = refl
fits-narrow (text.Values class) = refl
fits-narrow (text.MethodOf class selector) = refl

narrow-fits : (m : Mention) → fits m ≡ true → narrow_mention m ≡ m
narrow-fits (text.Number value) h = ap (λ z. text.Number z) (narrow-within (2 ^ 30) (2 ^ 30) value (omega arith) (omega arith) h)
narrow-fits (text.Code value) h = ap (λ z. text.Code z) (narrow-within 0 (2 ^ 30) value (omega arith) (omega arith) h)
narrow-fits text.Nil h = refl
narrow-fits text.True h = refl
narrow-fits text.False h = refl
narrow-fits (text.Symbol name) h = refl
narrow-fits (text.Named name) h = refl
narrow-fits (text.Dictionary class) h = refl
narrow-fits (text.Values class) h = refl
narrow-fits (text.MethodOf class selector) h = refl

all-fits-narrow : (ms : List Mention) → list_all fits (map narrow_mention ms) ≡ list_all fits ms
all-fits-narrow [] = refl
all-fits-narrow (m ∷ ms) = rw (fits-narrow m, all-fits-narrow ms) refl

all-narrow-fits : (ms : List Mention) → list_all fits ms ≡ true → map narrow_mention ms ≡ ms
all-narrow-fits [] h = refl
all-narrow-fits (m ∷ ms) h = rw (narrow-fits m (left (fits m) (list_all fits ms) h), all-narrow-fits ms (right (fits m) (list_all fits ms) h)) refl

length-narrow : (ms : List Mention) → length (map narrow_mention ms) ≡ length ms
length-narrow [] = refl
length-narrow (m ∷ ms) = ap (λ n. suc n) (length-narrow ms)

-- ---- formats

format-high : (n : ℕ) → 24 < n → is_class_format (pos n) ≡ false
format-high n h = grind (arith, nat_tests)

format-narrow : (z : ℤ) → is_class_format (narrow z) ≡ is_class_format z
format-narrow (negsuc n) = refl
format-narrow (pos n) = by (nat_lt n 2147483647) refl
  where
    by : (b : Bool) → nat_lt n 2147483647 ≡ b → is_class_format (narrow (pos n)) ≡ is_class_format (pos n)
    by true e = ap is_class_format (narrow-small n (grind (arith, nat_tests)))
    by false e = ap is_class_format (narrow-wide n (grind (arith, nat_tests))) ∙ sym (format-high n (grind (arith, nat_tests)))

narrow-format : (z : ℤ) → is_class_format z ≡ true → narrow z ≡ z
narrow-format (negsuc n) h = absurd (false≢true h)
narrow-format (pos n) h = by (nat_lt n 2147483647) refl
  where
    by : (b : Bool) → nat_lt n 2147483647 ≡ b → narrow (pos n) ≡ pos n
    by true e = narrow-small n (grind (arith, nat_tests))
    by false e = absurd (false≢true (sym (format-high n (grind (arith, nat_tests))) ∙ h))

-- ---- methods

temporaries_few : (m : MethodLine) → most_temporaries m < 2147483647
temporaries_few m = by m.large
  where
    by : (large : Bool) → (if large then 56 else 16) < 2147483647
    by true = omega arith
    by false = omega arith

primitive-narrow : (p : Option ℤ) → option_map_or (is_between 0 65535) (option_map narrow p) true ≡ option_map_or (is_between 0 65535) p true
primitive-narrow None = refl
primitive-narrow (Some z) = between-narrow 0 65535 z (omega arith) (omega arith)

narrow-primitive : (p : Option ℤ) → option_map_or (is_between 0 65535) p true ≡ true → option_map narrow p ≡ p
narrow-primitive None h = refl
narrow-primitive (Some z) h = ap (λ k. Some k) (narrow-between 0 65535 z (omega arith) h)

-- the test of a method's numbers: arguments, temporaries with a highest number, and a primitive
abbrev numbers_fit : ℕ → ℤ → ℤ → Option ℤ → Bool
numbers_fit most a t p = is_between 0 15 a && is_between 0 most t && not (int_lt t a) && option_map_or (is_between 0 65535) p true

numbers-narrow : (most : ℕ) (a t : ℤ) (p : Option ℤ) → most < 2147483647
    → numbers_fit most (narrow a) (narrow t) (option_map narrow p) ≡ numbers_fit most a t p
numbers-narrow most a t p h =
    both _ _ _ _
    (both _ _ _ _
    (both _ _ _ _ (between-narrow 0 15 a (omega arith) (omega arith)) (λ k. between-narrow 0 most t (omega arith) h))
    (λ k. rw (narrow-between 0 15 a (omega arith) (left (is_between 0 15 a) (is_between 0 most t) k), narrow-between 0 most t h (right (is_between 0 15 a) (is_between 0 most t) k)) refl))
    (λ k. primitive-narrow p)

narrow-numbers : (most : ℕ) (a t : ℤ) (p : Option ℤ) → most < 2147483647 → numbers_fit most a t p ≡ true
    → (narrow a ≡ a) × ((narrow t ≡ t) × (option_map narrow p ≡ p))
narrow-numbers most a t p h is =
    let first = left (is_between 0 15 a && is_between 0 most t && not (int_lt t a)) (option_map_or (is_between 0 65535) p true) is in
    let two = left (is_between 0 15 a && is_between 0 most t) (not (int_lt t a)) first in (
      narrow-between 0 15 a (omega arith) (left (is_between 0 15 a) (is_between 0 most t) two),
      (
        narrow-between 0 most t h (right (is_between 0 15 a) (is_between 0 most t) two),
        narrow-primitive p (right (is_between 0 15 a && is_between 0 most t && not (int_lt t a)) (option_map_or (is_between 0 65535) p true) is),
      ),
    )

-- ---- instructions

op-narrow : (o : Option Op) → is_some (plain_bytes (narrow_op o)) ≡ is_some (plain_bytes o)
op-narrow o = by (is_some (plain_bytes o)) refl
  where
    by : (b : Bool) → is_some (plain_bytes o) ≡ b → is_some (plain_bytes (if b then o else None)) ≡ b
    by true e = e
    by false e = refl

narrow-op : (o : Option Op) → is_some (plain_bytes o) ≡ true → narrow_op o ≡ o
narrow-op o e = rw e refl

-- ---- closures

closure-copied : (n : ℕ) (args : ℤ) → 15 < n → is_some (closure_bytes (pos n) args (pos 0)) ≡ false
closure-copied n (pos a) h = let wide : nat_lt n 16 ≡ false = grind (arith, nat_tests) in rw wide refl
closure-copied n (negsuc a) h = refl

closure-args : (n : ℕ) (copied : ℤ) → 15 < n → is_some (closure_bytes copied (pos n) (pos 0)) ≡ false
closure-args n (negsuc c) h = refl
closure-args n (pos c) h = let wide : nat_lt n 16 ≡ false = grind (arith, nat_tests) in rw wide (by (nat_lt c 16) _)
  where
    by : (b : Bool) (bytes : List ℕ) → is_some (if b && (false && nat_lt 0 65536) then Some bytes else None) ≡ false
    by true bytes = refl
    by false bytes = refl

abbrev some : ℤ → ℤ → Bool
some x y = is_some (closure_bytes x y (pos 0))

closure-narrow : (copied args : ℤ) → is_some (closure_bytes (narrow copied) (narrow args) (pos 0)) ≡ is_some (closure_bytes copied args (pos 0))
closure-narrow (negsuc c) args = refl
closure-narrow (pos c) args = by (nat_lt c 2147483647) refl
  where
    byte : (a : ℤ) → some (pos c) (narrow a) ≡ some (pos c) a
    byte (negsuc a) = refl
    byte (pos a) = small (nat_lt a 2147483647) refl
      where
        small : (b : Bool) → nat_lt a 2147483647 ≡ b → some (pos c) (narrow (pos a)) ≡ some (pos c) (pos a)
        small true e = ap (some (pos c)) (narrow-small a (grind (arith, nat_tests)))
        small false e = ap (some (pos c)) (narrow-wide a (grind (arith, nat_tests))) ∙ closure-args 2147483647 (pos c) (omega arith) ∙ sym (closure-args a (pos c) (grind (arith, nat_tests)))

    by : (b : Bool) → nat_lt c 2147483647 ≡ b → some (narrow (pos c)) (narrow args) ≡ some (pos c) args
    by true e = ap (λ z. some z (narrow args)) (narrow-small c (grind (arith, nat_tests))) ∙ byte args
    by false e =
        ap (λ z. some z (narrow args)) (narrow-wide c (grind (arith, nat_tests)))
        ∙ closure-copied 2147483647 (narrow args) (omega arith) ∙ sym (closure-copied c args (grind (arith, nat_tests)))

narrow-closure : (copied args : ℤ) → is_some (closure_bytes copied args (pos 0)) ≡ true → (narrow copied ≡ copied) × (narrow args ≡ args)
narrow-closure (negsuc c) args h = absurd (false≢true h)
narrow-closure (pos c) (negsuc a) h = absurd (false≢true h)
narrow-closure (pos c) (pos a) h =
    (by c (nat_lt c 2147483647) refl (λ k. closure-copied c (pos a) k), by a (nat_lt a 2147483647) refl (λ k. closure-args a (pos c) k))
  where
    by : (n : ℕ) (b : Bool) → nat_lt n 2147483647 ≡ b → (15 < n → is_some (closure_bytes (pos c) (pos a) (pos 0)) ≡ false) → narrow (pos n) ≡ pos n
    by n true e none = narrow-small n (grind (arith, nat_tests))
    by n false e none = absurd (false≢true (sym (none (grind (arith, nat_tests))) ∙ h))

-- ---- forms

twice-narrow : (above : List Form) (f : Form) → is_twice above (narrow_form f) ≡ is_twice above f
twice-narrow above (text.Class line) = refl
twice-narrow above (text.Object name class slots) = refl
twice-narrow above (text.Bytes name class bytes) = refl
twice-narrow above (text.Method line) = refl
twice-narrow above (text.Process line) = refl
twice-narrow above (text.Special place value) = refl
twice-narrow above (text.Active name) = refl
twice-narrow above (text.Ready name) = refl
twice-narrow above (text.Literal value) = refl
twice-narrow above (text.Byte value) = refl
twice-narrow above (text.Label name) = refl
twice-narrow above (text.Plain o) = refl
twice-narrow above (text.JumpTo word label) = refl
twice-narrow above (text.ClosureTo copied args label) = refl
twice-narrow above text.End = refl

names-narrow : (above : List Form) (f : Form) → has_names above (narrow_form f) ≡ has_names above f
names-narrow above (text.Class line) = refl
names-narrow above (text.Object name class slots) = refl
names-narrow above (text.Bytes name class bytes) = refl
names-narrow above (text.Method line) = refl
names-narrow above (text.Process line) = refl
names-narrow above (text.Special place value) = refl
names-narrow above (text.Active name) = refl
names-narrow above (text.Ready name) = refl
names-narrow above (text.Literal value) = refl
names-narrow above (text.Byte value) = refl
names-narrow above (text.Label name) = refl
names-narrow above (text.Plain o) = refl
names-narrow above (text.JumpTo word label) = refl
names-narrow above (text.ClosureTo copied args label) = refl
names-narrow above text.End = refl

range-narrow : (above : List Form) (f : Form) → is_in_range above (narrow_form f) ≡ is_in_range above f
range-narrow above (text.Class line) =
    both _ _ _ _ (format-narrow line.format) (λ k. between-narrow 0 65535 line.fields (omega arith) (omega arith))
range-narrow above (text.Object name class slots) = both _ _ _ _ (all-fits-narrow slots) (λ k. ap (slots_fit above class) (length-narrow slots))
range-narrow above (text.Bytes name class bytes) = refl
range-narrow above (text.Method line) = numbers-narrow (most_temporaries line) line.arguments line.temporaries line.primitive (temporaries_few line)
range-narrow above (text.Process line) = both _ _ _ _ (between-narrow 1 8 line.priority (omega arith) (omega arith)) (λ k. fits-narrow line.receiver)
range-narrow above (text.Special place value) =
    both _ _ _ _
    (both _ _ _ _ (between-narrow 0 50 place (omega arith) (omega arith)) (λ k. ap not (between-narrow 3 3 place (omega arith) (omega arith))))
    (λ k. fits-narrow value)
range-narrow above (text.Active name) = refl
range-narrow above (text.Ready name) = refl
range-narrow above (text.Literal value) = both _ _ _ _ (fits-narrow value) (λ k. refl)
range-narrow above (text.Byte value) = between-narrow 0 255 value (omega arith) (omega arith)
range-narrow above (text.Label name) = refl
range-narrow above (text.Plain o) = op-narrow o
range-narrow above (text.JumpTo word label) = refl
range-narrow above (text.ClosureTo copied args label) = closure-narrow copied args
range-narrow above text.End = refl

class-same : (line : ClassLine) → narrow line.format ≡ line.format → narrow line.fields ≡ line.fields → narrow_class line ≡ line
class-same line e f = ap (λ (p : ℤ × ℤ). record line { format = p.0; fields = p.1 }) (λ i. (e i, f i))

method-same : (line : MethodLine) → narrow line.arguments ≡ line.arguments → narrow line.temporaries ≡ line.temporaries
    → option_map narrow line.primitive ≡ line.primitive → narrow_method line ≡ line
method-same line e f g = λ i. record line { arguments = e i; temporaries = f i; primitive = g i }

process-same : (line : ProcessLine) → narrow line.priority ≡ line.priority → narrow_mention line.receiver ≡ line.receiver → narrow_process line ≡ line
process-same line e f = λ i. record line { priority = e i; receiver = f i }

pub narrow-range : (above : List Form) (f : Form) → is_in_range above f ≡ true → narrow_form f ≡ f
narrow-range above (text.Class line) h =
    ap (λ l. text.Class l) (class-same line
    (narrow-format line.format (left (is_class_format line.format) (is_between 0 65535 line.fields) h))
    (narrow-between 0 65535 line.fields (omega arith) (right (is_class_format line.format) (is_between 0 65535 line.fields) h)))
narrow-range above (text.Object name class slots) h =
    ap (λ ms. text.Object name class ms) (all-narrow-fits slots (left (list_all fits slots) (slots_fit above class (length slots)) h))
narrow-range above (text.Bytes name class bytes) h = refl
narrow-range above (text.Method line) h =
    let same = narrow-numbers (most_temporaries line) line.arguments line.temporaries line.primitive (temporaries_few line) h in
    ap (λ l. text.Method l) (method-same line same.0 same.1.0 same.1.1)
narrow-range above (text.Process line) h =
    ap (λ l. text.Process l) (process-same line
    (narrow-between 1 8 line.priority (omega arith) (left (is_between 1 8 line.priority) (fits line.receiver) h))
    (narrow-fits line.receiver (right (is_between 1 8 line.priority) (fits line.receiver) h)))
narrow-range above (text.Special place value) h =
    let first = left (is_between 0 50 place && not (is_between 3 3 place)) (fits value) h in
    let e = narrow-between 0 50 place (omega arith) (left (is_between 0 50 place) (not (is_between 3 3 place)) first) in
    let f = narrow-fits value (right (is_between 0 50 place && not (is_between 3 3 place)) (fits value) h) in
    λ i. text.Special (e i) (f i)
narrow-range above (text.Active name) h = refl
narrow-range above (text.Ready name) h = refl
narrow-range above (text.Literal value) h = ap (λ m. text.Literal m) (narrow-fits value (left (fits value) (has_literal_room above) h))
narrow-range above (text.Byte value) h = ap (λ z. text.Byte z) (narrow-between 0 255 value (omega arith) h)
narrow-range above (text.Label name) h = refl
narrow-range above (text.Plain o) h = ap (λ p. text.Plain p) (narrow-op o h)
narrow-range above (text.JumpTo word label) h = refl
narrow-range above (text.ClosureTo copied args label) h =
    let same = narrow-closure copied args h in
    λ i. text.ClosureTo (same.0 i) (same.1 i) label
narrow-range above text.End h = refl

-- ---- faults of lines

abbrev fault_by : ℕ → Bool → Bool → Bool → Option BuildFault
fault_by number twice fit named =
    if twice then Some (fault.Twice number) else
    if not fit then Some (fault.BadRange number) else
    if not named then Some (fault.BadName number) else
    None

fault-narrow : (above : List Form) (number : ℕ) (f : Form) → form_fault above number (narrow_form f) ≡ form_fault above number f
fault-narrow above number f = λ i. fault_by number (twice-narrow above f i) (range-narrow above f i) (names-narrow above f i)

-- a line without fault names nothing a second time, and its numbers fit
pub none-tells : (above : List Form) (number : ℕ) (f : Form) → form_fault above number f ≡ None → (is_twice above f ≡ false) × (is_in_range above f ≡ true)
none-tells above number f h = by (is_twice above f) (is_in_range above f) (has_names above f) h
  where
    by : (twice fit named : Bool) → fault_by number twice fit named ≡ None → (twice ≡ false) × (fit ≡ true)
    by true fit named h = cc
    by false false named h = cc
    by false true named h = (refl, refl)

pub lines-narrow : (above : List Form) (lines : List (ℕ × Option Form)) → lines_fault above (map narrow_line lines) ≡ lines_fault above lines
lines-narrow above [] = refl
lines-narrow above (line ∷ lines) = go line.1 (λ a. lines-narrow a lines)
  where
    go : (o : Option Form) → ((a : List Form) → lines_fault a (map narrow_line lines) ≡ lines_fault a lines)
        → option_or (line_fault above line.0 (option_map narrow_form o)) (lines_fault (above ++ option_to_list (option_map narrow_form o)) (map narrow_line lines))
        ≡ option_or (line_fault above line.0 o) (lines_fault (above ++ option_to_list o) lines)
    go None rest = refl
    go (Some f) rest = by (form_fault above line.0 f) refl
      where
        by : (r : Option BuildFault) → form_fault above line.0 f ≡ r
            → option_or (form_fault above line.0 (narrow_form f)) (lines_fault (above ++ narrow_form f ∷ []) (map narrow_line lines))
            ≡ option_or (form_fault above line.0 f) (lines_fault (above ++ f ∷ []) lines)
        by (Some x) e =
            ap (λ r. option_or r (lines_fault (above ++ narrow_form f ∷ []) (map narrow_line lines))) (fault-narrow above line.0 f ∙ e)
            ∙ sym (ap (λ r. option_or r (lines_fault (above ++ f ∷ []) lines)) e)
        by None e =
            ap (λ r. option_or r (lines_fault (above ++ narrow_form f ∷ []) (map narrow_line lines))) (fault-narrow above line.0 f ∙ e)
            ∙ ap (λ g. lines_fault (above ++ g ∷ []) (map narrow_line lines)) (narrow-range above f (none-tells above line.0 f e).1)
            ∙ rest (above ++ f ∷ [])
            ∙ sym (ap (λ r. option_or r (lines_fault (above ++ f ∷ []) lines)) e)

-- lines without fault are the same with narrow numbers
pub lines-same : (above : List Form) (lines : List (ℕ × Option Form)) → lines_fault above lines ≡ None → map narrow_line lines ≡ lines
lines-same above [] h = refl
lines-same above (line ∷ lines) h = go line.1 refl (λ a k. lines-same a lines k) h
  where
    go : (o : Option Form) → line.1 ≡ o → ((a : List Form) → lines_fault a lines ≡ None → map narrow_line lines ≡ lines)
        → option_or (line_fault above line.0 o) (lines_fault (above ++ option_to_list o) lines) ≡ None
        → map narrow_line (line ∷ lines) ≡ line ∷ lines
    go None is same h = cc
    go (Some f) is rest h = by (form_fault above line.0 f) refl h
      where
        by : (r : Option BuildFault) → form_fault above line.0 f ≡ r → option_or r (lines_fault (above ++ f ∷ []) lines) ≡ None
            → map narrow_line (line ∷ lines) ≡ line ∷ lines
        by (Some x) e h = cc
        by None e h =
            let same : option_map narrow_form line.1 ≡ line.1 =
            ap (option_map narrow_form) is ∙ ap (λ g. Some g) (narrow-range above f (none-tells above line.0 f e).1) ∙ sym is in
            let others = rest (above ++ f ∷ []) h in
            λ i. (line.0, same i) ∷ others i

-- the first line that has no form
pub bad-line : (above : List Form) (lines rest : List (ℕ × Option Form)) (number : ℕ)
    → lines_fault above (lines ++ (number, None) ∷ rest) ≡ option_or (lines_fault above lines) (Some (fault.BadLine number))
bad-line above [] rest number = refl
bad-line above (line ∷ lines) rest number =
    go (line_fault above line.0 line.1) (bad-line (above ++ option_to_list line.1) lines rest number)
  where
    go : (r : Option BuildFault) → lines_fault (above ++ option_to_list line.1) (lines ++ (number, None) ∷ rest)
        ≡ option_or (lines_fault (above ++ option_to_list line.1) lines) (Some (fault.BadLine number))
        → option_or r (lines_fault (above ++ option_to_list line.1) (lines ++ (number, None) ∷ rest))
        ≡ option_or (option_or r (lines_fault (above ++ option_to_list line.1) lines)) (Some (fault.BadLine number))
    go None e = e
    go (Some x) e = refl
