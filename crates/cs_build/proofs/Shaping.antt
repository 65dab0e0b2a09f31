-- What a line of bytes says by its form alone: it stands in a method or outside, its symbols are of bytes, and only a line
-- whose first word is class makes a class.
use Rattle.std.proofs.Common.{◌≡◌, ℕ, ◌+◌, ◌-◌, ◌*◌, ◌≤◌, ◌<◌, ◌==◌, ◌&&◌, Bool, true, false, cond, List, [], ◌∷◌, Some, None, Option, length, take, suc, ap, sym, ◌∙◌, refl, arith, if◌then◌else◌}
use Rattle.std.specs.Prelude.{ℤ, not, codes, flat_map, filter, option_map, option_and_then, slice_index, IfSome}
use Rattle.std.specs.Option.{option_or}
use Rattle.std.specs.List.{AllByRecursion, after_first, before_first, onto_first, position_or_len, slice_split}
use Rattle.std.specs.Char.{digit_value, is_ascii_hexdigit}
use Rattle.std.specs.Str.{bytes_eq}
use Rattle.std.proofs.lemmas.Bool.Decides.{nat_tests}
use Rattle.cs_model.specs.declared.instruction.Op.{Op}
use Rattle.cs_model.specs.Text.{integer_in, is_empty, is_name, line_words, lines_in, parts_of, space}
use Rattle.cs_model.specs.BuilderText.{Mention, Form, Class, Object, Bytes, Method, Process, Special, Active, Ready, Literal, Byte, Label, Plain, JumpTo, ClosureTo, End, all_of, at_mention, bytes_form, bytes_in, class_form, class_line, closure_form, form_in, has_byte, hex_bytes, if_name, inner_form, is_inside, is_jump, is_trim, label_form, marked_mention, mention_in, method_form, method_line, method_mention, name_form, object_form, one_form, op_named, ops_of_one, ops_of_two, outer_form, part_mention, plain_form, plain_ops, process_form, process_line, primitive_given, behind_large, is_large, short_form, single_form, special_form, super_in, two_form}
use Rattle.cs_model.specs.BuilderText as text
use Rattle.cs_model.specs.BuilderFault.{class_lines_in}
use Rattle.cs_model.specs.Builder.{symbol_in, symbols_in}
use Rattle.cs_model.proofs.Same.{all-append}
use Rattle.cs_build.specs.Stored.{IsByte}
use Rattle.cs_build.specs.Judged.{HasBytes, is_inner}
use Rattle.cs_build.proofs.Gathering.{all_kept}

abbrev pub OfBytes : List ℕ → Type 0
OfBytes word = AllByRecursion IsByte word

-- a line that stands in a method or outside, and makes so many classes at most
pub record IsSaid (inside : Bool) (most : ℕ) (form : Form) : Type 0 where
  pub place : (if inside then is_inner form else not (is_inner form)) ≡ true
  pub classes : length (class_lines_in form) ≤ most
  pub symbols : AllByRecursion OfBytes (symbols_in form)
  pub bytes : HasBytes form

-- ---- what may be none

pub some_map : {A B : Type 0} (Q : A → Type 0) (P : B → Type 0) (f : A → B) (o : Option A) → IfSome o Q → ((x : A) → Q x → P (f x)) → IfSome (option_map f o) P
some_map Q P f None h each = tt
some_map Q P f (Some x) h each = each x h

pub some_any : {A B : Type 0} (P : B → Type 0) (f : A → B) (o : Option A) → ((x : A) → P (f x)) → IfSome (option_map f o) P
some_any P f None each = tt
some_any P f (Some x) each = each x

pub some_then : {A B : Type 0} (Q : A → Type 0) (P : B → Type 0) (f : A → Option B) (o : Option A) → IfSome o Q → ((x : A) → Q x → IfSome (f x) P)
    → IfSome (option_and_then f o) P
some_then Q P f None h each = tt
some_then Q P f (Some x) h each = each x h

pub then_any : {A B : Type 0} (P : B → Type 0) (f : A → Option B) (o : Option A) → ((x : A) → IfSome (f x) P) → IfSome (option_and_then f o) P
then_any P f None each = tt
then_any P f (Some x) each = each x

pub some_if : {A : Type 0} (P : A → Type 0) (b : Bool) (o p : Option A) → IfSome o P → IfSome p P → IfSome (if b then o else p) P
some_if P true o p h k = h
some_if P false o p h k = k

pub some_or : {A : Type 0} (P : A → Type 0) (o p : Option A) → IfSome o P → IfSome p P → IfSome (option_or o p) P
some_or P None p h k = k
some_or P (Some x) p h k = h

-- ---- references

abbrev NamesBytes : Mention → Type 0
NamesBytes m = AllByRecursion OfBytes (symbol_in m)

method_said : (name bytes : List ℕ) → IfSome (method_mention name bytes) NamesBytes
method_said name [] = tt
method_said name (b ∷ selector) = some_if NamesBytes (b == 62 && not (is_empty selector)) (if_name name (text.MethodOf name selector)) None
    (some_if NamesBytes (is_name name) _ _ tt tt) tt

part_said : (name part : List ℕ) → IfSome (part_mention name part) NamesBytes
part_said name part = some_if NamesBytes (bytes_eq part (codes "dict")) _ _ (some_if NamesBytes (is_name name) _ _ tt tt)
    (some_if NamesBytes (bytes_eq part (codes "values")) _ _ (some_if NamesBytes (is_name name) _ _ tt tt) tt)

at_said : (word : List ℕ) → IfSome (at_mention word) NamesBytes
at_said word = some_if NamesBytes (has_byte 62 word) _ _ (method_said (before_first (λ c. c == 62) word) (after_first (λ c. c == 62) word))
    (some_if NamesBytes (has_byte 46 word) _ _ (part_said (before_first (λ c. c == 46) word) (after_first (λ c. c == 46) word)) (some_if NamesBytes (is_name word) _ _ tt tt))

marked_said : (word : List ℕ) → OfBytes word → IfSome (marked_mention word) NamesBytes
marked_said [] units = tt
marked_said (b ∷ bytes) units = some_if NamesBytes (b == 36) _ _ (some_any NamesBytes (λ n. text.Code n) (integer_in bytes) (λ n. tt))
    (some_if NamesBytes (b == 35) _ _ (some_if NamesBytes (is_empty bytes) None (Some (text.Symbol bytes)) tt (units.1, tt))
    (some_if NamesBytes (b == 64) _ _ (at_said bytes) tt))

mention_said : (word : List ℕ) → OfBytes word → IfSome (mention_in word) NamesBytes
mention_said word units = some_if NamesBytes (bytes_eq word (codes "nil")) _ _ tt (some_if NamesBytes (bytes_eq word (codes "true")) _ _ tt
    (some_if NamesBytes (bytes_eq word (codes "false")) _ _ tt
    (some_or NamesBytes _ _ (some_any NamesBytes (λ n. text.Number n) (integer_in word) (λ n. tt)) (marked_said word units))))

mentions_said : (words : List (List ℕ)) → AllByRecursion OfBytes words → IfSome (all_of mention_in words) (λ ms. AllByRecursion OfBytes (flat_map symbol_in ms))
mentions_said [] units = tt
mentions_said (word ∷ words) units =
    some_then NamesBytes (λ ms. AllByRecursion OfBytes (flat_map symbol_in ms)) (λ m. option_map (λ ms. m ∷ ms) (all_of mention_in words)) (mention_in word)
    (mention_said word units.0)
    (λ m here. some_map (λ ms. AllByRecursion OfBytes (flat_map symbol_in ms)) (λ ms. AllByRecursion OfBytes (flat_map symbol_in ms)) (λ ms. m ∷ ms)
    (all_of mention_in words) (mentions_said words units.1) (λ ms rest. all-append OfBytes (symbol_in m) (flat_map symbol_in ms) here rest))

-- ---- lines outside of methods

class_said : (words : List (List ℕ)) → AllByRecursion OfBytes words → IfSome (class_form words) (IsSaid false 1)
class_said (name ∷ super ∷ format ∷ fields ∷ []) units =
    then_any (IsSaid false 1) _ (super_in super) (λ s. then_any (IsSaid false 1) _ (integer_in format) (λ f. then_any (IsSaid false 1) _ (integer_in fields)
    (λ n. some_if (IsSaid false 1) (is_name name) (Some (class_line name s f n)) None (record { place = refl; classes = omega arith; symbols = (units.0, tt); bytes = tt }) tt)))
class_said words units = tt

object_said : (words : List (List ℕ)) → AllByRecursion OfBytes words → IfSome (object_form words) (IsSaid false 0)
object_said (name ∷ class ∷ slots) units =
    some_then (λ ms. AllByRecursion OfBytes (flat_map symbol_in ms)) (IsSaid false 0) _ (all_of mention_in slots) (mentions_said slots units.1.1)
    (λ ms here. some_if (IsSaid false 0) (is_name name && is_name class) (Some (Object name class ms)) None
    (record { place = refl; classes = omega arith; symbols = here; bytes = tt }) tt)
object_said words units = tt

digit_few : (c : ℕ) → is_ascii_hexdigit c ≡ true → digit_value c < 16
digit_few c h = grind (arith, nat_tests, h)

hex_said : (word : List ℕ) → IfSome (hex_bytes word) OfBytes
hex_said [] = tt
hex_said (a ∷ []) = tt
hex_said (a ∷ b ∷ digits) = go (is_ascii_hexdigit a) (is_ascii_hexdigit b) (digit_few a) (digit_few b) (hex_said digits)
  where
    go : (p q : Bool) → (p ≡ true → digit_value a < 16) → (q ≡ true → digit_value b < 16) → IfSome (hex_bytes digits) OfBytes
        → IfSome (if p && q then option_map (λ bytes. (16 * digit_value a + digit_value b) ∷ bytes) (hex_bytes digits) else None) OfBytes
    go true true high low rest =
        let first : digit_value a < 16 = high refl in
        let second : digit_value b < 16 = low refl in
        some_map OfBytes OfBytes (λ bytes. (16 * digit_value a + digit_value b) ∷ bytes) (hex_bytes digits) rest (λ bytes all. (omega arith, all))
    go true false high low rest = tt
    go false q high low rest = tt

bytes_said : (words : List (List ℕ)) → IfSome (bytes_form words) (IsSaid false 0)
bytes_said (name ∷ class ∷ hex ∷ []) =
    some_then OfBytes (IsSaid false 0) _ (bytes_in hex) (some_if OfBytes (bytes_eq hex (codes "-")) _ _ tt (hex_said hex))
    (λ bytes all. some_if (IsSaid false 0) (is_name name && is_name class) (Some (Bytes name class bytes)) None
    (record { place = refl; classes = omega arith; symbols = tt; bytes = all }) tt)
bytes_said words = tt

method_line_said : (words : List (List ℕ)) → AllByRecursion OfBytes words → IfSome (method_form words) (IsSaid false 0)
method_line_said (class ∷ selector ∷ args ∷ temps ∷ words) units =
    then_any (IsSaid false 0) _ (integer_in args) (λ a. then_any (IsSaid false 0) _ (integer_in temps) (λ t. then_any (IsSaid false 0) _ (primitive_given (behind_large words))
    (λ p. some_if (IsSaid false 0) (is_name class) (Some (method_line class selector a t (is_large words) p)) None
    (record { place = refl; classes = omega arith; symbols = (units.1.0, tt); bytes = tt }) tt)))
method_line_said words units = tt

process_said : (words : List (List ℕ)) → AllByRecursion OfBytes words → IfSome (process_form words) (IsSaid false 0)
process_said (name ∷ priority ∷ class ∷ selector ∷ receiver ∷ []) units =
    then_any (IsSaid false 0) _ (integer_in priority) (λ p. some_then NamesBytes (IsSaid false 0) _ (mention_in receiver) (mention_said receiver units.1.1.1.1.0)
    (λ x here. some_if (IsSaid false 0) (is_name name && is_name class) (Some (process_line name p class selector x)) None
    (record { place = refl; classes = omega arith; symbols = all-append OfBytes (symbol_in x) [] here tt; bytes = tt }) tt))
process_said words units = tt

special_said : (words : List (List ℕ)) → AllByRecursion OfBytes words → IfSome (special_form words) (IsSaid false 0)
special_said (place ∷ value ∷ []) units =
    then_any (IsSaid false 0) _ (integer_in place) (λ k. some_map NamesBytes (IsSaid false 0) (λ x. Special k x) (mention_in value) (mention_said value units.1.0)
    (λ x here. record { place = refl; classes = omega arith; symbols = all-append OfBytes (symbol_in x) [] here tt; bytes = tt }))
special_said words units = tt

name_said : (form : List ℕ → Form) (words : List (List ℕ)) → ((name : List ℕ) → IsSaid false 0 (form name)) → IfSome (name_form form words) (IsSaid false 0)
name_said form (name ∷ []) each = some_if (IsSaid false 0) (is_name name) (Some (form name)) None (each name) tt
name_said form words each = tt

-- how many classes the words of a line may make
abbrev pub class_count : List (List ℕ) → ℕ
class_count [] = 0
class_count (word ∷ words) = cond (bytes_eq word (codes "class")) 1 0

outer_said : (words : List (List ℕ)) → AllByRecursion OfBytes words → IfSome (outer_form words) (IsSaid false (class_count words))
outer_said [] units = tt
outer_said (word ∷ words) units = go (bytes_eq word (codes "class"))
  where
    others : IfSome (if bytes_eq word (codes "object") then object_form words else
        if bytes_eq word (codes "bytes") then bytes_form words else
        if bytes_eq word (codes "method") then method_form words else
        if bytes_eq word (codes "process") then process_form words else
        if bytes_eq word (codes "special") then special_form words else
        if bytes_eq word (codes "active") then name_form (λ name. Active name) words else
        if bytes_eq word (codes "ready") then name_form (λ name. Ready name) words else
        None) (IsSaid false 0)
    others = some_if (IsSaid false 0) (bytes_eq word (codes "object")) _ _ (object_said words units.1)
        (some_if (IsSaid false 0) (bytes_eq word (codes "bytes")) _ _ (bytes_said words)
        (some_if (IsSaid false 0) (bytes_eq word (codes "method")) _ _ (method_line_said words units.1)
        (some_if (IsSaid false 0) (bytes_eq word (codes "process")) _ _ (process_said words units.1)
        (some_if (IsSaid false 0) (bytes_eq word (codes "special")) _ _ (special_said words units.1)
        (some_if (IsSaid false 0) (bytes_eq word (codes "active")) _ _
        (name_said (λ name. Active name) words (λ name. record { place = refl; classes = omega arith; symbols = tt; bytes = tt }))
        (some_if (IsSaid false 0) (bytes_eq word (codes "ready")) _ _
        (name_said (λ name. Ready name) words (λ name. record { place = refl; classes = omega arith; symbols = tt; bytes = tt })) tt))))))

    go : (b : Bool) → IfSome (if b then class_form words else
        if bytes_eq word (codes "object") then object_form words else
        if bytes_eq word (codes "bytes") then bytes_form words else
        if bytes_eq word (codes "method") then method_form words else
        if bytes_eq word (codes "process") then process_form words else
        if bytes_eq word (codes "special") then special_form words else
        if bytes_eq word (codes "active") then name_form (λ name. Active name) words else
        if bytes_eq word (codes "ready") then name_form (λ name. Ready name) words else
        None) (IsSaid false (cond b 1 0))
    go true = class_said words units.1
    go false = others

-- ---- lines of a method

plain_said : (o : Option Op) → IsSaid true 0 (Plain o)
plain_said o = record { place = refl; classes = omega arith; symbols = tt; bytes = tt }

label_said : (word : List ℕ) → IfSome (label_form word) (IsSaid true 0)
label_said [] = tt
label_said (b ∷ name) = some_if (IsSaid true 0) (b == 58 && is_name name) (Some (Label name)) None (record { place = refl; classes = omega arith; symbols = tt; bytes = tt }) tt

single_said : (word : List ℕ) → IfSome (single_form word) (IsSaid true 0)
single_said word = some_if (IsSaid true 0) (bytes_eq word (codes "end")) (Some End) _ (record { place = refl; classes = omega arith; symbols = tt; bytes = tt })
    (some_or (IsSaid true 0) (label_form word) (plain_form word) (label_said word)
    (some_any (IsSaid true 0) (λ o. Plain (Some o)) (op_named word plain_ops) (λ o. plain_said (Some o))))

one_said : (word : List ℕ) (n : ℤ) → IfSome (one_form word n) (IsSaid true 0)
one_said word n = some_if (IsSaid true 0) (bytes_eq word (codes "int")) _ _ (plain_said _)
    (some_any (IsSaid true 0) _ (op_named word (ops_of_one 0)) (λ any. plain_said _))

short_said : (word last : List ℕ) → OfBytes last → IfSome (short_form word last) (IsSaid true 0)
short_said word last units =
    some_if (IsSaid true 0) (is_jump word) _ _
    (some_if (IsSaid true 0) (is_name last) (Some (JumpTo word last)) None (record { place = refl; classes = omega arith; symbols = tt; bytes = tt }) tt)
    (some_if (IsSaid true 0) (bytes_eq word (codes "lit")) _ _
    (some_map NamesBytes (IsSaid true 0) (λ x. Literal x) (mention_in last) (mention_said last units)
    (λ x here. record { place = refl; classes = omega arith; symbols = all-append OfBytes (symbol_in x) [] here tt; bytes = tt }))
    (some_if (IsSaid true 0) (bytes_eq word (codes "byte")) _ _
    (some_any (IsSaid true 0) (λ n. Byte n) (integer_in last) (λ n. record { place = refl; classes = omega arith; symbols = tt; bytes = tt }))
    (then_any (IsSaid true 0) (one_form word) (integer_in last) (one_said word))))

closure_said : (word : List ℕ) (copied args : ℤ) (label : List ℕ) → IfSome (closure_form word copied args label) (IsSaid true 0)
closure_said word copied args label = some_if (IsSaid true 0) (bytes_eq word (codes "closure") && is_name label) (Some (ClosureTo copied args label)) None
    (record { place = refl; classes = omega arith; symbols = tt; bytes = tt }) tt

two_said : (word : List ℕ) (a b : ℤ) → IfSome (two_form word a b) (IsSaid true 0)
two_said word a b = some_any (IsSaid true 0) _ (op_named word (ops_of_two 0 0)) (λ any. plain_said _)

inner_said : (words : List (List ℕ)) → AllByRecursion OfBytes words → IfSome (inner_form words) (IsSaid true 0)
inner_said [] units = tt
inner_said (word ∷ []) units = single_said word
inner_said (word ∷ last ∷ []) units = short_said word last units.1.0
inner_said (word ∷ a ∷ b ∷ []) units =
    then_any (IsSaid true 0) _ (integer_in a) (λ i. then_any (IsSaid true 0) (two_form word i) (integer_in b) (two_said word i))
inner_said (word ∷ a ∷ b ∷ label ∷ []) units =
    then_any (IsSaid true 0) _ (integer_in a) (λ i. then_any (IsSaid true 0) _ (integer_in b) (λ j. closure_said word i j label))
inner_said words units = tt

-- ---- words

parts_bytes : (p : ℕ → Bool) (bytes : List ℕ) → OfBytes bytes → AllByRecursion OfBytes (slice_split p bytes)
parts_bytes p [] units = (tt, tt)
parts_bytes p (b ∷ bytes) units = go (p b) (slice_split p bytes) (parts_bytes p bytes units.1)
  where
    go : (e : Bool) (parts : List (List ℕ)) → AllByRecursion OfBytes parts → AllByRecursion OfBytes (cond e ([] ∷ parts) (onto_first b parts))
    go true parts all = (tt, all)
    go false [] all = ((units.0, tt), tt)
    go false (part ∷ parts) all = ((units.0, all.0), all.1)

pub lines_bytes : (text : List ℕ) → OfBytes text → AllByRecursion OfBytes (lines_in (slice_split (λ b. b == 10) text))
lines_bytes text units = go (slice_split (λ b. b == 10) text) (parts_bytes (λ b. b == 10) text units)
  where
    last : (part : List ℕ) (e : Bool) → OfBytes part → AllByRecursion OfBytes (if e then [] else part ∷ [])
    last part true all = tt
    last part false all = (all, tt)

    go : (parts : List (List ℕ)) → AllByRecursion OfBytes parts → AllByRecursion OfBytes (lines_in parts)
    go [] all = tt
    go (part ∷ []) all = last part (is_empty part) all.0
    go (part ∷ next ∷ parts) all = (all.0, go (next ∷ parts) all.1)

words_bytes : (line : List ℕ) → OfBytes line → AllByRecursion OfBytes (line_words line)
words_bytes line units = all_kept OfBytes (λ word. not (is_empty word)) (parts_of line) (parts_bytes (λ b. b == space) line units)

-- the first part
first_part : (p : ℕ → Bool) (bytes : List ℕ) → (parts : List (List ℕ)) × (slice_split p bytes ≡ before_first p bytes ∷ parts)
first_part p [] = ([], refl)
first_part p (b ∷ bytes) = go (p b) (first_part p bytes)
  where
    go : (e : Bool) → (parts : List (List ℕ)) × (slice_split p bytes ≡ before_first p bytes ∷ parts)
        → (parts : List (List ℕ)) × (cond e ([] ∷ slice_split p bytes) (onto_first b (slice_split p bytes)) ≡ take (cond (not e) (1 + position_or_len p bytes) 0) (b ∷ bytes) ∷ parts)
    go true rest = (slice_split p bytes, refl)
    go false rest =
        let on : suc (position_or_len p bytes) ≡ 1 + position_or_len p bytes = omega arith in
        (rest.0, ap (onto_first b) rest.1 ∙ ap (λ (n : ℕ). take n (b ∷ bytes) ∷ rest.0) on)

-- the first word of a line that begins with no space
first_word : (b : ℕ) (bytes : List ℕ) → (b == space) ≡ false
    → (words : List (List ℕ)) × (line_words (b ∷ bytes) ≡ before_first (λ c. c == space) (b ∷ bytes) ∷ words)
first_word b bytes h =
    let rest = first_part (λ c. c == space) bytes in
    let on : suc (position_or_len (λ c. c == space) bytes) ≡ 1 + position_or_len (λ c. c == space) bytes = omega arith in
    let filled : is_empty (b ∷ before_first (λ c. c == space) bytes) ≡ false = grind (arith, nat_tests) in (
      filter (λ word. not (is_empty word)) rest.0,
      ap (λ (e : Bool). filter (λ word. not (is_empty word)) (cond e ([] ∷ slice_split (λ c. c == space) bytes) (onto_first b (slice_split (λ c. c == space) bytes)))) h
          ∙ ap (λ (parts : List (List ℕ)). filter (λ word. not (is_empty word)) (onto_first b parts)) rest.1
          ∙ ap (λ (e : Bool). cond (not e) ((b ∷ before_first (λ c. c == space) bytes) ∷ filter (λ word. not (is_empty word)) rest.0) (filter (λ word. not (is_empty word)) rest.0)) filled
          ∙ ap (λ (n : ℕ). take n (b ∷ bytes) ∷ filter (λ word. not (is_empty word)) rest.0) on
          ∙ ap (λ (e : Bool). take (cond (not e) (1 + position_or_len (λ c. c == space) bytes) 0) (b ∷ bytes) ∷ filter (λ word. not (is_empty word)) rest.0) (sym h),
    )

-- ---- lines

abbrev pub begins_class : List ℕ → Bool
begins_class line = bytes_eq (before_first (λ b. b == space) line) (codes "class")

weaker : (inside : Bool) (few most : ℕ) (o : Option Form) → few ≤ most → IfSome o (IsSaid inside few) → IfSome o (IsSaid inside most)
weaker inside few most None le h = tt
weaker inside few most (Some form) le h = record { place = h.place; classes = omega (arith, h.classes, le); symbols = h.symbols; bytes = h.bytes }

few_classes : (line : List ℕ) → is_trim line ≡ true → class_count (line_words line) ≤ cond (begins_class line) 1 0
few_classes [] h = omega arith
few_classes (b ∷ bytes) h = go (b == space) refl h
  where
    go : (e : Bool) → (b == space) ≡ e → (not e && not (slice_index (b ∷ bytes) (length (b ∷ bytes) - 1) == space)) ≡ true
        → class_count (line_words (b ∷ bytes)) ≤ cond (begins_class (b ∷ bytes)) 1 0
    go true e h = absurd (cc)
    go false e h =
        let first = first_word b bytes e in
        rw first.1 (omega arith)

pub line_said : (inside : Bool) (line : List ℕ) → OfBytes line → IfSome (form_in inside line) (IsSaid inside (cond (begins_class line) 1 0))
line_said inside line units = go inside (is_trim line) (few_classes line)
  where
    go : (inside e : Bool) → (e ≡ true → class_count (line_words line) ≤ cond (begins_class line) 1 0)
        → IfSome (if e then (if inside then inner_form (line_words line) else outer_form (line_words line)) else None) (IsSaid inside (cond (begins_class line) 1 0))
    go inside false few = tt
    go true true few = weaker true 0 (cond (begins_class line) 1 0) (inner_form (line_words line)) (omega arith) (inner_said (line_words line) (words_bytes line units))
    go false true few = weaker false (class_count (line_words line)) (cond (begins_class line) 1 0) (outer_form (line_words line)) (few refl)
        (outer_said (line_words line) (words_bytes line units))
