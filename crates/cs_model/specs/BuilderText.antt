-- What each line of a builder's text says by its form alone: its first word, the count of its words, and where numbers,
-- names and references stand in it. What the numbers and names are good for is judged elsewhere.
use Rattle.std.specs.Prelude.{ℕ, ℤ, ◌+◌, ◌*◌, ◌==◌, ◌&&◌, ◌||◌, ◌-◌, slice_index, not, Bool, true, false, if◌then◌else◌, List, [], ◌∷◌, length, find, codes, Option, Some, None, option_map, option_and_then}
use Rattle.std.specs.Option.{option_or}
use Rattle.std.specs.List.{list_any, before_first, after_first}
use Rattle.std.specs.Char.{is_ascii_hexdigit, digit_value}
use Rattle.std.specs.Str.{bytes_eq}
use Rattle.cs_model.specs.declared.instruction.Op.{Op}
use Rattle.cs_model.specs.declared.instruction.Op.TheVariants.{PushRcvr, PushTemp, PushLit, PushLitVar, PopRcvr, PopTemp, PopLitVar, StoreRcvr, StoreTemp, StoreLitVar, PushSelf, PushTrue, PushFalse, PushNil, PushInt, ReturnSelf, ReturnTrue, ReturnFalse, ReturnNil, ReturnTop, BlockReturn, Send, SendSuper, Pop, Dup, ThisContext, NewArray, PopArray, PushVec, StoreVec, PopVec, Common}
use Rattle.cs_model.specs.declared.instruction.Op.TheVariants as op
use Rattle.cs_model.specs.Ref.{natural_of}
use Rattle.cs_model.specs.Assemble.{op_name}
use Rattle.cs_model.specs.Text.{space, is_empty, line_words, integer_in, is_name}

-- ---- references

-- a number, a character's code, nil, true, false, a symbol, a named thing, a class's dictionary, the array of its values,
-- or a method of it
pub data Mention : Type 0 where
  Number : (value : ℤ) → Mention
  Code : (value : ℤ) → Mention
  Nil : Mention
  True : Mention
  False : Mention
  Symbol : (name : List ℕ) → Mention
  Named : (name : List ℕ) → Mention
  Dictionary : (class : List ℕ) → Mention
  Values : (class : List ℕ) → Mention
  MethodOf : (class selector : List ℕ) → Mention

abbrev pub if_name : List ℕ → Mention → Option Mention
if_name name m = if is_name name then Some m else None

-- behind the at sign: a name, and a dot and a part, or two greater signs and a selector
abbrev pub part_mention : List ℕ → List ℕ → Option Mention
part_mention name part =
    if bytes_eq part (codes "dict") then if_name name (Dictionary name) else
    if bytes_eq part (codes "values") then if_name name (Values name) else
    None

abbrev pub method_mention : List ℕ → List ℕ → Option Mention
method_mention name [] = None
method_mention name (b ∷ selector) =
    if b == 62 && not (is_empty selector) then if_name name (MethodOf name selector) else None

abbrev pub has_byte : ℕ → List ℕ → Bool
has_byte b text = list_any (λ c. c == b) text

abbrev pub at_mention : List ℕ → Option Mention
at_mention text =
    if has_byte 62 text then method_mention (before_first (λ c. c == 62) text) (after_first (λ c. c == 62) text) else
    if has_byte 46 text then part_mention (before_first (λ c. c == 46) text) (after_first (λ c. c == 46) text) else
    if_name text (Named text)

-- the word that begins with a dollar sign, a number sign or an at sign
abbrev pub marked_mention : List ℕ → Option Mention
marked_mention [] = None
marked_mention (b ∷ bytes) =
    if b == 36 then option_map (λ n. Code n) (integer_in bytes) else
    if b == 35 then (if is_empty bytes then None else Some (Symbol bytes)) else
    if b == 64 then at_mention bytes else
    None

abbrev pub mention_in : List ℕ → Option Mention
mention_in word =
    if bytes_eq word (codes "nil") then Some Nil else
    if bytes_eq word (codes "true") then Some True else
    if bytes_eq word (codes "false") then Some False else
    option_or (option_map (λ n. Number n) (integer_in word)) (marked_mention word)

-- what all of these are, if each is something
abbrev pub all_of : {A : Type 0} → (List ℕ → Option A) → List (List ℕ) → Option (List A)
all_of read [] = Some []
all_of read (word ∷ words) = option_and_then (λ x. option_map (λ xs. x ∷ xs) (all_of read words)) (read word)

-- ---- forms

-- A class's super class is none where the text says nil. A method's primitive is none where it has none.
pub record ClassLine : Type 0 where
  pub name : List ℕ
  pub super : Option (List ℕ)
  pub format : ℤ
  pub fields : ℤ

pub record MethodLine : Type 0 where
  pub class : List ℕ
  pub selector : List ℕ
  pub arguments : ℤ
  pub temporaries : ℤ
  pub large : Bool
  pub primitive : Option ℤ

pub record ProcessLine : Type 0 where
  pub name : List ℕ
  pub priority : ℤ
  pub class : List ℕ
  pub selector : List ℕ
  pub receiver : Mention

-- The last seven stand in methods. An instruction is none where a number in it is negative that must not be. A jump has
-- its word, a closure its numbers, and both a label.
pub data Form : Type 0 where
  Class : (line : ClassLine) → Form
  Object : (name class : List ℕ) (slots : List Mention) → Form
  Bytes : (name class bytes : List ℕ) → Form
  Method : (line : MethodLine) → Form
  Process : (line : ProcessLine) → Form
  Special : (place : ℤ) (value : Mention) → Form
  Active : (name : List ℕ) → Form
  Ready : (name : List ℕ) → Form
  Literal : (value : Mention) → Form
  Byte : (value : ℤ) → Form
  Label : (name : List ℕ) → Form
  Plain : (op : Option Op) → Form
  JumpTo : (word label : List ℕ) → Form
  ClosureTo : (copied args : ℤ) (label : List ℕ) → Form
  End : Form

-- ---- lines that stand outside of methods

abbrev pub super_in : List ℕ → Option (Option (List ℕ))
super_in word = if bytes_eq word (codes "nil") then Some None else (if is_name word then Some (Some word) else None)

abbrev pub class_line : List ℕ → Option (List ℕ) → ℤ → ℤ → Form
class_line name super format fields =
    Class (record { name = name; super = super; format = format; fields = fields })

abbrev pub class_form : List (List ℕ) → Option Form
class_form (name ∷ super ∷ format ∷ fields ∷ []) = option_and_then (λ s. option_and_then (λ f.
    option_and_then (λ n. if is_name name then Some (class_line name s f n) else None)
    (integer_in fields)) (integer_in format)) (super_in super)
class_form words = None

abbrev pub object_form : List (List ℕ) → Option Form
object_form (name ∷ class ∷ slots) =
    option_and_then (λ xs. if is_name name && is_name class then Some (Object name class xs) else None)
    (all_of mention_in slots)
object_form words = None

-- pairs of hex digits
abbrev pub hex_bytes : List ℕ → Option (List ℕ)
hex_bytes [] = Some []
hex_bytes (a ∷ []) = None
hex_bytes (a ∷ b ∷ digits) = if is_ascii_hexdigit a && is_ascii_hexdigit b
    then option_map (λ bytes. (16 * digit_value a + digit_value b) ∷ bytes) (hex_bytes digits) else None

abbrev pub bytes_in : List ℕ → Option (List ℕ)
bytes_in word = if bytes_eq word (codes "-") then Some [] else hex_bytes word

abbrev pub bytes_form : List (List ℕ) → Option Form
bytes_form (name ∷ class ∷ hex ∷ []) =
    option_and_then (λ bytes. if is_name name && is_name class then Some (Bytes name class bytes) else None) (bytes_in hex)
bytes_form words = None

-- nothing, or a primitive's number
abbrev pub primitive_given : List (List ℕ) → Option (Option ℤ)
primitive_given [] = Some None
primitive_given (word ∷ number ∷ []) =
    if bytes_eq word (codes "prim") then option_map (λ n. Some n) (integer_in number) else None
primitive_given words = None

-- the words behind the temporaries: large, and a primitive
abbrev pub is_large : List (List ℕ) → Bool
is_large [] = false
is_large (word ∷ words) = bytes_eq word (codes "large")

abbrev pub behind_large : List (List ℕ) → List (List ℕ)
behind_large [] = []
behind_large (word ∷ words) = if bytes_eq word (codes "large") then words else word ∷ words

abbrev pub method_line : List ℕ → List ℕ → ℤ → ℤ → Bool → Option ℤ → Form
method_line class selector arguments temporaries large primitive = Method (record {
  class = class;
  selector = selector;
  arguments = arguments;
  temporaries = temporaries;
  large = large;
  primitive = primitive;
})

abbrev pub method_form : List (List ℕ) → Option Form
method_form (class ∷ selector ∷ args ∷ temps ∷ words) = option_and_then (λ a. option_and_then (λ t. option_and_then (λ p.
    if is_name class then Some (method_line class selector a t (is_large words) p) else None)
    (primitive_given (behind_large words))) (integer_in temps)) (integer_in args)
method_form words = None

abbrev pub process_line : List ℕ → ℤ → List ℕ → List ℕ → Mention → Form
process_line name priority class selector receiver =
    Process (record { name = name; priority = priority; class = class; selector = selector; receiver = receiver })

abbrev pub process_form : List (List ℕ) → Option Form
process_form (name ∷ priority ∷ class ∷ selector ∷ receiver ∷ []) = option_and_then (λ p. option_and_then (λ x.
    if is_name name && is_name class then Some (process_line name p class selector x) else None)
    (mention_in receiver)) (integer_in priority)
process_form words = None

abbrev pub special_form : List (List ℕ) → Option Form
special_form (place ∷ value ∷ []) =
    option_and_then (λ k. option_map (λ x. Special k x) (mention_in value)) (integer_in place)
special_form words = None

-- one name
abbrev pub name_form : (List ℕ → Form) → List (List ℕ) → Option Form
name_form form (name ∷ []) = if is_name name then Some (form name) else None
name_form form words = None

abbrev pub outer_form : List (List ℕ) → Option Form
outer_form [] = None
outer_form (word ∷ words) =
    if bytes_eq word (codes "class") then class_form words else
    if bytes_eq word (codes "object") then object_form words else
    if bytes_eq word (codes "bytes") then bytes_form words else
    if bytes_eq word (codes "method") then method_form words else
    if bytes_eq word (codes "process") then process_form words else
    if bytes_eq word (codes "special") then special_form words else
    if bytes_eq word (codes "active") then name_form (λ name. Active name) words else
    if bytes_eq word (codes "ready") then name_form (λ name. Ready name) words else
    None

-- ---- lines of a method

-- the instructions without numbers, with one and with two numbers that aren't negative
abbrev pub plain_ops : List Op
plain_ops = PushSelf ∷ PushTrue ∷ PushFalse ∷ PushNil ∷ ReturnSelf ∷ ReturnTrue ∷ ReturnFalse ∷ ReturnNil ∷ ReturnTop
    ∷ BlockReturn ∷ Pop ∷ Dup ∷ ThisContext ∷ []

abbrev pub ops_of_one : ℕ → List Op
ops_of_one n = PushRcvr n ∷ PushTemp n ∷ PushLit n ∷ PushLitVar n ∷ PopRcvr n ∷ PopTemp n ∷ PopLitVar n ∷ StoreRcvr n
    ∷ StoreTemp n ∷ StoreLitVar n ∷ NewArray n ∷ PopArray n ∷ op.Special n ∷ Common n ∷ []

abbrev pub ops_of_two : ℕ → ℕ → List Op
ops_of_two a b = Send a b ∷ SendSuper a b ∷ PushVec a b ∷ StoreVec a b ∷ PopVec a b ∷ []

-- the one of that word
abbrev pub op_named : List ℕ → List Op → Option Op
op_named word ops = find (λ o. bytes_eq (op_name o) word) ops

abbrev pub plain_form : List ℕ → Option Form
plain_form word = option_map (λ o. Plain (Some o)) (op_named word plain_ops)

abbrev pub one_form : List ℕ → ℤ → Option Form
one_form word n =
    if bytes_eq word (codes "int") then Some (Plain (Some (PushInt n))) else
    option_map (λ any. Plain (option_and_then (λ i. op_named word (ops_of_one i)) (natural_of n))) (op_named word (ops_of_one 0))

abbrev pub two_form : List ℕ → ℤ → ℤ → Option Form
two_form word a b = option_map (λ any. Plain (option_and_then (λ i. option_and_then (λ j. op_named word (ops_of_two i j))
    (natural_of b)) (natural_of a))) (op_named word (ops_of_two 0 0))

abbrev pub is_jump : List ℕ → Bool
is_jump word = bytes_eq word (codes "jump") || bytes_eq word (codes "jumpTrue") || bytes_eq word (codes "jumpFalse")

-- an instruction with one word behind it: a label, a reference or a number
abbrev pub short_form : List ℕ → List ℕ → Option Form
short_form word last =
    if is_jump word then (if is_name last then Some (JumpTo word last) else None) else
    if bytes_eq word (codes "lit") then option_map (λ x. Literal x) (mention_in last) else
    if bytes_eq word (codes "byte") then option_map (λ n. Byte n) (integer_in last) else
    option_and_then (one_form word) (integer_in last)

abbrev pub closure_form : List ℕ → ℤ → ℤ → List ℕ → Option Form
closure_form word copied args label =
    if bytes_eq word (codes "closure") && is_name label then Some (ClosureTo copied args label) else None

-- a label stands behind a colon
abbrev pub label_form : List ℕ → Option Form
label_form [] = None
label_form (b ∷ name) = if b == 58 && is_name name then Some (Label name) else None

abbrev pub single_form : List ℕ → Option Form
single_form word = if bytes_eq word (codes "end") then Some End else option_or (label_form word) (plain_form word)

abbrev pub inner_form : List (List ℕ) → Option Form
inner_form [] = None
inner_form (word ∷ []) = single_form word
inner_form (word ∷ last ∷ []) = short_form word last
inner_form (word ∷ a ∷ b ∷ []) = option_and_then (λ i. option_and_then (two_form word i) (integer_in b)) (integer_in a)
inner_form (word ∷ a ∷ b ∷ label ∷ []) =
    option_and_then (λ i. option_and_then (λ j. closure_form word i j label) (integer_in b)) (integer_in a)
inner_form words = None

-- ---- lines

-- no space stands before the first word or behind the last
abbrev pub is_trim : List ℕ → Bool
is_trim line = not (slice_index line 0 == space) && not (slice_index line (length line - 1) == space)

abbrev pub form_in : Bool → List ℕ → Option Form
form_in inside line =
    if is_trim line then (if inside then inner_form (line_words line) else outer_form (line_words line)) else None

-- empty lines and lines that begin with a number sign say nothing
abbrev pub is_skipped : List ℕ → Bool
is_skipped line = is_empty line || slice_index line 0 == 35

-- whether the line behind this form stands in a method
abbrev pub is_inside : Bool → Option Form → Bool
is_inside inside (Some (Method line)) = true
is_inside inside (Some End) = false
is_inside inside form = inside

-- the lines that say something, from a number on, each with its number and its form, if it has one
abbrev pub forms_from : Bool → ℕ → List (List ℕ) → List (ℕ × Option Form)
forms_from inside number [] = []
forms_from inside number (line ∷ lines) =
    if is_skipped line then forms_from inside (number + 1) lines else
    (number, form_in inside line) ∷ forms_from (is_inside inside (form_in inside line)) (number + 1) lines
