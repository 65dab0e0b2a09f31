-- What can be wrong with a builder's text. Each line is judged against the lines above it, and references to what comes
-- later once all lines are read.
use Rattle.std.specs.Prelude.{ℕ, ℤ, pos, ◌+◌, ◌^◌, ◌-ℤ◌, ◌==◌, ◌&&◌, ◌||◌, not, Bool, true, false, nat_lt, int_lt, if◌then◌else◌, List, [], ◌∷◌, ◌++◌, length, find, flat_map, count_by, codes, decimal, Option, Some, None, is_some, is_none, option_map, option_and_then, option_to_list, unwrap_or}
use Rattle.std.specs.Option.{option_map_or, option_or}
use Rattle.std.specs.List.{list_any, list_all, before_first, after_last}
use Rattle.std.specs.Str.{bytes_eq}
use Rattle.cs_model.specs.declared.instruction.Op.{Op}
use Rattle.cs_model.specs.declared.instruction.Op.TheVariants as op
use Rattle.cs_model.specs.Ref.{natural_of}
use Rattle.cs_model.specs.Assemble.{has_form, bytes_of, is_within}
use Rattle.cs_model.specs.Text.{space, lines_of, is_too_long}
use Rattle.cs_model.specs.BuilderText.{Mention, Number, Code, Named, Dictionary, Values, MethodOf, ClassLine, MethodLine, ProcessLine, Form, Class, Object, Bytes, Method, Process, Special, Active, Ready, Literal, Byte, Label, Plain, JumpTo, ClosureTo, End, forms_from}

-- lines are counted from 1
pub data BuildFault : Type 0 where
  TooMany : BuildFault
  BadLine : (number : ℕ) → BuildFault
  Twice : (number : ℕ) → BuildFault
  BadRange : (number : ℕ) → BuildFault
  BadName : (number : ℕ) → BuildFault

-- the printed name of a fault, with its line
abbrev pub text_fault_name : BuildFault → List ℕ
text_fault_name TooMany = codes "TooMany"
text_fault_name (BadLine number) = codes "BadLine " ++ decimal number
text_fault_name (Twice number) = codes "Twice " ++ decimal number
text_fault_name (BadRange number) = codes "BadRange " ++ decimal number
text_fault_name (BadName number) = codes "BadName " ++ decimal number

-- ---- classes

abbrev pub known : List ℕ → Option (List ℕ) → ℕ → ℕ → ClassLine
known name super format fields =
    record { name = name; super = super; format = pos format; fields = pos fields }

abbrev pub kind_of_object : List ℕ → ℕ → ℕ → ClassLine
kind_of_object name format fields = known name (Some (codes "Object")) format fields

-- the classes that stand above every text
abbrev pub known_classes : List ClassLine
known_classes =
    known (codes "Object") None 0 0
    ∷ kind_of_object (codes "Class") 1 4
    ∷ kind_of_object (codes "UndefinedObject") 0 0
    ∷ kind_of_object (codes "False") 0 0
    ∷ kind_of_object (codes "Context") 3 6
    ∷ kind_of_object (codes "BlockClosure") 3 3
    ∷ kind_of_object (codes "True") 0 0
    ∷ kind_of_object (codes "SmallInteger") 7 0
    ∷ kind_of_object (codes "Character") 7 0
    ∷ kind_of_object (codes "Array") 2 0
    ∷ kind_of_object (codes "ByteString") 16 0
    ∷ known (codes "Symbol") (Some (codes "ByteString")) 16 0
    ∷ kind_of_object (codes "ByteArray") 16 0
    ∷ kind_of_object (codes "CompiledMethod") 24 0
    ∷ kind_of_object (codes "Message") 1 3
    ∷ kind_of_object (codes "Process") 1 4
    ∷ kind_of_object (codes "Semaphore") 1 3
    ∷ kind_of_object (codes "LinkedList") 1 2
    ∷ kind_of_object (codes "ProcessorScheduler") 1 2
    ∷ kind_of_object (codes "Association") 1 2
    ∷ kind_of_object (codes "MethodDictionary") 3 2
    ∷ kind_of_object (codes "Point") 1 2
    ∷ []

abbrev pub class_lines_in : Form → List ClassLine
class_lines_in (Class line) = line ∷ []
class_lines_in form = []

abbrev pub all_classes : List Form → List ClassLine
all_classes forms = known_classes ++ flat_map class_lines_in forms

abbrev pub class_named : List Form → List ℕ → Option ClassLine
class_named forms name = find (λ c. bytes_eq c.name name) (all_classes forms)

abbrev pub is_class_name : List Form → List ℕ → Bool
is_class_name forms name = is_some (class_named forms name)

-- ---- other things with names: classes, objects, bytes and processes share one space of names

abbrev pub names_in : Form → List (List ℕ)
names_in (Class line) = line.name ∷ []
names_in (Object name class slots) = name ∷ []
names_in (Bytes name class bytes) = name ∷ []
names_in (Process line) = line.name ∷ []
names_in form = []

abbrev pub is_named : List ℕ → Form → Bool
is_named name form = list_any (bytes_eq name) (names_in form)

abbrev pub is_taken : List Form → List ℕ → Bool
is_taken forms name = list_any (λ c. bytes_eq c.name name) known_classes || list_any (is_named name) forms

abbrev pub methods_in : Form → List MethodLine
methods_in (Method line) = line ∷ []
methods_in form = []

abbrev pub method_named : List Form → List ℕ → List ℕ → Option MethodLine
method_named forms class selector =
    find (λ m. bytes_eq m.class class && bytes_eq m.selector selector) (flat_map methods_in forms)

abbrev pub process_lines_in : Form → List ProcessLine
process_lines_in (Process line) = line ∷ []
process_lines_in form = []

abbrev pub is_process_name : List Form → List ℕ → Bool
is_process_name forms name = list_any (λ p. bytes_eq p.name name) (flat_map process_lines_in forms)

abbrev pub is_active_line : Form → Bool
is_active_line (Active name) = true
is_active_line form = false

abbrev pub is_method_line : Form → Bool
is_method_line (Method line) = true
is_method_line form = false

abbrev pub is_end_line : Form → Bool
is_end_line End = true
is_end_line form = false

abbrev pub is_label : List ℕ → Form → Bool
is_label name (Label label) = bytes_eq name label
is_label name form = false

abbrev pub is_literal : Form → Bool
is_literal (Literal value) = true
is_literal form = false

-- the lines behind the last line that begins a method
abbrev pub open_body : List Form → List Form
open_body forms = after_last is_method_line forms

-- ---- code

-- a form of so many bytes, if the instruction comes in it
abbrev pub form_bytes : ℕ → Op → Option (List ℕ)
form_bytes len o = if has_form len o then Some (bytes_of len o) else None

-- an instruction takes the first form that its numbers fit
abbrev pub first_bytes : Op → Option (List ℕ)
first_bytes o = option_and_then (λ len. form_bytes len o) (find (λ len. has_form len o) (1 ∷ 2 ∷ 3 ∷ 4 ∷ []))

abbrev pub plain_bytes : Option Op → Option (List ℕ)
plain_bytes instruction = option_and_then first_bytes instruction

abbrev pub jump_op : List ℕ → ℤ → Option Op
jump_op word offset =
    if bytes_eq word (codes "jump") then Some (op.Jump offset) else
    if bytes_eq word (codes "jumpTrue") then option_map (λ n. op.JumpTrue n) (natural_of offset) else
    option_map (λ n. op.JumpFalse n) (natural_of offset)

-- jumps always take two bytes
abbrev pub jump_code : List ℕ → ℤ → Option (List ℕ)
jump_code word offset = option_and_then (form_bytes 2) (jump_op word offset)

abbrev pub closure_bytes : ℤ → ℤ → ℤ → Option (List ℕ)
closure_bytes copied args size = option_and_then (λ c. option_and_then (λ a. option_and_then (λ n.
    form_bytes 4 (op.Closure c a n)) (natural_of size)) (natural_of args)) (natural_of copied)

-- how many bytes a line of a method makes
abbrev pub byte_count : Form → ℕ
byte_count (Byte value) = 1
byte_count (Plain instruction) = option_map_or length (plain_bytes instruction) 0
byte_count (JumpTo word label) = 2
byte_count (ClosureTo copied args label) = 4
byte_count form = 0

-- the place of the first form that passes, where each takes so much room
abbrev pub place_where : (Form → ℕ) → (Form → Bool) → ℕ → List Form → Option ℕ
place_where width passes place [] = None
place_where width passes place (form ∷ forms) =
    if passes form then Some place else place_where width passes (place + width form) forms

abbrev pub label_place : List Form → List ℕ → Option ℕ
label_place body label = place_where byte_count (is_label label) 0 body

-- the bytes of a line at a place of a body; a jump or a block goes from behind its instruction to its label
abbrev pub line_bytes : List Form → ℕ → Form → Option (List ℕ)
line_bytes body place (Byte value) = option_map (λ b. b ∷ []) (natural_of value)
line_bytes body place (Plain instruction) = plain_bytes instruction
line_bytes body place (JumpTo word label) =
    option_and_then (λ to. jump_code word (pos to -ℤ pos (place + 2))) (label_place body label)
line_bytes body place (ClosureTo copied args label) =
    option_and_then (λ to. closure_bytes copied args (pos to -ℤ pos (place + 4))) (label_place body label)
line_bytes body place form = Some []

abbrev pub code_from : List Form → ℕ → List Form → List ℕ
code_from body place [] = []
code_from body place (form ∷ forms) =
    unwrap_or (line_bytes body place form) [] ++ code_from body (place + byte_count form) forms

abbrev pub is_label_lost : List Form → Form → Bool
is_label_lost body (JumpTo word label) = is_none (label_place body label)
is_label_lost body (ClosureTo copied args label) = is_none (label_place body label)
is_label_lost body form = false

-- some jump or block from a place on has a label, and doesn't fit
abbrev pub has_misfit : List Form → ℕ → List Form → Bool
has_misfit body place [] = false
has_misfit body place (form ∷ forms) = not (is_label_lost body form) && is_none (line_bytes body place form)
    || has_misfit body (place + byte_count form) forms

-- ---- what stands above already

abbrev pub is_twice : List Form → Form → Bool
is_twice above (Method line) = is_some (method_named above line.class line.selector)
is_twice above (Active name) = list_any is_active_line above
is_twice above (Label name) = list_any (is_label name) (open_body above)
is_twice above form = list_any (is_taken above) (names_in form)

-- ---- numbers and counts

abbrev pub is_between : ℕ → ℕ → ℤ → Bool
is_between lowest highest n = is_within (pos lowest) (pos (highest + 1)) n

-- a SmallInteger has 31 bits, and a Character's code 30
abbrev pub fits : Mention → Bool
fits (Number value) = is_within (pos 0 -ℤ pos (2 ^ 30)) (pos (2 ^ 30)) value
fits (Code value) = is_within (pos 0) (pos (2 ^ 30)) value
fits m = true

-- the formats of which instances can be made, and that of methods
abbrev pub is_class_format : ℤ → Bool
is_class_format z = option_map_or (λ n. list_any (λ m. m == n)
    (0 ∷ 1 ∷ 2 ∷ 3 ∷ 4 ∷ 5 ∷ 9 ∷ 10 ∷ 12 ∷ 16 ∷ 24 ∷ [])) (natural_of z) false

-- no slots without fields, and else as many as there are fields, or more
abbrev pub may_have : ℕ → ClassLine → Bool
may_have count line = if is_between 0 0 line.format then count == 0 else not (int_lt (pos count) line.fields)

abbrev pub has_pointers : ClassLine → Bool
has_pointers line = is_between 0 5 line.format

abbrev pub slots_fit : List Form → List ℕ → ℕ → Bool
slots_fit above class count =
    option_map_or (λ c. not (has_pointers c) || may_have count c) (class_named above class) true

abbrev pub most_temporaries : MethodLine → ℕ
most_temporaries line = if line.large then 56 else 16

abbrev pub method_fits : MethodLine → Bool
method_fits line = is_between 0 15 line.arguments && is_between 0 (most_temporaries line) line.temporaries
    && not (int_lt line.temporaries line.arguments) && option_map_or (is_between 0 65535) line.primitive true

-- a method has at most 32,767 literals
abbrev pub has_literal_room : List Form → Bool
has_literal_room above = nat_lt (count_by is_literal (open_body above)) 32767

abbrev pub is_in_range : List Form → Form → Bool
is_in_range above (Class line) = is_class_format line.format && is_between 0 65535 line.fields
is_in_range above (Object name class slots) = list_all fits slots && slots_fit above class (length slots)
is_in_range above (Method line) = method_fits line
is_in_range above (Process line) = is_between 1 8 line.priority && fits line.receiver
is_in_range above (Special place value) = is_between 0 50 place && not (is_between 3 3 place) && fits value
is_in_range above (Literal value) = fits value && has_literal_room above
is_in_range above (Byte value) = is_between 0 255 value
is_in_range above (Plain instruction) = is_some (plain_bytes instruction)
is_in_range above (ClosureTo copied args label) = is_some (closure_bytes copied args (pos 0))
is_in_range above End = not (has_misfit (open_body above) 0 (open_body above))
is_in_range above form = true

-- ---- names that the form of a line needs

-- an object's class has pointers and isn't Context
abbrev pub is_object_class : ClassLine → Bool
is_object_class c = has_pointers c && not (bytes_eq c.name (codes "Context"))

abbrev pub is_bytes_class : ClassLine → Bool
is_bytes_class c = is_between 16 16 c.format

-- a process begins in a method without arguments
abbrev pub begins_process : MethodLine → Bool
begins_process m = is_between 0 0 m.arguments

abbrev pub has_names : List Form → Form → Bool
has_names above (Class line) = option_map_or (is_class_name above) line.super true
has_names above (Object name class slots) = option_map_or is_object_class (class_named above class) false
has_names above (Bytes name class bytes) = option_map_or is_bytes_class (class_named above class) false
has_names above (Method line) = is_class_name above line.class
has_names above (Process line) = option_map_or begins_process (method_named above line.class line.selector) false
has_names above (Active name) = is_process_name above name
has_names above (Ready name) = is_process_name above name
has_names above End = not (list_any (is_label_lost (open_body above)) (open_body above))
has_names above form = true

-- ---- the first fault of a line

abbrev pub form_fault : List Form → ℕ → Form → Option BuildFault
form_fault above number form =
    if is_twice above form then Some (Twice number) else
    if not (is_in_range above form) then Some (BadRange number) else
    if not (has_names above form) then Some (BadName number) else
    None

abbrev pub line_fault : List Form → ℕ → Option Form → Option BuildFault
line_fault above number None = Some (BadLine number)
line_fault above number (Some form) = form_fault above number form

abbrev pub lines_fault : List Form → List (ℕ × Option Form) → Option BuildFault
lines_fault above [] = None
lines_fault above (line ∷ lines) =
    option_or (line_fault above line.0 line.1) (lines_fault (above ++ option_to_list line.1) lines)

-- ---- the text

abbrev pub numbered_forms : List ℕ → List (ℕ × Option Form)
numbered_forms text = forms_from false 1 (lines_of text)

abbrev pub forms_of : List ℕ → List Form
forms_of text = flat_map (λ line. option_to_list line.1) (numbered_forms text)

-- the lines whose first word is class; the class table holds 16,332 classes of a text
abbrev pub class_lines : List ℕ → ℕ
class_lines text =
    count_by (λ line. bytes_eq (before_first (λ b. b == space) line) (codes "class")) (lines_of text)

abbrev pub is_too_much : List ℕ → Bool
is_too_much text = is_too_long text || nat_lt 16332 (class_lines text)

-- the last method has no end
abbrev pub is_open : List Form → Bool
is_open forms = list_any is_method_line forms && not (list_any is_end_line (open_body forms))

abbrev pub mentions_in : Form → List Mention
mentions_in (Object name class slots) = slots
mentions_in (Process line) = line.receiver ∷ []
mentions_in (Special place value) = value ∷ []
mentions_in (Literal value) = value ∷ []
mentions_in form = []

abbrev pub is_known : List Form → Mention → Bool
is_known forms (Named name) = is_taken forms name
is_known forms (Dictionary class) = is_class_name forms class
is_known forms (Values class) = is_class_name forms class
is_known forms (MethodOf class selector) = is_some (method_named forms class selector)
is_known forms m = true

abbrev pub all_known : List Form → Option Form → Bool
all_known forms line = option_map_or (λ form. list_all (is_known forms) (mentions_in form)) line true

-- the lowest line with a reference to something that the text doesn't have
abbrev pub mention_fault : List Form → List (ℕ × Option Form) → Option BuildFault
mention_fault forms lines =
    option_map (λ line. BadName line.0) (find (λ line. not (all_known forms line.1)) lines)

unfoldable pub text_fault : List ℕ → Option BuildFault
text_fault text =
    if is_too_much text then Some TooMany else
    option_or (lines_fault [] (numbered_forms text))
    (if is_open (forms_of text) then Some (BadLine (length (lines_of text) + 1)) else
    mention_fault (forms_of text) (numbered_forms text))
