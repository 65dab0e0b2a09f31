-- What the code keeps of the numbers of a line: a number beyond 32 bits becomes the nearest of 32 bits, and an instruction
-- that comes in no form becomes none. No line with such a number is without fault.
use Rattle.std.specs.Prelude.{ℕ, ℤ, List, [], ◌∷◌, Option, None, Some, codes, map, option_map, option_and_then, is_some, nat_lt, if◌then◌else◌}
use Rattle.std.specs.Int.{saturate_signed, w32}
use Rattle.std.specs.Prelude.{◌≡◌}
use Rattle.std.specs.Borrow.{Bor}
use Rattle.cs_build.specs.declared.form.Form as code
use Rattle.cs_build.specs.declared.form.Mention as code_mention
use Rattle.cs_build.specs.Meaning.{form_by, mention_by}
use Rattle.cs_model.specs.declared.instruction.Op.{Op}
use Rattle.cs_model.specs.Ref.{natural_of}
use Rattle.cs_model.specs.BuilderFault.{plain_bytes}
use Rattle.cs_model.specs.BuilderText.{Mention, Number, Code, ClassLine, MethodLine, ProcessLine, Form, Class, Object, Method, Process, Special, Active, Ready, Literal, Byte, Plain, ClosureTo, method_form, process_form, special_form, name_form, one_form, two_form}
use Rattle.cs_model.specs.Text.{is_name}
use Rattle.std.specs.Str.{bytes_eq}

abbrev pub narrow : ℤ → ℤ
narrow z = saturate_signed w32 z

abbrev pub narrow_mention : Mention → Mention
narrow_mention (Number value) = Number (narrow value)
narrow_mention (Code value) = Code (narrow value)
narrow_mention m = m

abbrev pub narrow_class : ClassLine → ClassLine
narrow_class line = record line { format = narrow line.format; fields = narrow line.fields }

abbrev pub narrow_method : MethodLine → MethodLine
narrow_method line = record line {
  arguments = narrow line.arguments;
  temporaries = narrow line.temporaries;
  primitive = option_map narrow line.primitive;
}

abbrev pub narrow_process : ProcessLine → ProcessLine
narrow_process line = record line { priority = narrow line.priority; receiver = narrow_mention line.receiver }

abbrev pub narrow_op : Option Op → Option Op
narrow_op o = if is_some (plain_bytes o) then o else None

abbrev pub narrow_form : Form → Form
narrow_form (Class line) = Class (narrow_class line)
narrow_form (Object name class slots) = Object name class (map narrow_mention slots)
narrow_form (Method line) = Method (narrow_method line)
narrow_form (Process line) = Process (narrow_process line)
narrow_form (Special place value) = Special (narrow place) (narrow_mention value)
narrow_form (Literal value) = Literal (narrow_mention value)
narrow_form (Byte value) = Byte (narrow value)
narrow_form (Plain o) = Plain (narrow_op o)
narrow_form (ClosureTo copied args label) = ClosureTo (narrow copied) (narrow args) label
narrow_form form = form

-- a number that fits a byte
abbrev pub narrow_byte : ℤ → Option ℕ
narrow_byte z = option_and_then (λ n. if nat_lt n 256 then Some n else None) (natural_of z)

-- a byte of code or an instruction with one number, where the number may be none
abbrev pub numbered : List ℕ → Option ℤ → Option Form
numbered word number =
    if bytes_eq word (codes "byte") then option_map (λ n. Byte n) number else option_and_then (one_form word) number

-- an instruction with two numbers, either of which may be none
abbrev pub two_numbered : List ℕ → Option ℤ → Option ℤ → Option Form
two_numbered word a b = option_and_then (λ i. option_and_then (two_form word i) b) a

-- the words of a line without where they lie
abbrev pub word_texts : List (Bor (List ℕ)) → List (List ℕ)
word_texts words = map (λ word. word.now) words

-- what the code reads is what the model reads, with narrow numbers
abbrev pub Reads : Option code.Form → Option Form → Type 0
Reads read form = option_map form_by read ≡ option_map narrow_form form

abbrev pub ReadsMention : Option code_mention.Mention → Option Mention → Type 0
ReadsMention read mention = option_map mention_by read ≡ option_map narrow_mention mention

-- the one word of a line, if it is a name
abbrev pub lone_name : List (List ℕ) → Option (List ℕ)
lone_name (name ∷ []) = if is_name name then Some name else None
lone_name words = None

-- the forms of lines outside of methods behind those of classes and objects
abbrev pub plain_outer : List ℕ → List (List ℕ) → Option Form
plain_outer word words =
    if bytes_eq word (codes "method") then method_form words else
    if bytes_eq word (codes "process") then process_form words else
    if bytes_eq word (codes "special") then special_form words else
    if bytes_eq word (codes "active") then name_form (λ name. Active name) words else
    if bytes_eq word (codes "ready") then name_form (λ name. Ready name) words else
    None
