-- The state that a builder's text describes, or the text's first fault. An object's birth is its place among all objects:
-- the sixteen first ones, the known classes, what the text makes, a dictionary and an array of values a class, the symbols.
use Rattle.std.specs.Prelude.{ℕ, ℤ, pos, ◌+◌, ◌-◌, ◌*◌, ◌/◌, ◌%◌, ◌^◌, ◌+ℤ◌, ◌*ℤ◌, ◌==◌, ◌&&◌, ◌||◌, Bool, false, nat_lt, if◌then◌else◌, List, [], ◌∷◌, ◌++◌, length, map, replicate, reverse, filter, filter_map, flat_map, fold, find, position, sum_by, codes, Option, Some, None, is_some, option_map, option_and_then, unwrap_or, slice_index, slice_set, Result, Ok, Err}
use Rattle.std.specs.Option.{option_map_or, option_or}
use Rattle.std.specs.List.{list_any, before_first, range_with_len, enumerate_from}
use Rattle.std.specs.Str.{bytes_eq}
use Rattle.std.specs.Ordering.{nat_cmp}
use Rattle.std.specs.FinMap.{FinMap, insert, from_entries}
use Rattle.cs_model.specs.Ref.{Ref, Small, Char, natural_of}
use Rattle.cs_model.specs.Ref as ref
use Rattle.cs_model.specs.Obj.{Obj, Head, Context, Ptr, Raw, Ctx, new_head, given_hash, first_pc, context_size}
use Rattle.cs_model.specs.Obj as obj
use Rattle.cs_model.specs.State.{Kept, Rest}
use Rattle.cs_model.specs.Words.{plain_format}
use Rattle.cs_model.specs.BuilderText.{Mention, Number, Code, Nil, True, False, Symbol, Named, Dictionary, Values, MethodOf, ClassLine, MethodLine, ProcessLine, Form, Class, Object, Bytes, Method, Process, Special, Active, Ready}
use Rattle.cs_model.specs.BuilderFault.{BuildFault, text_fault, forms_of, known_classes, all_classes, class_named, is_named, is_end_line, is_literal, mentions_in, code_from, place_where}
use Rattle.cs_model.specs.Text.{first_that}

-- ---- the order of objects

-- nil, false and true; the special-object array; the special selectors; an association to the scheduler; the scheduler;
-- its array of lists; eight lists, by priority
abbrev pub first_list : ℕ
first_list = 8

abbrev pub first_class : ℕ
first_class = 16

-- all that is made behind those, in order: the known classes, and then what the text has
abbrev pub all_forms : List Form → List Form
all_forms forms = map (λ c. Class c) known_classes ++ forms

-- how many objects a line makes; a process comes with its context, which is the first of the two
abbrev pub object_count : Form → ℕ
object_count (Class line) = 1
object_count (Object name class slots) = 1
object_count (Bytes name class bytes) = 1
object_count (Method line) = 1
object_count (Process line) = 2
object_count form = 0

abbrev pub birth_where : List Form → (Form → Bool) → Option ℕ
birth_where forms passes = place_where object_count passes first_class (all_forms forms)

abbrev pub first_dictionary : List Form → ℕ
first_dictionary forms = first_class + sum_by object_count (all_forms forms)

-- the place of a class among all classes
abbrev pub class_place : List Form → List ℕ → Option ℕ
class_place forms name = position (λ c. bytes_eq c.name name) (all_classes forms)

abbrev pub dictionary_birth : List Form → ℕ → ℕ
dictionary_birth forms place = first_dictionary forms + 2 * place

abbrev pub values_birth : List Form → ℕ → ℕ
values_birth forms place = dictionary_birth forms place + 1

abbrev pub first_symbol : List Form → ℕ
first_symbol forms = dictionary_birth forms (length (all_classes forms))

-- ---- symbols

-- the special selectors, each with its number of arguments
abbrev pub selector_names : List (List ℕ × ℕ)
selector_names =
    (codes "+", 1) ∷ (codes "-", 1) ∷ (codes "<", 1) ∷ (codes ">", 1) ∷ (codes "<=", 1) ∷ (codes ">=", 1)
    ∷ (codes "=", 1) ∷ (codes "~=", 1) ∷ (codes "*", 1) ∷ (codes "/", 1) ∷ (codes "\\\\", 1) ∷ (codes "@", 1)
    ∷ (codes "bitShift:", 1) ∷ (codes "//", 1) ∷ (codes "bitAnd:", 1) ∷ (codes "bitOr:", 1)
    ∷ (codes "at:", 1) ∷ (codes "at:put:", 2) ∷ (codes "size", 0) ∷ (codes "next", 0) ∷ (codes "nextPut:", 1)
    ∷ (codes "atEnd", 0) ∷ (codes "==", 1) ∷ (codes "class", 0) ∷ (codes "blockCopy:", 1) ∷ (codes "value", 0)
    ∷ (codes "value:", 1) ∷ (codes "do:", 1) ∷ (codes "new", 0) ∷ (codes "new:", 1) ∷ (codes "x", 0) ∷ (codes "y", 0) ∷ []

-- the special objects that are symbols, by their places
abbrev pub special_symbols : List (ℕ × List ℕ)
special_symbols = (20, codes "doesNotUnderstand:") ∷ (21, codes "cannotReturn:") ∷ (25, codes "mustBeBoolean")
    ∷ (48, codes "aboutToReturn:through:") ∷ (50, codes "attemptToAssign:withIndex:") ∷ []

abbrev pub symbol_in : Mention → List (List ℕ)
symbol_in (Symbol name) = name ∷ []
symbol_in m = []

-- the symbols that a line mentions: a class's name, a method's selector, and those that it refers to
abbrev pub symbols_in : Form → List (List ℕ)
symbols_in (Class line) = line.name ∷ []
symbols_in (Method line) = line.selector ∷ []
symbols_in form = flat_map symbol_in (mentions_in form)

abbrev pub with_new : List (List ℕ) → List ℕ → List (List ℕ)
with_new names name = if list_any (bytes_eq name) names then names else names ++ name ∷ []

-- each symbol once, in the order of first mention
abbrev pub symbols_of : List Form → List (List ℕ)
symbols_of forms = fold with_new [] (map (λ e. e.0) selector_names ++ map (λ e. e.1) special_symbols
    ++ flat_map symbols_in (all_forms forms))

abbrev pub symbol_ref : List Form → List ℕ → Ref
symbol_ref forms name = ref.Obj (first_symbol forms + unwrap_or (position (bytes_eq name) (symbols_of forms)) 0)

-- ---- references

abbrev pub nil_ref : Ref
nil_ref = ref.Obj 0

abbrev pub obj_or_nil : Option ℕ → Ref
obj_or_nil birth = option_map_or (λ i. ref.Obj i) birth nil_ref

abbrev pub is_process_named : List ℕ → Form → Bool
is_process_named name (Process line) = bytes_eq line.name name
is_process_named name form = false

-- the name of a process is that of the second of its objects
abbrev pub process_birth : List Form → List ℕ → Option ℕ
process_birth forms name = option_map (λ i. i + 1) (birth_where forms (is_process_named name))

abbrev pub named_birth : List Form → List ℕ → Option ℕ
named_birth forms name = option_or (process_birth forms name) (birth_where forms (is_named name))

abbrev pub class_ref : List Form → List ℕ → Ref
class_ref forms name = obj_or_nil (named_birth forms name)

abbrev pub is_method_of : List ℕ → List ℕ → Form → Bool
is_method_of class selector (Method line) = bytes_eq line.class class && bytes_eq line.selector selector
is_method_of class selector form = false

abbrev pub method_birth : List Form → List ℕ → List ℕ → Option ℕ
method_birth forms class selector = birth_where forms (is_method_of class selector)

abbrev pub mention_ref : List Form → Mention → Ref
mention_ref forms (Number value) = Small value
mention_ref forms (Code value) = Char (unwrap_or (natural_of value) 0)
mention_ref forms Nil = nil_ref
mention_ref forms False = ref.Obj 1
mention_ref forms True = ref.Obj 2
mention_ref forms (Symbol name) = symbol_ref forms name
mention_ref forms (Named name) = obj_or_nil (named_birth forms name)
mention_ref forms (Dictionary class) = obj_or_nil (option_map (dictionary_birth forms) (class_place forms class))
mention_ref forms (Values class) = obj_or_nil (option_map (values_birth forms) (class_place forms class))
mention_ref forms (MethodOf class selector) = obj_or_nil (method_birth forms class selector)

-- ---- classes

-- the indices of the known classes; those of the text have the next ones from 52 on
abbrev pub known_indices : List ℕ
known_indices = 32 ∷ 33 ∷ 34 ∷ 35 ∷ 36 ∷ 37 ∷ 38 ∷ 1 ∷ 2 ∷ 39 ∷ 40 ∷ 41 ∷ 42 ∷ 43 ∷ 44 ∷ 45 ∷ 46 ∷ 47 ∷ 48 ∷ 49 ∷ 50 ∷ 51 ∷ []

abbrev pub index_at : ℕ → ℕ
index_at place = if nat_lt place 22 then slice_index known_indices place else 52 + (place - 22)

abbrev pub class_index : List Form → List ℕ → ℕ
class_index forms name = option_map_or index_at (class_place forms name) 0

-- superclass, dictionary, format and fields, and the name
abbrev pub class_slots : List Form → ClassLine → List Ref
class_slots forms line = option_map_or (class_ref forms) line.super nil_ref
    ∷ obj_or_nil (option_map (dictionary_birth forms) (class_place forms line.name))
    ∷ Small (line.format *ℤ pos 65536 +ℤ line.fields) ∷ symbol_ref forms line.name ∷ []

-- a class's hash is its index
abbrev pub class_object : List Form → ClassLine → Obj
class_object forms line = Ptr (given_hash (class_index forms line.name) (new_head 33 1)) (class_slots forms line)

-- the methods of a class in the order of the text
abbrev pub methods_of : List Form → List ℕ → List MethodLine
methods_of [] class = []
methods_of (Method line ∷ forms) class =
    if bytes_eq line.class class then line ∷ methods_of forms class else methods_of forms class
methods_of (form ∷ forms) class = methods_of forms class

-- the tally, the array of values, and the selectors
abbrev pub dictionary_object : List Form → ℕ → List MethodLine → Obj
dictionary_object forms place methods = Ptr (new_head 50 3) (Small (pos (length methods))
    ∷ ref.Obj (values_birth forms place) ∷ map (λ m. symbol_ref forms m.selector) methods)

abbrev pub values_object : List Form → List MethodLine → Obj
values_object forms methods =
    Ptr (new_head 39 2) (map (λ m. obj_or_nil (method_birth forms m.class m.selector)) methods)

abbrev pub dictionary_objects : List Form → ℕ → ClassLine → List Obj
dictionary_objects forms place line = dictionary_object forms place (methods_of forms line.name)
    ∷ values_object forms (methods_of forms line.name) ∷ []

-- ---- objects, bytes and symbols

-- the unused bytes at the end of the last word
abbrev pub spare : ℕ → ℕ
spare count = (4 - count % 4) % 4

abbrev pub raw_object : ℕ → List ℕ → Obj
raw_object class bytes = Raw (new_head class (16 + spare (length bytes))) bytes

abbrev pub class_format : List Form → List ℕ → ℕ
class_format forms class = option_map_or (λ c. unwrap_or (natural_of c.format) 0) (class_named forms class) 0

abbrev pub pointer_object : List Form → List ℕ → List Mention → Obj
pointer_object forms class slots =
    Ptr (new_head (class_index forms class) (plain_format (class_format forms class))) (map (mention_ref forms) slots)

-- ---- methods

-- the lines of a method, which stand behind its first and before its end
abbrev pub body_behind : List ℕ → List ℕ → List Form → List Form
body_behind class selector [] = []
body_behind class selector (form ∷ forms) =
    if is_method_of class selector form then before_first is_end_line forms else body_behind class selector forms

abbrev pub body_of : List Form → MethodLine → List Form
body_of forms line = body_behind line.class line.selector forms

abbrev pub built_literals : List Form → MethodLine → List Ref
built_literals forms line = map (mention_ref forms) (flat_map mentions_in (filter is_literal (body_of forms line)))

abbrev pub natural : ℤ → ℕ
natural value = unwrap_or (natural_of value) 0

abbrev pub bit_of : Bool → ℕ
bit_of b = if b then 1 else 0

-- literal count, whether there is a primitive, whether the frame is large, temporaries with arguments, arguments
abbrev pub built_header : MethodLine → ℕ → ℕ
built_header line literals = literals + bit_of (is_some line.primitive) * 2 ^ 16 + bit_of line.large * 2 ^ 17
    + natural line.temporaries * 2 ^ 18 + natural line.arguments * 2 ^ 24

abbrev pub primitive_bytes : Option ℤ → List ℕ
primitive_bytes None = []
primitive_bytes (Some number) = 139 ∷ natural number % 256 ∷ natural number / 256 ∷ []

abbrev pub built_bytecodes : List Form → MethodLine → List ℕ
built_bytecodes forms line = primitive_bytes line.primitive ++ code_from (body_of forms line) 0 (body_of forms line)

abbrev pub method_by : ℕ → List Ref → List ℕ → Obj
method_by header literals bytecodes =
    obj.Method (new_head 43 (24 + spare (length bytecodes))) header literals bytecodes

abbrev pub method_object : List Form → MethodLine → Obj
method_object forms line = let literals = built_literals forms line in
    method_by (built_header line (length literals)) literals (built_bytecodes forms line)

-- ---- processes

-- the first pc, behind the primitive where there is one
abbrev pub begin_pc : List Form → MethodLine → ℕ
begin_pc forms line = first_pc (built_literals forms line) + 3 * bit_of (is_some line.primitive)

abbrev pub first_context : List Form → MethodLine → Mention → Context
first_context forms line receiver = record {
  hash = 0;
  sender = nil_ref;
  pc = Some (begin_pc forms line);
  method = obj_or_nil (method_birth forms line.class line.selector);
  closure = nil_ref;
  receiver = mention_ref forms receiver;
  stack = replicate (natural line.temporaries) nil_ref;
  size = context_size (built_header line 0);
}

abbrev pub method_for : List Form → ProcessLine → Option MethodLine
method_for forms p = find (λ m. bytes_eq m.selector p.selector) (methods_of forms p.class)

abbrev pub ready_in : List Form → List (List ℕ)
ready_in [] = []
ready_in (Ready name ∷ forms) = name ∷ ready_in forms
ready_in (form ∷ forms) = ready_in forms

abbrev pub has_priority : List Form → ℕ → List ℕ → Bool
has_priority [] priority name = false
has_priority (Process line ∷ forms) priority name =
    bytes_eq line.name name && natural line.priority == priority || has_priority forms priority name
has_priority (form ∷ forms) priority name = has_priority forms priority name

-- the processes that are ready at a priority, the last one first
abbrev pub last_ready : List Form → ℕ → List (List ℕ)
last_ready forms priority = reverse (filter (has_priority forms priority) (ready_in forms))

-- What stands behind a process, where the last one comes first. A process that is made ready twice is linked anew each
-- time, and the later links count.
abbrev pub ready_behind : List ℕ → List (List ℕ) → Option (List ℕ)
ready_behind name [] = None
ready_behind name (last ∷ []) = None
ready_behind name (last ∷ next ∷ names) =
    if bytes_eq next name then Some last else if bytes_eq last name then None else ready_behind name (next ∷ names)

abbrev pub process_ref : List Form → Option (List ℕ) → Ref
process_ref forms name = obj_or_nil (option_and_then (process_birth forms) name)

-- the list of a priority, counted from 1
abbrev pub list_birth : ℕ → ℕ
list_birth priority = first_list + (priority - 1)

abbrev pub list_if_ready : List Form → ℕ → List ℕ → Ref
list_if_ready forms priority name =
    if list_any (bytes_eq name) (ready_in forms) then ref.Obj (list_birth priority) else nil_ref

-- nextLink, suspendedContext, priority and myList
abbrev pub built_process : List Form → ProcessLine → Ref → List Ref
built_process forms p context = process_ref forms (ready_behind p.name (last_ready forms (natural p.priority)))
    ∷ context ∷ Small p.priority ∷ list_if_ready forms (natural p.priority) p.name ∷ []

abbrev pub process_objects : List Form → ProcessLine → List Obj
process_objects forms p =
    option_map_or (λ m. Ctx (first_context forms m p.receiver) ∷ []) (method_for forms p) []
    ++ Ptr (new_head 45 1) (built_process forms p (obj_or_nil (birth_where forms (is_process_named p.name)))) ∷ []

-- ---- the first objects

abbrev pub active_name : Form → Option (List ℕ)
active_name (Active name) = Some name
active_name form = None

abbrev pub active_ref : List Form → Ref
active_ref forms = process_ref forms (first_that (filter_map active_name forms))

abbrev pub list_object : List Form → ℕ → Obj
list_object forms priority = Ptr (new_head 47 1) (process_ref forms (first_that (reverse (last_ready forms priority)))
    ∷ process_ref forms (first_that (last_ready forms priority)) ∷ [])

-- the special objects that aren't nil where the text says nothing of them
abbrev pub special_objects : List Form → List (ℕ × Ref)
special_objects forms = (3, ref.Obj 5) ∷ (23, ref.Obj 4)
    ∷ (7, class_ref forms (codes "Array")) ∷ (12, class_ref forms (codes "Point"))
    ∷ (15, class_ref forms (codes "Message")) ∷ (18, class_ref forms (codes "Semaphore"))
    ∷ map (λ e. (e.0, symbol_ref forms e.1)) special_symbols

abbrev pub special_given : List Form → Form → List (ℕ × Ref)
special_given forms (Special place value) = (natural place, mention_ref forms value) ∷ []
special_given forms form = []

abbrev pub with_special : List Ref → (ℕ × Ref) → List Ref
with_special slots e = slice_set slots e.0 e.1

-- what the text says of a special object counts, and the last line most
abbrev pub special_slots : List Form → List Ref
special_slots forms =
    fold with_special (replicate 51 nil_ref) (special_objects forms ++ flat_map (special_given forms) forms)

abbrev pub selector_slots : List Form → List Ref
selector_slots forms = flat_map (λ e. symbol_ref forms e.0 ∷ Small (pos e.1) ∷ []) selector_names

abbrev pub first_objects : List Form → List Obj
first_objects forms = Ptr (new_head 34 0) [] ∷ Ptr (new_head 35 0) [] ∷ Ptr (new_head 38 0) []
    ∷ Ptr (new_head 39 2) (special_slots forms) ∷ Ptr (new_head 39 2) (selector_slots forms)
    ∷ Ptr (new_head 49 1) (nil_ref ∷ ref.Obj 6 ∷ []) ∷ Ptr (new_head 48 1) (ref.Obj 7 ∷ active_ref forms ∷ [])
    ∷ Ptr (new_head 39 2) (map (λ i. ref.Obj i) (range_with_len first_list 8))
    ∷ map (list_object forms) (range_with_len 1 8)

-- ---- the whole

abbrev pub objects_in : List Form → Form → List Obj
objects_in forms (Class line) = class_object forms line ∷ []
objects_in forms (Object name class slots) = pointer_object forms class slots ∷ []
objects_in forms (Bytes name class bytes) = raw_object (class_index forms class) bytes ∷ []
objects_in forms (Method line) = method_object forms line ∷ []
objects_in forms (Process line) = process_objects forms line
objects_in forms form = []

abbrev pub text_objects : List Form → List Obj
text_objects forms = first_objects forms ++ flat_map (objects_in forms) (all_forms forms)
    ++ flat_map (λ e. dictionary_objects forms e.0 e.1) (enumerate_from 0 (all_classes forms))
    ++ map (raw_object 41) (symbols_of forms)

-- each class by its index, and SmallInteger by two
abbrev pub class_table : List Form → FinMap nat_cmp ℕ
class_table forms = insert (from_entries (map (λ c. (class_index forms c.name, unwrap_or (named_birth forms c.name) 0))
    (all_classes forms))) 3 (unwrap_or (named_birth forms (codes "SmallInteger")) 0)

-- format 6521 and header size 64; all other places are 0
abbrev pub header_bytes : List ℕ
header_bytes = 121 ∷ 25 ∷ 0 ∷ 0 ∷ 64 ∷ replicate 59 0

abbrev pub text_rest : List Form → Rest
text_rest forms = record {
  nil = 0;
  false_ = 1;
  true_ = 2;
  special = 3;
  header = header_bytes;
  classes = class_table forms;
  last_hash = 0;
  next = length (text_objects forms);
  active = None;
}

abbrev pub text_state : List Form → Kept
text_state forms = record { objects = from_entries (enumerate_from 0 (text_objects forms)); rest = text_rest forms }

abbrev pub built_unless : Option BuildFault → Kept → Result Kept BuildFault
built_unless None k = Ok k
built_unless (Some fault) k = Err fault

unfoldable pub built : List ℕ → Result Kept BuildFault
built text = built_unless (text_fault text) (text_state (forms_of text))
