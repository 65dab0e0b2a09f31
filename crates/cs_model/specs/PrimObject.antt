-- Primitives on objects (Blue Book, part four: array and stream, storage management; the numbers are this machine's own).
use Rattle.std.specs.Prelude.{ℕ, zero, suc, pos, negsuc, ◌+◌, ◌-◌, ◌/◌, ◌%◌, ◌==◌, ◌&&◌, ◌||◌, not, Bool, true, false, nat_lt, nat_le, if◌then◌else◌, List, [], ◌∷◌, length, replicate, Option, Some, None, is_some, option_map, option_and_then, slice_get, unwrap_or}
use Rattle.std.specs.FinMap.{get}
use Rattle.cs_model.specs.Ref.{Ref, Small, Char, named_object, small_index, same_ref}
use Rattle.cs_model.specs.Ref as ref
use Rattle.cs_model.specs.Obj.{Obj, Context, Ptr, Raw, Method, Ctx, new_head, class_index_in, context_class, hash_in, is_fixed, is_context, is_header, literal_count, words_of}
use Rattle.cs_model.specs.State.{Kept, object_at, object_of, is_read_only, slots_of, special_at}
use Rattle.cs_model.specs.Read.{class_of}
use Rattle.cs_model.specs.Operation.{store_of, store_byte_of, set_fixed_of, add_of, next_ref, nil_of}
use Rattle.cs_model.specs.Context.{context_get, accepts, context_put}
use Rattle.cs_model.specs.Number.{boolean}
use Rattle.cs_model.specs.Instance.{Made, New, NotInstantiable, TableFull, instantiate, shape_of, Index, IndexAt, NoIndex, NoneFree, class_index_for, take_index, behavior_hash, Hashed, Hash, NotAClass, NoneLeft, hash_of, hash_given}
use Rattle.cs_model.specs.Element.{Range, range_of, element_place, element_at, with_element, front, copy_elements}
use Rattle.cs_model.specs.Exec.{fill_of, is_active, small_operands}
use Rattle.cs_model.specs.PrimAnswer.{fail, answer, answer_if, receiver, argument, with_count}
use Rattle.cs_model.specs.End.{Out, stop, given, made, looked}

-- ---- 60 to 64: elements

unfoldable pub at_prim : Kept → ℕ → Out
at_prim k args = with_count k 1 args (answer_if k 1 (option_and_then (λ place. element_at k (receiver k 1) place) (element_place k (receiver k 1) (argument k 1 0))))

abbrev pub answer_in : Option Kept → Kept → ℕ → Ref → Out
answer_in None k args x = fail k
answer_in (Some t) k args x = answer t args x

-- nothing is stored into a read-only object
abbrev pub unless_read_only : Kept → Ref → Out → Out
unless_read_only k x o = if is_read_only k x then fail k else o

unfoldable pub at_put_prim : Kept → ℕ → Out
at_put_prim k args = with_count k 2 args (unless_read_only k (receiver k 2)
    (answer_in (option_and_then (λ place. with_element k (receiver k 2) place (argument k 2 1)) (element_place k (receiver k 2) (argument k 2 0))) k 2 (argument k 2 1)))

-- formats 2 and 3 have a size, and so have raw objects and methods; a context has none
abbrev pub has_size : Option Obj → Bool
has_size None = false
has_size (Some (Ptr head slots)) = head.format == 2 || head.format == 3
has_size (Some (Raw head bytes)) = true
has_size (Some (Method head header literals bytecodes)) = true
has_size (Some (Ctx c)) = false

abbrev pub small_count : ℕ → Ref
small_count n = Small (pos n)

unfoldable pub size_prim : Kept → ℕ → Out
size_prim k args = with_count k 0 args
    (if has_size (object_of k (receiver k 0)) then answer_if k 0 (option_map (λ r. small_count r.count) (range_of k (receiver k 0))) else fail k)

-- the bytes of an object of formats 16 to 19
abbrev pub byte_string : Option Obj → Option (List ℕ)
byte_string None = None
byte_string (Some (Ptr head slots)) = None
byte_string (Some (Raw head bytes)) = if nat_le 16 head.format then Some bytes else None
byte_string (Some (Method head header literals bytecodes)) = None
byte_string (Some (Ctx c)) = None

abbrev pub is_bytes : Kept → Ref → Bool
is_bytes k x = is_some (byte_string (object_of k x))

abbrev pub byte_at : Kept → Ref → Ref → Option ℕ
byte_at k x index = option_and_then (λ place. option_and_then (λ bytes. slice_get bytes place) (byte_string (object_of k x))) (element_place k x index)

unfoldable pub char_at_prim : Kept → ℕ → Out
char_at_prim k args = with_count k 1 args (answer_if k 1 (option_map (λ b. Char b) (byte_at k (receiver k 1) (argument k 1 0))))

-- a Character below 256
abbrev pub byte_code : Ref → Option ℕ
byte_code (Small a) = None
byte_code (Char c) = if nat_lt c 256 then Some c else None
byte_code (ref.Obj i) = None

unfoldable pub char_at_put_prim : Kept → ℕ → Out
char_at_put_prim k args = with_count k 2 args (unless_read_only k (receiver k 2)
    (if is_bytes k (receiver k 2) then
    answer_in (option_and_then (λ place. option_map (λ b. store_byte_of k (receiver k 2) place b) (byte_code (argument k 2 1))) (element_place k (receiver k 2) (argument k 2 0)))
    k 2 (argument k 2 1)
    else fail k))

-- ---- 68, 69: literals of a method; 1 is the header

abbrev pub method_slot : Option Obj → ℕ → Option Ref
method_slot None i = None
method_slot (Some (Ptr head slots)) i = None
method_slot (Some (Raw head bytes)) i = None
method_slot (Some (Method head header literals bytecodes)) i = slice_get (Small (pos header) ∷ literals) i
method_slot (Some (Ctx c)) i = None

abbrev pub slot_index : Ref → Option ℕ
slot_index x = option_and_then (λ i. if nat_lt 0 i then Some (i - 1) else None) (small_index x)

unfoldable pub object_at_prim : Kept → ℕ → Out
object_at_prim k args = with_count k 1 args
    (answer_if k 1 (option_and_then (λ i. method_slot (object_of k (receiver k 1)) i) (slot_index (argument k 1 0))))

abbrev pub put_literal : Kept → Ref → ℕ → Ref → Option Kept
put_literal k x i v = if nat_lt 0 i && is_some (method_slot (object_of k x) i) then Some (store_of k x i v) else None

unfoldable pub object_at_put_prim : Kept → ℕ → Out
object_at_put_prim k args = with_count k 2 args (unless_read_only k (receiver k 2)
    (answer_in (option_and_then (λ i. put_literal k (receiver k 2) i (argument k 2 1)) (slot_index (argument k 2 0))) k 2 (argument k 2 1)))

-- ---- 70, 71: new instances

abbrev pub answer_made : Kept → ℕ → Made → Out
answer_made k args NotInstantiable = fail k
answer_made k args TableFull = fail k
answer_made k args (New t x words) = made words (answer t args x)

unfoldable pub new_prim : Kept → ℕ → Out
new_prim k args = with_count k 0 args (answer_made k 0 (instantiate k (receiver k 0) 0))

unfoldable pub new_size_prim : Kept → ℕ → Out
new_size_prim k args = with_count k 1 args
    (given (small_index (argument k 1 0)) (fail k) (λ size. answer_made k 1 (instantiate k (receiver k 1) size)))

-- 18: a Point with two fields, by special 12; nothing is made where its class has fewer slots
abbrev pub point_class : ℕ
point_class = 12

abbrev pub point_slots : Ref → Ref → List Ref → List Ref
point_slots x y [] = []
point_slots x y (a ∷ []) = a ∷ []
point_slots x y (a ∷ b ∷ rest) = x ∷ y ∷ rest

abbrev pub point_made : Kept → Made → Out
point_made k NotInstantiable = fail k
point_made k TableFull = fail k
point_made k (New t p words) =
    given (slots_of t 2 p) (fail k) (λ slots. made words (answer (fill_of t p (point_slots (receiver k 1) (argument k 1 0) slots)) 1 p))

unfoldable pub point_prim : Kept → ℕ → Out
point_prim k args = with_count k 1 args
    (if is_some (small_operands k) then given (special_at k point_class) (fail k) (λ class. point_made k (instantiate k class 0)) else fail k)

-- ---- 73, 74: named and indexed slots, counted from 1; of a context its fields and stack values

abbrev pub answer_field : Kept → ℕ → ℕ → Option Ref → Out
answer_field k args i value = given value (fail k) (λ x. if i == 0 then looked (answer k args x) else answer k args x)

abbrev pub read_slot : Kept → ℕ → ℕ → Option Obj → Out
read_slot k args i None = fail k
read_slot k args i (Some (Ptr head slots)) = answer_if k args (slice_get slots i)
read_slot k args i (Some (Raw head bytes)) = fail k
read_slot k args i (Some (Method head header literals bytecodes)) = fail k
read_slot k args i (Some (Ctx c)) = answer_field k args i (context_get k c i)

unfoldable pub slot_at_prim : Kept → ℕ → Out
slot_at_prim k args = with_count k 1 args
    (given (slot_index (argument k 1 0)) (fail k) (λ i. read_slot k 1 i (object_of k (receiver k 1))))

abbrev pub context_at_put : Kept → Ref → ℕ → Ref → Context → Option ℕ → Option Kept
context_at_put k x i v c None = None
context_at_put k x i v c (Some birth) = if accepts k (is_active k x) c i v then Some (context_put k birth i v) else None

abbrev pub slot_put : Kept → Ref → ℕ → Ref → Option Obj → Option Kept
slot_put k x i v None = None
slot_put k x i v (Some (Ptr head slots)) = if nat_lt i (length slots) then Some (store_of k x i v) else None
slot_put k x i v (Some (Raw head bytes)) = None
slot_put k x i v (Some (Method head header literals bytecodes)) = None
slot_put k x i v (Some (Ctx c)) = context_at_put k x i v c (named_object x)

unfoldable pub slot_at_put_prim : Kept → ℕ → Out
slot_at_put_prim k args = with_count k 2 args (unless_read_only k (receiver k 2)
    (answer_in (option_and_then (λ i. slot_put k (receiver k 2) i (argument k 2 1) (object_of k (receiver k 2))) (slot_index (argument k 2 0))) k 2 (argument k 2 1)))

-- ---- 75: the identity hash

unfoldable pub hash_prim : Kept → ℕ → Out
hash_prim k args = with_count k 0 args
    (if is_some (object_of k (receiver k 0)) then answer (hash_given k (receiver k 0)) 0 (small_count (hash_of k (receiver k 0))) else fail k)

-- ---- 77, 78: the instances of a class, by rising births

-- an object of the class index that is no context
abbrev pub has_index : ℕ → Option Obj → Bool
has_index index None = false
has_index index (Some o) = class_index_in o == index && not (is_context o)

-- of so many births from `i` on, the first one whose object has the class index
unfoldable pub first_instance : ℕ → Kept → ℕ → ℕ → Option Ref
first_instance zero k index i = None
first_instance (suc n) k index i = if has_index index (object_at k i) then Some (ref.Obj i) else first_instance n k index (i + 1)

-- the first object of the class index whose birth isn't below `from`; all births are below the next one
unfoldable pub instance_from : Kept → ℕ → ℕ → Option Ref
instance_from k index from = first_instance (k.rest.next - from) k index from

-- the index of a class that stands in the class table at its hash
abbrev pub entry_index : Kept → ℕ → Option Obj → Option ℕ
entry_index k birth None = None
entry_index k birth (Some o) = option_and_then (λ i. if i == birth then Some (hash_in o) else None) (get k.rest.classes (hash_in o))

abbrev pub table_index : Kept → Ref → Option ℕ
table_index k x = option_and_then (λ i. entry_index k i (object_at k i)) (named_object x)

unfoldable pub some_instance_prim : Kept → ℕ → Out
some_instance_prim k args = with_count k 0 args
    (answer_if k 0 (option_and_then (λ index. if index == context_class then None else instance_from k index 0) (table_index k (receiver k 0))))

abbrev pub index_but_context : Option Obj → Option ℕ
index_but_context None = None
index_but_context (Some o) = if is_context o then None else Some (class_index_in o)

unfoldable pub next_instance_prim : Kept → ℕ → Out
next_instance_prim k args = with_count k 0 args
    (answer_if k 0 (option_and_then (λ i. option_and_then (λ index. instance_from k index (i + 1)) (index_but_context (object_at k i))) (named_object (receiver k 0))))

-- ---- 79: a new method

abbrev pub blank_method : Kept → ℕ → ℕ → ℕ → Obj
blank_method k index count header =
    Method (new_head index (24 + (3 - (count + 3) % 4))) header (replicate (literal_count header) (nil_of k)) (replicate count 0)

abbrev pub is_method_index : ℕ → Bool
is_method_index index = nat_lt 3 index && not (index == context_class)

abbrev pub make_method : Kept → Ref → ℕ → ℕ → Index → Out
make_method k class count header NoIndex = fail k
make_method k class count header NoneFree = fail k
make_method k class count header (IndexAt index) =
    if is_method_index index then
    made (words_of (blank_method k index count header)) (answer (add_of (take_index k class index) (blank_method k index count header)) 2 (next_ref k))
    else fail k

abbrev pub is_method_shape : Option ℕ → Bool
is_method_shape None = false
is_method_shape (Some shape) = shape / 65536 == 24

unfoldable pub new_method_prim : Kept → ℕ → Out
new_method_prim k args = with_count k 2 args
    (given (small_index (argument k 2 0)) (fail k) (λ count.
    given (small_index (argument k 2 1)) (fail k) (λ header.
    if is_method_shape (shape_of k (receiver k 2)) && is_header header then
    make_method k (receiver k 2) count header (class_index_for k (receiver k 2))
    else fail k)))

-- ---- 105: copying elements

abbrev pub copy_kinds : Option Obj → Option Obj → Bool
copy_kinds (Some (Ptr head slots)) (Some (Ptr head' slots')) = nat_le 2 head.format && nat_le head.format 3 && nat_le 2 head'.format && nat_le head'.format 3
copy_kinds (Some (Raw head bytes)) (Some (Raw head' bytes')) = (nat_le 16 head.format && nat_le 16 head'.format) || (head.format == 10 && head'.format == 10)
copy_kinds x y = false

-- from start to stop, which lie in the receiver, and from on, which lie in the other; stop may be start - 1
abbrev pub copy_fits : ℕ → ℕ → ℕ → ℕ → ℕ → Bool
copy_fits start stop from mine its =
    nat_le 1 start && nat_le start (stop + 1) && nat_le stop mine && nat_le 1 from && nat_le (from + stop) (its + start)

abbrev pub range_count : Option Range → Option ℕ
range_count None = None
range_count (Some r) = Some r.count

abbrev pub copy_to : Kept → Ref → Ref → ℕ → ℕ → ℕ → Out
copy_to k x other start stop from =
    given (range_count (range_of k x)) (fail k) (λ mine.
    given (range_count (range_of k other)) (fail k) (λ its.
    if copy_fits start stop from mine its then
    answer (copy_elements (stop + 1 - start) k x (front k x + (start - 1)) other (front k other + (from - 1))) 4 x else fail k))

unfoldable pub replace_prim : Kept → ℕ → Out
replace_prim k args = with_count k 4 args (unless_read_only k (receiver k 4)
    (given (small_index (argument k 4 0)) (fail k) (λ start.
    given (small_index (argument k 4 1)) (fail k) (λ stop.
    given (small_index (argument k 4 3)) (fail k) (λ from.
    if copy_kinds (object_of k (receiver k 4)) (object_of k (argument k 4 2)) then copy_to k (receiver k 4) (argument k 4 2) start stop from else fail k)))))

-- ---- 110, 111, 148, 175

unfoldable pub identical_prim : Kept → ℕ → Out
identical_prim k args = with_count k 1 args (answer k 1 (boolean k (same_ref (receiver k 1) (argument k 1 0))))

unfoldable pub class_prim : Kept → ℕ → Out
class_prim k args = with_count k 0 args (answer k 0 (unwrap_or (class_of k (receiver k 0)) (nil_of k)))

-- a copy has no hash
abbrev pub copied : Obj → Obj
copied (Ptr head slots) = Ptr (new_head head.class head.format) slots
copied (Raw head bytes) = Raw (new_head head.class head.format) bytes
copied (Method head header literals bytecodes) = Method (new_head head.class head.format) header literals bytecodes
copied (Ctx c) = Ctx (record c { hash = 0 })

abbrev pub look_if : Bool → Out → Out
look_if b o = if b then looked o else o

abbrev pub copy_object : Kept → Obj → Out
copy_object k o = look_if (is_context o) (made (words_of o) (answer (add_of k (copied o)) 0 (next_ref k)))

unfoldable pub copy_prim : Kept → ℕ → Out
copy_prim k args = with_count k 0 args (given (object_of k (receiver k 0)) (answer k 0 (receiver k 0)) (λ o. copy_object k o))

abbrev pub answer_hashed : Kept → Hashed → Out
answer_hashed k NotAClass = fail k
answer_hashed k NoneLeft = fail k
answer_hashed k (Hash t index) = answer t 0 (small_count index)

unfoldable pub behavior_hash_prim : Kept → ℕ → Out
behavior_hash_prim k args = with_count k 0 args (answer_hashed k (behavior_hash k (receiver k 0)))

-- ---- 163, 164: objects that may not be stored into

-- an immediate can't be stored into either
abbrev pub is_unwritable : Option Obj → Bool
is_unwritable None = true
is_unwritable (Some o) = is_fixed o

unfoldable pub read_only_prim : Kept → ℕ → Out
read_only_prim k args = with_count k 0 args (answer k 0 (boolean k (is_unwritable (object_of k (receiver k 0)))))

abbrev pub can_be_fixed : Option Obj → Bool
can_be_fixed None = false
can_be_fixed (Some o) = not (is_context o)

-- what a reference says where it is true or false
abbrev pub boolean_in : Kept → Ref → Option Bool
boolean_in k x = if same_ref x (boolean k true) then Some true else if same_ref x (boolean k false) then Some false else None

unfoldable pub set_read_only_prim : Kept → ℕ → Out
set_read_only_prim k args = with_count k 1 args
    (if can_be_fixed (object_of k (receiver k 1)) then
    given (boolean_in k (argument k 1 0)) (fail k) (λ on.
    answer (set_fixed_of k (receiver k 1) on) 1 (boolean k (is_read_only k (receiver k 1))))
    else fail k)

-- ---- 256 to 519: quick answers, with any number of arguments

unfoldable pub quick_prim : Kept → ℕ → ℕ → Out
quick_prim k number args =
    if number == 256 then answer k args (receiver k args) else
    if number == 257 then answer k args (boolean k true) else
    if number == 258 then answer k args (boolean k false) else
    if number == 259 then answer k args (nil_of k) else
    if number == 260 then answer k args (Small (negsuc 0)) else
    if nat_lt number 264 then answer k args (Small (pos (number - 261))) else
    read_slot k args (number - 264) (object_of k (receiver k args))
