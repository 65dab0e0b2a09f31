-- The printed text of a state: a head and a line an object, in order of birth.
use Rattle.std.specs.Prelude.{ℕ, ◌/◌, ◌%◌, List, [], ◌∷◌, ◌++◌, flat_map, codes, decimal, Option, Some, None}
use Rattle.std.specs.Option.{option_map_or}
use Rattle.std.specs.Fmt.{signed_decimal}
use Rattle.std.specs.Char.{digit_char}
use Rattle.std.specs.FinMap.{entries}
use Rattle.cs_model.specs.Ref.{Ref, Small, Char}
use Rattle.cs_model.specs.Ref as ref
use Rattle.cs_model.specs.Obj.{Obj, Head, Context, Ptr, Raw, Method, Ctx}
use Rattle.cs_model.specs.State.{Kept, active_process}

-- ---- references and bytes

-- a decimal number, a dollar sign and a code, or an at sign and a birth
abbrev pub ref_text : Ref → List ℕ
ref_text (Small value) = signed_decimal value
ref_text (Char code) = codes "$" ++ decimal code
ref_text (ref.Obj birth) = codes "@" ++ decimal birth

-- a space before each
abbrev pub refs_text : List Ref → List ℕ
refs_text refs = flat_map (λ x. codes " " ++ ref_text x) refs

abbrev pub byte_text : ℕ → List ℕ
byte_text b = digit_char (b / 16) ∷ digit_char (b % 16) ∷ []

-- if there are bytes, a space and then they, in lower-case hex digits
abbrev pub bytes_text : List ℕ → List ℕ
bytes_text [] = []
bytes_text (b ∷ bytes) = codes " " ++ flat_map byte_text (b ∷ bytes)

-- ---- objects

abbrev pub class_text : Head → List ℕ
class_text head = codes " class=" ++ decimal head.class

abbrev pub format_text : Head → List ℕ
format_text head = codes " format=" ++ decimal head.format

abbrev pub hash_text : ℕ → List ℕ
hash_text hash = codes " hash=" ++ decimal hash

abbrev pub pc_text : Option ℕ → List ℕ
pc_text None = codes "nil"
pc_text (Some pc) = decimal pc

abbrev pub context_text : Context → List ℕ
context_text c = codes " context" ++ hash_text c.hash ++ codes " size=" ++ decimal c.size
    ++ codes " sender=" ++ ref_text c.sender ++ codes " pc=" ++ pc_text c.pc
    ++ codes " method=" ++ ref_text c.method ++ codes " closure=" ++ ref_text c.closure
    ++ codes " receiver=" ++ ref_text c.receiver ++ codes ":" ++ refs_text c.stack

abbrev pub object_text : Obj → List ℕ
object_text (Ptr head slots) =
    codes " ptr" ++ class_text head ++ format_text head ++ hash_text head.hash ++ codes ":" ++ refs_text slots
object_text (Raw head bytes) =
    codes " raw" ++ class_text head ++ format_text head ++ hash_text head.hash ++ codes ":" ++ bytes_text bytes
object_text (Method head header literals bytecodes) =
    codes " method" ++ class_text head ++ hash_text head.hash ++ codes " header=" ++ decimal header ++ codes ":"
    ++ refs_text literals ++ codes " ;" ++ bytes_text bytecodes
object_text (Ctx c) = context_text c

abbrev pub object_line : ℕ → Obj → List ℕ
object_line birth o = decimal birth ++ object_text o ++ codes "\n"

-- ---- the whole

-- the next birth, the last hash that was given, and the active process
abbrev pub head_line : Kept → List ℕ
head_line k = codes "image next=" ++ decimal k.rest.next ++ codes " last=" ++ decimal k.rest.last_hash
    ++ codes " active=" ++ option_map_or ref_text (active_process k) [] ++ codes "\n"

unfoldable pub print_of : Kept → List ℕ
print_of k = head_line k ++ flat_map (λ e. object_line e.0 e.1) (entries k.objects)
