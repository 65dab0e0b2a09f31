-- The operations on the kept parts from which instructions, sends, returns and primitives are composed. Each is total:
-- where its condition fails it leaves something that no definition uses.
use Rattle.std.specs.Prelude.{ℕ, ◌+◌, ◌-◌, Bool, List, [], ◌∷◌, ◌++◌, length, drop, replicate, Option, Some, None, slice_get, slice_set, unwrap_or, if◌then◌else◌}
use Rattle.cs_model.specs.Ref.{Ref, named_object}
use Rattle.cs_model.specs.Ref as ref
use Rattle.cs_model.specs.Obj.{Obj, Context, Ptr, Raw, Method, Ctx, new_head, given_hash, fixed_to, first_pc, temporary_count, context_size, literals_in, header_in, dead, with_pc, pushed, popped, stored}
use Rattle.cs_model.specs.State.{Kept, Rest, put, with_rest, object_at, object_of}
use Rattle.cs_model.specs.Read.{active_birth, active_context}

-- ---- the active context

abbrev pub put_active : Kept → Context → Kept
put_active k c = put k (active_birth k) (Ctx c)

abbrev pub edit_active : Kept → (Context → Context) → Kept
edit_active k f = put_active k (f (active_context k))

unfoldable pub set_pc_of : Kept → ℕ → Kept
set_pc_of k pc = edit_active k (with_pc (Some pc))

unfoldable pub push_of : Kept → Ref → Kept
push_of k x = edit_active k (pushed x)

-- the n topmost values leave the stack
unfoldable pub drop_of : Kept → ℕ → Kept
drop_of k n = edit_active k (popped n)

abbrev pub pop_of : Kept → Kept
pop_of k = drop_of k 1

unfoldable pub set_stack_of : Kept → ℕ → Ref → Kept
set_stack_of k i x = edit_active k (stored i x)

-- ---- objects

-- the object of a reference is changed, if there is one
abbrev pub edit_found : (Obj → Obj) → ℕ → Option Obj → Kept → Kept
edit_found f i None k = k
edit_found f i (Some o) k = put k i (f o)

abbrev pub edit_at : (Obj → Obj) → Option ℕ → Kept → Kept
edit_at f None k = k
edit_at f (Some i) k = edit_found f i (object_at k i) k

abbrev pub edit_object : Kept → Ref → (Obj → Obj) → Kept
edit_object k x f = edit_at f (named_object x) k

-- slot i of a pointer object, or a literal of a method, where the header is slot 0
abbrev pub with_slot : ℕ → Ref → Obj → Obj
with_slot i v (Ptr head slots) = Ptr head (slice_set slots i v)
with_slot i v (Raw head bytes) = Raw head bytes
with_slot i v (Method head header literals bytecodes) = Method head header (slice_set literals (i - 1) v) bytecodes
with_slot i v (Ctx c) = Ctx c

-- byte i of raw bytes or of a method's bytecodes
abbrev pub with_byte : ℕ → ℕ → Obj → Obj
with_byte i b (Ptr head slots) = Ptr head slots
with_byte i b (Raw head bytes) = Raw head (slice_set bytes i b)
with_byte i b (Method head header literals bytecodes) = Method head header literals (slice_set bytecodes i b)
with_byte i b (Ctx c) = Ctx c

abbrev pub with_hash : ℕ → Obj → Obj
with_hash hash (Ptr head slots) = Ptr (given_hash hash head) slots
with_hash hash (Raw head bytes) = Raw (given_hash hash head) bytes
with_hash hash (Method head header literals bytecodes) = Method (given_hash hash head) header literals bytecodes
with_hash hash (Ctx c) = Ctx (record c { hash = hash })

-- an object that may be stored into from now on, or not; a context always may
abbrev pub with_fixed : Bool → Obj → Obj
with_fixed on (Ptr head slots) = Ptr (fixed_to on head) slots
with_fixed on (Raw head bytes) = Raw (fixed_to on head) bytes
with_fixed on (Method head header literals bytecodes) = Method (fixed_to on head) header literals bytecodes
with_fixed on (Ctx c) = Ctx c

unfoldable pub store_of : Kept → Ref → ℕ → Ref → Kept
store_of k o i v = edit_object k o (with_slot i v)

unfoldable pub store_byte_of : Kept → Ref → ℕ → ℕ → Kept
store_byte_of k o i b = edit_object k o (with_byte i b)

unfoldable pub set_fixed_of : Kept → Ref → Bool → Kept
set_fixed_of k o on = edit_object k o (with_fixed on)

-- a new object takes the next birth
abbrev pub with_next : ℕ → Rest → Rest
with_next n r = record r { next = n }

unfoldable pub add_of : Kept → Obj → Kept
add_of k o = with_rest (with_next (k.rest.next + 1) k.rest) (put k k.rest.next o)

-- the reference to the object that is made next
abbrev pub next_ref : Kept → Ref
next_ref k = ref.Obj k.rest.next

abbrev pub nil_of : Kept → Ref
nil_of k = ref.Obj k.rest.nil

-- a pointer object of so many slots of nil
abbrev pub new_pointers : Kept → ℕ → ℕ → ℕ → Obj
new_pointers k class format slots = Ptr (new_head class format) (replicate slots (nil_of k))

-- ---- entering and leaving

abbrev pub activate : Option ℕ → Rest → Rest
activate active r = record r { active = active }

-- the new context is active, with the old one as its sender; receiver and arguments have left the old stack
unfoldable pub enter_with : Kept → ℕ → (Context → Context) → Kept
enter_with k args new = with_rest (activate (Some k.rest.next) (with_next (k.rest.next + 1) k.rest))
    (put (drop_of k (args + 1)) k.rest.next (Ctx (new (active_context k))))

abbrev pub last_values : ℕ → List Ref → List Ref
last_values n xs = drop (length xs - n) xs

-- the receiver below so many arguments
abbrev pub receiver_below : ℕ → Ref → List Ref → Ref
receiver_below args nil xs = unwrap_or (slice_get xs (length xs - (args + 1))) nil

-- behind a primitive that failed a method is entered past its three bytes
abbrev pub entry_pc : Option Obj → Bool → ℕ
entry_pc method skip = first_pc (literals_in method) + (if skip then 3 else 0)

-- the context of a method that is entered: the arguments, and nil up to its temporaries
abbrev pub method_context : Kept → Ref → ℕ → Bool → Context → Context
method_context k method args skip old = record {
  hash = 0;
  sender = ref.Obj (active_birth k);
  pc = Some (entry_pc (object_of k method) skip);
  method = method;
  closure = nil_of k;
  receiver = receiver_below args (nil_of k) old.stack;
  stack = last_values args old.stack ++ replicate (temporary_count (header_in (object_of k method)) - args) (nil_of k);
  size = context_size (header_in (object_of k method));
}

unfoldable pub enter_of : Kept → Ref → ℕ → Bool → Kept
enter_of k method args skip = enter_with k args (method_context k method args skip)

-- the context of a birth dies
abbrev pub dead_object : ℕ → Obj → Obj
dead_object nil (Ptr head slots) = Ptr head slots
dead_object nil (Raw head bytes) = Raw head bytes
dead_object nil (Method head header literals bytecodes) = Method head header literals bytecodes
dead_object nil (Ctx c) = Ctx (dead nil c)

unfoldable pub kill_of : Kept → ℕ → Kept
kill_of k i = edit_found (dead_object k.rest.nil) i (object_at k i) k

-- the target is active
unfoldable pub resume_of : Kept → ℕ → Kept
resume_of k i = with_rest (activate (Some i) k.rest) k

-- no context is active
unfoldable pub suspend_of : Kept → Kept
suspend_of k = with_rest (activate None k.rest) k

-- the active context dies, its sender is active, and the value is pushed
unfoldable pub leave_of : Kept → Ref → Kept
leave_of k x = push_of (resume_of (kill_of k (active_birth k)) (unwrap_or (named_object (active_context k).sender) k.rest.nil)) x

-- contexts die, the target is active, and the value is pushed
unfoldable pub kill_all : List ℕ → Kept → Kept
kill_all [] k = k
kill_all (i ∷ is) k = kill_all is (kill_of k i)

unfoldable pub cut_to_of : Kept → List ℕ → ℕ → Ref → Kept
cut_to_of k dying target x = push_of (resume_of (kill_all dying k) target) x
