-- Contexts as image code sees them: fields 0 sender, 1 pc, 2 stackp, 3 method, 4 closure, 5 receiver, and then the values
-- of the stack. Nothing lies beyond stackp.
use Rattle.std.specs.Prelude.{◌≡◌, ℕ, pos, ◌-◌, ◌==◌, ◌&&◌, ◌||◌, not, Bool, true, false, nat_lt, nat_le, if◌then◌else◌, List, ◌++◌, length, take, replicate, Option, Some, None, is_some, slice_get}
use Rattle.cs_model.specs.Ref.{Ref, Small, small_index}
use Rattle.cs_model.specs.Obj.{Obj, Context, class_index_in, context_fields, context_in, is_method, lies_in, with_pc, with_stack, stored, edit_context}
use Rattle.cs_model.specs.State.{Kept, object_at, object_of, is_nil}
use Rattle.cs_model.specs.Operation.{edit_found, nil_of}

abbrev pub pc_value : Ref → Option ℕ → Ref
pc_value nil None = nil
pc_value nil (Some pc) = Small (pos pc)

-- field i, or the stack value i - 6 below stackp; any other i has no answer
unfoldable pub context_get : Kept → Context → ℕ → Option Ref
context_get k c i =
    if i == 0 then Some c.sender else
    if i == 1 then Some (pc_value (nil_of k) c.pc) else
    if i == 2 then Some (Small (pos (length c.stack))) else
    if i == 3 then Some c.method else
    if i == 4 then Some c.closure else
    if i == 5 then Some c.receiver else
    slice_get c.stack (i - context_fields)

abbrev pub is_context_ref : Kept → Ref → Bool
is_context_ref k x = is_some (context_in (object_of k x))

abbrev pub has_class_index : ℕ → Option Obj → Bool
has_class_index i None = false
has_class_index i (Some o) = class_index_in o == i

-- the class index of closures
abbrev pub closure_class : ℕ
closure_class = 37

abbrev pub lies_if_live : Option Obj → Option ℕ → Bool
lies_if_live method None = true
lies_if_live method (Some pc) = lies_in method pc

abbrev pub lies_if_index : Option Obj → Option ℕ → Bool
lies_if_index method None = false
lies_if_index method (Some pc) = lies_in method pc

abbrev pub is_at_most : ℕ → Option ℕ → Bool
is_at_most size None = false
is_at_most size (Some n) = nat_le n size

-- whether v may be written into field i of the context; on the active one neither pc nil nor stackp, method or closure may
unfoldable pub accepts : Kept → Bool → Context → ℕ → Ref → Bool
accepts k active c i v =
    if i == 0 then is_nil k v || is_context_ref k v else
    if i == 1 then (if is_nil k v then not active else lies_if_index (object_of k c.method) (small_index v)) else
    if i == 2 then not active && is_at_most c.size (small_index v) else
    if i == 3 then not active && is_method (object_of k v) && lies_if_live (object_of k v) c.pc else
    if i == 4 then not active && (is_nil k v || has_class_index closure_class (object_of k v)) else
    i == 5 || nat_lt (i - context_fields) (length c.stack)

abbrev pub Accepts : Kept → Bool → Context → ℕ → Ref → Type 0
Accepts k active c i v = accepts k active c i v ≡ true

-- a stack of so many values: the first ones stay, and nil fills the rest
abbrev pub of_depth : Ref → ℕ → List Ref → List Ref
of_depth nil n xs = take n xs ++ replicate (n - length xs) nil

abbrev pub to_depth : Ref → Option ℕ → Context → Context
to_depth nil None c = c
to_depth nil (Some n) c = with_stack (of_depth nil n c.stack) c

-- the context with field i written
unfoldable pub with_field : Kept → ℕ → Ref → Context → Context
with_field k i v c =
    if i == 0 then record c { sender = v } else
    if i == 1 then with_pc (small_index v) c else
    if i == 2 then to_depth (nil_of k) (small_index v) c else
    if i == 3 then record c { method = v } else
    if i == 4 then record c { closure = v } else
    if i == 5 then record c { receiver = v } else
    stored (i - context_fields) v c

unfoldable pub context_put : Kept → ℕ → ℕ → Ref → Kept
context_put k birth i v = edit_found (edit_context (with_field k i v)) birth (object_at k birth) k
