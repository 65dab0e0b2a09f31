-- What is read of a state: objects by reference, special objects, the active context and its method.
use Rattle.std.specs.Prelude.{◌≡◌, ℕ, pos, ◌+◌, ◌-◌, true, nat_lt, if◌then◌else◌, List, [], length, Option, Some, None, unwrap_or, option_map, slice_get}
use Rattle.std.specs.FinMap.{get}
use Rattle.cs_model.specs.Ref.{Ref, Small, Char}
use Rattle.cs_model.specs.Ref as ref
use Rattle.cs_model.specs.Obj.{Obj, Context, Ctx, class_index_in, context_in, literals_in, bytecodes_in, lies_in}
use Rattle.cs_model.specs.State.{Kept, object_at, object_of}

-- A SmallInteger's class has index 1 and a Character's 2; an object has its class index in its header.
abbrev pub index_of_class : Option Obj → ℕ
index_of_class None = 0
index_of_class (Some o) = class_index_in o

abbrev pub class_index_of : Kept → Ref → ℕ
class_index_of k (Small a) = 1
class_index_of k (Char c) = 2
class_index_of k (ref.Obj i) = index_of_class (object_at k i)

-- the class of a reference, by the class table
unfoldable pub class_of : Kept → Ref → Option Ref
class_of k x = option_map (λ i. ref.Obj i) (get k.rest.classes (class_index_of k x))

-- what is read where no context is active
abbrev pub blank_context : Context
blank_context = record { hash = 0; sender = Small (pos 0); pc = None; method = Small (pos 0); closure = Small (pos 0); receiver = Small (pos 0); stack = []; size = 0 }

-- the birth of the active context; where none is active that of nil, which is no context but always there
abbrev pub active_birth : Kept → ℕ
active_birth k = unwrap_or k.rest.active k.rest.nil

-- the active context
unfoldable pub active_context : Kept → Context
active_context k = unwrap_or (context_in (object_at k (active_birth k))) blank_context

abbrev pub stack_of : Kept → List Ref
stack_of k = (active_context k).stack

abbrev pub depth_of : Kept → ℕ
depth_of k = length (stack_of k)

abbrev pub size_of : Kept → ℕ
size_of k = (active_context k).size

-- the pc of the active context, which is live
abbrev pub pc_of : Kept → ℕ
pc_of k = unwrap_or (active_context k).pc 0

abbrev pub receiver_of : Kept → Ref
receiver_of k = (active_context k).receiver

-- the active method
unfoldable pub method_of : Kept → Option Obj
method_of k = object_of k (active_context k).method

abbrev pub literals_of : Kept → List Ref
literals_of k = literals_in (method_of k)

abbrev pub bytecodes_of : Kept → List ℕ
bytecodes_of k = bytecodes_in (method_of k)

-- the n-th value from the top of the active stack, counted from 0
abbrev pub from_top : ℕ → List Ref → Option Ref
from_top n xs = if nat_lt n (length xs) then slice_get xs (length xs - (n + 1)) else None

-- A context is active, it is live, and its pc lies in its method.
pub record IsRunning (k : Kept) : Type 0 where
  pub known : k.rest.active ≡ Some (active_birth k)
  pub found : object_at k (active_birth k) ≡ Some (Ctx (active_context k))
  pub live : (active_context k).pc ≡ Some (pc_of k)
  pub method : lies_in (method_of k) (pc_of k) ≡ true
