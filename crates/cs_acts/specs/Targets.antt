-- What entering and leaving an activation ask for.
use Rattle.std.specs.Prelude.{◌≡◌, ◌≢◌, ℕ, ◌+◌, ◌<◌, ◌≤◌, Bool, true, false, List, [], ◌∷◌, ◌++◌, length, Option, Some, None, option_and_then}
use Rattle.cs_model.specs.Ref.{Ref}
use Rattle.cs_model.specs.Obj as obj
use Rattle.cs_model.specs.Obj.{argument_count, bytecodes_in, context_in, header_in, is_method, primitive_number}
use Rattle.cs_model.specs.State.{Kept, object_at, object_of}
use Rattle.cs_model.specs.Read.{active_birth, depth_of}
use Rattle.cs_acts.specs.declared.act.Act.{Act}
use Rattle.cs_acts.specs.declared.act.Act.TheVariants.{Frame, Context, Gone}
use Rattle.cs_model.specs.Enter.{block_size, can_evaluate, copied_values}
use Rattle.cs_model.specs.Return.{Search, Met, Ended, TooLong, context_at, has_room, is_among, is_live, senders_to}
use Rattle.cs_model.specs.Context.{context_get}

-- A reference is a method that takes so many arguments, they are there with the receiver, and with `skip` it has a primitive.
pub record CanEnter (k : Kept) (x : Ref) (args : ℕ) (skip : Bool) : Type 0 where
  pub method : is_method (object_of k x) ≡ true
  pub count : argument_count (header_in (object_of k x)) ≡ args
  pub there : args < depth_of k
  pub marked : skip ≡ true → primitive_number (header_in (object_of k x)) (bytecodes_in (object_of k x)) ≢ None
  pub births : k.rest.next < 4611686018427387904

-- A reference is a closure that can be evaluated with so many arguments, these and its copied values fit a context of its method, and
-- they are there with the closure.
pub record CanEnterBlock (k : Kept) (x : Ref) (args : ℕ) : Type 0 where
  pub closure : can_evaluate k x args ≡ true
  pub fits : args + length (copied_values k x) ≤ block_size k x
  pub there : args < depth_of k
  pub births : k.rest.next < 4611686018427387904

-- A context that isn't the active one is live and has room for a value.
pub record CanArrive (k : Kept) (target : ℕ) : Type 0 where
  pub live : is_live k target ≡ true
  pub other : target ≢ active_birth k
  pub room : has_room (context_in (object_at k target)) ≡ true

-- the contexts that die where a return goes past a home: from the active one along its senders to the home
abbrev pub dying_in : ℕ → ℕ → Search → List ℕ
dying_in active home (Met passed) = active ∷ passed ++ home ∷ []
dying_in active home (Ended passed) = []
dying_in active home TooLong = []

abbrev pub dying_to : Kept → ℕ → List ℕ
dying_to k home = dying_in (active_birth k) home (senders_to k (active_birth k) home)

-- A home is met among the senders of the active context, and the target is live, doesn't die, and has room for a value.
pub record CanCut (k : Kept) (home target : ℕ) : Type 0 where
  pub passed : List ℕ
  pub met : senders_to k (active_birth k) home ≡ Met passed
  pub live : is_live k target ≡ true
  pub apart : is_among target (dying_to k home) ≡ false
  pub room : has_room (context_in (object_at k target)) ≡ true

-- an act that stands for nothing
abbrev pub is_gone : Act → Bool
is_gone (Frame page at) = false
is_gone (Context o) = false
is_gone Gone = true

-- the method of a context
abbrev pub method_in : Ref → Option obj.Context → Ref
method_in nil None = nil
method_in nil (Some c) = c.method

-- field i of the context that a reference names, or a value of its stack
abbrev pub field_of : Kept → Ref → ℕ → Option Ref
field_of k x i = option_and_then (λ c. context_get k c i) (context_at k x)

-- the pc of a context, if it has one
abbrev pub pc_in : Option obj.Context → Option ℕ
pc_in None = None
pc_in (Some c) = c.pc

-- the stack of a context, from the bottom
abbrev pub stack_in : Option obj.Context → List Ref
stack_in None = []
stack_in (Some c) = c.stack
