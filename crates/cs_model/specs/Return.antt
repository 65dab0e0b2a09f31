-- Returns: to the sender, from a block to the sender of its home, past marks and into the dead (Blue Book, part four: return
-- bytecodes; unwinding in this machine's own order).
use Rattle.std.specs.Prelude.{ℕ, zero, suc, ◌==◌, ◌&&◌, Bool, false, nat_lt, if◌then◌else◌, List, [], ◌∷◌, ◌++◌, length, not, Option, Some, None, is_some, option_and_then, slice_get}
use Rattle.std.specs.List.{list_any}
use Rattle.cs_model.specs.declared.stop.Stop.TheVariants as why
use Rattle.cs_model.specs.Ref.{Ref, Small, Char, named_object, same_ref}
use Rattle.cs_model.specs.Ref as ref
use Rattle.cs_model.specs.Obj.{Obj, Context, slots_in, context_in, bytecodes_in, header_in, primitive_number}
use Rattle.cs_model.specs.State.{Kept, object_at, object_of, is_nil}
use Rattle.cs_model.specs.Read.{active_birth}
use Rattle.cs_model.specs.Operation.{cut_to_of}
use Rattle.cs_model.specs.Exec.{push_all}
use Rattle.cs_model.specs.End.{Out, out, stop, done, given, looked, and_then}
use Rattle.cs_model.specs.End as ends

-- how many links a search of senders or homes follows
unfoldable pub links : ℕ
links = 1048576

-- what a search along contexts gives: the contexts that it passed, as births, and where it ended
pub data Search : Type 0 where
  Met : (passed : List ℕ) → Search
  Ended : (passed : List ℕ) → Search
  TooLong : Search

abbrev pub passing : ℕ → Search → Search
passing i (Met passed) = Met (i ∷ passed)
passing i (Ended passed) = Ended (i ∷ passed)
passing i TooLong = TooLong

abbrev pub context_at : Kept → Ref → Option Context
context_at k x = context_in (object_of k x)

-- the birth of a reference that is a context
abbrev pub context_birth : Kept → Ref → Option ℕ
context_birth k x = option_and_then (λ c. named_object x) (context_at k x)

-- the sender of the context of a birth, if that is a context
abbrev pub sender_birth : Kept → ℕ → Option ℕ
sender_birth k i = option_and_then (λ c. context_birth k c.sender) (context_in (object_at k i))

-- The senders of a context, until the one of birth `goal` is met. The sender behind the last link is still looked at, and one
-- link more is too long.
unfoldable pub search_senders : ℕ → Kept → ℕ → Option ℕ → Search
search_senders zero k goal None = Ended []
search_senders zero k goal (Some i) = TooLong
search_senders (suc n) k goal None = Ended []
search_senders (suc n) k goal (Some i) = if i == goal then Met [] else passing i (search_senders n k goal (sender_birth k i))

unfoldable pub senders_to : Kept → ℕ → ℕ → Search
senders_to k from goal = search_senders links k goal (sender_birth k from)

-- ---- homes

pub data Home : Type 0 where
  HomeAt : (birth : ℕ) → Home
  NoHome : Home
  HomeTooFar : Home

-- the outer context of a closure, which is its slot 0
abbrev pub outer_birth : Kept → Ref → Option ℕ
outer_birth k closure = option_and_then (λ x. context_birth k x) (option_and_then (λ slots. slice_get slots 0) (slots_in (object_of k closure)))

abbrev pub closure_in : Ref → Option Context → Ref
closure_in nil None = nil
closure_in nil (Some c) = c.closure

abbrev pub closure_at : Kept → ℕ → Ref
closure_at k i = closure_in (ref.Obj k.rest.nil) (context_in (object_at k i))

-- the context itself without a closure, else the home of its closure's outer context
unfoldable pub search_home : ℕ → Kept → ℕ → Home
search_home zero k i = if is_nil k (closure_at k i) then HomeAt i else if is_some (outer_birth k (closure_at k i)) then HomeTooFar else NoHome
search_home (suc n) k i = if is_nil k (closure_at k i) then HomeAt i else given (outer_birth k (closure_at k i)) NoHome (λ outer. search_home n k outer)

unfoldable pub home : Kept → ℕ → Home
home k i = search_home links k i

-- ---- marks

-- a context is marked by a number where its method has that primitive and its closure is nil
abbrev pub is_number : ℕ → Option ℕ → Bool
is_number n None = false
is_number n (Some m) = n == m

abbrev pub method_primitive : Option Obj → Option ℕ
method_primitive method = primitive_number (header_in method) (bytecodes_in method)

abbrev pub is_marked_context : Kept → ℕ → Option Context → Bool
is_marked_context k number None = false
is_marked_context k number (Some c) = is_nil k c.closure && is_number number (method_primitive (object_of k c.method))

unfoldable pub is_marked : Kept → ℕ → ℕ → Bool
is_marked k number i = is_marked_context k number (context_in (object_at k i))

-- the first of these contexts that is marked
unfoldable pub first_marked : Kept → ℕ → List ℕ → Option ℕ
first_marked k number [] = None
first_marked k number (i ∷ is) = if is_marked k number i then Some i else first_marked k number is

-- the mark of unwinding, and that of handlers
abbrev pub unwind_mark : ℕ
unwind_mark = 198

abbrev pub handler_mark : ℕ
handler_mark = 199

-- ---- the three cases

-- special selectors 21 and 48
abbrev pub cannot_return : ℕ
cannot_return = 21

abbrev pub about_to_return : ℕ
about_to_return = 48

-- a context is live where its pc isn't nil
abbrev pub is_live : Kept → ℕ → Bool
is_live k i = is_some (option_and_then (λ c. c.pc) (context_in (object_at k i)))

-- the active context and the values are pushed, and the special selector is to be sent
abbrev pub call_with : Kept → ℕ → ℕ → List Ref → Out
call_with k special args values = and_then (push_all (ref.Obj (active_birth k) ∷ values) k) (λ t. looked (out (ends.Call special args) t))

abbrev pub cannot_return_out : Kept → Ref → Out
cannot_return_out k value = call_with k cannot_return 1 (value ∷ [])

abbrev pub unwind_out : Kept → Ref → ℕ → Out
unwind_out k value mark = call_with k about_to_return 2 (value ∷ ref.Obj mark ∷ [])

abbrev pub is_among : ℕ → List ℕ → Bool
is_among i is = list_any (λ j. i == j) is

-- how many values the stack of a target holds, and its size
abbrev pub has_room : Option Context → Bool
has_room None = false
has_room (Some c) = nat_lt (length c.stack) c.size

-- these contexts die and the target gets the value, where it is live and doesn't die itself
abbrev pub arrive : Kept → Ref → List ℕ → Option ℕ → Out
arrive k value dying None = cannot_return_out k value
arrive k value dying (Some target) =
    if is_live k target && not (is_among target dying) then
    (if has_room (context_in (object_at k target)) then done (cut_to_of k dying target value) else stop why.StackOver k)
    else cannot_return_out k value

-- to the sender of the active context, which dies
unfoldable pub local_out : Kept → Ref → Out
local_out k value = arrive k value (active_birth k ∷ []) (sender_birth k (active_birth k))

-- to the sender of the home, where it is met among the senders; a mark strictly between is told first
abbrev pub past_marks : Kept → Ref → ℕ → List ℕ → Out
past_marks k value home passed =
    given (first_marked k unwind_mark passed) (arrive k value (active_birth k ∷ passed ++ home ∷ []) (sender_birth k home)) (λ mark. unwind_out k value mark)

abbrev pub from_home : Kept → Ref → ℕ → Search → Out
from_home k value home (Met passed) = past_marks k value home passed
from_home k value home (Ended passed) = cannot_return_out k value
from_home k value home TooLong = stop why.ChainTooLong k

abbrev pub to_home : Kept → Ref → Home → Out
to_home k value (HomeAt i) = from_home k value i (senders_to k (active_birth k) i)
to_home k value NoHome = cannot_return_out k value
to_home k value HomeTooFar = stop why.ChainTooLong k

unfoldable pub nonlocal_out : Kept → Ref → Out
nonlocal_out k value = to_home k value (home k (active_birth k))

unfoldable pub back : Kept → Ref → Bool → Out
back k value local = if local then local_out k value else nonlocal_out k value
