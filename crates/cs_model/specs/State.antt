-- The state of the machine, in which each activation is a context in a map from births to objects.
use Rattle.std.specs.Prelude.{◌≡◌, ◌≢◌, ◌↔◌, ℕ, ℤ, ◌<◌, ◌==◌, ◌&&◌, not, Bool, true, false, List, [], Option, Some, None, IsSome, option_and_then, slice_get, nat_lt}
use Rattle.std.specs.Ordering.{nat_cmp}
use Rattle.std.specs.FinMap.{FinMap, get, insert}
use Rattle.cs_model.specs.declared.event.Event.{Event}
use Rattle.std.specs.List.{AllByRecursion}
use Rattle.cs_model.specs.Ref.{Ref, Small, Char, same_ref}
use Rattle.cs_model.specs.Ref as ref
use Rattle.cs_model.specs.Obj.{Obj, Context, Ptr, Raw, Method, Ctx, is_fixed_at, class_index_in, lies_in, slots_in, context_in, at_least}

-- What an image keeps beside its objects: the births of nil, false, true and the special-object array; the 64 bytes of the
-- image header, in which those at places 8 to 23 count as 0; the class table, from class indices to births of classes; the
-- last identity hash that was given; the next birth; and the active context.
pub record Rest : Type 0 where
  pub nil : ℕ
  pub false_ : ℕ
  pub true_ : ℕ
  pub special : ℕ
  pub header : List ℕ
  pub classes : FinMap nat_cmp ℕ
  pub last_hash : ℕ
  pub next : ℕ
  pub active : Option ℕ

-- the kept parts: those that an image holds
pub record Kept : Type 0 where
  pub objects : FinMap nat_cmp Obj
  pub rest : Rest

-- an armed timer signals its semaphore at the first clock event whose moment isn't below its own
pub record Timer : Type 0 where
  pub semaphore : Ref
  pub moment : ℤ

-- The run parts: those that begin anew with each run. What was written, the input that is left, the clock, the timer, the
-- events that are left, the completed bytecodes, and whether snapshots are taken.
pub record Run : Type 0 where
  pub output : List ℕ
  pub input : List ℕ
  pub clock : ℤ
  pub timer : Option Timer
  pub events : List Event
  pub steps : ℕ
  pub snapping : Bool

pub record State : Type 0 where
  pub kept : Kept
  pub run : Run

abbrev pub object_at : Kept → ℕ → Option Obj
object_at k i = get k.objects i

-- the object is the one of its birth from now on
unfoldable pub put : Kept → ℕ → Obj → Kept
put k i o = record k { objects = insert k.objects i o }

abbrev pub with_rest : Rest → Kept → Kept
with_rest r k = record k { rest = r }

abbrev pub object_of : Kept → Ref → Option Obj
object_of k (Small a) = None
object_of k (Char c) = None
object_of k (ref.Obj i) = object_at k i

-- whether image code may not store into what a reference names
abbrev pub is_read_only : Kept → Ref → Bool
is_read_only k x = is_fixed_at (object_of k x)

unfoldable pub slots_of : Kept → ℕ → Ref → Option (List Ref)
slots_of k n x = at_least n (slots_in (object_of k x))

-- slot i of the special-object array, read each time that it is needed
unfoldable pub special_at : Kept → ℕ → Option Ref
special_at k i = option_and_then (λ slots. slice_get slots i) (slots_in (object_at k k.rest.special))

-- what a reference names is there
abbrev pub IsHeld : Kept → Ref → Type 0
IsHeld k (Small a) = Unit {0}
IsHeld k (Char c) = Unit {0}
IsHeld k (ref.Obj i) = IsSome (object_at k i)

pub record ContextHeld (k : Kept) (c : Context) : Type 0 where
  pub sender : IsHeld k c.sender
  pub method : IsHeld k c.method
  pub closure : IsHeld k c.closure
  pub receiver : IsHeld k c.receiver
  pub stack : AllByRecursion (IsHeld k) c.stack

-- all that an object names is there
abbrev pub NamesHeld : Kept → Obj → Type 0
NamesHeld k (Ptr head slots) = AllByRecursion (IsHeld k) slots
NamesHeld k (Raw head bytes) = Unit {0}
NamesHeld k (Method head header literals bytecodes) = AllByRecursion (IsHeld k) literals
NamesHeld k (Ctx c) = ContextHeld k c

-- all that the rest names is there
pub record RestHeld (k : Kept) : Type 0 where
  pub nil : IsSome (object_at k k.rest.nil)
  pub false_ : IsSome (object_at k k.rest.false_)
  pub true_ : IsSome (object_at k k.rest.true_)
  pub special : IsSome (object_at k k.rest.special)
  pub classes : (index i : ℕ) → get k.rest.classes index ≡ Some i → IsSome (object_at k i)
  pub active : (i : ℕ) → k.rest.active ≡ Some i → IsSome (object_at k i)

-- slot 1 of special 3 is a pointer object with two slots, the scheduler
unfoldable pub scheduler_of : Kept → Option Ref
scheduler_of k = option_and_then (λ link. option_and_then (λ slots. slice_get slots 1) (slots_of k 2 link)) (special_at k 3)

-- slot 1 of the scheduler, the active process
unfoldable pub active_process : Kept → Option Ref
active_process k = option_and_then (λ s. option_and_then (λ slots. slice_get slots 1) (slots_of k 2 s)) (scheduler_of k)

-- a context's pc is nil, or its method is a method in which the pc lies
abbrev pub PcLies : Kept → Context → Type 0
PcLies k c = (pc : ℕ) → c.pc ≡ Some pc → lies_in (object_of k c.method) pc ≡ true

-- no object is an immediate's, a hidden one or a filler
abbrev pub is_class_index : ℕ → Bool
is_class_index i = nat_lt 3 i && not (i == 16)

-- a process has four slots, and is neither the scheduler nor special 3
pub record IsProcess (k : Kept) (p : Ref) : Type 0 where
  pub slots : IsSome (slots_of k 4 p)
  pub no_scheduler : scheduler_of k ≢ Some p
  pub no_link : special_at k 3 ≢ Some p

-- the active context is live
abbrev pub IsLive : Kept → ℕ → Type 0
IsLive k i = IsSome (option_and_then (λ c. c.pc) (context_in (object_at k i)))

abbrev pub is_nil : Kept → Ref → Bool
is_nil k x = same_ref x (ref.Obj k.rest.nil)

-- What holds of a state between steps. What it names is there, below the next birth; contexts keep their pcs; class indices
-- and the class table are sound; nil is a pointer object without slots, so nothing can be stored into it; the scheduler has its
-- shape; and a context is active exactly where a process is.
pub record IsValid (s : State) : Type 0 where
  pub below : (i : ℕ) (o : Obj) → object_at s.kept i ≡ Some o → i < s.kept.rest.next
  pub held : (i : ℕ) (o : Obj) → object_at s.kept i ≡ Some o → NamesHeld s.kept o
  pub roots : RestHeld s.kept
  pub timer : (t : Timer) → s.run.timer ≡ Some t → IsHeld s.kept t.semaphore
  pub pcs : (i : ℕ) (c : Context) → object_at s.kept i ≡ Some (Ctx c) → PcLies s.kept c
  pub indices : (i : ℕ) (o : Obj) → object_at s.kept i ≡ Some o → is_class_index (class_index_in o) ≡ true
  pub table : (index i : ℕ) → get s.kept.rest.classes index ≡ Some i → context_in (object_at s.kept i) ≡ None
  pub hidden : get s.kept.rest.classes 16 ≡ None
  pub bare : slots_in (object_at s.kept s.kept.rest.nil) ≡ Some []
  pub scheduler : IsSome (active_process s.kept)
  pub process : (p : Ref) → active_process s.kept ≡ Some p → is_nil s.kept p ≡ false → IsProcess s.kept p
  pub idle : (p : Ref) → active_process s.kept ≡ Some p → (is_nil s.kept p ≡ true) ↔ (s.kept.rest.active ≡ None)
  pub live : (i : ℕ) → s.kept.rest.active ≡ Some i → IsLive s.kept i
