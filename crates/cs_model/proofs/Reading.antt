-- What is read of a state is the same in a state that it keeps, and what a read names is held.
use Rattle.std.proofs.Common.{◌≡◌, ℕ, ◌+◌, ◌-◌, Bool, true, false, refl, sym, ap, subst, ◌∙◌, Option, Some, None, IsSome, List, [], length, unwrap_or, option_map, nat_lt, nat_le, if◌then◌else◌}
use Rattle.std.specs.Prelude.{slice_get}
use Rattle.std.specs.List.{AllByRecursion}
use Rattle.std.specs.FinMap.{get}
use Rattle.cs_model.specs.Ref.{Ref, Small, Char, named_object, same_ref}
use Rattle.cs_model.specs.Ref as ref
use Rattle.cs_model.specs.Obj.{Obj, Context, Ptr, Raw, Method, Ctx, is_fixed_at, slots_in, context_in, literals_in, bytecodes_in, at_least}
use Rattle.cs_model.specs.State.{Kept, object_at, object_of, is_read_only, slots_of, special_at, scheduler_of, active_process, is_nil, IsHeld, ContextHeld, NamesHeld}
use Rattle.cs_model.specs.Read.{index_of_class, class_index_of, class_of, blank_context, active_birth, active_context, stack_of, depth_of, size_of, pc_of, receiver_of, method_of, literals_of, bytecodes_of, from_top}
use Rattle.cs_model.specs.Operation.{nil_of}
use Rattle.cs_model.specs.Number.{boolean}
use Rattle.cs_model.specs.Keeps.{Keeps, Grows}
use Rattle.cs_model.specs.Alike.{IsHeldIf}
use Rattle.cs_model.proofs.Same.{Same, same, SameOption, none, some, Any, same_by, some_by, of, value, of_option, two, and_then_same, or_same, at_index}
use Rattle.cs_model.proofs.Keeping.{IsHeld-grows, all-grows}

pub record AllHeld (v : Kept) (xs : List Ref) : Type 0 where
  pub all : AllByRecursion (IsHeld v) xs

pub listed : (v : Kept) (xs : List Ref) → AllByRecursion (IsHeld v) xs → Same (AllHeld v) xs xs
listed v xs h = same xs (record { all = h })

pub held_if : {v m : Kept} → Keeps v m → (o : Option Ref) → IsHeldIf v o → SameOption (IsHeld v) o o
held_if k None h = none
held_if k (Some x) h = some x h

-- an object is at the birth
abbrev pub Has : Kept → ℕ → Type 0
Has v i = IsSome (object_at v i)

-- ---- what was held before a move is held behind it

pub up : {v t : Kept} {x y : Ref} → Grows v t → Same (IsHeld v) x y → Same (IsHeld t) x y
up g (same x h) = same x (IsHeld-grows g x h)

pub up_all : {v t : Kept} {xs ys : List Ref} → Grows v t → Same (AllHeld v) xs ys → Same (AllHeld t) xs ys
up_all g (same xs h) = same xs (record { all = all-grows g xs h.all })

pub up_birth : {v t : Kept} {i j : ℕ} → Grows v t → Same (Has v) i j → Same (Has t) i j
up_birth g (same i h) = same i (g.held i h)

-- ---- the rest

pub rest_same : {v m : Kept} → Keeps v m → Same (λ r. v.rest ≡ r) v.rest m.rest
rest_same {v} {m} k = same_by (λ r. v.rest ≡ r) v.rest m.rest (sym k.rest) refl

pub nil_birth_same : {v m : Kept} → Keeps v m → Same (Has v) v.rest.nil m.rest.nil
nil_birth_same {v} k = of (Has v) (λ r. r.nil) (rest_same k) (λ r e. subst (λ s. Has v s.nil) e k.roots.nil)

pub nil_same : {v m : Kept} → Keeps v m → Same (IsHeld v) (nil_of v) (nil_of m)
nil_same {v} k = of (IsHeld v) (λ i. ref.Obj i) (nil_birth_same k) (λ i h. h)

pub true_same : {v m : Kept} → Keeps v m → Same (IsHeld v) (ref.Obj v.rest.true_) (ref.Obj m.rest.true_)
true_same {v} k = of (IsHeld v) (λ r. ref.Obj r.true_) (rest_same k) (λ r e. subst (λ s. Has v s.true_) e k.roots.true_)

pub false_same : {v m : Kept} → Keeps v m → Same (IsHeld v) (ref.Obj v.rest.false_) (ref.Obj m.rest.false_)
false_same {v} k = of (IsHeld v) (λ r. ref.Obj r.false_) (rest_same k) (λ r e. subst (λ s. Has v s.false_) e k.roots.false_)

pub boolean_same : {v m : Kept} {b c : Bool} → Keeps v m → Same Any b c → Same (IsHeld v) (boolean v b) (boolean m c)
boolean_same k (same true a) = true_same k
boolean_same k (same false a) = false_same k

pub next_same : {v m : Kept} → Keeps v m → Same Any v.rest.next m.rest.next
next_same k = value (λ r. r.next) (rest_same k)

pub is_nil_same : {v m : Kept} {P : Ref → Type 0} {x y : Ref} → Keeps v m → Same P x y → Same Any (is_nil v x) (is_nil m y)
is_nil_same k (same x h) = value (λ r. same_ref x (ref.Obj r.nil)) (rest_same k)

pub same_ref_same : {P Q : Ref → Type 0} {x y z w : Ref} → Same P x y → Same Q z w → Same Any (same_ref x z) (same_ref y w)
same_ref_same s t = two same_ref s t

-- ---- objects

pub object_at_same : {v m : Kept} {i j : ℕ} → Keeps v m → Same (Has v) i j → SameOption (NamesHeld v) (object_at v i) (object_at m j)
object_at_same {v} {m} k (same i h) = kept (object_at v i) refl h where
  kept : (o : Option Obj) → object_at v i ≡ o → IsSome o → SameOption (NamesHeld v) o (object_at m i)
  kept None e found = absurd (cc)
  kept (Some o) e found = some_by (NamesHeld v) (Some o) (object_at m i) (k.same i o e) (λ p g. k.closed i p (e ∙ g))

pub object_of_same : {v m : Kept} {x y : Ref} → Keeps v m → Same (IsHeld v) x y → SameOption (NamesHeld v) (object_of v x) (object_of m y)
object_of_same k (same (Small a) h) = none
object_of_same k (same (Char c) h) = none
object_of_same k (same (ref.Obj i) h) = object_at_same k (same i h)

pub is_read_only_same : {v m : Kept} {x y : Ref} → Keeps v m → Same (IsHeld v) x y → Same Any (is_read_only v x) (is_read_only m y)
is_read_only_same k s = of_option is_fixed_at (object_of_same k s)

pub slots_in_same : {v : Kept} {o p : Option Obj} → SameOption (NamesHeld v) o p → SameOption (AllHeld v) (slots_in o) (slots_in p)
slots_in_same none = none
slots_in_same (some (Ptr head slots) h) = some slots (record { all = h })
slots_in_same (some (Raw head bytes) h) = none
slots_in_same (some (Method head header literals bytecodes) h) = none
slots_in_same (some (Ctx c) h) = none

pub context_in_same : {v : Kept} {o p : Option Obj} → SameOption (NamesHeld v) o p → SameOption (ContextHeld v) (context_in o) (context_in p)
context_in_same none = none
context_in_same (some (Ptr head slots) h) = none
context_in_same (some (Raw head bytes) h) = none
context_in_same (some (Method head header literals bytecodes) h) = none
context_in_same (some (Ctx c) h) = some c h

pub literals_in_same : {v : Kept} {o p : Option Obj} → SameOption (NamesHeld v) o p → Same (AllHeld v) (literals_in o) (literals_in p)
literals_in_same none = same [] (record { all = tt })
literals_in_same (some (Ptr head slots) h) = same [] (record { all = tt })
literals_in_same (some (Raw head bytes) h) = same [] (record { all = tt })
literals_in_same (some (Method head header literals bytecodes) h) = same literals (record { all = h })
literals_in_same (some (Ctx c) h) = same [] (record { all = tt })

pub slice_same : {v : Kept} {xs ys : List Ref} → (i : ℕ) → Same (AllHeld v) xs ys → SameOption (IsHeld v) (slice_get xs i) (slice_get ys i)
slice_same {v} i (same xs h) = at_index (IsHeld v) xs i h.all

pub at_least_same : {v : Kept} {o p : Option (List Ref)} → (n : ℕ) → SameOption (AllHeld v) o p → SameOption (AllHeld v) (at_least n o) (at_least n p)
at_least_same n none = none
at_least_same {v} n (some slots h) = elim (nat_le n (length slots)) as (λ b. SameOption (AllHeld v) (if b then Some slots else None) (if b then Some slots else None)) [ true ↦ some slots h | false ↦ none ]

pub slots_of_same : {v m : Kept} {x y : Ref} → Keeps v m → (n : ℕ) → Same (IsHeld v) x y → SameOption (AllHeld v) (slots_of v n x) (slots_of m n y)
unfolding slots_of
slots_of_same k n s = at_least_same n (slots_in_same (object_of_same k s))

pub special_array_same : {v m : Kept} → Keeps v m → Same (Has v) v.rest.special m.rest.special
special_array_same {v} k = of (Has v) (λ r. r.special) (rest_same k) (λ r e. subst (λ s. Has v s.special) e k.roots.special)

pub special_at_same : {v m : Kept} → Keeps v m → (i : ℕ) → SameOption (IsHeld v) (special_at v i) (special_at m i)
unfolding special_at
special_at_same k i = and_then_same (slots_in_same (object_at_same k (special_array_same k))) (λ slots h. slice_same i (same slots h))

pub scheduler_same : {v m : Kept} → Keeps v m → SameOption (IsHeld v) (scheduler_of v) (scheduler_of m)
unfolding scheduler_of
scheduler_same k = and_then_same (special_at_same k 3) (λ x h. and_then_same (slots_of_same k 2 (same x h)) (λ slots g. slice_same 1 (same slots g)))

pub active_process_same : {v m : Kept} → Keeps v m → SameOption (IsHeld v) (active_process v) (active_process m)
unfolding active_process
active_process_same k = and_then_same (scheduler_same k) (λ x h. and_then_same (slots_of_same k 2 (same x h)) (λ slots g. slice_same 1 (same slots g)))

-- ---- classes

pub class_index_same : {v m : Kept} {x y : Ref} → Keeps v m → Same (IsHeld v) x y → Same Any (class_index_of v x) (class_index_of m y)
class_index_same k (same (Small a) h) = same 1 tt
class_index_same k (same (Char c) h) = same 2 tt
class_index_same k (same (ref.Obj i) h) = of_option index_of_class (object_at_same k (same i h))

pub class_at_same : {v m : Kept} {n l : ℕ} → Keeps v m → Same Any n l → SameOption (Has v) (get v.rest.classes n) (get m.rest.classes l)
class_at_same {v} {m} k (same n a) = some_by (Has v) (get v.rest.classes n) (get m.rest.classes n) (ap (λ r. get r.classes n) (sym k.rest)) (λ i e. k.roots.classes n i e)

pub class_of_same : {v m : Kept} {x y : Ref} → Keeps v m → Same (IsHeld v) x y → SameOption (IsHeld v) (class_of v x) (class_of m y)
unfolding class_of
class_of_same {v} {m} {x} {y} k s = classed (class_at_same k (class_index_same k s)) where
  classed : {o p : Option ℕ} → SameOption (Has v) o p → SameOption (IsHeld v) (option_map (λ i. ref.Obj i) o) (option_map (λ i. ref.Obj i) p)
  classed none = none
  classed (some i h) = some (ref.Obj i) h

-- ---- the active context

pub active_birth_same : {v m : Kept} → Keeps v m → Same (Has v) (active_birth v) (active_birth m)
active_birth_same {v} k = of (Has v) (λ r. unwrap_or r.active r.nil) (rest_same k) (λ r e. subst (λ s. Has v (unwrap_or s.active s.nil)) e (there v.rest.active k.roots.active)) where
  there : (o : Option ℕ) → ((i : ℕ) → o ≡ Some i → Has v i) → Has v (unwrap_or o v.rest.nil)
  there None h = k.roots.nil
  there (Some i) h = h i refl

pub active_ref_same : {v m : Kept} → Keeps v m → Same (IsHeld v) (ref.Obj (active_birth v)) (ref.Obj (active_birth m))
active_ref_same {v} k = of (IsHeld v) (λ i. ref.Obj i) (active_birth_same k) (λ i h. h)

pub blank_held : (v : Kept) → ContextHeld v blank_context
blank_held v = record { sender = tt; method = tt; closure = tt; receiver = tt; stack = tt }

pub active_context_same : {v m : Kept} → Keeps v m → Same (ContextHeld v) (active_context v) (active_context m)
unfolding active_context
active_context_same {v} k = or_same (context_in_same (object_at_same k (active_birth_same k))) (same blank_context (blank_held v))

pub context_stack : {v : Kept} {c d : Context} → Same (ContextHeld v) c d → Same (AllHeld v) c.stack d.stack
context_stack (same c h) = same c.stack (record { all = h.stack })

pub context_sender : {v : Kept} {c d : Context} → Same (ContextHeld v) c d → Same (IsHeld v) c.sender d.sender
context_sender (same c h) = same c.sender h.sender

pub context_method : {v : Kept} {c d : Context} → Same (ContextHeld v) c d → Same (IsHeld v) c.method d.method
context_method (same c h) = same c.method h.method

pub context_closure : {v : Kept} {c d : Context} → Same (ContextHeld v) c d → Same (IsHeld v) c.closure d.closure
context_closure (same c h) = same c.closure h.closure

pub context_receiver : {v : Kept} {c d : Context} → Same (ContextHeld v) c d → Same (IsHeld v) c.receiver d.receiver
context_receiver (same c h) = same c.receiver h.receiver

pub stack_same : {v m : Kept} → Keeps v m → Same (AllHeld v) (stack_of v) (stack_of m)
stack_same k = context_stack (active_context_same k)

pub depth_same : {v m : Kept} → Keeps v m → Same Any (depth_of v) (depth_of m)
depth_same k = value (λ c. length c.stack) (active_context_same k)

pub size_same : {v m : Kept} → Keeps v m → Same Any (size_of v) (size_of m)
size_same k = value (λ c. c.size) (active_context_same k)

pub pc_same : {v m : Kept} → Keeps v m → Same Any (pc_of v) (pc_of m)
pc_same k = value (λ c. unwrap_or c.pc 0) (active_context_same k)

pub receiver_same : {v m : Kept} → Keeps v m → Same (IsHeld v) (receiver_of v) (receiver_of m)
receiver_same k = context_receiver (active_context_same k)

pub method_same : {v m : Kept} → Keeps v m → SameOption (NamesHeld v) (method_of v) (method_of m)
unfolding method_of
method_same k = object_of_same k (context_method (active_context_same k))

pub literals_same : {v m : Kept} → Keeps v m → Same (AllHeld v) (literals_of v) (literals_of m)
literals_same k = literals_in_same (method_same k)

pub bytecodes_same : {v m : Kept} → Keeps v m → Same Any (bytecodes_of v) (bytecodes_of m)
bytecodes_same k = of_option bytecodes_in (method_same k)

pub from_top_same : {v : Kept} {xs ys : List Ref} → (n : ℕ) → Same (AllHeld v) xs ys → SameOption (IsHeld v) (from_top n xs) (from_top n ys)
from_top_same {v} n (same xs h) =
    elim (nat_lt n (length xs)) as (λ b. SameOption (IsHeld v) (if b then slice_get xs (length xs - (n + 1)) else None) (if b then slice_get xs (length xs - (n + 1)) else None))
    [ true ↦ at_index (IsHeld v) xs _ h.all | false ↦ none ]
