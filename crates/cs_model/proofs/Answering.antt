-- What all primitives share is alike, and so are those on numbers.
use Rattle.std.proofs.Common.{ℕ, ◌+◌, ◌-◌, ◌==◌, Bool, true, false, Option, Some, None, option_map, option_and_then, if◌then◌else◌}
use Rattle.cs_model.specs.Ref.{Ref}
use Rattle.cs_model.specs.State.{Kept, IsHeld}
use Rattle.cs_model.specs.PrimAnswer.{answer, receiver, argument, answer_if, with_count}
use Rattle.cs_model.specs.PrimNumber.{number_prim}
use Rattle.cs_model.specs.PrimObject.{answer_in, unless_read_only}
use Rattle.cs_model.specs.End.{Out}
use Rattle.cs_model.specs.End as ends
use Rattle.cs_model.specs.Keeps.{Keeps}
use Rattle.cs_model.specs.Alike.{Alike}
use Rattle.cs_model.proofs.Same.{Same, same, SameOption, none, some, is, and_then_same, or_same}
use Rattle.cs_model.proofs.Keeping.{Moved}
use Rattle.cs_model.proofs.Reading.{up, is_read_only_same, nil_same, stack_same, from_top_same}
use Rattle.cs_model.proofs.Operating.{receiver_below_same}
use Rattle.cs_model.proofs.Combining.{fail_alike, moved_alike, behind, given_alike, if_alike}
use Rattle.cs_model.proofs.Executing.{instead_moved, small_operands_same, number_result_same}

pub answer_alike : {v m : Kept} {x y : Ref} → Keeps v m → (args : ℕ) → Same (IsHeld v) x y → Alike v (answer v args x) (answer m args y)
unfolding answer
answer_alike k args s = moved_alike (instead_moved k (args + 1) s) (same ends.Answer tt)

-- what an answer leaves
pub answered_moved : {v m : Kept} {x y : Ref} → Keeps v m → (args : ℕ) → Same (IsHeld v) x y → Moved v (answer v args x).state (answer m args y).state
unfolding answer
answered_moved k args s = instead_moved k (args + 1) s

pub prim_receiver_same : {v m : Kept} → Keeps v m → (args : ℕ) → Same (IsHeld v) (receiver v args) (receiver m args)
prim_receiver_same k args = receiver_below_same k args (nil_same k) (stack_same k)

pub argument_same : {v m : Kept} → Keeps v m → (args i : ℕ) → Same (IsHeld v) (argument v args i) (argument m args i)
argument_same k args i = or_same (from_top_same (args - (i + 1)) (stack_same k)) (nil_same k)

pub answer_if_alike : {v m : Kept} {o p : Option Ref} → Keeps v m → (args : ℕ) → SameOption (IsHeld v) o p → Alike v (answer_if v args o) (answer_if m args p)
answer_if_alike k args s = given_alike _ _ s (fail_alike k) (λ x h. answer_alike k args (same x h))

pub with_count_alike : {v m : Kept} {a b : Out} → Keeps v m → (wanted args : ℕ) → Alike v a b → Alike v (with_count v wanted args a) (with_count m wanted args b)
with_count_alike k wanted args h = if_alike (is (wanted == args)) h (fail_alike k)

-- ---- states that may be given

pub data MovedOption (v : Kept) : Option Kept → Option Kept → Type 0 where
  nothing : MovedOption v None None
  gives : {t u : Kept} → Moved v t u → MovedOption v (Some t) (Some u)

pub and_then_moved : {v : Kept} {A : Type 0} {P : A → Type 0} {o p : Option A} (f g : A → Option Kept) → SameOption P o p → ((x : A) → P x → MovedOption v (f x) (g x)) → MovedOption v (option_and_then f o) (option_and_then g p)
and_then_moved f g none next = nothing
and_then_moved f g (some x h) next = next x h

pub map_moved : {v : Kept} {A : Type 0} {P : A → Type 0} {o p : Option A} (f g : A → Kept) → SameOption P o p → ((x : A) → P x → Moved v (f x) (g x)) → MovedOption v (option_map f o) (option_map g p)
map_moved f g none next = nothing
map_moved f g (some x h) next = gives (next x h)

pub if_moved : {v : Kept} {P : Bool → Type 0} {b c : Bool} {o p q r : Option Kept} → Same P b c → MovedOption v o p → MovedOption v q r → MovedOption v (if b then o else q) (if c then p else r)
if_moved (same true a) s t = s
if_moved (same false a) s t = t

pub answer_in_alike : {v m : Kept} {o p : Option Kept} {x y : Ref} → MovedOption v o p → Keeps v m → (args : ℕ) → Same (IsHeld v) x y → Alike v (answer_in o v args x) (answer_in p m args y)
answer_in_alike nothing k args s = fail_alike k
answer_in_alike (gives t) k args s = behind t (answer_alike t.keeps args (up t.grows s))

pub unless_read_only_alike : {v m : Kept} {x y : Ref} {a b : Out} → Keeps v m → Same (IsHeld v) x y → Alike v a b → Alike v (unless_read_only v x a) (unless_read_only m y b)
unless_read_only_alike k s h = if_alike (is_read_only_same k s) (fail_alike k) h

-- ---- numbers

pub number_prim_alike : {v m : Kept} → Keeps v m → (number args : ℕ) → Alike v (number_prim v number args) (number_prim m number args)
unfolding number_prim
number_prim_alike k number args = with_count_alike k 1 args (answer_if_alike k 1 (and_then_same (small_operands_same k) (λ p h. number_result_same k number p.0 p.1)))
