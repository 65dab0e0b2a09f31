-- Settling is alike, and so are the primitives that see the whole state.
use Rattle.std.proofs.Common.{ℕ, ◌==◌, ◌||◌, ℤ, int_lt, Bool, true, false, refl, Option, Some, None, List, [], ◌∷◌, if◌then◌else◌}
use Rattle.cs_model.specs.Ref.{Ref, Small, small_of, small_index}
use Rattle.cs_model.specs.State.{Kept, Run, IsHeld}
use Rattle.cs_model.specs.PrimObject.{byte_string, small_count}
use Rattle.cs_model.specs.Settle.{open_at, open_if, open_kept, settle_if, settle_kept}
use Rattle.cs_model.specs.PrimRun.{Result, result, fails, counted, forget, forgotten, with_end, snapshot_prim, quit_prim, clock_prim, with_timer, arm, timer_prim, small_byte, or_bytes, bytes_to_write, written, write_prim, with_input, read_from, read_prim}
use Rattle.cs_model.specs.End.{End, Out, out, given}
use Rattle.cs_model.specs.End as ends
use Rattle.cs_model.specs.Keeps.{Keeps}
use Rattle.cs_model.specs.Alike.{Alike, EndHeld, AlikeResult}
use Rattle.cs_model.proofs.Same.{Same, same, SameOption, none, some, Any, is, value, two, and_then_same, plain, option_is}
use Rattle.cs_model.proofs.Keeping.{Moved, moved, unmoved, choose_moved}
use Rattle.cs_model.proofs.Reading.{Has, up, nil_same, true_same, false_same, is_nil_same, object_of_same, slots_of_same, slice_same, active_process_same, active_ref_same}
use Rattle.cs_model.proofs.Operating.{store_moved, resume_moved, suspend_moved}
use Rattle.cs_model.proofs.Combining.{fail_alike, moved_alike, behind}
use Rattle.cs_model.proofs.Searching.{birth_of_same}
use Rattle.cs_model.proofs.Scheduling.{signal_alike}
use Rattle.cs_model.proofs.Answering.{answer_alike, answered_moved, prim_receiver_same, argument_same}
use Rattle.cs_model.proofs.Processing.{is_semaphore_same, answered_alike}

-- ---- settling and opening

settle_if_moved : {v m : Kept} {o p : Option Ref} → Keeps v m → SameOption (IsHeld v) o p → Moved v (settle_if v o) (settle_if m p)
settle_if_moved k none = unmoved k
settle_if_moved k (some p h) = choose_moved (is_nil_same k (is p)) (unmoved k) (let s = store_moved k (is p) 1 (active_ref_same k) in moved s (suspend_moved s.keeps))

pub settle_moved : {v m : Kept} → Keeps v m → Moved v (settle_kept v) (settle_kept m)
unfolding settle_kept
settle_moved k = settle_if_moved k (active_process_same k)

open_at_moved : {v m : Kept} {o p : Option ℕ} → Keeps v m → (x : Ref) → SameOption (Has v) o p → Moved v (open_at v x o) (open_at m x p)
open_at_moved k x none = unmoved k
open_at_moved k x (some i h) = let s = store_moved k (is x) 1 (nil_same k) in moved s (resume_moved s.keeps (same i (s.grows.held i h)))

open_if_moved : {v m : Kept} {o p : Option Ref} → Keeps v m → SameOption (IsHeld v) o p → Moved v (open_if v o) (open_if m p)
open_if_moved k none = unmoved k
open_if_moved k (some x h) =
    choose_moved (is_nil_same k (is x)) (unmoved k)
    (open_at_moved k x (and_then_same (and_then_same (slots_of_same k 4 (same x h)) (λ slots g. slice_same 1 (same slots g))) (λ z g. birth_of_same k (same z g))))

pub open_moved : {v m : Kept} → Keeps v m → Moved v (open_kept v) (open_kept m)
unfolding open_kept
open_moved k = open_if_moved k (active_process_same k)

forget_moved : {v m : Kept} {o p : Option Ref} → Keeps v m → SameOption (IsHeld v) o p → Moved v (forget v o) (forget m p)
forget_moved k none = unmoved k
forget_moved k (some p h) = choose_moved (is_nil_same k (is p)) (unmoved k) (store_moved k (is p) 1 (nil_same k))

pub forgotten_moved : {v m : Kept} → Keeps v m → Moved v (forgotten v) (forgotten m)
unfolding forgotten
forgotten_moved k = forget_moved k (active_process_same k)

-- ---- what is composed

pub result_alike : {v : Kept} {a b : Out} → Alike v a b → (r : Run) → AlikeResult v (result a r) (result b r)
result_alike h r = record { out = h; run = refl; snapshot = tt }

pub fails_alike : {v m : Kept} → Keeps v m → (r : Run) → AlikeResult v (fails (record { kept = v; run = r })) (fails (record { kept = m; run = r }))
fails_alike k r = result_alike (fail_alike k) r

pub if_result : {v : Kept} {P : Bool → Type 0} {c d : Bool} {a b x y : Result} → Same P c d → AlikeResult v a b → AlikeResult v x y → AlikeResult v (if c then a else x) (if d then b else y)
if_result (same true h) s t = s
if_result (same false h) s t = t

pub given_result : {v : Kept} {A : Type 0} {P : A → Type 0} {o p : Option A} {a b : Result} (f g : A → Result) → SameOption P o p → AlikeResult v a b → ((x : A) → P x → AlikeResult v (f x) (g x)) → AlikeResult v (given o a f) (given p b g)
given_result f g none n s = n
given_result f g (some x h) n s = s x h

counted_alike : {v m : Kept} {a b : Result} → Keeps v m → (r : Run) → (wanted args : ℕ) → AlikeResult v a b → AlikeResult v (counted (record { kept = v; run = r }) wanted args a) (counted (record { kept = m; run = r }) wanted args b)
counted_alike k r wanted args h = if_result (is (wanted == args)) h (fails_alike k r)

with_end_alike : {v : Kept} {a b : Out} → (e : End) → Alike v a b → EndHeld a.state e → Alike v (with_end e a) (with_end e b)
with_end_alike e h held = record { end = refl; count = h.count; keeps = h.keeps; grows = h.grows; held = held }

-- ---- the primitives

pub snapshot_alike : {v m : Kept} → Keeps v m → (r : Run) → (args : ℕ) → AlikeResult v (snapshot_prim (record { kept = v; run = r }) args) (snapshot_prim (record { kept = m; run = r }) args)
unfolding snapshot_prim
snapshot_alike k r args =
    let f = forgotten_moved k in
    let o = behind f (answer_alike f.keeps 0 (up f.grows (false_same k))) in
    let s = answered_moved k 0 (true_same k) in
    counted_alike k r 0 args (if_result (is r.snapping)
    (record { out = with_end_alike ends.Snapshot o tt; run = refl; snapshot = (settle_moved s.keeps).keeps })
    (fails_alike k r))

pub quit_alike : {v m : Kept} → Keeps v m → (r : Run) → (args : ℕ) → AlikeResult v (quit_prim (record { kept = v; run = r }) args) (quit_prim (record { kept = m; run = r }) args)
unfolding quit_prim
quit_alike k r args = counted_alike k r 0 args (result_alike (with_end_alike ends.Quit (answer_alike k 0 (prim_receiver_same k 0)) tt) r)

pub clock_alike : {v m : Kept} → Keeps v m → (r : Run) → (args : ℕ) → AlikeResult v (clock_prim (record { kept = v; run = r }) args) (clock_prim (record { kept = m; run = r }) args)
unfolding clock_prim
clock_alike k r args = counted_alike k r 0 args (result_alike (answer_alike k 0 (same (Small r.clock) tt)) r)

-- behind an answer
arm_alike : {v m t u : Kept} {x y : Ref} → Keeps v m → (r : Run) → Moved v t u → Same (IsHeld v) x y → (moment : ℤ) →
    AlikeResult v (arm (record { kept = v; run = r }) t x moment) (arm (record { kept = m; run = r }) u y moment)
arm_alike k r s (same x h) moment =
    if_result (is_nil_same k (is x)) (result_alike (moved_alike s (same ends.Answer tt)) (with_timer None r))
    (if_result (is (int_lt r.clock moment))
    (result_alike (moved_alike s (same ends.Answer tt)) (with_timer (Some (record { semaphore = x; moment = moment })) r))
    (result_alike (answered_alike (behind s (signal_alike s.keeps (up s.grows (same x h))))) (with_timer None r)))

pub timer_alike : {v m : Kept} → Keeps v m → (r : Run) → (args : ℕ) → AlikeResult v (timer_prim (record { kept = v; run = r }) args) (timer_prim (record { kept = m; run = r }) args)
unfolding timer_prim
timer_alike k r args =
    counted_alike k r 2 args (given_result _ _ (plain (value small_of (argument_same k 2 1))) (fails_alike k r) (λ moment a.
    if_result (two (λ a b. a || b) (is_nil_same k (argument_same k 2 0)) (is_semaphore_same k (argument_same k 2 0)))
    (arm_alike k r (answered_moved k 2 (prim_receiver_same k 2)) (argument_same k 2 0) moment)
    (fails_alike k r)))

bytes_to_write_same : {v m : Kept} {x y : Ref} → Keeps v m → Same (IsHeld v) x y → SameOption Any (bytes_to_write v x) (bytes_to_write m y)
unfolding bytes_to_write
bytes_to_write_same k s = plain (two (λ o x. or_bytes (byte_string o) (small_byte (small_index x))) (option_is (object_of_same k s)) s)

pub write_alike : {v m : Kept} → Keeps v m → (r : Run) → (args : ℕ) → AlikeResult v (write_prim (record { kept = v; run = r }) args) (write_prim (record { kept = m; run = r }) args)
unfolding write_prim
write_alike k r args =
    counted_alike k r 1 args (given_result _ _ (bytes_to_write_same k (argument_same k 1 0)) (fails_alike k r) (λ bytes a.
    result_alike (answer_alike k 1 (prim_receiver_same k 1)) (written bytes r)))

read_from_alike : {v m : Kept} → Keeps v m → (r : Run) → (input : List ℕ) → AlikeResult v (read_from (record { kept = v; run = r }) input) (read_from (record { kept = m; run = r }) input)
read_from_alike k r [] = result_alike (answer_alike k 0 (nil_same k)) r
read_from_alike k r (b ∷ input) = result_alike (answer_alike k 0 (same (small_count b) tt)) (with_input input r)

pub read_alike : {v m : Kept} → Keeps v m → (r : Run) → (args : ℕ) → AlikeResult v (read_prim (record { kept = v; run = r }) args) (read_prim (record { kept = m; run = r }) args)
unfolding read_prim
read_alike k r args = counted_alike k r 0 args (read_from_alike k r r.input)
