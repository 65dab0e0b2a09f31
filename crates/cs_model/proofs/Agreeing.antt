-- What is read is the same in a state that keeps another one, and in that one; and what is read is there.
use Rattle.std.proofs.Common.{◌≡◌, ◌∙◌, ℕ, Bool, Option, Some, List, sym, ap}
use Rattle.std.specs.Prelude.{slice_get}
use Rattle.std.specs.List.{AllByRecursion}
use Rattle.cs_model.specs.Ref.{Ref, named_object}
use Rattle.cs_model.specs.Ref as ref
use Rattle.cs_model.specs.Obj.{Context, Ctx, lies_in}
use Rattle.cs_model.specs.State.{Kept, object_at, object_of, is_read_only, slots_of, special_at, scheduler_of, active_process, is_nil, IsHeld, ContextHeld}
use Rattle.cs_model.specs.Read.{IsRunning, class_of, active_birth, active_context, stack_of, depth_of, size_of, pc_of, receiver_of, method_of, literals_of, bytecodes_of}
use Rattle.cs_model.specs.Operation.{nil_of}
use Rattle.cs_model.specs.Number.{boolean}
use Rattle.cs_model.specs.Context.{context_get, accepts}
use Rattle.cs_model.specs.Enter.{can_evaluate}
use Rattle.cs_model.specs.Exec.{literal_at, variable_value}
use Rattle.cs_model.specs.Lookup.{lookup}
use Rattle.cs_model.specs.Return.{sender_birth, senders_to, home, is_marked, is_live}
use Rattle.cs_model.specs.Process.{slot_or_none, shaped_scheduler}
use Rattle.cs_model.specs.PrimProcess.{is_semaphore}
use Rattle.cs_model.specs.Instance.{class_index_for, hash_of}
use Rattle.cs_model.specs.Due.{is_idle}
use Rattle.cs_model.specs.Step.{instruction_at}
use Rattle.cs_model.specs.Report.{place_at, no_place, place_of}
use Rattle.cs_model.specs.Keeps.{Keeps}
use Rattle.cs_model.specs.Alike.{SoughtHeld}
use Rattle.cs_model.proofs.Same.{Same, same, SameOption, none, some, Any, two, if_same, equal, holds, option_equal, option_holds, is}
use Rattle.cs_model.proofs.Reading.{rest_same, Has, nil_same, boolean_same, is_nil_same, object_at_same, object_of_same, is_read_only_same, slots_of_same, special_at_same, scheduler_same, active_process_same, class_of_same, active_birth_same, active_ref_same, active_context_same, slice_same, stack_same, depth_same, size_same, pc_same, receiver_same, method_same, literals_same, bytecodes_same}
use Rattle.cs_model.proofs.Fields.{context_get_same, accepts_same}
use Rattle.cs_model.proofs.Making.{class_index_for_same, hash_of_same}
use Rattle.cs_model.proofs.Entering.{can_evaluate_same}
use Rattle.cs_model.proofs.Executing.{literal_at_same, variable_value_same}
use Rattle.cs_model.proofs.Searching.{lookup_same, sender_birth_same, senders_to_same, home_same, is_marked_same, is_live_same}
use Rattle.cs_model.proofs.Scheduling.{slot_same, shaped_scheduler_same}
use Rattle.cs_model.proofs.Processing.{is_semaphore_same}
use Rattle.cs_model.proofs.Happening.{is_idle_same}
use Rattle.cs_model.proofs.Stepping.{instruction_at_same}

-- ---- what is the same

pub object_at-kept : (v m : Kept) (i : ℕ) → Keeps v m → Has v i → object_at m i ≡ object_at v i
object_at-kept v m i k h = option_equal (object_at_same k (same i h))

pub object_of-kept : (v m : Kept) (x : Ref) → Keeps v m → IsHeld v x → object_of m x ≡ object_of v x
object_of-kept v m x k h = option_equal (object_of_same k (same x h))

pub is_read_only-kept : (v m : Kept) (x : Ref) → Keeps v m → IsHeld v x → is_read_only m x ≡ is_read_only v x
is_read_only-kept v m x k h = equal (is_read_only_same k (same x h))

pub slots_of-kept : (v m : Kept) (n : ℕ) (x : Ref) → Keeps v m → IsHeld v x → slots_of m n x ≡ slots_of v n x
slots_of-kept v m n x k h = option_equal (slots_of_same k n (same x h))

pub slot_or_none-kept : (v m : Kept) (n i : ℕ) (x : Ref) → Keeps v m → IsHeld v x → slot_or_none m n i x ≡ slot_or_none v n i x
slot_or_none-kept v m n i x k h = option_equal (slot_same k n i (same x h))

pub special_at-kept : (v m : Kept) (i : ℕ) → Keeps v m → special_at m i ≡ special_at v i
special_at-kept v m i k = option_equal (special_at_same k i)

pub nil_of-kept : (v m : Kept) → Keeps v m → nil_of m ≡ nil_of v
nil_of-kept v m k = equal (nil_same k)

pub is_nil-kept : (v m : Kept) (x : Ref) → Keeps v m → is_nil m x ≡ is_nil v x
is_nil-kept v m x k = equal (is_nil_same k (is x))

pub boolean-kept : (v m : Kept) (b : Bool) → Keeps v m → boolean m b ≡ boolean v b
boolean-kept v m b k = equal (boolean_same k (is b))

pub class_of-kept : (v m : Kept) (x : Ref) → Keeps v m → IsHeld v x → class_of m x ≡ class_of v x
class_of-kept v m x k h = option_equal (class_of_same k (same x h))

pub active_birth-kept : (v m : Kept) → Keeps v m → active_birth m ≡ active_birth v
active_birth-kept v m k = equal (active_birth_same k)

pub active_context-kept : (v m : Kept) → Keeps v m → active_context m ≡ active_context v
active_context-kept v m k = equal (active_context_same k)

pub stack_of-kept : (v m : Kept) → Keeps v m → stack_of m ≡ stack_of v
stack_of-kept v m k = equal (stack_same k)

pub depth_of-kept : (v m : Kept) → Keeps v m → depth_of m ≡ depth_of v
depth_of-kept v m k = equal (depth_same k)

pub size_of-kept : (v m : Kept) → Keeps v m → size_of m ≡ size_of v
size_of-kept v m k = equal (size_same k)

pub pc_of-kept : (v m : Kept) → Keeps v m → pc_of m ≡ pc_of v
pc_of-kept v m k = equal (pc_same k)

pub receiver_of-kept : (v m : Kept) → Keeps v m → receiver_of m ≡ receiver_of v
receiver_of-kept v m k = equal (receiver_same k)

pub method_of-kept : (v m : Kept) → Keeps v m → method_of m ≡ method_of v
method_of-kept v m k = option_equal (method_same k)

pub literals_of-kept : (v m : Kept) → Keeps v m → literals_of m ≡ literals_of v
literals_of-kept v m k = equal (literals_same k)

pub bytecodes_of-kept : (v m : Kept) → Keeps v m → bytecodes_of m ≡ bytecodes_of v
bytecodes_of-kept v m k = equal (bytecodes_same k)

pub scheduler_of-kept : (v m : Kept) → Keeps v m → scheduler_of m ≡ scheduler_of v
scheduler_of-kept v m k = option_equal (scheduler_same k)

pub shaped_scheduler-kept : (v m : Kept) → Keeps v m → shaped_scheduler m ≡ shaped_scheduler v
shaped_scheduler-kept v m k = option_equal (shaped_scheduler_same k)

pub active_process-kept : (v m : Kept) → Keeps v m → active_process m ≡ active_process v
active_process-kept v m k = option_equal (active_process_same k)

pub literal_at-kept : (v m : Kept) (i : ℕ) → Keeps v m → literal_at m i ≡ literal_at v i
literal_at-kept v m i k = option_equal (literal_at_same k i)

pub variable_value-kept : (v m : Kept) (i : ℕ) → Keeps v m → variable_value m i ≡ variable_value v i
variable_value-kept v m i k = option_equal (variable_value_same k i)

pub context_get-kept : (v m : Kept) (c : Context) (i : ℕ) → Keeps v m → ContextHeld v c → context_get m c i ≡ context_get v c i
context_get-kept v m c i k h = option_equal (context_get_same k (same c h) i)

pub accepts-kept : (v m : Kept) (active : Bool) (c : Context) (i : ℕ) (x : Ref) → Keeps v m → ContextHeld v c → IsHeld v x → accepts m active c i x ≡ accepts v active c i x
accepts-kept v m active c i x k h g = equal (accepts_same k (is active) (same c h) i (same x g))

pub class_index_for-kept : (v m : Kept) (x : Ref) → Keeps v m → IsHeld v x → class_index_for m x ≡ class_index_for v x
class_index_for-kept v m x k h = equal (class_index_for_same k (same x h))

pub hash_of-kept : (v m : Kept) (x : Ref) → Keeps v m → IsHeld v x → hash_of m x ≡ hash_of v x
hash_of-kept v m x k h = equal (hash_of_same k (same x h))

pub can_evaluate-kept : (v m : Kept) (x : Ref) (args : ℕ) → Keeps v m → IsHeld v x → can_evaluate m x args ≡ can_evaluate v x args
can_evaluate-kept v m x args k h = equal (can_evaluate_same k (same x h) args)

pub lookup-kept : (v m : Kept) (class selector : Ref) → Keeps v m → IsHeld v class → lookup m class selector ≡ lookup v class selector
lookup-kept v m class selector k h = equal (lookup_same k (same class h) (is selector))

pub sender_birth-kept : (v m : Kept) (i : ℕ) → Keeps v m → Has v i → sender_birth m i ≡ sender_birth v i
sender_birth-kept v m i k h = option_equal (sender_birth_same k (same i h))

pub senders_to-kept : (v m : Kept) (i goal : ℕ) → Keeps v m → Has v i → senders_to m i goal ≡ senders_to v i goal
senders_to-kept v m i goal k h = equal (senders_to_same k (same i h) goal)

pub home-kept : (v m : Kept) (i : ℕ) → Keeps v m → Has v i → home m i ≡ home v i
home-kept v m i k h = equal (home_same k (same i h))

pub is_marked-kept : (v m : Kept) (number i : ℕ) → Keeps v m → Has v i → is_marked m number i ≡ is_marked v number i
is_marked-kept v m number i k h = equal (is_marked_same k number (same i h))

pub is_live-kept : (v m : Kept) (i : ℕ) → Keeps v m → Has v i → is_live m i ≡ is_live v i
is_live-kept v m i k h = equal (is_live_same k (same i h))

pub is_semaphore-kept : (v m : Kept) (x : Ref) → Keeps v m → IsHeld v x → is_semaphore m x ≡ is_semaphore v x
is_semaphore-kept v m x k h = equal (is_semaphore_same k (same x h))

pub is_idle-kept : (v m : Kept) → Keeps v m → is_idle m ≡ is_idle v
is_idle-kept v m k = equal (is_idle_same k)

pub instruction_at-kept : (v m : Kept) → Keeps v m → instruction_at m ≡ instruction_at v
instruction_at-kept v m k = option_equal (instruction_at_same k)

place_at_same : {v m : Kept} {o p : Option Ref} → Keeps v m → SameOption (IsHeld v) o p → Same Any (place_at v o) (place_at m p)
place_at_same k none = is no_place
place_at_same k (some p h) = if_same (is_nil_same k (is p)) (is no_place) (two (λ r c. record { process = named_object p; context = r.active; pc = c.pc }) (rest_same k) (active_context_same k))

pub place_of-kept : (v m : Kept) → Keeps v m → place_of m ≡ place_of v
unfolding place_of
place_of-kept v m k = equal (place_at_same k (active_process_same k))

-- what is read of a state that is kept
pub ruleset reads_kept = (object_at-kept, object_of-kept, is_read_only-kept, slots_of-kept, slot_or_none-kept, special_at-kept, nil_of-kept, is_nil-kept, boolean-kept, class_of-kept, active_birth-kept, active_context-kept, stack_of-kept, depth_of-kept, size_of-kept, pc_of-kept, receiver_of-kept, method_of-kept, literals_of-kept, bytecodes_of-kept, scheduler_of-kept, shaped_scheduler-kept, active_process-kept, literal_at-kept, variable_value-kept, context_get-kept, accepts-kept, class_index_for-kept, hash_of-kept, can_evaluate-kept, lookup-kept, sender_birth-kept, senders_to-kept, home-kept, is_marked-kept, is_live-kept, is_semaphore-kept, is_idle-kept, instruction_at-kept, place_of-kept)

-- ---- what is there

pub special_at-held : (v : Kept) (i : ℕ) (x : Ref) → Keeps v v → special_at v i ≡ Some x → IsHeld v x
special_at-held v i x k e = option_holds (special_at_same k i) x e

pub class_of-held : (v : Kept) (x y : Ref) → Keeps v v → IsHeld v x → class_of v x ≡ Some y → IsHeld v y
class_of-held v x y k h e = option_holds (class_of_same k (same x h)) y e

pub slots_of-held : (v : Kept) (n : ℕ) (x : Ref) (slots : List Ref) → Keeps v v → IsHeld v x → slots_of v n x ≡ Some slots → AllByRecursion (IsHeld v) slots
slots_of-held v n x slots k h e = (option_holds (slots_of_same k n (same x h)) slots e).all

pub slot_or_none-held : (v : Kept) (n i : ℕ) (x y : Ref) → Keeps v v → IsHeld v x → slot_or_none v n i x ≡ Some y → IsHeld v y
slot_or_none-held v n i x y k h e = option_holds (slot_same k n i (same x h)) y e

pub scheduler_of-held : (v : Kept) (x : Ref) → Keeps v v → scheduler_of v ≡ Some x → IsHeld v x
scheduler_of-held v x k e = option_holds (scheduler_same k) x e

pub shaped_scheduler-held : (v : Kept) (x : Ref) → Keeps v v → shaped_scheduler v ≡ Some x → IsHeld v x
shaped_scheduler-held v x k e = option_holds (shaped_scheduler_same k) x e

pub active_process-held : (v : Kept) (x : Ref) → Keeps v v → active_process v ≡ Some x → IsHeld v x
active_process-held v x k e = option_holds (active_process_same k) x e

pub literal_at-held : (v : Kept) (i : ℕ) (x : Ref) → Keeps v v → literal_at v i ≡ Some x → IsHeld v x
literal_at-held v i x k e = option_holds (literal_at_same k i) x e

pub variable_value-held : (v : Kept) (i : ℕ) (x : Ref) → Keeps v v → variable_value v i ≡ Some x → IsHeld v x
variable_value-held v i x k e = option_holds (variable_value_same k i) x e

pub stack_at-held : (v : Kept) (i : ℕ) (x : Ref) → Keeps v v → slice_get (stack_of v) i ≡ Some x → IsHeld v x
stack_at-held v i x k e = option_holds (slice_same i (stack_same k)) x e

pub nil_of-held : (v : Kept) → Keeps v v → IsHeld v (nil_of v)
nil_of-held v k = holds (nil_same k)

pub active_ref-held : (v : Kept) → Keeps v v → IsHeld v (ref.Obj (active_birth v))
active_ref-held v k = holds (active_ref_same k)

pub active_context-held : (v : Kept) → Keeps v v → ContextHeld v (active_context v)
active_context-held v k = holds (active_context_same k)

pub stack_of-held : (v : Kept) → Keeps v v → AllByRecursion (IsHeld v) (stack_of v)
stack_of-held v k = (holds (stack_same k)).all

pub receiver_of-held : (v : Kept) → Keeps v v → IsHeld v (receiver_of v)
receiver_of-held v k = holds (receiver_same k)

pub literals_of-held : (v : Kept) → Keeps v v → AllByRecursion (IsHeld v) (literals_of v)
literals_of-held v k = (holds (literals_same k)).all

pub boolean-held : (v : Kept) (b : Bool) → Keeps v v → IsHeld v (boolean v b)
boolean-held v b k = holds (boolean_same k (is b))

pub lookup-held : (v : Kept) (class selector : Ref) → Keeps v v → IsHeld v class → SoughtHeld v (lookup v class selector)
lookup-held v class selector k h = holds (lookup_same k (same class h) (is selector))

pub context_get-held : (v : Kept) (c : Context) (i : ℕ) (x : Ref) → Keeps v v → ContextHeld v c → context_get v c i ≡ Some x → IsHeld v x
context_get-held v c i x k h e = option_holds (context_get_same k (same c h) i) x e

-- what is read of a closed state
pub ruleset reads_held = (special_at-held, class_of-held, slots_of-held, slot_or_none-held, scheduler_of-held, shaped_scheduler-held, active_process-held, literal_at-held, variable_value-held, stack_at-held, nil_of-held, active_ref-held, active_context-held, stack_of-held, receiver_of-held, literals_of-held, boolean-held, lookup-held, context_get-held)

-- ---- where a context is active

pub IsRunning-kept : (v m : Kept) → Keeps v m → IsRunning v → IsRunning m
IsRunning-kept v m k running =
    let birth = active_birth-kept v m k in
    let context = active_context-kept v m k in
    let pc = pc_of-kept v m k in
    let method = method_of-kept v m k in
    record {
      known = ap (λ r. r.active) (sym k.rest) ∙ running.known ∙ ap (λ i. Some i) (sym birth);
      found = ap (object_at m) birth ∙ k.same (active_birth v) (Ctx (active_context v)) running.found ∙ ap (λ c. Some (Ctx c)) (sym context);
      live = ap (λ c. c.pc) context ∙ running.live ∙ ap (λ n. Some n) (sym pc);
      method = ap (λ o. lies_in o (pc_of m)) method ∙ ap (lies_in (method_of v)) pc ∙ running.method;
    }
