-- The table of primitives. A number that isn't listed fails.
use Rattle.std.specs.Prelude.{ℕ, ◌==◌, ◌&&◌, ◌||◌, Bool, nat_lt, nat_le, if◌then◌else◌}
use Rattle.cs_model.specs.State.{Kept, State}
use Rattle.cs_model.specs.Send.{perform, perform_with_arguments, execute_method}
use Rattle.cs_model.specs.PrimAnswer.{fail, with_count}
use Rattle.cs_model.specs.PrimNumber.{number_prim}
use Rattle.cs_model.specs.PrimObject.{at_prim, at_put_prim, size_prim, char_at_prim, char_at_put_prim, object_at_prim, object_at_put_prim, new_prim, new_size_prim, point_prim, slot_at_prim, slot_at_put_prim, hash_prim, some_instance_prim, next_instance_prim, new_method_prim, replace_prim, identical_prim, class_prim, copy_prim, read_only_prim, set_read_only_prim, behavior_hash_prim, quick_prim}
use Rattle.cs_model.specs.PrimContext.{stack_at_prim, stack_at_put_prim, stackp_prim}
use Rattle.cs_model.specs.PrimUnwind.{evaluate_prim, evaluate_array_prim, unwind_mark_prim, end_between_prim, handler_mark_prim}
use Rattle.cs_model.specs.PrimProcess.{signal_prim, wait_prim, resume_prim, suspend_prim, yield_prim}
use Rattle.cs_model.specs.PrimRun.{Result, result, snapshot_prim, quit_prim, clock_prim, timer_prim, write_prim, read_prim}
use Rattle.cs_model.specs.End.{Out}

abbrev pub object_prim : ℕ → ℕ → Kept → Out
object_prim number args k =
    if number == 18 then point_prim k args else
    if number == 60 then at_prim k args else
    if number == 61 then at_put_prim k args else
    if number == 62 then size_prim k args else
    if number == 63 then char_at_prim k args else
    if number == 64 then char_at_put_prim k args else
    if number == 68 then object_at_prim k args else
    if number == 69 then object_at_put_prim k args else
    if number == 70 then new_prim k args else
    if number == 71 then new_size_prim k args else
    if number == 73 then slot_at_prim k args else
    if number == 74 then slot_at_put_prim k args else
    if number == 75 then hash_prim k args else
    if number == 77 then some_instance_prim k args else
    if number == 78 then next_instance_prim k args else
    if number == 79 then new_method_prim k args else
    if number == 105 then replace_prim k args else
    if number == 110 then identical_prim k args else
    if number == 111 then class_prim k args else
    if number == 148 then copy_prim k args else
    if number == 163 then read_only_prim k args else
    if number == 164 then set_read_only_prim k args else
    if number == 175 then behavior_hash_prim k args else
    if nat_le 256 number && nat_lt number 520 then quick_prim k number args else
    fail k

abbrev pub context_prim : ℕ → ℕ → Kept → Out
context_prim number args k =
    if number == 195 then unwind_mark_prim k args else
    if number == 196 then end_between_prim k args else
    if number == 197 then handler_mark_prim k args else
    if number == 201 then evaluate_prim k 0 args else
    if number == 202 then evaluate_prim k 1 args else
    if number == 203 then evaluate_prim k 2 args else
    if number == 204 then evaluate_prim k 3 args else
    if number == 205 then evaluate_prim k 4 args else
    if number == 206 then evaluate_array_prim k args else
    if number == 210 then stack_at_prim k args else
    if number == 211 then stack_at_put_prim k args else
    if number == 212 then stackp_prim k args else
    if number == 221 then evaluate_prim k 0 args else
    if number == 222 then evaluate_prim k 1 args else
    fail k

abbrev pub process_prim : ℕ → ℕ → Kept → Out
process_prim number args k =
    if number == 85 then signal_prim k args else
    if number == 86 then wait_prim k args else
    if number == 87 then resume_prim k args else
    if number == 88 then suspend_prim k args else
    if number == 167 then yield_prim k args else
    fail k

abbrev pub perform_prim : ℕ → ℕ → Kept → Out
perform_prim number args k =
    if number == 83 then perform k args else
    if number == 84 then with_count k 2 args (perform_with_arguments k) else
    with_count k 2 args (execute_method k)

-- 83, 84 and 188
abbrev pub is_perform : ℕ → Bool
is_perform number = number == 83 || number == 84 || number == 188

abbrev pub is_process_number : ℕ → Bool
is_process_number number = (nat_le 85 number && nat_le number 88) || number == 167

abbrev pub is_context_number : ℕ → Bool
is_context_number number = nat_le 195 number && nat_le number 222

-- the primitives that see the kept parts alone
unfoldable pub kept_prim : ℕ → ℕ → Kept → Out
kept_prim number args k =
    if nat_le 1 number && nat_le number 17 then number_prim k number args else
    if is_perform number then perform_prim number args k else
    if is_process_number number then process_prim number args k else
    if is_context_number number then context_prim number args k else
    object_prim number args k

unfoldable pub prim : ℕ → ℕ → State → Result
prim number args s =
    if number == 97 then snapshot_prim s args else
    if number == 113 then quit_prim s args else
    if number == 135 then clock_prim s args else
    if number == 136 then timer_prim s args else
    if number == 900 then write_prim s args else
    if number == 901 then read_prim s args else
    result (kept_prim number args s.kept) s.run

-- ---- the numbers that are listed: every other one fails

-- @, elements, slots, instances, hashes, copies, classes, read-only objects and quick returns
abbrev pub is_object_number : ℕ → Bool
is_object_number number =
    number == 18 || (nat_le 60 number && nat_le number 64) || (nat_le 68 number && nat_le number 71) || (nat_le 73 number && nat_le number 75) || (nat_le 77 number && nat_le number 79)
    || number == 105 || number == 110 || number == 111 || number == 148 || number == 163 || number == 164 || number == 175 || (nat_le 256 number && nat_lt number 520)

-- those that evaluate closures
abbrev pub evaluates : ℕ → Bool
evaluates number = (nat_le 201 number && nat_le number 206) || number == 221 || number == 222

-- those that see the run
abbrev pub is_run_number : ℕ → Bool
is_run_number number = number == 97 || number == 113 || number == 135 || number == 136 || number == 900 || number == 901

abbrev pub is_listed : ℕ → Bool
is_listed number =
    (nat_le 1 number && nat_le number 17) || is_object_number number || is_perform number || is_process_number number || (nat_le 195 number && nat_le number 197) || evaluates number || (nat_le 210 number && nat_le number 212)
    || is_run_number number
