-- Every primitive is alike.
use Rattle.std.proofs.Common.{ℕ, ◌==◌, ◌&&◌, nat_lt, nat_le}
use Rattle.cs_model.specs.State.{Kept, Run}
use Rattle.cs_model.specs.PrimTable.{object_prim, context_prim, process_prim, perform_prim, is_perform, is_process_number, is_context_number, kept_prim, prim}
use Rattle.cs_model.specs.Keeps.{Keeps}
use Rattle.cs_model.specs.Alike.{Alike, AlikeResult}
use Rattle.cs_model.proofs.Same.{is}
use Rattle.cs_model.proofs.Combining.{fail_alike, if_alike}
use Rattle.cs_model.proofs.Sending.{perform_alike, perform_with_arguments_alike, execute_method_alike}
use Rattle.cs_model.proofs.Answering.{with_count_alike, number_prim_alike}
use Rattle.cs_model.proofs.Objecting.{at_alike, at_put_alike, size_alike, char_at_alike, char_at_put_alike, object_at_alike, object_at_put_alike, new_alike, new_size_alike, point_alike, slot_at_alike, slot_at_put_alike}
use Rattle.cs_model.proofs.Instancing.{hash_alike, some_instance_alike, next_instance_alike, new_method_alike, replace_alike, identical_alike, class_prim_alike, copy_alike, behavior_hash_alike, read_only_alike, set_read_only_alike, quick_alike, stack_at_alike, stack_at_put_alike, stackp_alike}
use Rattle.cs_model.proofs.Unwinding.{evaluate_alike, evaluate_array_alike, unwind_mark_alike, handler_mark_alike, end_between_alike}
use Rattle.cs_model.proofs.Processing.{signal_prim_alike, wait_prim_alike, resume_prim_alike, suspend_prim_alike, yield_alike}
use Rattle.cs_model.proofs.Running.{result_alike, if_result, snapshot_alike, quit_alike, clock_alike, timer_alike, write_alike, read_alike}

object_prim_alike : {v m : Kept} → Keeps v m → (number args : ℕ) → Alike v (object_prim number args v) (object_prim number args m)
object_prim_alike k number args =
    if_alike (is (number == 18)) (point_alike k args)
    (if_alike (is (number == 60)) (at_alike k args)
    (if_alike (is (number == 61)) (at_put_alike k args)
    (if_alike (is (number == 62)) (size_alike k args)
    (if_alike (is (number == 63)) (char_at_alike k args)
    (if_alike (is (number == 64)) (char_at_put_alike k args)
    (if_alike (is (number == 68)) (object_at_alike k args)
    (if_alike (is (number == 69)) (object_at_put_alike k args)
    (if_alike (is (number == 70)) (new_alike k args)
    (if_alike (is (number == 71)) (new_size_alike k args)
    (if_alike (is (number == 73)) (slot_at_alike k args)
    (if_alike (is (number == 74)) (slot_at_put_alike k args)
    (if_alike (is (number == 75)) (hash_alike k args)
    (if_alike (is (number == 77)) (some_instance_alike k args)
    (if_alike (is (number == 78)) (next_instance_alike k args)
    (if_alike (is (number == 79)) (new_method_alike k args)
    (if_alike (is (number == 105)) (replace_alike k args)
    (if_alike (is (number == 110)) (identical_alike k args)
    (if_alike (is (number == 111)) (class_prim_alike k args)
    (if_alike (is (number == 148)) (copy_alike k args)
    (if_alike (is (number == 163)) (read_only_alike k args)
    (if_alike (is (number == 164)) (set_read_only_alike k args)
    (if_alike (is (number == 175)) (behavior_hash_alike k args)
    (if_alike (is (nat_le 256 number && nat_lt number 520)) (quick_alike k number args)
    (fail_alike k))))))))))))))))))))))))

context_prim_alike : {v m : Kept} → Keeps v m → (number args : ℕ) → Alike v (context_prim number args v) (context_prim number args m)
context_prim_alike k number args =
    if_alike (is (number == 195)) (unwind_mark_alike k args)
    (if_alike (is (number == 196)) (end_between_alike k args)
    (if_alike (is (number == 197)) (handler_mark_alike k args)
    (if_alike (is (number == 201)) (evaluate_alike k 0 args)
    (if_alike (is (number == 202)) (evaluate_alike k 1 args)
    (if_alike (is (number == 203)) (evaluate_alike k 2 args)
    (if_alike (is (number == 204)) (evaluate_alike k 3 args)
    (if_alike (is (number == 205)) (evaluate_alike k 4 args)
    (if_alike (is (number == 206)) (evaluate_array_alike k args)
    (if_alike (is (number == 210)) (stack_at_alike k args)
    (if_alike (is (number == 211)) (stack_at_put_alike k args)
    (if_alike (is (number == 212)) (stackp_alike k args)
    (if_alike (is (number == 221)) (evaluate_alike k 0 args)
    (if_alike (is (number == 222)) (evaluate_alike k 1 args)
    (fail_alike k))))))))))))))

process_prim_alike : {v m : Kept} → Keeps v m → (number args : ℕ) → Alike v (process_prim number args v) (process_prim number args m)
process_prim_alike k number args =
    if_alike (is (number == 85)) (signal_prim_alike k args)
    (if_alike (is (number == 86)) (wait_prim_alike k args)
    (if_alike (is (number == 87)) (resume_prim_alike k args)
    (if_alike (is (number == 88)) (suspend_prim_alike k args)
    (if_alike (is (number == 167)) (yield_alike k args)
    (fail_alike k)))))

perform_prim_alike : {v m : Kept} → Keeps v m → (number args : ℕ) → Alike v (perform_prim number args v) (perform_prim number args m)
perform_prim_alike k number args =
    if_alike (is (number == 83)) (perform_alike k args)
    (if_alike (is (number == 84)) (with_count_alike k 2 args (perform_with_arguments_alike k)) (with_count_alike k 2 args (execute_method_alike k)))

pub kept_prim_alike : {v m : Kept} → Keeps v m → (number args : ℕ) → Alike v (kept_prim number args v) (kept_prim number args m)
unfolding kept_prim
kept_prim_alike k number args =
    if_alike (is (nat_le 1 number && nat_le number 17)) (number_prim_alike k number args)
    (if_alike (is (is_perform number)) (perform_prim_alike k number args)
    (if_alike (is (is_process_number number)) (process_prim_alike k number args)
    (if_alike (is (is_context_number number)) (context_prim_alike k number args)
    (object_prim_alike k number args))))

pub prim_alike : {v m : Kept} → Keeps v m → (r : Run) → (number args : ℕ) → AlikeResult v (prim number args (record { kept = v; run = r })) (prim number args (record { kept = m; run = r }))
unfolding prim
prim_alike k r number args =
    if_result (is (number == 97)) (snapshot_alike k r args)
    (if_result (is (number == 113)) (quit_alike k r args)
    (if_result (is (number == 135)) (clock_alike k r args)
    (if_result (is (number == 136)) (timer_alike k r args)
    (if_result (is (number == 900)) (write_alike k r args)
    (if_result (is (number == 901)) (read_alike k r args)
    (result_alike (kept_prim_alike k number args) r))))))
