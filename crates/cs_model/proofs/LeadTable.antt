-- What any primitive leads to.
use Rattle.std.proofs.Common.{ℕ, ◌==◌, ◌&&◌, refl, nat_lt, nat_le}
use Rattle.cs_model.specs.State.{Kept, State}
use Rattle.cs_model.specs.PrimTable.{object_prim, context_prim, process_prim, perform_prim, is_perform, is_process_number, is_context_number, kept_prim, prim}
use Rattle.cs_model.specs.Keeps.{Keeps}
use Rattle.cs_model.proofs.LeadCombining.{Ready, Leading, fail_leading, if_leading}
use Rattle.cs_model.proofs.LeadSending.{perform_leading, perform_with_arguments_leading, execute_method_leading}
use Rattle.cs_model.proofs.LeadAnswer.{with_count_leading, number_leading}
use Rattle.cs_model.proofs.LeadObject.{at_leading, at_put_leading, size_leading, char_at_leading, char_at_put_leading, object_at_leading, object_at_put_leading, new_leading, new_size_leading, point_leading, slot_at_leading, slot_at_put_leading, hash_leading, some_instance_leading, next_instance_leading, new_method_leading, replace_leading, identical_leading, class_leading, copy_leading, behavior_hash_leading, read_only_leading, set_read_only_leading, quick_leading}
use Rattle.cs_model.proofs.LeadProcess.{signal_prim_leading, wait_prim_leading, resume_prim_leading, suspend_prim_leading, yield_leading}
use Rattle.cs_model.proofs.LeadUnwinding.{evaluate_leading, evaluate_array_leading, unwind_mark_leading, handler_mark_leading, end_between_leading, stack_at_leading, stack_at_put_leading, stackp_leading}
use Rattle.cs_model.proofs.LeadRun.{Led, result_led, if_led, snapshot_led, quit_led, clock_led, timer_led, write_led, read_led}

object_prim_leading : {P : Kept → Type 0} {k : Kept} (number args : ℕ) → Ready k → Leading P k (object_prim number args k)
object_prim_leading number args r =
    if_leading (number == 18) (λ e. point_leading args r) (λ e.
    if_leading (number == 60) (λ e. at_leading args r) (λ e.
    if_leading (number == 61) (λ e. at_put_leading args r) (λ e.
    if_leading (number == 62) (λ e. size_leading args r) (λ e.
    if_leading (number == 63) (λ e. char_at_leading args r) (λ e.
    if_leading (number == 64) (λ e. char_at_put_leading args r) (λ e.
    if_leading (number == 68) (λ e. object_at_leading args r) (λ e.
    if_leading (number == 69) (λ e. object_at_put_leading args r) (λ e.
    if_leading (number == 70) (λ e. new_leading args r) (λ e.
    if_leading (number == 71) (λ e. new_size_leading args r) (λ e.
    if_leading (number == 73) (λ e. slot_at_leading args r) (λ e.
    if_leading (number == 74) (λ e. slot_at_put_leading args r) (λ e.
    if_leading (number == 75) (λ e. hash_leading args r) (λ e.
    if_leading (number == 77) (λ e. some_instance_leading args r) (λ e.
    if_leading (number == 78) (λ e. next_instance_leading args r) (λ e.
    if_leading (number == 79) (λ e. new_method_leading args r) (λ e.
    if_leading (number == 105) (λ e. replace_leading args r) (λ e.
    if_leading (number == 110) (λ e. identical_leading args r) (λ e.
    if_leading (number == 111) (λ e. class_leading args r) (λ e.
    if_leading (number == 148) (λ e. copy_leading args r) (λ e.
    if_leading (number == 163) (λ e. read_only_leading args r) (λ e.
    if_leading (number == 164) (λ e. set_read_only_leading args r) (λ e.
    if_leading (number == 175) (λ e. behavior_hash_leading args r) (λ e.
    if_leading (nat_le 256 number && nat_lt number 520) (λ e. quick_leading number args r) (λ e.
    fail_leading r))))))))))))))))))))))))

process_prim_leading : {P : Kept → Type 0} {k : Kept} (number args : ℕ) → Ready k → Leading P k (process_prim number args k)
process_prim_leading number args r =
    if_leading (number == 85) (λ e. signal_prim_leading args r) (λ e.
    if_leading (number == 86) (λ e. wait_prim_leading args r) (λ e.
    if_leading (number == 87) (λ e. resume_prim_leading args r) (λ e.
    if_leading (number == 88) (λ e. suspend_prim_leading args r) (λ e.
    if_leading (number == 167) (λ e. yield_leading args r) (λ e.
    fail_leading r)))))

perform_prim_leading : {P : Kept → Type 0} {k : Kept} (number args : ℕ) → Ready k → Leading P k (perform_prim number args k)
perform_prim_leading number args r =
    if_leading (number == 83) (λ e. perform_leading args r) (λ e.
    if_leading (number == 84) (λ e. with_count_leading 2 args r (perform_with_arguments_leading r)) (λ e.
    with_count_leading 2 args r (execute_method_leading r)))

context_prim_leading : {P : Kept → Type 0} {k : Kept} (number args : ℕ) → Ready k → Leading P k (context_prim number args k)
context_prim_leading number args r =
    if_leading (number == 195) (λ e. unwind_mark_leading args r) (λ e.
    if_leading (number == 196) (λ e. end_between_leading args r) (λ e.
    if_leading (number == 197) (λ e. handler_mark_leading args r) (λ e.
    if_leading (number == 201) (λ e. evaluate_leading 0 args r) (λ e.
    if_leading (number == 202) (λ e. evaluate_leading 1 args r) (λ e.
    if_leading (number == 203) (λ e. evaluate_leading 2 args r) (λ e.
    if_leading (number == 204) (λ e. evaluate_leading 3 args r) (λ e.
    if_leading (number == 205) (λ e. evaluate_leading 4 args r) (λ e.
    if_leading (number == 206) (λ e. evaluate_array_leading args r) (λ e.
    if_leading (number == 210) (λ e. stack_at_leading args r) (λ e.
    if_leading (number == 211) (λ e. stack_at_put_leading args r) (λ e.
    if_leading (number == 212) (λ e. stackp_leading args r) (λ e.
    if_leading (number == 221) (λ e. evaluate_leading 0 args r) (λ e.
    if_leading (number == 222) (λ e. evaluate_leading 1 args r) (λ e.
    fail_leading r))))))))))))))

pub kept_prim_leading : {P : Kept → Type 0} {k : Kept} (number args : ℕ) → Ready k → Leading P k (kept_prim number args k)
unfolding kept_prim
kept_prim_leading number args r =
    if_leading (nat_le 1 number && nat_le number 17) (λ e. number_leading number args r) (λ e.
    if_leading (is_perform number) (λ e. perform_prim_leading number args r) (λ e.
    if_leading (is_process_number number) (λ e. process_prim_leading number args r) (λ e.
    if_leading (is_context_number number) (λ e. context_prim_leading number args r) (λ e.
    object_prim_leading number args r))))

pub prim_led : (s : State) (number args : ℕ) → Keeps s.kept s.kept → Ready s.kept → Led s.kept s.run (prim number args s)
unfolding prim
prim_led s number args k r =
    if_led (number == 97) (λ e. snapshot_led s args r) (λ e.
    if_led (number == 113) (λ e. quit_led s args r) (λ e.
    if_led (number == 135) (λ e. clock_led s args r) (λ e.
    if_led (number == 136) (λ e. timer_led s args k r) (λ e.
    if_led (number == 900) (λ e. write_led s args r) (λ e.
    if_led (number == 901) (λ e. read_led s args r) (λ e.
    result_led s.run s.run refl (kept_prim_leading number args r)))))))
