-- The operations in plain words: a state that keeps another one keeps it behind the same operation on both, and has all that it
-- had; and what both come to is alike.
use Rattle.std.proofs.Common.{ℕ, ℤ, Bool, refl, Option, List}
use Rattle.std.specs.List.{AllByRecursion}
use Rattle.cs_model.specs.declared.instruction.Op.{Op}
use Rattle.cs_model.specs.Ref.{Ref}
use Rattle.cs_model.specs.Obj.{Obj, Context}
use Rattle.cs_model.specs.State.{Kept, put, IsHeld, ContextHeld, NamesHeld}
use Rattle.cs_model.specs.Operation.{put_active, set_pc_of, push_of, drop_of, set_stack_of, store_of, store_byte_of, set_fixed_of, add_of, enter_of, kill_of, kill_all, resume_of, suspend_of, leave_of, cut_to_of}
use Rattle.cs_model.specs.Context.{context_put}
use Rattle.cs_model.specs.Enter.{enter_block_of, enter_block_out}
use Rattle.cs_model.specs.Instance.{instantiate, behavior_hash, take_index, hash_given, Made, Hashed}
use Rattle.cs_model.specs.Exec.{push_out, push_all, refuse_store, fill_of, jump_out, send_selector_out, special_send_out, exec}
use Rattle.cs_model.specs.Send.{enter_out, invoke, not_understood, send, perform, perform_with_arguments, execute_method, spread_of}
use Rattle.cs_model.specs.Return.{call_with, cannot_return_out, unwind_out, local_out, nonlocal_out, back}
use Rattle.cs_model.specs.Process.{add_last, add_first, add_preempted, take_out, start, stop_running, start_next, resume, signal, wait, suspend_active, suspend_other, suspend, give_way}
use Rattle.cs_model.specs.PrimAnswer.{answer}
use Rattle.cs_model.specs.PrimUnwind.{end_between_of}
use Rattle.cs_model.specs.Settle.{settle_kept, open_kept}
use Rattle.cs_model.specs.PrimRun.{forgotten}
use Rattle.cs_model.specs.PrimTable.{kept_prim}
use Rattle.cs_model.specs.Due.{signal_external}
use Rattle.cs_model.specs.Keeps.{Keeps, Grows}
use Rattle.cs_model.specs.Alike.{Alike, IsHeldIf, AlikeMade, AlikeHashed}
use Rattle.cs_model.proofs.Same.{same, is}
use Rattle.cs_model.proofs.Keeping.{put_moved}
use Rattle.cs_model.proofs.Reading.{held_if, Has, listed}
use Rattle.cs_model.proofs.Operating.{put_active_moved, set_pc_moved, push_moved, drop_moved, set_stack_moved, store_moved, store_byte_moved, set_fixed_moved, add_moved, enter_moved, kill_moved, kill_all_moved, resume_moved, suspend_moved, leave_moved, cut_to_moved}
use Rattle.cs_model.proofs.Fields.{context_put_moved}
use Rattle.cs_model.proofs.Unwinding.{end_between_moved}
use Rattle.cs_model.proofs.Making.{SameMade, makes, refused, full, SameHashed, hashes, no_class, none_left, instantiate_same, behavior_hash_same, take_index_moved, hash_given_moved}
use Rattle.cs_model.proofs.Entering.{enter_block_moved, enter_block_alike}
use Rattle.cs_model.proofs.Executing.{push_alike, push_all_alike, refuse_store_alike, fill_moved, jump_alike, send_selector_alike, special_send_alike, exec_alike}
use Rattle.cs_model.proofs.Sending.{enter_alike, invoke_alike, not_understood_alike, send_alike, perform_alike, perform_with_arguments_alike, execute_method_alike, spread_moved}
use Rattle.cs_model.proofs.Returning.{call_with_alike, cannot_return_alike, unwind_alike, local_alike, nonlocal_alike, back_alike}
use Rattle.cs_model.proofs.Scheduling.{add_last_alike, add_first_alike, add_preempted_alike, take_out_moved, start_alike, stop_running_moved, start_next_alike, resume_alike, signal_any, wait_alike, suspend_active_alike, suspend_other_alike, suspend_alike, give_way_alike}
use Rattle.cs_model.proofs.Answering.{answer_alike}
use Rattle.cs_model.proofs.Running.{settle_moved, open_moved, forgotten_moved}
use Rattle.cs_model.proofs.Tables.{kept_prim_alike}
use Rattle.cs_model.proofs.Happening.{signal_external_alike}

-- ---- operations

pub Keeps-put : (v m : Kept) (i : ℕ) (o : Obj) → Keeps v m → NamesHeld v o → Keeps (put v i o) (put m i o)
Keeps-put v m i o k h = (put_moved k (is i) (same o h)).keeps

pub grows-put : (v : Kept) (i : ℕ) (o : Obj) → Keeps v v → NamesHeld v o → Grows v (put v i o)
grows-put v i o k h = (put_moved k (is i) (same o h)).grows

pub Keeps-put_active : (v m : Kept) (c : Context) → Keeps v m → ContextHeld v c → Keeps (put_active v c) (put_active m c)
Keeps-put_active v m c k h = (put_active_moved k (same c h)).keeps

pub grows-put_active : (v : Kept) (c : Context) → Keeps v v → ContextHeld v c → Grows v (put_active v c)
grows-put_active v c k h = (put_active_moved k (same c h)).grows

pub Keeps-set_pc : (v m : Kept) (pc : ℕ) → Keeps v m → Keeps (set_pc_of v pc) (set_pc_of m pc)
Keeps-set_pc v m pc k = (set_pc_moved k (is pc)).keeps

pub grows-set_pc : (v : Kept) (pc : ℕ) → Keeps v v → Grows v (set_pc_of v pc)
grows-set_pc v pc k = (set_pc_moved k (is pc)).grows

pub Keeps-push : (v m : Kept) (x : Ref) → Keeps v m → IsHeld v x → Keeps (push_of v x) (push_of m x)
Keeps-push v m x k h = (push_moved k (same x h)).keeps

pub grows-push : (v : Kept) (x : Ref) → Keeps v v → IsHeld v x → Grows v (push_of v x)
grows-push v x k h = (push_moved k (same x h)).grows

pub Keeps-drop : (v m : Kept) (n : ℕ) → Keeps v m → Keeps (drop_of v n) (drop_of m n)
Keeps-drop v m n k = (drop_moved k n).keeps

pub grows-drop : (v : Kept) (n : ℕ) → Keeps v v → Grows v (drop_of v n)
grows-drop v n k = (drop_moved k n).grows

pub Keeps-set_stack : (v m : Kept) (i : ℕ) (x : Ref) → Keeps v m → IsHeld v x → Keeps (set_stack_of v i x) (set_stack_of m i x)
Keeps-set_stack v m i x k h = (set_stack_moved k i (same x h)).keeps

pub grows-set_stack : (v : Kept) (i : ℕ) (x : Ref) → Keeps v v → IsHeld v x → Grows v (set_stack_of v i x)
grows-set_stack v i x k h = (set_stack_moved k i (same x h)).grows

pub Keeps-store : (v m : Kept) (o : Ref) (i : ℕ) (x : Ref) → Keeps v m → IsHeld v x → Keeps (store_of v o i x) (store_of m o i x)
Keeps-store v m o i x k h = (store_moved k (is o) i (same x h)).keeps

pub grows-store : (v : Kept) (o : Ref) (i : ℕ) (x : Ref) → Keeps v v → IsHeld v x → Grows v (store_of v o i x)
grows-store v o i x k h = (store_moved k (is o) i (same x h)).grows

pub Keeps-store_byte : (v m : Kept) (o : Ref) (i b : ℕ) → Keeps v m → Keeps (store_byte_of v o i b) (store_byte_of m o i b)
Keeps-store_byte v m o i b k = (store_byte_moved k (is o) i b).keeps

pub grows-store_byte : (v : Kept) (o : Ref) (i b : ℕ) → Keeps v v → Grows v (store_byte_of v o i b)
grows-store_byte v o i b k = (store_byte_moved k (is o) i b).grows

pub Keeps-set_fixed : (v m : Kept) (o : Ref) (on : Bool) → Keeps v m → Keeps (set_fixed_of v o on) (set_fixed_of m o on)
Keeps-set_fixed v m o on k = (set_fixed_moved k (is o) on).keeps

pub grows-set_fixed : (v : Kept) (o : Ref) (on : Bool) → Keeps v v → Grows v (set_fixed_of v o on)
grows-set_fixed v o on k = (set_fixed_moved k (is o) on).grows

pub Keeps-add : (v m : Kept) (o : Obj) → Keeps v m → NamesHeld v o → Keeps (add_of v o) (add_of m o)
Keeps-add v m o k h = (add_moved k (same o h)).keeps

pub grows-add : (v : Kept) (o : Obj) → Keeps v v → NamesHeld v o → Grows v (add_of v o)
grows-add v o k h = (add_moved k (same o h)).grows

pub Keeps-enter : (v m : Kept) (x : Ref) (args : ℕ) (skip : Bool) → Keeps v m → IsHeld v x → Keeps (enter_of v x args skip) (enter_of m x args skip)
Keeps-enter v m x args skip k h = (enter_moved k (same x h) args skip).keeps

pub grows-enter : (v : Kept) (x : Ref) (args : ℕ) (skip : Bool) → Keeps v v → IsHeld v x → Grows v (enter_of v x args skip)
grows-enter v x args skip k h = (enter_moved k (same x h) args skip).grows

pub Keeps-enter_block : (v m : Kept) (x : Ref) (args : ℕ) → Keeps v m → IsHeld v x → Keeps (enter_block_of v x args) (enter_block_of m x args)
Keeps-enter_block v m x args k h = (enter_block_moved k (same x h) args).keeps

pub grows-enter_block : (v : Kept) (x : Ref) (args : ℕ) → Keeps v v → IsHeld v x → Grows v (enter_block_of v x args)
grows-enter_block v x args k h = (enter_block_moved k (same x h) args).grows

pub Keeps-kill : (v m : Kept) (i : ℕ) → Keeps v m → Keeps (kill_of v i) (kill_of m i)
Keeps-kill v m i k = (kill_moved k (is i)).keeps

pub grows-kill : (v : Kept) (i : ℕ) → Keeps v v → Grows v (kill_of v i)
grows-kill v i k = (kill_moved k (is i)).grows

pub Keeps-kill_all : (v m : Kept) (dying : List ℕ) → Keeps v m → Keeps (kill_all dying v) (kill_all dying m)
Keeps-kill_all v m dying k = (kill_all_moved dying k).keeps

pub grows-kill_all : (v : Kept) (dying : List ℕ) → Keeps v v → Grows v (kill_all dying v)
grows-kill_all v dying k = (kill_all_moved dying k).grows

pub Keeps-resume_at : (v m : Kept) (i : ℕ) → Keeps v m → Has v i → Keeps (resume_of v i) (resume_of m i)
Keeps-resume_at v m i k h = (resume_moved k (same i h)).keeps

pub grows-resume_at : (v : Kept) (i : ℕ) → Keeps v v → Has v i → Grows v (resume_of v i)
grows-resume_at v i k h = (resume_moved k (same i h)).grows

pub Keeps-suspend_all : (v m : Kept) → Keeps v m → Keeps (suspend_of v) (suspend_of m)
Keeps-suspend_all v m k = (suspend_moved k).keeps

pub grows-suspend_all : (v : Kept) → Keeps v v → Grows v (suspend_of v)
grows-suspend_all v k = (suspend_moved k).grows

pub Keeps-leave : (v m : Kept) (x : Ref) → Keeps v m → IsHeld v x → Keeps (leave_of v x) (leave_of m x)
Keeps-leave v m x k h = (leave_moved k (same x h)).keeps

pub grows-leave : (v : Kept) (x : Ref) → Keeps v v → IsHeld v x → Grows v (leave_of v x)
grows-leave v x k h = (leave_moved k (same x h)).grows

pub Keeps-cut_to : (v m : Kept) (dying : List ℕ) (i : ℕ) (x : Ref) → Keeps v m → Has v i → IsHeld v x → Keeps (cut_to_of v dying i x) (cut_to_of m dying i x)
Keeps-cut_to v m dying i x k g h = (cut_to_moved k dying (same i g) (same x h)).keeps

pub grows-cut_to : (v : Kept) (dying : List ℕ) (i : ℕ) (x : Ref) → Keeps v v → Has v i → IsHeld v x → Grows v (cut_to_of v dying i x)
grows-cut_to v dying i x k g h = (cut_to_moved k dying (same i g) (same x h)).grows

pub Keeps-context_put : (v m : Kept) (birth i : ℕ) (x : Ref) → Keeps v m → IsHeld v x → Keeps (context_put v birth i x) (context_put m birth i x)
Keeps-context_put v m birth i x k h = (context_put_moved k (is birth) i (same x h)).keeps

pub grows-context_put : (v : Kept) (birth i : ℕ) (x : Ref) → Keeps v v → IsHeld v x → Grows v (context_put v birth i x)
grows-context_put v birth i x k h = (context_put_moved k (is birth) i (same x h)).grows

pub Keeps-end_between : (v m : Kept) (dying : List ℕ) (i : ℕ) (x : Ref) → Keeps v m → IsHeld v x → Keeps (end_between_of v dying i x) (end_between_of m dying i x)
Keeps-end_between v m dying i x k h = (end_between_moved k dying i (same x h)).keeps

pub grows-end_between : (v : Kept) (dying : List ℕ) (i : ℕ) (x : Ref) → Keeps v v → IsHeld v x → Grows v (end_between_of v dying i x)
grows-end_between v dying i x k h = (end_between_moved k dying i (same x h)).grows

pub Keeps-take_index : (v m : Kept) (x : Ref) (index : ℕ) → Keeps v m → IsHeld v x → Keeps (take_index v x index) (take_index m x index)
Keeps-take_index v m x index k h = (take_index_moved k (same x h) index).keeps

pub grows-take_index : (v : Kept) (x : Ref) (index : ℕ) → Keeps v v → IsHeld v x → Grows v (take_index v x index)
grows-take_index v x index k h = (take_index_moved k (same x h) index).grows

pub Keeps-hash_given : (v m : Kept) (x : Ref) → Keeps v m → IsHeld v x → Keeps (hash_given v x) (hash_given m x)
Keeps-hash_given v m x k h = (hash_given_moved k (same x h)).keeps

pub grows-hash_given : (v : Kept) (x : Ref) → Keeps v v → IsHeld v x → Grows v (hash_given v x)
grows-hash_given v x k h = (hash_given_moved k (same x h)).grows

pub Keeps-fill : (v m : Kept) (o : Ref) (values : List Ref) → Keeps v m → AllByRecursion (IsHeld v) values → Keeps (fill_of v o values) (fill_of m o values)
Keeps-fill v m o values k h = (fill_moved k (is o) (listed v values h)).keeps

pub grows-fill : (v : Kept) (o : Ref) (values : List Ref) → Keeps v v → AllByRecursion (IsHeld v) values → Grows v (fill_of v o values)
grows-fill v o values k h = (fill_moved k (is o) (listed v values h)).grows

pub Keeps-spread : (v m : Kept) (args : ℕ) (values : List Ref) → Keeps v m → AllByRecursion (IsHeld v) values → Keeps (spread_of v args values) (spread_of m args values)
Keeps-spread v m args values k h = (spread_moved k args (listed v values h)).keeps

pub grows-spread : (v : Kept) (args : ℕ) (values : List Ref) → Keeps v v → AllByRecursion (IsHeld v) values → Grows v (spread_of v args values)
grows-spread v args values k h = (spread_moved k args (listed v values h)).grows

pub Keeps-stop_running : (v m : Kept) (p : Ref) → Keeps v m → Keeps (stop_running v p) (stop_running m p)
Keeps-stop_running v m p k = (stop_running_moved k (is p)).keeps

pub grows-stop_running : (v : Kept) (p : Ref) → Keeps v v → Grows v (stop_running v p)
grows-stop_running v p k = (stop_running_moved k (is p)).grows

pub Keeps-take_out : (v m : Kept) (list p : Ref) (before : Option Ref) → Keeps v m → IsHeld v list → IsHeld v p → IsHeldIf v before → Keeps (take_out v list p before) (take_out m list p before)
Keeps-take_out v m list p before k g h b = (take_out_moved k (same list g) (same p h) (held_if k before b)).keeps

pub grows-take_out : (v : Kept) (list p : Ref) (before : Option Ref) → Keeps v v → IsHeld v list → IsHeld v p → IsHeldIf v before → Grows v (take_out v list p before)
grows-take_out v list p before k g h b = (take_out_moved k (same list g) (same p h) (held_if k before b)).grows

pub Keeps-settle : (v m : Kept) → Keeps v m → Keeps (settle_kept v) (settle_kept m)
Keeps-settle v m k = (settle_moved k).keeps

pub grows-settle : (v : Kept) → Keeps v v → Grows v (settle_kept v)
grows-settle v k = (settle_moved k).grows

pub Keeps-open : (v m : Kept) → Keeps v m → Keeps (open_kept v) (open_kept m)
Keeps-open v m k = (open_moved k).keeps

pub grows-open : (v : Kept) → Keeps v v → Grows v (open_kept v)
grows-open v k = (open_moved k).grows

pub Keeps-forgotten : (v m : Kept) → Keeps v m → Keeps (forgotten v) (forgotten m)
Keeps-forgotten v m k = (forgotten_moved k).keeps

pub grows-forgotten : (v : Kept) → Keeps v v → Grows v (forgotten v)
grows-forgotten v k = (forgotten_moved k).grows

-- keeping survives each operation
pub ruleset keeps = (Keeps-put, Keeps-put_active, Keeps-set_pc, Keeps-push, Keeps-drop, Keeps-set_stack, Keeps-store, Keeps-store_byte, Keeps-set_fixed, Keeps-add, Keeps-enter, Keeps-enter_block, Keeps-kill, Keeps-kill_all, Keeps-resume_at, Keeps-suspend_all, Keeps-leave, Keeps-cut_to, Keeps-context_put, Keeps-take_index, Keeps-hash_given, Keeps-fill, Keeps-spread, Keeps-stop_running, Keeps-take_out, Keeps-settle, Keeps-open, Keeps-forgotten)

-- what was held still is
pub ruleset grows = (grows-put, grows-put_active, grows-set_pc, grows-push, grows-drop, grows-set_stack, grows-store, grows-store_byte, grows-set_fixed, grows-add, grows-enter, grows-enter_block, grows-kill, grows-kill_all, grows-resume_at, grows-suspend_all, grows-leave, grows-cut_to, grows-context_put, grows-take_index, grows-hash_given, grows-fill, grows-spread, grows-stop_running, grows-take_out, grows-settle, grows-open, grows-forgotten)

-- ---- making

alike_made : {v : Kept} {a b : Made} → SameMade v a b → AlikeMade v a b
alike_made (makes x y words s (same z h)) = (refl, refl, s.keeps, s.grows, h)
alike_made refused = tt
alike_made full = tt

pub instantiate-alike : (v m : Kept) (x : Ref) (size : ℕ) → Keeps v m → IsHeld v x → AlikeMade v (instantiate v x size) (instantiate m x size)
instantiate-alike v m x size k h = alike_made (instantiate_same k (same x h) size)

alike_hashed : {v : Kept} {a b : Hashed} → SameHashed v a b → AlikeHashed v a b
alike_hashed (hashes index s) = (refl, s.keeps, s.grows)
alike_hashed no_class = tt
alike_hashed none_left = tt

pub behavior_hash-alike : (v m : Kept) (x : Ref) → Keeps v m → IsHeld v x → AlikeHashed v (behavior_hash v x) (behavior_hash m x)
behavior_hash-alike v m x k h = alike_hashed (behavior_hash_same k (same x h))

-- ---- what both come to

pub push_out-alike : (v m : Kept) (x : Ref) → Keeps v m → IsHeld v x → Alike v (push_out v x) (push_out m x)
push_out-alike v m x k h = push_alike k (same x h)

pub push_all-alike : (v m : Kept) (values : List Ref) → Keeps v m → AllByRecursion (IsHeld v) values → Alike v (push_all values v) (push_all values m)
push_all-alike v m values k h = push_all_alike k (listed v values h)

pub refuse_store-alike : (v m : Kept) (o : Ref) (i : ℕ) (x : Ref) → Keeps v m → IsHeld v o → IsHeld v x → Alike v (refuse_store v o i x) (refuse_store m o i x)
refuse_store-alike v m o i x k g h = refuse_store_alike k (same o g) i (same x h)

pub jump_out-alike : (v m : Kept) (offset : ℤ) → Keeps v m → Alike v (jump_out v offset) (jump_out m offset)
jump_out-alike v m offset k = jump_alike k offset

pub special_send_out-alike : (v m : Kept) (special args : ℕ) → Keeps v m → Alike v (special_send_out v special args) (special_send_out m special args)
special_send_out-alike v m special args k = special_send_alike k special args

pub send_selector_out-alike : (v m : Kept) (i : ℕ) → Keeps v m → Alike v (send_selector_out v i) (send_selector_out m i)
send_selector_out-alike v m i k = send_selector_alike k i

pub exec-alike : (v m : Kept) (i : Op) → Keeps v m → Alike v (exec i v) (exec i m)
exec-alike v m i k = exec_alike i k

pub enter_out-alike : (v m : Kept) (x : Ref) (args : ℕ) (skip : Bool) → Keeps v m → IsHeld v x → Alike v (enter_out v x args skip) (enter_out m x args skip)
enter_out-alike v m x args skip k h = enter_alike k (same x h) args skip

pub enter_block_out-alike : (v m : Kept) (x : Ref) (args : ℕ) → Keeps v m → IsHeld v x → Alike v (enter_block_out v x args) (enter_block_out m x args)
enter_block_out-alike v m x args k h = enter_block_alike k (same x h) args

pub invoke-alike : (v m : Kept) (x : Ref) (args : ℕ) → Keeps v m → IsHeld v x → Alike v (invoke v x args) (invoke m x args)
invoke-alike v m x args k h = invoke_alike k (same x h) args

pub not_understood-alike : (v m : Kept) (x : Ref) (args : ℕ) → Keeps v m → IsHeld v x → Alike v (not_understood v x args) (not_understood m x args)
not_understood-alike v m x args k h = not_understood_alike k (same x h) args

pub send-alike : (v m : Kept) (x : Ref) (args : ℕ) (above : Option Ref) → Keeps v m → IsHeld v x → IsHeldIf v above → Alike v (send v x args above) (send m x args above)
send-alike v m x args above k h g = send_alike k (same x h) args (held_if k above g)

pub perform-alike : (v m : Kept) (args : ℕ) → Keeps v m → Alike v (perform v args) (perform m args)
perform-alike v m args k = perform_alike k args

pub perform_with_arguments-alike : (v m : Kept) → Keeps v m → Alike v (perform_with_arguments v) (perform_with_arguments m)
perform_with_arguments-alike v m k = perform_with_arguments_alike k

pub execute_method-alike : (v m : Kept) → Keeps v m → Alike v (execute_method v) (execute_method m)
execute_method-alike v m k = execute_method_alike k

pub call_with-alike : (v m : Kept) (special args : ℕ) (values : List Ref) → Keeps v m → AllByRecursion (IsHeld v) values → Alike v (call_with v special args values) (call_with m special args values)
call_with-alike v m special args values k h = call_with_alike k special args (listed v values h)

pub cannot_return_out-alike : (v m : Kept) (x : Ref) → Keeps v m → IsHeld v x → Alike v (cannot_return_out v x) (cannot_return_out m x)
cannot_return_out-alike v m x k h = cannot_return_alike k (same x h)

pub unwind_out-alike : (v m : Kept) (x : Ref) (mark : ℕ) → Keeps v m → IsHeld v x → Has v mark → Alike v (unwind_out v x mark) (unwind_out m x mark)
unwind_out-alike v m x mark k h g = unwind_alike k (same x h) mark g

pub local_out-alike : (v m : Kept) (x : Ref) → Keeps v m → IsHeld v x → Alike v (local_out v x) (local_out m x)
local_out-alike v m x k h = local_alike k (same x h)

pub nonlocal_out-alike : (v m : Kept) (x : Ref) → Keeps v m → IsHeld v x → Alike v (nonlocal_out v x) (nonlocal_out m x)
nonlocal_out-alike v m x k h = nonlocal_alike k (same x h)

pub back-alike : (v m : Kept) (x : Ref) (local : Bool) → Keeps v m → IsHeld v x → Alike v (back v x local) (back m x local)
back-alike v m x local k h = back_alike k (same x h) local

pub add_last-alike : (v m : Kept) (list p : Ref) → Keeps v m → IsHeld v list → IsHeld v p → Alike v (add_last v list p) (add_last m list p)
add_last-alike v m list p k g h = add_last_alike k (same list g) (same p h)

pub add_first-alike : (v m : Kept) (list p : Ref) → Keeps v m → IsHeld v list → IsHeld v p → Alike v (add_first v list p) (add_first m list p)
add_first-alike v m list p k g h = add_first_alike k (same list g) (same p h)

pub add_preempted-alike : (v m : Kept) (list p : Ref) → Keeps v m → IsHeld v list → IsHeld v p → Alike v (add_preempted v list p) (add_preempted m list p)
add_preempted-alike v m list p k g h = add_preempted_alike k (same list g) (same p h)

pub start-alike : (v m : Kept) (p : Ref) → Keeps v m → IsHeld v p → Alike v (start v p) (start m p)
start-alike v m p k h = start_alike k (same p h)

pub start_next-alike : (v m : Kept) → Keeps v m → Alike v (start_next v) (start_next m)
start_next-alike v m k = start_next_alike k

pub resume-alike : (v m : Kept) (p : Ref) → Keeps v m → IsHeld v p → Alike v (resume v p) (resume m p)
resume-alike v m p k h = resume_alike k (same p h)

pub signal-alike : (v m : Kept) (x : Ref) → Keeps v m → Alike v (signal v x) (signal m x)
signal-alike v m x k = signal_any k x

pub wait-alike : (v m : Kept) (x : Ref) → Keeps v m → IsHeld v x → Alike v (wait v x) (wait m x)
wait-alike v m x k h = wait_alike k (same x h)

pub suspend_active-alike : (v m : Kept) (p : Ref) → Keeps v m → IsHeld v p → Alike v (suspend_active v p) (suspend_active m p)
suspend_active-alike v m p k h = suspend_active_alike k (same p h)

pub suspend_other-alike : (v m : Kept) (p : Ref) → Keeps v m → IsHeld v p → Alike v (suspend_other v p) (suspend_other m p)
suspend_other-alike v m p k h = suspend_other_alike k (same p h)

pub suspend-alike : (v m : Kept) (p : Ref) → Keeps v m → IsHeld v p → Alike v (suspend v p) (suspend m p)
suspend-alike v m p k h = suspend_alike k (same p h)

pub give_way-alike : (v m : Kept) → Keeps v m → Alike v (give_way v) (give_way m)
give_way-alike v m k = give_way_alike k

pub answer-alike : (v m : Kept) (args : ℕ) (x : Ref) → Keeps v m → IsHeld v x → Alike v (answer v args x) (answer m args x)
answer-alike v m args x k h = answer_alike k args (same x h)

pub kept_prim-alike : (v m : Kept) (number args : ℕ) → Keeps v m → Alike v (kept_prim number args v) (kept_prim number args m)
kept_prim-alike v m number args k = kept_prim_alike k number args

pub signal_external-alike : (v m : Kept) (n : ℕ) → Keeps v m → Alike v (signal_external v n) (signal_external m n)
signal_external-alike v m n k = signal_external_alike k n

-- keeping survives each of these
pub ruleset alikes = (instantiate-alike, behavior_hash-alike, push_out-alike, push_all-alike, refuse_store-alike, jump_out-alike, special_send_out-alike, send_selector_out-alike, exec-alike, enter_out-alike, enter_block_out-alike, invoke-alike, not_understood-alike, send-alike, perform-alike, perform_with_arguments-alike, execute_method-alike, call_with-alike, cannot_return_out-alike, unwind_out-alike, local_out-alike, nonlocal_out-alike, back-alike, add_last-alike, add_first-alike, add_preempted-alike, start-alike, start_next-alike, resume-alike, signal-alike, wait-alike, suspend_active-alike, suspend_other-alike, suspend-alike, give_way-alike, answer-alike, kept_prim-alike, signal_external-alike)
