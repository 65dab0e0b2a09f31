-- What is held stays held over each operation.
use Rattle.std.proofs.Common.{ℕ, Bool, Option, List}
use Rattle.std.specs.List.{AllByRecursion}
use Rattle.cs_model.specs.Ref.{Ref}
use Rattle.cs_model.specs.Obj.{Obj, Context}
use Rattle.cs_model.specs.State.{Kept, put, IsHeld, ContextHeld, NamesHeld}
use Rattle.cs_model.specs.Operation.{put_active, set_pc_of, push_of, drop_of, set_stack_of, store_of, store_byte_of, set_fixed_of, add_of, enter_of, kill_of, kill_all, resume_of, suspend_of, leave_of, cut_to_of}
use Rattle.cs_model.specs.Context.{context_put}
use Rattle.cs_model.specs.Enter.{enter_block_of}
use Rattle.cs_model.specs.Instance.{take_index, hash_given}
use Rattle.cs_model.specs.Exec.{fill_of}
use Rattle.cs_model.specs.Send.{spread_of}
use Rattle.cs_model.specs.Process.{take_out, stop_running}
use Rattle.cs_model.specs.Settle.{settle_kept, open_kept}
use Rattle.cs_model.specs.PrimRun.{forgotten}
use Rattle.cs_model.specs.Keeps.{Keeps}
use Rattle.cs_model.specs.Alike.{IsHeldIf}
use Rattle.cs_model.proofs.Keeping.{IsHeld-grows}
use Rattle.cs_model.proofs.Reading.{Has}
use Rattle.cs_model.proofs.Surviving.{grows-put, grows-put_active, grows-set_pc, grows-push, grows-drop, grows-set_stack, grows-store, grows-store_byte, grows-set_fixed, grows-add, grows-enter, grows-enter_block, grows-kill, grows-kill_all, grows-resume_at, grows-suspend_all, grows-leave, grows-cut_to, grows-context_put, grows-take_index, grows-hash_given, grows-fill, grows-spread, grows-stop_running, grows-take_out, grows-settle, grows-open, grows-forgotten}

pub held-put : (v : Kept) (i : ℕ) (o : Obj) (z : Ref) → Keeps v v → NamesHeld v o → IsHeld v z → IsHeld (put v i o) z
held-put v i o z k h still = IsHeld-grows (grows-put v i o k h) z still

pub held-put_active : (v : Kept) (c : Context) (z : Ref) → Keeps v v → ContextHeld v c → IsHeld v z → IsHeld (put_active v c) z
held-put_active v c z k h still = IsHeld-grows (grows-put_active v c k h) z still

pub held-set_pc : (v : Kept) (pc : ℕ) (z : Ref) → Keeps v v → IsHeld v z → IsHeld (set_pc_of v pc) z
held-set_pc v pc z k still = IsHeld-grows (grows-set_pc v pc k) z still

pub held-push : (v : Kept) (x : Ref) (z : Ref) → Keeps v v → IsHeld v x → IsHeld v z → IsHeld (push_of v x) z
held-push v x z k h still = IsHeld-grows (grows-push v x k h) z still

pub held-drop : (v : Kept) (n : ℕ) (z : Ref) → Keeps v v → IsHeld v z → IsHeld (drop_of v n) z
held-drop v n z k still = IsHeld-grows (grows-drop v n k) z still

pub held-set_stack : (v : Kept) (i : ℕ) (x : Ref) (z : Ref) → Keeps v v → IsHeld v x → IsHeld v z → IsHeld (set_stack_of v i x) z
held-set_stack v i x z k h still = IsHeld-grows (grows-set_stack v i x k h) z still

pub held-store : (v : Kept) (o : Ref) (i : ℕ) (x : Ref) (z : Ref) → Keeps v v → IsHeld v x → IsHeld v z → IsHeld (store_of v o i x) z
held-store v o i x z k h still = IsHeld-grows (grows-store v o i x k h) z still

pub held-store_byte : (v : Kept) (o : Ref) (i b : ℕ) (z : Ref) → Keeps v v → IsHeld v z → IsHeld (store_byte_of v o i b) z
held-store_byte v o i b z k still = IsHeld-grows (grows-store_byte v o i b k) z still

pub held-set_fixed : (v : Kept) (o : Ref) (on : Bool) (z : Ref) → Keeps v v → IsHeld v z → IsHeld (set_fixed_of v o on) z
held-set_fixed v o on z k still = IsHeld-grows (grows-set_fixed v o on k) z still

pub held-add : (v : Kept) (o : Obj) (z : Ref) → Keeps v v → NamesHeld v o → IsHeld v z → IsHeld (add_of v o) z
held-add v o z k h still = IsHeld-grows (grows-add v o k h) z still

pub held-enter : (v : Kept) (x : Ref) (args : ℕ) (skip : Bool) (z : Ref) → Keeps v v → IsHeld v x → IsHeld v z → IsHeld (enter_of v x args skip) z
held-enter v x args skip z k h still = IsHeld-grows (grows-enter v x args skip k h) z still

pub held-enter_block : (v : Kept) (x : Ref) (args : ℕ) (z : Ref) → Keeps v v → IsHeld v x → IsHeld v z → IsHeld (enter_block_of v x args) z
held-enter_block v x args z k h still = IsHeld-grows (grows-enter_block v x args k h) z still

pub held-kill : (v : Kept) (i : ℕ) (z : Ref) → Keeps v v → IsHeld v z → IsHeld (kill_of v i) z
held-kill v i z k still = IsHeld-grows (grows-kill v i k) z still

pub held-kill_all : (v : Kept) (dying : List ℕ) (z : Ref) → Keeps v v → IsHeld v z → IsHeld (kill_all dying v) z
held-kill_all v dying z k still = IsHeld-grows (grows-kill_all v dying k) z still

pub held-resume_at : (v : Kept) (i : ℕ) (z : Ref) → Keeps v v → Has v i → IsHeld v z → IsHeld (resume_of v i) z
held-resume_at v i z k h still = IsHeld-grows (grows-resume_at v i k h) z still

pub held-suspend_all : (v : Kept) (z : Ref) → Keeps v v → IsHeld v z → IsHeld (suspend_of v) z
held-suspend_all v z k still = IsHeld-grows (grows-suspend_all v k) z still

pub held-leave : (v : Kept) (x : Ref) (z : Ref) → Keeps v v → IsHeld v x → IsHeld v z → IsHeld (leave_of v x) z
held-leave v x z k h still = IsHeld-grows (grows-leave v x k h) z still

pub held-cut_to : (v : Kept) (dying : List ℕ) (i : ℕ) (x : Ref) (z : Ref) → Keeps v v → Has v i → IsHeld v x → IsHeld v z → IsHeld (cut_to_of v dying i x) z
held-cut_to v dying i x z k g h still = IsHeld-grows (grows-cut_to v dying i x k g h) z still

pub held-context_put : (v : Kept) (birth i : ℕ) (x : Ref) (z : Ref) → Keeps v v → IsHeld v x → IsHeld v z → IsHeld (context_put v birth i x) z
held-context_put v birth i x z k h still = IsHeld-grows (grows-context_put v birth i x k h) z still

pub held-take_index : (v : Kept) (x : Ref) (index : ℕ) (z : Ref) → Keeps v v → IsHeld v x → IsHeld v z → IsHeld (take_index v x index) z
held-take_index v x index z k h still = IsHeld-grows (grows-take_index v x index k h) z still

pub held-hash_given : (v : Kept) (x : Ref) (z : Ref) → Keeps v v → IsHeld v x → IsHeld v z → IsHeld (hash_given v x) z
held-hash_given v x z k h still = IsHeld-grows (grows-hash_given v x k h) z still

pub held-fill : (v : Kept) (o : Ref) (values : List Ref) (z : Ref) → Keeps v v → AllByRecursion (IsHeld v) values → IsHeld v z → IsHeld (fill_of v o values) z
held-fill v o values z k h still = IsHeld-grows (grows-fill v o values k h) z still

pub held-spread : (v : Kept) (args : ℕ) (values : List Ref) (z : Ref) → Keeps v v → AllByRecursion (IsHeld v) values → IsHeld v z → IsHeld (spread_of v args values) z
held-spread v args values z k h still = IsHeld-grows (grows-spread v args values k h) z still

pub held-stop_running : (v : Kept) (p : Ref) (z : Ref) → Keeps v v → IsHeld v z → IsHeld (stop_running v p) z
held-stop_running v p z k still = IsHeld-grows (grows-stop_running v p k) z still

pub held-take_out : (v : Kept) (list p : Ref) (before : Option Ref) (z : Ref) → Keeps v v → IsHeld v list → IsHeld v p → IsHeldIf v before → IsHeld v z → IsHeld (take_out v list p before) z
held-take_out v list p before z k g h b still = IsHeld-grows (grows-take_out v list p before k g h b) z still

pub held-settle : (v : Kept) (z : Ref) → Keeps v v → IsHeld v z → IsHeld (settle_kept v) z
held-settle v z k still = IsHeld-grows (grows-settle v k) z still

pub held-open : (v : Kept) (z : Ref) → Keeps v v → IsHeld v z → IsHeld (open_kept v) z
held-open v z k still = IsHeld-grows (grows-open v k) z still

pub held-forgotten : (v : Kept) (z : Ref) → Keeps v v → IsHeld v z → IsHeld (forgotten v) z
held-forgotten v z k still = IsHeld-grows (grows-forgotten v k) z still

-- a reference that was held still is
pub ruleset stays_held = (held-put, held-put_active, held-set_pc, held-push, held-drop, held-set_stack, held-store, held-store_byte, held-set_fixed, held-add, held-enter, held-enter_block, held-kill, held-kill_all, held-resume_at, held-suspend_all, held-leave, held-cut_to, held-context_put, held-take_index, held-hash_given, held-fill, held-spread, held-stop_running, held-take_out, held-settle, held-open, held-forgotten)
