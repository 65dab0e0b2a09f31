-- An instruction that asks for a send leaves the state as it is, or has pushed what it tells a read-only object; and one that returns may
-- have popped its value.
use Rattle.std.proofs.Common.{◌≡◌, ◌⊎◌, nat_le, inl, inr, ℕ, ◌+◌, ◌≤◌, Bool, true, false, refl, sym, ap, subst, ◌∙◌, arith, Option, Some, None, List, [], ◌∷◌, length, length-take, nat_lt}
use Rattle.std.specs.Prelude.{ℤ, pos, ◌==◌, ◌-◌, ◌*◌, option_and_then, if◌then◌else◌, slice_get}
use Rattle.std.proofs.lemmas.Bool.{eqb-false}
use Rattle.cs_model.specs.declared.stop.Stop.{Stop}
use Rattle.cs_model.specs.declared.instruction.Instr.{Instr}
use Rattle.cs_model.specs.declared.instruction.Op.{Op}
use Rattle.cs_model.specs.declared.instruction.Op.TheVariants as op
use Rattle.cs_model.specs.Ref.{Ref, same_ref}
use Rattle.cs_model.specs.Ref as ref
use Rattle.cs_model.specs.Obj.{Obj, Context, Ptr, Raw, Method, Ctx, context_in, with_pc, popped}
use Rattle.cs_model.specs.State.{Kept, Rest, is_read_only, object_of, special_at}
use Rattle.cs_model.specs.Keeps.{Keeps}
use Rattle.cs_model.specs.Read.{IsRunning, active_birth, active_context, depth_of, from_top, literals_of, pc_of, receiver_of, size_of, stack_of}
use Rattle.cs_model.specs.Operation.{add_of, next_ref, drop_of, pop_of, push_of, put_active, set_pc_of}
use Rattle.cs_model.specs.Number.{boolean}
use Rattle.cs_model.specs.End as ends
use Rattle.cs_model.specs.End.{End, Out, counting, given, done, stop, looked, made, and_then, is_done}
use Rattle.cs_model.specs.Exec.{attempt_to_assign, refuse_store, store_slot, vector_slot, closure_out, new_closure, pc_after, argument_count_in, is_local, return_out, literal_at, selector_pair, top_of, variable_value, class_out, common_out, dup_out, exec, jump_if_out, jump_out, pop_into, pop_out, push_field, push_literal_out, push_out, push_receiver_out, push_temp_out, push_variable_out, push_vector_out, same_out, send_literal_out, send_selector_out, send_super_out, special_out, special_send_out, store_field, store_into, store_receiver_out, store_temp_out, store_variable_out, store_vector_out, this_context_out}
use Rattle.cs_model.specs.Built.{is_built_op}
use Rattle.cs_model.proofs.Editing.{edit_twice}
use Rattle.cs_model.proofs.Objects.{object_at-put_other, object_at-put_same, rest-put}
use Rattle.cs_acts.specs.Layout.{depth_if, frame_words, page_words}
use Rattle.cs_core.specs.Stepped.{least_of_return, least_of_send}
use Rattle.cs_core.proofs.Laying.{FillsToo, fills_by_words, is_same, page_words_kept}
use Rattle.cs_core.proofs.Returning.{Fits, Pushed, all_fit, fits, over}
use Rattle.cs_core.proofs.Settling.{Runs, drop_stays, runs_on, set_pc_stays, stays_on}
use Rattle.cs_core.proofs.Turning.{effect, past}

-- what an end says of the state that is left
abbrev pub Leaves : Kept → End → Kept → Type 0
Leaves k ends.Done t = Unit {0}
Leaves k (ends.Send selector args above) t = (t ≡ k) ⊎ (Runs k → Pushed 3 k t)
Leaves k (ends.Return value local) t = (t ≡ k) ⊎ (t ≡ pop_of k)
Leaves k ends.Entered t = Unit {0}
Leaves k (ends.Primitive method number) t = Unit {0}
Leaves k (ends.Call special args) t = Unit {0}
Leaves k ends.Answer t = Unit {0}
Leaves k ends.Fail t = Unit {0}
Leaves k ends.Quit t = Unit {0}
Leaves k ends.Snapshot t = Unit {0}
Leaves k (ends.Stopped reason) t = Unit {0}

pub record Asks (k : Kept) (o : Out) : Type 0 where
  pub leaves : Leaves k o.end o.state

done_asks : {k t : Kept} → Asks k (done t)
done_asks = record { leaves = tt }

stop_asks : {k t : Kept} {reason : Stop} → Asks k (stop reason t)
stop_asks = record { leaves = tt }

send_asks : {k : Kept} {selector : Ref} {args : ℕ} {above : Option Ref} → Asks k (ends.out (ends.Send selector args above) k)
send_asks = record { leaves = inl refl }

given_asks : {A : Type 0} (k : Kept) (o : Option A) (none : Out) (some : A → Out) → Asks k none → ((x : A) → Asks k (some x)) → Asks k (given o none some)
given_asks k None none some n s = n
given_asks k (Some x) none some n s = s x

if_asks : (k : Kept) (b : Bool) (x y : Out) → Asks k x → Asks k y → Asks k (if b then x else y)
if_asks k true x y s t = s
if_asks k false x y s t = t

-- ---- a store that is refused

-- the active context with no more values counts no more words
put_words : (k : Kept) (c : Context) → Runs k → length c.stack ≤ depth_of k → (page : List ℕ) → page_words (put_active k c) page ≤ page_words k page
unfolding page_words
put_words k c runs fewer [] = omega arith
put_words k c runs fewer (i ∷ is) = go (put_words k c runs fewer is) (i == active_birth k) refl
  where
    go : page_words (put_active k c) is ≤ page_words k is → (b : Bool) → (i == active_birth k) ≡ b → page_words (put_active k c) is + frame_words (put_active k c) i ≤ page_words k is + frame_words k i
    go before true e =
        let is : i ≡ active_birth k = is_same i (active_birth k) e in
        let new : frame_words (put_active k c) i ≡ 10 + length c.stack = ap (frame_words (put_active k c)) is ∙ ap (λ o. 10 + depth_if (context_in o)) (object_at-put_same k (active_birth k) (Ctx c)) in
        let old : frame_words k i ≡ 10 + depth_of k = ap (frame_words k) is ∙ ap (λ o. 10 + depth_if o) runs in
        omega (arith, before, new, old, fewer)
    go before false e =
        let same : frame_words (put_active k c) i ≡ frame_words k i = ap (λ o. 10 + depth_if (context_in o)) (object_at-put_other k (active_birth k) i (Ctx c) (eqb-false i (active_birth k) e)) in
        omega (arith, before, same)

popped_pushes : (k : Kept) → Runs k → Pushed 0 k (pop_of k)
unfolding drop_of
popped_pushes k runs = record {
  stays = drop_stays k 1 runs;
  next = ap (λ (r : Rest). r.next) (rest-put k (active_birth k) (Ctx (popped 1 (active_context k))));
  words = λ page apart. omega (arith, put_words k (popped 1 (active_context k)) runs (omega (arith, length-take (depth_of k - 1) (stack_of k))) page);
}

-- three values are pushed behind a pop
pushed_behind : (k t : Kept) → (Runs (pop_of k) → Pushed 3 (pop_of k) t) → Runs k → Pushed 3 k t
pushed_behind k t pushes runs =
    let p = popped_pushes k runs in
    let q = pushes (runs_on k (pop_of k) p.stays runs) in
    record { stays = stays_on k (pop_of k) t p.stays q.stays; next = q.next ∙ p.next; words = λ page apart. omega (arith, p.words page apart, q.words page apart) }

sent_behind : (k t : Kept) → (Runs (pop_of k) → Pushed 3 (pop_of k) t) → Asks k (special_send_out t attempt_to_assign 2)
unfolding special_send_out
sent_behind k t pushes = given_asks k (special_at t attempt_to_assign) _ _ stop_asks (λ x. record { leaves = inr (pushed_behind k t pushes) })

told_asks : (k : Kept) (o : Out) → Fits 3 (pop_of k) o → Asks k (and_then o (λ t. special_send_out t attempt_to_assign 2))
unfolding and_then
told_asks k o (fits end pushes) =
    subst (λ (e : End). Asks k (if is_done e then counting o.count (special_send_out o.state attempt_to_assign 2) else o)) (sym end) (record { leaves = (sent_behind k o.state pushes).leaves })
told_asks k o (over end) =
    subst (λ (e : End). Asks k (if is_done e then counting o.count (special_send_out o.state attempt_to_assign 2) else o)) (sym end) (record { leaves = subst (λ (e : End). Leaves k e o.state) (sym end) tt })

refuse_asks : (k : Kept) (target : Ref) (i : ℕ) (v : Ref) → Asks k (refuse_store (pop_of k) target i v)
unfolding refuse_store
refuse_asks k target i v = told_asks k _ (all_fit (pop_of k) (target ∷ v ∷ ref.Small (pos (i + 1)) ∷ []))

slot_asks : (k t : Kept) (target : Ref) (i : ℕ) (v : Ref) → Asks k (store_slot t (pop_of k) target i v)
unfolding store_slot
slot_asks k t target i v = if_asks k (is_read_only t target) _ _ (refuse_asks k target i v) done_asks

-- ---- instructions that are done or stop

push_asks : (k : Kept) (x : Ref) → Asks k (push_out k x)
unfolding push_out
push_asks k x = if_asks k (nat_lt (depth_of k) (size_of k)) _ _ done_asks stop_asks

looked_asks : (k : Kept) (o : Out) → Asks k o → Asks k (looked o)
unfolding looked
looked_asks k o h = record { leaves = h.leaves }

field_asks : (k : Kept) (i : ℕ) (o : Option Obj) → Asks k (push_field k i o)
field_asks k i None = stop_asks
field_asks k i (Some (Ptr head slots)) = given_asks k (slice_get slots i) _ _ stop_asks (λ x. push_asks k x)
field_asks k i (Some (Raw head bytes)) = stop_asks
field_asks k i (Some (Method head header literals bytecodes)) = stop_asks
field_asks k i (Some (Ctx c)) = given_asks k _ _ _ stop_asks (λ x. if_asks k (i == 0) _ _ (looked_asks k (push_out k x) (push_asks k x)) (push_asks k x))

store_field_asks : (k t : Kept) (i : ℕ) (v : Ref) (o : Option Obj) → Asks k (store_field t (pop_of k) i v o)
store_field_asks k t i v None = stop_asks
store_field_asks k t i v (Some (Ptr head slots)) = if_asks k (nat_lt i (length slots)) _ _ (slot_asks k t (receiver_of t) i v) stop_asks
store_field_asks k t i v (Some (Raw head bytes)) = stop_asks
store_field_asks k t i v (Some (Method head header literals bytecodes)) = stop_asks
store_field_asks k t i v (Some (Ctx c)) = if_asks k _ _ _ (if_asks k _ _ _ done_asks stop_asks) stop_asks

receiver_asks : (k : Kept) (i : ℕ) → Asks k (push_receiver_out k i)
unfolding push_receiver_out
receiver_asks k i = field_asks k i (object_of k (receiver_of k))

store_receiver_asks : (k t : Kept) (i : ℕ) (v : Ref) → Asks k (store_receiver_out t (pop_of k) i v)
unfolding store_receiver_out
store_receiver_asks k t i v = store_field_asks k t i v (object_of t (receiver_of t))

temp_asks : (k : Kept) (i : ℕ) → Asks k (push_temp_out k i)
unfolding push_temp_out
temp_asks k i = given_asks k _ _ _ stop_asks (λ x. push_asks k x)

store_temp_asks : (k t : Kept) (i : ℕ) (v : Ref) → Asks k (store_temp_out t i v)
unfolding store_temp_out
store_temp_asks k t i v = if_asks k _ _ _ done_asks stop_asks

literal_asks : (k : Kept) (i : ℕ) → Asks k (push_literal_out k i)
unfolding push_literal_out
literal_asks k i = given_asks k _ _ _ stop_asks (λ x. push_asks k x)

variable_asks : (k : Kept) (i : ℕ) → Asks k (push_variable_out k i)
unfolding push_variable_out
variable_asks k i = given_asks k _ _ _ stop_asks (λ x. push_asks k x)

store_variable_asks : (k t : Kept) (i : ℕ) (v : Ref) → Asks k (store_variable_out t (pop_of k) i v)
unfolding store_variable_out
store_variable_asks k t i v = given_asks k (variable_value t i) _ _ stop_asks (λ x. slot_asks k t _ 1 v)

vector_asks : (k : Kept) (i j : ℕ) → Asks k (push_vector_out k i j)
unfolding push_vector_out
vector_asks k i j = given_asks k _ _ _ stop_asks (λ x. push_asks k x)

store_vector_asks : (k t : Kept) (i j : ℕ) (v : Ref) → Asks k (store_vector_out t (pop_of k) i j v)
unfolding store_vector_out
store_vector_asks k t i j v = given_asks k (vector_slot t i j) _ _ stop_asks (λ x. slot_asks k t _ i v)

pop_into_asks : (k : Kept) (f : Kept → Kept → Ref → Out) → ((t : Kept) (x : Ref) → Asks k (f t (pop_of k) x)) → Asks k (pop_into k f)
unfolding pop_into
pop_into_asks k f h = given_asks k _ _ _ stop_asks (λ x. h (pop_of k) x)

store_into_asks : (k : Kept) (f : Kept → Kept → Ref → Out) → ((t : Kept) (x : Ref) → Asks k (f t (pop_of k) x)) → Asks k (store_into k f)
unfolding store_into
store_into_asks k f h = given_asks k _ _ _ stop_asks (λ x. h k x)

pop_asks : (k : Kept) → Asks k (pop_out k)
unfolding pop_out
pop_asks k = given_asks k _ _ _ stop_asks (λ x. done_asks)

dup_asks : (k : Kept) → Asks k (dup_out k)
unfolding dup_out
dup_asks k = given_asks k _ _ _ stop_asks (λ x. push_asks k x)

this_asks : (k : Kept) → Asks k (this_context_out k)
unfolding this_context_out
this_asks k = if_asks k (nat_lt (depth_of k) (size_of k)) _ _ (looked_asks k (done (push_of k (ref.Obj (active_birth k)))) done_asks) stop_asks

jump_asks : (k t : Kept) (offset : ℤ) → Asks k (jump_out t offset)
unfolding jump_out
jump_asks k t offset = given_asks k _ _ _ stop_asks (λ x. done_asks)

then_asks : (k : Kept) (o : Out) (next : Kept → Kept) → Asks k o → Asks k (and_then o (λ t. done (next t)))
unfolding and_then
then_asks k o next h = if_asks k (is_done o.end) _ _ (record { leaves = tt }) h

made_asks : (k : Kept) (words : ℕ) (o : Out) → Asks k o → Asks k (made words o)
unfolding made
made_asks k words o h = record { leaves = h.leaves }

push_on_asks : (k t : Kept) (x : Ref) → Asks k (push_out t x)
unfolding push_out
push_on_asks k t x = if_asks k (nat_lt (depth_of t) (size_of t)) _ _ done_asks stop_asks

closure_asks : (k : Kept) (copied args size : ℕ) → Asks k (closure_out k copied args size)
unfolding closure_out
closure_asks k copied args size =
    given_asks k (pc_after k (pos size)) _ _ stop_asks (λ pc. if_asks k (nat_le copied (depth_of k)) _ _
    (looked_asks k _ (made_asks k _ _ (then_asks k _ (λ t. set_pc_of t pc) (push_on_asks k (drop_of (add_of k (new_closure k copied args)) copied) (next_ref k))))) stop_asks)

-- ---- instructions that send

special_send_asks : (k : Kept) (special args : ℕ) → Asks k (special_send_out k special args)
unfolding special_send_out
special_send_asks k special args = given_asks k _ _ _ stop_asks (λ x. send_asks)

jump_if_asks : (k : Kept) (wanted : Bool) (offset : ℕ) → Asks k (jump_if_out k wanted offset)
unfolding jump_if_out
jump_if_asks k wanted offset =
    given_asks k (top_of k) _ _ stop_asks (λ x. if_asks k (same_ref x (boolean k wanted)) _ _ (jump_asks k (pop_of k) (pos offset))
    (if_asks k (same_ref x (ref.Obj k.rest.true_)) _ _ done_asks (if_asks k (same_ref x (ref.Obj k.rest.false_)) _ _ done_asks (special_send_asks k 25 0))))

send_literal_asks : (k : Kept) (lit args : ℕ) → Asks k (send_literal_out k lit args)
unfolding send_literal_out
send_literal_asks k lit args = given_asks k _ _ _ stop_asks (λ x. send_asks)

send_super_asks : (k : Kept) (lit args : ℕ) → Asks k (send_super_out k lit args)
unfolding send_super_out
send_super_asks k lit args = given_asks k (literal_at k lit) _ _ stop_asks (λ x. given_asks k (variable_value k (length (literals_of k) - 1)) _ _ stop_asks (λ y. send_asks))

selector_asks : (k : Kept) (i : ℕ) → Asks k (send_selector_out k i)
unfolding send_selector_out
selector_asks k i =
    given_asks k (selector_pair k i) _ _ stop_asks (λ slots. given_asks k (slice_get slots (2 * i)) _ _ stop_asks (λ x. given_asks k (option_and_then (λ x. argument_count_in x) (slice_get slots (2 * i + 1))) _ _ stop_asks (λ z. send_asks)))

special_asks : (k : Kept) (i : ℕ) → Asks k (special_out k i)
unfolding special_out
special_asks k i = given_asks k _ _ _ (selector_asks k i) (λ x. done_asks)

same_asks : (k : Kept) → Asks k (same_out k)
unfolding same_out
same_asks k = given_asks k (from_top 1 (stack_of k)) _ _ stop_asks (λ x. given_asks k (top_of k) _ _ stop_asks (λ y. done_asks))

class_asks : (k : Kept) → Asks k (class_out k)
unfolding class_out
class_asks k = given_asks k _ _ _ stop_asks (λ x. done_asks)

common_asks : (k : Kept) (i : ℕ) → Asks k (common_out k i)
unfolding common_out
common_asks k i = if_asks k (i == 6) _ _ (same_asks k) (if_asks k (i == 7) _ _ (class_asks k) (selector_asks k (16 + i)))

-- ---- all of them

return_asks : (k : Kept) (x : Ref) (local : Bool) → Asks k (return_out (pop_of k) x local)
return_asks k x local = record { leaves = inr refl }

exec_asks : (o : Op) (k : Kept) → is_built_op o k ≡ true → Asks k (exec o k)
unfolding exec
exec_asks (op.PushRcvr i) k h = receiver_asks k i
exec_asks (op.PushTemp i) k h = temp_asks k i
exec_asks (op.PushLit i) k h = literal_asks k i
exec_asks (op.PushLitVar i) k h = variable_asks k i
exec_asks (op.PopRcvr i) k h = pop_into_asks k _ (λ t x. store_receiver_asks k t i x)
exec_asks (op.PopTemp i) k h = pop_into_asks k _ (λ t x. store_temp_asks k t i x)
exec_asks (op.PopLitVar i) k h = pop_into_asks k _ (λ t x. store_variable_asks k t i x)
exec_asks (op.StoreRcvr i) k h = store_into_asks k _ (λ t x. store_receiver_asks k t i x)
exec_asks (op.StoreTemp i) k h = store_into_asks k _ (λ t x. store_temp_asks k t i x)
exec_asks (op.StoreLitVar i) k h = store_into_asks k _ (λ t x. store_variable_asks k t i x)
exec_asks op.PushSelf k h = push_asks k _
exec_asks op.PushTrue k h = push_asks k _
exec_asks op.PushFalse k h = push_asks k _
exec_asks op.PushNil k h = push_asks k _
exec_asks (op.PushInt z) k h = push_asks k _
exec_asks op.ReturnSelf k h = record { leaves = inl refl }
exec_asks op.ReturnTrue k h = record { leaves = inl refl }
exec_asks op.ReturnFalse k h = record { leaves = inl refl }
exec_asks op.ReturnNil k h = record { leaves = inl refl }
exec_asks op.ReturnTop k h = given_asks k (top_of k) _ _ stop_asks (λ x. return_asks k x (is_local k))
exec_asks op.BlockReturn k h = given_asks k (top_of k) _ _ stop_asks (λ x. return_asks k x true)
exec_asks (op.Send lit args) k h = send_literal_asks k lit args
exec_asks (op.SendSuper lit args) k h = send_super_asks k lit args
exec_asks op.Pop k h = pop_asks k
exec_asks op.Dup k h = dup_asks k
exec_asks op.ThisContext k h = this_asks k
exec_asks (op.NewArray n) k h = absurd (cc)
exec_asks (op.PopArray n) k h = absurd (cc)
exec_asks (op.Prim i j) k h = done_asks
exec_asks (op.PushVec i j) k h = vector_asks k i j
exec_asks (op.StoreVec i j) k h = store_into_asks k _ (λ t x. store_vector_asks k t i j x)
exec_asks (op.PopVec i j) k h = pop_into_asks k _ (λ t x. store_vector_asks k t i j x)
exec_asks (op.Closure copied args size) k h = closure_asks k copied args size
exec_asks (op.Jump offset) k h = jump_asks k k offset
exec_asks (op.JumpTrue offset) k h = jump_if_asks k true offset
exec_asks (op.JumpFalse offset) k h = jump_if_asks k false offset
exec_asks (op.Special i) k h = special_asks k i
exec_asks (op.Common i) k h = common_asks k i

-- ---- what the pages count then

-- what is asked for comes from a state that has no page with more words, and the same next birth
pub record Behind (k u : Kept) : Type 0 where
  pub words : (page : List ℕ) → page_words u page ≤ page_words k page
  pub next : u.rest.next ≡ k.rest.next

behind_put : (k u : Kept) (c : Context) → IsRunning k → length c.stack ≤ depth_of k → Keeps u (put_active k c) → Behind k u
behind_put k u c running fewer keeps = record {
  words = λ page. omega (arith, page_words_kept u (put_active k c) keeps page, put_words k c (ap context_in running.found) fewer page);
  next = ap (λ (r : Rest). r.next) keeps.rest ∙ ap (λ (r : Rest). r.next) (rest-put k (active_birth k) (Ctx c));
}

behind_past : (k u : Kept) (pc : ℕ) → IsRunning k → Keeps u (set_pc_of k pc) → Behind k u
unfolding set_pc_of
behind_past k u pc running keeps = behind_put k u (with_pc (Some pc) (active_context k)) running (omega arith) keeps

behind_pop : (k u : Kept) (pc : ℕ) → IsRunning k → Keeps u (pop_of (set_pc_of k pc)) → Behind k u
unfolding set_pc_of drop_of
behind_pop k u pc running keeps =
    behind_put k u (popped 1 (with_pc (Some pc) (active_context k))) running (omega (arith, length-take (depth_of k - 1) (stack_of k)))
    (subst (Keeps u) (edit_twice k (with_pc (Some pc)) (popped 1)) keeps)

-- and a page that is too full for what is asked for was full before
pub record Sends (k u : Kept) : Type 0 where
  pub fills : FillsToo u least_of_send k least_of_return
  pub next : u.rest.next ≡ k.rest.next

sends_past : (k u t : Kept) (pc : ℕ) → Runs k → Pushed 3 (set_pc_of k pc) t → Keeps u t → Sends k u
unfolding set_pc_of
sends_past k u t pc runs h keeps = record {
  fills = λ page apart full. omega (arith, full, page_words_kept u t keeps page, h.words page apart, put_words k (with_pc (Some pc) (active_context k)) runs (omega arith) page);
  next = ap (λ (r : Rest). r.next) keeps.rest ∙ h.next ∙ ap (λ (r : Rest). r.next) (rest-put k (active_birth k) (Ctx (with_pc (Some pc) (active_context k))));
}

pub behind_send : (k u : Kept) (i : Instr) (selector : Ref) (args : ℕ) (above : Option Ref) → IsRunning k → is_built_op i.op (past k i) ≡ true → (effect k i).end ≡ ends.Send selector args above → Keeps u (effect k i).state → Sends k u
behind_send k u i selector args above running op end keeps =
    let runs : Runs k = ap context_in running.found in
    elim (subst (λ e. Leaves (past k i) e (effect k i).state) end (exec_asks i.op (past k i) op).leaves) [
      | inl is ↦ let b = behind_past k u (pc_of k + i.len) running (subst (Keeps u) is keeps) in record { fills = fills_by_words u k least_of_send least_of_return b.words (omega arith); next = b.next }
      | inr pushes ↦ sends_past k u (effect k i).state (pc_of k + i.len) runs (pushes (runs_on k (past k i) (set_pc_stays k (pc_of k + i.len) runs) runs)) keeps
    ]

pub behind_return : (k u : Kept) (i : Instr) (x : Ref) (local : Bool) → IsRunning k → is_built_op i.op (past k i) ≡ true → (effect k i).end ≡ ends.Return x local → Keeps u (effect k i).state → Behind k u
behind_return k u i x local running op end keeps =
    elim (subst (λ e. Leaves (past k i) e (effect k i).state) end (exec_asks i.op (past k i) op).leaves) [
      | inl is ↦ behind_past k u (pc_of k + i.len) running (subst (Keeps u) is keeps)
      | inr is ↦ behind_pop k u (pc_of k + i.len) running (subst (Keeps u) is keeps)
    ]
