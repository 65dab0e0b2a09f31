-- What a run has written stays in front of what it writes later.
use Rattle.std.proofs.Common.{◌≡◌, ℕ, zero, suc, ◌+◌, ◌<◌, ◌≤◌, Bool, true, false, refl, sym, ap, subst, ◌∙◌, arith, Option, Some, None, List, length, [], ◌++◌, nat_lt}
use Rattle.std.specs.Prelude.{◌==◌, ◌&&◌, ◌||◌, if◌then◌else◌}
use Rattle.std.proofs.lemmas.List.{append-nil, append_assoc, length-append, take-append-le}
use Rattle.cs_shelf.specs.Outside.{Appends, AppendsPart}
use Rattle.cs_model.specs.declared.stop.Stop.{Stop}
use Rattle.cs_model.specs.declared.stop.Stop.TheVariants as why
use Rattle.cs_model.specs.declared.instruction.Instr.{Instr}
use Rattle.cs_model.specs.Ref.{Ref}
use Rattle.cs_model.specs.Obj.{argument_count, bytecodes_in, header_in, primitive_number}
use Rattle.cs_model.specs.State.{Kept, Run, State, object_of, special_at}
use Rattle.cs_model.specs.Read.{depth_of, pc_of}
use Rattle.cs_model.specs.Operation.{set_pc_of}
use Rattle.cs_model.specs.Exec.{exec}
use Rattle.cs_model.specs.Lookup.{Sought}
use Rattle.cs_model.specs.Lookup as sought
use Rattle.cs_model.specs.Send.{begins_at, enter_out, invoke, look_from, offer, send, send_found}
use Rattle.cs_model.specs.Return.{back}
use Rattle.cs_model.specs.End as ends
use Rattle.cs_model.specs.End.{End, Out, given, made_context, no_count, stop}
use Rattle.cs_model.specs.PrimAnswer.{answer, argument, receiver}
use Rattle.cs_model.specs.PrimRun.{Result, bytes_to_write, fails, result, write_prim, written}
use Rattle.cs_model.specs.PrimTable.{prim}
use Rattle.cs_model.specs.Due.{due, due_of, happened, is_idle, with_events}
use Rattle.cs_model.specs.Step as step
use Rattle.cs_model.specs.Step.{Steps, Quit, Idle, Stopped, add_count, bytecode, call_in, do_call, do_return, go_on, idle, obey, run_by, saved_fault, step}
use Rattle.cs_model.specs.Step.{Ending, Message, birth_limit, completed, do_send, ends_with, finish, finish_of, followed, instruction_at, is_fail, message_in, or_enter, primitive_in, return_in, sent, shape_fault, stops, with_kept, arguments_of, tried, try_performed, try_primitive}
use Rattle.cs_model.specs.Built.{built_run, built_step, is_built, is_built_bytecode, is_built_call, is_built_found, is_built_from, is_built_method, is_built_number, is_built_op, is_built_out, is_built_return, is_built_send}
use Rattle.cs_prim_num.specs.Numbers.{is_on_numbers}
use Rattle.cs_unwind.specs.Primitive.{unwinds}
use Rattle.cs_core.proofs.Laying.{is_same}
use Rattle.cs_core.proofs.Unwinding.{unwind_leaves}
use Rattle.cs_core.proofs.Picking.{not_listed, not_missing}
use Rattle.cs_core.proofs.Replying.{RepliesBy, on_numbers_by, reads_73, reads_210, reads_212, reply_last, unlisted_by}

-- a run that has written more, and has the same events left
pub record Writes (r q : Run) : Type 0 where
  pub more : List ℕ
  pub output : q.output ≡ r.output ++ more
  pub events : q.events ≡ r.events

pub writes_none : (r : Run) → Writes r r
writes_none r = record { more = []; output = sym (append-nil r.output); events = refl }

pub writes_again : (a b c : Run) → Writes a b → Writes b c → Writes a c
writes_again a b c g h = record { more = g.more ++ h.more; output = h.output ∙ ap (λ x. x ++ h.more) g.output ∙ append_assoc a.output g.more h.more; events = h.events ∙ g.events }

-- ---- the built primitives

prim_900_writes : (args : ℕ) (s : State) → Writes s.run (prim 900 args s).run
unfolding prim write_prim
prim_900_writes args s = go (1 == args) (bytes_to_write s.kept (argument s.kept 1 0))
  where
    go : (b : Bool) (o : Option (List ℕ)) → Writes s.run (if b then given o (fails s) (λ bytes. result (answer s.kept 1 (receiver s.kept 1)) (written bytes s.run)) else fails s).run
    go true None = writes_none s.run
    go true (Some bytes) = record { more = bytes; output = refl; events = refl }
    go false o = writes_none s.run

answer_last : (k : Kept) (args : ℕ) (x : Ref) → primitive_in (answer k args x).end ≡ None
unfolding answer
answer_last k args x = refl

prim_900_last : (args : ℕ) (s : State) → primitive_in (prim 900 args s).out.end ≡ None
unfolding prim write_prim
prim_900_last args s = go (1 == args) (bytes_to_write s.kept (argument s.kept 1 0))
  where
    go : (b : Bool) (o : Option (List ℕ)) → primitive_in (if b then given o (fails s) (λ bytes. result (answer s.kept 1 (receiver s.kept 1)) (written bytes s.run)) else fails s).out.end ≡ None
    go true None = refl
    go true (Some bytes) = answer_last s.kept 1 (receiver s.kept 1)
    go false o = refl

-- a built primitive reaches no other one, and leaves what was written
record Leaves (s : State) (p : Result) : Type 0 where
  pub last : primitive_in p.out.end ≡ None
  pub writes : Writes s.run p.run

-- those on numbers, those that read a context and those that no table lists answer or fail
reply_leaves : (s : State) (args number : ℕ) → (p : RepliesBy s args number) → Leaves s (prim number args s)
reply_leaves s args number p = record {
  last = subst (λ (q : Result). primitive_in q.out.end ≡ None) (sym p.is) (reply_last p.reply);
  writes = subst (λ (q : Result). Writes s.run q.run) (sym p.is) (writes_none s.run);
}

-- those that evaluate closures or look for marks
unwinds_leaves : (s : State) (args number : ℕ) → unwinds number ≡ true → Leaves s (prim number args s)
unwinds_leaves s args number h = let l = unwind_leaves s args number h in record { last = l.0; writes = subst (Writes s.run) (sym l.1) (writes_none s.run) }

built_leaves : (s : State) (args number : ℕ) → is_built_number s.kept args (Some number) ≡ true → Leaves s (prim number args s)
built_leaves s args number h = go (number == 900) (is_on_numbers number) (unwinds number) (number == 210) (number == 212) (number == 73) refl refl refl refl refl refl
  where
    go : (a b c d e f : Bool) → (number == 900) ≡ a → is_on_numbers number ≡ b → unwinds number ≡ c → (number == 210) ≡ d → (number == 212) ≡ e → (number == 73) ≡ f → Leaves s (prim number args s)
    go true b c d e f p q r t u v = subst (λ n. Leaves s (prim n args s)) (sym (is_same number 900 p)) (record { last = prim_900_last args s; writes = prim_900_writes args s })
    go false true c d e f p q r t u v = reply_leaves s args number (on_numbers_by s args number q)
    go false false true d e f p q r t u v = unwinds_leaves s args number r
    go false false false true e f p q r t u v = subst (λ n. Leaves s (prim n args s)) (sym (is_same number 210 t)) (reply_leaves s args 210 (reads_210 s args))
    go false false false false true f p q r t u v = subst (λ n. Leaves s (prim n args s)) (sym (is_same number 212 u)) (reply_leaves s args 212 (reads_212 s args))
    go false false false false false true p q r t u v = subst (λ n. Leaves s (prim n args s)) (sym (is_same number 73 v)) (reply_leaves s args 73 (reads_73 s args))
    go false false false false false false p q r t u v =
        reply_leaves s args number (unlisted_by s args number
        (not_listed number (record { write = p; numbers = q; unwind = r; stack_value = t; stack_depth = u; missing = not_missing s.kept number args v h })))

-- ---- a send

entered_last : (k : Kept) (x : Ref) (args : ℕ) (skip : Bool) → primitive_in (enter_out k x args skip).end ≡ None
unfolding enter_out made_context
entered_last k x args skip = refl

entered_run : (r : Run) (k : Kept) (x : Ref) (args : ℕ) (skip : Bool) → (sent r (enter_out k x args skip)).run ≡ r
entered_run r k x args skip =
    ap (λ p. (given p (result (enter_out k x args skip) r) (λ q. step.result_counting (enter_out k x args skip).count (try_primitive (with_kept (enter_out k x args skip).state r) q.0 q.1))).run) (entered_last k x args skip)

or_enter_writes : (s : State) (x : Ref) (p : Result) → Writes s.run p.run → Writes s.run (or_enter s x p).run
or_enter_writes s x p h = go (is_fail p.out.end)
  where
    go : (b : Bool) → Writes s.run (if b then result (enter_out s.kept x (arguments_of s.kept x) true) s.run else p).run
    go true = writes_none s.run
    go false = h

tried_writes : (s : State) (x : Ref) (p : Result) → Leaves s p → Writes s.run (tried s x p).run
tried_writes s x p l =
    subst (λ (o : Option (Ref × ℕ)). Writes s.run (given o (or_enter s x p) (λ q. step.result_counting p.out.count (try_performed (with_kept p.out.state p.run) q.0 q.1))).run) (sym l.last) (or_enter_writes s x p l.writes)

primitive_writes : (s : State) (x : Ref) (number : ℕ) → is_built_number s.kept (arguments_of s.kept x) (Some number) ≡ true → Writes s.run (try_primitive s x number).run
unfolding try_primitive
primitive_writes s x number h = tried_writes s x (prim number (arguments_of s.kept x) s) (built_leaves s (arguments_of s.kept x) number h)

method_writes : (r : Run) (k : Kept) (x : Ref) (args : ℕ) → is_built_method k x args ≡ true → Writes r (sent r (invoke k x args)).run
unfolding invoke
method_writes r k x args h = go (argument_count (header_in (object_of k x)) == args) refl (primitive_number (header_in (object_of k x)) (bytecodes_in (object_of k x))) h
  where
    go : (b : Bool) → (arguments_of k x == args) ≡ b → (o : Option ℕ) → (if b then is_built_number k args o else true) ≡ true → Writes r (sent r (if b then offer k x args o else stop why.BadArgs k)).run
    go true e None t = subst (Writes r) (sym (entered_run r k x args false)) (writes_none r)
    go true e (Some n) t = primitive_writes (with_kept k r) x n (ap (λ m. is_built_number k m (Some n)) (is_same (arguments_of k x) args e) ∙ t)
    go false e o t = writes_none r

send_writes : (r : Run) (k : Kept) (m : Message) → is_built_send k m ≡ true → Writes r (do_send r k m.selector m.args m.above).run
unfolding do_send send
send_writes r k m h = go (nat_lt m.args (depth_of k)) (look_from k m.selector (begins_at k m.args m.above)) h
  where
    go : (b : Bool) (l : Sought) → (if b then is_built_found k m.args l else true) ≡ true
        → Writes r (sent r (if b then send_found k m.selector m.args l else stop why.StackUnder k)).run
    go true (sought.Method x) t = method_writes r k x m.args t
    go true sought.Missing t = absurd (cc)
    go true sought.Loop t = writes_none r
    go false l t = writes_none r

-- ---- a return

-- it writes what the message writes that tells of it, if any
call_writes : (r : Run) (k : Kept) (special args : ℕ) → is_built_call k special args ≡ true → Writes r (do_call r k special args).run
call_writes r k special args h = go (special_at k special) h
  where
    go : (o : Option Ref) → given o true (λ selector. is_built_send k (record { selector = selector; args = args; above = None })) ≡ true
        → Writes r (given o (result (stop why.BadSpecial k) r) (λ selector. do_send r k selector args None)).run
    go None t = writes_none r
    go (Some selector) t = send_writes r k (record { selector = selector; args = args; above = None }) t

return_writes : (r : Run) (k : Kept) (x : Ref) (local : Bool) → is_built_return k x local ≡ true → Writes r (do_return r k x local).run
unfolding do_return
return_writes r k x local h = go (call_in (back k x local).end) h
  where
    o : Out
    o = back k x local

    go : (c : Option (ℕ × ℕ)) → given c true (λ c. is_built_call o.state c.0 c.1) ≡ true → Writes r (given c (result o r) (λ c. step.result_counting o.count (do_call r o.state c.0 c.1))).run
    go None t = writes_none r
    go (Some c) t = call_writes r o.state c.0 c.1 t

-- ---- a step

followed_writes : (r : Run) (o : Out) → is_built_out o ≡ true → Writes r (followed r o).run
followed_writes r o h = go (message_in o.end) (return_in o.end) h
  where
    go : (m : Option Message) (p : Option (Ref × Bool)) → given m (given p true (λ p. is_built_return o.state p.0 p.1)) (λ m. is_built_send o.state m) ≡ true
        → Writes r (given m (given p (result o r) (λ p. step.result_counting o.count (do_return r o.state p.0 p.1))) (λ m. step.result_counting o.count (do_send r o.state m.selector m.args m.above))).run
    go None None t = writes_none r
    go None (Some p) t = return_writes r o.state p.0 p.1 t
    go (Some m) p t = send_writes r o.state m t

bytecode_writes : (k : Kept) (r : Run) → is_built_bytecode k ≡ true → Writes r (bytecode (with_kept k r)).run
unfolding is_built_bytecode bytecode
bytecode_writes k r h = go (instruction_at k) h
  where
    built : (a b : Bool) → (a && b) ≡ true → b ≡ true
    built true b h = h
    built false b h = absurd (cc)

    go : (o : Option Instr) → given o true (λ i. is_built_from (set_pc_of k (pc_of k + i.len)) i.op) ≡ true → Writes r (given o (result (stop why.BadCode k) r) (λ i. obey (with_kept k r) i)).run
    go None q = writes_none r
    go (Some i) q =
        let o = exec i.op (set_pc_of k (pc_of k + i.len)) in
        followed_writes r o (built (is_built_op i.op (set_pc_of k (pc_of k + i.len))) (is_built_out o) q)

completed_writes : (s : State) (e : Ending) (x : Result) → Writes s.run x.run → Writes s.run (completed s e x).state.run
completed_writes s e x h = go (shape_fault x.out.state)
  where
    go : (o : Option Stop) → Writes s.run (given o (ends_with e x) (λ reason. stops s x.out.count reason)).state.run
    go None = record { more = h.more; output = h.output; events = h.events }
    go (Some reason) = writes_none s.run

finish_writes : (s : State) (x : Result) (e : End) → Writes s.run x.run → Writes s.run (finish s x e).state.run
finish_writes s x ends.Done h = completed_writes s Steps x h
finish_writes s x (ends.Send selector args above) h = completed_writes s Steps x h
finish_writes s x (ends.Return value local) h = completed_writes s Steps x h
finish_writes s x ends.Entered h = completed_writes s Steps x h
finish_writes s x (ends.Primitive method number) h = completed_writes s Steps x h
finish_writes s x (ends.Call special args) h = completed_writes s Steps x h
finish_writes s x ends.Answer h = completed_writes s Steps x h
finish_writes s x ends.Fail h = completed_writes s Steps x h
finish_writes s x ends.Quit h = completed_writes s Quit x h
finish_writes s x ends.Snapshot h = go (saved_fault x.snapshot)
  where
    go : (o : Option Stop) → Writes s.run (given o (completed s Steps x) (λ reason. stops s x.out.count reason)).state.run
    go None = completed_writes s Steps x h
    go (Some reason) = writes_none s.run
finish_writes s x (ends.Stopped reason) h = writes_none s.run

-- without events
bare_writes : (k : Kept) (r : Run) → Writes (with_events [] r) (built_step (with_kept k (with_events [] r))).state.run
unfolding built_step step due due_of is_built
bare_writes k r = go (nat_lt birth_limit k.rest.next) (is_idle k) (is_built_bytecode k) refl
  where
    s : State
    s = with_kept k (with_events [] r)

    go : (births idles built : Bool) → is_built_bytecode k ≡ built
        → Writes s.run (if births || idles || built then (if births then stops s no_count why.BirthLimit else (if idles then idle (happened s) else add_count no_count (finish_of s (bytecode s)))) else stops s no_count why.NotBuilt).state.run
    go true idles built h = writes_none s.run
    go false true built h = writes_none s.run
    go false false true h = finish_writes s (bytecode s) (bytecode s).out.end (bytecode_writes k s.run h)
    go false false false h = writes_none s.run

step_writes : (s : State) → s.run.events ≡ [] → Writes s.run (built_step s).state.run
step_writes s e =
    let is : with_events [] s.run ≡ s.run = ap (λ es. with_events es s.run) (sym e) in
    subst (λ (r : Run). Writes r (built_step (with_kept s.kept r)).state.run) is (bare_writes s.kept s.run)

-- ---- a run

one_writes : (n : ℕ) (s : State) → (built_run n s).state.run.events ≡ [] → Writes (built_run n s).state.run (built_run (suc n) s).state.run
unfolding run_by
one_writes n s e = go (built_run n s).ending
  where
    go : (h : Ending) → Writes (built_run n s).state.run (go_on built_step (built_run n s) h).state.run
    go Steps = step_writes (built_run n s).state e
    go Quit = writes_none (built_run n s).state.run
    go Idle = writes_none (built_run n s).state.run
    go (Stopped reason) = writes_none (built_run n s).state.run

no_events : (n : ℕ) (s : State) → s.run.events ≡ [] → (built_run n s).state.run.events ≡ []
unfolding run_by
no_events zero s e = e
no_events (suc n) s e = (one_writes n s (no_events n s e)).events ∙ no_events n s e

-- so many steps more
pub run_writes : (i j n : ℕ) (s : State) → s.run.events ≡ [] → n ≡ j + i → Writes (built_run i s).state.run (built_run n s).state.run
run_writes i zero n s e at =
    let is : i ≡ n = omega (arith, at) in
    subst (λ (m : ℕ). Writes (built_run i s).state.run (built_run m s).state.run) is (writes_none (built_run i s).state.run)
run_writes i (suc j) n s e at =
    let is : suc (j + i) ≡ n = omega (arith, at) in
    subst (λ (m : ℕ). Writes (built_run i s).state.run (built_run m s).state.run) is
    (writes_again (built_run i s).state.run (built_run (j + i) s).state.run (built_run (suc (j + i)) s).state.run (run_writes i j (j + i) s e refl) (one_writes (j + i) s (no_events (j + i) s e)))

-- a first part of what is written up to some step is one of all that is written
pub part_of_more : (old new : Option (List ℕ)) (xs more ys : List ℕ) → ys ≡ xs ++ more → AppendsPart old new xs → AppendsPart old new ys
part_of_more old new xs more ys is g =
    let fewer : g.0 ≤ length xs = omega (arith, g.1) in
    let below : g.0 < length (xs ++ more) = omega (arith, g.1, length-append xs more) in
    subst (λ (zs : List ℕ). AppendsPart old new zs) (sym is) (g.0, below, subst (λ (zs : List ℕ). Appends old new zs) (sym (take-append-le g.0 xs more fewer)) g.2)
