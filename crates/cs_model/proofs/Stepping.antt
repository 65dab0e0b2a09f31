-- A bytecode with all that it leads to is alike, and so are a step and a run.
use Rattle.std.proofs.Common.{ℕ, zero, suc, ◌+◌, ◌-◌, ◌&&◌, not, Bool, true, false, refl, sym, ap, ◌∙◌, Option, Some, None, is_some, List, [], ◌∷◌, ◌++◌, nat_lt, if◌then◌else◌}
use Rattle.cs_model.specs.declared.stop.Stop.{Stop}
use Rattle.cs_model.specs.declared.stop.Stop.TheVariants as why
use Rattle.cs_model.specs.declared.instruction.Instr.{Instr}
use Rattle.cs_model.specs.Ref.{Ref}
use Rattle.cs_model.specs.Obj.{first_pc, header_in, argument_count}
use Rattle.cs_model.specs.State.{Kept, Run, State, IsHeld}
use Rattle.cs_model.specs.Decode.{decode_at}
use Rattle.cs_model.specs.Send.{enter_out}
use Rattle.cs_model.specs.PrimRun.{Result}
use Rattle.cs_model.specs.PrimTable.{prim, is_perform}
use Rattle.cs_model.specs.Due.{Happened}
use Rattle.cs_model.specs.Step.{Message, message_in, return_in, primitive_in, call_in, is_fail, result_counting, arguments_of, or_enter, try_performed, tried, try_primitive, sent, do_send, do_call, returned, do_return, followed, instruction_at, obey, bytecode, is_ref, is_process, process_fault, shape_fault, Ending, Steps, Quit, Idle, Stopped, Step, stops, next_step, ends_with, completed, saved_fault, finish, birth_limit, add_count, ready, stop_in, after_due, step, Ran, saved, go_on, run_by, run}
use Rattle.cs_model.specs.End.{End, Out, Count, out, stop, no_count, plus, given}
use Rattle.cs_model.specs.End as ends
use Rattle.cs_model.specs.Keeps.{Keeps, Grows, KeepsState}
use Rattle.cs_model.specs.Alike.{Alike, EndHeld, IsHeldIf, AlikeResult, AlikeHappened, AlikeStep, AlikeRan, KeepsIf, AllKeep}
use Rattle.cs_model.proofs.Same.{Same, same, SameOption, none, some, Any, is, value, of_option, two, same_by, plain}
use Rattle.cs_model.proofs.Keeping.{Moved, unmoved, grows-trans}
use Rattle.cs_model.proofs.Reading.{held_if, rest_same, is_nil_same, slots_of_same, special_at_same, scheduler_same, active_process_same, object_of_same, bytecodes_same, literals_same, pc_same}
use Rattle.cs_model.proofs.Operating.{set_pc_moved}
use Rattle.cs_model.proofs.Combining.{behind, left, end_same, count_same, counting_alike, stop_alike}
use Rattle.cs_model.proofs.Executing.{exec_alike}
use Rattle.cs_model.proofs.Sending.{enter_alike, send_alike}
use Rattle.cs_model.proofs.Returning.{back_alike}
use Rattle.cs_model.proofs.Running.{result_alike, if_result, given_result}
use Rattle.cs_model.proofs.Tables.{prim_alike}
use Rattle.cs_model.proofs.Happening.{is_idle_same, is_left_same, without_context_moved, left_counted, run_same, due_alike}

-- ---- what an end asks for

abbrev pub MessageHeld : Kept → Message → Type 0
MessageHeld v p = IsHeld v p.selector × IsHeldIf v p.above

pub message_in_same : {e f : End} → (v : Kept) → Same (EndHeld v) e f → SameOption (MessageHeld v) (message_in e) (message_in f)
message_in_same v (same ends.Done h) = none
message_in_same v (same (ends.Send selector args above) h) = some (record { selector = selector; args = args; above = above }) h
message_in_same v (same (ends.Return value local) h) = none
message_in_same v (same ends.Entered h) = none
message_in_same v (same (ends.Primitive method number) h) = none
message_in_same v (same (ends.Call special args) h) = none
message_in_same v (same ends.Answer h) = none
message_in_same v (same ends.Fail h) = none
message_in_same v (same ends.Quit h) = none
message_in_same v (same ends.Snapshot h) = none
message_in_same v (same (ends.Stopped reason) h) = none

abbrev pub FirstHeld : {A : Type 0} → Kept → (Ref × A) → Type 0
FirstHeld v p = IsHeld v p.0

pub return_in_same : {e f : End} → (v : Kept) → Same (EndHeld v) e f → SameOption (FirstHeld v) (return_in e) (return_in f)
return_in_same v (same ends.Done h) = none
return_in_same v (same (ends.Send selector args above) h) = none
return_in_same v (same (ends.Return value local) h) = some (value, local) h
return_in_same v (same ends.Entered h) = none
return_in_same v (same (ends.Primitive method number) h) = none
return_in_same v (same (ends.Call special args) h) = none
return_in_same v (same ends.Answer h) = none
return_in_same v (same ends.Fail h) = none
return_in_same v (same ends.Quit h) = none
return_in_same v (same ends.Snapshot h) = none
return_in_same v (same (ends.Stopped reason) h) = none

primitive_in_same : {e f : End} → (v : Kept) → Same (EndHeld v) e f → SameOption (FirstHeld v) (primitive_in e) (primitive_in f)
primitive_in_same v (same ends.Done h) = none
primitive_in_same v (same (ends.Send selector args above) h) = none
primitive_in_same v (same (ends.Return value local) h) = none
primitive_in_same v (same ends.Entered h) = none
primitive_in_same v (same (ends.Primitive method number) h) = some (method, number) h
primitive_in_same v (same (ends.Call special args) h) = none
primitive_in_same v (same ends.Answer h) = none
primitive_in_same v (same ends.Fail h) = none
primitive_in_same v (same ends.Quit h) = none
primitive_in_same v (same ends.Snapshot h) = none
primitive_in_same v (same (ends.Stopped reason) h) = none

-- ---- the primitive of a method that was found

-- what is alike from behind an Out on is alike from before it on, and what was counted before counts too
counting_result : {v : Kept} {a b : Out} {x y : Result} → Alike v a b → AlikeResult a.state x y → AlikeResult v (result_counting a.count x) (result_counting b.count y)
counting_result {v} {a} {b} {x} {y} h r = record { out = counting_alike (count_same h) (behind (left h) r.out); run = r.run; snapshot = r.snapshot }

enter_at : {v m : Kept} {x y : Ref} {n l : ℕ} → Keeps v m → Same (IsHeld v) x y → Same Any n l → Alike v (enter_out v x n true) (enter_out m y l true)
enter_at k s (same n a) = enter_alike k s n true

arguments_same : {v m : Kept} {x y : Ref} → Keeps v m → Same (IsHeld v) x y → Same Any (arguments_of v x) (arguments_of m y)
arguments_same k s = of_option (λ o. argument_count (header_in o)) (object_of_same k s)

prim_at : {v m : Kept} {n l : ℕ} → Keeps v m → (r : Run) → (number : ℕ) → Same Any n l → AlikeResult v (prim number n (record { kept = v; run = r })) (prim number l (record { kept = m; run = r }))
prim_at k r number (same n a) = prim_alike k r number n

or_enter_alike : {v m : Kept} {x y : Ref} {a b : Result} → Keeps v m → (r : Run) → Same (IsHeld v) x y → AlikeResult v a b → AlikeResult v (or_enter (record { kept = v; run = r }) x a) (or_enter (record { kept = m; run = r }) y b)
or_enter_alike k r s h = if_result (value is_fail (end_same h.out)) (result_alike (enter_at k s (arguments_same k s)) r) h

try_performed_alike : {v m : Kept} {x y : Ref} {r q : Run} → Keeps v m → Same Any r q → Same (IsHeld v) x y → (number : ℕ) → AlikeResult v (try_performed (record { kept = v; run = r }) x number) (try_performed (record { kept = m; run = q }) y number)
unfolding try_performed
try_performed_alike k (same r a) s number =
    if_result (is (is_perform number)) (result_alike (enter_at k s (arguments_same k s)) r) (or_enter_alike k r s (prim_at k r number (arguments_same k s)))

-- the run parts of two results
result_run : {v : Kept} {a b : Result} → AlikeResult v a b → Same Any a.run b.run
result_run {v} {a} {b} h = same_by Any a.run b.run (sym h.run) tt

tried_alike : {v m : Kept} {x y : Ref} {a b : Result} → Keeps v m → (r : Run) → Same (IsHeld v) x y → AlikeResult v a b → AlikeResult v (tried (record { kept = v; run = r }) x a) (tried (record { kept = m; run = r }) y b)
tried_alike {a = a} k r s h =
    given_result _ _ (primitive_in_same a.out.state (end_same h.out)) (or_enter_alike k r s h) (λ p g. counting_result h.out (try_performed_alike h.out.keeps (result_run h) (same p.0 g) p.1))

pub try_primitive_alike : {v m : Kept} {x y : Ref} → Keeps v m → (r : Run) → Same (IsHeld v) x y → (number : ℕ) → AlikeResult v (try_primitive (record { kept = v; run = r }) x number) (try_primitive (record { kept = m; run = r }) y number)
unfolding try_primitive
try_primitive_alike k r s number = tried_alike k r s (prim_at k r number (arguments_same k s))

-- ---- sends and returns

sent_alike : {v : Kept} {a b : Out} → (r : Run) → Alike v a b → AlikeResult v (sent r a) (sent r b)
sent_alike {a = a} r h =
    given_result _ _ (primitive_in_same a.state (end_same h)) (result_alike h r) (λ p g. counting_result h (try_primitive_alike h.keeps r (same p.0 g) p.1))

pub do_send_alike : {v m : Kept} {x y : Ref} {o p : Option Ref} → Keeps v m → (r : Run) → Same (IsHeld v) x y → (args : ℕ) → SameOption (IsHeld v) o p → AlikeResult v (do_send r v x args o) (do_send r m y args p)
unfolding do_send
do_send_alike k r s args above = sent_alike r (send_alike k s args above)

pub do_call_alike : {v m : Kept} → Keeps v m → (r : Run) → (special args : ℕ) → AlikeResult v (do_call r v special args) (do_call r m special args)
do_call_alike k r special args =
    given_result _ _ (special_at_same k special) (result_alike (stop_alike k why.BadSpecial) r) (λ selector h. do_send_alike k r (same selector h) args none)

returned_alike : {v : Kept} {a b : Out} → (r : Run) → Alike v a b → AlikeResult v (returned r a) (returned r b)
returned_alike r h =
    given_result _ _ (plain (value call_in (end_same h))) (result_alike h r) (λ c g. counting_result h (do_call_alike h.keeps r c.0 c.1))

pub do_return_alike : {v m : Kept} {x y : Ref} → Keeps v m → (r : Run) → Same (IsHeld v) x y → (local : Bool) → AlikeResult v (do_return r v x local) (do_return r m y local)
unfolding do_return
do_return_alike k r s local = returned_alike r (back_alike k s local)

-- ---- the bytecode

followed_alike : {v : Kept} {a b : Out} → (r : Run) → Alike v a b → AlikeResult v (followed r a) (followed r b)
followed_alike {a = a} r h =
    given_result _ _ (message_in_same a.state (end_same h))
    (given_result _ _ (return_in_same a.state (end_same h)) (result_alike h r) (λ p g. counting_result h (do_return_alike h.keeps r (same p.0 g) p.1)))
    (λ p g. counting_result h (do_send_alike h.keeps r (same p.selector g.0) p.args (held_if h.keeps p.above g.1)))

pub instruction_at_same : {v m : Kept} → Keeps v m → SameOption Any (instruction_at v) (instruction_at m)
unfolding instruction_at
instruction_at_same k = plain (two decode_at (bytecodes_same k) (two (λ pc xs. pc - first_pc xs) (pc_same k) (literals_same k)))

obey_alike : {v m : Kept} → Keeps v m → (r : Run) → (i : Instr) → AlikeResult v (obey (record { kept = v; run = r }) i) (obey (record { kept = m; run = r }) i)
obey_alike k r i =
    let s = set_pc_moved k (value (λ pc. pc + i.len) (pc_same k)) in
    followed_alike r (behind s (exec_alike i.op s.keeps))

pub bytecode_alike : {v m : Kept} → Keeps v m → (r : Run) → AlikeResult v (bytecode (record { kept = v; run = r })) (bytecode (record { kept = m; run = r }))
unfolding bytecode
bytecode_alike k r = given_result _ _ (instruction_at_same k) (result_alike (stop_alike k why.BadCode) r) (λ i a. obey_alike k r i)

-- ---- the end of a step

is_process_same : {v m : Kept} {x y : Ref} → Keeps v m → Same (IsHeld v) x y → Same Any (is_process v x) (is_process m y)
is_process_same k (same x h) =
    two (λ a b. a && b) (two (λ a b. a && b) (of_option is_some (slots_of_same k 4 (same x h))) (of_option (λ o. not (is_ref o x)) (scheduler_same k))) (of_option (λ o. not (is_ref o x)) (special_at_same k 3))

choose_fault : {b c : Bool} {o p q r : Option Stop} → Same Any b c → Same Any o p → Same Any q r → Same Any (if b then o else q) (if c then p else r)
choose_fault (same true a) s t = s
choose_fault (same false a) s t = t

process_fault_same : {v m : Kept} {o p : Option Ref} → Keeps v m → SameOption (IsHeld v) o p → Same Any (process_fault v o) (process_fault m p)
process_fault_same k none = is (Some why.BadSpecial)
process_fault_same k (some p h) = choose_fault (is_nil_same k (is p)) (is None) (choose_fault (is_process_same k (same p h)) (is None) (is (Some why.BadProcess)))

pub shape_fault_same : {v m : Kept} → Keeps v m → SameOption Any (shape_fault v) (shape_fault m)
unfolding shape_fault
shape_fault_same k = plain (process_fault_same k (active_process_same k))

-- s is what the step began with
pub stops_alike : {s t : State} {n l : Count} → KeepsState s t → Same Any n l → (reason : Stop) → AlikeStep s.kept (stops s n reason) (stops t l reason)
stops_alike h (same n a) reason = record { ending = refl; count = refl; state = h; grows = (unmoved h.kept).grows; snapshot = tt }

ends_with_alike : {v : Kept} {a b : Result} → (e : Ending) → AlikeResult v a b → AlikeStep v (ends_with e a) (ends_with e b)
ends_with_alike {v} {a} {b} e h =
    let w = without_context_moved h.out.keeps in
    record {
      ending = refl;
      count = left_counted (is_left_same h.out.keeps) (count_same h.out);
      state = record { kept = w.keeps; run = ap next_step h.run };
      grows = grows-trans h.out.grows w.grows;
      snapshot = h.snapshot;
    }

given_step : {v : Kept} {A : Type 0} {P : A → Type 0} {o p : Option A} {a b : Step} (f g : A → Step) → SameOption P o p → AlikeStep v a b → ((x : A) → P x → AlikeStep v (f x) (g x)) → AlikeStep v (given o a f) (given p b g)
given_step f g none n s = n
given_step f g (some x h) n s = s x h

pub if_step : {v : Kept} {P : Bool → Type 0} {c d : Bool} {a b x y : Step} → Same P c d → AlikeStep v a b → AlikeStep v x y → AlikeStep v (if c then a else x) (if d then b else y)
if_step (same true h) s t = s
if_step (same false h) s t = t

-- a step from before some events on
step_behind : {v t : Kept} {a b : Step} → Grows v t → AlikeStep t a b → AlikeStep v a b
step_behind g h = record { ending = h.ending; count = h.count; state = h.state; grows = grows-trans g h.grows; snapshot = h.snapshot }

-- the state s is kept, and v is the state behind the events
completed_alike : {s t : State} {a b : Result} → KeepsState s t → (e : Ending) → AlikeResult s.kept a b → AlikeStep s.kept (completed s e a) (completed t e b)
completed_alike k e h = given_step _ _ (shape_fault_same h.out.keeps) (ends_with_alike e h) (λ reason a. stops_alike k (count_same h.out) reason)

saved_fault_same : (o p : Option Kept) → KeepsIf o p → SameOption Any (saved_fault o) (saved_fault p)
saved_fault_same None None h = none
saved_fault_same None (Some m) h = elim h [ ]
saved_fault_same (Some v) None h = elim h [ ]
saved_fault_same (Some v) (Some m) h = shape_fault_same h

finish_case : {s t : State} {a b : Result} {e f : End} {P : End → Type 0} → KeepsState s t → AlikeResult s.kept a b → Same P e f → AlikeStep s.kept (finish s a e) (finish t b f)
finish_case k h (same ends.Done a) = completed_alike k Steps h
finish_case k h (same (ends.Send selector args above) a) = completed_alike k Steps h
finish_case k h (same (ends.Return value local) a) = completed_alike k Steps h
finish_case k h (same ends.Entered a) = completed_alike k Steps h
finish_case k h (same (ends.Primitive method number) a) = completed_alike k Steps h
finish_case k h (same (ends.Call special args) a) = completed_alike k Steps h
finish_case k h (same ends.Answer a) = completed_alike k Steps h
finish_case k h (same ends.Fail a) = completed_alike k Steps h
finish_case k h (same ends.Quit a) = completed_alike k Quit h
finish_case {a = x} {b = y} k h (same ends.Snapshot a) = given_step _ _ (saved_fault_same x.snapshot y.snapshot h.snapshot) (completed_alike k Steps h) (λ reason c. stops_alike k (count_same h.out) reason)
finish_case k h (same (ends.Stopped reason) a) = stops_alike k (count_same h.out) reason

result_behind : {v t u : Kept} {a b : Result} → Moved v t u → AlikeResult t a b → AlikeResult v a b
result_behind s h = record { out = behind s h.out; run = h.run; snapshot = h.snapshot }

add_count_alike : {v : Kept} {a b : Step} {n l : Count} → Same Any n l → AlikeStep v a b → AlikeStep v (add_count n a) (add_count l b)
add_count_alike (same n s) h = record { ending = h.ending; count = ap (plus n) h.count; state = h.state; grows = h.grows; snapshot = h.snapshot }

-- ---- a step

pub bytecode_of_state : {s t : State} → KeepsState s t → AlikeResult s.kept (bytecode s) (bytecode t)
bytecode_of_state {s} {t} k = with_run k.kept (run_same k) where
  with_run : {v m : Kept} {r q : Run} → Keeps v m → Same Any r q → AlikeResult v (bytecode (record { kept = v; run = r })) (bytecode (record { kept = m; run = q }))
  with_run k (same r a) = bytecode_alike k r

ready_alike : {s t : State} {a b : Happened} → KeepsState s t → AlikeHappened s.kept a b → AlikeStep s.kept (ready s a) (ready t b)
ready_alike {s} {t} {a} {b} k h =
    let r = bytecode_of_state h.state in
    let w : AlikeResult s.kept (bytecode a.state) (bytecode b.state) = result_behind (record { keeps = h.state.kept; grows = h.grows }) r in
    if_step (is_idle_same h.state.kept)
    (record { ending = refl; count = h.count; state = h.state; grows = h.grows; snapshot = tt })
    (add_count_alike (same_by Any a.count b.count (sym h.count) tt) (finish_case k w (end_same w.out)))

after_due_alike : {s t : State} {a b : Happened} → KeepsState s t → AlikeHappened s.kept a b → AlikeStep s.kept (after_due s a) (after_due t b)
after_due_alike {s} {t} {a} {b} k h =
    given_step _ _ (plain (same_by Any (stop_in a.end) (stop_in b.end) (ap stop_in (sym h.end)) tt)) (ready_alike k h) (λ reason x. stops_alike k (same_by Any a.count b.count (sym h.count) tt) reason)

pub step_alike : {s t : State} → KeepsState s t → AlikeStep s.kept (step s) (step t)
unfolding step
step_alike k =
    if_step (value (λ r. nat_lt birth_limit r.next) (rest_same k.kept)) (stops_alike k (is no_count) why.BirthLimit) (after_due_alike k (due_alike k.kept (run_same k)))

-- ---- a run

all_keep-append : (vs ms us ns : List Kept) → AllKeep vs ms → AllKeep us ns → AllKeep (vs ++ us) (ms ++ ns)
all_keep-append [] [] us ns h g = g
all_keep-append [] (m ∷ ms) us ns h g = elim h [ ]
all_keep-append (v ∷ vs) [] us ns h g = elim h [ ]
all_keep-append (v ∷ vs) (m ∷ ms) us ns h g = (h.0, all_keep-append vs ms us ns h.1 g)

all_saved : (o p : Option Kept) → KeepsIf o p → AllKeep (saved o) (saved p)
all_saved None None h = tt
all_saved None (Some m) h = elim h [ ]
all_saved (Some v) None h = elim h [ ]
all_saved (Some v) (Some m) h = (h, tt)

-- what keeps a state that it steps from
abbrev pub Survives : (State → Step) → Type 0
Survives f = (s t : State) → KeepsState s t → AlikeStep s.kept (f s) (f t)

go_on_alike : {v : Kept} {a b : Ran} {e h : Ending} → (f : State → Step) → Survives f → AlikeRan v a b → Same Any e h → AlikeRan v (go_on f a e) (go_on f b h)
go_on_alike {v} {a} {b} f survives h (same Steps x) =
    let n = survives a.state b.state h.state in
    record {
      ending = n.ending;
      count = ap (plus a.count) n.count ∙ ap (λ c. plus c (f b.state).count) h.count;
      state = n.state;
      grows = grows-trans h.grows n.grows;
      snapshots = all_keep-append a.snapshots b.snapshots _ _ h.snapshots (all_saved (f a.state).snapshot (f b.state).snapshot n.snapshot);
    }
go_on_alike f survives h (same Quit x) = h
go_on_alike f survives h (same Idle x) = h
go_on_alike f survives h (same (Stopped reason) x) = h

-- a run by any such step
pub run_by_alike : {s t : State} (f : State → Step) → Survives f → (n : ℕ) → KeepsState s t → AlikeRan s.kept (run_by f n s) (run_by f n t)
unfolding run_by
run_by_alike f survives zero k = record { ending = refl; count = refl; state = k; grows = (unmoved k.kept).grows; snapshots = tt }
run_by_alike {s} {t} f survives (suc n) k =
    let h = run_by_alike f survives n k in
    go_on_alike f survives h (same_by Any (run_by f n s).ending (run_by f n t).ending (sym h.ending) tt)

pub run_alike : {s t : State} (n : ℕ) → KeepsState s t → AlikeRan s.kept (run n s) (run n t)
run_alike n k = run_by_alike step (λ s t h. step_alike h) n k
