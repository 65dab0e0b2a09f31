-- The laws of whole states, in plain words.
use Rattle.std.proofs.Common.{◌≡◌, ◌∙◌, ℕ, Bool, refl, sym, ap, Option, List, ◌++◌, codes}
use Rattle.cs_model.specs.declared.event.Event.{Event}
use Rattle.cs_model.specs.Ref.{Ref}
use Rattle.cs_model.specs.State.{Kept, Run, State, IsHeld, IsValid}
use Rattle.cs_model.specs.PrimTable.{prim}
use Rattle.cs_model.specs.Due.{due}
use Rattle.cs_model.specs.Step.{Ending, try_primitive, do_send, do_return, bytecode, step, run}
use Rattle.cs_model.specs.Built.{built_step, built_run}
use Rattle.cs_model.specs.Report.{report_line, place_of, report_of}
use Rattle.cs_model.specs.Settle.{opened}
use Rattle.cs_model.specs.Keeps.{Keeps, KeepsState}
use Rattle.cs_model.specs.Alike.{AlikeResult, AlikeHappened, AlikeStep, AlikeRan, IsHeldIf}
use Rattle.cs_model.proofs.Reading.{held_if}
use Rattle.cs_model.proofs.Same.{Same, same, Any}
use Rattle.cs_model.proofs.Agreeing.{place_of-kept}
use Rattle.cs_model.proofs.Tables.{prim_alike}
use Rattle.cs_model.proofs.Running.{open_moved}
use Rattle.cs_model.proofs.Happening.{run_same, due_alike}
use Rattle.cs_model.proofs.Stepping.{try_primitive_alike, do_send_alike, do_return_alike, bytecode_of_state, step_alike, run_alike}
use Rattle.cs_model.proofs.Building.{built_step_alike, built_run_alike}

pub prim-alike : (s t : State) (number args : ℕ) → KeepsState s t → AlikeResult s.kept (prim number args s) (prim number args t)
prim-alike s t number args k = with_run k.kept (run_same k) where
  with_run : {v m : Kept} {r q : Run} → Keeps v m → Same Any r q → AlikeResult v (prim number args (record { kept = v; run = r })) (prim number args (record { kept = m; run = q }))
  with_run k (same r a) = prim_alike k r number args

pub try_primitive-alike : (s t : State) (x : Ref) (number : ℕ) → KeepsState s t → IsHeld s.kept x → AlikeResult s.kept (try_primitive s x number) (try_primitive t x number)
try_primitive-alike s t x number k h = with_run k.kept (run_same k) h where
  with_run : {v m : Kept} {r q : Run} → Keeps v m → Same Any r q → IsHeld v x → AlikeResult v (try_primitive (record { kept = v; run = r }) x number) (try_primitive (record { kept = m; run = q }) x number)
  with_run k (same r a) h = try_primitive_alike k r (same x h) number

pub do_send-alike : (v m : Kept) (r : Run) (x : Ref) (args : ℕ) (above : Option Ref) → Keeps v m → IsHeld v x → IsHeldIf v above → AlikeResult v (do_send r v x args above) (do_send r m x args above)
do_send-alike v m r x args above k h g = do_send_alike k r (same x h) args (held_if k above g)

pub do_return-alike : (v m : Kept) (r : Run) (x : Ref) (local : Bool) → Keeps v m → IsHeld v x → AlikeResult v (do_return r v x local) (do_return r m x local)
do_return-alike v m r x local k h = do_return_alike k r (same x h) local

pub due-alike : (s t : State) → KeepsState s t → AlikeHappened s.kept (due s) (due t)
due-alike s t k = due_alike k.kept (run_same k)

pub bytecode-alike : (s t : State) → KeepsState s t → AlikeResult s.kept (bytecode s) (bytecode t)
bytecode-alike s t k = bytecode_of_state k

pub step-alike : (s t : State) → KeepsState s t → AlikeStep s.kept (step s) (step t)
step-alike s t k = step_alike k

pub run-alike : (n : ℕ) (s t : State) → KeepsState s t → AlikeRan s.kept (run n s) (run n t)
run-alike n s t k = run_alike n k

pub built_step-alike : (s t : State) → KeepsState s t → AlikeStep s.kept (built_step s) (built_step t)
built_step-alike s t k = built_step_alike k

pub built_run-alike : (n : ℕ) (s t : State) → KeepsState s t → AlikeRan s.kept (built_run n s) (built_run n t)
built_run-alike n s t k = built_run_alike n k

pub opened-keeps : (v m : Kept) (events : List Event) (snapping : Bool) → Keeps v m → KeepsState (opened v events snapping) (opened m events snapping)
unfolding opened
opened-keeps v m events snapping k = record { kept = (open_moved k).keeps; run = refl }

pub report_of-kept : (s t : State) (e : Ending) → KeepsState s t → report_of t e ≡ report_of s e
unfolding report_of
report_of-kept s t e k = ap (λ r. codes "\n" ++ report_line e r.steps (place_of t.kept)) (sym k.run)
    ∙ ap (λ p. codes "\n" ++ report_line e s.run.steps p) (place_of-kept s.kept t.kept k.kept)

-- a valid state is closed
pub valid-keeps : (s : State) → IsValid s → KeepsState s s
valid-keeps s valid = record {
  kept = record { same = λ i o h. h; whole = λ i o h not_context. h; closed = valid.held; roots = valid.roots; rest = refl };
  run = refl;
}

-- keeping survives each of these
pub ruleset states_alike = (prim-alike, try_primitive-alike, do_send-alike, do_return-alike, due-alike, bytecode-alike, step-alike, run-alike, built_step-alike, built_run-alike, opened-keeps)
