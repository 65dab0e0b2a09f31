-- What a bytecode with all that it leads to does to a state.
use Rattle.std.proofs.Common.{◌≡◌, ℕ, ◌+◌, Bool, true, refl, ap, subst, Option, Some, None, unwrap_or, ◌⊎◌, inl, inr}
use Rattle.cs_model.specs.declared.stop.Stop.TheVariants as why
use Rattle.cs_model.specs.declared.instruction.Instr.{Instr}
use Rattle.cs_model.specs.Ref.{Ref}
use Rattle.cs_model.specs.State.{Kept, Run, State, Timer, IsHeld, special_at}
use Rattle.cs_model.specs.Read.{pc_of}
use Rattle.cs_model.specs.Operation.{set_pc_of}
use Rattle.cs_model.specs.Exec.{exec}
use Rattle.cs_model.specs.Send.{enter_out}
use Rattle.cs_model.specs.PrimRun.{Result, result}
use Rattle.cs_model.specs.PrimTable.{is_perform}
use Rattle.cs_model.specs.Step.{Message, message_in, return_in, primitive_in, call_in, is_fail, with_kept, result_counting, arguments_of, or_enter, try_performed, tried, try_primitive, sent, do_send, do_call, returned, do_return, followed, instruction_at, bytecode}
use Rattle.cs_model.specs.End.{End, Out, Count, out, stop, given}
use Rattle.cs_model.specs.End as ends
use Rattle.cs_model.specs.Keeps.{Keeps}
use Rattle.cs_model.specs.Alike.{Alike, AlikeResult}
use Rattle.cs_model.proofs.Same.{same, SameOption, none, option_holds, value}
use Rattle.cs_model.proofs.Reading.{held_if, special_at_same, pc_same}
use Rattle.cs_model.proofs.Operating.{set_pc_moved}
use Rattle.cs_model.proofs.Combining.{behind, end_same}
use Rattle.cs_model.proofs.Executing.{exec_alike}
use Rattle.cs_model.proofs.Sending.{send_alike}
use Rattle.cs_model.proofs.Returning.{back_alike}
use Rattle.cs_model.proofs.Tables.{prim_alike}
use Rattle.cs_model.proofs.Stepping.{message_in_same, return_in_same}
use Rattle.cs_model.proofs.Leading.{Sound, Leads, leads_trans}
use Rattle.cs_model.proofs.LeadCombining.{Runs, Ready, HasPrimitive, EndFits, Leading, stop_leading}
use Rattle.cs_model.proofs.LeadEntering.{primitive_entry}
use Rattle.cs_model.proofs.LeadSending.{enter_leading, message_leading}
use Rattle.cs_model.proofs.LeadReturning.{back_leading}
use Rattle.cs_model.proofs.LeadDecoding.{obey_leading, instruction_runs}
use Rattle.cs_model.proofs.LeadRun.{Led, result_led, if_led, given_led, held_on}
use Rattle.cs_model.proofs.LeadTable.{prim_led}

-- ---- what an end asks for

primitive_fits : {k : Kept} (e : End) (p : Ref × ℕ) → primitive_in e ≡ Some p → EndFits Runs k e → Runs k × HasPrimitive k p.0
primitive_fits ends.Done p e f = absurd (cc)
primitive_fits (ends.Send selector args above) p e f = absurd (cc)
primitive_fits (ends.Return x local) p e f = absurd (cc)
primitive_fits ends.Entered p e f = absurd (cc)
primitive_fits {k = k} (ends.Primitive method number) p e f = (f.0, subst (λ q. HasPrimitive k q.0) (pair_is e) f.1) where
  pair_is : Some (method, number) ≡ Some p → (method, number) ≡ p
  pair_is g = ap (λ o. unwrap_or o (method, number)) g
primitive_fits (ends.Call special args) p e f = absurd (cc)
primitive_fits ends.Answer p e f = absurd (cc)
primitive_fits ends.Fail p e f = absurd (cc)
primitive_fits ends.Quit p e f = absurd (cc)
primitive_fits ends.Snapshot p e f = absurd (cc)
primitive_fits (ends.Stopped reason) p e f = absurd (cc)

message_fits : {k : Kept} (e : End) (m : Message) → message_in e ≡ Some m → EndFits Runs k e → Runs k
message_fits ends.Done m e f = absurd (cc)
message_fits (ends.Send selector args above) m e f = f
message_fits (ends.Return x local) m e f = absurd (cc)
message_fits ends.Entered m e f = absurd (cc)
message_fits (ends.Primitive method number) m e f = absurd (cc)
message_fits (ends.Call special args) m e f = absurd (cc)
message_fits ends.Answer m e f = absurd (cc)
message_fits ends.Fail m e f = absurd (cc)
message_fits ends.Quit m e f = absurd (cc)
message_fits ends.Snapshot m e f = absurd (cc)
message_fits (ends.Stopped reason) m e f = absurd (cc)

return_fits : {k : Kept} (e : End) (p : Ref × Bool) → return_in e ≡ Some p → EndFits Runs k e → Runs k
return_fits ends.Done p e f = absurd (cc)
return_fits (ends.Send selector args above) p e f = absurd (cc)
return_fits (ends.Return x local) p e f = f
return_fits ends.Entered p e f = absurd (cc)
return_fits (ends.Primitive method number) p e f = absurd (cc)
return_fits (ends.Call special args) p e f = absurd (cc)
return_fits ends.Answer p e f = absurd (cc)
return_fits ends.Fail p e f = absurd (cc)
return_fits ends.Quit p e f = absurd (cc)
return_fits ends.Snapshot p e f = absurd (cc)
return_fits (ends.Stopped reason) p e f = absurd (cc)

call_fits : {k : Kept} (e : End) (c : ℕ × ℕ) → call_in e ≡ Some c → EndFits Runs k e → Runs k
call_fits ends.Done c e f = absurd (cc)
call_fits (ends.Send selector args above) c e f = absurd (cc)
call_fits (ends.Return x local) c e f = absurd (cc)
call_fits ends.Entered c e f = absurd (cc)
call_fits (ends.Primitive method number) c e f = absurd (cc)
call_fits (ends.Call special args) c e f = f
call_fits ends.Answer c e f = absurd (cc)
call_fits ends.Fail c e f = absurd (cc)
call_fits ends.Quit c e f = absurd (cc)
call_fits ends.Snapshot c e f = absurd (cc)
call_fits (ends.Stopped reason) c e f = absurd (cc)

-- the state at an end, in which a context is active
ready_at : {k : Kept} {o : Out} → Leading Runs k o → Runs o.state → Ready o.state
ready_at h r = record { sound = h.leads.sound; runs = r }

-- ---- the primitive of a method that was found

-- a timer from before some part of a step on
timer_on : {k : Kept} (l : Kept) (m n o : Option Timer) → Leads k l → ((t : Timer) → n ≡ Some t → (m ≡ Some t) ⊎ IsHeld k t.semaphore)
    → ((t : Timer) → o ≡ Some t → (n ≡ Some t) ⊎ IsHeld l t.semaphore) → (t : Timer) → o ≡ Some t → (m ≡ Some t) ⊎ IsHeld l t.semaphore
timer_on l m n o leads before after t e = elim (after t e) [
  | inl f ↦ elim (before t f) [ inl g ↦ inl g | inr g ↦ inr (held_on leads t.semaphore g) ]
  | inr f ↦ inr f
]

-- what an Out and then a result lead to
counting_led : {k : Kept} {r : Run} {o : Out} {a : Result} → Leading Runs k o → Led o.state r a → Led k r (result_counting o.count a)
counting_led h n = record { out = record { leads = leads_trans h.leads n.out.leads; fits = n.out.fits }; timer = n.timer }

-- the same behind a result
behind_led : {k : Kept} {r : Run} {a c : Result} → Led k r a → Led a.out.state a.run c → Led k r (result_counting a.out.count c)
behind_led {r = r} {a = a} {c = c} h n = record { out = record { leads = leads_trans h.out.leads n.out.leads; fits = n.out.fits }; timer = timer_on c.out.state r.timer a.run.timer c.run.timer n.out.leads h.timer n.timer }

entered_led : (s : State) (method : Ref) → Ready s.kept → HasPrimitive s.kept method → Led s.kept s.run (result (enter_out s.kept method (arguments_of s.kept method) true) s.run)
entered_led s method r p = result_led s.run s.run refl (enter_leading method (arguments_of s.kept method) true r (primitive_entry p))

or_enter_led : {a : Result} (s : State) (method : Ref) → Ready s.kept → HasPrimitive s.kept method → Led s.kept s.run a → Led s.kept s.run (or_enter s method a)
or_enter_led {a} s method r p h = if_led (is_fail a.out.end) (λ e. entered_led s method r p) (λ e. h)

try_performed_led : (s : State) (method : Ref) (number : ℕ) → Keeps s.kept s.kept → Ready s.kept → HasPrimitive s.kept method → Led s.kept s.run (try_performed s method number)
unfolding try_performed
try_performed_led s method number k r p =
    if_led (is_perform number) (λ e. entered_led s method r p) (λ e. or_enter_led s method r p (prim_led s number (arguments_of s.kept method) k r))

tried_led : {a : Result} (s : State) (method : Ref) → Ready s.kept → HasPrimitive s.kept method → AlikeResult s.kept a a → Led s.kept s.run a → Led s.kept s.run (tried s method a)
tried_led {a} s method r p twin h =
    given_led (primitive_in a.out.end) _ (or_enter_led s method r p h) (λ q e.
    let f = primitive_fits a.out.end q e h.out.fits in
    behind_led h (try_performed_led (with_kept a.out.state a.run) q.0 q.1 twin.out.keeps (ready_at h.out f.0) f.1))

pub try_primitive_led : (s : State) (method : Ref) (number : ℕ) → Keeps s.kept s.kept → Ready s.kept → HasPrimitive s.kept method → Led s.kept s.run (try_primitive s method number)
unfolding try_primitive
try_primitive_led s method number k r p =
    tried_led s method r p (prim_alike k s.run number (arguments_of s.kept method)) (prim_led s number (arguments_of s.kept method) k r)

-- ---- sends and returns

sent_led : {k : Kept} {o : Out} (r : Run) → Alike k o o → Leading Runs k o → Led k r (sent r o)
sent_led {o = o} r twin h =
    given_led (primitive_in o.end) _ (result_led r r refl h) (λ q e.
    let f = primitive_fits o.end q e h.fits in
    counting_led h (try_primitive_led (with_kept o.state r) q.0 q.1 twin.keeps (ready_at h f.0) f.1))

pub do_send_led : {k : Kept} (r : Run) (selector : Ref) (args : ℕ) (above : Option Ref) → Keeps k k → IsHeld k selector → SameOption (IsHeld k) above above → Ready k → Led k r (do_send r k selector args above)
unfolding do_send
do_send_led r selector args above k held held_above ready = sent_led r (send_alike k (same selector held) args held_above) (message_leading selector args above ready)

do_call_led : {k : Kept} (r : Run) (special args : ℕ) → Keeps k k → Ready k → Led k r (do_call r k special args)
do_call_led {k} r special args closed ready =
    given_led (special_at k special) _ (result_led r r refl (stop_leading ready.sound why.BadSpecial)) (λ selector e.
    do_send_led r selector args None closed (option_holds (special_at_same closed special) selector e) none ready)

returned_led : {k : Kept} {o : Out} (r : Run) → Alike k o o → Leading Runs k o → Led k r (returned r o)
returned_led {o = o} r twin h =
    given_led (call_in o.end) _ (result_led r r refl h) (λ c e. counting_led h (do_call_led r c.0 c.1 twin.keeps (ready_at h (call_fits o.end c e h.fits))))

pub do_return_led : {k : Kept} (r : Run) (value : Ref) (local : Bool) → Keeps k k → IsHeld k value → Ready k → Led k r (do_return r k value local)
unfolding do_return
do_return_led r value local k held ready = returned_led r (back_alike k (same value held) local) (back_leading value local ready)

-- ---- the bytecode

followed_led : {k : Kept} {o : Out} (r : Run) → Alike k o o → Leading Runs k o → Led k r (followed r o)
followed_led {o = o} r twin h =
    given_led (message_in o.end) _
    (given_led (return_in o.end) _ (result_led r r refl h) (λ p e.
    counting_led h (do_return_led r p.0 p.1 twin.keeps (option_holds (return_in_same o.state (end_same twin)) p e) (ready_at h (return_fits o.end p e h.fits)))))
    (λ m e. let held = option_holds (message_in_same o.state (end_same twin)) m e in
    counting_led h (do_send_led r m.selector m.args m.above twin.keeps held.0 (held_if twin.keeps m.above held.1) (ready_at h (message_fits o.end m e h.fits))))

-- what the instruction leads to, of both
obey_twin : {k : Kept} (i : Instr) → Keeps k k → Alike k (exec i.op (set_pc_of k (pc_of k + i.len))) (exec i.op (set_pc_of k (pc_of k + i.len)))
obey_twin {k} i closed = let s = set_pc_moved closed (value (λ pc. pc + i.len) (pc_same closed)) in behind s (exec_alike i.op s.keeps)

pub bytecode_led : (s : State) → Keeps s.kept s.kept → Sound s.kept → Led s.kept s.run (bytecode s)
unfolding bytecode
bytecode_led s closed sound =
    given_led (instruction_at s.kept) _ (result_led s.run s.run refl (stop_leading sound why.BadCode)) (λ i e.
    followed_led s.run (obey_twin i closed) (obey_leading i (record { sound = sound; runs = instruction_runs i sound e }) e))
