-- What an operation leads to, and one lemma for each way in which definitions are composed.
use Rattle.std.proofs.Common.{◌≡◌, ℕ, Bool, true, false, refl, sym, ap, ◌∙◌, Option, Some, None, IsSome, is_some, unwrap_or, if◌then◌else◌}
use Rattle.cs_model.specs.declared.stop.Stop.{Stop}
use Rattle.cs_model.specs.Ref.{Ref}
use Rattle.cs_model.specs.Obj.{Obj, Ptr, Raw, Method, Ctx, context_in, header_in, bytecodes_in, primitive_number}
use Rattle.cs_model.specs.State.{Kept, object_at, object_of, active_process, is_nil}
use Rattle.cs_model.specs.Read.{blank_context, active_birth, active_context}
use Rattle.cs_model.specs.End.{End, Out, Count, out, done, stop, counting, made, made_context, looked, given, is_done, and_then}
use Rattle.cs_model.specs.End as ends
use Rattle.cs_model.proofs.Leading.{Sound, Leads, leads_itself, leads_trans, pc_in}

-- ---- a context is active

pub record Runs (k : Kept) : Type 0 where
  pub active : IsSome k.rest.active

pub record Ready (k : Kept) : Type 0 where
  pub sound : Sound k
  pub runs : Runs k

pub record Goes (k t : Kept) : Type 0 where
  pub leads : Leads k t
  pub runs : Runs t

pub goes_itself : {k : Kept} → Ready k → Goes k k
goes_itself r = record { leads = leads_itself r.sound; runs = r.runs }

pub goes_trans : {k t u : Kept} → Goes k t → Goes t u → Goes k u
goes_trans a b = record { leads = leads_trans a.leads b.leads; runs = b.runs }

pub ready_behind : {k t : Kept} → Goes k t → Ready t
ready_behind g = record { sound = g.leads.sound; runs = g.runs }

pub goes_by : {k t : Kept} → Leads k t → Runs k → t.rest.active ≡ k.rest.active → Goes k t
goes_by l r e = record { leads = l; runs = record { active = ap is_some e ∙ r.active } }

known_is : (o : Option ℕ) (n : ℕ) → IsSome o → o ≡ Some (unwrap_or o n)
known_is None n h = absurd (cc)
known_is (Some i) n h = refl

pub active_known : {k : Kept} → Runs k → k.rest.active ≡ Some (active_birth k)
active_known {k} r = known_is k.rest.active k.rest.nil r.active

found_is : (o : Option Obj) → IsSome (pc_in o) → o ≡ Some (Ctx (unwrap_or (context_in o) blank_context))
found_is None h = absurd (cc)
found_is (Some (Ptr head slots)) h = absurd (cc)
found_is (Some (Raw head bytes)) h = absurd (cc)
found_is (Some (Method head header literals bytecodes)) h = absurd (cc)
found_is (Some (Ctx c)) h = refl

-- the active context is there
pub active_found : {k : Kept} → Ready k → object_at k (active_birth k) ≡ Some (Ctx (active_context k))
unfolding active_context
active_found {k} r = found_is (object_at k (active_birth k)) (r.sound.live (active_birth k) (active_known r.runs))

-- and it is live
pub active_live : {k : Kept} → Ready k → IsSome (active_context k).pc
active_live {k} r = ap (λ o. is_some (pc_in o)) (sym (active_found r)) ∙ r.sound.live (active_birth k) (active_known r.runs)

-- ---- ends

-- a method whose primitive can be tried, and that can be entered behind it
pub record HasPrimitive (k : Kept) (method : Ref) : Type 0 where
  pub number : ℕ
  pub is : primitive_number (header_in (object_of k method)) (bytecodes_in (object_of k method)) ≡ Some number

-- where no context is active, no process is, unless the scheduler has lost its shape
pub record Settled (k : Kept) : Type 0 where
  pub idle : k.rest.active ≡ None → (p : Ref) → active_process k ≡ Some p → is_nil k p ≡ true

pub runs_settled : {k : Kept} → Runs k → Settled k
runs_settled r = record { idle = λ e p h. absurd (none_active (sym (ap is_some e) ∙ r.active)) } where
  none_active : false ≡ true → ⊥
  none_active e = cc

pub record Anything (k : Kept) : Type 0 where

-- What holds of the state at an end: P where all is done, a context is active where a message or a value is on its way or a primitive
-- refuses, and what stands at the end of a step.
abbrev pub EndFits : (Kept → Type 0) → Kept → End → Type 0
EndFits P k ends.Done = P k
EndFits P k (ends.Send selector args above) = Runs k
EndFits P k (ends.Return value local) = Runs k
EndFits P k ends.Entered = Settled k
EndFits P k (ends.Primitive method number) = Runs k × HasPrimitive k method
EndFits P k (ends.Call special args) = Runs k
EndFits P k ends.Answer = Settled k
EndFits P k ends.Fail = Runs k
EndFits P k ends.Quit = Settled k
EndFits P k ends.Snapshot = Settled k
EndFits P k (ends.Stopped reason) = Unit {0}

pub record Leading (P : Kept → Type 0) (k : Kept) (o : Out) : Type 0 where
  pub leads : Leads k o.state
  pub fits : EndFits P o.state o.end

-- ---- composition

pub out_leading : {P : Kept → Type 0} {k t : Kept} (e : End) → Leads k t → EndFits P t e → Leading P k (out e t)
out_leading e l f = record { leads = l; fits = f }

pub done_leading : {P : Kept → Type 0} {k t : Kept} → Leads k t → P t → Leading P k (done t)
done_leading l p = record { leads = l; fits = p }

pub done_goes : {k t : Kept} → Goes k t → Leading Runs k (done t)
done_goes g = record { leads = g.leads; fits = g.runs }

pub stop_leading : {P : Kept → Type 0} {k : Kept} → Sound k → (reason : Stop) → Leading P k (stop reason k)
stop_leading s reason = record { leads = leads_itself s; fits = tt }

pub stop_behind : {P : Kept → Type 0} {k t : Kept} → Leads k t → (reason : Stop) → Leading P k (stop reason t)
stop_behind l reason = record { leads = l; fits = tt }

pub fail_leading : {P : Kept → Type 0} {k : Kept} → Ready k → Leading P k (out ends.Fail k)
fail_leading r = record { leads = leads_itself r.sound; fits = r.runs }

pub behind : {P : Kept → Type 0} {k t : Kept} {o : Out} → Leads k t → Leading P t o → Leading P k o
behind l h = record { leads = leads_trans l h.leads; fits = h.fits }

pub counting_leading : {P : Kept → Type 0} {k : Kept} {o : Out} (n : Count) → Leading P k o → Leading P k (counting n o)
counting_leading n h = record { leads = h.leads; fits = h.fits }

pub made_leading : {P : Kept → Type 0} {k : Kept} {o : Out} (n : ℕ) → Leading P k o → Leading P k (made n o)
unfolding made
made_leading n h = record { leads = h.leads; fits = h.fits }

pub made_context_leading : {P : Kept → Type 0} {k : Kept} {o : Out} (n : ℕ) → Leading P k o → Leading P k (made_context n o)
unfolding made_context
made_context_leading n h = record { leads = h.leads; fits = h.fits }

pub looked_leading : {P : Kept → Type 0} {k : Kept} {o : Out} → Leading P k o → Leading P k (looked o)
unfolding looked
looked_leading h = record { leads = h.leads; fits = h.fits }

pub given_leading : {P : Kept → Type 0} {k : Kept} {A : Type 0} (o : Option A) {a : Out} (f : A → Out) → Leading P k a → ((x : A) → o ≡ Some x → Leading P k (f x)) → Leading P k (given o a f)
given_leading None f n s = n
given_leading (Some x) f n s = s x refl

pub if_leading : {P : Kept → Type 0} {k : Kept} (b : Bool) {x y : Out} → (b ≡ true → Leading P k x) → (b ≡ false → Leading P k y) → Leading P k (if b then x else y)
if_leading true s t = s refl
if_leading false s t = t refl

-- an end other than Done speaks of no P
pub other_end : (P Q : Kept → Type 0) (k : Kept) (e : End) → is_done e ≡ false → EndFits P k e → EndFits Q k e
other_end P Q k ends.Done h f = absurd (cc)
other_end P Q k (ends.Send selector args above) h f = f
other_end P Q k (ends.Return value local) h f = f
other_end P Q k ends.Entered h f = f
other_end P Q k (ends.Primitive method number) h f = f
other_end P Q k (ends.Call special args) h f = f
other_end P Q k ends.Answer h f = f
other_end P Q k ends.Fail h f = f
other_end P Q k ends.Quit h f = f
other_end P Q k ends.Snapshot h f = f
other_end P Q k (ends.Stopped reason) h f = f

pub done_end : (P : Kept → Type 0) (k : Kept) (e : End) → is_done e ≡ true → EndFits P k e → P k
done_end P k ends.Done h f = f
done_end P k (ends.Send selector args above) h f = absurd (cc)
done_end P k (ends.Return value local) h f = absurd (cc)
done_end P k ends.Entered h f = absurd (cc)
done_end P k (ends.Primitive method number) h f = absurd (cc)
done_end P k (ends.Call special args) h f = absurd (cc)
done_end P k ends.Answer h f = absurd (cc)
done_end P k ends.Fail h f = absurd (cc)
done_end P k ends.Quit h f = absurd (cc)
done_end P k ends.Snapshot h f = absurd (cc)
done_end P k (ends.Stopped reason) h f = absurd (cc)

pub and_then_leading : {P Q : Kept → Type 0} {k : Kept} {a : Out} (f : Kept → Out) → Leading P k a → ((t : Kept) → Leads k t → P t → Leading Q t (f t)) → Leading Q k (and_then a f)
unfolding and_then
and_then_leading {P} {Q} {k} {a} f h next = go (is_done a.end) refl where
  go : (b : Bool) → is_done a.end ≡ b → Leading Q k (if b then counting a.count (f a.state) else a)
  go true e = counting_leading a.count (behind h.leads (next a.state h.leads (done_end P a.state a.end e h.fits)))
  go false e = record { leads = h.leads; fits = other_end P Q a.state a.end e h.fits }

-- behind what leaves a context active
pub and_then_goes : {k : Kept} {a : Out} {Q : Kept → Type 0} (f : Kept → Out) → Leading Runs k a → ((t : Kept) → Ready t → Leads k t → Leading Q t (f t)) → Leading Q k (and_then a f)
and_then_goes f h next = and_then_leading f h (λ t l r. next t (record { sound = l.sound; runs = r }) l)

-- less is known
pub weaker : {P Q : Kept → Type 0} {k : Kept} {o : Out} → ((t : Kept) → P t → Q t) → Leading P k o → Leading Q k o
weaker {P} {Q} {k} {o} w h = record { leads = h.leads; fits = go (is_done o.end) refl } where
  done_fits : (t : Kept) (e : End) → is_done e ≡ true → Q t → EndFits Q t e
  done_fits t ends.Done h q = q
  done_fits t (ends.Send selector args above) h q = absurd (cc)
  done_fits t (ends.Return value local) h q = absurd (cc)
  done_fits t ends.Entered h q = absurd (cc)
  done_fits t (ends.Primitive method number) h q = absurd (cc)
  done_fits t (ends.Call special args) h q = absurd (cc)
  done_fits t ends.Answer h q = absurd (cc)
  done_fits t ends.Fail h q = absurd (cc)
  done_fits t ends.Quit h q = absurd (cc)
  done_fits t ends.Snapshot h q = absurd (cc)
  done_fits t (ends.Stopped reason) h q = absurd (cc)

  go : (b : Bool) → is_done o.end ≡ b → EndFits Q o.state o.end
  go true e = done_fits o.state o.end e (w o.state (done_end P o.state o.end e h.fits))
  go false e = other_end P Q o.state o.end e h.fits

pub settled_leading : {k : Kept} {o : Out} → Leading Runs k o → Leading Settled k o
settled_leading h = weaker (λ t r. runs_settled r) h
