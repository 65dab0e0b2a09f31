-- Events are alike.
use Rattle.std.proofs.Common.{ℕ, ◌+◌, ◌-◌, ◌||◌, Bool, true, false, refl, sym, ap, ◌∙◌, ◌≡◌, ◌&&◌, is_some, Option, Some, None, List, [], ◌∷◌, nat_lt, nat_le, if◌then◌else◌}
use Rattle.cs_model.specs.declared.event.Event.{Event}
use Rattle.cs_model.specs.declared.event.EventKind.{EventKind}
use Rattle.cs_model.specs.declared.event.EventKind.TheVariants as kind
use Rattle.cs_model.specs.Ref.{Ref}
use Rattle.cs_model.specs.State.{Kept, Run, State, Timer, IsHeld}
use Rattle.cs_model.specs.PrimRun.{with_timer}
use Rattle.cs_model.specs.Due.{external_semaphores, external_at, signal_external, due_timer, Happened, happened, with_out, fire, with_clock, add_input, happen, with_events, is_idle_at, is_idle, is_left, without_context, left_count, event_passed, and_then_due, due_of, due}
use Rattle.cs_model.specs.End.{Out, Count, no_count, is_done, plus}
use Rattle.cs_model.specs.Keeps.{Keeps, KeepsState}
use Rattle.cs_model.specs.Alike.{Alike, AlikeHappened}
use Rattle.cs_model.proofs.Same.{Same, same, SameOption, none, some, Any, is, value, two, and_then_same, if_option, same_by}
use Rattle.cs_model.proofs.Keeping.{Moved, unmoved, choose_moved, grows-trans}
use Rattle.cs_model.proofs.Reading.{rest_same, is_nil_same, special_at_same, object_of_same, slots_in_same, slice_same, active_process_same}
use Rattle.cs_model.proofs.Operating.{suspend_moved}
use Rattle.cs_model.proofs.Combining.{done_alike, given_alike, if_alike}
use Rattle.cs_model.proofs.Scheduling.{signal_alike, signal_any}
use Rattle.cs_model.proofs.Processing.{is_semaphore_same}

external_at_same : {v m : Kept} → Keeps v m → (n : ℕ) → SameOption (IsHeld v) (external_at v n) (external_at m n)
external_at_same k n =
    if_option (is (nat_lt 0 n)) (and_then_same (special_at_same k external_semaphores) (λ x h. and_then_same (slots_in_same (object_of_same k (same x h))) (λ slots g. slice_same (n - 1) (same slots g)))) none

pub signal_external_alike : {v m : Kept} → Keeps v m → (n : ℕ) → Alike v (signal_external v n) (signal_external m n)
unfolding signal_external
signal_external_alike k n =
    given_alike _ _ (external_at_same k n) (done_alike (unmoved k)) (λ x h. if_alike (is_semaphore_same k (same x h)) (signal_alike k (same x h)) (done_alike (unmoved k)))

happened_alike : {v m : Kept} → Keeps v m → (r : Run) → AlikeHappened v (happened (record { kept = v; run = r })) (happened (record { kept = m; run = r }))
happened_alike k r = record { end = refl; count = refl; state = record { kept = k; run = refl }; grows = (unmoved k).grows }

with_out_alike : {v : Kept} {a b : Out} → (r : Run) → Alike v a b → AlikeHappened v (with_out r a) (with_out r b)
with_out_alike r h = record { end = h.end; count = h.count; state = record { kept = h.keeps; run = refl }; grows = h.grows }

fire_alike : {v m : Kept} → Keeps v m → (r : Run) (o : Option Timer) → AlikeHappened v (fire v r o) (fire m r o)
fire_alike k r None = happened_alike k r
fire_alike k r (Some t) = with_out_alike (with_timer None r) (signal_any k t.semaphore)

pub happen_alike : {v m : Kept} (e : EventKind) → Keeps v m → (r : Run) → AlikeHappened v (happen e v r) (happen e m r)
happen_alike (kind.Signal n) k r = with_out_alike r (signal_external_alike k n)
happen_alike (kind.Clock moment) k r = fire_alike k (with_clock moment r) (due_timer (with_clock moment r))
happen_alike (kind.Byte b) k r = happened_alike k (add_input b r)

-- ---- all that are due

is_idle_at_same : {v m : Kept} {o p : Option Ref} → Keeps v m → SameOption (IsHeld v) o p → Same Any (is_idle_at v o) (is_idle_at m p)
is_idle_at_same k none = same false tt
is_idle_at_same k (some p h) = is_nil_same k (is p)

pub is_idle_same : {v m : Kept} → Keeps v m → Same Any (is_idle v) (is_idle m)
unfolding is_idle
is_idle_same k = is_idle_at_same k (active_process_same k)

pub if_happened : {v : Kept} {P : Bool → Type 0} {c d : Bool} {a b x y : Happened} → Same P c d → AlikeHappened v a b → AlikeHappened v x y → AlikeHappened v (if c then a else x) (if d then b else y)
if_happened (same true h) s t = s
if_happened (same false h) s t = t

pub run_same : {s t : State} → KeepsState s t → Same Any s.run t.run
run_same {s} {t} h = same_by Any s.run t.run (sym h.run) tt

pub is_left_same : {v m : Kept} → Keeps v m → Same Any (is_left v) (is_left m)
is_left_same k = two (λ b r. b && is_some r.active) (is_idle_same k) (rest_same k)

pub without_context_moved : {v m : Kept} → Keeps v m → Moved v (without_context v) (without_context m)
without_context_moved k = choose_moved (is_left_same k) (suspend_moved k) (unmoved k)

pub left_counted : {x y : Bool} {n l : Count} → Same Any x y → Same Any n l → plus n (if x then record { objects = 0; contexts = 0; looks = 1 } else no_count) ≡ plus l (if y then record { objects = 0; contexts = 0; looks = 1 } else no_count)
left_counted (same x c) (same n d) = refl

go_on_alike : {v : Kept} {a b : Happened} (f g : State → Happened) → AlikeHappened v a b → ((t u : Kept) (r q : Run) → Keeps t u → Same Any r q → AlikeHappened t (f (record { kept = t; run = r })) (g (record { kept = u; run = q }))) → AlikeHappened v (and_then_due a f) (and_then_due b g)
go_on_alike {v} {a} {b} f g h next =
    let w = without_context_moved h.state.kept in
    let n = next _ _ _ _ w.keeps (run_same h.state) in
    let c = left_counted (is_left_same h.state.kept) (same_by Any a.count b.count (sym h.count) tt) in
    if_happened (same_by Any (is_done a.end) (is_done b.end) (ap is_done (sym h.end)) tt)
    (record {
      end = n.end;
      count = ap (plus (plus a.count (left_count a.state.kept))) n.count ∙ ap (λ c. plus c (g (event_passed b)).count) c;
      state = n.state;
      grows = grows-trans h.grows (grows-trans w.grows n.grows);
    })
    h

pub due_of_alike : (es : List Event) {v m : Kept} {r q : Run} → Keeps v m → Same Any r q → AlikeHappened v (due_of es (record { kept = v; run = r })) (due_of es (record { kept = m; run = q }))
unfolding due_of
due_of_alike [] k (same r a) = happened_alike k (with_events [] r)
due_of_alike (e ∷ es) k (same r a) =
    if_happened (value (λ b. nat_le e.before (r.steps + 1) || b) (is_idle_same k))
    (go_on_alike (λ t. due_of es t) (λ t. due_of es t) (happen_alike e.kind k (with_events es r)) (λ t u p q l s. due_of_alike es l s))
    (happened_alike k (with_events (e ∷ es) r))

pub due_alike : {v m : Kept} {r q : Run} → Keeps v m → Same Any r q → AlikeHappened v (due (record { kept = v; run = r })) (due (record { kept = m; run = q }))
unfolding due
due_alike k (same r a) = due_of_alike r.events k (same r a)
