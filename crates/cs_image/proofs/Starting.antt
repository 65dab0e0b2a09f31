-- A sound state in which no context is active, and which can be opened, is valid once it is opened.
use Rattle.std.proofs.Common.{◌≡◌, ◌≢◌, ℕ, leb, Bool, true, false, cond, List, [], ◌∷◌, length, Option, Some, None, IsSome, is_some, refl, ap, sym, subst, ◌∙◌, arith, inl, inr, slice_get, option_and_then}
use Rattle.std.specs.List.{slice_set}
use Rattle.std.proofs.lemmas.Bool.Decides.{eqb_tells, nat_tests}
use Rattle.cs_model.specs.declared.event.Event.{Event}
use Rattle.cs_model.specs.Ref.{Ref, Small, Char, same_ref}
use Rattle.cs_model.specs.Ref as ref
use Rattle.cs_model.specs.Obj.{Obj, Ptr, Ctx, slots_in, context_in, at_least}
use Rattle.cs_model.specs.State.{Kept, Run, IsValid, IsProcess, IsLive, object_at, object_of, put, slots_of, special_at, scheduler_of, active_process, is_nil}
use Rattle.cs_model.specs.Operation.{nil_of, resume_of}
use Rattle.cs_model.specs.Settle.{new_run, open_if, open_kept, opened}
use Rattle.cs_model.specs.Due.{is_idle, is_idle_at}
use Rattle.cs_model.specs.Keeps.{Keeps}
use Rattle.cs_model.proofs.Objects.{object_at-put_same, object_at-put_other}
use Rattle.cs_model.proofs.Running.{open_moved}
use Rattle.cs_model.proofs.Leading.{Sound}
use Rattle.cs_model.proofs.LeadOperation.{length-slice_set, resume_leads, store_leads, store-live}
use Rattle.cs_image.proofs.Opening.{CanOpen, CanStart, opened_is, stored, stored_is}

-- all that a valid state asks for before it is opened
pub record Sleeps (k : Kept) : Type 0 where
  pub sound : Sound k
  pub closed : Keeps k k
  pub process : IsSome (active_process k)
  pub none : k.rest.active ≡ None

both : {A : Type 0} → false ≡ true → A
both e = absurd (cc)

some_same : {A : Type 0} (x y : A) → Some x ≡ Some y → x ≡ y
some_same x y e = cc

-- ---- with no process active nothing changes

idle_same : (k : Kept) → is_idle k ≡ true → open_kept k ≡ k
unfolding is_idle open_kept
idle_same k e = go (active_process k) e
  where
    go : (o : Option Ref) → is_idle_at k o ≡ true → open_if k o ≡ k
    go None e = both e
    go (Some p) e = rw e refl

idle_by : (k : Kept) (p : Ref) → active_process k ≡ Some p → is_nil k p ≡ is_idle k
unfolding is_idle
idle_by k p e = ap (is_idle_at k) (sym e)

idle_valid : (k : Kept) (q : Run) → Sleeps k → q.timer ≡ None → is_idle k ≡ true → IsValid (record { kept = k; run = q })
idle_valid k q s off idle = record {
  below = s.sound.below;
  held = s.closed.closed;
  roots = s.closed.roots;
  timer = λ t e. absurd (cc (sym off ∙ e));
  pcs = s.sound.pcs;
  indices = s.sound.indices;
  table = λ index i e. (s.sound.table index i e).plain;
  hidden = s.sound.hidden;
  bare = s.sound.bare;
  scheduler = s.process;
  process = λ p e filled. both (sym filled ∙ idle_by k p e ∙ idle);
  idle = λ p e. (λ h. s.none, λ h. idle_by k p e ∙ idle);
  live = s.sound.live;
}

-- ---- how the active process is read

-- slot 3 of an object, and slot 1 of one with two slots
abbrev third : Option Obj → Option Ref
third o = option_and_then (λ s. slice_get s 3) (slots_in o)

abbrev second : Option Obj → Option Ref
second o = option_and_then (λ s. slice_get s 1) (at_least 2 (slots_in o))

abbrev second_of : Kept → Ref → Option Ref
second_of k x = second (object_of k x)

scheduler_read : (k : Kept) → scheduler_of k ≡ option_and_then (second_of k) (special_at k 3)
unfolding scheduler_of slots_of
scheduler_read k = refl

process_read : (k : Kept) → active_process k ≡ option_and_then (second_of k) (scheduler_of k)
unfolding active_process slots_of
process_read k = refl

-- ---- the process that keeps a context

record Wide (k : Kept) (r : CanOpen k) : Type 0 where
  four : leb 4 (length r.slots) ≡ true
  one : slice_get r.slots 1 ≡ Some (ref.Obj r.i)

wide : (k : Kept) (r : CanOpen k) → Wide k r
unfolding slots_of
wide k r = go (leb 4 (length r.slots)) refl (ap (λ (o : Option Obj). option_and_then (λ s. slice_get s 1) (at_least 4 (slots_in o))) (sym r.process) ∙ r.keeps)
  where
    go : (b : Bool) → leb 4 (length r.slots) ≡ b → option_and_then (λ s. slice_get s 1) (cond b (Some r.slots) None) ≡ Some (ref.Obj r.i) → Wide k r
    go true long e = record { four = long; one = e }
    go false long e = absurd (cc)

from_slots : (xs : List Ref) (x : Ref) → slice_get xs 1 ≡ Some x → option_and_then (λ s. slice_get s 1) (at_least 2 (Some xs)) ≡ Some x
from_slots [] x e = absurd (cc)
from_slots (a ∷ []) x e = absurd (cc)
from_slots (a ∷ b ∷ xs) x e =
    let two : leb 2 (length (a ∷ b ∷ xs)) ≡ true = grind (arith, nat_tests) in
    ap (λ (c : Bool). option_and_then (λ s. slice_get s 1) (cond c (Some (a ∷ b ∷ xs)) None)) two ∙ e

-- slot 1 of the process names a context, and a context has no slots
process_second : (k : Kept) (r : CanOpen k) → second_of k (ref.Obj r.p) ≡ Some (ref.Obj r.i)
process_second k r = ap second r.process ∙ from_slots r.slots (ref.Obj r.i) (wide k r).one

context_second : (k : Kept) (r : CanOpen k) → second_of k (ref.Obj r.i) ≡ None
context_second k r = ap second r.found

-- so the process is neither special 3 nor the scheduler
no_link : (k : Kept) (r : CanOpen k) → special_at k 3 ≢ Some (ref.Obj r.p)
no_link k r e =
    let scheduler : scheduler_of k ≡ Some (ref.Obj r.i) = scheduler_read k ∙ ap (option_and_then (second_of k)) e ∙ process_second k r in
    let none : active_process k ≡ None = process_read k ∙ ap (option_and_then (second_of k)) scheduler ∙ context_second k r in
    absurd (cc (sym none ∙ r.active))

no_scheduler : (k : Kept) (r : CanOpen k) → scheduler_of k ≢ Some (ref.Obj r.p)
no_scheduler k r e =
    let process : active_process k ≡ Some (ref.Obj r.i) = process_read k ∙ ap (option_and_then (second_of k)) e ∙ process_second k r in
    let same : r.p ≡ r.i = one_birth r.p r.i (some_same (ref.Obj r.p) (ref.Obj r.i) (sym r.active ∙ process)) in
    let wrong : Some (Ptr r.head r.slots) ≡ Some (Ctx r.context) = sym r.process ∙ ap (object_at k) same ∙ r.found in
    absurd (cc)
  where
    one_birth : (i j : ℕ) → ref.Obj i ≡ ref.Obj j → i ≡ j
    one_birth i j e = cc

-- ---- the opened state

woken : (k : Kept) → CanOpen k → Kept
woken k r = resume_of (put k r.p (stored k r)) r.i

woken_is : (k : Kept) (r : CanOpen k) → is_nil k (ref.Obj r.p) ≡ false → open_kept k ≡ woken k r
unfolding woken
woken_is k r filled = opened_is k r filled ∙ ap (λ (t : Kept). resume_of t r.i) (stored_is k r)

woken_same : (k : Kept) (r : CanOpen k) → object_at (woken k r) r.p ≡ Some (stored k r)
unfolding woken resume_of
woken_same k r = object_at-put_same k r.p (stored k r)

woken_other : (k : Kept) (r : CanOpen k) (j : ℕ) → j ≢ r.p → object_at (woken k r) j ≡ object_at k j
unfolding woken resume_of
woken_other k r j apart = object_at-put_other k r.p j (stored k r) apart

past_one : (xs : List Ref) (x : Ref) → slice_get (slice_set xs 1 x) 3 ≡ slice_get xs 3
past_one [] x = refl
past_one (a ∷ []) x = refl
past_one (a ∷ b ∷ xs) x = refl

woken_special : (k : Kept) (r : CanOpen k) → special_at (woken k r) 3 ≡ special_at k 3
unfolding special_at woken resume_of put stored
woken_special k r = elim (eqb_tells k.rest.special r.p) [
  | inl e ↦ ap (λ n. third (object_at (woken k r) n)) e.1
      ∙ ap third (woken_same k r)
      ∙ past_one r.slots (nil_of k)
      ∙ ap third (sym r.process)
      ∙ ap (λ n. third (object_at k n)) (sym e.1)
  | inr e ↦ ap third (woken_other k r k.rest.special e.1)
]

woken_second : (k : Kept) (r : CanOpen k) (x : Ref) → x ≢ ref.Obj r.p → second_of (woken k r) x ≡ second_of k x
woken_second k r (Small a) apart = refl
woken_second k r (Char c) apart = refl
woken_second k r (ref.Obj j) apart = ap second (woken_other k r j (λ e. apart (ap (λ n. ref.Obj n) e)))

-- slot 1 of what an option names, which isn't the process
behind : (k : Kept) (r : CanOpen k) (o : Option Ref) → o ≢ Some (ref.Obj r.p) → option_and_then (second_of (woken k r)) o ≡ option_and_then (second_of k) o
behind k r None apart = refl
behind k r (Some x) apart = woken_second k r x (λ e. apart (ap (λ y. Some y) e))

woken_scheduler : (k : Kept) (r : CanOpen k) → scheduler_of (woken k r) ≡ scheduler_of k
woken_scheduler k r = scheduler_read (woken k r) ∙ ap (option_and_then (second_of (woken k r))) (woken_special k r) ∙ behind k r (special_at k 3) (no_link k r) ∙ sym (scheduler_read k)

woken_process : (k : Kept) (r : CanOpen k) → active_process (woken k r) ≡ Some (ref.Obj r.p)
woken_process k r = process_read (woken k r) ∙ ap (option_and_then (second_of (woken k r))) (woken_scheduler k r) ∙ behind k r (scheduler_of k) (no_scheduler k r) ∙ sym (process_read k) ∙ r.active

woken_slots : (k : Kept) (r : CanOpen k) → IsSome (slots_of (woken k r) 4 (ref.Obj r.p))
unfolding slots_of stored
woken_slots k r = ap (λ (o : Option Obj). is_some (at_least 4 (slots_in o))) (woken_same k r)
    ∙ ap (λ (n : ℕ). is_some (cond (leb 4 n) (Some (slice_set r.slots 1 (nil_of k))) None)) (length-slice_set r.slots 1 (nil_of k))
    ∙ ap (λ (b : Bool). is_some (cond b (Some (slice_set r.slots 1 (nil_of k))) None)) (wide k r).four

is_process : (k : Kept) (r : CanOpen k) → IsProcess (woken k r) (ref.Obj r.p)
is_process k r = record {
  slots = woken_slots k r;
  no_scheduler = λ e. no_scheduler k r (sym (woken_scheduler k r) ∙ e);
  no_link = λ e. no_link k r (sym (woken_special k r) ∙ e);
}

woken_sound : (k : Kept) (r : CanOpen k) → Sound k → Sound (woken k r)
unfolding woken
woken_sound k r s =
    let p : Ref = ref.Obj r.p in
    let live : IsLive k r.i = ap (λ (o : Option Obj). is_some (option_and_then (λ c. c.pc) (context_in o))) r.found ∙ ap is_some r.live in
    let goes = resume_leads r.i (store_leads p 1 (nil_of k) s).sound (store-live k p 1 (nil_of k) r.i live) in
    subst (λ (t : Kept). Sound (resume_of t r.i)) (stored_is k r) goes.sound

woken_active : (k : Kept) (r : CanOpen k) → (woken k r).rest.active ≡ Some r.i
unfolding woken resume_of
woken_active k r = refl

woken_nil : (k : Kept) (r : CanOpen k) (x : Ref) → is_nil (woken k r) x ≡ is_nil k x
unfolding woken resume_of put
woken_nil k r x = refl

woken_valid : (k : Kept) (r : CanOpen k) (q : Run) → Sound (woken k r) → Keeps (woken k r) (woken k r) → is_nil k (ref.Obj r.p) ≡ false → q.timer ≡ None → IsValid (record { kept = woken k r; run = q })
woken_valid k r q s closed filled off = record {
  below = s.below;
  held = closed.closed;
  roots = closed.roots;
  timer = λ t e. absurd (cc (sym off ∙ e));
  pcs = s.pcs;
  indices = s.indices;
  table = λ index i e. (s.table index i e).plain;
  hidden = s.hidden;
  bare = s.bare;
  scheduler = ap is_some (woken_process k r);
  process = λ p e apart. subst (IsProcess (woken k r)) (one p e) (is_process k r);
  idle = λ p e. (
    λ h. both (sym filled ∙ ap (is_nil k) (one p e) ∙ sym (woken_nil k r p) ∙ h),
    λ h. absurd (cc (sym (woken_active k r) ∙ h)),
  );
  live = s.live;
}
  where
    one : (p : Ref) → active_process (woken k r) ≡ Some p → ref.Obj r.p ≡ p
    one p e = some_same (ref.Obj r.p) p (sym (woken_process k r) ∙ e)

-- ---- the whole

pub opened_valid : (k : Kept) (events : List Event) (snapping : Bool) → Sleeps k → (is_idle k ≡ false → CanStart k) → IsValid (opened k events snapping)
unfolding opened
opened_valid k events snapping s busy = go (is_idle k) refl
  where
    q : Run
    q = new_run events snapping

    P : Kept → Type 0
    P t = IsValid (record { kept = t; run = q })

    go : (b : Bool) → is_idle k ≡ b → P (open_kept k)
    go true idle = subst P (sym (idle_same k idle)) (idle_valid k q s refl idle)
    go false awake =
        let c = busy awake in
        let is = woken_is k c.can c.filled in
        let closed : Keeps (open_kept k) (open_kept k) = (open_moved s.closed).keeps in
        subst P (sym is) (woken_valid k c.can q (woken_sound k c.can s.sound) (subst (λ (t : Kept). Keeps t t) is closed) c.filled refl)
