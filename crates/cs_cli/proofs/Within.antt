-- What a run that isn't stopped keeps of its objects fits the heap.
use Rattle.std.proofs.Common.{◌≡◌, ◌∙◌, ℕ, zero, suc, ◌+◌, ◌≤◌, Bool, true, false, if◌then◌else◌, List, Option, Some, None, inl, inr, refl, sym, ap, subst, arith, IsSome}
use Rattle.std.specs.FinMap.{get}
use Rattle.cs_classes.specs.Meaning.{objects_of}
use Rattle.cs_classes.proofs.Counting.{heap_words, words_by, words_by-less}
use Rattle.cs_model.specs.Demand.{words_taken}
use Rattle.cs_model.specs.Due.{is_left, without_context}
use Rattle.cs_model.specs.Obj.{Obj, is_context}
use Rattle.cs_model.specs.Operation.{suspend_of}
use Rattle.cs_model.specs.State.{Kept, object_at}
use Rattle.cs_acts.specs.Names.{Store}
use Rattle.cs_acts.specs.Ready.{Holds, IsSound}
use Rattle.cs_acts.specs.declared.act.Full.{Full as Why}
use Rattle.cs_acts.specs.declared.run.RunEnd.{RunEnd}
use Rattle.cs_acts.specs.declared.run.RunEnd.TheVariants.{Steps, Quit, Idle, Snapshot, Stopped, Full, WriteFault}
use Rattle.cs_core.specs.Deep.{state_of}
use Rattle.cs_core.specs.Running.{RunGives, RunReaches, StandsFor, UnlessBroken, as_kept, at_rest, ending_of}
use Rattle.cs_core.specs.VmParts.{Seen}
use Rattle.cs_model.specs.Step as model
use Rattle.cs_cli.specs.Answer.{Printed, Writing, answering, object_words_below, object_words_held, reported_ending, run_status, unless_context}

-- ---- words

words_by-objects : (n : ℕ) (k : Kept) → object_words_below n k ≡ words_by n (λ i. unless_context (object_at k i))
unfolding object_words_below words_by
words_by-objects zero k = refl
words_by-objects (suc n) k = ap (λ m. m + words_taken (unless_context (object_at k n))) (words_by-objects n k)

-- each object that is no context is in the heap
within_heap : (s : Store) (v m : Kept) → Holds s v → ((i : ℕ) (o : Obj) → object_at m i ≡ Some o → is_context o ≡ false → object_at v i ≡ Some o)
    → m.rest.next ≡ v.rest.next → object_words_held m ≤ s.memory.limit
within_heap s v m holds whole next =
    let n = m.rest.next in
    let heap : ℕ → Option Obj = λ i. get (objects_of s.memory.objects) i in
    let fewer : words_by n (λ i. unless_context (object_at m i)) ≤ words_by n heap = words_by-less n (λ i. unless_context (object_at m i)) heap (λ i. one i (object_at m i) refl) in
    let roots : n ≡ s.roots.next_birth = next ∙ sym (ap (λ r. r.next) holds.rest) in
    let all = heap_words s.memory.objects s.roots.next_birth holds.whole.heap.apart holds.whole.births holds.whole.heap.each in
    let same : words_by n heap ≡ words_by s.roots.next_birth heap = ap (λ b. words_by b heap) roots in
    omega (arith, words_by-objects n m, fewer, same, all, holds.within)
  where
    one : (i : ℕ) (o : Option Obj) → object_at m i ≡ o → words_taken (unless_context (object_at m i)) ≤ words_taken (get (objects_of s.memory.objects) i)
    one i None e = subst (λ x. words_taken (unless_context x) ≤ words_taken (get (objects_of s.memory.objects) i)) (sym e) (omega arith)
    one i (Some o) e = go (is_context o) refl where
      go : (t : Bool) → is_context o ≡ t → words_taken (unless_context (object_at m i)) ≤ words_taken (get (objects_of s.memory.objects) i)
      go true c =
          let none : words_taken (unless_context (object_at m i)) ≡ 0 = ap (λ x. words_taken (unless_context x)) e ∙ ap (λ t. words_taken (if t then None else Some o)) c in
          omega (arith, none)
      go false c =
          let mine : words_taken (unless_context (object_at m i)) ≡ words_taken (Some o) = ap (λ x. words_taken (unless_context x)) e ∙ ap (λ t. words_taken (if t then None else Some o)) c in
          let there : words_taken (get (objects_of s.memory.objects) i) ≡ words_taken (Some o) = ap words_taken (holds.back i o (whole i o e c) c) in
          omega (arith, mine, there)

-- ---- the state of a run

-- a state without its active context has the same objects
objects_left : (v : Kept) (i : ℕ) → object_at (without_context v) i ≡ object_at v i
unfolding suspend_of
objects_left v i = go (is_left v) refl where
  go : (t : Bool) → is_left v ≡ t → object_at (without_context v) i ≡ object_at v i
  go true e = rw e refl
  go false e = rw e refl

next_left : (v : Kept) → (without_context v).rest.next ≡ v.rest.next
unfolding suspend_of
next_left v = go (is_left v) refl where
  go : (t : Bool) → is_left v ≡ t → (without_context v).rest.next ≡ v.rest.next
  go true e = rw e refl
  go false e = rw e refl

stands_within : (s : Store) (v m : Kept) → IsSound s v → StandsFor v m → object_words_held m ≤ s.memory.limit
stands_within s v m sound (as_kept keeps) = within_heap s v m sound.holds keeps.whole (ap (λ r. r.next) (sym keeps.rest))
stands_within s v m sound (at_rest idle keeps) =
    within_heap s v m sound.holds (λ i o e c. sym (objects_left v i) ∙ keeps.whole i o e c) (ap (λ r. r.next) (sym keeps.rest) ∙ next_left v)

-- a run that isn't stopped
abbrev pub IsWithin : ℕ → model.Ending → Kept → Type 0
IsWithin limit model.Steps k = object_words_held k ≤ limit
IsWithin limit model.Quit k = object_words_held k ≤ limit
IsWithin limit model.Idle k = object_words_held k ≤ limit
IsWithin limit (model.Stopped reason) k = Unit {0}

-- has the status 0, unless the sink fails
pub zero_within : (limit : ℕ) (e : model.Ending) (m : Kept) (out : Writing) (text : List ℕ) (status : ℕ) → IsWithin limit e m
    → Printed (answering (run_status e) text) out status → status ≡ 0 → object_words_held m ≤ limit
zero_within limit model.Steps m out text status within printed none = within
zero_within limit model.Quit m out text status within printed none = within
zero_within limit model.Idle m out text status within printed none = within
zero_within limit (model.Stopped reason) m out text status within (inl (is, written)) none = absurd (omega (arith, is, none))
zero_within limit (model.Stopped reason) m out text status within (inr (is, rose, part)) none = absurd (omega (arith, is, none))

-- a run that isn't broken off has an end of the model
pub record HasEnded (k : Kept) (n : ℕ) (old new : Option (List ℕ)) (b : Seen) (end : RunEnd) : Type 0 where
  pub reported : IsSome (ending_of end)
  pub reaches : RunReaches k 0 n old new b (reported_ending end)
  pub within : IsWithin b.stored.memory.limit (reported_ending end) (state_of k n)

pub has_ended : (k : Kept) (n : ℕ) (old new : Option (List ℕ)) (a b : Seen) (end : RunEnd) → ((why : Why) → end ≡ Full why → ⊥) → (end ≡ WriteFault → ⊥) → RunGives k 0 n old new a b end
    → UnlessBroken end (IsSound b.stored b.view) → HasEnded k n old new b end
has_ended k n old new a b Steps room sink h sound = record { reported = refl; reaches = h.0; within = stands_within b.stored b.view (state_of k n) sound h.1.world }
has_ended k n old new a b Quit room sink h sound = absurd h
has_ended k n old new a b Idle room sink h sound = record { reported = refl; reaches = h.0; within = stands_within b.stored b.view (state_of k n) sound h.1.world }
has_ended k n old new a b Snapshot room sink h sound = absurd h
has_ended k n old new a b (Stopped reason) room sink h sound = record { reported = refl; reaches = h.0; within = tt }
has_ended k n old new a b (Full why) room sink h sound = absurd (room why refl)
has_ended k n old new a b WriteFault room sink h sound = absurd (sink refl)
