-- Behind the opening of an image the scheduler names the process that it named, and that is a process still.
use Rattle.std.proofs.Common.{◌≡◌, ◌≢◌, ℕ, Bool, true, false, refl, sym, ap, subst, ◌∙◌, Option, Some, None, is_some, List, [], ◌∷◌, length, option_and_then, arith, inl, inr}
use Rattle.std.specs.Prelude.{◌&&◌, not, nat_le, slice_get, slice_set, if◌then◌else◌}
use Rattle.std.proofs.lemmas.Bool.Decides.{eqb_tells, nat_tests}
use Rattle.cs_model.specs.Ref.{Ref, Small, Char, named_object}
use Rattle.cs_model.specs.Ref as ref
use Rattle.cs_model.specs.Obj.{Ctx, Method, Obj, Ptr, Raw, at_least, slots_in, Head}
use Rattle.cs_model.specs.State.{Kept, active_process, is_nil, object_at, put, scheduler_of, slots_of, special_at}
use Rattle.cs_model.specs.Read.{IsRunning, active_context}
use Rattle.cs_model.specs.Operation as operation
use Rattle.cs_model.specs.Operation.{edit_found, nil_of, resume_of, store_of}
use Rattle.cs_model.specs.Settle.{context_kept, open_at, open_if, open_kept}
use Rattle.cs_model.specs.Due.{is_idle, is_idle_at}
use Rattle.cs_model.specs.Step.{is_process, is_ref, process_fault, shape_fault}
use Rattle.cs_model.proofs.Objects.{object_at-put_other, object_at-put_same}

-- the context that a process keeps is active, and the process keeps nil
abbrev taken_of : Kept → Ref → Kept
taken_of k p = open_at k p (option_and_then (λ x. named_object x) (context_kept k p))

-- ---- the process and the context that it keeps

record Suspended (k : Kept) (j i : ℕ) : Type 0 where
  head : Head
  slots : List Ref
  there : object_at k j ≡ Some (Ptr head slots)
  wide : nat_le 4 (length slots) ≡ true
  keeps : slice_get slots 1 ≡ Some (ref.Obj i)

suspended_at : (k : Kept) (j i : ℕ) (o : Option Obj) → object_at k j ≡ o → option_and_then (λ s. slice_get s 1) (at_least 4 (slots_in o)) ≡ Some (ref.Obj i) → Suspended k j i
suspended_at k j i None e h = absurd (cc)
suspended_at k j i (Some (Raw head bytes)) e h = absurd (cc)
suspended_at k j i (Some (Method head header literals bytecodes)) e h = absurd (cc)
suspended_at k j i (Some (Ctx c)) e h = absurd (cc)
suspended_at k j i (Some (Ptr head slots)) e h = by_width (nat_le 4 (length slots)) refl h
  where
    by_width : (b : Bool) → nat_le 4 (length slots) ≡ b → option_and_then (λ s. slice_get s 1) (if b then Some slots else None) ≡ Some (ref.Obj i) → Suspended k j i
    by_width false w g = absurd (cc)
    by_width true w g = record { head = head; slots = slots; there = e; wide = w; keeps = g }

suspended : (k : Kept) (p : Ref) (i : ℕ) → context_kept k p ≡ Some (ref.Obj i) → (j : ℕ) × (p ≡ ref.Obj j) × Suspended k j i
unfolding slots_of
suspended k (Small a) i h = absurd (cc)
suspended k (Char c) i h = absurd (cc)
suspended k (ref.Obj j) i h = (j, refl, suspended_at k j i (object_at k j) refl h)

-- ---- lists

third-set : (xs : List Ref) (x : Ref) → slice_get (slice_set xs 1 x) 3 ≡ slice_get xs 3
third-set [] x = refl
third-set (a ∷ []) x = refl
third-set (a ∷ b ∷ xs) x = refl

length-set_one : (xs : List Ref) (x : Ref) → length (slice_set xs 1 x) ≡ length xs
length-set_one [] x = refl
length-set_one (a ∷ []) x = refl
length-set_one (a ∷ b ∷ xs) x = refl

wide_enough : (n : ℕ) → nat_le 4 n ≡ true → nat_le 2 n ≡ true
wide_enough n h = grind (arith, nat_tests)

-- ---- what is read behind the opening

abbrev third : Option Obj → Option Ref
third o = option_and_then (λ s. slice_get s 3) (slots_in o)

abbrev one_of : Kept → Ref → Option Ref
one_of k y = option_and_then (λ s. slice_get s 1) (slots_of k 2 y)

is_ref-false : (o : Option Ref) (j : ℕ) → o ≢ Some (ref.Obj j) → is_ref o (ref.Obj j) ≡ false
is_ref-false None j apart = refl
is_ref-false (Some (Small a)) j apart = refl
is_ref-false (Some (Char c)) j apart = refl
is_ref-false (Some (ref.Obj i)) j apart = elim (eqb_tells i j) [
  | inl e ↦ absurd (apart (ap (λ n. Some (ref.Obj n)) e.1))
  | inr e ↦ e.0
]

-- a chain of slots 1 from an option on
one_behind : (k t : Kept) (j : ℕ) (o : Option Ref) → o ≢ Some (ref.Obj j) → ((y : Ref) → y ≢ ref.Obj j → one_of t y ≡ one_of k y) → option_and_then (λ y. one_of t y) o ≡ option_and_then (λ y. one_of k y) o
one_behind k t j None apart stay = refl
one_behind k t j (Some y) apart stay = stay y (λ e. apart (ap (λ z. Some z) e))

module _ {k : Kept} {j i : ℕ} (p : Suspended k j i) where
  emptied : Obj
  emptied = Ptr p.head (slice_set p.slots 1 (nil_of k))

  after : Kept
  after = resume_of (put k j emptied) i

  taken-after : context_kept k (ref.Obj j) ≡ Some (ref.Obj i) → taken_of k (ref.Obj j) ≡ after
  unfolding store_of after emptied
  taken-after e = ap (λ o. open_at k (ref.Obj j) (option_and_then (λ y. named_object y) o)) e
      ∙ ap (λ o. resume_of (edit_found (operation.with_slot 1 (nil_of k)) j o k) i) p.there

  process_after : object_at after j ≡ Some emptied
  unfolding resume_of after
  process_after = object_at-put_same k j emptied

  other_after : (b : ℕ) → b ≢ j → object_at after b ≡ object_at k b
  unfolding resume_of after
  other_after b apart = object_at-put_other k j b emptied apart

  third_after : (b : ℕ) → third (object_at after b) ≡ third (object_at k b)
  unfolding emptied
  third_after b = elim (eqb_tells b j) [
    | inl e ↦ ap (λ n. third (object_at after n)) e.1 ∙ ap third process_after ∙ third-set p.slots (nil_of k) ∙ ap third (sym p.there) ∙ ap (λ n. third (object_at k n)) (sym e.1)
    | inr e ↦ ap third (other_after b e.1)
  ]

  one_after : (y : Ref) → y ≢ ref.Obj j → one_of after y ≡ one_of k y
  unfolding slots_of
  one_after (Small a) apart = refl
  one_after (Char c) apart = refl
  one_after (ref.Obj b) apart = ap (λ o. option_and_then (λ s. slice_get s 1) (at_least 2 (slots_in o))) (other_after b (λ e. apart (ap (λ n. ref.Obj n) e)))

  one_process : one_of k (ref.Obj j) ≡ Some (ref.Obj i)
  unfolding slots_of
  one_process = ap (λ o. option_and_then (λ s. slice_get s 1) (at_least 2 (slots_in o))) p.there
      ∙ ap (λ b. option_and_then (λ s. slice_get s 1) (if b then Some p.slots else None)) (wide_enough (length p.slots) p.wide) ∙ p.keeps

  slots_after : is_some (slots_of after 4 (ref.Obj j)) ≡ true
  unfolding slots_of emptied
  slots_after = ap (λ o. is_some (at_least 4 (slots_in o))) process_after
      ∙ ap (λ n. is_some (if nat_le 4 n then Some (slice_set p.slots 1 (nil_of k)) else None)) (length-set_one p.slots (nil_of k))
      ∙ ap (λ b. is_some (if b then Some (slice_set p.slots 1 (nil_of k)) else None)) p.wide

  module _ (running : IsRunning after) (named : active_process k ≡ Some (ref.Obj j)) where
    context_there : object_at after i ≡ Some (Ctx (active_context after))
    unfolding resume_of after
    context_there = running.found

    apart : i ≢ j
    unfolding emptied
    apart e =
        let is : Some (Ctx (active_context after)) ≡ Some emptied = sym context_there ∙ ap (object_at after) e ∙ process_after in
        absurd (cc)

    no_slots : one_of k (ref.Obj i) ≡ None
    unfolding slots_of
    no_slots = ap (λ o. option_and_then (λ s. slice_get s 1) (at_least 2 (slots_in o))) (sym (other_after i apart) ∙ context_there)

    -- what holds the scheduler is another object: its slot 1 would be the context, and that has no slots
    no_link : special_at k 3 ≢ Some (ref.Obj j)
    unfolding active_process scheduler_of
    no_link e =
        let scheduler : scheduler_of k ≡ Some (ref.Obj i) = ap (option_and_then (one_of k)) e ∙ one_process in
        let none : active_process k ≡ None = ap (option_and_then (one_of k)) scheduler ∙ no_slots in
        let no : Some (ref.Obj j) ≡ None = sym named ∙ none in cc

    -- so is the scheduler: its slot 1 is the process
    no_scheduler : scheduler_of k ≢ Some (ref.Obj j)
    unfolding active_process
    no_scheduler e =
        let itself : Some (ref.Obj j) ≡ Some (ref.Obj i) = sym named ∙ ap (option_and_then (one_of k)) e ∙ one_process in
        apart (sym (cc))

    special_after : special_at after 3 ≡ special_at k 3
    unfolding special_at resume_of put after
    special_after = third_after k.rest.special

    scheduler_after : scheduler_of after ≡ scheduler_of k
    unfolding scheduler_of
    scheduler_after = ap (option_and_then (one_of after)) special_after ∙ one_behind k after j (special_at k 3) no_link one_after

    active_after : active_process after ≡ Some (ref.Obj j)
    unfolding active_process
    active_after = ap (option_and_then (one_of after)) scheduler_after ∙ one_behind k after j (scheduler_of k) no_scheduler one_after ∙ named

    nil_after : is_nil after (ref.Obj j) ≡ is_nil k (ref.Obj j)
    unfolding resume_of put after
    nil_after = refl

    process_still : is_process after (ref.Obj j) ≡ true
    process_still =
        ap (λ b. b && not (is_ref (scheduler_of after) (ref.Obj j)) && not (is_ref (special_at after 3) (ref.Obj j))) slots_after
        ∙ ap (λ o. not (is_ref o (ref.Obj j)) && not (is_ref (special_at after 3) (ref.Obj j))) scheduler_after
        ∙ ap (λ b. not b && not (is_ref (special_at after 3) (ref.Obj j))) (is_ref-false (scheduler_of k) j no_scheduler)
        ∙ ap (λ o. not (is_ref o (ref.Obj j))) special_after
        ∙ ap not (is_ref-false (special_at k 3) j no_link)

    idle_after : is_idle after ≡ is_nil k (ref.Obj j)
    unfolding is_idle
    idle_after = ap (is_idle_at after) active_after ∙ nil_after

    shape_after : is_nil k (ref.Obj j) ≡ false → shape_fault after ≡ None
    unfolding shape_fault
    shape_after other = ap (process_fault after) active_after ∙ rw (nil_after ∙ other, process_still) refl

-- ---- the opened state

pub record Scheduled (k t : Kept) : Type 0 where
  pub idle : is_idle t ≡ is_idle k
  pub shape : shape_fault t ≡ None

pub scheduled : (k : Kept) → k.rest.active ≡ None → (is_idle k ≡ false → IsRunning (open_kept k)) → Scheduled k (open_kept k)
unfolding is_idle open_kept shape_fault
scheduled k closed running = go (active_process k) refl
  where
    not_running : IsRunning k → ⊥
    not_running r = let no = sym closed ∙ r.known in cc

    by_context : (p : Ref) → active_process k ≡ Some p → is_nil k p ≡ false → IsRunning (taken_of k p) → (o : Option Ref) → context_kept k p ≡ o → Scheduled k (taken_of k p)
    by_context p e other r None h = absurd (not_running (subst (λ o. IsRunning (open_at k p (option_and_then (λ x. named_object x) o))) h r))
    by_context p e other r (Some (Small a)) h = absurd (not_running (subst (λ o. IsRunning (open_at k p (option_and_then (λ x. named_object x) o))) h r))
    by_context p e other r (Some (Char c)) h = absurd (not_running (subst (λ o. IsRunning (open_at k p (option_and_then (λ x. named_object x) o))) h r))
    by_context p e other r (Some (ref.Obj i)) h =
        let s = suspended k p i h in
        let taken : taken_of k p ≡ after s.2 = ap (taken_of k) s.1 ∙ taken-after s.2 (ap (context_kept k) (sym s.1) ∙ h) in
        let runs = subst IsRunning taken r in
        let named = e ∙ ap (λ q. Some q) s.1 in
        record {
          idle = ap is_idle taken ∙ idle_after s.2 runs named ∙ sym (ap (is_idle_at k) named);
          shape = ap shape_fault taken ∙ shape_after s.2 runs named (ap (is_nil k) (sym s.1) ∙ other);
        }

    by_nil : (p : Ref) → active_process k ≡ Some p → (b : Bool) → is_nil k p ≡ b → Scheduled k (open_kept k)
    by_nil p e true n =
        let same : open_kept k ≡ k = ap (open_if k) e ∙ ap (λ b. if b then k else taken_of k p) n in
        record { idle = ap is_idle same; shape = ap shape_fault same ∙ ap (process_fault k) e ∙ rw n refl }
    by_nil p e false n =
        let same : open_kept k ≡ taken_of k p = ap (open_if k) e ∙ ap (λ b. if b then k else taken_of k p) n in
        subst (Scheduled k) (sym same) (by_context p e n (subst IsRunning same (running (ap (is_idle_at k) e ∙ n))) (context_kept k p) refl)

    go : (o : Option Ref) → active_process k ≡ o → Scheduled k (open_kept k)
    go None e = absurd (not_running (subst IsRunning (ap (open_if k) e) (running (ap (is_idle_at k) e))))
    go (Some p) e = by_nil p e (is_nil k p) refl
