-- A state that is settled and opened again is as it was, but for the place where its active process keeps a context.
use Rattle.std.proofs.Common.{◌≡◌, ◌≢◌, ℕ, suc, Bool, true, false, refl, sym, ap, subst, ◌∙◌, Option, Some, None, IsSome, List, [], ◌∷◌, length, unwrap_or, option_and_then, nat_le, if◌then◌else◌, ◌↔◌, inl, inr}
use Rattle.std.specs.Prelude.{slice_get, slice_set}
use Rattle.std.proofs.lemmas.Bool.Decides.{eqb_tells}
use Rattle.cs_model.specs.Ref.{Ref, Small, Char, named_object}
use Rattle.cs_model.specs.Ref as ref
use Rattle.cs_model.specs.Obj.{Obj, Head, Ptr, Raw, Method, Ctx, slots_in, at_least}
use Rattle.cs_model.specs.State.{Kept, Rest, State, object_at, object_of, put, with_rest, slots_of, special_at, scheduler_of, active_process, is_nil, IsValid, IsProcess}
use Rattle.cs_model.specs.Read.{active_birth}
use Rattle.cs_model.specs.Operation.{edit_found, with_slot, store_of, resume_of, suspend_of, nil_of, activate}
use Rattle.cs_model.specs.declared.event.Event.{Event}
use Rattle.cs_model.specs.Settle.{opened, settled, new_run, context_kept, open_at, open_if, open_kept, settle_if, settle_kept}
use Rattle.cs_model.specs.PrimRun.{forget, forgotten}
use Rattle.cs_model.specs.Keeps.{SameKept}
use Rattle.cs_model.proofs.Objects.{object_at-put_same, object_at-put_other}

-- ---- lists

slice_get-other : {A : Type 0} (xs : List A) (x : A) (n : ℕ) → slice_get (slice_set xs 1 x) (suc (suc n)) ≡ slice_get xs (suc (suc n))
slice_get-other [] x n = refl
slice_get-other (a ∷ []) x n = refl
slice_get-other (a ∷ b ∷ xs) x n = refl

length-slice_set : {A : Type 0} (xs : List A) (x : A) → length (slice_set xs 1 x) ≡ length xs
length-slice_set [] x = refl
length-slice_set (a ∷ []) x = refl
length-slice_set (a ∷ b ∷ xs) x = refl

slice_get-same : {A : Type 0} (xs : List A) (x : A) → nat_le 4 (length xs) ≡ true → slice_get (slice_set xs 1 x) 1 ≡ Some x
slice_get-same [] x h = absurd (cc)
slice_get-same (a ∷ []) x h = absurd (cc)
slice_get-same (a ∷ b ∷ xs) x h = refl

slice_set-twice : {A : Type 0} (xs : List A) (x y : A) → slice_set (slice_set xs 1 x) 1 y ≡ slice_set xs 1 y
slice_set-twice [] x y = refl
slice_set-twice (a ∷ []) x y = refl
slice_set-twice (a ∷ b ∷ xs) x y = refl

-- ---- the active process

-- the pointer object of four slots or more that stands at a birth
record Stands (k : Kept) (j : ℕ) : Type 0 where
  head : Head
  slots : List Ref
  there : object_at k j ≡ Some (Ptr head slots)
  wide : nat_le 4 (length slots) ≡ true

stands_at : (k : Kept) (j : ℕ) (o : Option Obj) → object_at k j ≡ o → IsSome (at_least 4 (slots_in o)) → Stands k j
stands_at k j None e h = absurd (cc)
stands_at k j (Some (Ptr head slots)) e h = record { head = head; slots = slots; there = e; wide = wide_if (nat_le 4 (length slots)) h } where
  wide_if : (b : Bool) → IsSome (if b then Some slots else None) → b ≡ true
  wide_if true g = refl
  wide_if false g = absurd (cc)
stands_at k j (Some (Raw head bytes)) e h = absurd (cc)
stands_at k j (Some (Method head header literals bytecodes)) e h = absurd (cc)
stands_at k j (Some (Ctx c)) e h = absurd (cc)

stands : (k : Kept) (p : Ref) → IsSome (slots_of k 4 p) → (j : ℕ) × (p ≡ ref.Obj j) × Stands k j
unfolding slots_of
stands k (Small a) h = absurd (cc)
stands k (Char c) h = absurd (cc)
stands k (ref.Obj j) h = (j, refl, stands_at k j (object_at k j) refl h)

-- that object with another value in its slot 1
with_one : {k : Kept} {j : ℕ} → Stands k j → Ref → Obj
with_one a x = Ptr a.head (slice_set a.slots 1 x)

stored-is : {k : Kept} {j : ℕ} (a : Stands k j) (x : Ref) → store_of k (ref.Obj j) 1 x ≡ put k j (with_one a x)
unfolding store_of with_one
stored-is {k} {j} a x = ap (λ o. edit_found (with_slot 1 x) j o k) a.there

-- ---- what is read behind the store

other_stays : (k : Kept) (j : ℕ) (o : Obj) (y : Ref) → y ≢ ref.Obj j → object_of (put k j o) y ≡ object_of k y
other_stays k j o (Small a) apart = refl
other_stays k j o (Char c) apart = refl
other_stays k j o (ref.Obj i) apart = object_at-put_other k j i o (λ e. apart (ap (λ n. ref.Obj n) e))

-- slot 3 of any object
third_stays : {k : Kept} {j : ℕ} (a : Stands k j) (x : Ref) (b : ℕ) → option_and_then (λ s. slice_get s 3) (slots_in (object_at (put k j (with_one a x)) b)) ≡ option_and_then (λ s. slice_get s 3) (slots_in (object_at k b))
unfolding with_one
third_stays {k} {j} a x b = elim (eqb_tells b j) [
  | inl e ↦ ap (λ n. option_and_then (λ s. slice_get s 3) (slots_in (object_at (put k j (with_one a x)) n))) e.1
      ∙ ap (λ o. option_and_then (λ s. slice_get s 3) (slots_in o)) (object_at-put_same k j (with_one a x))
      ∙ slice_get-other a.slots x 1
      ∙ ap (λ o. option_and_then (λ s. slice_get s 3) (slots_in o)) (sym a.there)
      ∙ ap (λ n. option_and_then (λ s. slice_get s 3) (slots_in (object_at k n))) (sym e.1)
  | inr e ↦ ap (λ o. option_and_then (λ s. slice_get s 3) (slots_in o)) (object_at-put_other k j b (with_one a x) e.1)
]

-- slot 1 of what a reference names, where that isn't the process
one_of : Kept → Ref → Option Ref
one_of k y = option_and_then (λ s. slice_get s 1) (slots_of k 2 y)

one_stays : (k : Kept) (r : Rest) (j : ℕ) (o : Obj) (y : Ref) → y ≢ ref.Obj j → one_of (with_rest r (put k j o)) y ≡ one_of k y
unfolding one_of slots_of
one_stays k r j o y apart = ap (λ q. option_and_then (λ s. slice_get s 1) (at_least 2 (slots_in q))) (rest_apart y ∙ other_stays k j o y apart) where
  rest_apart : (y : Ref) → object_of (with_rest r (put k j o)) y ≡ object_of (put k j o) y
  rest_apart (Small a) = refl
  rest_apart (Char c) = refl
  rest_apart (ref.Obj i) = refl

-- a chain of slots 1 from an option on
one_behind : (k t : Kept) (j : ℕ) (o : Option Ref) → o ≢ Some (ref.Obj j) → ((y : Ref) → y ≢ ref.Obj j → one_of t y ≡ one_of k y) → option_and_then (λ y. one_of t y) o ≡ option_and_then (λ y. one_of k y) o
one_behind k t j None apart stay = refl
one_behind k t j (Some y) apart stay = stay y (λ e. apart (ap (λ z. Some z) e))

-- the process is stored into, and the active context changes
changed : {k : Kept} {j : ℕ} → Stands k j → Ref → Option ℕ → Kept
changed {k} {j} a x active = with_rest (activate active k.rest) (put k j (with_one a x))

process_stays : {k : Kept} {j : ℕ} (a : Stands k j) (x : Ref) (active : Option ℕ) → IsProcess k (ref.Obj j) → active_process (changed a x active) ≡ active_process k
unfolding changed active_process scheduler_of special_at one_of
process_stays {k} {j} a x active process =
    let t = changed a x active in
    let special : special_at t 3 ≡ special_at k 3 = third_stays a x k.rest.special in
    let stay = λ (y : Ref) (apart : y ≢ ref.Obj j). one_stays k (activate active k.rest) j (with_one a x) y apart in
    let scheduler : scheduler_of t ≡ scheduler_of k = ap (λ o. option_and_then (λ y. one_of t y) o) special ∙ one_behind k t j (special_at k 3) process.no_link stay in
    ap (λ o. option_and_then (λ y. one_of t y) o) scheduler ∙ one_behind k t j (scheduler_of k) process.no_scheduler stay

kept_there : {k : Kept} {j : ℕ} (a : Stands k j) (x : Ref) (active : Option ℕ) → context_kept (changed a x active) (ref.Obj j) ≡ Some x
unfolding changed slots_of with_one
kept_there {k} {j} a x active =
    ap (λ o. option_and_then (λ s. slice_get s 1) (at_least 4 (slots_in o))) (object_at-put_same k j (with_one a x))
    ∙ ap (λ b. option_and_then (λ s. slice_get s 1) (if b then Some (slice_set a.slots 1 x) else None)) (ap (nat_le 4) (length-slice_set a.slots x) ∙ a.wide)
    ∙ slice_get-same a.slots x a.wide

stored_again : {k : Kept} {j : ℕ} (a : Stands k j) (x : Ref) → store_of (changed a x None) (ref.Obj j) 1 (nil_of k) ≡ put (changed a x None) j (with_one a (nil_of k))
unfolding changed store_of with_one
stored_again {k} {j} a x =
    let t = changed a x None in
    ap (λ o. edit_found (with_slot 1 (nil_of k)) j o t) (object_at-put_same k j (with_one a x))
    ∙ ap (λ slots. put t j (Ptr a.head slots)) (slice_set-twice a.slots x (nil_of k))

-- what stands where behind both stores
twice : {k : Kept} {j : ℕ} (a : Stands k j) (x : Ref) (q : ℕ) → object_at (put (changed a x None) j (with_one a (nil_of k))) q ≡ object_at (put k j (with_one a (nil_of k))) q
unfolding changed
twice {k} {j} a x q =
    let t = changed a x None in
    let o = with_one a (nil_of k) in
    elim (eqb_tells q j) [
      | inl e ↦ ap (object_at (put t j o)) e.1 ∙ object_at-put_same t j o ∙ sym (object_at-put_same k j o) ∙ ap (object_at (put k j o)) (sym e.1)
      | inr e ↦ object_at-put_other t j q o e.1 ∙ object_at-put_other k j q (with_one a x) e.1 ∙ sym (object_at-put_other k j q o e.1)
    ]

-- ---- settled and opened again

itself : (k : Kept) → SameKept k k
itself k = record { objects = λ i. refl; rest = refl }

-- where a process is active
reopened : {k : Kept} {j : ℕ} → (a : Stands k j) → IsProcess k (ref.Obj j) → active_process k ≡ Some (ref.Obj j) → is_nil k (ref.Obj j) ≡ false → (i : ℕ) → k.rest.active ≡ Some i
    → SameKept (open_kept (settle_kept k)) (forgotten k)
unfolding settle_kept open_kept forgotten suspend_of resume_of changed with_one put
reopened {k} {j} a process e apart i active =
    let x = ref.Obj (active_birth k) in
    let t = changed a x None in
    let nil = nil_of k in
    let settled : settle_kept k ≡ t = ap (settle_if k) e ∙ ap (λ b. if b then k else suspend_of (store_of k (ref.Obj j) 1 x)) apart ∙ ap (λ q. suspend_of q) (stored-is a x) in
    let again : store_of t (ref.Obj j) 1 nil ≡ put t j (with_one a nil) = stored_again a x in
    let begun : open_kept t ≡ resume_of (put t j (with_one a nil)) (active_birth k) =
    ap (open_if t) (process_stays a x None process ∙ e)
    ∙ ap (λ b. if b then t else open_at t (ref.Obj j) (option_and_then (λ y. named_object y) (context_kept t (ref.Obj j)))) apart
    ∙ ap (λ o. open_at t (ref.Obj j) (option_and_then (λ y. named_object y) o)) (kept_there a x None)
    ∙ ap (λ q. resume_of q (active_birth k)) again in
    let forgot : forgotten k ≡ put k j (with_one a nil) = ap (forget k) e ∙ ap (λ b. if b then k else store_of k (ref.Obj j) 1 nil) apart ∙ stored-is a nil in
    let result : open_kept (settle_kept k) ≡ resume_of (put t j (with_one a nil)) (active_birth k) = ap open_kept settled ∙ begun in
    let known : Some (active_birth k) ≡ k.rest.active = ap (λ o. Some (unwrap_or o k.rest.nil)) active ∙ sym active in
    record {
      objects = λ q. ap (λ s. object_at s q) result ∙ twice a x q ∙ ap (λ s. object_at s q) (sym forgot);
      rest = ap (λ s. s.rest) result ∙ ap (λ o. activate o k.rest) known ∙ ap (λ s. s.rest) (sym forgot);
    }

-- where nothing is to be done
unchanged : (k : Kept) → settle_kept k ≡ k → open_kept k ≡ k → forgotten k ≡ k → SameKept (open_kept (settle_kept k)) (forgotten k)
unchanged k settled begun forgot =
    let same : open_kept (settle_kept k) ≡ forgotten k = ap open_kept settled ∙ begun ∙ sym forgot in
    record { objects = λ i. ap (λ s. object_at s i) same; rest = ap (λ s. s.rest) same }

no_process : (k : Kept) → active_process k ≡ None → SameKept (open_kept (settle_kept k)) (forgotten k)
unfolding settle_kept open_kept forgotten
no_process k e = unchanged k (ap (settle_if k) e) (ap (open_if k) e) (ap (forget k) e)

no_context : (k : Kept) (p : Ref) → active_process k ≡ Some p → is_nil k p ≡ true → SameKept (open_kept (settle_kept k)) (forgotten k)
unfolding settle_kept open_kept forgotten
no_context k p e nil =
    unchanged k
    (ap (settle_if k) e ∙ ap (λ b. if b then k else suspend_of (store_of k p 1 (ref.Obj (active_birth k)))) nil)
    (ap (open_if k) e ∙ ap (λ b. if b then k else open_at k p (option_and_then (λ x. named_object x) (context_kept k p))) nil)
    (ap (forget k) e ∙ ap (λ b. if b then k else store_of k p 1 (nil_of k)) nil)

with_context : (k : Kept) (p : Ref) (o : Option ℕ) → k.rest.active ≡ o → ((is_nil k p ≡ true) ↔ (k.rest.active ≡ None)) → IsProcess k p → active_process k ≡ Some p → is_nil k p ≡ false
    → SameKept (open_kept (settle_kept k)) (forgotten k)
with_context k p None act idle process e apart = absurd (true_false (sym (idle.1 act) ∙ apart)) where
  true_false : true ≡ false → ⊥
  true_false f = cc
with_context k p (Some i) act idle process e apart =
    let found = stands k p process.slots in
    reopened found.2 (subst (IsProcess k) found.1 process) (e ∙ ap (λ q. Some q) found.1) (ap (is_nil k) (sym found.1) ∙ apart) i act

-- what is settled and opened is as it was, but for the place where the active process keeps its context
pub reopened_same : (s : State) → IsValid s → SameKept (open_kept (settle_kept s.kept)) (forgotten s.kept)
reopened_same s valid =
    elim (active_process s.kept) as (λ o. active_process s.kept ≡ o → SameKept (open_kept (settle_kept s.kept)) (forgotten s.kept)) [
      | None ↦ no_process s.kept
      | Some p ↦ λ e. by_nil p e (is_nil s.kept p) refl
    ] refl where
      by_nil : (p : Ref) → active_process s.kept ≡ Some p → (b : Bool) → is_nil s.kept p ≡ b → SameKept (open_kept (settle_kept s.kept)) (forgotten s.kept)
      by_nil p e true n = no_context s.kept p e n
      by_nil p e false n = with_context s.kept p s.kept.rest.active refl (valid.idle p e) (valid.process p e n) e n

pub opened-settled : (s : State) (events : List Event) (snapping : Bool) → IsValid s → SameKept (opened (settled s) events snapping).kept (forgotten s.kept)
unfolding opened
opened-settled s events snapping valid = reopened_same s valid

pub run-opened : (k : Kept) (events : List Event) (snapping : Bool) → (opened k events snapping).run ≡ new_run events snapping
unfolding opened
run-opened k events snapping = refl
