-- What the active process is behind a store that leaves it, and behind one that makes it nil.
use Rattle.std.proofs.Common.{◌≡◌, ◌≢◌, ℕ, zero, suc, Bool, true, false, refl, sym, ap, subst, ◌∙◌, Option, Some, None, IsSome, List, [], ◌∷◌, length, arith, option_and_then, nat_le, if◌then◌else◌, inl, inr, ◌⊎◌}
use Rattle.std.specs.Prelude.{slice_get, slice_set}
use Rattle.std.proofs.lemmas.Bool.Decides.{eqb_tells, nat_tests}
use Rattle.cs_model.specs.Ref.{Ref, Small, Char, named_object}
use Rattle.cs_model.specs.Ref as ref
use Rattle.cs_model.specs.Obj.{Obj, Ptr, Raw, Method, Ctx, slots_in, at_least}
use Rattle.cs_model.specs.State.{Kept, object_at, object_of, put, slots_of, special_at, scheduler_of, active_process}
use Rattle.cs_model.specs.Operation.{edit_found, with_slot, store_of, suspend_of, nil_of}
use Rattle.cs_model.proofs.Objects.{object_at-put_same, object_at-put_other}

-- ---- how the active process is read

-- slot 3 of an object, and slot 1 of one with two slots
abbrev third : Option Obj → Option Ref
third o = option_and_then (λ s. slice_get s 3) (slots_in o)

abbrev second : Option Obj → Option Ref
second o = option_and_then (λ s. slice_get s 1) (at_least 2 (slots_in o))

abbrev second_of : Kept → Ref → Option Ref
second_of k x = second (object_of k x)

-- the objects of both read alike
record ReadsAlike (k t : Kept) : Type 0 where
  special : t.rest.special ≡ k.rest.special
  third : (i : ℕ) → third (object_at t i) ≡ third (object_at k i)
  second : (i : ℕ) → second (object_at t i) ≡ second (object_at k i)

second_alike : {k t : Kept} → ReadsAlike k t → (x : Ref) → second_of t x ≡ second_of k x
second_alike a (Small n) = refl
second_alike a (Char c) = refl
second_alike a (ref.Obj i) = a.second i

behind_alike : {k t : Kept} → ReadsAlike k t → (o : Option Ref) → option_and_then (λ x. second_of t x) o ≡ option_and_then (λ x. second_of k x) o
behind_alike a None = refl
behind_alike a (Some x) = second_alike a x

special_alike : {k t : Kept} → ReadsAlike k t → special_at t 3 ≡ special_at k 3
unfolding special_at
special_alike {k} {t} a = ap (λ i. third (object_at t i)) a.special ∙ a.third k.rest.special

process_alike : {k t : Kept} → ReadsAlike k t → active_process t ≡ active_process k
unfolding active_process scheduler_of slots_of
process_alike {k} {t} a =
    ap (λ o. option_and_then (λ x. second_of t x) (option_and_then (λ x. second_of t x) o)) (special_alike a)
    ∙ ap (λ o. option_and_then (λ x. second_of t x) o) (behind_alike a (special_at k 3))
    ∙ behind_alike a (option_and_then (λ x. second_of k x) (special_at k 3))

scheduler_alike : {k t : Kept} → ReadsAlike k t → scheduler_of t ≡ scheduler_of k
unfolding scheduler_of slots_of
scheduler_alike {k} {t} a = ap (λ o. option_and_then (λ x. second_of t x) o) (special_alike a) ∙ behind_alike a (special_at k 3)

-- which context is active doesn't matter
pub special_suspended : (k : Kept) → special_at (suspend_of k) 3 ≡ special_at k 3
unfolding suspend_of
special_suspended k = special_alike (record { special = refl; third = λ i. refl; second = λ i. refl })

pub scheduler_suspended : (k : Kept) → scheduler_of (suspend_of k) ≡ scheduler_of k
unfolding suspend_of
scheduler_suspended k = scheduler_alike (record { special = refl; third = λ i. refl; second = λ i. refl })

pub slots_suspended : (k : Kept) (n : ℕ) (x : Ref) → slots_of (suspend_of k) n x ≡ slots_of k n x
unfolding suspend_of slots_of
slots_suspended k n (Small a) = refl
slots_suspended k n (Char c) = refl
slots_suspended k n (ref.Obj i) = refl

pub process_suspended : (k : Kept) → active_process (suspend_of k) ≡ active_process k
unfolding suspend_of
process_suspended k = process_alike (record { special = refl; third = λ i. refl; second = λ i. refl })

-- ---- a store

-- what is read of each object alike before and behind an edit is read alike of the states
edit_alike : (k : Kept) (f : Obj → Obj) → ((o : Obj) → third (Some (f o)) ≡ third (Some o)) → ((o : Obj) → second (Some (f o)) ≡ second (Some o)) → (i : ℕ) (o : Option Obj) → object_at k i ≡ o → ReadsAlike k (edit_found f i o k)
unfolding put
edit_alike k f a b i None e = record { special = refl; third = λ j. refl; second = λ j. refl }
edit_alike k f a b i (Some o) e = record { special = refl; third = read third (a o); second = read second (b o) } where
  read : (g : Option Obj → Option Ref) → g (Some (f o)) ≡ g (Some o) → (j : ℕ) → g (object_at (put k i (f o)) j) ≡ g (object_at k j)
  read g h j = elim (eqb_tells j i) [
    | inl q ↦ ap (λ n. g (object_at (put k i (f o)) n)) q.1 ∙ ap g (object_at-put_same k i (f o)) ∙ h ∙ ap g (sym e) ∙ ap (λ n. g (object_at k n)) (sym q.1)
    | inr q ↦ ap g (object_at-put_other k i j (f o) q.1)
  ]

past_three : {A : Type 0} (xs : List A) (v : A) → slice_get (slice_set xs 2 v) 3 ≡ slice_get xs 3
past_three [] v = refl
past_three (a ∷ []) v = refl
past_three (a ∷ b ∷ []) v = refl
past_three (a ∷ b ∷ c ∷ xs) v = refl

past_one : {A : Type 0} (xs : List A) (v : A) → slice_get (slice_set xs 2 v) 1 ≡ slice_get xs 1
past_one [] v = refl
past_one (a ∷ []) v = refl
past_one (a ∷ b ∷ []) v = refl
past_one (a ∷ b ∷ c ∷ xs) v = refl

as_long : {A : Type 0} (xs : List A) (i : ℕ) (v : A) → length (slice_set xs i v) ≡ length xs
as_long [] i v = refl
as_long (a ∷ xs) zero v = refl
as_long (a ∷ xs) (suc i) v = ap suc (as_long xs i v)

store_third : (v : Ref) (o : Obj) → third (Some (with_slot 2 v o)) ≡ third (Some o)
store_third v (Ptr head slots) = past_three slots v
store_third v (Raw head bytes) = refl
store_third v (Method head header literals bytecodes) = refl
store_third v (Ctx c) = refl

store_second : (v : Ref) (o : Obj) → second (Some (with_slot 2 v o)) ≡ second (Some o)
store_second v (Ptr head slots) = chosen (nat_le 2 (length (slice_set slots 2 v))) (nat_le 2 (length slots)) (ap (nat_le 2) (as_long slots 2 v)) where
  chosen : (b c : Bool) → b ≡ c → option_and_then (λ s. slice_get s 1) (if b then Some (slice_set slots 2 v) else None) ≡ option_and_then (λ s. slice_get s 1) (if c then Some slots else None)
  chosen true true e = past_one slots v
  chosen true false e = absurd (cc)
  chosen false true e = absurd (cc)
  chosen false false e = refl
store_second v (Raw head bytes) = refl
store_second v (Method head header literals bytecodes) = refl
store_second v (Ctx c) = refl

-- a store into slot 2 leaves the active process
pub process_stays : (k : Kept) (x v : Ref) → active_process (store_of k x 2 v) ≡ active_process k
unfolding store_of
process_stays k (Small a) v = refl
process_stays k (Char c) v = refl
process_stays k (ref.Obj i) v = process_alike (edit_alike k (with_slot 2 v) (store_third v) (store_second v) i (object_at k i) refl)

-- ---- nil as the active process

-- behind a store of nil into slot 1 of s that slot is nil, and slot 1 of what another reference names is as it was
record NilStored (k t : Kept) (s : Ref) : Type 0 where
  special : special_at t 3 ≡ special_at k 3
  same : second_of t s ≡ Some (nil_of k)
  other : (x : Ref) → x ≢ s → second_of t x ≡ second_of k x

one_third : (v : Ref) (o : Obj) → third (Some (with_slot 1 v o)) ≡ third (Some o)
one_third v (Ptr head slots) = past slots where
  past : (xs : List Ref) → slice_get (slice_set xs 1 v) 3 ≡ slice_get xs 3
  past [] = refl
  past (a ∷ []) = refl
  past (a ∷ b ∷ xs) = refl
one_third v (Raw head bytes) = refl
one_third v (Method head header literals bytecodes) = refl
one_third v (Ctx c) = refl

one_second : (v : Ref) (o : Obj) → IsSome (at_least 2 (slots_in (Some o))) → second (Some (with_slot 1 v o)) ≡ Some v
one_second v (Ptr head slots) h = long slots h where
  long : (xs : List Ref) → IsSome (at_least 2 (Some xs)) → second (Some (Ptr head (slice_set xs 1 v))) ≡ Some v
  long [] g = absurd (cc)
  long (a ∷ []) g = absurd (cc)
  long (a ∷ b ∷ xs) g = let e : nat_le 2 (length (a ∷ v ∷ xs)) ≡ true = grind (arith, nat_tests) in ap (λ c. option_and_then (λ s. slice_get s 1) (if c then Some (a ∷ v ∷ xs) else None)) e
one_second v (Raw head bytes) h = absurd (cc)
one_second v (Method head header literals bytecodes) h = absurd (cc)
one_second v (Ctx c) h = absurd (cc)

suspended_second : (k : Kept) (x : Ref) → second_of (suspend_of k) x ≡ second_of k x
unfolding suspend_of
suspended_second k (Small a) = refl
suspended_second k (Char c) = refl
suspended_second k (ref.Obj i) = refl

put_other : (k : Kept) (i : ℕ) (o : Obj) (x : Ref) → x ≢ ref.Obj i → second_of (put k i o) x ≡ second_of k x
put_other k i o (Small a) apart = refl
put_other k i o (Char c) apart = refl
put_other k i o (ref.Obj j) apart = ap second (object_at-put_other k i j o (λ e. apart (ap (λ n. ref.Obj n) e)))

special_put : (k : Kept) (i : ℕ) (v : Ref) (o : Obj) → object_at k i ≡ Some o → special_at (suspend_of (put k i (with_slot 1 v o))) 3 ≡ special_at k 3
unfolding special_at suspend_of put
special_put k i v o e = elim (eqb_tells k.rest.special i) [
  | inl q ↦ ap (λ n. third (object_at (put k i (with_slot 1 v o)) n)) q.1 ∙ ap third (object_at-put_same k i (with_slot 1 v o)) ∙ one_third v o ∙ ap third (sym e) ∙ ap (λ n. third (object_at k n)) (sym q.1)
  | inr q ↦ ap third (object_at-put_other k i k.rest.special (with_slot 1 v o) q.1)
]

nil_stored : (k : Kept) (s : Ref) → IsSome (slots_of k 2 s) → NilStored k (suspend_of (store_of k s 1 (nil_of k))) s
unfolding slots_of store_of
nil_stored k (Small a) h = absurd (cc)
nil_stored k (Char c) h = absurd (cc)
nil_stored k (ref.Obj i) h = found (object_at k i) refl h where
  found : (o : Option Obj) → object_at k i ≡ o → IsSome (at_least 2 (slots_in o)) → NilStored k (suspend_of (edit_found (with_slot 1 (nil_of k)) i o k)) (ref.Obj i)
  found None e g = absurd (cc)
  found (Some o) e g =
      let p = with_slot 1 (nil_of k) o in
      record {
        special = special_put k i (nil_of k) o e;
        same = suspended_second (put k i p) (ref.Obj i) ∙ ap second (object_at-put_same k i p) ∙ one_second (nil_of k) o g;
        other = λ x apart. suspended_second (put k i p) x ∙ put_other k i p x apart;
      }

-- a reference is that of a birth, or another
is_birth : (i : ℕ) (x : Ref) → (x ≡ ref.Obj i) ⊎ (x ≢ ref.Obj i)
is_birth i (Small a) = inr (λ e. absurd (cc))
is_birth i (Char c) = inr (λ e. absurd (cc))
is_birth i (ref.Obj j) = elim (eqb_tells j i) [ inl e ↦ inl (ap (λ n. ref.Obj n) e.1) | inr e ↦ inr (λ q. e.1 (same_birth q)) ] where
  same_birth : ref.Obj j ≡ ref.Obj i → j ≡ i
  same_birth q = cc

is_place : (k : Kept) (s : Ref) → IsSome (slots_of k 2 s) → (x : Ref) → (x ≡ s) ⊎ (x ≢ s)
unfolding slots_of
is_place k (Small a) h x = absurd (cc)
is_place k (Char c) h x = absurd (cc)
is_place k (ref.Obj i) h x = is_birth i x

no_slots : (k : Kept) (x : Ref) → slots_of k 2 x ≡ None → second_of k x ≡ None
unfolding slots_of
no_slots k x e = ap (λ o. option_and_then (λ s. slice_get s 1) o) e

-- with nil in slot 1 of the scheduler no process is active: the scheduler is read by special 3, and where that is the scheduler
-- itself it is nil now, which has no slots
nil_behind : (k t : Kept) (s : Ref) → IsSome (slots_of k 2 s) → slots_of k 2 (nil_of k) ≡ None → NilStored k t s → (l : Ref) → second_of k l ≡ Some s → (p : Ref)
    → option_and_then (λ x. second_of t x) (second_of t l) ≡ Some p → p ≡ nil_of k
nil_behind k t s wide bare n l e p h = elim (is_place k s wide l) [
  | inl q ↦ absurd (none_some (is_place k s wide (nil_of k)) (sym (ap (λ o. option_and_then (λ x. second_of t x) o) (ap (second_of t) q ∙ n.same)) ∙ h))
  | inr q ↦ some_is (sym (ap (λ o. option_and_then (λ x. second_of t x) o) (n.other l q ∙ e)) ∙ h)
] where
  some_is : second_of t s ≡ Some p → p ≡ nil_of k
  some_is f = let g = n.same in cc

  none_some : (nil_of k ≡ s) ⊎ (nil_of k ≢ s) → second_of t (nil_of k) ≡ Some p → ⊥
  none_some (inl q) f = let w : IsSome (slots_of k 2 (nil_of k)) = subst (λ x. IsSome (slots_of k 2 x)) (sym q) wide in absurd (cc)
  none_some (inr q) f = let g = sym (n.other (nil_of k) q ∙ no_slots k (nil_of k) bare) ∙ f in absurd (cc)

pub none_is_nil : (k : Kept) (s : Ref) → scheduler_of k ≡ Some s → IsSome (slots_of k 2 s) → slots_of k 2 (nil_of k) ≡ None → (p : Ref) → active_process (suspend_of (store_of k s 1 (nil_of k))) ≡ Some p → p ≡ nil_of k
unfolding active_process scheduler_of slots_of
none_is_nil k s e wide bare p h = linked (special_at k 3) refl e (nil_stored k s wide) where
  t : Kept
  t = suspend_of (store_of k s 1 (nil_of k))

  linked : (o : Option Ref) → special_at k 3 ≡ o → option_and_then (λ x. second_of k x) o ≡ Some s → NilStored k t s → p ≡ nil_of k
  linked None f g n = absurd (cc)
  linked (Some l) f g n = nil_behind k t s wide bare n l g p (sym (ap (λ o. option_and_then (λ x. second_of t x) (option_and_then (λ x. second_of t x) o)) (n.special ∙ f)) ∙ h)
